-- The programs of a script that are accepted.
use Rattle.std.proofs.Common.{◌≡◌, ◌||◌, ℕ, zero, suc, true, false, Bool, List, [], ◌∷◌, ◌++◌, map, refl, sym, ap, ◌∙◌, subst, arith}
use Rattle.std.proofs.lemmas.List.{map-append}
use Rattle.std.proofs.lemmas.List.Elements.{All-append}
use Rattle.ebpf_state.specs.declared.kinds.KindRow.{KindRow}
use Rattle.ebpf_state.specs.Kinds.{AreKinds}
use Rattle.ebpf_verify.specs.declared.decl.Decl.{Decl}
use Rattle.ebpf_verify.specs.Subject.{Subject}
use Rattle.ebpf_machine.specs.World.{kinds_of}
use Rattle.ebpf_machine.specs.Kinds.{known_kinds}
use Rattle.ebpf_machine.specs.Kinds.{AreKnown}
use Rattle.ebpf_command.specs.declared.format.Format.{Format}
use Rattle.ebpf_command.specs.declared.judge.Judged.{Judged}
use Rattle.ebpf_command.specs.declared.judge.Judged.TheVariants.{Accepted, Refused}
use Rattle.ebpf_command.specs.Judging.{IsJudged}
use Rattle.ebpf_command.proofs.JudgedRows.{accepted_decl, accepted_rows}
use Rattle.ebpf_machine.proofs.Instructions.KindLemmas.{kinds_known}
use Rattle.ebpf_reader.specs.ParsedScript.{Named}
use Rattle.ebpf_report.specs.declared.verdicts.Verdicts.{Verdicts}
use Rattle.ebpf_report.specs.Verdicts.{Verdict, accepted_of, is_any_refused, accepted_in, is_refused}
use Rattle.ebpf_report.specs.VerdictsKept.{AreKept}

-- ---- the programs that are accepted were verified with the known kinds

known_in : (bytes : List ℕ) (decl : Decl) (rows : List KindRow) (judged : Judged) → AreKinds rows → IsJudged bytes decl rows judged
    → AreKnown (accepted_in judged)
known_in bytes decl rows (Refused code slot) kinds is k d lt = absurd (omega arith)
known_in bytes decl rows (Accepted t) kinds is zero d lt = ap kinds_of (accepted_rows bytes decl rows (Accepted t) t is refl) ∙ kinds_known rows kinds
known_in bytes decl rows (Accepted t) kinds is (suc k) d lt = absurd (omega (arith, lt))

known_of : (verdicts : List Verdict) → AreKnown (accepted_of verdicts)
known_of [] = λ k d lt. absurd (omega arith)
known_of (v ∷ verdicts) = All-append (λ (s : Subject). kinds_of s.rows ≡ known_kinds) (accepted_in v.judged) (accepted_of verdicts) (known_in v.program.bytes v.decl v.rows v.judged v.kinds v.is) (known_of verdicts)

pub known_kept : (format : Format) (programs : List Named) (kept : Verdicts) → AreKept format programs kept → AreKnown kept.accepted.items
known_kept format programs kept h = subst AreKnown (sym h.accepted) (known_of h.verdicts)

-- ---- where none is refused, the programs that are accepted are all, in their order

contexts_in : (bytes : List ℕ) (decl : Decl) (rows : List KindRow) (context : ℕ) (judged : Judged) → decl.context ≡ context
    → IsJudged bytes decl rows judged → is_refused judged ≡ false
    → map (λ s. s.decl.context) (accepted_in judged) ≡ context ∷ []
contexts_in bytes decl rows context (Refused code slot) same is none = absurd cc
contexts_in bytes decl rows context (Accepted t) same is none =
    ap (λ (n : ℕ). n ∷ []) (ap (λ (d : Decl). d.context) (accepted_decl bytes decl rows (Accepted t) t is refl) ∙ same)

contexts_of : (verdicts : List Verdict) → is_any_refused verdicts ≡ false
    → map (λ s. s.decl.context) (accepted_of verdicts) ≡ map (λ p. p.context) (map (λ v. v.program) verdicts)
contexts_of [] none = refl
contexts_of (v ∷ verdicts) none =
    map-append (λ (s : Subject). s.decl.context) (accepted_in v.judged) (accepted_of verdicts)
    ∙ (ap (λ (ns : List ℕ). ns ++ map (λ (s : Subject). s.decl.context) (accepted_of verdicts)) (contexts_in v.program.bytes v.decl v.rows v.program.context v.judged v.context v.is (left _ _ none))
    ∙ ap (λ (ns : List ℕ). v.program.context ∷ ns) (contexts_of verdicts (right _ _ none)))
  where
    left : (a b : Bool) → (a || b) ≡ false → a ≡ false
    left true b h = h
    left false b h = refl

    right : (a b : Bool) → (a || b) ≡ false → b ≡ false
    right true b h = absurd cc
    right false b h = h

-- they declare what the script says
pub contexts_kept : (format : Format) (programs : List Named) (kept : Verdicts) → AreKept format programs kept → kept.refused ≡ false
    → map (λ s. s.decl.context) kept.accepted.items ≡ map (λ p. p.context) programs
contexts_kept format programs kept h none =
    ap (λ (ss : List Subject). map (λ (s : Subject). s.decl.context) ss) h.accepted ∙ (contexts_of h.verdicts (sym h.refused ∙ none) ∙ ap (λ (ps : List Named). map (λ (p : Named). p.context) ps) h.on)
