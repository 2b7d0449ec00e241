-- The explained verdicts on the programs of a script, one after another.
use Rattle.std.proofs.Common.{◌≡◌, ◌||◌, ℕ, true, false, Bool, List, [], ◌∷◌, ◌++◌, map, string_bytes, refl, sym, ap, ◌∙◌, append_assoc, arith}
use Rattle.std.proofs.lemmas.List.{map-append}
use Rattle.std.proofs.lemmas.Grind.{flat_map-append, common_steps}
use Rattle.std.proofs.lemmas.List.Folds.{list_any-append}
use Rattle.ebpf_state.specs.declared.kinds.KindRow.{KindRow}
use Rattle.ebpf_verify.specs.declared.decl.Decl.{Decl}
use Rattle.ebpf_verify.specs.declared.examined.Examined.{Examined}
use Rattle.ebpf_verify.specs.declared.examined.Examined.TheVariants.{Undecoded, Misled}
use Rattle.ebpf_verify.specs.declared.examined.Examined.TheVariants as examined
use Rattle.ebpf_verify.specs.Examined.{IsExamined}
use Rattle.ebpf_verify.specs.Subject.{Subject}
use Rattle.ebpf_command.specs.declared.format.Format.{Format}
use Rattle.ebpf_command.specs.declared.judge.Judged.{Judged}
use Rattle.ebpf_command.specs.Judging.{judged_as}
use Rattle.ebpf_explain.specs.Why.{why_of}
use Rattle.ebpf_reader.specs.ParsedScript.{Named}
use Rattle.ebpf_report.specs.declared.verdicts.Verdicts.{Verdicts}
use Rattle.ebpf_report.specs.Explained.{Explained, IsTold, explained_lines, verdicts_of}
use Rattle.ebpf_report.specs.ExplainedKept.{AreExplained}
use Rattle.ebpf_report.specs.Verdicts.{Verdict, verdict_lines, accepted_of, accepted_in, is_any_refused, verdict_in, is_refused}
use Rattle.ebpf_report.specs.VerdictsKept.{AreKept}

-- the verdicts on all programs but those that are left
pub record AreExplainedBefore (format : Format) (asked : Bool) (programs left : List Named) (kept : Verdicts) : Type 0 where
  pub explained : List (Explained asked)
  pub on : map (λ v. v.program) (verdicts_of explained) ++ left ≡ programs
  pub text : string_bytes kept.text ≡ explained_lines format explained
  pub accepted : kept.accepted.items ≡ accepted_of (verdicts_of explained)
  pub refused : kept.refused ≡ is_any_refused (verdicts_of explained)

append_nil_of : {A : Type 0} (xs : List A) → xs ++ [] ≡ xs
append_nil_of xs = grind (arith, common_steps)

-- ---- what is said of one program

pub not_asked : (asked : Bool) (judged : Judged) (bytes : List ℕ) (decl : Decl) (rows : List KindRow) (why : List ℕ) → asked ≡ false → why ≡ []
    → IsTold asked judged bytes decl rows why
not_asked false judged bytes decl rows why is none = none
not_asked true judged bytes decl rows why is none = absurd cc

pub why_told : (bytes : List ℕ) (decl : Decl) (rows : List KindRow) (e : Examined) (why : List ℕ) → IsExamined bytes decl rows e
    → why ≡ why_of bytes decl rows e → IsTold true (judged_as e) bytes decl rows why
why_told bytes decl rows (Undecoded slot code) why is same = record { examined = Undecoded slot code; is_examined = is; is = same }
why_told bytes decl rows (Misled p slot code) why is same = record { examined = Misled p slot code; is_examined = is; is = same }
why_told bytes decl rows (examined.Refused p slot code) why is same = record { examined = examined.Refused p slot code; is_examined = is; is = same }
why_told bytes decl rows (examined.Accepted s) why is same = same

-- ---- a verdict more

pub explained_next : {asked : Bool} (format : Format) (programs left : List Named) (old new : Verdicts) (e : Explained asked)
    → AreExplainedBefore format asked programs (e.verdict.program ∷ left) old
    → string_bytes new.text ≡ string_bytes old.text ++ verdict_in format e.verdict.program.name e.verdict.judged e.why
    → new.accepted.items ≡ old.accepted.items ++ accepted_in e.verdict.judged → new.refused ≡ (old.refused || is_refused e.verdict.judged)
    → AreExplainedBefore format asked programs left new
explained_next {asked} format programs left old new e h text accepted refused =
    let more : verdicts_of (h.explained ++ e ∷ []) ≡ verdicts_of h.explained ++ e.verdict ∷ [] =
    map-append (λ (x : Explained asked). x.verdict) h.explained (e ∷ []) in
    record {
      explained = h.explained ++ e ∷ [];
      on = ap (λ (vs : List Verdict). map (λ (v : Verdict). v.program) vs ++ left) more
          ∙ (ap (λ (ps : List Named). ps ++ left) (map-append (λ (v : Verdict). v.program) (verdicts_of h.explained) (e.verdict ∷ []))
          ∙ (append_assoc (map (λ (v : Verdict). v.program) (verdicts_of h.explained)) (e.verdict.program ∷ []) left ∙ h.on));
      text = text ∙ (ap (λ xs. xs ++ verdict_in format e.verdict.program.name e.verdict.judged e.why) h.text
          ∙ (ap (λ xs. explained_lines format h.explained ++ xs) (sym (append_nil_of _))
          ∙ sym (flat_map-append (λ (x : Explained asked). verdict_in format x.verdict.program.name x.verdict.judged x.why) h.explained (e ∷ []))));
      accepted = accepted ∙ (ap (λ (xs : List Subject). xs ++ accepted_in e.verdict.judged) h.accepted
          ∙ (ap (λ (xs : List Subject). accepted_of (verdicts_of h.explained) ++ xs) (sym (append_nil_of _))
          ∙ (sym (flat_map-append (λ (x : Verdict). accepted_in x.judged) (verdicts_of h.explained) (e.verdict ∷ [])) ∙ sym (ap accepted_of more))));
      refused = refused ∙ (ap (λ (b : Bool). b || is_refused e.verdict.judged) h.refused
          ∙ (ap (λ (b : Bool). is_any_refused (verdicts_of h.explained) || b) (sym (or_false (is_refused e.verdict.judged)))
          ∙ (sym (list_any-append (λ (x : Verdict). is_refused x.judged) (verdicts_of h.explained) (e.verdict ∷ [])) ∙ sym (ap is_any_refused more))));
    }
  where
    or_false : (b : Bool) → (b || false) ≡ b
    or_false true = refl
    or_false false = refl

-- ---- where it is not asked why, the lines are those of the verdicts

bare_lines : (format : Format) (explained : List (Explained false)) → explained_lines format explained ≡ verdict_lines format (verdicts_of explained)
bare_lines format [] = refl
bare_lines format (e ∷ explained) =
    ap (λ (why : List ℕ). verdict_in format e.verdict.program.name e.verdict.judged why ++ explained_lines format explained) e.is
    ∙ ap (λ (lines : List ℕ). verdict_in format e.verdict.program.name e.verdict.judged [] ++ lines) (bare_lines format explained)

pub kept_bare : (format : Format) (programs : List Named) (kept : Verdicts) → AreExplained format false programs kept → AreKept format programs kept
kept_bare format programs kept h = record {
  verdicts = verdicts_of h.explained;
  on = h.on;
  text = h.text ∙ bare_lines format h.explained;
  accepted = h.accepted;
  refused = h.refused;
}
