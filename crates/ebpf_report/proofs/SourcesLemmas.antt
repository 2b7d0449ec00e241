-- The lines of C of the programs of a script, one program after another.
use Rattle.std.proofs.Common.{◌≡◌, ℕ, List, [], ◌∷◌, ◌++◌, get_or, Option, Some, Result, Ok, Err, OnOk, sym, ap, ◌∙◌, subst, append_assoc}
use Rattle.std.proofs.lemmas.List.{append-nil}
use Rattle.ebpf_lines.specs.declared.source.ObjectFile.{ObjectFile}
use Rattle.ebpf_lines.specs.declared.source.Source.{Source}
use Rattle.ebpf_lines.specs.Sources.{IsSourceIn}
use Rattle.ebpf_insn.specs.declared.insn.Insn.{Insn}
use Rattle.ebpf_lines.specs.SourceText.{source_lines}
use Rattle.ebpf_lines.specs.Traced.{trace_by}
use Rattle.ebpf_lines.specs.Tracefile.{trace_sections}
use Rattle.ebpf_command.specs.declared.format.Format.{Format}
use Rattle.ebpf_reader.specs.ParsedScript.{Named}
use Rattle.ebpf_report.specs.CoveredLines.{AreSources, program_lines, trace_if}

-- these are the lines of the programs before those that are left
abbrev pub AreSourcesBefore : Option ObjectFile → List Named → List Named → List (Option Source) → Type 0
AreSourcesBefore object programs left sources = (rest : List (Option Source)) → AreSources object left rest → AreSources object programs (sources ++ rest)

pub none_before : (object : Option ObjectFile) (programs : List Named) (sources : List (Option Source)) → sources ≡ [] → AreSourcesBefore object programs programs sources
none_before object programs sources none rest h = subst (λ (xs : List (Option Source)). AreSources object programs (xs ++ rest)) (sym none) h

pub one_before : (object : Option ObjectFile) (programs left : List Named) (p : Named) (s : Option Source) (sources new : List (Option Source))
    → AreSourcesBefore object programs (p ∷ left) sources → IsSourceIn object p.bytes s → new ≡ sources ++ s ∷ [] → AreSourcesBefore object programs left new
unfolding AreSources
one_before object programs left p s sources new before here is rest h =
    subst (λ (xs : List (Option Source)). AreSources object programs (xs ++ rest)) (sym is)
    (subst (AreSources object programs) (sym (append_assoc sources (s ∷ []) rest)) (before (s ∷ rest) (here, h)))

pub all_before : (object : Option ObjectFile) (programs left : List Named) (sources : List (Option Source)) → left ≡ [] → AreSourcesBefore object programs left sources
    → AreSources object programs sources
unfolding AreSources
all_before object programs left sources none before =
    subst (AreSources object programs) (append-nil sources) (before [] (subst (λ (ps : List Named). AreSources object ps []) (sym none) tt))

-- the text of a program that has lines
pub lines_told : {A E : Type 0} (result : Result A E) (format : Format) (name text new : List ℕ) (s : Source) (source : Option Source) (executed counted : List ℕ) (taken : ℕ → ℕ) (p : List (Option Insn))
    → source ≡ Some s → executed ≡ counted → OnOk result (new ≡ text ++ source_lines format name s.lines s.holding.items (λ k. get_or executed k 0))
    → OnOk result (new ≡ text ++ program_lines format name source (λ k. get_or counted k 0) taken p)
lines_told (Ok _) format name text new s source executed counted taken p is same h =
    h ∙ ap (λ (xs : List ℕ). text ++ source_lines format name s.lines s.holding.items (λ k. get_or xs k 0)) same
    ∙ ap (λ (x : Option Source). text ++ program_lines format name x (λ k. get_or counted k 0) taken p) (sym is)
lines_told (Err _) format name text new s source executed counted taken p is same h = tt

-- and its tracefile
pub trace_told : {A E : Type 0} (result : Result A E) (text new : List ℕ) (s : Source) (source : Option Source) (executed counted taken left : List ℕ) (p : List (Option Insn))
    → source ≡ Some s → executed ≡ counted → taken ≡ left
    → OnOk result (new ≡ text ++ trace_sections (trace_by s (λ k. get_or executed k 0) (λ k. get_or taken k 0) p))
    → OnOk result (new ≡ text ++ trace_if source (λ k. get_or counted k 0) (λ k. get_or left k 0) p)
trace_told (Ok _) text new s source executed counted taken left p is same same' h =
    h ∙ (λ n. text ++ trace_sections (trace_by s (λ k. get_or (same n) k 0) (λ k. get_or (same' n) k 0) p))
    ∙ ap (λ (x : Option Source). text ++ trace_if x (λ k. get_or counted k 0) (λ k. get_or left k 0) p) (sym is)
trace_told (Err _) text new s source executed counted taken left p is same same' h = tt
