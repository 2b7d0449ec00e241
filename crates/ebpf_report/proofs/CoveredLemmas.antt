-- What jobs executed, program by program and slot by slot.
use Rattle.std.proofs.Common.{◌≡◌, ℕ, zero, suc, ◌+◌, ◌<◌, ◌≤◌, List, [], ◌∷◌, ◌++◌, length, drop, get_or, refl, sym, ap, ◌∙◌, append_assoc, arith, Option, None, slice_index_or}
use Rattle.std.proofs.lemmas.List.{at_drop_more, append-nil}
use Rattle.ebpf_insn.specs.declared.insn.Insn.{Insn}
use Rattle.ebpf_insn.specs.Program.{insn_at}
use Rattle.ebpf_verify.specs.Subject.{Subject}
use Rattle.ebpf_machine.specs.declared.report.Report.{Report}
use Rattle.job_list.specs.declared.jobs.Job.{Job}
use Rattle.ebpf_cover.specs.declared.counts.Counts.{Counts}
use Rattle.ebpf_cover.specs.Covered.{AreCounts, executed_at, taken_at, executed_in, taken_in}
use Rattle.ebpf_command.specs.declared.format.Format.{Format}
use Rattle.ebpf_reader.specs.ParsedScript.{Named}
use Rattle.ebpf_lines.specs.declared.source.Source.{Source}
use Rattle.ebpf_report.specs.CoveredLines.{covered_in, program_lines, slots_from, programs_from}

-- ---- slots

slots_alike : (format : Format) (name : List ℕ) (executed executed' taken taken' : ℕ → ℕ) (slot : ℕ) (slots : List (Option Insn)) → ((k : ℕ) → executed k ≡ executed' k) → ((k : ℕ) → taken k ≡ taken' k)
    → slots_from format name executed taken slot slots ≡ slots_from format name executed' taken' slot slots
unfolding slots_from
slots_alike format name executed executed' taken taken' slot [] same same' = refl
slots_alike format name executed executed' taken taken' slot (i ∷ slots) same same' = λ n. covered_in format name slot (same slot n) (same' slot n) i ++ slots_alike format name executed executed' taken taken' (slot + 1) slots same same' n

-- the counts of a program are those of its jobs
pub slots_counted : (format : Format) (name : List ℕ) (s : Subject) (program : ℕ) (jobs : List Job) (reports : List Report) (c : Counts) → AreCounts s program jobs reports c
    → slots_from format name (executed_at c) (taken_at c) 0 s.program ≡ slots_from format name (executed_in s program jobs reports) (taken_in s program jobs reports) 0 s.program
slots_counted format name s program jobs reports c h = slots_alike format name (executed_at c) (executed_in s program jobs reports) (taken_at c) (taken_in s program jobs reports) 0 s.program h.executed h.taken

-- and so are those of its lines
pub lines_counted : (format : Format) (name : List ℕ) (source : Option Source) (s : Subject) (program : ℕ) (jobs : List Job) (reports : List Report) (c : Counts) → AreCounts s program jobs reports c
    → program_lines format name source (executed_at c) (taken_at c) s.program ≡ program_lines format name source (executed_in s program jobs reports) (taken_in s program jobs reports) s.program
lines_counted format name source s program jobs reports c h = λ n. program_lines format name source (λ k. h.executed k n) (λ k. h.taken k n) s.program

first_slot : (format : Format) (name : List ℕ) (executed taken : ℕ → ℕ) (k : ℕ) (slots : List (Option Insn)) (at : ℕ) → k < length slots
    → slots_from format name executed taken at (drop k slots) ≡ covered_in format name at (executed at) (taken at) (insn_at slots k) ++ slots_from format name executed taken (at + 1) (drop (k + 1) slots)
unfolding slots_from
first_slot format name executed taken k [] at few = absurd (omega (arith, few))
first_slot format name executed taken zero (i ∷ slots) at few = refl
first_slot format name executed taken (suc k) (i ∷ slots) at few = let one : suc k + 1 ≡ suc (k + 1) = omega arith in rw one (first_slot format name executed taken k slots at (omega (arith, few)))

none_after : (format : Format) (name : List ℕ) (executed taken : ℕ → ℕ) (at k : ℕ) (slots : List (Option Insn)) → length slots ≤ k
    → slots_from format name executed taken at (drop k slots) ≡ []
unfolding slots_from
none_after format name executed taken at zero [] few = refl
none_after format name executed taken at (suc k) [] few = refl
none_after format name executed taken at zero (i ∷ slots) few = absurd (omega (arith, few))
none_after format name executed taken at (suc k) (i ∷ slots) few = none_after format name executed taken at k slots (omega (arith, few))

-- a slot more is written
pub slot_next : (format : Format) (name : List ℕ) (executed taken : ℕ → ℕ) (slot : ℕ) (program : List (Option Insn)) (all text new : List ℕ) → slot < length program
    → new ≡ text ++ covered_in format name slot (executed slot) (taken slot) (insn_at program slot)
    → text ++ slots_from format name executed taken slot (drop slot program) ≡ all
    → new ++ slots_from format name executed taken (slot + 1) (drop (slot + 1) program) ≡ all
slot_next format name executed taken slot program all text new inside written h =
    ap (λ (xs : List ℕ). xs ++ slots_from format name executed taken (slot + 1) (drop (slot + 1) program)) written
    ∙ append_assoc text (covered_in format name slot (executed slot) (taken slot) (insn_at program slot)) _
    ∙ ap (λ (xs : List ℕ). text ++ xs) (sym (first_slot format name executed taken slot program slot inside))
    ∙ h

-- ---- programs

none_left : (format : Format) (sources : List (Option Source)) (jobs : List Job) (reports : List Report) (program : ℕ) (programs : List Named) → programs_from format sources jobs reports program programs [] ≡ []
unfolding programs_from
none_left format sources jobs reports program [] = refl
none_left format sources jobs reports program (p ∷ programs) = refl

one_program : (format : Format) (sources : List (Option Source)) (jobs : List Job) (reports : List Report) (program : ℕ) (p : Named) (programs : List Named) (s : Subject) (subjects : List Subject)
    → programs_from format sources jobs reports program (p ∷ programs) (s ∷ subjects)
    ≡ program_lines format p.name (slice_index_or sources program None) (executed_in s program jobs reports) (taken_in s program jobs reports) s.program ++ programs_from format sources jobs reports (program + 1) programs subjects
unfolding programs_from
one_program format sources jobs reports program p programs s subjects = refl

-- a program more is written
pub program_next : (format : Format) (sources : List (Option Source)) (jobs : List Job) (reports : List Report) (program : ℕ) (p : Named) (programs : List Named) (s : Subject) (subjects : List Subject) (c : Counts) (all text new : List ℕ)
    → program < length subjects → get_or subjects program s ≡ s → AreCounts s program jobs reports c
    → new ≡ text ++ program_lines format p.name (slice_index_or sources program None) (executed_at c) (taken_at c) s.program
    → text ++ programs_from format sources jobs reports program (p ∷ programs) (drop program subjects) ≡ all
    → new ++ programs_from format sources jobs reports (program + 1) programs (drop (program + 1) subjects) ≡ all
program_next format sources jobs reports program p programs s subjects c all text new inside same counts written h =
    let rest = programs_from format sources jobs reports (program + 1) programs (drop (program + 1) subjects) in
    let slots = program_lines format p.name (slice_index_or sources program None) (executed_in s program jobs reports) (taken_in s program jobs reports) s.program in
    ap (λ (xs : List ℕ). xs ++ rest) (written ∙ ap (λ (xs : List ℕ). text ++ xs) (lines_counted format p.name (slice_index_or sources program None) s program jobs reports c counts))
    ∙ append_assoc text slots rest
    ∙ ap (λ (xs : List ℕ). text ++ xs) (sym (one_program format sources jobs reports program p programs s (drop (program + 1) subjects)))
    ∙ ap (λ (here : Subject). text ++ programs_from format sources jobs reports program (p ∷ programs) (here ∷ drop (program + 1) subjects)) (sym same)
    ∙ ap (λ (xs : List ℕ). text ++ xs) (sym (at_drop_more (programs_from format sources jobs reports program (p ∷ programs)) subjects program s inside))
    ∙ h

-- there are no more that were accepted
pub program_past : (format : Format) (sources : List (Option Source)) (jobs : List Job) (reports : List Report) (program : ℕ) (p : Named) (programs : List Named) (subjects : List Subject) (all text : List ℕ)
    → length subjects ≤ program → text ++ programs_from format sources jobs reports program (p ∷ programs) (drop program subjects) ≡ all
    → text ++ programs_from format sources jobs reports program programs (drop program subjects) ≡ all
program_past format sources jobs reports program p programs subjects all text past h =
    ap (λ (xs : List ℕ). text ++ xs) (empty programs ∙ sym (empty (p ∷ programs))) ∙ h
  where
    gone : (k : ℕ) (xs : List Subject) → length xs ≤ k → drop k xs ≡ []
    gone zero [] few = refl
    gone (suc k) [] few = refl
    gone zero (x ∷ xs) few = absurd (omega (arith, few))
    gone (suc k) (x ∷ xs) few = gone k xs (omega (arith, few))

    empty : (ps : List Named) → programs_from format sources jobs reports program ps (drop program subjects) ≡ []
    empty ps = ap (programs_from format sources jobs reports program ps) (gone program subjects past) ∙ none_left format sources jobs reports program ps

-- all are written
pub programs_done : (format : Format) (sources : List (Option Source)) (jobs : List Job) (reports : List Report) (program : ℕ) (programs : List Named) (subjects : List Subject) (all text : List ℕ)
    → programs ≡ [] → text ++ programs_from format sources jobs reports program programs subjects ≡ all → text ≡ all
unfolding programs_from
programs_done format sources jobs reports program programs subjects all text none h = sym (append-nil text) ∙ ap (λ (ps : List Named). text ++ programs_from format sources jobs reports program ps subjects) (sym none) ∙ h

-- all slots are written
pub slots_done : (format : Format) (name : List ℕ) (executed taken : ℕ → ℕ) (slot : ℕ) (program : List (Option Insn)) (all text : List ℕ) → length program ≤ slot
    → text ++ slots_from format name executed taken slot (drop slot program) ≡ all → text ≡ all
slots_done format name executed taken slot program all text past h = sym (append-nil text) ∙ ap (λ (xs : List ℕ). text ++ xs) (sym (none_after format name executed taken slot slot program past)) ∙ h
