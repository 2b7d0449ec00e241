-- A line of a stream of jobs, by its words.
use Rattle.std.proofs.Common.{◌≡◌, ◌<◌, ◌==◌, ◌-◌, ℕ, true, false, true≢false, not, List, [], ◌∷◌, length, get_or, take, map, slice_get}
use Rattle.std.proofs.Common.{Option, Some, None, is_none, unwrap_or, IfSome, Result, Ok, Err, IfOk, refl, sym, ap, ◌∙◌, subst, arith, inl, inr}
use Rattle.std.proofs.Common.{eq-zero-or-pos}
use Rattle.std.specs.List.{list_all}
use Rattle.std.proofs.lemmas.Bool.Decides.{nat_tests}
use Rattle.std.proofs.lemmas.List.{take_all}
use Rattle.std.proofs.lemmas.List.Folds.{list_all_at}
use Rattle.ebpf_command.specs.declared.done.FaultCode.TheVariants.{BadHex, BadName, UndefinedName, WrongContextLength, UnprintableByte}
use Rattle.ebpf_command.specs.declared.done.Stop.{Stop}
use Rattle.ebpf_command.specs.HexText.{hex_or_dash}
use Rattle.job_list.specs.declared.jobs.Job.{Job}
use Rattle.ebpf_reader.specs.JobLines.{IsReadAs, job_line_fault, job_of, stream_shape}
use Rattle.ebpf_reader.specs.LineFaults.{shape_fault, is_as_declared}
use Rattle.ebpf_reader.specs.Names.{is_name}
use Rattle.ebpf_reader.specs.ParsedScript.{Named, ParsedScript, number_of}
use Rattle.ebpf_reader.specs.ScriptLines.{IsFirst, is_text_byte, is_text}
use Rattle.ebpf_reader.specs.Shapes.{Shape, Passed, Unknown, ProgramLine, StartLine, ExecLine, AnsweredLine, GrowLine, ReapLine, ArenaLine, JobLine, PassLine}
use Rattle.ebpf_reader.specs.Words.{words}
use Rattle.ebpf_reader.proofs.RunnableLemmas.{declared_here, job_tests, same_number}

-- the first six words say the shape
pub six_of_stream : (words : List (List ℕ)) → stream_shape (take 6 words) ≡ stream_shape words
six_of_stream [] = refl
six_of_stream (first ∷ []) = refl
six_of_stream (first ∷ a ∷ []) = refl
six_of_stream (first ∷ a ∷ b ∷ []) = refl
six_of_stream (first ∷ a ∷ b ∷ c ∷ rest) = refl

-- a line of text has no newline, so it is its own first line
no_newline : (c : ℕ) → (c == 10) ≡ true → is_text_byte c ≡ false
no_newline c ten =
    let same : c ≡ 10 = grind (arith, nat_tests) in
    rw same refl

pub whole_line : (text line : List ℕ) → is_text text ≡ true → IsFirst text line → line ≡ text
unfolding is_text
whole_line text line printable first = elim (eq-zero-or-pos (length text - length line)) [
  | inl none ↦ first.begins ∙ take_all (length line) text (omega (arith, none))
  | inr more ↦
      let inside : length line < length text = omega (arith, more) in
      let other : list_all is_text_byte text ≡ false =
      list_all_at is_text_byte text (length line) 0 inside (no_newline (get_or text (length line) 0) (first.ends inside)) in
      absurd (true≢false (sym printable ∙ other))
]

-- a job that has no fault is of a program that declares a context of its length
pub job_declared : (parsed : ParsedScript) (shape : Shape) → shape_fault parsed shape ≡ None
    → IfSome (job_of parsed shape) (λ j. slice_get (map (λ p. p.context) parsed.programs) j.program ≡ Some (length j.context))
job_declared parsed (JobLine name hex) fine =
    let tests = job_tests (is_none (hex_or_dash hex)) (not (is_name name)) (is_none (number_of parsed.programs name)) (not (is_as_declared parsed.programs name (unwrap_or (hex_or_dash hex) []))) BadHex BadName UndefinedName WrongContextLength fine in
    declared_here parsed.programs name _ tests.0 (same_number _ _ tests.1)
job_declared parsed Passed fine = tt
job_declared parsed Unknown fine = tt
job_declared parsed (ProgramLine name context held hex) fine = tt
job_declared parsed (StartLine name hex) fine = tt
job_declared parsed (ExecLine run) fine = tt
job_declared parsed (AnsweredLine run answer) fine = tt
job_declared parsed (GrowLine kind slot) fine = tt
job_declared parsed (ReapLine kind slot) fine = tt
job_declared parsed (ArenaLine pages) fine = tt
job_declared parsed PassLine fine = tt

pub fault_of_text : (parsed : ParsedScript) (line : List ℕ) (found : List (List ℕ)) → is_text line ≡ true → found ≡ take 6 (words line)
    → job_line_fault parsed line ≡ shape_fault parsed (stream_shape found)
unfolding job_line_fault
fault_of_text parsed line found printable is =
    rw (printable, is) (ap (shape_fault parsed) (sym (six_of_stream (words line))))

pub fault_unprintable : (parsed : ParsedScript) (line : List ℕ) → is_text line ≡ false → job_line_fault parsed line ≡ Some UnprintableByte
unfolding job_line_fault
fault_unprintable parsed line other = rw other refl

-- a line is read by its first words
pub read_as : (parsed : ParsedScript) (line : List ℕ) (found : List (List ℕ)) (job : Option Job) → is_text line ≡ true → found ≡ take 6 (words line)
    → shape_fault parsed (stream_shape found) ≡ None → job ≡ job_of parsed (stream_shape found) → IsReadAs parsed line job
read_as parsed line found job printable is fine job_is =
    let same : stream_shape found ≡ stream_shape (words line) = ap stream_shape is ∙ six_of_stream (words line) in
    record {
      fine = fault_of_text parsed line found printable is ∙ fine;
      job_is = job_is ∙ ap (job_of parsed) same;
      declared = subst (λ (j : Option Job). IfSome j (λ j. slice_get (map (λ (p : Named). p.context) parsed.programs) j.program ≡ Some (length j.context)))
          (sym job_is) (job_declared parsed (stream_shape found) fine);
    }

pub read_ok : (r : Result (Option Job) Stop) (parsed : ParsedScript) (line : List ℕ) (found : List (List ℕ)) → is_text line ≡ true → found ≡ take 6 (words line)
    → IfOk r (λ job. shape_fault parsed (stream_shape found) ≡ None) → IfOk r (λ job. job ≡ job_of parsed (stream_shape found))
    → IfOk r (IsReadAs parsed line)
read_ok (Ok job) parsed line found printable is fine job_is = read_as parsed line found job printable is fine job_is
read_ok (Err stop) parsed line found printable is fine job_is = tt
