-- The lines of a script, one by one.
use Rattle.std.proofs.Common.{◌≡◌, ℕ, ◌+◌, ◌==◌, ◌<◌, ◌≤◌, true, false, nat_lt, arith, List, [], ◌∷◌, length, get_or, take, Option, Some, None}
use Rattle.std.proofs.Common.{Result, Ok, Err, OnOk, refl, sym, ◌∙◌, ap}
use Rattle.std.proofs.lemmas.Bool.{lt-ltb}
use Rattle.std.proofs.lemmas.Bool.Decides.{nat_tests}
use Rattle.std.proofs.lemmas.List.{get_or_default, get_or_past}
use Rattle.std.proofs.lemmas.List.Splits.{length-slice_split}
use Rattle.std.proofs.lemmas.List.Sums.{count_by-le-length}
use Rattle.ebpf_command.specs.declared.done.FaultCode.{FaultCode}
use Rattle.ebpf_command.specs.declared.done.FaultCode.TheVariants.{InputTooLong, UnprintableByte}
use Rattle.ebpf_command.specs.declared.done.Stop.{Stop}
use Rattle.ebpf_command.specs.declared.done.Stop.TheVariants as stops
use Rattle.ebpf_command.specs.Stops.{IsStop}
use Rattle.ebpf_reader.specs.declared.script.Dialect.{Dialect}
use Rattle.ebpf_reader.specs.LineFaults.{line_fault, shape_fault}
use Rattle.ebpf_reader.specs.declared.script.Script.{Script}
use Rattle.ebpf_reader.specs.ReadScripts.{IsScriptStop, Adds, parsed_script, stop_at}
use Rattle.ebpf_reader.specs.ParsedScript.{ParsedScript, empty_script, with_line}
use Rattle.ebpf_reader.specs.ScriptLines.{script_lines, is_text}
use Rattle.ebpf_reader.specs.Scripts.{parsed_lines, parsed_text}
use Rattle.ebpf_reader.specs.Shapes.{Shape, Passed, Unknown, ProgramLine, StartLine, ExecLine, AnsweredLine, GrowLine, ReapLine, ArenaLine}
use Rattle.ebpf_reader.specs.Shapes.{JobLine, PassLine, shape_of}
use Rattle.ebpf_reader.specs.Words.{words}
use Rattle.ebpf_reader.proofs.ShapeLemmas.{six_say}

-- the first line that is left has no fault
pub lines_fine : (d : Dialect) (n : ℕ) (parsed next : ParsedScript) (line : List ℕ) (here rest : List (List ℕ)) → here ≡ line ∷ rest
    → line_fault d parsed line ≡ None → next ≡ with_line parsed (shape_of d (words line))
    → parsed_lines d (n + 1 + 1) next rest ≡ parsed_lines d (n + 1) parsed here
lines_fine d n parsed next line here rest is fine parses = rw (is, fine, parses) refl

-- it has one
pub lines_faulty : (d : Dialect) (n : ℕ) (parsed : ParsedScript) (line : List ℕ) (here rest : List (List ℕ)) (code : FaultCode) → here ≡ line ∷ rest
    → line_fault d parsed line ≡ Some code → parsed_lines d (n + 1) parsed here ≡ Err (n + 1, code)
lines_faulty d n parsed line here rest code is fault = rw (is, fault) refl

-- ---- a line by its first words

pub line_fault-text : (d : Dialect) (parsed : ParsedScript) (line : List ℕ) (found : List (List ℕ)) → is_text line ≡ true → found ≡ take 6 (words line)
    → line_fault d parsed line ≡ shape_fault parsed (shape_of d found)
unfolding line_fault
line_fault-text d parsed line found printable is = rw (printable, is) (ap (shape_fault parsed) (sym (six_say d (words line))))

pub line_fault-unprintable : (d : Dialect) (parsed : ParsedScript) (line : List ℕ) → is_text line ≡ false → line_fault d parsed line ≡ Some UnprintableByte
unfolding line_fault
line_fault-unprintable d parsed line other = rw other refl

-- what is added has no fault
pub added_fine : {T E : Type 0} (r : Result T E) (shape : Shape) (old new : Script) (fault : Option FaultCode) → fault ≡ shape_fault (parsed_script old) shape
    → OnOk r (Adds shape old new) → OnOk r (fault ≡ None)
added_fine (Ok x) shape old new fault same adds = same ∙ adds.fine
added_fine (Err e) shape old new fault same adds = tt

-- where a line stops, and its fault is the script's, the script stops there
pub stops_at : (read : Result ParsedScript (ℕ × FaultCode)) (fault : Option FaultCode) (stop : Stop) (number : ℕ)
    → IsStop fault stop → ((code : FaultCode) → fault ≡ Some code → read ≡ Err (number, code))
    → IsScriptStop read (stop_at stop number)
stops_at read fault stops.NoMemory number stop here = tt
stops_at read fault (stops.Fault code) number stop here = here code stop

-- a text that is not too long has few lines
pub lines_few : (text : List ℕ) → length text ≤ 1048576 → length (script_lines text) ≤ 1048577
lines_few text fits = omega (arith, fits, length-slice_split (λ (c : ℕ). c == 10) text, count_by-le-length (λ (c : ℕ). c == 10) text)

-- a text that is too long
pub parsed_text_long : (dialect : Dialect) (text : List ℕ) → 1048576 < length text → parsed_text dialect text ≡ Err (0, InputTooLong)
unfolding parsed_text
parsed_text_long dialect text long = rw (lt-ltb 1048576 (length text) long) refl

-- a text that is not too long is parsed to what its lines are parsed to
pub parsed_text-lines : (dialect : Dialect) (text : List ℕ) → length text ≤ 1048576
    → parsed_text dialect text ≡ parsed_lines dialect 1 empty_script (script_lines text)
unfolding parsed_text
parsed_text-lines dialect text fits =
    let short : nat_lt 1048576 (length text) ≡ false = grind (arith, nat_tests) in
    rw short refl

passes_with : (parsed : ParsedScript) (shape : Shape) → (with_line parsed shape).passes ≤ parsed.passes + 1
passes_with parsed Passed = omega arith
passes_with parsed Unknown = omega arith
passes_with parsed (ProgramLine name context held hex) = omega arith
passes_with parsed (StartLine name hex) = omega arith
passes_with parsed (ExecLine run) = omega arith
passes_with parsed (AnsweredLine run answer) = omega arith
passes_with parsed (GrowLine kind slot) = omega arith
passes_with parsed (ReapLine kind slot) = omega arith
passes_with parsed (ArenaLine pages) = omega arith
passes_with parsed (JobLine name hex) = omega arith
passes_with parsed PassLine = omega arith

-- a line adds one pass at most
pub one_pass : (shape : Shape) (old new : Script) → Adds shape old new → new.passes ≤ old.passes + 1
one_pass shape old new adds = omega (arith, passes_with (parsed_script old) shape, ap (λ (s : ParsedScript). s.passes) adds.parsed)

-- ---- a line by its index

pub line_at : (lines : List (List ℕ)) (line : List ℕ) (n index : ℕ) → n < length lines → line ≡ get_or lines n line → n ≡ index → line ≡ get_or lines index []
line_at lines line n index inside same is = same ∙ (get_or_default lines n line [] inside ∙ ap (λ (k : ℕ). get_or lines k []) is)

-- after the last there is none
pub line_past : (lines : List (List ℕ)) (index : ℕ) → length lines ≤ index → get_or lines index [] ≡ []
line_past lines index past = get_or_past lines index [] past
