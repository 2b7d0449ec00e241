use Rattle.std.proofs.Common.{◌≡◌, ◌≤◌, ℕ, List, length, take, drop, sym, ◌∙◌, arith, subst, length-drop, length-take-le}
use Rattle.std.proofs.lemmas.List.{take_rest}
use Rattle.ebpf_reader.specs.ReadScripts.{parsed_script}
use Rattle.ebpf_reader.specs.ScriptLines.{IsFirst}
use Rattle.ebpf_reader.proofs.LinesLeft.{lines_from-line, line_is_text}
use Rattle.ebpf_reader.proofs.LinesLemmas.{lines_fine, lines_faulty, one_pass, stops_at, parsed_text-lines}
use Rattle.ebpf_reader.proofs.read_script.read_script.Goals.{After-read_next-length}
use Rattle.ebpf_reader.proofs.read_script.read_script.Goals as goal

pub read_next-length-requires-clause-known : goal.read_next-length-requires-clause-known
read_next-length-requires-clause-known c =
    let text = c.args.text.now in
    let from = c.loop-from.from in
    λ known line first. line_is_text text line from (sym c.is_script_text-is_text.ensures ∙ known) (subst (λ (xs : List ℕ). IsFirst xs line) (take_rest text from) first)

-- the line that was read is the first of what is left
abbrev line_at : After-read_next-length → List ℕ
line_at c = take c.read_next-length.result.0 (drop c.loop-from.from c.args.text.now)

first_line : (c : After-read_next-length) → IsFirst (drop c.loop-from.from c.args.text.now) (line_at c)
first_line c = rw (take_rest c.args.text.now c.loop-from.from) at c.read_next-length.ensures.first

pub returns-in-Err-clause-refused : goal.returns-in-Err-clause-refused
returns-in-Err-clause-refused c =
    let text = c.args.text.now in
    let from = c.loop-from.from in
    let h = (goal.at.returns-in-Err-clause-refused c).After-read_next-length in
    let here = lines_from-line text (line_at h) from (omega arith) (first_line h) in
    rw c.at.ensures (stops_at _ _ c.in-Err.stop _ (rw (take_rest text from, c.in-Err.is) at c.read_next-length.ensures.refused) (λ code fault.
    parsed_text-lines c.args.dialect text c.if-text-gt-MAX_INPUT.false ∙ (sym c.loop-from.invariant.behind
    ∙ lines_faulty c.args.dialect c.loop-from.number (parsed_script c.loop-from.script) (line_at h) _ _ code here fault)))

pub loop-from-preserved : goal.loop-from-preserved
loop-from-preserved c =
    let text = c.args.text.now in
    let from = c.loop-from.from in
    let e = c.read_next-length.ensures in
    let h = (goal.at.loop-from-preserved c).After-read_next-length in
    let long : length (line_at h) ≡ c.read_next-length.result.0 = length-take-le _ (drop from text) (omega (arith, e.within, length-drop from text)) in
    let here = rw long at (lines_from-line text (line_at h) from (omega arith) (first_line h)) in
    let ok = rw (take_rest text from, c.in_default.is) at e.ok in
    record {
      within = omega (arith, e.within, length-drop from text);
      number = omega (arith, c.loop-from.invariant.number);
      few = omega (arith, one_pass _ _ _ ok, c.loop-from.invariant.few);
      begins = rw c.in_default.is at e.begins;
      behind = lines_fine c.args.dialect c.loop-from.number (parsed_script c.loop-from.script) (parsed_script c.read_next-length.new.script) (line_at h) _ _ here
          (rw (take_rest text from, c.in_default.is) at e.fine) ok.parsed ∙ c.loop-from.invariant.behind;
    }
