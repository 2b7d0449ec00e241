use Rattle.std.proofs.Common.{◌≡◌, ◌<◌, ◌≤◌, ◌++◌, length, string_bytes, ◌∙◌, subst, arith}
use Rattle.std.proofs.lemmas.Grind.{get_or_default_zero}
use Rattle.ebpf_insn.specs.Program.{insn_at}
use Rattle.ebpf_cover.specs.Covered.{executed_at, taken_at}
use Rattle.ebpf_report.specs.CoveredLines.{covered_in}
use Rattle.ebpf_report.proofs.CoveredLemmas.{slot_next, slots_done}
use Rattle.ebpf_report.proofs.covered_text.write_slots.Goals as goal

pub loop-slot-preserved : goal.loop-slot-preserved
loop-slot-preserved c =
    let counts = c.args.counts.now in
    let slot = c.loop-slot.slot in
    let inside : slot < length c.args.program.now = subst (λ n. slot < n) c.slots-slot-end.ensures.value c.loop-slot-test.true in
    let executed : c.index-executed.result.now ≡ executed_at counts slot =
    c.index-executed.ensures ∙ get_or_default_zero counts.executed.items slot c.index-executed.result.now (omega (arith, inside, c.requires.executed)) in
    let taken : c.index-taken.result.now ≡ taken_at counts slot =
    c.index-taken.ensures ∙ get_or_default_zero counts.taken.items slot c.index-taken.result.now (omega (arith, inside, c.requires.taken)) in
    let written : string_bytes c.write_slot.new.text ≡ string_bytes c.loop-slot.text ++ covered_in c.args.format c.args.name.now slot (executed_at counts slot) (taken_at counts slot) (insn_at c.args.program.now slot) =
    c.in_ok-write_slot.ensures ∙ (λ n. string_bytes c.loop-slot.text ++ covered_in c.args.format c.args.name.now slot (executed n) (taken n) (c.at.ensures n)) in
    slot_next c.args.format c.args.name.now (executed_at counts) (taken_at counts) slot c.args.program.now _ (string_bytes c.loop-slot.text) (string_bytes c.write_slot.new.text) inside written c.loop-slot.invariant

pub returns : goal.returns
returns c =
    let counts = c.args.counts.now in
    let past : length c.args.program.now ≤ c.loop-slot.slot = subst (λ n. n ≤ c.loop-slot.slot) c.slots-slot-end.ensures.value c.loop-slot-test.false in
    slots_done c.args.format c.args.name.now (executed_at counts) (taken_at counts) c.loop-slot.slot c.args.program.now _ (string_bytes c.loop-slot.text) past c.loop-slot.invariant
