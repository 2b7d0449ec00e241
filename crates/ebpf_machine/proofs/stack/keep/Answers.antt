use Rattle.std.specs.Int.{w64}
use Rattle.std.proofs.Common.{arith}
use Rattle.std.proofs.lemmas.Int.{to_z-of_z}
use Rattle.ebpf_machine.proofs.Instructions.StackWords.{kept}
use Rattle.ebpf_machine.proofs.stack.keep.Goals as goal

pub returns : goal.returns
returns c =
    let pointing = c.told-pointing in
    let bases = c.told-bases in
    let offsets = c.told-offsets in
    let inside = c.requires in
    kept c.args.pointing.now c.args.bases.now c.args.offsets.now c.args.word c.args.base c.args.offset _ (omega arith) (omega arith) (omega arith)
    (to_z-of_z w64 c.args.offset c.ranges.offset)
