use Rattle.std.proofs.Common.{◌≡◌, false, rules}
use Rattle.ebpf_object_file.specs.Call.{is_call}
use Rattle.ebpf_object_file.proofs.Walks.{none_more}
use Rattle.ebpf_object_file.proofs.call.find_call.Goals as goal

pub loop-slot-preserved : goal.loop-slot-preserved
loop-slot-preserved c =
    let here : is_call c.args.code.now c.loop-slot.slot ≡ false = search rules in
    none_more (is_call c.args.code.now) c.loop-slot.slot c.loop-slot.invariant here
