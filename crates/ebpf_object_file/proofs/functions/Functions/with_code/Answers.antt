use Rattle.std.proofs.Common.{◌≡◌, false, sym, ◌∙◌}
use Rattle.ebpf_object_file.specs.Coded.{has_code}
use Rattle.ebpf_object_file.proofs.Walks.{none_more}
use Rattle.ebpf_object_file.proofs.functions.Functions.with_code.Goals as goal

pub loop-number-preserved : goal.loop-number-preserved
loop-number-preserved c =
    none_more (has_code c.args.self.now c.args.code.now) c.loop-number.number c.loop-number.invariant (sym c.has_code.ensures ∙ c.if-has_code.false)
