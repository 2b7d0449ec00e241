use Rattle.std.proofs.Common.{sym, ◌∙◌}
use Rattle.ebpf_object_file.proofs.Uses.{wide_inside}
use Rattle.ebpf_object_file.proofs.data_use.Reading.offset_at.Goals as goal

pub wide_immediate-immediate-requires : goal.wide_immediate-immediate-requires
wide_immediate-immediate-requires c = wide_inside c.args.self.function c.args.relocation (sym c.is_wide.ensures ∙ c.if-not-is_wide.false)
