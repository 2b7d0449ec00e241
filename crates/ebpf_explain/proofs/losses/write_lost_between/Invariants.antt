use Rattle.std.proofs.Common.{◌≡◌, ◌++◌, take, string_bytes}
use Rattle.std.specs.List.{flat_map}
use Rattle.ebpf_explain.specs.Losses.{words_between}
use Rattle.ebpf_explain.proofs.losses.write_lost_between.Given as goal

abbrev pub invariant-loop-loss : goal.invariant-loop-loss
invariant-loop-loss l = string_bytes l.text ≡ string_bytes l.fn.text ++ flat_map (words_between l.from l.to) (take l.loss-index l.losses)
