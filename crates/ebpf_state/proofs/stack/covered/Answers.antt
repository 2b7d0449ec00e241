use Rattle.std.proofs.Common.{◌≤◌, ◌^◌, arith}
use Rattle.std.proofs.Math.Pow.{pow_mono}
use Rattle.ebpf_state.proofs.stack.covered.Goals as goal

pub overflow_sub-result : goal.overflow_sub-result
overflow_sub-result c =
    let order : c.min-start.result ≤ c.min-end.result =
    omega (arith, c.min-end.ensures, c.min-start.ensures, c.saturating_sub.ensures, c.saturating_sub-2.ensures) in
    let le : 2 ^ c.min-start.result ≤ 2 ^ c.min-end.result = pow_mono order in
    rw (c.power_of_two.ensures.value, c.power_of_two-2.ensures.value) le
