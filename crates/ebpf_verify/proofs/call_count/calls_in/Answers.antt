use Rattle.std.proofs.Common.{rules, ◌≡◌, ◌<◌, ◌∙◌, ap, length, refl, if◌then◌else◌, arith}
use Rattle.ebpf_insn.specs.Program.{insn_at}
use Rattle.ebpf_verify.specs.CallCount.{is_counted}
use Rattle.ebpf_verify.specs.declared.call_count.Counted.TheVariants.{Calls, Swaps}
use Rattle.ebpf_verify.proofs.Counted.{counted_more, at_most_one}
use Rattle.ebpf_verify.proofs.call_count.calls_in.Goals as goal

pub loop-slot-preserved : goal.loop-slot-preserved
loop-slot-preserved c =
    let i = c.loop-slot.invariant in
    let p = c.args.program.now in
    let slot = c.loop-slot.slot in
    let inside : slot < length p = search rules in
    let call : c.one_if-calls.result ≡ (if is_counted Calls (insn_at p slot) then 1 else 0) = c.one_if-calls.ensures ∙ ap (λ it. if is_counted Calls it then 1 else 0) c.at-insn.ensures in
    let swap : c.one_if-swaps.result ≡ (if is_counted Swaps (insn_at p slot) then 1 else 0) = c.one_if-swaps.ensures ∙ ap (λ it. if is_counted Swaps it then 1 else 0) c.at-insn.ensures in
    record {
      calls = omega (arith, counted_more Calls p slot c.one_if-calls.result (is_counted Calls (insn_at p slot)) inside refl call, i.calls);
      swaps = omega (arith, counted_more Swaps p slot c.one_if-swaps.result (is_counted Swaps (insn_at p slot)) inside refl swap, i.swaps);
      few_calls = omega (arith, at_most_one (is_counted Calls (insn_at p slot)) c.one_if-calls.result call, i.few_calls);
      few_swaps = omega (arith, at_most_one (is_counted Swaps (insn_at p slot)) c.one_if-swaps.result swap, i.few_swaps);
    }
