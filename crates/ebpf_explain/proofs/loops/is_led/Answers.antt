use Rattle.std.proofs.Common.{◌<◌, ◌+◌, ◌∙◌, arith, sym}
use Rattle.ebpf_explain.proofs.Looping.{led_by-none, led_by-more}
use Rattle.ebpf_explain.proofs.loops.is_led.Goals as goal

pub loop-passed-init : goal.loop-passed-init
loop-passed-init c = record {
  len = c.in_ok-led.ensures.len;
  marked = λ k lt. c.in_ok-led.ensures.first k lt ∙ sym (led_by-none c.args.program.now c.args.from k);
}

pub loop-passed-preserved : goal.loop-passed-preserved
loop-passed-preserved c =
    let inside : c.args.from + c.loop-passed.passed < c.args.to + 1 = omega arith in
    record {
      len = c.pass_on.ensures.len ∙ c.loop-passed.invariant.len;
      marked = λ k lt. led_by-more c.args.program.now c.args.from c.loop-passed.passed k _ _ _
          (c.loop-passed.invariant.marked _ inside) (c.loop-passed.invariant.marked k lt)
          (c.pass_on.ensures.marked k (omega (arith, c.loop-passed.invariant.len)));
    }
