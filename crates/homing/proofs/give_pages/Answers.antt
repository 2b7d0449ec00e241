use Rattle.std.proofs.Common.{refl, ap, ◌∙◌, length, arith}
use Rattle.vmem_arena.specs.Spans.{Spans, pages_of}
use Rattle.homing.proofs.Moving.{one_more}
use Rattle.homing.proofs.Reaping.{had_most, had_less, out_since, place_since}
use Rattle.homing.proofs.give_pages.Goals as goal

pub loop-span-init : goal.loop-span-init
loop-span-init g c = record {
  pages = refl;
  taken = omega arith;
  few = omega (arith, had_most 256 c.args.slabs.now);
  out = λ slot. (λ is. is, λ is. is);
  kept = λ slot has. refl;
  counted = refl;
}

pub loop-span-smaller-then-give : goal.loop-span-smaller-then-give
loop-span-smaller-then-give g c =
    omega (arith, had_less 256 _ _ _ c.in-Some.ensures.removed c.in-Some.ensures.had (omega (arith, c.in-Some.span.some, c.in-Some.span.within)))

pub loop-span-smaller : goal.loop-span-smaller
loop-span-smaller g c =
    omega (arith, had_less 256 _ _ _ c.in-Some.ensures.removed c.in-Some.ensures.had (omega (arith, c.in-Some.span.some, c.in-Some.span.within)))

pub loop-span-preserved-then-give : goal.loop-span-preserved-then-give
loop-span-preserved-then-give g c =
    let i = c.loop-span.invariant in
    let less = had_less 256 _ _ _ c.in-Some.ensures.removed c.in-Some.ensures.had (omega (arith, c.in-Some.span.some, c.in-Some.span.within)) in
    record {
      pages = c.if-give.ensures.pages ∙ i.pages;
      taken = omega (arith, one_more (pages_of c.in-Some.span) c.give.new.self.out c.loop-span.arena.out (c.if-give.ensures.back refl), i.taken);
      few = omega (arith, less, i.few);
      out = out_since _ _ _ _ c.in-Some.ensures.removed c.in-Some.ensures.idle i.out;
      kept = place_since _ _ _ _ c.in-Some.ensures.removed i.kept;
      counted = c.in-Some.ensures.counted ∙ i.counted;
    }

pub loop-span-preserved : goal.loop-span-preserved
loop-span-preserved g c =
    let i = c.loop-span.invariant in
    let less = had_less 256 _ _ _ c.in-Some.ensures.removed c.in-Some.ensures.had (omega (arith, c.in-Some.span.some, c.in-Some.span.within)) in
    record {
      pages = c.if-give.ensures.pages ∙ i.pages;
      taken = omega (arith, ap (λ (s : Spans). length s.out) (c.if-give.ensures.unchanged refl), i.taken);
      few = omega (arith, less, i.few);
      out = out_since _ _ _ _ c.in-Some.ensures.removed c.in-Some.ensures.idle i.out;
      kept = place_since _ _ _ _ c.in-Some.ensures.removed i.kept;
      counted = c.in-Some.ensures.counted ∙ i.counted;
    }

pub returns-clause-out : goal.returns-clause-out
returns-clause-out g c = λ slot. rw c.in_default.ensures.unchanged (c.loop-span.invariant.out slot)

pub returns-clause-busy : goal.returns-clause-busy
returns-clause-busy g c = rw c.in_default.ensures.unchanged c.in_default.ensures.none
