use Rattle.std.proofs.Common.{◌≡◌, ◌<◌, ℕ, Option, Some, None, sym, ap, ◌∙◌, subst, arith, length, get_or, rules}
use Rattle.std.proofs.lemmas.List.{length-replicate, length-set}
use Rattle.std.proofs.lemmas.Option.{slice_get-get_or}
use Rattle.ebpf_layout.specs.Writing.{HavePlaces, AreCopied}
use Rattle.ebpf_layout.proofs.CopiedSlots.{none_copied, copied_more}
use Rattle.ebpf_layout.proofs.copied.copied_slots.Goals as goal

pub loop-number-init : goal.loop-number-init
loop-number-init c =
    let fresh = c.in_ok-of.ensures.items_if_clones_equal (λ y e. search rules) in record {
      all = ap length fresh ∙ length-replicate {A = Option ℕ} c.args.len None;
      copied = none_copied c.args.order.now c.args.places.now c.args.len c.in_ok-of.of.items fresh;
    }

pub loop-number-preserved : goal.loop-number-preserved
loop-number-preserved c =
    let order = c.args.order.now in
    let places = c.args.places.now in
    let of = c.loop-number.of.items in
    let n = c.loop-number.number in
    let i = c.loop-number.invariant in
    let ordered : n < length order = c.loop-number-test.true in
    let placed : n < length places = omega (arith, c.requires.all) in record {
      all = length-set of (get_or places n 0) (Some (get_or order n 0)) ∙ i.all;
      copied = copied_more order places of n (get_or order n 0) (get_or places n 0) (subst (HavePlaces order places) (sym i.all) c.requires)
          (slice_get-get_or order n 0 ordered) (slice_get-get_or places n 0 placed) i.copied;
    }

pub returns-clause-copied : goal.returns-clause-copied
returns-clause-copied c =
    let all : c.loop-number.number ≡ length c.args.order.now = omega (arith, c.loop-number-test.false, c.loop-number.auto.number-end) in
    subst (λ (n : ℕ). AreCopied c.args.order.now c.args.places.now n c.loop-number.of.items) all c.loop-number.invariant.copied
