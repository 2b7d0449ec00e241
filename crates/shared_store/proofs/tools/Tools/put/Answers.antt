use Rattle.std.proofs.Common.{◌≡◌, ◌+◌, ◌==◌, if◌then◌else◌, ℕ, Some, None, length, refl, ap, sym, subst, ◌∙◌, arith}
use Rattle.ebpf_object.specs.Object.{kind_of, slot_of}
use Rattle.ebpf_owned.proofs.Exchanging.{held_got}
use Rattle.owners_table.specs.Owning.{Holds}
use Rattle.owners_table.specs.Marking.{mark_word}
use Rattle.ebpf_object.specs.KindName.{number_of}
use Rattle.ebpf_owned.specs.Exchanges.{less}
use Rattle.shared_cache.specs.HandView.{IsLaden}
use Rattle.shared_store.specs.Tools.{held_at, puts_at, stock_at}
use Rattle.shared_store.proofs.ByKind.{answered_then, none_then, returned_counted, swapped_counted, taken_counted}
use Rattle.shared_store.proofs.tools.Tools.put.Goals as goal

pub returns-in_err-object-clause-of : goal.returns-in_err-object-clause-of
returns-in_err-object-clause-of c = c.take.ensures.replies.answered.of c.args.commons.now c.requires.of

pub returns-in_err-object-clause-none : goal.returns-in_err-object-clause-none
returns-in_err-object-clause-none c = none_then ((k : ℕ) → puts_at c.take.new.self k ≡ puts_at c.args.self.now k) c.from_residual.result c.take.ensures.puts

pub returns-then-not-can_get-clause-none : goal.returns-then-not-can_get-clause-none
returns-then-not-can_get-clause-none c = λ k. c.give.ensures.puts k ∙ c.can_get.ensures.puts k ∙ c.take.ensures.puts k

pub can_get-requires : goal.can_get-requires
can_get-requires c = record { of = c.take.ensures.replies.answered.of c.args.commons.now c.requires.of }

pub give-requires-clause-of : goal.give-requires-clause-of
give-requires-clause-of c = c.can_get.ensures.answered.of c.args.commons.now (c.take.ensures.replies.answered.of c.args.commons.now c.requires.of)

pub returns-then-not-can_get-clause-of : goal.returns-then-not-can_get-clause-of
returns-then-not-can_get-clause-of c =
    c.give.ensures.replies.answered.of c.args.commons.now
    (c.can_get.ensures.answered.of c.args.commons.now (c.take.ensures.replies.answered.of c.args.commons.now c.requires.of))

pub swap-requires-clause-of : goal.swap-requires-clause-of
swap-requires-clause-of c = c.can_get.ensures.answered.of c.args.commons.now (c.take.ensures.replies.answered.of c.args.commons.now c.requires.of)

pub give-requires-in-Some-clause-of : goal.give-requires-in-Some-clause-of
give-requires-in-Some-clause-of c =
    c.swap.ensures.replies.answered.of c.args.commons.now
    (c.can_get.ensures.answered.of c.args.commons.now (c.take.ensures.replies.answered.of c.args.commons.now c.requires.of))

pub give-requires-in-Some-clause-held : goal.give-requires-in-Some-clause-held
give-requires-in-Some-clause-held c =
    let e = c.in-Some.ensures in
    let slot = slot_of c.in-Some.before in
    let rest = less (Some (slot_of c.write.new.self)) (held_at c.can_get.new.self c.number-number.result) in
    let held = held_got slot (mark_word c.args.mark.run c.args.mark.at) rest in
    subst (λ (k : ℕ). Holds slot (held_at c.swap.new.self k)) (sym e.kind) (subst (Holds slot) (sym e.passed.are) held)

pub returns-in-Some-clause-put : goal.returns-in-Some-clause-put
returns-in-Some-clause-put c =
    let kind = number_of c.args.kind in
    let same = c.number-number.ensures in
    let room = subst (λ (k : ℕ). IsLaden (stock_at c.can_get.new.self k).hand → ⊥) (sym same) (c.if-not-can_get.ensures.room refl) in
    let put = subst (λ (k : ℕ). puts_at c.swap.new.self k ≡ puts_at c.can_get.new.self k + 1) same (c.in-Some.ensures.put room) in
    record {
      answered = answered_then _ _ _ 1 0 1 0 0 0
          (answered_then _ _ _ 1 0 0 0 0 1 (answered_then _ _ _ 1 0 0 0 0 0 c.in_ok-object.ensures.replies.answered c.can_get.ensures.answered) c.in-Some.ensures.replies.answered)
          c.give-in-Some.ensures.replies.answered;
      puts = omega (arith, put, c.take.ensures.puts kind, c.can_get.ensures.puts kind, c.give-in-Some.ensures.puts kind);
    }

pub returns-in-Some-clause-of : goal.returns-in-Some-clause-of
returns-in-Some-clause-of c =
    c.give-in-Some.ensures.replies.answered.of c.args.commons.now
    (c.swap.ensures.replies.answered.of c.args.commons.now
    (c.can_get.ensures.answered.of c.args.commons.now (c.take.ensures.replies.answered.of c.args.commons.now c.requires.of)))

pub returns-in-Some-clause-held : goal.returns-in-Some-clause-held
returns-in-Some-clause-held c = λ k.
    let kind = c.number-number.result in
    let word = mark_word c.args.mark.run c.args.mark.at in
    let took = taken_counted c.args.self.now c.take.new.self kind c.take.ensures.replies.others (slot_of c.in_ok-object.object) word c.in_ok-object.ensures.granted k in
    let same = ap length (c.can_get.ensures.same k) in
    let swapped = swapped_counted c.can_get.new.self c.swap.new.self kind c.swap.ensures.replies.others (Some c.write.new.self) (Some c.in-Some.before) word
    c.in-Some.ensures.passed k in
    let gave = subst (λ (n : ℕ). length (held_at c.give-in-Some.new.self k) + (if k == n then 1 else 0) ≡ length (held_at c.swap.new.self k) + (if k == n then 0 else 0))
    c.in-Some.ensures.kind
    (returned_counted c.swap.new.self c.give-in-Some.new.self (kind_of c.in-Some.before) c.give-in-Some.ensures.replies.others (slot_of c.in-Some.before)
    (let e = c.in-Some.ensures in
    subst (λ (n : ℕ). Holds (slot_of c.in-Some.before) (held_at c.swap.new.self n)) (sym e.kind)
    (subst (Holds (slot_of c.in-Some.before)) (sym e.passed.are)
    (held_got (slot_of c.in-Some.before) word (less (Some (slot_of c.write.new.self)) (held_at c.can_get.new.self kind))))) c.give-in-Some.ensures.held k) in
    omega (arith, took, same, swapped, gave)

pub returns-in-None-clause-put : goal.returns-in-None-clause-put
returns-in-None-clause-put c =
    let kind = number_of c.args.kind in
    let same = c.number-number.ensures in
    let room = subst (λ (k : ℕ). IsLaden (stock_at c.can_get.new.self k).hand → ⊥) (sym same) (c.if-not-can_get.ensures.room refl) in
    let put = subst (λ (k : ℕ). puts_at c.swap.new.self k ≡ puts_at c.can_get.new.self k + 1) same (c.in-None.ensures.put room) in
    record {
      answered = answered_then _ _ _ 1 0 0 0 0 0 (answered_then _ _ _ 1 0 0 0 0 0 c.in_ok-object.ensures.replies.answered c.can_get.ensures.answered)
          c.in-None.ensures.replies.answered;
      puts = omega (arith, put, c.take.ensures.puts kind, c.can_get.ensures.puts kind);
    }

pub returns-in-None-clause-of : goal.returns-in-None-clause-of
returns-in-None-clause-of c =
    c.swap.ensures.replies.answered.of c.args.commons.now
    (c.can_get.ensures.answered.of c.args.commons.now (c.take.ensures.replies.answered.of c.args.commons.now c.requires.of))

pub returns-in-None-clause-held : goal.returns-in-None-clause-held
returns-in-None-clause-held c = λ k.
    let kind = c.number-number.result in
    let word = mark_word c.args.mark.run c.args.mark.at in
    let took = taken_counted c.args.self.now c.take.new.self kind c.take.ensures.replies.others (slot_of c.in_ok-object.object) word c.in_ok-object.ensures.granted k in
    let same = ap length (c.can_get.ensures.same k) in
    let swapped = swapped_counted c.can_get.new.self c.swap.new.self kind c.swap.ensures.replies.others (Some c.write.new.self) None word c.in-None.ensures.passed k in
    omega (arith, took, same, swapped)
