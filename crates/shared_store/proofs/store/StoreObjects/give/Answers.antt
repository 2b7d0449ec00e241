use Rattle.std.proofs.Common.{◌≡◌, ◌+◌, ◌==◌, if◌then◌else◌, ℕ, length, refl, subst}
use Rattle.std.specs.Arc.{arc_value}
use Rattle.ebpf_object.specs.Object.{kind_of}
use Rattle.shared_store.specs.Tools.{held_at}
use Rattle.shared_store.proofs.ByKind.{given_back, given_counted, given_others, once_at}
use Rattle.shared_store.proofs.store.StoreObjects.give.Goals as goal

pub invariant_of-self : goal.invariant_of-self
invariant_of-self c = record { of = c.give.ensures.replies.answered.of (arc_value c.args.self.now.house).commons c.args.self.now.of; home_is = c.args.self.now.home_is }

pub returns-clause-outs : goal.returns-clause-outs
returns-clause-outs c =
    subst (λ (kind : ℕ). (k : ℕ) → length (held_at c.give.new.self k) + (if k == kind then 1 else 0) ≡ length (held_at c.args.self.now.tools k)) c.requires.kind
    (given_counted c.args.self.now.tools c.give.new.self (kind_of c.args.object) c.give.ensures.replies.others c.args.object refl c.requires.out
    (once_at c.args.self.now.tools c.known.ensures (kind_of c.args.object)) c.give.ensures.held)

pub returns-clause-back : goal.returns-clause-back
returns-clause-back c =
    given_back c.args.self.now.tools c.give.new.self (kind_of c.args.object) c.give.ensures.replies.others c.args.object refl c.requires.out
    (once_at c.args.self.now.tools c.known.ensures (kind_of c.args.object)) c.give.ensures.held

pub returns-clause-others : goal.returns-clause-others
returns-clause-others c other out apart = (
  given_others c.args.self.now.tools c.give.new.self (kind_of c.args.object) c.give.ensures.replies.others c.args.object refl c.requires.out
      (once_at c.args.self.now.tools c.known.ensures (kind_of c.args.object)) c.give.ensures.held other out apart,
  refl,
)
