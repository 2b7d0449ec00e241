use Rattle.std.proofs.Common.{length, refl, ap, arith}
use Rattle.ebpf_object.specs.Object.{slot_of}
use Rattle.ebpf_owned.specs.Claims.{lost}
use Rattle.ebpf_owned.proofs.Holding.{held_before, held_after, length-without}
use Rattle.worker_pool.proofs.store.StoreObjects.give.Goals as goal

pub invariant_of-self : goal.invariant_of-self
invariant_of-self g c =
    let old = c.args.self.now in
    let seat = c.release-bare.ensures.seat in
    let rest = c.release-bare.ensures.rest in
    let m = c.give.ensures in record {
      noted = omega (arith, ap (λ s. length s.notes) seat, m.allocs, old.noted);
      fetched = omega (arith, ap (λ s. length s.fetches) seat, m.gets, old.fetched);
      held = omega (arith, ap (λ s. length s.held) seat, length-without (slot_of c.args.object) old.client.seat.held c.requires.out, m.allocs, m.frees, m.puts, m.gets, old.held);
      clashes = omega (arith, rest.0, m.allocs, old.clashes);
      strays = omega (arith, rest.1, m.gets, old.strays);
    }

pub returns-clause-back : goal.returns-clause-back
returns-clause-back g c other now =
    held_before _ _ (slot_of other) _ _ refl (ap (λ s. s.held) c.release-bare.ensures.seat) c.requires.out c.args.self.now.client.once now

pub returns-clause-others : goal.returns-clause-others
returns-clause-others g c other had apart =
    (held_after _ _ (slot_of other) _ _ refl (ap (λ s. s.held) c.release-bare.ensures.seat) c.requires.out had apart, refl)

pub returns-clause-goes : goal.returns-clause-goes
returns-clause-goes g c =
    let seat = c.release-bare.ensures.seat in
    let rest = c.release-bare.ensures.rest in
    let m = c.give.ensures in record {
      table = ap (λ s. s.table) seat;
      notes = omega (arith, ap (λ s. length s.notes) seat, m.allocs);
      fetches = omega (arith, ap (λ s. length s.fetches) seat, m.gets);
      lost = omega (arith, ap (λ s. lost s.notes) seat, rest.0);
      granted_are = omega (arith, m.allocs, rest.0);
      refused_are = omega (arith, m.nulls, rest.0);
      fetched_are = omega (arith, m.gets, rest.1);
    }
