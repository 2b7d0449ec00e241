use Rattle.std.proofs.Common.{◌≡◌, ◌≢◌, ◌⊎◌, inr, ℕ, ◌+◌, List, [], ◌∷◌, ◌++◌, Option, Some, length, sym, subst, ap, ◌∙◌, arith}
use Rattle.object_cache.specs.ShelfView.{one_if}
use Rattle.owners_table.specs.Marking.{mark_word}
use Rattle.owners_table.specs.Owning.{Holds}
use Rattle.ebpf_object.specs.Object.{kind_of, slot_of}
use Rattle.ebpf_owned.specs.Claims.{lost}
use Rattle.ebpf_owned.specs.Exchanges.{less}
use Rattle.ebpf_owned.proofs.Exchanging.{passed_some}
use Rattle.ebpf_owned.proofs.Passing.{first_of}
use Rattle.worker_pool.proofs.Passing.{length_less}
use Rattle.worker_pool.proofs.store.StoreObjects.swap.Goals as goal

pub invariant_of-self : goal.invariant_of-self
invariant_of-self g c =
    let old = c.args.self.now in
    let s = c.shelved-given.ensures in
    let m = c.in_default.ensures.moved in
    let given = ap one_if s.same in record {
      noted = omega (arith, ap length s.notes.0, m.allocs, old.noted);
      fetched = omega (arith, ap length s.notes.1, m.gets, old.fetched);
      held = omega (arith, length_less c.args.given (λ o. kind_of o ≡ c.args.shelf) old.client.seat.held _ c.requires.given s.held, given, m.allocs, m.frees, m.puts, m.gets, old.held);
      clashes = omega (arith, s.rest.0, m.allocs, old.clashes);
      strays = omega (arith, s.rest.1, m.gets, old.strays);
    }

pub invariant_of-self-in-Ok-1 : goal.invariant_of-self-in-Ok-1
invariant_of-self-in-Ok-1 g c =
    let old = c.args.self.now in
    let s = c.shelved-given.ensures in
    let f = c.in-Ok.ensures in
    let m = c.in-Some.ensures.moved in
    let given = ap one_if s.same in record {
      noted = omega (arith, ap length f.notes.0, ap length s.notes.0, m.allocs, old.noted);
      fetched = omega (arith, f.notes.1, ap length s.notes.1, m.gets, old.fetched);
      held = omega (arith, length_less c.args.given (λ o. kind_of o ≡ c.args.shelf) old.client.seat.held _ c.requires.given s.held, ap length f.fetched.0, given, m.allocs, m.frees, m.puts, m.gets, old.held);
      clashes = omega (arith, f.rest.0, s.rest.0, m.allocs, old.clashes);
      strays = omega (arith, f.no_stray, s.rest.1, m.gets, old.strays);
    }

pub invariant_of-self-in-Err : goal.invariant_of-self-in-Err
invariant_of-self-in-Err g c =
    let old = c.args.self.now in
    let s = c.shelved-given.ensures in
    let f = c.in-Err.ensures in
    let m = c.in-Some.ensures.moved in
    let b = c.give.ensures in
    let given = ap one_if s.same in record {
      noted = omega (arith, ap length f.notes.0, ap length s.notes.0, m.allocs, b.allocs, old.noted);
      fetched = omega (arith, f.notes.1, ap length s.notes.1, m.gets, b.gets, old.fetched);
      held = omega (arith, length_less c.args.given (λ o. kind_of o ≡ c.args.shelf) old.client.seat.held _ c.requires.given s.held, ap length f.stray.0, given, m.allocs, m.frees, m.puts, m.gets, b.allocs, b.frees, b.puts, b.gets, old.held);
      clashes = omega (arith, f.rest.0, s.rest.0, m.allocs, b.allocs, old.clashes);
      strays = omega (arith, f.stray.1, s.rest.1, m.gets, b.gets, old.strays);
    }

pub returns-in-Ok-clause-seat : goal.returns-in-Ok-clause-seat
returns-in-Ok-clause-seat g c =
    let held = c.args.self.now.client.seat.held in
    let left = c.slot_in-left.ensures in
    let s = c.shelved-given.ensures in
    let f = c.in-Ok.ensures in
    passed_some slot_of c.args.given c.slot_in-left.result held left (first_of c.args.given (λ o. Holds (slot_of o) held) (λ o. kind_of o ≡ c.args.shelf) c.requires.given)
    (slot_of c.in-Ok.owned) (slot_of c.in-Some.object) (mark_word c.args.self.now.client.job c.args.at) (mark_word c.shelved-given.new.self.job c.args.at) c.shelved-given.new.self.seat.held c.fetch.new.self.seat.held
    (s.held ∙ ap (λ l. less l held) (sym left)) (ap slot_of (sym c.in-Ok.ensures.object)) (ap (λ (j : ℕ). mark_word j c.args.at) s.rest.2) f.fetched.0 f.fetched.1 f.apart

pub returns-in-Err-clause-due : goal.returns-in-Err-clause-due
returns-in-Err-clause-due g c =
    let f = c.in-Err.ensures.due in
    let fetches = c.shelved-given.ensures.notes.1 in
    let slot = slot_of c.in-Some.object in
    let found = f.0 in
    let noted = f.1 ∙ ap (λ (ns : List (ℕ × ℕ)). ns ++ (slot, found) ∷ []) fetches in
    let why = subst (λ (left : Option ℕ). (found ≢ c.args.shelf + 1) ⊎ (left ≡ Some slot)) c.slot_in-left.ensures f.2 in
    inr (slot, (found, noted, why))

pub returns-in_default-clause-goes : goal.returns-in_default-clause-goes
returns-in_default-clause-goes g c =
    let s = c.shelved-given.ensures in
    let m = c.in_default.ensures.moved in
    let losses = ap lost s.notes.0 in record {
      table = s.table;
      notes = omega (arith, ap length s.notes.0, m.allocs);
      fetches = omega (arith, ap length s.notes.1, m.gets);
      lost = omega (arith, losses, s.rest.0);
      granted_are = omega (arith, m.allocs, s.rest.0);
      refused_are = omega (arith, m.nulls, s.rest.0);
      fetched_are = omega (arith, m.gets, s.rest.1);
    }

pub returns-in-Ok-clause-goes : goal.returns-in-Ok-clause-goes
returns-in-Ok-clause-goes g c =
    let old = c.args.self.now in
    let s = c.shelved-given.ensures in
    let f = c.in-Ok.ensures in
    let m = c.in-Some.ensures.moved in
    let losses = ap lost f.notes.0 ∙ ap lost s.notes.0 in record {
      table = f.table ∙ s.table;
      notes = omega (arith, ap length f.notes.0, ap length s.notes.0, m.allocs);
      fetches = omega (arith, f.notes.1, ap length s.notes.1, m.gets);
      lost = omega (arith, losses, f.rest.0, s.rest.0);
      granted_are = omega (arith, m.allocs, f.rest.0, s.rest.0);
      refused_are = omega (arith, m.nulls, f.rest.0, s.rest.0);
      fetched_are = omega (arith, m.gets, f.no_stray, s.rest.1, old.strays);
    }

pub returns-in-Err-clause-goes : goal.returns-in-Err-clause-goes
returns-in-Err-clause-goes g c =
    let s = c.shelved-given.ensures in
    let f = c.in-Err.ensures in
    let m = c.in-Some.ensures.moved in
    let b = c.give.ensures in
    let losses = ap lost f.notes.0 ∙ ap lost s.notes.0 in record {
      table = f.table ∙ s.table;
      notes = omega (arith, ap length f.notes.0, ap length s.notes.0, m.allocs, b.allocs);
      fetches = omega (arith, f.notes.1, ap length s.notes.1, m.gets, b.gets);
      lost = omega (arith, losses, f.rest.0, s.rest.0);
      granted_are = omega (arith, m.allocs, b.allocs, f.rest.0, s.rest.0);
      refused_are = omega (arith, m.nulls, b.nulls, f.rest.0, s.rest.0);
      fetched_are = omega (arith, m.gets, b.gets, f.stray.1, s.rest.1);
    }
