use Rattle.std.proofs.Common.{length, ap, ◌∙◌, arith}
use Rattle.std.proofs.lemmas.List.{nil_from_length}
use Rattle.owners_table.specs.Owning.{SeatView}
use Rattle.worker_pool.specs.EachKind.{all_allocs, all_nulls, all_gets}
use Rattle.ebpf_owned.specs.Claims.{lost}
use Rattle.worker_pool.proofs.EachKind.{balance}
use Rattle.worker_pool.proofs.worker.work_with.Goals as goal

pub returns-clause-used : goal.returns-clause-used
returns-clause-used g c =
    let s = c.serve-ending.new.store in
    let e = c.serve-ending.ensures in
    let n = c.new-store.ensures in
    let g = e.goes in
    let allocs = ap all_allocs n.hands in
    let nulls = ap all_nulls n.hands in
    let gets = ap all_gets n.hands in
    let seat = n.client.0 ∙ c.new-client.ensures.seat in
    let notes = ap (λ (s : SeatView). length s.notes) seat in
    let fetches = ap (λ (s : SeatView). length s.fetches) seat in
    let losses = ap (λ (s : SeatView). lost s.notes) seat in
    let clashed = s.client.clashed in
    let end = c.end.ensures in
    rw (end.hands, end.seat, end.counts.0, end.counts.1) (record {
      even = e.even;
      table = g.table ∙ ap (λ (s : SeatView). s.table) seat;
      held = nil_from_length _ (omega (arith, s.held, balance _ e.even));
      notes = omega (arith, g.notes, s.noted, allocs, notes);
      fetches = omega (arith, g.fetches, s.fetched, gets, fetches);
      few = s.client.few;
      lost = omega (arith, g.lost, clashed, losses, n.client.1);
      granted = omega (arith, g.granted_are, allocs, n.client.1, s.clashes);
      refused = omega (arith, g.refused_are, nulls, n.client.1);
      fetched = omega (arith, g.fetched_are, gets, n.client.2, s.strays);
    })

pub returns-clause-served : goal.returns-clause-served
returns-clause-served g c = let e = c.serve-ending.ensures in record { tickets = e.table; good = e.good; drawn = e.drawn; whole = e.whole }
