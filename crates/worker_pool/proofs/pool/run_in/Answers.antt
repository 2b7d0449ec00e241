use Rattle.std.proofs.Common.{rules, ◌≡◌, ◌<◌, length, arith}
use Rattle.worker_pool.specs.Settling.{AreLeft}
use Rattle.worker_pool.proofs.Admitted.{admitted}
use Rattle.worker_pool.proofs.EachKind.{have_hands, have_made}
use Rattle.worker_pool.proofs.pool.run_in.Given.{Over}
use Rattle.worker_pool.proofs.pool.run_in.Goals.{After-destroy_empty}
use Rattle.worker_pool.proofs.pool.run_in.Goals as goal

-- the first part is that what is passed is not too large
pub new-requires : goal.new-requires
new-requires g c =
    let a = admitted _ _ _ c.requires.fine in
    let some = a.some in
    let few = a.few in (omega arith, (c.requires.blanks, search rules))

pub serve_all-done-requires-after_bounds : goal.serve_all-done-requires-after_bounds
serve_all-done-requires-after_bounds g c κs within =
    let a = admitted _ _ _ c.requires.fine in
    let some = a.some in
    let few = a.few in (
      omega arith,
      (
        record { known = c.requires.known; can = a.can; few = a.few_jobs },
        (search rules, (search rules, (search rules, (search rules, (search rules, search rules))))),
      ),
    )

-- what is left when the workers are done
left : (g : Over) (c : After-destroy_empty g)
    → AreLeft c.args.given.now.host.now.programs.items c.args.given.now.jobs.now c.args.given.now.owners.now c.args.seats.items
    c.in-Ok.setup.room c.in-Ok.setup.supplies c.serve_all-done.new.parts c.in-Ok.setup.places c.serve_all-done.result
left g c =
    let a = admitted _ _ _ c.requires.fine in
    let some = a.some in
    let few = a.few in
    let p = c.in-Ok.ensures in
    let o = p.opened in
    let s = c.serve_all-done.ensures.served in
    let places = p.places.1 in
    let all : length c.args.seats.items ≡ c.len.result = search rules in
    let more : 0 < length c.args.seats.items = search rules in
    record {
      served = s;
      made = have_made _ _ _ _ _ o s.even all;
      hands = have_hands _ _ _ _ _ o s.even more;
      some = more;
      few = search rules;
      few_jobs = a.few_jobs;
      size = p.size;
      limit = search rules;
      tickets = search rules;
      places_are = (p.places.0, search rules);
      jobs_done = search rules;
    }

pub settle-requires : goal.settle-requires
settle-requires g c = (omega arith, (c.args.seats.items, left g c))

pub returns-clause-done : goal.returns-clause-done
returns-clause-done g c = (c.settle.ensures c.args.seats.items (left g (goal.at.returns-clause-done g c).After-destroy_empty)).done

pub returns-clause-seats : goal.returns-clause-seats
returns-clause-seats g c = (c.settle.ensures c.args.seats.items (left g (goal.at.returns-clause-seats g c).After-destroy_empty)).seats
