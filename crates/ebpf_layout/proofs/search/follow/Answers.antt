use Rattle.std.proofs.Common.{◌<◌, length, arith}
use Rattle.std.proofs.lemmas.Result.{err_from_is_err_and}
use Rattle.ebpf_layout.proofs.Searching.{top_inside, edge_inside, some_at, follow_refused, follow_enters, smaller_open}
use Rattle.ebpf_layout.proofs.search.follow.Goals as goal

pub new_slot-requires-clause-from : goal.new_slot-requires-clause-from
new_slot-requires-clause-from c =
    let s = c.args.search.now in
    omega (arith, top_inside c.args.program.now s.marks.items s.path.items s.order.items c.args.slot c.requires.so_far c.requires.last, c.requires.so_far.all)

pub new_slot-requires-clause-inside : goal.new_slot-requires-clause-inside
new_slot-requires-clause-inside c =
    edge_inside c.args.program.now c.args.search.now.marks.items c.args.slot c.args.edge c.requires.so_far.all c.requires.edge

pub returns-in_err-to-clause-refused : goal.returns-in_err-to-clause-refused
returns-in_err-to-clause-refused c =
    let s = c.args.search.now in
    let p = err_from_is_err_and c.from_residual.result c.from_residual.ensures.1 in
    rw (p.1, p.2) (follow_refused c.args.program.now s.marks.items s.path.items s.order.items c.args.slot c.args.edge c.in_err-to.field-0.0 c.requires.so_far
    c.requires.last c.requires.edge c.in_err-to.ensures.closes)

pub enter-requires : goal.enter-requires
enter-requires c =
    let found = some_at c.in_ok-to.field-0 c.in-Some.to _ c.in-Some.is c.in_ok-to.ensures.found in
    some_at c.args.edge c.in-Some.to (λ to. to < length c.args.search.now.marks.items) found.0
    (edge_inside c.args.program.now c.args.search.now.marks.items c.args.slot c.args.edge c.requires.so_far.all c.requires.edge)

pub returns-in_ok-enter-in-Some-clause-so_far : goal.returns-in_ok-enter-in-Some-clause-so_far
returns-in_ok-enter-in-Some-clause-so_far c on =
    let s = c.args.search.now in
    let found = some_at c.in_ok-to.field-0 c.in-Some.to _ c.in-Some.is c.in_ok-to.ensures.found in
    rw (c.in_ok-enter-in-Some.ensures.marks, c.in_ok-enter-in-Some.ensures.path, c.in_ok-enter-in-Some.ensures.order)
    (follow_enters c.args.program.now s.marks.items s.path.items s.order.items c.args.slot c.args.edge c.in-Some.to c.requires.so_far c.requires.last
    c.requires.edge found.0 found.1)

pub returns-in_ok-enter-in-Some-clause-smaller : goal.returns-in_ok-enter-in-Some-clause-smaller
returns-in_ok-enter-in-Some-clause-smaller c on =
    let s = c.args.search.now in
    let found = some_at c.in_ok-to.field-0 c.in-Some.to _ c.in-Some.is c.in_ok-to.ensures.found in
    let inside = some_at c.args.edge c.in-Some.to (λ to. to < length c.args.search.now.marks.items) found.0
    (edge_inside c.args.program.now c.args.search.now.marks.items c.args.slot c.args.edge c.requires.so_far.all c.requires.edge) in
    rw c.in_ok-enter-in-Some.ensures.marks (smaller_open s.marks.items c.in-Some.to (length s.path.items) inside found.1)
