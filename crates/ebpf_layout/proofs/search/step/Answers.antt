use Rattle.std.proofs.Common.{◌≡◌, ◌-◌, length, ap, ◌∙◌, arith}
use Rattle.ebpf_layout.specs.Search.{is_done}
use Rattle.ebpf_layout.proofs.Searching.{top_inside, top_long, jump_leads, fall_leads, search_close, smaller_done}
use Rattle.ebpf_layout.proofs.search.step.Goals as goal

pub jump_from-jump-requires : goal.jump_from-jump-requires
jump_from-jump-requires c =
    omega (arith, top_inside c.args.program.now _ _ _ c.args.slot c.requires.so_far c.requires.last, c.requires.so_far.formed.few)

pub follow-requires-clause-edge : goal.follow-requires-clause-edge
follow-requires-clause-edge c = rw c.jump_from-jump.ensures (jump_leads c.args.program.now c.args.slot)

pub fall_from-fall-requires : goal.fall_from-fall-requires
fall_from-fall-requires c =
    omega (arith, top_inside c.args.program.now _ _ _ c.args.slot c.requires.so_far c.requires.last, c.requires.so_far.formed.few)

pub follow-requires-2-clause-edge : goal.follow-requires-2-clause-edge
follow-requires-2-clause-edge c = rw c.fall_from-fall.ensures (fall_leads c.args.program.now c.args.slot)

pub leave-requires : goal.leave-requires
leave-requires c =
    let s = c.args.search.now in
    let one : c.follow.new.search ≡ s = c.in_ok-follow.ensures.same c.if-branch.false in
    let two : c.follow-2.new.search ≡ s = c.in_ok-follow-2.ensures.same c.if-branch-2.false ∙ one in
    rw two (omega (
      arith,
      top_inside c.args.program.now s.marks.items s.path.items s.order.items c.args.slot c.requires.so_far c.requires.last,
      c.requires.so_far.all,
    ))

pub returns-clause-so_far : goal.returns-clause-so_far
returns-clause-so_far c =
    let s = c.args.search.now in
    let one : c.follow.new.search ≡ s = c.in_ok-follow.ensures.same c.if-branch.false in
    let two : c.follow-2.new.search ≡ s = c.in_ok-follow-2.ensures.same c.if-branch-2.false ∙ one in
    let jump = rw c.jump_from-jump.ensures at c.in_ok-follow.ensures.done c.if-branch.false in
    let fall = rw (c.fall_from-fall.ensures, one) at c.in_ok-follow-2.ensures.done c.if-branch-2.false in
    rw (c.in_ok-leave.ensures.marks, c.in_ok-leave.ensures.path, c.in_ok-leave.ensures.order, two)
    (search_close c.args.program.now s.marks.items s.path.items s.order.items (length s.path.items - 1) c.args.slot c.requires.so_far
    (top_long s.path.items c.args.slot c.requires.last) c.requires.last jump fall
    (top_inside c.args.program.now s.marks.items s.path.items s.order.items c.args.slot c.requires.so_far c.requires.last))

pub returns-clause-smaller : goal.returns-clause-smaller
returns-clause-smaller c =
    let s = c.args.search.now in
    let one : c.follow.new.search ≡ s = c.in_ok-follow.ensures.same c.if-branch.false in
    let two : c.follow-2.new.search ≡ s = c.in_ok-follow-2.ensures.same c.if-branch-2.false ∙ one in
    let inside = top_inside c.args.program.now s.marks.items s.path.items s.order.items c.args.slot c.requires.so_far c.requires.last in
    rw (c.in_ok-leave.ensures.marks, two)
    (smaller_done s.marks.items c.args.slot (length s.order.items) (omega (arith, inside, c.requires.so_far.all))
    (ap is_done (c.requires.so_far.marked.path_mark c.args.slot (length s.path.items - 1) c.requires.last)))
