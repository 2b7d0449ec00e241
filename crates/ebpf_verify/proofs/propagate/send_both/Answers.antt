use Rattle.std.proofs.Common.{◌<◌, ◌∙◌, Some, length, sym, arith, get_or}
use Rattle.ebpf_flow.specs.Edges.{leads_to}
use Rattle.ebpf_verify.specs.declared.entry.EntryState.TheVariants.{Unreached}
use Rattle.ebpf_verify.specs.Branches.{with_operands}
use Rattle.ebpf_verify.proofs.Sends.{sent_twice, set_again, either_first, two_targets}
use Rattle.ebpf_verify.proofs.propagate.send_both.Goals as goal

pub returns-in_ok-add-clause-sent : goal.returns-in_ok-add-clause-sent
returns-in_ok-add-clause-sent c = λ t lt.
    let left = c.args.branch.left in
    let right = c.args.branch.right in
    let fall = leads_to c.args.edges.fall t in
    let jump = leads_to c.args.edges.jump t in
    let taken = with_operands left right (Some c.args.taken) c.args.state in
    let passed = with_operands left right (Some c.args.passed) c.args.state in
    let came = get_or c.args.entries.now.items t Unreached in
    let between = get_or c.add.new.entries.items t Unreached in
    let again = set_again left right c.args.passed c.args.taken c.args.state c.set_operands.new.state c.set_operands.ensures in
    let inside : t < length c.add.new.entries.items = omega (arith, c.add.ensures.len, lt) in
    let apart = two_targets c.args.edges.fall c.args.edges.jump t (c.fall_goes_first.ensures c.if-fall_goes_first.true) in
    sent_twice jump fall (Some c.set_operands-then-fall_goes_first.new.state) (Some c.set_operands.new.state) taken passed came between (get_or c.send.new.entries.items t Unreached)
    (c.send.ensures.sent t inside) (c.in_ok-add.ensures.sent t lt)
    (sym c.set_operands-then-fall_goes_first.ensures ∙ again) (sym c.set_operands.ensures)
    ∙ either_first fall jump passed taken came apart

pub returns-in_ok-add-2-clause-sent : goal.returns-in_ok-add-2-clause-sent
returns-in_ok-add-2-clause-sent c = λ t lt.
    let left = c.args.branch.left in
    let right = c.args.branch.right in
    let fall = leads_to c.args.edges.fall t in
    let jump = leads_to c.args.edges.jump t in
    let taken = with_operands left right (Some c.args.taken) c.args.state in
    let passed = with_operands left right (Some c.args.passed) c.args.state in
    let came = get_or c.args.entries.now.items t Unreached in
    let between = get_or c.add-else-fall_goes_first.new.entries.items t Unreached in
    let again = set_again left right c.args.taken c.args.passed c.args.state c.set_operands-else-fall_goes_first.new.state c.set_operands-else-fall_goes_first.ensures in
    let inside : t < length c.add-else-fall_goes_first.new.entries.items = omega (arith, c.add-else-fall_goes_first.ensures.len, lt) in
    sent_twice fall jump (Some c.set_operands-else-fall_goes_first-2.new.state) (Some c.set_operands-else-fall_goes_first.new.state) passed taken came between (get_or c.send-else-fall_goes_first.new.entries.items t Unreached)
    (c.send-else-fall_goes_first.ensures.sent t inside) (c.in_ok-add-2.ensures.sent t lt)
    (sym c.set_operands-else-fall_goes_first-2.ensures ∙ again) (sym c.set_operands-else-fall_goes_first.ensures)
