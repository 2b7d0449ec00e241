use Rattle.std.proofs.Common.{Bool, true, false, Some, ap, get_or, ◌∙◌, arith}
use Rattle.ebpf_flow.specs.Edges.{leads_to}
use Rattle.ebpf_state.specs.References.{settled}
use Rattle.ebpf_verify.specs.declared.entry.EntryState.TheVariants.{Unreached}
use Rattle.ebpf_verify.specs.Branches.{is_null_where}
use Rattle.ebpf_verify.proofs.Sends.{sent_twice}
use Rattle.ebpf_verify.proofs.propagate.settle_on.Goals as goal

pub returns-clause-sent : goal.returns-clause-sent
returns-clause-sent c = λ t lt.
    let taken = c.settle.ensures ∙ (ap (λ (null : Bool). settled c.args.call null c.in_ok-taken.taken) c.is_null_where.ensures ∙ ap (settled c.args.call (is_null_where c.args.cond true)) c.in_ok-taken.ensures) in
    let passed = c.settle-2.ensures ∙ ap (λ (null : Bool). settled c.args.call null c.args.state) c.is_null_where-2.ensures in
    sent_twice (leads_to c.args.edges.fall t) (leads_to c.args.edges.jump t) (Some c.settle-2.new.self)
    (Some c.settle.new.self) (Some (settled c.args.call (is_null_where c.args.cond false) c.args.state))
    (Some (settled c.args.call (is_null_where c.args.cond true) c.args.state))
    (get_or c.args.entries.now.items t Unreached) (get_or c.send.new.entries.items t Unreached)
    (get_or c.send-2.new.entries.items t Unreached) (c.send-2.ensures.sent t (omega (arith, c.send.ensures.len, lt)))
    (c.send.ensures.sent t lt) (ap Some passed) (ap Some taken)
