use Rattle.std.proofs.Common.{◌≡◌, ◌+◌, List, length, ap, ◌∙◌, refl, rules, arith}
use Rattle.std.specs.Vec.{vec_len}
use Rattle.ebpf_machine.specs.World.{Kind, image_at}
use Rattle.ebpf_machine.specs.RunState.{RunState}
use Rattle.ebpf_machine.specs.Parts.{state_with}
use Rattle.ebpf_verify.specs.CallCount.{is_call_there}
use Rattle.ebpf_machine.proofs.Instructions.Advancing.{ready_few, ready_inside}
use Rattle.ebpf_machine.proofs.Instructions.CallsLeft.{behind, one_added, one_fits, taken_behind}
use Rattle.ebpf_machine.proofs.Instructions.Granting.{asking, ask_finds, ask_known, asks_room, kind_fits, kind_there, granted_state, grant_advanced}
use Rattle.ebpf_machine.proofs.Instructions.Granting.{null_advanced}
use Rattle.ebpf_machine.proofs.helpers.ask.Goals.{Start, After-number-kind}
use Rattle.ebpf_machine.proofs.helpers.ask.Goals as goal

pub number-kind-requires : goal.number-kind-requires
number-kind-requires g c = ask_finds c.requires.ready c.requires.at

pub overflow_cast-kind : goal.overflow_cast-kind
overflow_cast-kind g c = let fits = (kind_fits (asking _ c.requires.ready c.requires.at c.number-kind.ensures)).1 in search rules

pub take-requires-clause-at : goal.take-requires-clause-at
take-requires-clause-at g c = ready_inside c.requires.ready

pub take-requires-clause-kind : goal.take-requires-clause-kind
take-requires-clause-kind g c =
    kind_there g.O.Objects.store.kinds (asking _ c.requires.ready c.requires.at c.number-kind.ensures) c.requires.kinds

pub hold-requires-clause-held : goal.hold-requires-clause-held
hold-requires-clause-held g c =
    let asks = asking _ c.requires.ready c.requires.at c.number-kind.ensures in
    asks_room asks (ask_known asks)

pub hold-requires-clause-room : goal.hold-requires-clause-room
hold-requires-clause-room g c =
    let room = c.requires.room in
    record {
      output = room.output;
      replies = room.replies;
      taken = taken_behind c.args.fixed.now.verified.now.program c.args.parts.now.pc _ _ _ room.taken;
      held = room.held;
    }

pub hold-requires-clause-called : goal.hold-requires-clause-called
hold-requires-clause-called g c = ap is_call_there c.requires.at.at

pub answer-requires-clause-few : goal.answer-requires-clause-few
answer-requires-clause-few g c =
    let few = ready_few c.requires.ready in let same = ap (λ (r : RunState _). r.executed) c.hold.ensures.state in omega (arith, few, same)

pub answer-requires-clause-inside : goal.answer-requires-clause-inside
answer-requires-clause-inside g c =
    let inside = ready_inside c.requires.ready in let same = ap (λ (r : RunState _). r.pc) c.hold.ensures.state in omega (arith, inside, same)

pub push_reserved-requires : goal.push_reserved-requires
push_reserved-requires g c =
    let fits = one_fits c.args.fixed.now.verified.now.program c.args.parts.now.pc _ _ (ap is_call_there c.requires.at.at) c.requires.room.replies in
    let long : length c.args.parts.now.replies.items ≡ vec_len c.args.parts.now.replies = search rules in
    omega (arith, fits, long)

pub answer-requires-in-None-clause-few : goal.answer-requires-in-None-clause-few
answer-requires-in-None-clause-few g c = ready_few c.requires.ready

pub answer-requires-in-None-clause-inside : goal.answer-requires-in-None-clause-inside
answer-requires-in-None-clause-inside g c = ready_inside c.requires.ready

pub returns-in-Some-clause-advanced : goal.returns-in-Some-clause-advanced
returns-in-Some-clause-advanced g c =
    let asks = asking _ c.requires.ready c.requires.at c.number-kind.ensures in
    rw (granted_state (state_with c.args.fixed.now c.args.parts.now) (state_with c.args.fixed.now c.hold.new.parts)
    (state_with c.args.fixed.now c.answer.new.parts) _ _ refl c.hold.ensures.state c.answer.ensures.state)
    (grant_advanced _ asks (ask_known asks) refl
    (record {
      can = c.in-Some.ensures.granted;
      out = c.in-Some.ensures.out;
      apart = c.in-Some.ensures.apart;
      image = c.in-Some.ensures.image ∙ ap (λ (ks : List Kind). image_at ks c.number-kind.result) c.requires.kinds;
      goes = c.in-Some.ensures.goes;
      outs = c.in-Some.ensures.outs;
      kept = c.take.ensures.others;
      shelves = c.take.ensures.shelves;
    }))

pub returns-in-None-clause-advanced : goal.returns-in-None-clause-advanced
returns-in-None-clause-advanced g c =
    let asks = asking _ c.requires.ready c.requires.at c.number-kind.ensures in
    rw (c.answer-in-None.ensures.state, c.push_reserved.ensures.items)
    (null_advanced asks (ask_known asks)
    (record {
      can = c.in-None.ensures.refused;
      goes = c.in-None.ensures.goes;
      outs = c.in-None.ensures.outs;
      kept = c.take.ensures.others;
      shelves = c.take.ensures.shelves;
    }))

pub answer-requires-in-None-clause-room : goal.answer-requires-in-None-clause-room
answer-requires-in-None-clause-room g c =
    let room = c.requires.room in
    let added = one_added c.args.fixed.now.verified.now.program c.args.parts.now.pc _ _ (ap is_call_there c.requires.at.at) room.replies in
    let long : length c.push_reserved.new.self.items ≡ length c.args.parts.now.replies.items + 1 = search rules in
    record {
      output = behind c.args.fixed.now.verified.now.program c.args.parts.now.pc _ _ room.output;
      replies = omega (arith, added, long, c.push_reserved.ensures.capacity);
      taken = taken_behind c.args.fixed.now.verified.now.program c.args.parts.now.pc _ _ _ room.taken;
      held = room.held;
    }

pub returns-in-Some-clause-next : goal.returns-in-Some-clause-next
returns-in-Some-clause-next g c = (
  ap (λ (r : RunState _). r.pc) c.answer.ensures.state ∙ ap (λ (r : RunState _). r.pc + 1) c.hold.ensures.state,
  ap (λ (r : RunState _). r.exit) c.answer.ensures.state ∙ (ap (λ (r : RunState _). r.exit) c.hold.ensures.state ∙ c.requires.ready.going),
)

pub returns-in-None-clause-next : goal.returns-in-None-clause-next
returns-in-None-clause-next g c =
    (ap (λ (r : RunState _). r.pc) c.answer-in-None.ensures.state, ap (λ (r : RunState _). r.exit) c.answer-in-None.ensures.state ∙ c.requires.ready.going)
