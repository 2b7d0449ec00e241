use Rattle.std.proofs.Common.{◌≡◌, ◌+◌, ◌<◌, List, length, get_or, ap, sym, ◌∙◌, subst, rules}
use Rattle.ebpf_machine.specs.declared.holding.Holding.{Holding}
use Rattle.ebpf_machine.specs.declared.value.Value.TheVariants.{Number}
use Rattle.ebpf_machine.specs.RunState.{RunState}
use Rattle.ebpf_machine.specs.Flows.{object_in}
use Rattle.ebpf_machine.specs.Parts.{state_with}
use Rattle.ebpf_machine.proofs.Instructions.Advancing.{registers_answered, ready_few, ready_inside}
use Rattle.ebpf_machine.proofs.Instructions.CallsLeft.{behind, taken_behind}
use Rattle.ebpf_machine.proofs.Instructions.Returning.{free_object, free_held, free_here}
use Rattle.ebpf_machine.proofs.helpers.give_back.Goals.{Start}
use Rattle.ebpf_machine.proofs.helpers.give_back.Goals as goal

pub object-requires : goal.object-requires
object-requires g c = rw (c.get.ensures.value) (free_object c.requires.ready c.requires.at)

pub place_of-place-requires : goal.place_of-place-requires
place_of-place-requires g c =
    free_held c.deref.result.now c.object.result c.requires.ready c.requires.at
    (ap object_in (sym c.get.ensures.value) ∙ c.object.ensures) c.deref.ensures.value

pub answer-requires-clause-few : goal.answer-requires-clause-few
answer-requires-clause-few g c = ready_few c.requires.ready

pub answer-requires-clause-inside : goal.answer-requires-clause-inside
answer-requires-clause-inside g c = ready_inside c.requires.ready

pub returns-clause-advanced : goal.returns-clause-advanced
returns-clause-advanced g c =
    let items = c.deref.ensures.value in
    let inside : c.place_of-place.result < length c.args.parts.now.held.items =
    subst (λ (hs : List (Holding _)). c.place_of-place.result < length hs) items c.place_of-place.ensures.inside in
    let named : (get_or c.args.parts.now.held.items c.place_of-place.result c.take_at-kind.result).call ≡ c.object.result =
    subst (λ (hs : List (Holding _)). (get_or hs c.place_of-place.result c.take_at-kind.result).call ≡ c.object.result) items
    (c.place_of-place.ensures.value c.take_at-kind.result) in
    free_here (state_with c.args.fixed.now c.answer.new.parts) c.place_of-place.result c.object.result c.requires.ready c.requires.at
    (ap object_in (sym c.get.ensures.value) ∙ c.object.ensures) inside c.take_at-kind.ensures.value named
    (c.answer.ensures.state ∙ ap (λ (hs : List (Holding _)).
    record (state_with c.args.fixed.now c.args.parts.now) {
      held = hs;
      pc = c.args.parts.now.pc + 1;
      registers = registers_answered
          c.args.parts.now.registers (Number 0);
      executed = c.args.parts.now.executed + 1;
    }) c.take_at-kind.ensures.items) (record {
      back = c.give.ensures.back;
      others = c.give.ensures.others;
      goes = c.give.ensures.goes;
      outs = c.give.ensures.outs;
      shelves = c.give.ensures.shelves;
    })

pub answer-requires-clause-room : goal.answer-requires-clause-room
answer-requires-clause-room g c =
    let room = c.requires.room in
    record {
      output = behind c.args.fixed.now.verified.now.program c.args.parts.now.pc _ _ room.output;
      replies = behind c.args.fixed.now.verified.now.program c.args.parts.now.pc _ _ room.replies;
      taken = taken_behind c.args.fixed.now.verified.now.program c.args.parts.now.pc _ _ _ room.taken;
      held = search rules;
    }

pub returns-clause-next : goal.returns-clause-next
returns-clause-next g c =
    (ap (λ (r : RunState _). r.pc) c.answer.ensures.state, ap (λ (r : RunState _). r.exit) c.answer.ensures.state ∙ c.requires.ready.going)
