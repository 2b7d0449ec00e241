use Rattle.std.proofs.Common.{◌≡◌, ◌+◌, ℕ, List, length, Some, None, ap, ◌∙◌, refl, rules, arith}
use Rattle.std.specs.Vec.{vec_len}
use Rattle.ebpf_insn.specs.declared.insn.Insn.TheVariants.{Call}
use Rattle.ebpf_insn.specs.Program.{insn_at}
use Rattle.ebpf_verify.specs.CallCount.{is_call_there}
use Rattle.ebpf_machine.specs.declared.holding.Holding.{Holding}
use Rattle.ebpf_machine.specs.RunState.{RunState}
use Rattle.ebpf_machine.specs.Parts.{state_with, largest}
use Rattle.ebpf_machine.proofs.Instructions.Advancing.{ready_few, ready_inside}
use Rattle.ebpf_machine.proofs.Instructions.CallsLeft.{behind, one_added, one_fits, taken_behind}
use Rattle.ebpf_machine.proofs.Instructions.Largest.{within_largest}
use Rattle.ebpf_machine.proofs.Instructions.Swapping.{Swaps, IsSwapped, IsFetched, swapping, swap_finds, shelf_fits, shelf_there, given_held}
use Rattle.ebpf_machine.proofs.Instructions.Swapping.{given_fits, parted_state, fetched_long, fetch_room, missed_state, fetched_state}
use Rattle.ebpf_machine.proofs.Instructions.Swapping.{miss_advanced, fetch_advanced}
use Rattle.ebpf_machine.proofs.helpers.swap.Given.{Over}
use Rattle.ebpf_machine.proofs.helpers.swap.Goals.{After-number-shelf, After-part_with-given, After-swap}
use Rattle.ebpf_machine.proofs.helpers.swap.Goals as goal

pub number-shelf-requires : goal.number-shelf-requires
number-shelf-requires g c = swap_finds c.requires.ready c.requires.at

swaps : (g : Over) (c : After-number-shelf g)
    → Swaps g.O.Objects.store (state_with c.args.fixed.now c.args.parts.now) c.args.objects.now c.number-shelf.result
swaps g c = swapping _ c.requires.ready c.requires.at c.number-shelf.ensures

pub overflow_cast-shelf : goal.overflow_cast-shelf
overflow_cast-shelf g c = let fits = (shelf_fits (swaps g (goal.at.overflow_cast-shelf g c).After-number-shelf)).1 in search rules

pub part_with-given-requires-clause-held : goal.part_with-given-requires-clause-held
part_with-given-requires-clause-held g c = given_held (swaps g (goal.at.part_with-given-requires-clause-held g c).After-number-shelf)

pub swap-requires-clause-shelf : goal.swap-requires-clause-shelf
swap-requires-clause-shelf g c =
    shelf_there g.O.Objects.store.kinds (swaps g (goal.at.swap-requires-clause-shelf g c).After-number-shelf) c.requires.kinds

pub swap-requires-clause-at : goal.swap-requires-clause-at
swap-requires-clause-at g c = ready_inside c.requires.ready

pub swap-requires-clause-given : goal.swap-requires-clause-given
swap-requires-clause-given g c = given_fits _ _ (swaps g (goal.at.swap-requires-clause-given g c).After-number-shelf) c.part_with-given.ensures.parted

-- the run without what it gave
left : (g : Over) (c : After-part_with-given g)
    → state_with c.args.fixed.now c.part_with-given.new.parts
    ≡ record (state_with c.args.fixed.now c.args.parts.now) { held = c.part_with-given.new.parts.held.items }
left g c = parted_state _ _ _ c.part_with-given.ensures.parted

-- the call still is at its pc
called : (g : Over) (c : After-part_with-given g)
    → insn_at c.args.fixed.now.verified.now.program c.part_with-given.new.parts.pc ≡ Some (Call c.requires.at.number)
called g c = ap (λ (x : RunState _). insn_at x.subject.program x.pc) (left g c) ∙ c.requires.at.at

swapped : (g : Over) (c : After-swap g)
    → IsSwapped g.O.Objects.store c.number-shelf.result c.part_with-given.result c.swap.result c.args.objects.now c.swap.new.self
swapped g c =
    record {
      goes = c.swap.ensures.goes;
      outs = c.swap.ensures.outs;
      gone = c.swap.ensures.gone;
      others = c.swap.ensures.others;
      shelves = c.swap.ensures.shelves;
    }

pub keep-requires-clause-few : goal.keep-requires-clause-few
keep-requires-clause-few g c =
    let rows = c.args.fixed.now.verified.now.rows in
    let object = c.in-Some.object in
    let size = g.met.O.Objects.has_size c.swap.new.self object c.in-Some.ensures.out.0 in
    let long = fetched_long g.O.Objects.store rows c.swap.new.self c.number-shelf.result object c.requires.kinds size.0 c.in-Some.ensures.out.1 in
    let bytes = ap length c.bytes.ensures in
    let same = ap (λ (x : RunState _). largest x.subject.rows) (left g (goal.at.keep-requires-clause-few g c).After-part_with-given) in
    omega (arith, long, bytes, same, within_largest rows c.number-shelf.result)

pub hold-requires-clause-held : goal.hold-requires-clause-held
hold-requires-clause-held g c =
    let at = goal.at.hold-requires-clause-held g c in
    let room = fetch_room (state_with c.args.fixed.now c.part_with-given.new.parts) (swaps g at.After-number-shelf) c.part_with-given.ensures.parted
    (swapped g at.After-swap) in
    let held = ap (λ (x : RunState _). length x.held) c.keep.ensures.state in
    let decl = ap (λ (x : RunState _). x.subject.decl.held) c.keep.ensures.state in
    let decl_left = ap (λ (x : RunState _). x.subject.decl.held) (left g at.After-part_with-given) in
    omega (arith, room, held, decl, decl_left)

pub answer-requires-clause-few : goal.answer-requires-clause-few
answer-requires-clause-few g c =
    let few = ready_few c.requires.ready in
    let at = goal.at.answer-requires-clause-few g c in
    let held = ap (λ (x : RunState _). x.executed) c.hold.ensures.state in
    let kept = ap (λ (x : RunState _). x.executed) c.keep.ensures.state in
    let parted = ap (λ (x : RunState _). x.executed) (left g at.After-part_with-given) in
    omega (arith, few, held, kept, parted)

pub answer-requires-clause-inside : goal.answer-requires-clause-inside
answer-requires-clause-inside g c =
    let inside = ready_inside c.requires.ready in
    let at = goal.at.answer-requires-clause-inside g c in
    let held = ap (λ (x : RunState _). x.pc) c.hold.ensures.state in
    let kept = ap (λ (x : RunState _). x.pc) c.keep.ensures.state in
    let parted = ap (λ (x : RunState _). x.pc) (left g at.After-part_with-given) in
    omega (arith, inside, held, kept, parted)

pub push_reserved-requires : goal.push_reserved-requires
push_reserved-requires g c =
    let t = c.part_with-given.new.parts in
    let at = goal.at.push_reserved-requires g c in
    let fits = one_fits c.args.fixed.now.verified.now.program t.pc _ _ (ap is_call_there (called g at.After-part_with-given)) c.part_with-given.ensures.room.replies in
    let long : length t.replies.items ≡ vec_len t.replies = search rules in
    omega (arith, fits, long)

pub answer-requires-in-None-clause-few : goal.answer-requires-in-None-clause-few
answer-requires-in-None-clause-few g c =
    let few = ready_few c.requires.ready in
    let parted = ap (λ (x : RunState _). x.executed) (left g (goal.at.answer-requires-in-None-clause-few g c).After-part_with-given) in
    omega (arith, few, parted)

pub answer-requires-in-None-clause-inside : goal.answer-requires-in-None-clause-inside
answer-requires-in-None-clause-inside g c =
    let inside = ready_inside c.requires.ready in
    let parted = ap (λ (x : RunState _). x.pc) (left g (goal.at.answer-requires-in-None-clause-inside g c).After-part_with-given) in
    omega (arith, inside, parted)

pub answer-requires-in-None-clause-room : goal.answer-requires-in-None-clause-room
answer-requires-in-None-clause-room g c =
    let t = c.part_with-given.new.parts in
    let p = c.args.fixed.now.verified.now.program in
    let room = c.part_with-given.ensures.room in
    let at = goal.at.answer-requires-in-None-clause-room g c in
    let added = one_added p t.pc _ _ (ap is_call_there (called g at.After-part_with-given)) room.replies in
    let long : length c.push_reserved.new.self.items ≡ length t.replies.items + 1 = search rules in
    record {
      output = behind p t.pc _ _ room.output;
      replies = omega (arith, added, long, c.push_reserved.ensures.capacity);
      taken = taken_behind p t.pc _ _ _ room.taken;
      held = room.held;
    }

pub returns-in-Some-clause-advanced : goal.returns-in-Some-clause-advanced
returns-in-Some-clause-advanced g c =
    let at = goal.at.returns-in-Some-clause-advanced g c in
    let it = swaps g at.After-number-shelf in
    let t = c.part_with-given.new.parts in
    let object = c.in-Some.object in
    let h : Holding _ = record { call = c.args.parts.now.pc; kind = c.number-shelf.result; object = object } in
    let size = g.met.O.Objects.has_size c.swap.new.self object c.in-Some.ensures.out.0 in
    let long = fetched_long g.O.Objects.store c.args.fixed.now.verified.now.rows c.swap.new.self c.number-shelf.result object c.requires.kinds size.0
    c.in-Some.ensures.out.1 in
    let fetched : IsFetched g.O.Objects.store c.number-shelf.result object c.args.objects.now c.swap.new.self = record {
      can = c.in-Some.ensures.fetched;
      out = c.in-Some.ensures.out;
      apart = c.in-Some.ensures.apart;
    } in
    let swap : IsSwapped g.O.Objects.store c.number-shelf.result c.part_with-given.result (Some object) c.args.objects.now c.swap.new.self = record {
      goes = c.in-Some.ensures.goes;
      outs = c.in-Some.ensures.outs;
      gone = c.in-Some.ensures.gone;
      others = c.in-Some.ensures.others;
      shelves = c.in-Some.ensures.shelves;
    } in
    rw (
      fetched_state (state_with c.args.fixed.now c.args.parts.now) (state_with c.args.fixed.now t) (state_with c.args.fixed.now c.keep.new.parts)
          (state_with c.args.fixed.now c.hold.new.parts) (state_with c.args.fixed.now c.answer.new.parts) h _ _ refl
          (left g at.After-part_with-given) c.keep.ensures.state c.hold.ensures.state c.answer.ensures.state,
      c.bytes.ensures,
    )
    (fetch_advanced (state_with c.args.fixed.now t) h it c.part_with-given.ensures.parted refl swap fetched long)

pub returns-in-None-clause-advanced : goal.returns-in-None-clause-advanced
returns-in-None-clause-advanced g c =
    let at = goal.at.returns-in-None-clause-advanced g c in
    let it = swaps g at.After-number-shelf in
    let t = c.part_with-given.new.parts in
    let swap : IsSwapped g.O.Objects.store c.number-shelf.result c.part_with-given.result None c.args.objects.now c.swap.new.self = record {
      goes = c.in-None.ensures.goes;
      outs = c.in-None.ensures.outs;
      gone = c.in-None.ensures.gone;
      others = c.in-None.ensures.others;
      shelves = c.in-None.ensures.shelves;
    } in
    rw (missed_state (state_with c.args.fixed.now c.args.parts.now) (state_with c.args.fixed.now t) _
    (state_with c.args.fixed.now c.answer-in-None.new.parts) (left g at.After-part_with-given)
    (ap (λ (replies : List _). record (state_with c.args.fixed.now t) { replies = replies }) c.push_reserved.ensures.items)
    c.answer-in-None.ensures.state)
    (miss_advanced (state_with c.args.fixed.now t) it c.part_with-given.ensures.parted swap c.in-None.ensures.missed)

-- the run after it parted with an object
parted_there : (g : Over) (c : After-part_with-given g)
    → (c.part_with-given.new.parts.pc ≡ c.args.parts.now.pc) × (c.part_with-given.new.parts.exit ≡ c.args.parts.now.exit)
parted_there g c = (ap (λ (r : RunState _). r.pc) (left g c), ap (λ (r : RunState _). r.exit) (left g c))

pub returns-in-Some-clause-next : goal.returns-in-Some-clause-next
returns-in-Some-clause-next g c =
    let there = parted_there g (goal.at.returns-in-Some-clause-next g c).After-part_with-given in (
      ap (λ (r : RunState _). r.pc) c.answer.ensures.state ∙ ap (λ (r : RunState _). r.pc + 1) c.hold.ensures.state
          ∙ ap (λ (r : RunState _). r.pc + 1) c.keep.ensures.state ∙ ap (λ (n : ℕ). n + 1) there.0,
      ap (λ (r : RunState _). r.exit) c.answer.ensures.state ∙ ap (λ (r : RunState _). r.exit) c.hold.ensures.state
          ∙ ap (λ (r : RunState _). r.exit) c.keep.ensures.state ∙ there.1 ∙ c.requires.ready.going,
    )

pub returns-in-None-clause-next : goal.returns-in-None-clause-next
returns-in-None-clause-next g c =
    let there = parted_there g (goal.at.returns-in-None-clause-next g c).After-part_with-given in (
      ap (λ (r : RunState _). r.pc) c.answer-in-None.ensures.state ∙ ap (λ (n : ℕ). n + 1) there.0,
      ap (λ (r : RunState _). r.exit) c.answer-in-None.ensures.state ∙ there.1 ∙ c.requires.ready.going,
    )
