use Rattle.std.proofs.Common.{Result, subst, ◌≡◌, ◌+◌, length, rules, arith}
use Rattle.std.specs.Prelude.{IsOk}
use Rattle.std.specs.Vec.{vec_len}
use Rattle.ebpf_machine.proofs.Instructions.CallsLeft.{taken_added, taken_fits}
use Rattle.ebpf_machine.proofs.helpers.keep.Goals as goal

pub unreachable-requires : goal.unreachable-requires
unreachable-requires g c =
    let p = c.args.fixed.now.verified.now.program in
    let fits = taken_fits p c.args.parts.now.pc _ (length c.args.bytes.now) _ _ c.requires.called c.requires.few c.requires.room.taken in
    let long : length c.args.parts.now.taken.items ≡ vec_len c.args.parts.now.taken = search rules in
    let ok = c.extend_from_slice.ensures.succeeds (omega (arith, fits, long)) in
    let failed = subst (λ (r : Result _ _). IsOk r) c.in_default.is ok in
    absurd (cc)

pub returns-clause-room : goal.returns-clause-room
returns-clause-room g c =
    let room = c.requires.room in
    let p = c.args.fixed.now.verified.now.program in
    let added = taken_added p c.args.parts.now.pc _ (length c.args.bytes.now) _ _ c.requires.called c.requires.few room.taken in
    let long : length c.extend_from_slice.new.self.items ≡ length c.args.parts.now.taken.items + length c.args.bytes.now = search rules in
    record { output = room.output; replies = room.replies; taken = omega (arith, added, long, c.in-Ok.ensures.capacity); held = room.held }
