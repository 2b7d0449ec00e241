use Rattle.std.proofs.Common.{◌≡◌, ◌≢◌, ℕ, ◌≤◌, ◌/◌, [], ◌∷◌, ◌++◌, true, false, Some, None, length, refl, ap, ◌∙◌, arith, rules}
use Rattle.std.proofs.lemmas.Bool.Decides.{nat_tests}
use Rattle.std.proofs.lemmas.List.{append-nil, length_push}
use Rattle.ebpf_insn.specs.declared.fault.DecodeCode.TheVariants.{WrongLength, ProgramTooLong}
use Rattle.ebpf_insn.specs.declared.fault.DecodeFault.TheVariants.{Bad}
use Rattle.ebpf_insn.specs.Program.{instructions}
use Rattle.ebpf_insn.specs.Encoding.{IsProgram}
use Rattle.ebpf_insn.specs.Decoding.{fault_at, decode_fault}
use Rattle.ebpf_insn.proofs.FaultLemmas.{lowest-zero, lowest-more_none}
use Rattle.ebpf_insn.proofs.ProgramBytes.{IsReadSoFar, read_none, read_half, read_more, is_even, refused_at, refusal_is, fault_from_lowest}
use Rattle.ebpf_insn.proofs.ProgramBytes.{fault_at_is, limit_fault, half_fault, none_pending, is_well_formed, is_program, same_program}
use Rattle.ebpf_insn.proofs.ProgramBytes.{instructions-append}
use Rattle.ebpf_insn.proofs.decode.decode.Goals.{In-Err}
use Rattle.ebpf_insn.proofs.decode.decode.Goals as goal

pub returns-then-is_empty-clause-only : goal.returns-then-is_empty-clause-only
returns-then-is_empty-clause-only c p h =
    let refused : decode_fault c.args.bytes.now ≡ Some (0, WrongLength) = search rules in
    rw c.bad.ensures (refusal_is c.args.bytes.now p (Bad 0 WrongLength) h refused)

pub loop-slot-init : goal.loop-slot-init
loop-slot-init c = record {
  even = is_even (length c.args.bytes.now) (grind (arith, nat_tests)) (omega arith);
  few = omega arith;
  room = c.in_ok-slots.ensures.exact ∙ c.min.ensures;
  fine = lowest-zero (fault_at c.args.bytes.now);
  read = rw c.in_ok-slots.ensures.items (read_none c.args.bytes.now);
  short = omega arith;
  len = rw c.in_ok-slots.ensures.items refl;
}

pub returns-then-slot-eq-MAX_SLOTS-clause-refused : goal.returns-then-slot-eq-MAX_SLOTS-clause-refused
returns-then-slot-eq-MAX_SLOTS-clause-refused c =
    let refused : decode_fault c.args.bytes.now ≡ Some (c.loop-slot.slot, ProgramTooLong) =
    refused_at c.args.bytes.now c.loop-slot.slot ProgramTooLong c.loop-slot.invariant.even c.loop-slot.invariant.fine (omega arith) (limit_fault c.args.bytes.now c.loop-slot.slot c.if-slot-eq-MAX_SLOTS.true) in
    rw c.bad-then-slot-eq-MAX_SLOTS.ensures (refused ∙ ap (λ (k : ℕ). Some (k, ProgramTooLong)) c.if-slot-eq-MAX_SLOTS.true)

pub returns-then-slot-eq-MAX_SLOTS-clause-only : goal.returns-then-slot-eq-MAX_SLOTS-clause-only
returns-then-slot-eq-MAX_SLOTS-clause-only c p h =
    let refused : decode_fault c.args.bytes.now ≡ Some (c.loop-slot.slot, ProgramTooLong) =
    refused_at c.args.bytes.now c.loop-slot.slot ProgramTooLong c.loop-slot.invariant.even c.loop-slot.invariant.fine (omega arith) (limit_fault c.args.bytes.now c.loop-slot.slot c.if-slot-eq-MAX_SLOTS.true) in
    rw c.bad-then-slot-eq-MAX_SLOTS.ensures
    (refusal_is c.args.bytes.now p (Bad 4096 ProgramTooLong) h (refused ∙ ap (λ (k : ℕ). Some (k, ProgramTooLong)) c.if-slot-eq-MAX_SLOTS.true))

pub loop-slot-preserved-then-is_second_half : goal.loop-slot-preserved-then-is_second_half
loop-slot-preserved-then-is_second_half c =
    let half : c.loop-slot.is_second_half ≡ true = c.if-is_second_half.true in
    let read : IsReadSoFar c.args.bytes.now c.loop-slot.slot c.loop-slot.slots.items true = rw half at c.loop-slot.invariant.read in
    let parts : instructions (c.loop-slot.slots.items ++ None ∷ []) ≡ instructions c.loop-slot.slots.items =
    instructions-append c.loop-slot.slots.items (None ∷ []) ∙ append-nil (instructions c.loop-slot.slots.items) in
    let fine : fault_at c.args.bytes.now c.loop-slot.slot ≡ None =
    fault_at_is c.args.bytes.now c.loop-slot.slot None c.if-slot-eq-MAX_SLOTS.false (half_fault c.args.bytes.now c.loop-slot.slot read.here) in
    record {
      even = c.loop-slot.invariant.even;
      few = let few : c.loop-slot.slot ≤ 4096 = c.loop-slot.invariant.few in let below : c.loop-slot.slot ≢ 4096 = c.if-slot-eq-MAX_SLOTS.false in omega arith;
      room = c.push_reserved.ensures.capacity ∙ c.loop-slot.invariant.room;
      fine = lowest-more_none (fault_at c.args.bytes.now) c.loop-slot.slot c.loop-slot.invariant.fine fine;
      read = rw c.push_reserved.ensures.items (read_half c.args.bytes.now c.loop-slot.slot c.loop-slot.slots.items read);
      short = let short : c.loop-slot.len ≤ c.loop-slot.slot = c.loop-slot.invariant.short in omega arith;
      len = rw (c.push_reserved.ensures.items, parts) c.loop-slot.invariant.len;
    }

pub decode_at-requires-clause-first : goal.decode_at-requires-clause-first
decode_at-requires-clause-first c = c.loop-slot.invariant.read.here ∙ c.if-is_second_half.false

-- what is wrong at a slot
refused_here : (c : In-Err) → decode_fault c.args.bytes.now ≡ Some (c.loop-slot.slot, c.in-Err.code)
refused_here c =
    refused_at c.args.bytes.now c.loop-slot.slot c.in-Err.code c.loop-slot.invariant.even c.loop-slot.invariant.fine (omega arith)
    (fault_at_is c.args.bytes.now c.loop-slot.slot _ c.if-slot-eq-MAX_SLOTS.false c.in-Err.ensures.fault)

pub returns-in-Err-clause-refused : goal.returns-in-Err-clause-refused
returns-in-Err-clause-refused c = rw c.bad-in-Err.ensures (refused_here (goal.at.returns-in-Err-clause-refused c).In-Err)

pub returns-in-Err-clause-only : goal.returns-in-Err-clause-only
returns-in-Err-clause-only c p h =
    rw c.bad-in-Err.ensures
    (refusal_is c.args.bytes.now p (Bad c.loop-slot.slot c.in-Err.code) h (refused_here (goal.at.returns-in-Err-clause-only c).In-Err))

pub overflow_add-len : goal.overflow_add-len
overflow_add-len c = let short : c.loop-slot.len ≤ c.loop-slot.slot = c.loop-slot.invariant.short in let few : c.loop-slot.slot ≤ 4096 = c.loop-slot.invariant.few in search rules

pub loop-slot-preserved : goal.loop-slot-preserved
loop-slot-preserved c =
    let here = c.in-Ok.ensures.found in
    let first : c.loop-slot.is_second_half ≡ false = c.if-is_second_half.false in
    let read : IsReadSoFar c.args.bytes.now c.loop-slot.slot c.loop-slot.slots.items false = rw first at c.loop-slot.invariant.read in
    let parts : instructions (c.loop-slot.slots.items ++ Some c.in-Ok.insn ∷ []) ≡ instructions c.loop-slot.slots.items ++ c.in-Ok.insn ∷ [] =
    instructions-append c.loop-slot.slots.items (Some c.in-Ok.insn ∷ []) in
    record {
      even = c.loop-slot.invariant.even;
      few = let few : c.loop-slot.slot ≤ 4096 = c.loop-slot.invariant.few in let below : c.loop-slot.slot ≢ 4096 = c.if-slot-eq-MAX_SLOTS.false in omega arith;
      room = c.push_reserved-in-Ok.ensures.capacity ∙ c.loop-slot.invariant.room;
      fine = lowest-more_none (fault_at c.args.bytes.now) c.loop-slot.slot c.loop-slot.invariant.fine (fault_at_is c.args.bytes.now c.loop-slot.slot _ c.if-slot-eq-MAX_SLOTS.false c.in-Ok.ensures.fault);
      read = rw (c.push_reserved-in-Ok.ensures.items, c.slots-is_second_half.ensures.value) (read_more c.args.bytes.now c.loop-slot.slot c.loop-slot.slots.items c.in-Ok.insn read here.0 here.1);
      short = let short : c.loop-slot.len ≤ c.loop-slot.slot = c.loop-slot.invariant.short in omega arith;
      len = rw (c.push_reserved-in-Ok.ensures.items, parts) (omega (arith, length_push (instructions c.loop-slot.slots.items) c.in-Ok.insn, c.loop-slot.invariant.len));
    }

pub new-requires-clause-formed : goal.new-requires-clause-formed
new-requires-clause-formed c =
    let some : length c.args.bytes.now ≢ 0 = grind (arith, nat_tests) in
    is_well_formed c.args.bytes.now c.loop-slot.slot c.loop-slot.slots.items (none_pending c.args.bytes.now c.loop-slot.slot c.loop-slot.slots.items c.loop-slot.is_second_half c.loop-slot.invariant.read (omega arith)) (omega arith) c.loop-slot.invariant.few

pub new-requires-clause-count : goal.new-requires-clause-count
new-requires-clause-count c = c.loop-slot.invariant.len

pub returns-clause-found : goal.returns-clause-found
returns-clause-found c =
    let some : length c.args.bytes.now ≢ 0 = grind (arith, nat_tests) in
    rw c.new.ensures (is_program c.args.bytes.now c.loop-slot.slot c.loop-slot.slots.items (none_pending c.args.bytes.now c.loop-slot.slot c.loop-slot.slots.items c.loop-slot.is_second_half c.loop-slot.invariant.read (omega arith)) (omega arith) c.loop-slot.invariant.few (omega arith))

pub returns-clause-fine : goal.returns-clause-fine
returns-clause-fine c =
    let all : c.loop-slot.slot ≡ length c.args.bytes.now / 8 = omega arith in
    fault_from_lowest c.args.bytes.now None c.loop-slot.invariant.even (rw all at c.loop-slot.invariant.fine)

pub returns-clause-only : goal.returns-clause-only
returns-clause-only c p h =
    let some : length c.args.bytes.now ≢ 0 = grind (arith, nat_tests) in
    let found : IsProgram c.args.bytes.now c.new.result = rw c.new.ensures
    (is_program c.args.bytes.now c.loop-slot.slot c.loop-slot.slots.items
    (none_pending c.args.bytes.now c.loop-slot.slot c.loop-slot.slots.items c.loop-slot.is_second_half
    c.loop-slot.invariant.read (omega arith)) (omega arith) c.loop-slot.invariant.few (omega arith)) in
    same_program c.args.bytes.now c.new.result p found h
