-- The response to an input is that to what is read of it, and of a text of a program it is the program's slots.
use Rattle.std.proofs.Common.{◌≡◌, ℕ, ◌<◌, ◌≤◌, nat_lt, false, List, length, Option, Some, None, Result, Ok, Err, inl, inr, refl, sym, subst, arith}
use Rattle.std.proofs.lemmas.List.{length-take-le}
use Rattle.std.proofs.lemmas.Bool.{lt-ltb}
use Rattle.std.proofs.lemmas.Bool.Decides.{nat_tests}
use Rattle.ebpf_insn.specs.declared.insn.Insn.{Insn}
use Rattle.ebpf_insn.specs.Encoding.{IsWellFormed}
use Rattle.ebpf_text.specs.Listing.{listing_of}
use Rattle.ebpf_assembly.specs.Assembly.{IsAssembled}
use Rattle.ebpf_assembly.proofs.WithoutLabels.{named_unique, named_only, named_listing}
use Rattle.ebpf_command.specs.declared.done.Done.{Done}
use Rattle.ebpf_command.specs.declared.done.EngineFault.{EngineFault}
use Rattle.ebpf_command.specs.declared.done.FaultCode.{FaultCode}
use Rattle.ebpf_command.specs.declared.done.FaultCode.TheVariants.{InputTooLong}
use Rattle.ebpf_command.specs.Input.{read_of}
use Rattle.ebpf_command.specs.Response.{Response}
use Rattle.ebpf_command.specs.Writing.{Writes}
use Rattle.ebpf_command.proofs.Written.{CutsLong}
use Rattle.ebpf_assemble.specs.AssembleText.{Assembles, AssemblesGiven, AreSlotsOf, WritesSlotsOf, long_fault}

is_long : (text : List ℕ) → 1048576 < length text → long_fault text ≡ Some InputTooLong
is_long text long = rw (lt-ltb 1048576 (length text) long) refl

not_above : (most n : ℕ) → n ≤ most → nat_lt most n ≡ false
not_above most n few = grind (arith, nat_tests)

is_short : (text : List ℕ) → length text ≤ 1048576 → long_fault text ≡ None
is_short text short = rw (not_above 1048576 (length text) short) refl

-- to an input that is too long it responds as to its beginning
pub assemble_cuts : CutsLong Assembles
assemble_cuts input response long h =
    let cut : length (read_of input) ≡ 1048577 = length-take-le 1048577 input (omega (arith, long)) in
    let of_beginning : AssemblesGiven (Some InputTooLong) (read_of input) response =
    subst (λ (f : Option FaultCode). AssemblesGiven f (read_of input) response) (is_long (read_of input) (omega (arith, cut))) h in
    subst (λ (f : Option FaultCode). AssemblesGiven f input response) (sym (is_long input (omega (arith, long)))) of_beginning

-- the response to a text of a program is its slots
slots_of : (text : List ℕ) (p : List (Option Insn)) (response : Response) → IsAssembled text p → length text ≤ 1048576
    → Assembles text response → AreSlotsOf p response
slots_of text p response is short h = by_answer (subst (λ (f : Option FaultCode). AssemblesGiven f text response) (is_short text short) h) where
  by_answer : AssemblesGiven None text response → AreSlotsOf p response
  by_answer (inl of) = subst (λ (q : List (Option Insn)). AreSlotsOf q response) (named_unique text of.program p of.assembled is) of.told
  by_answer (inr none) = absurd (none.none (named_only text (Err none.fault) tt none.is p is))

-- so its slots are written
pub writes_slots : (text : List ℕ) (p : List (Option Insn)) (input old new : Option (List ℕ)) (result : Result Done EngineFault)
    → IsAssembled text p → Writes Assembles input old new result → WritesSlotsOf text p input old new result
writes_slots text p input old new result is h short given =
    of_result result (subst (λ (i : Option (List ℕ)). Writes Assembles i old new result) given h)
  where
    of_result : (r : Result Done EngineFault) → Writes Assembles (Some text) old new r → Writes (λ _ response. AreSlotsOf p response) input old new r
    of_result (Ok done) k = subst (λ (i : Option (List ℕ)). Writes (λ _ response. AreSlotsOf p response) i old new (Ok done)) (sym given)
        (k.0, slots_of text p k.0 is short k.1, k.2, k.3)
    of_result (Err fault) k = tt

-- and those of a program of which the input is the listing
pub writes_listed : (p : List (Option Insn)) (input old new : Option (List ℕ)) (result : Result Done EngineFault) → IsWellFormed p
    → Writes Assembles input old new result → WritesSlotsOf (listing_of p) p input old new result
writes_listed p input old new result formed h = writes_slots (listing_of p) p input old new result (named_listing p formed) h
