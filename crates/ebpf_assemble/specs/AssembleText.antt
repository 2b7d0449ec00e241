-- The response of `assemble` to its input: the slots of the program that it is a text of, or why it is of none.
use Rattle.std.specs.Prelude.{◌≡◌, ◌≢◌, ◌≤◌, ◌⊎◌, ℕ, nat_lt, if◌then◌else◌, List, length, Option, Some, None, Result}
use Rattle.ebpf_insn.specs.declared.insn.Insn.{Insn}
use Rattle.ebpf_insn.specs.Encoding.{IsProgram, IsWellFormed}
use Rattle.ebpf_text.specs.Listing.{listing_of}
use Rattle.ebpf_assembly.specs.declared.fault.AssemblyFault.{AssemblyFault}
use Rattle.ebpf_assembly.specs.declared.fault.AssemblyFault.TheVariants.{NoMemory}
use Rattle.ebpf_assembly.specs.Assembly.{IsAssembled}
use Rattle.ebpf_assembly.specs.Faults.{IsAssemblyFault}
use Rattle.ebpf_command.specs.declared.done.Done.{Done}
use Rattle.ebpf_command.specs.declared.done.EngineFault.{EngineFault}
use Rattle.ebpf_command.specs.declared.done.FaultCode.{FaultCode}
use Rattle.ebpf_command.specs.declared.done.FaultCode.TheVariants.{InputTooLong}
use Rattle.ebpf_command.specs.declared.input.TheConstants.{MAX_INPUT}
use Rattle.ebpf_command.specs.Response.{Response, refused_response, clean_response}
use Rattle.ebpf_command.specs.Writing.{Responding, Writes}
use Rattle.ebpf_assemble.specs.SlotsText.{slot_lines}
use Rattle.ebpf_assemble.specs.FaultText.{IsFaultText, long_text_lines}

-- the slots of a program
abbrev pub AreSlotsOf : List (Option Insn) → Response → Type 0
AreSlotsOf p response = (bytes : List ℕ) × IsProgram bytes p × (response ≡ clean_response (slot_lines bytes))

-- the text is of this program
pub record IsOfProgram (text : List ℕ) (response : Response) : Type 0 where
  pub program : List (Option Insn)
  pub assembled : IsAssembled text program
  pub told : AreSlotsOf program response

-- or of none, for this cause
pub record IsOfNone (text : List ℕ) (response : Response) : Type 0 where
  pub fault : AssemblyFault
  pub is : IsAssemblyFault text fault
  pub none : fault ≢ NoMemory
  pub lines : List ℕ
  pub words : IsFaultText text fault lines
  pub told : response ≡ refused_response lines

-- an input has at most `MAX_INPUT` bytes
abbrev pub long_fault : List ℕ → Option FaultCode
long_fault text = if nat_lt MAX_INPUT (length text) then Some InputTooLong else None

abbrev pub AssemblesGiven : Option FaultCode → List ℕ → Response → Type 0
AssemblesGiven (Some code) text response = response ≡ refused_response long_text_lines
AssemblesGiven None text response = IsOfProgram text response ⊎ IsOfNone text response

-- the response of `assemble` to an input
abbrev pub Assembles : Responding
Assembles input response = AssemblesGiven (long_fault input) input response

-- where the input is this text, and not too long, the slots of this program are written
abbrev pub WritesSlotsOf : List ℕ → List (Option Insn) → (input old new : Option (List ℕ)) → Result Done EngineFault → Type 0
WritesSlotsOf text p input old new result =
    length text ≤ MAX_INPUT → input ≡ Some text → Writes (λ _ response. AreSlotsOf p response) input old new result

-- of each text of a program the slots are written
abbrev pub WritesEachText : (input old new : Option (List ℕ)) → Result Done EngineFault → Type 0
WritesEachText input old new result = (text : List ℕ) (p : List (Option Insn)) → IsAssembled text p → WritesSlotsOf text p input old new result

-- and so of the listing of each program
abbrev pub WritesEachListing : (input old new : Option (List ℕ)) → Result Done EngineFault → Type 0
WritesEachListing input old new result = (p : List (Option Insn)) → IsWellFormed p → WritesSlotsOf (listing_of p) p input old new result
