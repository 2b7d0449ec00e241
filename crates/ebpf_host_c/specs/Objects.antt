-- What becomes of a function of an object file that C loads.
use Rattle.std.specs.Prelude.{ℕ, ◌≡◌, ◌+◌, ◌*◌, ◌++◌, List, Option, Some, None, codes, cond, nat_lt}
use Rattle.ebpf_object_file.specs.declared.function.Function.{Function}
use Rattle.ebpf_object_file.specs.declared.holding_line.HoldingLine.{HoldingLine}
use Rattle.ebpf_object_file.specs.declared.object_fault.ObjectFault.{ObjectFault}
use Rattle.ebpf_object_file.specs.declared.object_fault.ObjectFault.TheVariants.{Outside}
use Rattle.ebpf_object_file.specs.declared.outside.Place.{Place}
use Rattle.ebpf_object_file.specs.Function.{IsWanted, IsWantedFault}
use Rattle.ebpf_object_file.specs.HoldingLine.{IsHoldingLine}
use Rattle.ebpf_object_file.specs.Sentences.{object_code, object_sentence}
use Rattle.ebpf_host_c.specs.declared.reported.InFile.{InFile}
use Rattle.ebpf_host_c.specs.declared.reported.Refused.{Refused}
use Rattle.ebpf_host_c.specs.Reported.{IsReported, line_under}

-- the slot that needs another part of the file, at most the greatest number of 32 bits; 0 for the other faults
abbrev pub fault_slot : ObjectFault → ℕ
fault_slot (Outside o) = cond (nat_lt o.slot 4294967296) o.slot 4294967295
fault_slot _ = 0

-- the sentence of a fault, a line indented by two blanks
abbrev pub fault_line : ObjectFault → List ℕ
fault_line e = codes "  " ++ (object_sentence e ++ codes "\n")

-- the file has the function
abbrev pub HasFunction : (file name : List ℕ) → Type 0
HasFunction file name = (f : Function) × IsWanted file name f

-- the file has no such function, or can't be read
abbrev pub HasFault : (file name : List ℕ) → Type 0
HasFault file name = (e : ObjectFault) × IsWantedFault file name e

-- the line of C that holds at a slot of a function; of no slot there is none
abbrev pub IsLineAt : List ℕ → Place → Option ℕ → Option HoldingLine → Type 0
IsLineAt file p None line = line ≡ None
IsLineAt file p (Some slot) line = IsHoldingLine file p (p.from + 8 * slot) line

-- that of slots which may be a function's; of others there is none
abbrev pub IsLineIn : Option InFile → Option ℕ → Option HoldingLine → Type 0
IsLineIn None slot line = line ≡ None
IsLineIn (Some f) slot line = IsLineAt f.file.now f.place slot line

-- the line of C of a fault is that of the slot that needs another part of the file
abbrev pub IsLineOfFault : List ℕ → ObjectFault → Option HoldingLine → Type 0
IsLineOfFault file (Outside o) line = IsHoldingLine file o.place o.at line
IsLineOfFault file _ line = line ≡ None

-- what C is given of a fault of the file
pub record IsFaultReported (file : List ℕ) (e : ObjectFault) (room text : List ℕ) (filled : Refused) : Type 0 where
  pub line : Option HoldingLine
  pub line_is : IsLineOfFault file e line
  pub reported_as : IsReported (object_code e) (fault_slot e) (fault_line e ++ line_under line) room text filled
