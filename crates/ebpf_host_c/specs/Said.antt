-- What is said of a function that isn't linked with its data.
use Rattle.std.specs.Prelude.{◌≡◌, ◌++◌, ℕ, List, Option, Some, None, codes, string_bytes, unwrap_or}
use Rattle.ebpf_insn.specs.declared.insn.Insn.{Insn}
use Rattle.ebpf_object_file.specs.declared.holding_line.HoldingLine.{HoldingLine}
use Rattle.ebpf_object_file.specs.declared.outside.Place.{Place}
use Rattle.ebpf_link.specs.declared.fault.LinkFault.{LinkFault}
use Rattle.ebpf_link.specs.declared.fault.LinkFault.TheVariants as link
use Rattle.ebpf_loader.specs.declared.fault.LoadFault.{LoadFault}
use Rattle.ebpf_loader.specs.declared.fault.LoadFault.TheVariants as load
use Rattle.ebpf_loader.specs.Sentences.{link_sentence, load_sentence}
use Rattle.ebpf_command.specs.declared.codes.RefusalCode.TheVariants.{Decode, Flow}
use Rattle.ebpf_command.specs.Codes.{refusal_name}
use Rattle.ebpf_explain.specs.DecodeSentences.{decode_sentence}
use Rattle.ebpf_explain.specs.Reasons.{misled_in}
use Rattle.ebpf_host_c.specs.declared.said.Said.{Said}
use Rattle.ebpf_host_c.specs.declared.said.SaidCode.{SaidCode}
use Rattle.ebpf_host_c.specs.declared.said.SaidCode.TheVariants as code
use Rattle.ebpf_host_c.specs.declared.reported.Refused.{Refused}
use Rattle.ebpf_host_c.specs.Objects.{IsLineAt}
use Rattle.ebpf_host_c.specs.Reported.{IsReported, line_under}

-- the code of a refusal, or that of a function that can't be linked
abbrev pub said_name : SaidCode → List ℕ
said_name (code.Refused refusal) = refusal_name refusal
said_name code.Unlinked = codes "O5"

-- a code, a slot, if there is one, and a line that says why
pub record IsSaidAs (name : List ℕ) (slot : Option ℕ) (line : List ℕ) (s : Said) : Type 0 where
  pub code_is : said_name s.code ≡ name
  pub slot_is : s.slot ≡ slot
  pub line_is : string_bytes s.line ≡ line

-- it can't be linked: the words are a line, indented by two blanks
abbrev pub IsUnlinkedSaid : Option ℕ → (words : List ℕ) → Said → Type 0
IsUnlinkedSaid slot words = IsSaidAs (codes "O5") slot (codes "  " ++ (words ++ codes "\n"))

-- the slot of which a fault speaks
abbrev pub link_slot : LinkFault → Option ℕ
link_slot (link.Flow slot why) = Some slot
link_slot (link.NotWide slot) = Some slot
link_slot (link.Far slot) = Some slot
link_slot _ = None

abbrev pub load_slot : LoadFault → Option ℕ
load_slot (load.Undecoded slot why) = Some slot
load_slot (load.Unlinked p e) = link_slot e
load_slot _ = None

-- its bytes, or its flow, may be refused by themselves, as those of any program
abbrev pub IsLinkFaultSaid : List (Option Insn) → LinkFault → Said → Type 0
IsLinkFaultSaid p (link.Flow slot why) = IsSaidAs (refusal_name (Flow why)) (Some slot) (misled_in p slot why)
IsLinkFaultSaid p e = IsUnlinkedSaid (link_slot e) (link_sentence e)

abbrev pub IsLoadFaultSaid : (file bytes : List ℕ) → LoadFault → Said → Type 0
IsLoadFaultSaid file bytes (load.Undecoded slot why) = IsSaidAs (refusal_name (Decode why)) (Some slot) (decode_sentence bytes slot why)
IsLoadFaultSaid file bytes (load.Unlinked p e) = IsLinkFaultSaid p e
IsLoadFaultSaid file bytes e = IsUnlinkedSaid None (load_sentence file e)

-- what C is given of it, with the line of C that holds at the slot
pub record IsSaidReported (s : Said) (file : List ℕ) (p : Place) (room text : List ℕ) (filled : Refused) : Type 0 where
  pub line : Option HoldingLine
  pub line_is : IsLineAt file p s.slot line
  pub reported_as : IsReported (said_name s.code) (unwrap_or s.slot 0) (string_bytes s.line ++ line_under line) room text filled
