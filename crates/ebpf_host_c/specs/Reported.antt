-- What C is given.
use Rattle.std.specs.Prelude.{◌≡◌, ℕ, Bool, true, false, ◌++◌, List, [], ◌∷◌, length, filter, Option, Some, None, is_some, unwrap_or, string_bytes, slice_set}
use Rattle.ebpf_object_file.specs.declared.holding_line.HoldingLine.{HoldingLine}
use Rattle.ebpf_object_file.specs.Shown.{place_row}
use Rattle.ebpf_verify.specs.Subject.{Subject}
use Rattle.ebpf_command.specs.Codes.{refusal_name}
use Rattle.ebpf_machine.specs.declared.report.Reply.{Reply}
use Rattle.ebpf_machine.specs.declared.report.Reply.TheVariants.{Null, Granted, Empty, Shelf}
use Rattle.ebpf_machine.specs.declared.report.Report.{Report}
use Rattle.ebpf_machine.specs.Whole.{is_granted, is_null, is_fetched}
use Rattle.ebpf_host.specs.declared.refusal.Refusal.{Refusal}
use Rattle.ebpf_host.specs.declared.stocks.Stocks.{Stocks}
use Rattle.ebpf_host.specs.Copying.{copied}
use Rattle.ebpf_host.specs.Finding.{AreFound}
use Rattle.ebpf_host.specs.Leaving.{AreLeft}
use Rattle.ebpf_host.specs.Reports.{IsReportWithin}
use Rattle.ebpf_host_c.specs.declared.reported.Refused.{Refused}
use Rattle.ebpf_host_c.specs.declared.reported.Reported.{Reported}

-- a call of swap that found nothing on the shelf
abbrev pub is_empty : Reply → Bool
is_empty Empty = true
is_empty Shelf = false
is_empty Null = false
is_empty Granted = false

-- a code, a slot and a sentence with a zero after it, as far as there is room; the zero is not counted
pub record IsReported (code : List ℕ) (slot : ℕ) (sentence room text : List ℕ) (filled : Refused) : Type 0 where
  pub code_is : filled.code ≡ copied code (0 ∷ 0 ∷ 0 ∷ 0 ∷ [])
  pub slot_is : filled.slot ≡ slot
  pub length_is : filled.length ≡ length sentence
  pub text_is : text ≡ copied (sentence ++ 0 ∷ []) room

-- the line of C under a sentence, where there is one
abbrev pub line_under : Option HoldingLine → List ℕ
line_under None = []
line_under (Some h) = place_row h.lines h.line

-- a refusal, and under its sentence a line of C, or none, by the slot of what was given
pub record IsReportedWith (r : Refusal) (lines : Option ℕ → Option HoldingLine → Type 0) (room text : List ℕ) (filled : Refused) : Type 0 where
  pub line : Option HoldingLine
  pub line_is : lines r.given line
  pub reported_as : IsReported (refusal_name r.code) r.slot (string_bytes r.sentence ++ line_under line) room text filled

-- what is given is refused as the first says, with such a line
pub record IsRefusalReported (refuses : Refusal → Type 0) (lines : Option ℕ → Option HoldingLine → Type 0) (room text : List ℕ) (filled : Refused) : Type 0 where
  pub refusal : Refusal
  pub is : refuses refusal
  pub reported_with : IsReportedWith refusal lines room text filled

-- what C is given of a report, with the output as far as there is room
pub record IsWritten (r : Report) (room output : List ℕ) (filled : Reported) : Type 0 where
  pub exited : filled.exited ≡ is_some r.exit
  pub exit : filled.exit ≡ unwrap_or r.exit 0
  pub executed : filled.executed ≡ r.executed
  pub peak : filled.peak ≡ r.peak
  pub outputs : filled.outputs ≡ length r.output
  pub numbers : output ≡ copied r.output room
  pub granted : filled.granted ≡ length (filter is_granted r.answers)
  pub refused : filled.refused ≡ length (filter is_null r.answers)
  pub fetched : filled.fetched ≡ length (filter is_fetched r.answers)
  pub missed : filled.missed ≡ length (filter is_empty r.answers)

-- a report is written as the one with a number
pub record IsWrittenAt (number : ℕ) (r : Report) (room output : List ℕ) (old new : List Reported) : Type 0 where
  pub filled : Reported
  pub is : new ≡ slice_set old number filled
  pub written : IsWritten r room output filled

-- a run on a machine, of which C is given the report
pub record IsReportWritten (old new : Stocks) (s : Subject) (context : List ℕ) (limit : ℕ) (room output : List ℕ) (filled : Reported) : Type 0 where
  pub report : Report
  pub is : IsReportWithin s context limit report
  pub found : AreFound old s context report
  pub left : AreLeft old new s context report
  pub written : IsWritten report room output filled
