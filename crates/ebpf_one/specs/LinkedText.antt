-- The response to a program that was linked with data of its file, after it was laid out, or after its loops were unrolled.
use Rattle.std.specs.Prelude.{◌≡◌, ◌⊎◌, ℕ, List, Option, Some, None}
use Rattle.ebpf_object_file.specs.declared.outside.Place.{Place}
use Rattle.ebpf_state.specs.declared.kinds.KindRow.{KindRow}
use Rattle.ebpf_state.specs.Kinds.{AreKinds}
use Rattle.ebpf_verify.specs.declared.decl.Decl.{Decl}
use Rattle.ebpf_verify.specs.Subject.{Subject}
use Rattle.ebpf_verify.specs.Verdict.{verdict}
use Rattle.ebpf_link.specs.Right.{IsRight, IsShown}
use Rattle.ebpf_forward.specs.declared.forward.Forward.{Forward}
use Rattle.ebpf_forward.specs.declared.forward.Forward.TheVariants.{LaidOut, Unrolled}
use Rattle.ebpf_command.specs.declared.format.Format.{Format}
use Rattle.ebpf_command.specs.Response.{Response}
use Rattle.ebpf_input.specs.declared.data_request.DataRequest.{DataRequest}
use Rattle.ebpf_input.specs.declared.under.InFile.{InFile}
use Rattle.ebpf_input.specs.DataRequest.{own_slot}
use Rattle.ebpf_input.specs.NoRequest.{no_word_response}
use Rattle.ebpf_input.specs.Under.{IsOver}
use Rattle.ebpf_one.specs.declared.linked.Link.{Link}
use Rattle.ebpf_one.specs.declared.running.Running.{Running}
use Rattle.ebpf_one.specs.CopiesText.{SaysLinked}
use Rattle.ebpf_one.specs.RunText.{RefusesJudged, RunsAs}

-- it is written with its data, or run
abbrev pub SendsRight : Format → Option Running → (after : List ℕ) → Subject → List (Option ℕ) → Response → Type 0
SendsRight format None after s of response = SaysLinked format s.program of after response
SendsRight format (Some run) after s of response = RunsAs format run s of response

-- if its word is right in every run, which is shown
pub record IsSentRight (format : Format) (run : Option Running) (link : Link) (s : Subject) (of : List (Option ℕ)) (response : Response) : Type 0 where
  pub shown : IsShown s.program link.word
  pub right : IsRight s.program link.word
  pub sends : SendsRight format run link.bytes.items s of response

-- which may not be
pub record IsNotShown (format : Format) (link : Link) (s : Subject) (response : Response) : Type 0 where
  pub unshown : IsShown s.program link.word → ⊥
  pub told : response ≡ no_word_response format

-- of an accepted program, by the slots that its slots copy
abbrev pub SendsAccepted : Format → Option Running → Link → Subject → List (Option ℕ) → Response → Type 0
SendsAccepted format run link s of response = IsSentRight format run link s of response ⊎ IsNotShown format link s response

-- of one that was laid out, which the verifier may refuse
abbrev pub SendsLaid : Format → Option Running → Link → Subject → List (Option ℕ) → Response → Type 0
SendsLaid format run link s of response = ((verdict s ≡ None) × SendsAccepted format run link s of response) ⊎ RefusesJudged format s response

abbrev pub SendsLinked : Format → Option Running → Link → Decl → List KindRow → Forward → Response → Type 0
SendsLinked format run link decl rows (LaidOut l) response = SendsLaid format run link (record { program = l.program; decl = decl; rows = rows }) l.of.items response
SendsLinked format run link decl rows (Unrolled u) response = SendsAccepted format run link u.verified u.of.items response

-- ---- with the line of C of the function's own slot

-- what is said of a slot of the linked program, with the line under it
abbrev pub IsOverOwn : Format → List ℕ → Place → Option ℕ → Response → Response → Type 0
IsOverOwn format file place slot said response =
    (function : InFile) × (function.file.now ≡ file) × (function.place ≡ place) × IsOver format (Some function) (own_slot slot) said response

-- The response to a function that was linked with data of its file: what is said of its program, by the kinds, what it was linked with,
-- and the slot of which is spoken, if it is one.
pub record RespondsLinked (format : Format) (file : List ℕ) (r : DataRequest) (Says : List KindRow → Link → Option ℕ → Response → Type 0) (response : Response) : Type 0 where
  pub rows : List KindRow
  pub kinds : AreKinds rows
  pub link : Link
  pub after : link.bytes.items ≡ r.«data».items
  pub word : link.word ≡ r.word
  pub slot : Option ℕ
  pub said : Response
  pub is : Says rows link slot said
  pub over : IsOverOwn format file r.function.function.place slot said response
