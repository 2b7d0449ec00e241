-- The response to raw bytes is the response to each hex text of them.
use Rattle.std.proofs.Common.{◌≡◌, ℕ, ◌≤◌, ◌*◌, Bool, not, List, length, filter, Result, Ok, Err, Option, Some, refl, subst, arith}
use Rattle.std.proofs.lemmas.List.Filters.{length-filter_both}
use Rattle.hex.specs.Hex.{decode_of}
use Rattle.hex.specs.declared.error.FromHexError.{FromHexError}
use Rattle.hex.proofs.HexLemmas.{decode_of-ok}
use Rattle.ebpf_command.specs.declared.format.Format.{Format}
use Rattle.ebpf_command.specs.declared.done.Done.{Done}
use Rattle.ebpf_command.specs.declared.done.EngineFault.{EngineFault}
use Rattle.ebpf_command.specs.declared.done.FaultCode.{FaultCode}
use Rattle.ebpf_command.specs.HexText.{bytes_or_none}
use Rattle.ebpf_command.specs.Response.{Response}
use Rattle.ebpf_command.specs.Writing.{Responding, Writes}
use Rattle.ebpf_input.specs.declared.ask.Ask.{Ask}
use Rattle.ebpf_input.specs.declared.ask.Input.{Input}
use Rattle.ebpf_input.specs.declared.ask.Input.TheVariants.{Program, Object}
use Rattle.ebpf_input.specs.declared.form.Form.{Form}
use Rattle.ebpf_input.specs.declared.form.Form.TheVariants.{Hex, Raw}
use Rattle.ebpf_input.specs.Asked.{Asked, asked_for, bytes_in, input_fault, fault_of}
use Rattle.ebpf_input.specs.ObjectText.{Refusing, RespondsInputOr}
use Rattle.ebpf_input.specs.ProgramText.{is_blank}
use Rattle.ebpf_input.proofs.Digits.{not_above}
use Rattle.ebpf_one.specs.declared.how.How.{How}
use Rattle.ebpf_one.specs.Alike.{IsHexText, WritesAsHex, WritesInputAsHex}
use Rattle.ebpf_one.specs.LayOutText.{LaysOut, LaysOutGiven}
use Rattle.ebpf_one.specs.ListText.{RespondsList, RespondsGiven}
use Rattle.ebpf_one.specs.OneText.{OneTo, Responds, RespondsAsked}
use Rattle.ebpf_one.specs.SourcedRun.{OneBy}
use Rattle.ebpf_one.specs.SourceText.{ListsInput}

-- the bytes are no more than the digits
bytes_fit : (text bytes : List ℕ) (r : Result (List ℕ) FromHexError) → decode_of text ≡ r → bytes_or_none r ≡ Some bytes → length bytes ≤ length text
bytes_fit text bytes (Ok read) e some =
    let same : read ≡ bytes = cc some in
    let twice = (decode_of-ok text read e).2 in
    let twice_bytes : length text ≡ 2 * length bytes = rw (← same) twice in
    omega (arith, twice_bytes)
bytes_fit text bytes (Err why) e some = absurd cc

-- so the bytes of a text that may be read may be read too
raw_fits : (hex bytes : List ℕ) → IsHexText hex bytes → length bytes ≤ 1048576
raw_fits hex bytes is =
    let kept = length-filter_both is_blank (λ c. not (is_blank c)) (λ c. refl) hex in
    let few = bytes_fit (filter (λ c. not (is_blank c)) hex) bytes (decode_of (filter (λ c. not (is_blank c)) hex)) refl is.digits in
    let fits = is.fits in
    omega (arith, kept, few, fits)

pub same_input_fault : (hex bytes : List ℕ) → IsHexText hex bytes → input_fault Raw bytes ≡ input_fault Hex hex
same_input_fault hex bytes is =
    rw (not_above 1048576 (length bytes) (raw_fits hex bytes is), not_above 1048576 (length hex) is.fits, is.digits) refl

pub same_fault : (hex bytes context : List ℕ) (held : ℕ) → IsHexText hex bytes → fault_of Raw bytes context held ≡ fault_of Hex hex context held
same_fault hex bytes context held is =
    rw (not_above 1048576 (length bytes) (raw_fits hex bytes is), not_above 1048576 (length hex) is.fits, is.digits) refl

same_bytes : (hex bytes : List ℕ) → IsHexText hex bytes → bytes_in Raw bytes ≡ bytes_in Hex hex
same_bytes hex bytes is = rw (is.digits) refl

same_asked : (hex bytes context : List ℕ) (held : ℕ) → IsHexText hex bytes → asked_for Raw bytes context held ≡ asked_for Hex hex context held
same_asked hex bytes context held is = rw (is.digits) refl

-- what is responded to raw bytes is responded to each hex text of them
abbrev pub AreAlike : (Form → Responding) → Type 0
AreAlike P = (hex bytes : List ℕ) (response : Response) → IsHexText hex bytes → P Raw bytes response → P Hex hex response

pub one_alike : (format : Format) (context : List ℕ) (held : ℕ) (how : How) → AreAlike (λ form. Responds format form context held how)
one_alike format context held how hex bytes response is h =
    subst (λ (f : Option FaultCode). RespondsAsked format f (asked_for Hex hex context held) how response) (same_fault hex bytes context held is)
    (subst (λ (a : Asked). RespondsAsked format (fault_of Raw bytes context held) a how response) (same_asked hex bytes context held is) h)

pub list_alike : (format : Format) → AreAlike (RespondsList format)
list_alike format hex bytes response is h =
    subst (λ (f : Option FaultCode). RespondsGiven format f (bytes_in Hex hex) response) (same_input_fault hex bytes is)
    (subst (λ (xs : List ℕ). RespondsGiven format (input_fault Raw bytes) xs response) (same_bytes hex bytes is) h)

pub lay_out_alike : (format : Format) → AreAlike (LaysOut format)
lay_out_alike format hex bytes response is h =
    subst (λ (f : Option FaultCode). LaysOutGiven format f (bytes_in Hex hex) response) (same_input_fault hex bytes is)
    (subst (λ (xs : List ℕ). LaysOutGiven format (input_fault Raw bytes) xs response) (same_bytes hex bytes is) h)

-- so what is written of raw bytes is the response to each hex text of them
pub writes_as_hex : (Sends : Form → Responding) → AreAlike Sends
    → (form : Form) (input old new : Option (List ℕ)) (result : Result Done EngineFault)
    → Writes (Sends form) input old new result → WritesAsHex Sends form input old new result
writes_as_hex Sends alike form input old new result h hex bytes raw given is =
    of_bytes result (subst (λ (i : Option (List ℕ)). Writes (Sends Raw) i old new result) given
    (subst (λ (f : Form). Writes (Sends f) input old new result) raw h))
  where
    of_bytes : (r : Result Done EngineFault) → Writes (Sends Raw) (Some bytes) old new r → Writes (Sends Hex) (Some hex) old new r
    of_bytes (Ok done) k = (k.0, alike hex bytes k.0 is k.1, k.2, k.3)
    of_bytes (Err fault) k = tt

-- by what the input is
pub input_as_hex : (Refuses : Refusing) (Sends : Form → Responding) → AreAlike Sends → (what : Input) (input old new : Option (List ℕ)) (result : Result Done EngineFault)
    → Writes (RespondsInputOr Refuses what Sends) input old new result → WritesInputAsHex Sends what input old new result
input_as_hex Refuses Sends alike (Program form) input old new result h = writes_as_hex Sends alike form input old new result h
input_as_hex Refuses Sends alike (Object name) input old new result h = tt

pub list_as_hex : (format : Format) (what : Input) (lines : Bool) (input old new : Option (List ℕ)) (result : Result Done EngineFault)
    → Writes (ListsInput format what lines) input old new result → WritesInputAsHex (RespondsList format) what input old new result
list_as_hex format (Program form) lines input old new result h = writes_as_hex (RespondsList format) (list_alike format) form input old new result h
list_as_hex format (Object name) lines input old new result h = tt

pub one_as_hex : (ask : Ask) (how : How) (what : Input) (lines : Bool) (input old new : Option (List ℕ)) (result : Result Done EngineFault)
    → Writes (OneBy ask how what lines) input old new result → WritesInputAsHex (OneTo ask how) what input old new result
one_as_hex ask how (Program form) lines input old new result h =
    writes_as_hex (OneTo ask how) (one_alike ask.format ask.context.now ask.held how) form input old new result h
one_as_hex ask how (Object name) lines input old new result h = tt
