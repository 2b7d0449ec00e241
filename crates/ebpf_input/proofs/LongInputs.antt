-- The response to an input that is too long is the response to what is read of it.
use Rattle.std.proofs.Common.{◌≡◌, ℕ, ◌<◌, List, length, Option, Some, refl, sym, subst, arith}
use Rattle.std.proofs.lemmas.List.{length-take-le}
use Rattle.std.proofs.lemmas.Bool.{lt-ltb}
use Rattle.ebpf_command.specs.declared.done.FaultCode.{FaultCode}
use Rattle.ebpf_command.specs.declared.done.FaultCode.TheVariants.{InputTooLong}
use Rattle.ebpf_command.specs.Input.{read_of}
use Rattle.ebpf_command.specs.Response.{Response}
use Rattle.ebpf_command.proofs.Written.{CutsLong}
use Rattle.ebpf_input.specs.declared.form.Form.{Form}
use Rattle.ebpf_input.specs.Asked.{input_fault, fault_of}

-- an input that is too long is S1, whatever it holds
pub input_fault_long : (form : Form) (input : List ℕ) → 1048576 < length input → input_fault form input ≡ Some InputTooLong
input_fault_long form input long = rw (lt-ltb 1048576 (length input) long) refl

pub fault_of_long : (form : Form) (input context : List ℕ) (held : ℕ) → 1048576 < length input → fault_of form input context held ≡ Some InputTooLong
fault_of_long form input context held long = rw (lt-ltb 1048576 (length input) long) refl

-- the responses to an input by the fault that it has
abbrev pub RespondsBy : Type 1
RespondsBy = Option FaultCode → List ℕ → Response → Type 0

-- where the response to an input that is too long is S1, whatever its bytes, it is the response to its beginning
pub cuts_at : (fault : List ℕ → Option FaultCode) (Sends : RespondsBy)
    → ((input : List ℕ) → 1048576 < length input → fault input ≡ Some InputTooLong)
    → ((a b : List ℕ) (response : Response) → Sends (Some InputTooLong) a response → Sends (Some InputTooLong) b response)
    → CutsLong (λ input response. Sends (fault input) input response)
cuts_at fault Sends is_long same input response long h =
    let cut : length (read_of input) ≡ 1048577 = length-take-le 1048577 input (omega (arith, long)) in
    let of_beginning : Sends (Some InputTooLong) (read_of input) response =
    subst (λ (f : Option FaultCode). Sends f (read_of input) response) (is_long (read_of input) (omega (arith, cut))) h in
    subst (λ (f : Option FaultCode). Sends f input response) (sym (is_long input (omega (arith, long)))) (same (read_of input) input response of_beginning)
