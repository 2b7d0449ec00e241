-- What is asked for by an input and the options, and why they can't be used.
use Rattle.std.specs.Prelude.{◌≡◌, ℕ, ◌++◌, Bool, nat_lt, List, [], ◌∷◌, length, Option, is_none, unwrap_or}
use Rattle.ebpf_insn.specs.Faults.{first_of}
use Rattle.ebpf_state.specs.declared.kinds.KindRow.{KindRow}
use Rattle.ebpf_state.specs.Kinds.{AreKinds}
use Rattle.ebpf_verify.specs.declared.decl.Decl.{Decl}
use Rattle.ebpf_command.specs.declared.done.FaultCode.{FaultCode}
use Rattle.ebpf_command.specs.declared.done.FaultCode.TheVariants.{InputTooLong, BadNumber, BadHex}
use Rattle.ebpf_command.specs.HexText.{hex_or_dash}
use Rattle.ebpf_input.specs.declared.form.Form.{Form}
use Rattle.ebpf_input.specs.ProgramText.{spelled}

-- the bytes that an input gives, if it can be used
abbrev pub bytes_in : Form → List ℕ → List ℕ
bytes_in form input = unwrap_or (spelled form input) []

-- the bytes of a program and of a context, and the most objects to hold at one time
pub record Asked : Type 0 where
  pub bytes : List ℕ
  pub context : List ℕ
  pub held : ℕ

abbrev pub asked_for : Form → List ℕ → List ℕ → ℕ → Asked
asked_for form input context held = record {
  bytes = bytes_in form input;
  context = unwrap_or (hex_or_dash context) [];
  held = held;
}

-- what is declared, with the length of the context, and the kinds
pub record AreGiven (a : Asked) (decl : Decl) (rows : List KindRow) : Type 0 where
  pub context : decl.context ≡ length a.context
  pub held : decl.held ≡ a.held
  pub kinds : AreKinds rows

abbrev pub input_tests : Form → List ℕ → List (Bool × FaultCode)
input_tests form input =
    (nat_lt 1048576 (length input), InputTooLong) ∷
    (is_none (spelled form input), BadHex) ∷
    []

abbrev pub option_tests : List ℕ → ℕ → List (Bool × FaultCode)
option_tests context held =
    (nat_lt 64 held, BadNumber) ∷
    (is_none (hex_or_dash context), BadHex) ∷
    (nat_lt 4096 (length (unwrap_or (hex_or_dash context) [])), BadNumber) ∷
    []

-- why the input can't be used: the first of its tests that holds
abbrev pub input_fault : Form → List ℕ → Option FaultCode
input_fault form input = first_of (input_tests form input)

-- why the input or an option can't be used: the tests of the input come first
abbrev pub fault_of : Form → List ℕ → List ℕ → ℕ → Option FaultCode
fault_of form input context held = first_of (input_tests form input ++ option_tests context held)
