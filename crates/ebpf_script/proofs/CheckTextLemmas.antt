-- The sentence on a text that is too long is the same, however it goes on.
use Rattle.std.proofs.Common.{◌≡◌, ℕ, Bool, List, length, Result, Err, sym, subst, arith}
use Rattle.std.proofs.lemmas.List.{length-take-le}
use Rattle.ebpf_command.specs.declared.done.FaultCode.{FaultCode}
use Rattle.ebpf_command.specs.declared.done.FaultCode.TheVariants.{InputTooLong}
use Rattle.ebpf_command.specs.declared.format.Format.{Format}
use Rattle.ebpf_command.specs.Input.{read_of}
use Rattle.ebpf_command.proofs.Written.{CutsLong}
use Rattle.ebpf_reader.specs.declared.script.Dialect.TheVariants.{Jobs}
use Rattle.ebpf_reader.specs.ParsedScript.{ParsedScript}
use Rattle.ebpf_reader.proofs.LinesLemmas.{parsed_text_long}
use Rattle.ebpf_script.specs.CheckText.{RespondsCheck, ChecksParsed}

pub check_cuts : (explains : Bool) (format : Format) → CutsLong (RespondsCheck explains format)
check_cuts explains format input response long h =
    let cut : length (read_of input) ≡ 1048577 = length-take-le 1048577 input (omega (arith, long)) in
    let P : List ℕ → Result ParsedScript (ℕ × FaultCode) → Type 0 = λ text r. ChecksParsed explains format r text response in
    let cut_off : ChecksParsed explains format (Err (0, InputTooLong)) (read_of input) response =
    subst (P (read_of input)) (parsed_text_long Jobs (read_of input) (omega (arith, cut))) h in
    subst (P input) (sym (parsed_text_long Jobs input (omega (arith, long)))) cut_off
