-- The response to a text that is too long is the same, however it goes on.
use Rattle.std.proofs.Common.{◌≡◌, ℕ, Bool, ◌<◌, List, length, Result, Err, refl, sym, subst, arith}
use Rattle.std.proofs.lemmas.List.{length-take-le}
use Rattle.std.proofs.lemmas.Bool.{lt-ltb}
use Rattle.ebpf_command.specs.declared.done.FaultCode.{FaultCode}
use Rattle.ebpf_command.specs.declared.done.FaultCode.TheVariants.{InputTooLong}
use Rattle.ebpf_command.specs.declared.format.Format.{Format}
use Rattle.ebpf_command.specs.Input.{read_of}
use Rattle.ebpf_command.proofs.Written.{CutsLong}
use Rattle.ebpf_reader.specs.declared.script.Dialect.{Dialect}
use Rattle.ebpf_reader.specs.ParsedScript.{ParsedScript}
use Rattle.ebpf_reader.specs.Scripts.{parsed_text}
use Rattle.ebpf_reader.proofs.LinesLemmas.{parsed_text_long}
use Rattle.ebpf_report.specs.ScriptText.{Doing, RespondsScript}

pub script_cuts : (format : Format) (dialect : Dialect) (Does : Doing) → CutsLong (λ text response. RespondsScript format Does (parsed_text dialect text) response)
script_cuts format dialect Does input response long h =
    let cut : length (read_of input) ≡ 1048577 = length-take-le 1048577 input (omega (arith, long)) in
    let P : Result ParsedScript (ℕ × FaultCode) → Type 0 = λ r. RespondsScript format Does r response in
    subst P (sym (parsed_text_long dialect input (omega (arith, long)))) (subst P (parsed_text_long dialect (read_of input) (omega (arith, cut))) h)
