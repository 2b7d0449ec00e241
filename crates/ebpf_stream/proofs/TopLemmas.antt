-- What is written, over the script that is read.
use Rattle.std.proofs.Common.{◌≡◌, ◌≢◌, ◌⊎◌, ℕ, List, Option, Some, None, Result, Ok, Err, inl, inr, refl, sym, subst}
use Rattle.std.specs.Prelude.{IfOk, IfErr, IfSome}
use Rattle.std.specs.Io.KnownBytes.{Appends}
use Rattle.ebpf_command.specs.declared.done.Done.{Done}
use Rattle.ebpf_command.specs.declared.done.EngineFault.{EngineFault}
use Rattle.ebpf_command.specs.declared.done.EngineFault.TheVariants.{Output}
use Rattle.ebpf_command.specs.declared.done.FaultCode.{FaultCode}
use Rattle.ebpf_command.specs.declared.format.Format.{Format}
use Rattle.ebpf_command.specs.Input.{read_of}
use Rattle.ebpf_command.specs.Json.{fault_in}
use Rattle.ebpf_command.specs.Response.{Response, refused_response}
use Rattle.ebpf_command.specs.Writing.{AppendsBeginning, Writes, WritesBeginning}
use Rattle.ebpf_command.proofs.Written.{begun_through, response_of_read, response_through}
use Rattle.ebpf_reader.specs.declared.script.Dialect.TheVariants.{Setup}
use Rattle.ebpf_reader.specs.ParsedScript.{ParsedScript}
use Rattle.ebpf_reader.specs.Scripts.{parsed_text}
use Rattle.ebpf_report.specs.ScriptText.{Doing, RespondsScript}
use Rattle.ebpf_report.proofs.ScriptTextLemmas.{script_cuts}
use Rattle.ebpf_stream.specs.Serving.{RespondsTo, RespondsPartTo, WritesFirst, WritesFirstTo, WritesPart, WritesStream}
use Rattle.ebpf_stream.specs.Streaming.{DoesStream, DoesFirst, RespondsPart, RespondsStream}

-- a whole answer is written, or a beginning of it
pub answer_written : (answer : Response) (input old new : Option (List ℕ)) (r : Result Done EngineFault)
    → IfOk r (λ done. (done ≡ answer.done) × Appends old new answer.text) → Writes (λ all response. response ≡ answer) input old new r
answer_written answer input old new (Err fault) h = tt
answer_written answer None old new (Ok done) h = tt
answer_written answer (Some all) old new (Ok done) h = (answer, refl, sym h.0, h.1)

pub answer_begun : (answer : Response) (input old new : Option (List ℕ)) (r : Result Done EngineFault)
    → IfErr r (λ fault. AppendsBeginning old new answer.text) → WritesBeginning (λ all response. response ≡ answer) input old new r
answer_begun answer input old new (Ok done) h = tt
answer_begun answer None old new (Err fault) h = tt
answer_begun answer (Some all) old new (Err fault) h = λ e. (answer, refl, h)

-- what is responded to the text that is read is responded to the script
as_read : (format : Format) (Does : Doing) (all text : List ℕ) (response : Response) (r : Result ParsedScript (ℕ × FaultCode)) → text ≡ read_of all
    → parsed_text Setup text ≡ r → RespondsScript format Does r response → RespondsScript format Does (parsed_text Setup all) response
as_read format Does all text response r is parses h =
    response_of_read (λ t response. RespondsScript format Does (parsed_text Setup t) response) (script_cuts format Setup Does) all response
    (subst (λ (t : List ℕ). RespondsScript format Does (parsed_text Setup t) response) is
    (subst (λ (q : Result ParsedScript (ℕ × FaultCode)). RespondsScript format Does q response) (sym parses) h))

module _ (format : Format) (script input old new : Option (List ℕ)) (text : List ℕ) (r : Result Done EngineFault) where
  pub stream_written : (parsed : ParsedScript) → IfSome script (λ all. text ≡ read_of all) → parsed_text Setup text ≡ Ok parsed
      → Writes (RespondsTo format parsed) input old new r → WritesStream format script input old new r
  stream_written parsed is parses h = by script is where
    by : (known : Option (List ℕ)) → IfSome known (λ all. text ≡ read_of all) → WritesStream format known input old new r
    by None is = tt
    by (Some all) is = response_through (RespondsStream format all) input old new r h (λ i t k. as_read format (DoesStream format i) all text t (Ok parsed) is parses k)

  pub stream_begun : (parsed : ParsedScript) → IfSome script (λ all. text ≡ read_of all) → parsed_text Setup text ≡ Ok parsed
      → WritesBeginning (RespondsPartTo format parsed) input old new r → WritesPart format script input old new r
  stream_begun parsed is parses h = by script is where
    by : (known : Option (List ℕ)) → IfSome known (λ all. text ≡ read_of all) → WritesPart format known input old new r
    by None is = tt
    by (Some all) is = begun_through (RespondsPart format all) input old new r h (λ i t k. elim k as (λ _. RespondsPart format all i t) [
      | inl whole ↦ inl (as_read format (DoesStream format i) all text t (Ok parsed) is parses whole)
      | inr first ↦ inr (as_read format (DoesFirst format i) all text t (Ok parsed) is parses first)
    ])

  pub stream_stopped : (parsed : ParsedScript) → IfSome script (λ all. text ≡ read_of all) → parsed_text Setup text ≡ Ok parsed
      → WritesFirstTo format parsed input old new → WritesFirst format script input old new
  stream_stopped parsed is parses h = by script input is h where
    by : (known rest : Option (List ℕ)) → IfSome known (λ all. text ≡ read_of all) → WritesFirstTo format parsed rest old new → WritesFirst format known rest old new
    by None rest is h = tt
    by (Some all) None is h = tt
    by (Some all) (Some i) is h = (h.0, as_read format (DoesFirst format i) all text h.0 (Ok parsed) is parses h.1, h.2)

  pub fault_written : (line : ℕ) (code : FaultCode) → IfSome script (λ all. text ≡ read_of all) → parsed_text Setup text ≡ Err (line, code)
      → (let answer = refused_response (fault_in format code line) in IfOk r (λ done. (done ≡ answer.done) × Appends old new answer.text))
      → WritesStream format script input old new r
  fault_written line code is parses h = by script is where
    by : (known : Option (List ℕ)) → IfSome known (λ all. text ≡ read_of all) → WritesStream format known input old new r
    by None is = tt
    by (Some all) is = response_through (RespondsStream format all) input old new r (answer_written (refused_response (fault_in format code line)) input old new r h)
        (λ i t k. as_read format (DoesStream format i) all text t (Err (line, code)) is parses k)

  pub fault_begun : (line : ℕ) (code : FaultCode) → IfSome script (λ all. text ≡ read_of all) → parsed_text Setup text ≡ Err (line, code)
      → IfErr r (λ fault. AppendsBeginning old new (refused_response (fault_in format code line)).text) → WritesPart format script input old new r
  fault_begun line code is parses h = by script is where
    by : (known : Option (List ℕ)) → IfSome known (λ all. text ≡ read_of all) → WritesPart format known input old new r
    by None is = tt
    by (Some all) is = begun_through (RespondsPart format all) input old new r (answer_begun (refused_response (fault_in format code line)) input old new r h)
        (λ i t k. inl (as_read format (DoesStream format i) all text t (Err (line, code)) is parses k))

pub if_stopped : (r : Result Done EngineFault) (A B C : Type 0) → (B → C) → IfErr r (λ fault. fault ≢ Output → A ⊎ B) → IfErr r (λ fault. fault ≢ Output → A ⊎ C)
if_stopped (Ok done) A B C f h = tt
if_stopped (Err fault) A B C f h = λ other. elim (h other) [ inl a ↦ inl a | inr b ↦ inr (f b) ]
