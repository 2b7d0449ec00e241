-- The response to a script whose programs are judged.
use Rattle.std.proofs.Common.{◌≡◌, ◌≢◌, Bool, true, false, ℕ, List, [], ◌∷◌, ◌++◌, map, Option, Some, None, Result, Ok, Err, inl, inr, refl, sym}
use Rattle.std.proofs.Common.{ap, ◌∙◌, subst}
use Rattle.std.specs.Prelude.{string_bytes}
use Rattle.ebpf_verify.specs.Subject.{Subject}
use Rattle.ebpf_host.specs.declared.program.Program.{Program}
use Rattle.ebpf_command.specs.declared.done.Done.{Done}
use Rattle.ebpf_command.specs.declared.done.EngineFault.{EngineFault}
use Rattle.ebpf_command.specs.declared.done.EngineFault.TheVariants.{Input, Output, NoMemory}
use Rattle.ebpf_command.specs.declared.format.Format.{Format}
use Rattle.ebpf_command.specs.Response.{Response, refused_response}
use Rattle.ebpf_command.specs.Writing.{Writes, WritesBeginning}
use Rattle.ebpf_command.proofs.Written.{begun_through, response_through}
use Rattle.ebpf_reader.specs.ParsedScript.{ParsedScript}
use Rattle.ebpf_report.specs.declared.verdicts.Verdicts.{Verdicts}
use Rattle.ebpf_report.specs.ScriptText.{Doing, RespondsScript, RespondsUnless}
use Rattle.ebpf_report.specs.Verdicts.{verdict_lines}
use Rattle.ebpf_report.specs.VerdictsKept.{AreKept}
use Rattle.ebpf_stream.specs.Answering.{Setting, Position}
use Rattle.ebpf_stream.specs.Feeding.{Serves}
use Rattle.ebpf_stream.specs.Serving.{RespondsTo, RespondsFirstTo, RespondsPartTo, WritesFirstTo}
use Rattle.ebpf_stream.specs.Streaming.{AnswersFirst, AnswersAll, DoesStream, DoesFirst, done_by, setting_of}

abbrev respond_with : List ℕ → Done → Response
respond_with text done = record { text = text; done = done }

module _ (format : Format) (parsed : ParsedScript) (kept : Verdicts) (k : AreKept format parsed.programs kept) where
  -- where no program is refused, the command responds as it does
  unrefused : (Does : Doing) (response : Response) → kept.refused ≡ false → Does parsed k.verdicts response → RespondsScript format Does (Ok parsed) response
  unrefused Does response fine does =
      (k.verdicts, k.on, subst (λ (b : Bool). RespondsUnless format b k.verdicts (Does parsed k.verdicts) response) (sym fine ∙ k.refused) does)

  -- where one is, it writes the verdicts
  pub refuses : (Does : Doing) → kept.refused ≡ true → RespondsScript format Does (Ok parsed) (refused_response (string_bytes kept.text))
  refuses Does refused =
      subst (λ (text : List ℕ). RespondsScript format Does (Ok parsed) (refused_response text)) (sym k.text)
      (k.verdicts, k.on, subst (λ (b : Bool). RespondsUnless format b k.verdicts (Does parsed k.verdicts) (refused_response (verdict_lines format k.verdicts))) (sym refused ∙ k.refused) refl)

  pub refuses_written : (input old new : Option (List ℕ)) (r : Result Done EngineFault) → kept.refused ≡ true
      → Writes (λ all response. response ≡ refused_response (string_bytes kept.text)) input old new r → Writes (RespondsTo format parsed) input old new r
  refuses_written input old new r refused h =
      response_through (RespondsTo format parsed) input old new r h
      (λ all t k. subst (λ (x : Response). RespondsTo format parsed all x) (sym k) (refuses (DoesStream format all) refused))

  pub refuses_begun : (input old new : Option (List ℕ)) (r : Result Done EngineFault) → kept.refused ≡ true
      → WritesBeginning (λ all response. response ≡ refused_response (string_bytes kept.text)) input old new r → WritesBeginning (RespondsPartTo format parsed) input old new r
  refuses_begun input old new r refused h =
      begun_through (RespondsPartTo format parsed) input old new r h
      (λ all t k. inl (subst (λ (x : Response). RespondsTo format parsed all x) (sym k) (refuses (DoesStream format all) refused)))

  module _ (subjects : List Subject) (same : subjects ≡ kept.accepted.items) (fine : kept.refused ≡ false) where
    abbrev setting : Setting
    setting = record { format = format; parsed = parsed; subjects = subjects }

    as_set : setting ≡ setting_of format parsed k.verdicts
    as_set = ap (λ (ss : List Subject). record { format = format; parsed = parsed; subjects = ss }) (same ∙ k.accepted)

    pub responds_all : (input : List ℕ) (after : Position) (text : List ℕ) → AnswersAll (record { format = format; parsed = parsed; subjects = subjects }) input after text
        → RespondsTo format parsed input (record { text = string_bytes kept.text ++ text; done = done_by after.faulty })
    responds_all input after text h =
        let does : DoesStream format input parsed k.verdicts (record { text = string_bytes kept.text ++ text; done = done_by after.faulty }) = (
          after,
          text,
          subst (λ (s : Setting). AnswersAll s input after text) as_set h,
          ap (λ (lines : List ℕ). respond_with (lines ++ text) (done_by after.faulty)) k.text,
        ) in
        unrefused (DoesStream format input) (record { text = string_bytes kept.text ++ text; done = done_by after.faulty }) fine does

    pub responds_first : (input : List ℕ) (done : Done) (text : List ℕ) → AnswersFirst (record { format = format; parsed = parsed; subjects = subjects }) input text
        → RespondsFirstTo format parsed input (record { text = string_bytes kept.text ++ text; done = done })
    responds_first input done text h =
        let does : DoesFirst format input parsed k.verdicts (record { text = string_bytes kept.text ++ text; done = done }) = (
          text,
          subst (λ (s : Setting). AnswersFirst s input text) as_set h,
          ap (λ (lines : List ℕ). lines ++ text) k.text,
        ) in
        unrefused (DoesFirst format input) (record { text = string_bytes kept.text ++ text; done = done }) fine does

    pub writes_all : (input old new : Option (List ℕ)) (after : Position) → Serves (record { format = format; parsed = parsed; subjects = subjects }) input old new after (string_bytes kept.text) (Ok tt)
        → Writes (RespondsTo format parsed) input old new (Ok (done_by after.faulty))
    writes_all None old new after h = tt
    writes_all (Some all) old new after h =
        (record { text = string_bytes kept.text ++ h.0; done = done_by after.faulty }, responds_all all after h.0 h.1, refl, h.2)

    pub writes_first : (fault : EngineFault) (done : Done) (input old new : Option (List ℕ)) (after : Position)
        → Serves (record { format = format; parsed = parsed; subjects = subjects }) input old new after (string_bytes kept.text) (Err fault) → fault ≢ Output
        → WritesFirstTo format parsed input old new
    writes_first fault done None old new after h other = tt
    writes_first Output done (Some all) old new after h other = absurd (other refl)
    writes_first Input done (Some all) old new after h other =
        (record { text = string_bytes kept.text ++ h.0; done = done }, responds_first all done h.0 h.1, h.2)
    writes_first NoMemory done (Some all) old new after h other =
        (record { text = string_bytes kept.text ++ h.0; done = done }, responds_first all done h.0 h.1, h.2)

    pub begins_part : (fault : EngineFault) (done : Done) (input old new : Option (List ℕ)) (after : Position)
        → Serves (record { format = format; parsed = parsed; subjects = subjects }) input old new after (string_bytes kept.text) (Err fault)
        → WritesBeginning (RespondsPartTo format parsed) input old new (Err fault)
    begins_part fault done None old new after h = tt
    begins_part Output done (Some all) old new after h = λ e. elim h.1 [
      | inl first ↦ (record { text = string_bytes kept.text ++ h.0; done = done }, inr (responds_first all done h.0 first), h.2)
      | inr whole ↦ (record { text = string_bytes kept.text ++ h.0; done = done_by whole.0.faulty }, inl (responds_all all whole.0 h.0 whole.1), h.2)
    ]
    begins_part Input done (Some all) old new after h = λ e. absurd cc
    begins_part NoMemory done (Some all) old new after h = λ e. absurd cc

-- ---- programs that are loaded

pub contexts_of : (programs : List Program) → map (λ p. p.verified.decl.context) programs ≡ map (λ s. s.decl.context) (map (λ p. p.verified) programs)
contexts_of [] = refl
contexts_of (p ∷ programs) = ap (λ (ns : List ℕ). p.verified.decl.context ∷ ns) (contexts_of programs)
