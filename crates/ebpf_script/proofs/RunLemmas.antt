-- What `run` writes of its answer.
use Rattle.std.proofs.Common.{◌≡◌, ℕ, true, false, List, [], ◌++◌, Option, Some, None, Result, Ok, Err, inl, inr, refl, sym, ap, ◌∙◌, subst, append_assoc}
use Rattle.std.proofs.lemmas.List.{append-nil}
use Rattle.std.specs.Prelude.{IfSome, IsErrAnd}
use Rattle.std.specs.Io.KnownBytes.{Appends}
use Rattle.ebpf_machine.specs.declared.report.Report.{Report}
use Rattle.ebpf_object_file.specs.File.{AreFunctions}
use Rattle.ebpf_lines.specs.declared.source.ObjectFile.{ObjectFile}
use Rattle.ebpf_lines.specs.Sources.{IsObjectFile}
use Rattle.ebpf_reader.specs.declared.script.Dialect.TheVariants.{Jobs}
use Rattle.ebpf_report.proofs.ScriptTextLemmas.{script_cuts}
use Rattle.worker_pool.specs.Outcomes.{JobsOutcome}
use Rattle.ebpf_command.specs.declared.done.Done.{Done}
use Rattle.ebpf_command.specs.declared.done.EngineFault.{EngineFault}
use Rattle.ebpf_command.specs.declared.done.EngineFault.TheVariants.{Output}
use Rattle.ebpf_command.specs.declared.format.Format.{Format}
use Rattle.ebpf_command.specs.Input.{read_of}
use Rattle.ebpf_command.specs.Response.{Response}
use Rattle.ebpf_command.specs.Writing.{Responding, AppendsBeginning, Writes, WritesBeginning}
use Rattle.ebpf_command.proofs.Written.{CutsLong, response_of_read}
use Rattle.ebpf_report.specs.RunAnswers.{jobs_in, totals_in}
use Rattle.ebpf_script.specs.RunText.{DoesRun, RespondsRun, outcome_in, with_counts}
use Rattle.ebpf_script.specs.Coverages.{is_tracefile}
use Rattle.ebpf_script.specs.declared.run_ask.Coverage.{Coverage}
use Rattle.ebpf_script.specs.declared.run_ask.Coverage.TheVariants.{Nothing, Counts, Tracefile}

-- ---- the response to what is read is the response to the input

module _ (Responds : Responding) (cuts : CutsLong Responds) (input old new : Option (List ℕ)) (bytes seen : List ℕ) (response : Response)
    (read : IfSome input (λ all. bytes ≡ read_of all)) (same : seen ≡ bytes) (h : Responds seen response) where
  responds : (all : List ℕ) → bytes ≡ read_of all → Responds all response
  responds all is = response_of_read Responds cuts all response (subst (λ (xs : List ℕ). Responds xs response) (same ∙ is) h)

  pub wrote : (done : Done) → done ≡ response.done → Appends old new response.text → Writes Responds input old new (Ok done)
  wrote done ends written = by input read where
    by : (known : Option (List ℕ)) → IfSome known (λ all. bytes ≡ read_of all) → Writes Responds known old new (Ok done)
    by None is = tt
    by (Some all) is = (response, responds all is, sym ends, written)

  pub wrote_beginning : (fault : EngineFault) (r : Result Done EngineFault) → IsErrAnd r (λ e. e ≡ fault) → (fault ≡ Output → AppendsBeginning old new response.text) → WritesBeginning Responds input old new r
  wrote_beginning fault (Ok done) is begun = absurd is
  wrote_beginning fault (Err e) is begun = by input read where
    by : (known : Option (List ℕ)) → IfSome known (λ all. bytes ≡ read_of all) → WritesBeginning Responds known old new (Err e)
    by None read = tt
    by (Some all) read = λ output. (response, responds all read, begun (sym is ∙ output))

-- ---- to a text that is too long the response is the same, however it goes on

pub run_cuts : (covered : Coverage) (format : Format) (object : Option (List ℕ)) → CutsLong (RespondsRun covered format object)
run_cuts covered format None text response long h = script_cuts format Jobs (DoesRun covered format None) text response long h
run_cuts covered format (Some file) text response long (inl k) = inl k
run_cuts covered format (Some file) text response long (inr (inl k)) = inr (inl k)
run_cuts covered format (Some file) text response long (inr (inr k)) =
    inr (inr (k.0, k.1, k.2, script_cuts format Jobs (DoesRun covered format (Some k.1)) text response long k.3))

-- what is known of a file that was read is known of its own bytes
pub own_file : (file : List ℕ) (o : ObjectFile) → IsObjectFile file o → IsObjectFile o.file.now o
own_file file o h = record { same = refl; functions = subst (λ (bytes : List ℕ). AreFunctions bytes o.functions) (sym h.same) h.functions }

-- ---- what is covered

pub nothing_more : (text : List ℕ) → text ≡ text ++ []
nothing_more text = sym (append-nil text)

-- the text after verdicts and an outcome, if it is no tracefile
pub with_them : (covered : Coverage) (verdicts outcome counts : List ℕ) → is_tracefile covered ≡ false → verdicts ++ (outcome ++ counts) ≡ with_counts covered verdicts outcome counts
with_them Nothing verdicts outcome counts none = refl
with_them Counts verdicts outcome counts none = refl
with_them Tracefile verdicts outcome counts none = absurd (cc)

-- and if it is one
pub without_them : (covered : Coverage) (verdicts outcome counts : List ℕ) → is_tracefile covered ≡ true → counts ≡ with_counts covered verdicts outcome counts
without_them Nothing verdicts outcome counts is = absurd (cc)
without_them Counts verdicts outcome counts is = absurd (cc)
without_them Tracefile verdicts outcome counts is = refl

-- ---- the text of an outcome

-- what was covered follows that
pub run_text_is : (format : Format) (o : JobsOutcome) (before covered after : List ℕ) (reports : List Report) → reports ≡ o.reports → after ≡ totals_in format o ++ covered
    → before ++ (jobs_in format reports ++ after) ≡ before ++ (outcome_in format o ++ covered)
run_text_is format o before covered after reports same is =
    ap (λ (xs : List ℕ). before ++ xs)
    (ap (λ (rs : List Report). jobs_in format rs ++ after) same
    ∙ ap (λ (xs : List ℕ). jobs_in format o.reports ++ xs) is
    ∙ sym (append_assoc (jobs_in format o.reports) (totals_in format o) covered))
