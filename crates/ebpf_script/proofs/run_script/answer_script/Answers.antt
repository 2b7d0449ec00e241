use Rattle.std.proofs.Common.{◌≡◌, ◌++◌, ℕ, Bool, true, false, List, Option, None, string_bytes, Ok, sym, ap, subst, ◌∙◌, rules}
use Rattle.std.proofs.lemmas.List.{append-nil}
use Rattle.ebpf_verify.specs.Subject.{Subject}
use Rattle.worker_pool.specs.Outcomes.{JobsOutcome}
use Rattle.ebpf_command.specs.declared.format.Format.{Format}
use Rattle.ebpf_command.specs.Response.{Response, clean_response}
use Rattle.ebpf_reader.specs.ParsedScript.{ParsedScript}
use Rattle.ebpf_reader.specs.ReadScripts.{parsed_script}
use Rattle.ebpf_report.specs.declared.verdicts.Verdicts.{Verdicts}
use Rattle.ebpf_report.specs.declared.run_answer.RunAnswer.{RunAnswer}
use Rattle.ebpf_report.specs.RunAnswers.{jobs_in, run_response, totals_in}
use Rattle.ebpf_lines.specs.declared.source.ObjectFile.{ObjectFile}
use Rattle.ebpf_report.specs.ScriptText.{RespondsScript, RespondsUnless}
use Rattle.ebpf_report.specs.VerdictsKept.{AreKept}
use Rattle.ebpf_report.proofs.VerdictLemmas.{known_kept, contexts_kept}
use Rattle.ebpf_script.specs.RunText.{DoesRun, HasCounts, MayCome, outcome_in, with_counts}
use Rattle.ebpf_script.specs.Coverages.{is_tracefile}
use Rattle.ebpf_script.specs.declared.run_ask.Coverage.{Coverage}
use Rattle.ebpf_script.proofs.PoolLemmas.{pages_or, none_due}
use Rattle.ebpf_script.proofs.RunLemmas.{run_text_is, with_them, without_them}
use Rattle.ebpf_script.proofs.run_script.answer_script.Goals as goal

pub outcome_of-requires-clause-known : goal.outcome_of-requires-clause-known
outcome_of-requires-clause-known g c κs within = known_kept _ _ c.in_ok-verdicts.verdicts c.in_ok-verdicts.ensures

pub outcome_of-requires-clause-fine : goal.outcome_of-requires-clause-fine
outcome_of-requires-clause-fine g c κs within =
    let runnable = c.requires.runnable in
    let pages = pages_or c.args.script.pages runnable.pages in
    let declared = contexts_kept _ _ c.in_ok-verdicts.verdicts c.in_ok-verdicts.ensures c.if-verdicts.false in
    rw (c.unwrap_or.ensures) (none_due _ c.args.ask.workers c.args.script.jobs pages.0 pages.1 c.args.ask.workers_fit.0 c.args.ask.workers_fit.1 runnable.few (λ k d lt. rw declared (runnable.declared k d lt)))

-- the text, where an outcome may come of the jobs
told : (covered : Coverage) (format : Format) (object : Option ObjectFile) (parsed : ParsedScript) (kept : Verdicts) (k : AreKept format parsed.programs kept) (o : JobsOutcome) (counts text : List ℕ) → kept.refused ≡ false
    → MayCome kept.accepted.items parsed.jobs o → HasCounts covered format object parsed.programs kept.accepted.items parsed.jobs o.reports counts
    → text ≡ with_counts covered (string_bytes kept.text) (outcome_in format o) counts → RespondsScript format (DoesRun covered format object) (Ok parsed) (clean_response text)
told covered format object parsed kept k o counts text fine came has is = (
  k.verdicts,
  k.on,
  subst (λ (b : Bool). RespondsUnless format b k.verdicts (DoesRun covered format object parsed k.verdicts) (clean_response text)) (sym fine ∙ k.refused) (
    o,
    subst (λ (programs : List Subject). MayCome programs parsed.jobs o) k.accepted came,
    counts,
    subst (λ (programs : List Subject). HasCounts covered format object parsed.programs programs parsed.jobs o.reports counts) k.accepted has,
    ap clean_response (is ∙ ap (λ (xs : List ℕ). with_counts covered xs (outcome_in format o) counts) k.text),
  ),
)

pub write_covered_in-requires-clause-known : goal.write_covered_in-requires-clause-known
write_covered_in-requires-clause-known g c = let known = known_kept _ _ c.in_ok-verdicts.verdicts c.in_ok-verdicts.ensures in search (rules, known)

pub write_covered_in-requires-2-clause-known : goal.write_covered_in-requires-2-clause-known
write_covered_in-requires-2-clause-known g c = let known = known_kept _ _ c.in_ok-verdicts.verdicts c.in_ok-verdicts.ensures in search (rules, known)

pub returns-then-is_tracefile : goal.returns-then-is_tracefile
returns-then-is_tracefile g c =
    let kept = c.in_ok-verdicts.verdicts in
    let o = c.in_ok-outcome.outcome in
    let format = c.args.ask.format in
    let programs = (parsed_script c.args.script).programs in
    let jobs = c.args.script.jobs in
    let counts = c.in_ok-write_covered_in.ensures.0 in
    let has : HasCounts c.args.ask.covered format c.args.object programs kept.accepted.items jobs o.reports counts =
    subst (λ (ss : List Subject). HasCounts c.args.ask.covered format c.args.object programs ss jobs o.reports counts) c.deref.ensures.value c.in_ok-write_covered_in.ensures.1 in
    let is : is_tracefile c.args.ask.covered ≡ true = sym c.is_tracefile.ensures ∙ c.if-is_tracefile.true in
    let all : string_bytes c.write_covered_in.new.text ≡ counts =
    c.in_ok-write_covered_in.ensures.2 ∙ ap (λ (xs : List ℕ). xs ++ counts) c.new-text.ensures.bytes in
    let answer : Response → RunAnswer = λ b. record { beginning = b; jobs = None } in
    let given : c.only-then-is_tracefile.result ≡ answer (clean_response (string_bytes c.write_covered_in.new.text)) = c.only-then-is_tracefile.ensures ∙ ap answer c.clean.ensures in
    subst (λ (a : RunAnswer). RespondsScript format (DoesRun c.args.ask.covered format c.args.object) (Ok (parsed_script c.args.script)) (run_response a)) (sym given) (
    told c.args.ask.covered format c.args.object (parsed_script c.args.script) kept c.in_ok-verdicts.ensures o counts _ c.if-verdicts.false c.in_ok-outcome.ensures has
    (append-nil (string_bytes c.write_covered_in.new.text) ∙ all ∙ without_them c.args.ask.covered (string_bytes kept.text) (outcome_in format o) counts is))

pub returns : goal.returns
returns g c =
    let kept = c.in_ok-verdicts.verdicts in
    let o = c.in_ok-outcome.outcome in
    let format = c.args.ask.format in
    let programs = (parsed_script c.args.script).programs in
    let jobs = c.args.script.jobs in
    let counts = c.in_ok-write_covered_in-2.ensures.0 in
    let has : HasCounts c.args.ask.covered format c.args.object programs kept.accepted.items jobs o.reports counts =
    subst (λ (ss : List Subject). HasCounts c.args.ask.covered format c.args.object programs ss jobs o.reports counts) c.deref.ensures.value c.in_ok-write_covered_in-2.ensures.1 in
    let none : is_tracefile c.args.ask.covered ≡ false = sym c.is_tracefile.ensures ∙ c.if-is_tracefile.false in
    let totals : string_bytes c.write_totals_in.new.text ≡ totals_in format o =
    c.in_ok-write_totals_in.ensures ∙ ap (λ (xs : List ℕ). xs ++ totals_in format o) c.new-totals.ensures.bytes in
    let after : string_bytes c.write_covered_in-2.new.text ≡ totals_in format o ++ counts =
    c.in_ok-write_covered_in-2.ensures.2 ∙ ap (λ (xs : List ℕ). xs ++ counts) totals in
    let jobs_text_is = jobs_in format c.came-2.result ++ string_bytes c.write_covered_in-2.new.text in
    subst (λ (b : Response). RespondsScript format (DoesRun c.args.ask.covered format c.args.object) (Ok (parsed_script c.args.script)) (record { text = b.text ++ jobs_text_is; done = b.done })) (sym c.clean-beginning.ensures) (
    told c.args.ask.covered format c.args.object (parsed_script c.args.script) kept c.in_ok-verdicts.ensures o counts _ c.if-verdicts.false c.in_ok-outcome.ensures has
    (run_text_is format o (string_bytes kept.text) counts _ _ c.came-2.ensures after
    ∙ with_them c.args.ask.covered (string_bytes kept.text) (outcome_in format o) counts none))
