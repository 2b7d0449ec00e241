-- Runs that came on from their first instruction, with their store as it was.
use Rattle.std.proofs.Common.{◌≡◌, ℕ, List, ap, ◌∙◌, subst}
use Rattle.ebpf_verify.specs.Subject.{Subject}
use Rattle.ebpf_machine.specs.declared.report.Report.{Report}
use Rattle.ebpf_machine.specs.FourRuns.{HasGoneOn}
use Rattle.ebpf_machine.specs.RunState.{RunState}
use Rattle.ebpf_machine.specs.Store.{Store}
use Rattle.ebpf_fours.specs.Beginning.{IsAtStart}
use Rattle.ebpf_host.specs.Four.{IsEndedWithin}

-- its end is that of its program on its context
pub ended_as : {S H : Type 0} {o : Store S H} {limit : ℕ} {subject : Subject} {context : List ℕ} (t : RunState H) {report : Report} {old new : S}
    → t.subject ≡ subject → t.context ≡ context → IsEndedWithin o limit t.subject t.context report old new
    → IsEndedWithin o limit subject context report old new
ended_as {o} {limit} {context} t {report} {old} {new} subject_is context_is ended =
    subst (λ (s : Subject). IsEndedWithin o limit s context report old new) subject_is
    (subst (λ (xs : List ℕ). IsEndedWithin o limit t.subject xs report old new) context_is ended)

-- and its end is that of its program on its context
pub ended_on : {S H : Type 0} {o : Store S H} {limit : ℕ} {subject : Subject} {context : List ℕ} {r t : RunState H} {report : Report} {old new : S}
    → IsAtStart subject context r → HasGoneOn o r t → IsEndedWithin o limit t.subject t.context report old new
    → IsEndedWithin o limit subject context report old new
ended_on {H = H} {t = t} at gone ended =
    ended_as t (gone.same.0 ∙ ap (λ (x : RunState H). x.subject) at.first) (gone.same.1 ∙ ap (λ (x : RunState H). x.context) at.first) ended
