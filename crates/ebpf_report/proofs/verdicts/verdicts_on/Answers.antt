use Rattle.std.proofs.Common.{map}
use Rattle.std.proofs.lemmas.Result.{IfOk-weaker}
use Rattle.ebpf_reader.specs.ReadScripts.{named}
use Rattle.ebpf_report.proofs.ExplainedLemmas.{kept_bare}
use Rattle.ebpf_report.proofs.verdicts.verdicts_on.Goals as goal

pub returns : goal.returns
returns c =
    IfOk-weaker c.explained_verdicts_on.result _ _ (λ kept h. kept_bare c.args.format (map named c.args.programs.now.entries) kept h) c.explained_verdicts_on.ensures
