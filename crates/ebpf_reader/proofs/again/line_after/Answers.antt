use Rattle.std.proofs.Common.{refl}
use Rattle.ebpf_reader.proofs.JobLemmas.{again_is}
use Rattle.ebpf_reader.proofs.again.line_after.Goals as goal

pub returns : goal.returns
returns c = λ script known.
    again_is script c.args.text.now c.in_ok-rest.rest.now _ known c.in_ok-rest.ensures c.in_ok-hex.ensures.first c.in_ok-hex.ensures.word refl
