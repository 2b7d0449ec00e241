use Rattle.std.proofs.Common.{◌≡◌, ◌++◌}
use Rattle.std.proofs.lemmas.Bool.Decides.{Decides-eqb}
use Rattle.std.proofs.lemmas.Slice.Eq.{strip_prefix_is}
use Rattle.ebpf_reader.proofs.LaneLemmas.{where_some}
use Rattle.ebpf_reader.proofs.again.rest_after.Goals as goal

pub returns : goal.returns
returns c =
    let bytes = c.args.beginning.now.bytes.now in
    where_some _ (λ rest. c.args.text.now ≡ bytes ++ rest.now) c.strip_prefix.result
    (strip_prefix_is Decides-eqb c.args.text.now bytes c.strip_prefix.result c.strip_prefix.ensures.cases)
