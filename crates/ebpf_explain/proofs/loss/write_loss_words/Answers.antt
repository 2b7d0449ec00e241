use Rattle.ebpf_explain.proofs.TextLemmas.{pushed_third}
use Rattle.ebpf_explain.proofs.loss.write_loss_words.Goals as goal

pub returns : goal.returns
returns c = pushed_third _ _ _ _ _ _ _ _ c.in_ok-write_loss_head.ensures c.in_ok-write_apart.ensures c.push_str.ensures.bytes
