use Rattle.std.proofs.Common.{refl}
use Rattle.ebpf_explain.proofs.TextLemmas.{no_text, one_text}
use Rattle.ebpf_explain.proofs.stack_words.write_numbers.Goals as goal

pub loop-byte-init : goal.loop-byte-init
loop-byte-init c = no_text _ _

pub loop-byte-preserved : goal.loop-byte-preserved
loop-byte-preserved c = one_text _ _ _ _ _ _ refl c.loop-byte.invariant c.in_ok-write_byte.ensures
