use Rattle.std.proofs.Common.{arith}
use Rattle.ebpf_reader.proofs.JobLemmas.{one_word}
use Rattle.ebpf_reader.proofs.again.only_word.Goals as goal

pub returns-clause-word : goal.returns-clause-word
returns-clause-word c =
    one_word c.args.text.now c.word_length-length.result c.word_length-length.ensures.within (omega (arith, c.if-length-eq0.false)) c.word_length-length.ensures.whole
