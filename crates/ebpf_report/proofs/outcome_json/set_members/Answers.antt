use Rattle.std.proofs.Common.{refl}
use Rattle.ebpf_report.proofs.outcome_json.set_members.Goals as goal

pub returns : goal.returns
returns c =
    rw (c.words-4.ensures, c.number-3.ensures.text, c.write_exit.ensures.text, c.words-3.ensures, c.number-2.ensures.text, c.words-2.ensures, c.number.ensures.text, c.words.ensures, c.clear.ensures) refl
