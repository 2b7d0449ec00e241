use Rattle.std.proofs.Common.{sym, subst, arith}
use Rattle.std.specs.Str.{IsAscii}
use Rattle.std.proofs.lemmas.List.{drop_all}
use Rattle.std.proofs.lemmas.Str.Ascii.{IsAscii-nil}
use Rattle.ebpf_report.proofs.text_line.TextLine.clear.Goals as goal

pub invariant_of-self : goal.invariant_of-self
invariant_of-self c = (omega arith, subst IsAscii (sym (drop_all 128 c.self.inside.bytes (omega arith))) IsAscii-nil)

pub returns : goal.returns
returns c = drop_all 128 c.self.inside.bytes (omega arith)
