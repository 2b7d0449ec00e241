use Rattle.std.proofs.Common.{◌≤◌, length, arith, length-drop, length-append, ap}
use Rattle.std.specs.Fmt.{decimal}
use Rattle.std.proofs.lemmas.Fmt.{length-decimal-le, IsAscii-decimal}
use Rattle.std.proofs.lemmas.Str.{IsAscii-append}
use Rattle.ebpf_report.proofs.text_line.TextLine.number.Goals as goal

pub write_digits-self-inside-requires : goal.write_digits-self-inside-requires
write_digits-self-inside-requires c =
    let few : length (decimal c.args.n) ≤ 20 = length-decimal-le 20 c.args.n (omega arith) (omega arith) (omega arith) in
    omega (arith, length-drop c.self.inside.start c.self.inside.bytes, ap length c.self.view_is)

pub invariant_of-self : goal.invariant_of-self
invariant_of-self c =
    let w = c.write_digits-self-inside in
    (omega arith, rw w.ensures.written (IsAscii-append _ _ (IsAscii-decimal c.args.n (omega arith)) c.self.invariant.1))

pub returns-clause-few : goal.returns-clause-few
returns-clause-few c =
    let w = c.write_digits-self-inside in
    let few : length (decimal c.args.n) ≤ 20 = length-decimal-le 20 c.args.n (omega arith) (omega arith) (omega arith) in
    rw w.ensures.written (rw length-append (omega (arith, ap length c.self.view_is)))
