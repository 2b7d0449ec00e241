use Rattle.std.proofs.Common.{◌≡◌, ap, sym, subst, ◌∙◌, arith}
use Rattle.ebpf_insn.specs.Arithmetic.{extension_at}
use Rattle.ebpf_range.specs.Interval.{IsWithin}
use Rattle.ebpf_range.specs.Results.{extension_or_any, extension_range}
use Rattle.ebpf_range.proofs.ResultLemmas.{extension-sound}
use Rattle.ebpf_range.proofs.results.sext.Goals as goal

value : (c : goal.After-extension_or_any) → c.extension_or_any.result ≡ extension_range c.args.width c.args.bits c.args.a
value c = c.extension_or_any.ensures ∙ ap (extension_or_any c.args.width c.args.bits) c.low_at.ensures.value

pub returns-clause-holds : goal.returns-clause-holds
returns-clause-holds c =
    λ n h. subst (IsWithin (extension_at c.args.width c.args.bits n)) (sym (value c)) (extension-sound c.args.width c.args.bits c.args.a n (omega arith) h)
