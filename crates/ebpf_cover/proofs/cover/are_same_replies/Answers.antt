use Rattle.std.proofs.Common.{◌≡◌, ◌<◌, length, rules}
use Rattle.std.proofs.lemmas.List.{ext_get_or}
use Rattle.ebpf_machine.specs.declared.report.Reply.TheVariants.{Null}
use Rattle.ebpf_cover.proofs.cover.are_same_replies.Goals as goal

pub returns : goal.returns
returns c = λ yes.
    let long : length c.args.replies.now ≡ length c.args.others.now = search rules in
    ext_get_or Null c.args.replies.now c.args.others.now long (λ k few. c.same.invariant k Null (let past : k < c.same.index = search rules in past))
