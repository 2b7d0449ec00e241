use Rattle.std.proofs.Common.{◌≡◌, sym, ap, ◌∙◌}
use Rattle.std.proofs.lemmas.Bool.{false≢true}
use Rattle.std.proofs.lemmas.Option.{none-some, same_Some}
use Rattle.ebpf_layout.specs.Placing.{is_ready}
use Rattle.ebpf_layout.proofs.Placed.{some_ready}
use Rattle.ebpf_layout.proofs.placing.next.Goals as goal
use Rattle.ebpf_layout.proofs.placing.next.Goals.{in-Some+else-is_ready, in_default}

pub highest-requires-clause-some : goal.highest-requires-clause-some
highest-requires-clause-some c =
    let f = c.args.found.now in
    let o = c.args.order.now in
    some_ready c.args.program.now f.marks.items f.slots.items o.marks.items o.slots.items c.requires.found c.requires.placing c.requires.left

pub returns : goal.returns
returns c =
    let p = c.args.program.now in
    let f = c.args.found.now in
    let o = c.args.order.now in
    record {
      ready = c.highest.ensures;
      falls = λ last from e falls ready.
          let only = c.before_last.ensures.only last from e falls in
          elim c.match-before_last.branch [
            | in-Some+else-is_ready w ↦
                let same : w.in-Some.slot ≡ from = same_Some w.in-Some.slot from (sym w.in-Some.is ∙ only) in
                absurd (false≢true (sym w.if-is_ready.false ∙ w.is_ready.ensures ∙ ap (is_ready p f.marks.items o.marks.items) same ∙ ready))
            | in_default w ↦ absurd (none-some from (sym w.in_default.is ∙ only))
          ];
    }
