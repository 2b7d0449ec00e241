use Rattle.std.proofs.Common.{rules, ℕ, ℤ, List, subst, w16}
use Rattle.std.proofs.lemmas.Int.{to_z-of_z}
use Rattle.ebpf_host_c.specs.Ways.{IsLoadedBy, IsUnshown}
use Rattle.ebpf_host_c.proofs.with_data.linked_program.Goals as goal

pub returns-in-Ok-clause-refused : goal.returns-in-Ok-clause-refused
returns-in-Ok-clause-refused c =
    let linked = c.args.linked in record {
      subject = c.in-Ok.made.verified;
      is = subst (λ (code : List ℕ). IsLoadedBy c.args.loops linked.decl.context linked.decl.held code c.in-Ok.made.verified) c.deref.ensures.value
          c.in-Ok.ensures.loaded;
      unshown = subst (λ (w : ℤ). IsUnshown c.args.loops c.in-Ok.made.verified w) (to_z-of_z w16 linked.word (search rules))
          (c.in_ok-is_kept-in-Ok.ensures.unshown c.if-branch.false);
      said = c.in_ok-say_no_word-in-Ok.ensures;
    }
