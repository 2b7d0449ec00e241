use Rattle.std.proofs.Common.{rules, ◌≡◌, ℕ, ◌∙◌, ap, subst, sym}
use Rattle.std.specs.Option.{IfSome}
use Rattle.std.proofs.lemmas.Option.{IfSome_then}
use Rattle.ebpf_machine.specs.Kinds.{known_kinds}
use Rattle.ebpf_machine.specs.World.{image_at}
use Rattle.owners_table.specs.Marking.{mark_word}
use Rattle.ebpf_object.specs.Object.{slot_of}
use Rattle.ebpf_object.specs.declared.object.Object.{Object}
use Rattle.ebpf_owned.specs.Claims.{IsClaimed}
use Rattle.shared_store.specs.Tools.{ToolsView, held_at}
use Rattle.shared_store.specs.contracts.tools.Tools.{the_view}
use Rattle.shared_store.proofs.ByKind.{claimed_at, mapped}
use Rattle.shared_store.proofs.tools.Tools.take.Goals.{in-Cell, in-Record, in-Block}
use Rattle.shared_store.proofs.tools.Tools.take.Goals as goal

pub returns-clause-image : goal.returns-clause-image
returns-clause-image c = elim c.match-kind_named.branch [
  | in-Cell w ↦
      let image : IfSome w.take.result (λ o. o.bytes.value.items ≡ image_at known_kinds c.args.kind) =
      IfSome_then w.take.result w.take.ensures.image (λ x e. e ∙ ap (image_at known_kinds) w.in-Cell.ensures) in
      search (rules, image)
  | in-Record w ↦
      let image : IfSome w.take-in-Record.result (λ o. o.bytes.value.items ≡ image_at known_kinds c.args.kind) =
      IfSome_then w.take-in-Record.result w.take-in-Record.ensures.image (λ x e. e ∙ ap (image_at known_kinds) w.in-Record.ensures) in
      search (rules, image)
  | in-Block w ↦
      let image : IfSome w.take-in-Block.result (λ o. o.bytes.value.items ≡ image_at known_kinds c.args.kind) =
      IfSome_then w.take-in-Block.result w.take-in-Block.ensures.image (λ x e. e ∙ ap (image_at known_kinds) w.in-Block.ensures) in
      search (rules, image)
]

pub returns-clause-granted : goal.returns-clause-granted
returns-clause-granted c =
    let word = mark_word c.args.mark.run c.args.mark.at in
    let old = c.args.self.now in
    let new = the_view c.match-kind_named.self-inside in
    let view : (kind : ℕ) → held_at old kind ≡ held_at (the_view c.self.inside) kind = λ kind. ap (λ (t : ToolsView). held_at t kind) (sym c.self.view_is) in
    let IsTaken : Object → Type 0 = λ o. IsClaimed (slot_of o) word (held_at old c.args.kind) (held_at new c.args.kind) in
    elim c.match-kind_named.branch [
      | in-Cell w ↦
          let granted = claimed_at (λ o. o.slot) word c.args.kind w.take.result old new _ _ w.take.ensures.granted
          (view c.args.kind ∙ ap (held_at (the_view c.self.inside)) (sym w.in-Cell.ensures))
          (ap (held_at new) (sym w.in-Cell.ensures) ∙ ap (λ i. held_at (the_view i) 0) w.self-inside-is) in
          subst (λ r. IfSome r IsTaken) (sym w.result-is) (mapped _ _ _ w.take.result w.map.result w.map.ensures.cases (λ x y is. subst IsTaken (sym is)) granted)
      | in-Record w ↦
          let granted = claimed_at (λ o. o.slot) word c.args.kind w.take-in-Record.result old new _ _ w.take-in-Record.ensures.granted
          (view c.args.kind ∙ ap (held_at (the_view c.self.inside)) (sym w.in-Record.ensures))
          (ap (held_at new) (sym w.in-Record.ensures) ∙ ap (λ i. held_at (the_view i) 1) w.self-inside-is) in
          subst (λ r. IfSome r IsTaken) (sym w.result-is) (mapped _ _ _ w.take-in-Record.result w.map-in-Record.result w.map-in-Record.ensures.cases (λ x y is. subst IsTaken (sym is)) granted)
      | in-Block w ↦
          let granted = claimed_at (λ o. o.slot) word c.args.kind w.take-in-Block.result old new _ _ w.take-in-Block.ensures.granted
          (view c.args.kind ∙ ap (held_at (the_view c.self.inside)) (sym w.in-Block.ensures))
          (ap (held_at new) (sym w.in-Block.ensures) ∙ ap (λ i. held_at (the_view i) 2) w.self-inside-is) in
          subst (λ r. IfSome r IsTaken) (sym w.result-is) (mapped _ _ _ w.take-in-Block.result w.map-in-Block.result w.map-in-Block.ensures.cases (λ x y is. subst IsTaken (sym is)) granted)
    ]
