use Rattle.std.proofs.Common.{Some, option_map, sym, ap, ◌∙◌}
use Rattle.std.specs.Option.{option_copied}
use Rattle.ebpf_core.proofs.Reading.{bytes_home, bytes_on_shelf, bytes_with}
use Rattle.ebpf_core.proofs.world.World.bytes.Goals as goal

pub returns-in_err-object-in-Held : goal.returns-in_err-object-in-Held
returns-in_err-object-in-Held c = rw (← c.self.view_is) (λ w h.
    let at = sym c.get.ensures.value ∙ ap option_copied c.in_ok-object.was ∙ ap Some c.in-Held.is in
    ap (option_map _) c.from_residual-in_err-object-in-Held.ensures
    ∙ bytes_with w _ c.args.slot c.in-Held.run' c.in-Held.at c.index.result.now _ h c.self.invariant.placed at c.index.ensures
    c.in_err-object-in-Held.ensures)

pub returns-in-Home : goal.returns-in-Home
returns-in-Home c = rw (← c.self.view_is)
    (λ w h. ap Some c.deref.ensures.value
    ∙ bytes_home w _ c.args.slot c.in-Home.object h c.self.invariant.placed
    (sym c.get.ensures.value ∙ ap option_copied c.in_ok-object.was ∙ ap Some c.in-Home.is))

pub returns-in_ok-object-in-Held : goal.returns-in_ok-object-in-Held
returns-in_ok-object-in-Held c = rw (← c.self.view_is) (λ w h.
    let at = sym c.get.ensures.value ∙ ap option_copied c.in_ok-object.was ∙ ap Some c.in-Held.is in
    ap Some c.deref-in-Held.ensures.value ∙ bytes_with w _ c.args.slot c.in-Held.run' c.in-Held.at c.index.result.now _ h c.self.invariant.placed at
    c.index.ensures c.in_ok-object-in-Held.ensures)

pub returns-in-Shelved : goal.returns-in-Shelved
returns-in-Shelved c = rw (← c.self.view_is) (λ w h.
    let at = sym c.get.ensures.value ∙ ap option_copied c.in_ok-object.was ∙ ap Some c.in-Shelved.is in
    c.bytes_on.ensures ∙ bytes_on_shelf w _ c.args.slot c.in-Shelved.shelf h c.self.invariant.placed at)
