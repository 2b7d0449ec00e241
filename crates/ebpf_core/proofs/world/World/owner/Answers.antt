use Rattle.std.proofs.Common.{rules, ◌≢◌, ℕ, Some, sym, ap, ◌∙◌}
use Rattle.std.specs.Option.{option_copied}
use Rattle.ebpf_core.specs.declared.place.Place.TheVariants.{Held}
use Rattle.ebpf_core.proofs.Reading.{owner_some, owner_none}
use Rattle.ebpf_core.proofs.world.World.owner.Goals as goal

pub returns-in-Some-Held : goal.returns-in-Some-Held
returns-in-Some-Held c = rw (← c.self.view_is)
    (λ w h. owner_some w _ c.args.slot c.in-Some-Held.run' c.in-Some-Held.at h c.self.invariant.placed
    (sym c.get.ensures.value ∙ ap option_copied c.in-Some-Held.is ∙ ap Some c.in-Some-Held.field-0-is))

pub returns-in_default : goal.returns-in_default
returns-in_default c =
    let home : (run at : ℕ) → c.in_default.field-0.now ≢ Held run at = search rules in
    rw (← c.self.view_is) (λ w h. owner_none w _ c.args.slot h c.self.invariant.placed
    (λ run at e. let is = sym e ∙ sym c.get.ensures.value ∙ ap option_copied c.in_default.is in absurd (home run at cc)))

pub returns-in_default-2 : goal.returns-in_default-2
returns-in_default-2 c = rw (← c.self.view_is)
    (λ w h. owner_none w _ c.args.slot h c.self.invariant.placed
    (λ run at e. let none = sym e ∙ sym c.get.ensures.value ∙ ap option_copied c.in_default.is in absurd (cc)))
