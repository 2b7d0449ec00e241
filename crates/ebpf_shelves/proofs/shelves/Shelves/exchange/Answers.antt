use Rattle.std.proofs.Common.{◌<◌, List, Option, length, sym, ◌∙◌, subst, arith}
use Rattle.std.specs.Prelude.{IfSome, None, slice_set}
use Rattle.std.proofs.lemmas.List.{get_or_default}
use Rattle.ebpf_shelves.specs.declared.object.Object.{Object}
use Rattle.ebpf_shelves.specs.Shelves.{AreShelves, IsExchanged, IsOff}
use Rattle.ebpf_shelves.proofs.Shelving.{are_shelves, is_exchanged}
use Rattle.ebpf_shelves.proofs.shelves.Shelves.exchange.Goals as goal

inside : (c : goal.After-replace) → c.args.shelf < length c.self.inside.rooms
inside c = let long = c.self.invariant.long in let known = c.requires.shelf in omega (arith, long, known)

off : (c : goal.After-replace) → IfSome c.args.given (λ g. IsOff c.self.inside.rooms g.slot)
off c = subst (λ (rooms : List (Option Object)). IfSome c.args.given (λ g. IsOff rooms g.slot)) (sym c.self.view_is) c.requires.apart

pub invariant_of-self : goal.invariant_of-self
invariant_of-self c = subst (λ (o : Option Object). AreShelves (slice_set c.self.inside.rooms c.args.shelf o)) (sym c.replace.ensures.after)
    (are_shelves c.self.inside.rooms c.args.shelf c.args.given (inside c) c.self.invariant c.requires.fits (off c))

done : (c : goal.After-replace)
    → IsExchanged c.args.shelf c.args.given c.replace.result c.self.inside.rooms (slice_set c.self.inside.rooms c.args.shelf c.args.given)
done c = is_exchanged c.self.inside.rooms c.args.shelf c.args.given (inside c) c.replace.result c.self.invariant (off c)
    (c.replace.ensures.value ∙ get_or_default c.self.inside.rooms c.args.shelf _ None (inside c))

pub returns : goal.returns
returns c = rw (← c.self.view_is) (subst (λ (o : Option Object).
    IsExchanged c.args.shelf c.args.given c.replace.result c.self.inside.rooms (slice_set c.self.inside.rooms c.args.shelf o)) (sym c.replace.ensures.after)
    (done c))
