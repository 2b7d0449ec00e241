-- The place of each slot after one slot's place was set or removed.
use Rattle.std.proofs.Common.{◌≡◌, ℕ, ◌==◌, if◌then◌else◌, Option, arith}
use Rattle.std.specs.Ordering.{nat_cmp}
use Rattle.std.specs.BTreeMap.{BTreeMap, Updates}
use Rattle.std.proofs.lemmas.Grind.{common_steps}
use Rattle.ebpf_core.specs.declared.place.Place.{Place}
use Rattle.ebpf_core.specs.Places.{place_at}

pub updated_places : (old new : BTreeMap ℕ Place) (slot : ℕ) (w : Option Place) → Updates nat_cmp old new slot w → (q : ℕ)
    → place_at new.entries q ≡ (if q == slot then w else place_at old.entries q)
updated_places old new slot w updates q = grind (arith, common_steps, updates.0 q)
