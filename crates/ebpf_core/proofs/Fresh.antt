-- The world before any event is shown, and what always holds of a world holds of it.
use Rattle.std.proofs.Common.{List, [], ◌∷◌, option_map, refl, sym, ap, arith}
use Rattle.ebpf_verify.specs.Subject.{Subject}
use Rattle.ebpf_machine.specs.Kinds.{known_kinds}
use Rattle.ebpf_machine.proofs.World.Owned.{owned_empty}
use Rattle.ebpf_shelves.specs.declared.object.Object.{Object}
use Rattle.ebpf_core.specs.Events.{first_world}
use Rattle.ebpf_shelves.specs.Shelves.{as_shelved, bare}
use Rattle.ebpf_shelves.proofs.Shelving.{bare_none}
use Rattle.ebpf_core.specs.Shown.{WorldState, Shows, IsTendedWorld}
use Rattle.ebpf_machine.specs.Kinds.{AreKnown}

abbrev fresh : List Subject → WorldState
fresh programs = record { programs = programs; runs = []; ledgers = [] ∷ [] ∷ [] ∷ []; places = []; shelves = bare }

fresh_shows : (programs : List Subject) → Shows first_world (fresh programs)
fresh_shows programs = record {
  views = λ run. refl;
  slots = λ run r there. absurd (cc);
  as_many = refl;
  kinds = refl;
  ledgers = refl;
  owned = owned_empty known_kinds known_kinds refl;
  shelves = λ shelf. sym (ap (option_map as_shelved) (bare_none shelf));
}

pub tended_fresh : (programs : List Subject) → AreKnown programs → IsTendedWorld (fresh programs)
tended_fresh programs known = record {
  known = known;
  runs = λ k d lt. absurd (omega (arith, lt));
  placed = record {
    each = λ slot. refl;
    held = λ run r there. absurd (cc);
    shelved = λ shelf slot stands. let none =
        ap (option_map (λ (o : Object). o.slot)) (bare_none shelf) in absurd (cc);
  };
  shown = (first_world, fresh_shows programs);
}
