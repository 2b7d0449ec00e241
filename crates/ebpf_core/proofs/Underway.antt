-- A replay that is under way: what is left of the events leads on from the world that is shown.
use Rattle.std.proofs.Common.{◌≡◌, ℕ, ◌+◌, ◌<◌, ◌≤◌, List, [], ◌∷◌, length, drop, Result, Ok, Err, refl, sym, ap, ◌∙◌}
use Rattle.std.proofs.lemmas.List.{drop_more, drop_all}
use Rattle.std.specs.Prelude.{slice_index_or}
use Rattle.ebpf_verify.specs.Subject.{Subject}
use Rattle.ebpf_machine.specs.World.{World}
use Rattle.ebpf_machine.specs.Events.{Illegal}
use Rattle.ebpf_core.specs.declared.event.Event.{Event}
use Rattle.ebpf_core.specs.declared.fault.ApplyCode.{ApplyCode}
use Rattle.ebpf_core.specs.declared.fault.ApplyFault.TheVariants.{Bad}
use Rattle.ebpf_core.specs.Events.{happened}
use Rattle.ebpf_core.specs.Faults.{code_of}
use Rattle.ebpf_core.specs.Shown.{WorldState, Shows, IsDone, IsRefused}
use Rattle.ebpf_core.specs.Replay.{and_then, world_after_from, world_after, IsReplayed}

pub record IsUnderway (programs : List Subject) (events : List Event) (index : ℕ) (kept : WorldState) : Type 0 where
  pub world : World
  pub shows : Shows world kept
  pub rest : world_after_from programs (drop index events) index world ≡ world_after programs events
  pub programs_stay : kept.programs ≡ programs

-- the first of the events that are left
next_event : (events : List Event) (index : ℕ) (d : Event) → index < length events → drop index events ≡ slice_index_or events index d ∷ drop (index + 1) events
next_event events index d lt = drop_more events index d lt

world_after_next : (programs : List Subject) (e : Event) (rest : List Event) (index : ℕ) (w : World)
    → world_after_from programs (e ∷ rest) index w ≡ and_then (happened programs e w) index (world_after_from programs rest (index + 1))
unfolding world_after_from
world_after_next programs e rest index w = refl

world_after_last : (programs : List Subject) (index : ℕ) (w : World) → world_after_from programs [] index w ≡ Ok w
unfolding world_after_from
world_after_last programs index w = refl

-- an event takes place
pub underway_next : (programs : List Subject) (events : List Event) (index : ℕ) (old new : WorldState) (e : Event)
    → index < length events → e ≡ slice_index_or events index e → IsUnderway programs events index old → IsDone e old new
    → new.programs ≡ old.programs → IsUnderway programs events (index + 1) new
underway_next programs events index old new e lt at h done same =
    let after = done h.world h.shows in
    let goes : happened programs e h.world ≡ Ok after.0 = ap (λ (ps : List Subject). happened ps e h.world) (sym h.programs_stay) ∙ after.1 in
    let left : drop index events ≡ e ∷ drop (index + 1) events = next_event events index e lt ∙ ap (λ (x : Event). x ∷ drop (index + 1) events) (sym at) in
    let led : world_after_from programs (e ∷ drop (index + 1) events) index h.world ≡ world_after_from programs (drop (index + 1) events) (index + 1) after.0 =
    world_after_next programs e (drop (index + 1) events) index h.world
    ∙ ap (λ (r : Result World Illegal). and_then r index (world_after_from programs (drop (index + 1) events) (index + 1))) goes in
    record {
      world = after.0;
      shows = after.2;
      rest = sym led ∙ ap (λ (es : List Event). world_after_from programs es index h.world) (sym left) ∙ h.rest;
      programs_stay = same ∙ h.programs_stay;
    }

-- an event is not legal
pub underway_refused : (programs : List Subject) (events : List Event) (index : ℕ) (old : WorldState) (e : Event) (code : ApplyCode)
    → index < length events → e ≡ slice_index_or events index e → IsUnderway programs events index old → IsRefused e old (Bad code)
    → (why : Illegal) × (world_after programs events ≡ Err (index, why)) × (code ≡ code_of why)
underway_refused programs events index old e code lt at h refused =
    let why = refused h.world h.shows in
    let bad : happened programs e h.world ≡ Err why.0 = ap (λ (ps : List Subject). happened ps e h.world) (sym h.programs_stay) ∙ why.1 in
    let left : drop index events ≡ e ∷ drop (index + 1) events = next_event events index e lt ∙ ap (λ (x : Event). x ∷ drop (index + 1) events) (sym at) in
    let led : world_after_from programs (e ∷ drop (index + 1) events) index h.world ≡ Err (index, why.0) =
    world_after_next programs e (drop (index + 1) events) index h.world
    ∙ ap (λ (r : Result World Illegal). and_then r index (world_after_from programs (drop (index + 1) events) (index + 1))) bad in
    (why.0, sym h.rest ∙ ap (λ (es : List Event). world_after_from programs es index h.world) left ∙ led, why.2)

-- all events took place
pub underway_last : (programs : List Subject) (events : List Event) (index : ℕ) (kept : WorldState) → length events ≤ index
    → IsUnderway programs events index kept → IsReplayed programs events kept
underway_last programs events index kept done h =
    let none = drop_all index events done in
    (h.world, sym h.rest ∙ ap (λ (es : List Event). world_after_from programs es index h.world) none ∙ world_after_last programs index h.world, h.shows)
