use Rattle.std.proofs.Common.{ℕ, ◌≡◌, ◌+◌, ◌/◌, ◌≤◌, ◌↔◌, length}
use Rattle.slab_layer.specs.Slots.{IsOut, Has, out_count, place_of}
use Rattle.homing.proofs.Reaping.{had_below}
use Rattle.homing.proofs.give_pages.Given as goal

abbrev pub invariant-loop-span : goal.invariant-loop-span
invariant-loop-span g l = record {
  pages : l.arena.pages ≡ l.initial.arena.pages;
  taken : l.pages + length l.arena.out ≡ length l.initial.arena.out;
  few : l.pages + had_below 256 l.slabs ≤ 256;
  out : (slot : ℕ) → IsOut l.slabs slot ↔ IsOut l.initial.slabs slot;
  kept : (slot : ℕ) → Has l.slabs (slot / 256) → place_of l.slabs slot ≡ place_of l.initial.slabs slot;
  counted : out_count l.slabs ≡ out_count l.initial.slabs;
}

abbrev pub decreases-loop-span : goal.decreases-loop-span
decreases-loop-span g l = had_below 256 l.slabs
