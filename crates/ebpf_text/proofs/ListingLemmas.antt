-- The lines of a program, slot by slot: a text and the lines of the slots that are left are the listing.
use Rattle.std.proofs.Common.{◌≡◌, ℕ, ◌+◌, ◌<◌, ◌≤◌, List, [], ◌++◌, length, get_or, drop, Option, Some, None, refl, sym, ap, ◌∙◌, append_assoc, arith}
use Rattle.std.specs.Prelude.{slice_get, unwrap_or}
use Rattle.std.proofs.lemmas.List.{at_drop_more, at_drop_all}
use Rattle.std.proofs.lemmas.Grind.{common_steps}
use Rattle.std.proofs.lemmas.Option.{unwrap_or-slice_get}
use Rattle.ebpf_insn.specs.declared.insn.Insn.{Insn}
use Rattle.ebpf_insn.specs.Program.{flattened, insn_at}
use Rattle.ebpf_text.specs.Listing.{line_at, lines_from, listing_of}

-- two readings of a slot of the program
is_read : (p : List (Option Insn)) (slot : ℕ) → get_or p slot None ≡ insn_at p slot
is_read p slot = sym (unwrap_or-slice_get p slot None) ∙ same (slice_get p slot) where
  same : (o : Option (Option Insn)) → unwrap_or o None ≡ flattened o
  same None = refl
  same (Some o) = refl

-- the line of this slot, and those of the later ones
lines_here : (slot : ℕ) (p : List (Option Insn)) → slot < length p
    → lines_from slot (drop slot p) ≡ line_at slot (insn_at p slot) ++ lines_from (slot + 1) (drop (slot + 1) p)
unfolding lines_from
lines_here slot p inside =
    at_drop_more (lines_from slot) p slot None inside
    ∙ ap (λ (o : Option Insn). line_at slot o ++ lines_from (slot + 1) (drop (slot + 1) p)) (is_read p slot)

-- the line of this slot is written
pub slot_more : (before text : List ℕ) (slot : ℕ) (p : List (Option Insn)) → slot < length p → text ≡ before ++ line_at slot (insn_at p slot)
    → before ++ lines_from slot (drop slot p) ≡ listing_of p → text ++ lines_from (slot + 1) (drop (slot + 1) p) ≡ listing_of p
slot_more before text slot p inside written h =
    ap (λ (x : List ℕ). x ++ lines_from (slot + 1) (drop (slot + 1) p)) written
    ∙ (append_assoc before (line_at slot (insn_at p slot)) _
    ∙ (ap (λ (x : List ℕ). before ++ x) (sym (lines_here slot p inside)) ∙ h))

-- no slot is left
pub all_lines : (text : List ℕ) (slot : ℕ) (p : List (Option Insn)) → length p ≤ slot
    → text ++ lines_from slot (drop slot p) ≡ listing_of p → text ≡ listing_of p
unfolding lines_from
all_lines text slot p past h = sym (nothing text) ∙ (ap (λ (x : List ℕ). text ++ x) (sym (at_drop_all (lines_from slot) p slot past)) ∙ h) where
  nothing : (xs : List ℕ) → xs ++ [] ≡ xs
  nothing xs = grind (arith, common_steps)
