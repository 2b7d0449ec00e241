-- A program with a free word has no instruction of that word, so the linked one has only those that were added.
use Rattle.std.proofs.Common.{◌≡◌, ℕ, zero, suc, ℤ, List, Option, Some, None, refl, sym, ◌∙◌, arith, inl, inr, ◌⊎◌}
use Rattle.std.proofs.lemmas.Int.{ints}
use Rattle.ebpf_insn.specs.declared.register.Reg.{Reg}
use Rattle.ebpf_insn.specs.declared.insn.Insn.{Insn}
use Rattle.ebpf_insn.specs.Program.{insn_at}
use Rattle.ebpf_insn.proofs.ProgramLemmas.{insn_at_within}
use Rattle.ebpf_link.specs.Linking.{offset_at, address, adds, IsLinked, IsReplaced}
use Rattle.ebpf_link.specs.Apart.{IsApart, IsOfWord}
use Rattle.ebpf_link.specs.Words.{IsFree, IsFreeAt}
use Rattle.ebpf_link.specs.Choice.{AreAdded}

touches_itself : (word : ℤ) → IsApart word 8 word → ⊥
touches_itself word (inl below) = omega (arith, ints, below)
touches_itself word (inr above) = omega (arith, ints, above)

not_of_word : (p : List (Option Insn)) (word : ℤ) (slot : ℕ) → IsFreeAt p word slot → IsOfWord word (insn_at p slot) → ⊥
not_of_word p word slot free (inl at) = touches_itself word (free 8 word (rw at (refl, refl, refl)))
not_of_word p word slot free (inr (dst, at)) = touches_itself word (free 8 word (rw at (refl, refl, refl)))

no_addition : (dst : Reg) (bytes word : ℤ) → IsOfWord word (Some (adds dst bytes)) → ⊥
no_addition dst bytes word (inl at) = absurd (cc)
no_addition dst bytes word (inr (other, at)) = absurd (cc)

module _ (p q : List (Option Insn)) (offsets : List (Option ℤ)) (declared : ℕ) (word : ℤ) (links : IsLinked p offsets declared word q) (free : IsFree p word) where
  abbrev Added : ℕ → Type 0
  Added slot = (slot ≡ 0) ⊎ ((of : ℕ) × (offset : ℤ) × (offset_at offsets of ≡ Some offset) × (slot ≡ suc of))

  -- the second of two that replace an immediate adds
  second : (of : ℕ) (offset : ℤ) (i : Insn) → offset_at offsets of ≡ Some offset → insn_at q (suc (suc of)) ≡ Some i → IsOfWord word (Some i) → ⊥
  second of offset i wanted at is =
      let within = insn_at_within q (suc (suc of)) i at in
      let wide = links.wide of offset (omega (arith, within, links.long)) wanted in
      let adds_there = links.moved of offset wide.0 wide.1 wide.2 wanted in
      no_addition wide.0 (address declared offset) word (rw (sym adds_there ∙ at) is)

  from_origin : (slot : ℕ) (i : Insn) → insn_at q (suc slot) ≡ Some i → IsOfWord word (Some i) → (insn_at p slot ≡ Some i) ⊎ IsReplaced offsets slot → Added (suc slot)
  from_origin slot i at is (inl same) = absurd (not_of_word p word slot (free slot) (rw same is))
  from_origin slot i at is (inr (of, offset, wanted, inl here)) = let e : suc slot ≡ suc of = omega (arith, here) in inr (of, offset, wanted, e)
  from_origin slot i at is (inr (of, offset, wanted, inr next)) = absurd (second of offset i wanted (rw (sym next) at) is)

  by_insn : (slot : ℕ) (o : Option Insn) → insn_at q (suc slot) ≡ o → IsOfWord word o → Added (suc slot)
  by_insn slot None at (inl is) = absurd (cc)
  by_insn slot None at (inr (dst, is)) = absurd (cc)
  by_insn slot (Some i) at is = from_origin slot i at is (links.only slot i at)

  pub are_added : AreAdded offsets word q
  are_added zero is = inl refl
  are_added (suc slot) is = by_insn slot (insn_at q (suc slot)) refl is
