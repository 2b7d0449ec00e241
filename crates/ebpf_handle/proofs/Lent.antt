-- What a `&` to a handle has. Assumes `Logic`.
--     held_lent_laws   it may be copied, and used for a shorter time
--     Lends-held       it is made of a borrow of what the handle owns
--     lent_cases       a handle that holds nothing is null. One that holds a value is not, and may be compared with null
use Rattle.std.proofs.Common.{◌≡◌, ℕ, ◌^◌, List, [], ◌∷◌, refl}
use seplogic.Ra.Ura.{Ura}
use mir.Raw.{raw as bare}
use base.Fraction.{full_share}
use base.Logic.{ent, sep, wand, guard, guard_i, never, fst∗, via, apply∗}
use base.Fml.{Lft, Fml, feq, flt, fsep, fbor}
use types.Logic.{Logic, sem, lfts}
use types.Kit.{Item, Goal, Seq, ‵, raw, ◌⊛◌, given, later, ◌$◌, !, qed, move, drop, split, fsplit, use1, use2, await, learn, feq_l, flt_l, flt_i}
use types.Kit.{updating, now as at_once, done}
use contract.Monad.{fact_use}
use denote.RattleType.{RattleType, RowLaws}
use denote.Memory.{lone, shared_of}
use denote.RawPtr.{Ptr, block_ptr, null_ptr, block_of, count_of, lies_at, in_a_block, Testable}
use denote.Shares.{SharesAt}
use denote.Sharing.{ShrLaws, said}
use denote.SharingLaws.{said_shr_laws, beside_shr_laws}
use denote.Struct.Lending.{lent_at, lent_at_shr_laws, Lends, Lends-lies, Lends-said, Lends-both}
use Rattle.std.specs.Prelude.{Option, Some, None}
use Rattle.std.proofs.GlobalToken.{dealloc_token-Testable}
use Rattle.std.specs.contracts.impls.GlobalAllocator.TheImpl.{ghosts}
use Rattle.ebpf_handle.specs.Ownership.{heap, held, held_lent}

abbrev low : Ptr → Fml
low p = flt (count_of p) (2 ^ 63)

pub held_lent_laws : (R : RattleType) → RowLaws R → (p : Ptr) (x : Option R.Denot) → ShrLaws (held_lent R p x)
held_lent_laws R L p None = said_shr_laws (feq Ptr p null_ptr) tt
held_lent_laws R L p (Some x) = beside_shr_laws (lent_at R p x) (said (low p)) (lent_at_shr_laws R L p x) (said_shr_laws (low p) tt)

module _ {M : Type 1} {𝓤 : Ura M} (𝓛 : Logic 𝓤) where
  open 𝓛 use {H, A}

  abbrev Freed : (R : RattleType) → Ptr → Fml
  Freed R p = ghosts.dealloc_token heap (bare (lone R.mir)) p

  tested : (R : RattleType) (p : Ptr) → ent 𝓤 (sem 𝓛 (Freed R p)) (guard 𝓤 (Testable p) (sem 𝓛 (Freed R p)))
  tested R p = fact_use 𝓤 (Testable p) (dealloc_token-Testable 𝓛 heap (bare (lone R.mir)) p) (guard_i 𝓤 (Testable p) (sem 𝓛 (Freed R p)))

  Lends-low : (R : RattleType) (p : Ptr) (l : Lft) → Lends 𝓛 (Freed R p) (said (low p)) l
  Lends-low R p l κ ts inc sp = qed 𝓛 (‵ (fbor κ (Freed R p)) ∷ raw (lfts 𝓛 ts) ∷ []) {P = H.⇛ (sep 𝓤 (sem 𝓛 (low p)) (lfts 𝓛 ts))} (
      updating ! $ use2 𝓛 (later (‵ (Freed R p) ⊛ raw (wand 𝓤 (sem 𝓛 (Freed R p)) (H.⇛ (sep 𝓤 (A.bor κ (Freed R p)) (lfts 𝓛 ts)))))) (𝓛.more.bor_acc_by κ ts (Freed R p) sp) $ await ! tt $ split ! $
      use1 𝓛 (given (Testable p) (‵ (Freed R p))) (tested R p) $ learn ! (λ may.
      use2 𝓛 (later (‵ (fbor κ (Freed R p)) ⊛ raw (lfts 𝓛 ts))) (apply∗ 𝓤 (sem 𝓛 (Freed R p)) (H.⇛ (sep 𝓤 (A.bor κ (Freed R p)) (lfts 𝓛 ts)))) $ await ! tt $ split ! $ drop ! $
      flt_i ! (count_of p) (2 ^ 63) may $ at_once ! $ done !))

  pub Lends-held : (R : RattleType) (l : Lft) → ((x : R.Denot) → SharesAt 𝓛 R x (shared_of R x) l) → (p : Ptr) (x : Option R.Denot) → Lends 𝓛 (held R p x) (held_lent R p x) l
  Lends-held R l s p None = Lends-said 𝓛 (feq Ptr p null_ptr) tt l
  Lends-held R l s p (Some x) = Lends-both 𝓛 (lies_at R full_share p x) (Freed R p) (lent_at R p x) (said (low p)) l (Lends-lies 𝓛 R l p x (s x)) (Lends-low R p l)

module _ {M : Type 1} {𝓤 : Ura M} {𝓛 : Logic 𝓤} {K : Type 0} {Γ : List (Item 𝓤)} {G : Goal 𝓤 𝓛.H} where
  pub lent_cases : K → (R : RattleType) (p : Ptr) (x : Option R.Denot) (κ : Lft) → (p ≡ null_ptr → x ≡ None → Seq K 𝓛 Γ G)
      → ((b o : ℕ) (y : R.Denot) → p ≡ block_ptr b o → x ≡ Some y → Testable (block_ptr b o) → Seq K 𝓛 (‵ (shared_of R y b o κ) ∷ Γ) G)
      → Seq K 𝓛 (‵ (held_lent R p x κ) ∷ Γ) G
  lent_cases t R p None κ none one = feq_l t (λ e. none e refl)
  lent_cases t R p (Some y) κ none one =
      in_a_block t p (λ q. fsep (lent_at R q y κ) (low q)) (via 𝓤 _ (fst∗ 𝓤 (sem 𝓛 (lent_at R null_ptr y κ)) (sem 𝓛 (low null_ptr)))
      (fst∗ 𝓤 (never 𝓤) (sem 𝓛 (shared_of R y (block_of null_ptr) (count_of null_ptr) κ)))) (λ b o e.
      fsplit t $ fsplit t $ drop t $ move t (1 ∷ []) $ flt_l t (λ may. one b o y e refl may))
