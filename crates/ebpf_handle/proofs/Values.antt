-- The machine value of a handle, and what it owns. Assumes `Logic`.
--     word             the machine value of a struct whose one field is the pointer p
--     held_out         a handle by value owns what `held` says, and its machine value is its pointer's
--     held_in          the other way round
--     cases            a handle that holds nothing is null. One that holds a value is not, and may be compared with null
use Rattle.std.proofs.Common.{◌≡◌, ℕ, List, [], ◌∷◌, ◌++◌, refl, subst}
use lib.Dec.{T, lit<}
use seplogic.Ra.Ura.{Ura}
use mir.Raw.{raw as bare}
use mir.Syntax.{Ty, ty_ptr}
use mir.Val.{Val, vstruct, vcons, vnil, of_list, has_ty, WT}
use base.Logic.{SProp, ent, guard, guard_i, never, fst∗, snd∗, via}
use types.Logic.{Logic, sem}
use types.Kit.{Item, Goal, Seq, Step, step, ‵, given, ◌$◌, drop, use1, learn, fsplit, fjoin, fpick, fpack, feq_i, feq_l}
use contract.Monad.{fact_use}
use denote.RattleType.{RattleType, Valss}
use denote.Builtin.{RawPtr}
use denote.Memory.{lone}
use denote.RawPtr.{Ptr, block_ptr, null_ptr, ptr_val, in_a_block, Testable}
use denote.Steps.{nothing}
use denote.Param.{layout}
use denote.Struct.Struct.{within}
use denote.Struct.Owning.{shape}
use Rattle.std.specs.Prelude.{Option, Some, None}
use Rattle.std.proofs.GlobalToken.{dealloc_token-Testable}
use Rattle.std.specs.contracts.impls.GlobalAllocator.TheImpl.{ghosts}
use Rattle.std.specs.Ptr.{points_to}
use Rattle.ebpf_handle.specs.Ownership.{heap, heap_box, held}
use Rattle.ebpf_handle.specs.contracts.held.Held as handle

abbrev pub Good : Ty → Val → Type 0
Good τ v = T (has_ty τ v) × WT v

pub pointer_good : (p : Ptr) → Good ty_ptr (ptr_val p)
pointer_good (block_ptr b o) = (tt, tt)
pointer_good null_ptr = (tt, record { fits = lit< tt })

abbrev pub word : Ptr → Val
word p = vstruct (vcons (ptr_val p) vnil)

tested : {M : Type 1} {𝓤 : Ura M} (𝓛 : Logic 𝓤) (R : RattleType) (p : Ptr) (y : R.Denot)
    → ent 𝓤 (sem 𝓛 (heap_box R p y)) (guard 𝓤 (Testable p) (sem 𝓛 (heap_box R p y)))
tested {𝓤 = 𝓤} 𝓛 R p y = let B : SProp 𝓤 = sem 𝓛 (heap_box R p y) in let τ = bare (lone R.mir) in
    fact_use 𝓤 (Testable p) (via 𝓤 _ (snd∗ 𝓤 (sem 𝓛 (points_to R p y)) (sem 𝓛 (ghosts.dealloc_token heap τ p))) (dealloc_token-Testable 𝓛 heap τ p))
    (guard_i 𝓤 (Testable p) B)

module _ (R : RattleType) where
  abbrev pub Held : RattleType
  Held = handle.the_row R

  pub word_good : (p : Ptr) → Good (layout Held) (word p)
  word_good (block_ptr b o) = (tt, (tt, tt))
  word_good null_ptr = (tt, (record { fits = lit< tt }, tt))

  module _ {M : Type 1} {𝓤 : Ura M} {𝓛 : Logic 𝓤} {K : Type 0} {Γ : List (Item 𝓤)} {G : Goal 𝓤 𝓛.H} where
    pub held_out : K → (d : Held.Denot) (vs : List Val) → (vs ≡ word d.at ∷ [] → Seq K 𝓛 (‵ (held R d.at d.value) ∷ Γ) G)
        → Seq K 𝓛 (‵ (Held.own_val d vs) ∷ Γ) G
    held_out t d vs k = fsplit t $ fpick t (λ vss. fsplit t $ feq_l t (λ ev. fsplit t $ feq_l t (λ ep. drop t $
        k (subst (λ (ps : List Val). vs ≡ vstruct (of_list (ps ++ [])) ∷ []) ep ev))))

    pub held_in : K → (p : Ptr) (x : Option R.Denot) → Step K 𝓛 (‵ (Held.own_val (record { at = p; value = x }) (word p ∷ [])) ∷ Γ) G (‵ (held R p x) ∷ Γ) G
    held_in t p x = step (λ s. let v : Val = word p in
        nothing t $ feq_i t (List Val) (ptr_val p ∷ []) (ptr_val p ∷ []) refl $ fjoin t $ feq_i t (List Val) (v ∷ []) (v ∷ []) refl $ fjoin t $
        fpack t (Valss (RawPtr ∷ [])) (within (shape (handle.the_type R)) (p, tt) (v ∷ [])) (ptr_val p ∷ [], tt) $ fjoin t $ s)

    pub cases : K → (p : Ptr) (x : Option R.Denot) → (p ≡ null_ptr → x ≡ None → Seq K 𝓛 Γ G)
        → ((b o : ℕ) (y : R.Denot) → p ≡ block_ptr b o → x ≡ Some y → Testable (block_ptr b o) → Seq K 𝓛 (‵ (heap_box R (block_ptr b o) y) ∷ Γ) G)
        → Seq K 𝓛 (‵ (held R p x) ∷ Γ) G
    cases t p None none one = feq_l t (λ e. none e refl)
    cases t p (Some y) none one =
        in_a_block t p (λ q. heap_box R q y) (fst∗ 𝓤 (never 𝓤) (sem 𝓛 (ghosts.dealloc_token heap (bare (lone R.mir)) null_ptr))) (λ b o e.
        use1 𝓛 (given (Testable (block_ptr b o)) (‵ (heap_box R (block_ptr b o) y))) (tested 𝓛 R (block_ptr b o) y) $ learn t (λ may. one b o y e refl may))
