-- Which pointers to objects a frame has.
use Rattle.std.proofs.Common.{◌≡◌, ◌⊎◌, inl, inr, Bool, true, false, replicate, Option, Some, None, sym, subst, refl}
use Rattle.std.specs.Prelude.{Contains}
use Rattle.std.proofs.lemmas.List.Elements.{All-contains, All-replicate}
use Rattle.std.proofs.lemmas.List.Sums.{AllPass-from_list_all}
use Rattle.ebpf_insn.specs.declared.register.Reg.TheVariants.{R0}
use Rattle.ebpf_machine.specs.declared.value.Value.{Value}
use Rattle.ebpf_machine.specs.declared.value.Value.TheVariants.{Number, Pointer}
use Rattle.ebpf_machine.specs.declared.value.Base.TheVariants.{Stack, Context, Object}
use Rattle.ebpf_machine.specs.declared.value.Cell.{Cell}
use Rattle.ebpf_machine.specs.declared.value.Cell.TheVariants.{Unset}
use Rattle.ebpf_machine.specs.Values.{Frame}
use Rattle.ebpf_machine.specs.Effect.{with_value}
use Rattle.ebpf_machine.specs.World.{Name, first_registers, first_frame}
use Rattle.ebpf_machine.specs.Sound.{Names, NamesPart, HasPointer, InRegister, InCell}
use Rattle.ebpf_machine.proofs.Lists.ListLemmas.{Contains-set_cases}

-- one that is there after a write of R0 was there before, or is what was written
pub pointer_written : (frame : Frame Name) (v : Value Name) (n : Name) → HasPointer (with_value frame R0 v) n → HasPointer frame n ⊎ Names (Some v) n
pointer_written frame v n (InRegister u among names) = by (Contains-set_cases frame.registers 0 (Some v) u among) where
  by : (Some v ≡ u) ⊎ Contains frame.registers u → HasPointer frame n ⊎ Names (Some v) n
  by (inl same) = inr (subst (λ (x : Option (Value Name)). Names x n) (sym same) names)
  by (inr before) = inl (InRegister u before names)
pointer_written frame v n (InCell c among names) = inl (InCell c among names)

-- ---- a run has none at its first instruction

abbrev is_no_object : Option (Value Name) → Bool
is_no_object (Some (Pointer (Object name) k)) = false
is_no_object _ = true

no_object : (v : Option (Value Name)) (n : Name) → is_no_object v ≡ true → Names v n → ⊥
no_object None n plain names = names
no_object (Some (Number x)) n plain names = names
no_object (Some (Pointer Stack k)) n plain names = names
no_object (Some (Pointer Context k)) n plain names = names
no_object (Some (Pointer (Object name) k)) n plain names = absurd (cc)

pub no_first_pointer : (n : Name) → HasPointer first_frame n → ⊥
no_first_pointer n (InRegister v among names) =
    let all = AllPass-from_list_all is_no_object first_registers refl in
    no_object v n (All-contains (λ (x : Option (Value Name)). is_no_object x ≡ true) first_registers v all among) names
no_first_pointer n (InCell c among names) =
    All-contains (λ (x : Cell Name). NamesPart x n → ⊥) (replicate 512 Unset) c
    (All-replicate (λ (x : Cell Name). NamesPart x n → ⊥) 512 Unset (λ h. h)) among names
