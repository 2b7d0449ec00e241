-- The number of a kind and a slot says both.
use Rattle.std.proofs.Common.{◌≡◌, ℕ, ◌<◌, arith}
use Rattle.ebpf_object.specs.declared.object.Object.{Object}
use Rattle.ebpf_object.specs.Object.{has_size, kind_of, number_in, number_of, slot_of}

kinds : (k l s t : ℕ) → k < 3 → l < 3 → number_in k s ≡ number_in l t → k ≡ l
kinds k l s t few_k few_l same = omega (arith, few_k, few_l, same)

slots : (k l s t : ℕ) → k < 3 → l < 3 → number_in k s ≡ number_in l t → s ≡ t
slots k l s t few_k few_l same = omega (arith, few_k, few_l, same)

pub few_kinds : (o : Object) → kind_of o < 3
few_kinds o = (has_size o).1

-- two objects of one number are of one kind, and in one slot
pub same_kind : (a b : Object) → number_of a ≡ number_of b → kind_of a ≡ kind_of b
same_kind a b same = kinds (kind_of a) (kind_of b) (slot_of a) (slot_of b) (few_kinds a) (few_kinds b) same

pub same_slot : (a b : Object) → number_of a ≡ number_of b → slot_of a ≡ slot_of b
same_slot a b same = slots (kind_of a) (kind_of b) (slot_of a) (slot_of b) (few_kinds a) (few_kinds b) same
