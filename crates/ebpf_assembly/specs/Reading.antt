-- What texts are read as.
use Rattle.std.specs.Prelude.{◌≡◌, ◌≢◌, ℕ, ℤ, ◌++◌, Bool, if◌then◌else◌, List, length, map, Option, FitsSigned}
use Rattle.std.specs.Borrow.{Bor}
use Rattle.std.specs.Int.{w16}
use Rattle.std.specs.Option.{MatchOption}
use Rattle.ebpf_insn.specs.declared.insn.Size.{Size}
use Rattle.ebpf_insn.specs.declared.register.Reg.{Reg}
use Rattle.ebpf_text.specs.Operands.{register_text, offset_text, place_text}
use Rattle.ebpf_assembly.specs.declared.kind.Kind.{Kind}
use Rattle.ebpf_assembly.specs.declared.kind.Kind.TheVariants.{StoreImmediate, StoreRegister}
use Rattle.ebpf_assembly.specs.Kinds.{IsKind, kind_name}

-- words, each as its bytes
abbrev pub texts : List (Bor (List ℕ)) → List (List ℕ)
texts words = map (λ w. w.now) words

-- what is read of a text: a value with P whose text it is, or nothing where it is that of none of them
abbrev pub IsRead : {X T : Type 0} → (X → Type 0) → (X → T) → T → Option X → Type 0
IsRead {X} P text_of text o = MatchOption o ((x : X) → P x → text ≢ text_of x) (λ x. P x × (text ≡ text_of x))

-- what is read of a word: a pair whose name it is, or nothing where it is that of none
abbrev pub IsPairRead : {A B : Type 0} → (A → B → List ℕ) → List ℕ → Option (A × B) → Type 0
IsPairRead {A} {B} name word o = MatchOption o ((a : A) (b : B) → word ≢ name a b) (λ r. word ≡ name r.0 r.1)

-- what is read of a word: the parts of a kind of this family whose name it is, or nothing where it is that of none
abbrev pub IsKindRead : {A B : Type 0} → (A → B → Kind) → List ℕ → Option (A × B) → Type 0
IsKindRead {A} {B} k word o =
    MatchOption o ((a : A) (b : B) → IsKind (k a b) → word ≢ kind_name (k a b)) (λ r. IsKind (k r.0 r.1) × (word ≡ kind_name (k r.0 r.1)))

-- what is read of a word: the size of a store, and whether it stores a register; or nothing where it is the name of no store
abbrev pub IsStoreRead : List ℕ → Option (Size × Bool) → Type 0
IsStoreRead word o =
    MatchOption o ((size : Size) → (word ≢ kind_name (StoreImmediate size)) × (word ≢ kind_name (StoreRegister size)))
    (λ r. word ≡ kind_name (if r.1 then StoreRegister r.0 else StoreImmediate r.0))

-- what is read of a word: the base and the offset of a place, or nothing where it is no place
abbrev pub IsPlaceRead : List ℕ → Option (Reg × ℤ) → Type 0
IsPlaceRead word o =
    MatchOption o ((r : Reg) (z : ℤ) → FitsSigned w16 z → word ≢ place_text r z) (λ p. FitsSigned w16 p.1 × (word ≡ place_text p.0 p.1))

-- what is read of a text: a base whose name has this length, and an offset; or nothing where it is none of these
abbrev pub IsPlaceReadAt : List ℕ → ℕ → Option (Reg × ℤ) → Type 0
IsPlaceReadAt text len o =
    MatchOption o ((r : Reg) (z : ℤ) → FitsSigned w16 z → length (register_text r) ≡ len → text ≢ register_text r ++ offset_text z)
    (λ p. FitsSigned w16 p.1 × (text ≡ register_text p.0 ++ offset_text p.1))
