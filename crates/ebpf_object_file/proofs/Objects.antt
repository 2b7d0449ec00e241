-- The tests of a header, one by one.
use Rattle.std.proofs.Common.{◌≡◌, ◌≤◌, ◌<◌, ℕ, Bool, true, false, ◌&&◌, List, [], ◌∷◌, None, refl, arith, ap, subst, sym}
use Rattle.std.specs.Prelude.{◌==◌, nat_le, nat_lt, ⊤}
use Rattle.std.proofs.lemmas.Bool.{and_from}
use Rattle.std.proofs.lemmas.Bool.Decides.{nat_tests}
use Rattle.ebpf_object_file.specs.declared.header.Header.{Header}
use Rattle.ebpf_object_file.specs.First.{first_fault}
use Rattle.ebpf_object_file.specs.Header.{header_tests, header_fault, header_of, IsObject}
use Rattle.ebpf_object_file.specs.Section.{sections_in}
use Rattle.ebpf_object_file.specs.File.{IsOpen}

-- each of the tests holds
abbrev AllHold : {F : Type 0} → List (Bool × F) → Type 0
AllHold [] = ⊤
AllHold (t ∷ ts) = (t.0 ≡ true) × AllHold ts

all_hold : {F : Type 0} (tests : List (Bool × F)) → first_fault tests ≡ None → AllHold tests
all_hold [] e = record {}
all_hold ((true, f) ∷ ts) e = (refl, all_hold ts e)
all_hold ((false, f) ∷ ts) e = absurd (cc)

no_fault : {F : Type 0} (tests : List (Bool × F)) → AllHold tests → first_fault tests ≡ None
no_fault [] h = refl
no_fault (t ∷ ts) h = rw h.0 (no_fault ts h.1)

pub both : (a b : Bool) → (a && b) ≡ true → (a ≡ true) × (b ≡ true)
both true true e = (refl, refl)
both true false e = absurd (cc)
both false b e = absurd (cc)

pub eq : (a b : ℕ) → (a == b) ≡ true → a ≡ b
eq a b e = grind (arith, nat_tests)

pub le : (a b : ℕ) → nat_le a b ≡ true → a ≤ b
le a b e = grind (arith, nat_tests)

pub lt : (a b : ℕ) → nat_lt a b ≡ true → a < b
lt a b e = grind (arith, nat_tests)

pub eq_test : (a b : ℕ) → a ≡ b → (a == b) ≡ true
eq_test a b e = grind (arith, nat_tests)

pub le_test : (a b : ℕ) → a ≤ b → nat_le a b ≡ true
le_test a b e = grind (arith, nat_tests)

pub lt_test : (a b : ℕ) → a < b → nat_lt a b ≡ true
lt_test a b e = grind (arith, nat_tests)

-- a header without a fault is that of an object file
pub object_of : (file : List ℕ) → header_fault file ≡ None → IsObject file
object_of file e =
    let h = all_hold (header_tests file) e in
    let little = both _ _ h.1.1.0 in
    record {
      whole = le _ _ h.0;
      magic = eq _ _ h.1.0;
      class = eq _ _ little.0;
      version = eq _ _ little.1;
      kind = eq _ _ h.1.1.1.0;
      machine = eq _ _ h.1.1.1.1.0;
      entry = eq _ _ h.1.1.1.1.1.0;
      table = le _ _ h.1.1.1.1.1.1.0;
      names = lt _ _ h.1.1.1.1.1.1.1.0;
    }

-- and the other way round
pub fault_free : (file : List ℕ) → IsObject file → header_fault file ≡ None
fault_free file h =
    no_fault (header_tests file) (
      le_test _ _ h.whole,
      (
        eq_test _ _ h.magic,
        (
          and_from _ _ (eq_test _ _ h.class) (eq_test _ _ h.version),
          (eq_test _ _ h.kind, (eq_test _ _ h.machine, (eq_test _ _ h.entry, (le_test _ _ h.table, (lt_test _ _ h.names, record {}))))),
        ),
      ),
    )

-- the section of the names is in the file
pub names_inside : (file : List ℕ) (h : Header) → IsOpen file → h ≡ header_of file → h.names < sections_in file
names_inside file h open_is same =
    let names : h.names ≡ (header_of file).names = ap (λ (x : Header). x.names) same in
    subst (λ (x : ℕ). x < sections_in file) (sym names) (object_of file open_is.header).names
