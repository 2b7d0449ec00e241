-- What the slots of a function load, in the words of the file.
use Rattle.std.proofs.Common.{refl, ◌&&◌, ◌||◌, is_some, Bool, true, false, ◌≡◌, ◌<◌, ◌/◌, ℕ, List, length, Option, Some, None, slice_index_or, sym, ap, subst, ◌∙◌, arith, inl, inr}
use Rattle.std.proofs.lemmas.Bool.Decides.{eqb_tells, nat_tests}
use Rattle.ebpf_object_file.specs.declared.relocation.Relocation.{Relocation}
use Rattle.ebpf_object_file.specs.declared.outside.Place.{Place}
use Rattle.ebpf_object_file.specs.declared.function.Function.{Function}
use Rattle.ebpf_object_file.specs.declared.data_use.DataUse.{DataUse}
use Rattle.ebpf_object_file.specs.First.{NoneBelow}
use Rattle.ebpf_object_file.specs.Section.{sections_in, bytes_of}
use Rattle.ebpf_object_file.specs.Relocation.{relocation_of, reaches}
use Rattle.ebpf_object_file.specs.Call.{is_call}
use Rattle.ebpf_object_file.specs.Outside.{IsReached, AreRelocations}
use Rattle.ebpf_object_file.specs.Data.{slot_of, data_fault, use_of}
use Rattle.ebpf_object_file.specs.declared.outside.Target.{Target}
use Rattle.ebpf_object_file.specs.DataFunction.{AreLoads, IfObject, IsLoadingFault, IsDataFault, HasUses}
use Rattle.ebpf_object_file.specs.Function.{IsAt}
use Rattle.ebpf_object_file.specs.Meant.{IsMeant}
use Rattle.ebpf_object_file.specs.declared.meant.Meant.{Meant}
use Rattle.ebpf_object_file.specs.declared.data_function.DataFault.{DataFault}
use Rattle.ebpf_object_file.specs.declared.data_function.DataFault.TheVariants as loading
use Rattle.ebpf_object_file.specs.Reading.{ArePut}
use Rattle.ebpf_object_file.specs.declared.symbol.Symbol.{Symbol}
use Rattle.ebpf_object_file.specs.declared.functions.Functions.{Functions}
use Rattle.ebpf_object_file.specs.Symbol.{symbol_or_null, is_in_file}
use Rattle.ebpf_object_file.specs.File.{AreFunctions}
use Rattle.ebpf_object_file.proofs.Slots.{is}
use Rattle.ebpf_object_file.proofs.Uses.{none_chosen}

-- a relocation that reaches the place is an entry of its relocations
pub record IsEntry (p : Place) (table : List ℕ) (r : Relocation) : Type 0 where
  pub entry : ℕ
  pub inside : entry < length table / 16
  pub is : r ≡ relocation_of table entry
  pub reaches : reaches p.from p.size (relocation_of table entry) ≡ true

entry_of : (file : List ℕ) (p : Place) (table : List ℕ) (r : Relocation) → AreRelocations file p table → IsReached file p r → IsEntry p table r
entry_of file p table r are h = elim are.are [
  | inl without ↦ absurd (is _ (without.0 h.table h.inside) h.wanted)
  | inr one ↦ elim (eqb_tells h.table one.0) [
    | inl e ↦ let same : bytes_of file h.table ≡ table = ap (bytes_of file) e.1 ∙ sym one.2 in record {
      entry = h.entry;
      inside = subst (λ (x : List ℕ). h.entry < length x / 16) same h.there;
      is = h.is ∙ ap (λ (x : List ℕ). relocation_of x h.entry) same;
      reaches = subst (λ (x : Relocation). reaches p.from p.size x ≡ true) (h.is ∙ ap (λ (x : List ℕ). relocation_of x h.entry) same) h.reaches;
    }
    | inr e ↦ absurd (is _ (one.1.other h.table h.inside e.1) h.wanted)
  ]
]

-- and the other way round
reached_by : (file : List ℕ) (p : Place) (table : List ℕ) (k : ℕ) → AreRelocations file p table → k < length table / 16
    → reaches p.from p.size (relocation_of table k) ≡ true → IsReached file p (relocation_of table k)
reached_by file p table k are inside reached = elim are.are [
  | inl without ↦ let empty : length table ≡ 0 = ap length without.1 in absurd (omega (arith, empty, inside))
  | inr one ↦ record {
    table = one.0;
    inside = one.1.inside;
    wanted = one.1.here;
    entry = k;
    there = subst (λ (x : List ℕ). k < length x / 16) one.2 inside;
    is = ap (λ (x : List ℕ). relocation_of x k) one.2;
    reaches = reached;
  }
]

fine_by : (a c : Bool) (x : Option Target) → a ≡ true → (a && (is_some x || c)) ≡ false → x ≡ None
fine_by true c None e f = refl
fine_by true c (Some t) e f = absurd (cc)
fine_by false c x e f = absurd (cc)

-- after the last relocation each slot has its use
pub all_put : (file symbols : List ℕ) (f : Function) (table : List ℕ) (uses : List (Option DataUse)) → AreRelocations file f.place table
    → ArePut file symbols f table (length table / 16) uses → NoneBelow (is_call f.code.now) (length f.code.now / 8) → AreLoads file symbols f uses
all_put file symbols f table uses are h calls = record {
  table = table;
  relocations = are;
  taken = h.taken;
  are = record {
    slots = h.slots;
    fine = λ r reached. let e = entry_of file f.place table r are reached in
        subst (λ (x : Relocation). data_fault file symbols f x ≡ None) (sym e.is) (fine_by _ _ _ e.reaches (h.taken e.entry e.inside));
    each = λ r reached. let e = entry_of file f.place table r are reached in
        subst (λ (x : Relocation). slice_index_or uses (slot_of f.place x) None ≡ Some (use_of file symbols f x)) (sym e.is)
        (h.each e.entry e.inside e.reaches);
    only = λ slot u some. let from = h.only slot u some in
        (relocation_of table from.entry, reached_by file f.place table from.entry are from.before from.reaches, from.slot_is);
  };
  calls = calls;
}

-- why what is meant doesn't load data
pub loading_refused : (file name : List ℕ) (m : Meant) (g : Function) (e : DataFault) → IsMeant file name m
    → IsAt m.functions.file.now m.functions.symbols.now m.number g → IfObject e (λ o. IsLoadingFault m.functions g o) → IfObject e (λ o. IsDataFault file name o)
loading_refused file name m g loading.NoMemory is at why = why
loading_refused file name m g (loading.Object o) is at why = inr (m, is, inr (g, at, why))

in_file : (n : ℕ) (s : Symbol) → is_in_file n s ≡ true → s.section < n
in_file n s e = grind (arith, nat_tests)

same_use : (u v : DataUse) → Some u ≡ Some v → v.section ≡ u.section
same_use u v e = cc

-- the section of a use is in the file
pub has_uses : (file : List ℕ) (f : Functions) (g : Function) (uses : List (Option DataUse)) → AreFunctions file f → AreLoads file f.symbols.now g uses → HasUses file uses
has_uses file f g uses are loads = record {
  is_open = are.symbols.is.file_is;
  inside = λ slot u some.
      let from = loads.are.only slot u some in
      let r = from.0 in
      let s = symbol_or_null f.symbols.now r.symbol in
      let at : slice_index_or uses slot None ≡ Some (use_of file f.symbols.now g r) =
      subst (λ (x : ℕ). slice_index_or uses x None ≡ Some (use_of file f.symbols.now g r)) from.2 (loads.are.each r from.1) in
      subst (λ (x : ℕ). x < sections_in file) (same_use u (use_of file f.symbols.now g r) (sym some ∙ at))
      (in_file (sections_in file) s (none_chosen _ _ _ (loads.are.fine r from.1)).0);
}
