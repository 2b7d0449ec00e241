-- How the store of one run goes, call by call, and what that says where the run has ended.
use Rattle.std.proofs.Common.{◌≡◌, ℕ, ◌+◌, Bool, false, List, [], ◌∷◌, ◌++◌, length, length-set, refl, sym, ap, ◌∙◌, arith}
use Rattle.std.specs.Prelude.{slice_set, Option, Some, None}
use Rattle.std.proofs.lemmas.List.{length_push}
use Rattle.ebpf_machine.specs.declared.report.Reply.{Reply}
use Rattle.ebpf_machine.specs.declared.report.Reply.TheVariants as reply
use Rattle.ebpf_machine.specs.Whole.{granted, refused}
use Rattle.ebpf_machine.specs.Store.{reply_to_swap}
use Rattle.ebpf_shelves.specs.declared.store.Entry.{Entry}
use Rattle.ebpf_shelves.specs.Going.{Granting, GoesBy, granting}

-- a call of new that was granted a slot
pub granted_goes : {H : Type 0} (nulls short nulls' short' : Bool) (table table' : List Entry) (entry : Entry) (object : H)
    → table' ≡ table ++ entry ∷ [] → (nulls' ≡ nulls) × (short' ≡ short)
    → GoesBy (granting nulls short table) (reply.Granted ∷ []) (granting nulls' short' table')
granted_goes nulls short nulls' short' table table' entry object is stays = record {
  nulls = stays.0;
  slots = ap (λ (t : List Entry). length t) is ∙ length_push table entry;
  ample = λ grants fine. (sym stays.1 ∙ fine, refl);
}

-- an entry that is written again
pub given_goes : (nulls short : Bool) (table : List Entry) (slot : ℕ) (entry : Entry)
    → GoesBy (granting nulls short table) [] (granting nulls short (slice_set table slot entry))
given_goes nulls short table slot entry = record {
  nulls = refl;
  slots = let long = length-set table slot entry in omega (arith, long);
  ample = λ grants fine. (fine, refl);
}

-- a call of swap
pub swapped_goes : {H : Type 0} (nulls short nulls' short' : Bool) (table table' : List Entry) (got : Option H)
    → length table' ≡ length table → (nulls' ≡ nulls) × (short' ≡ short)
    → GoesBy (granting nulls short table) (reply_to_swap got ∷ []) (granting nulls' short' table')
swapped_goes nulls short nulls' short' table table' None slots stays =
    record { nulls = stays.0; slots = omega (arith, slots); ample = λ grants fine. (sym stays.1 ∙ fine, refl) }
swapped_goes nulls short nulls' short' table table' (Some h) slots stays =
    record { nulls = stays.0; slots = omega (arith, slots); ample = λ grants fine. (sym stays.1 ∙ fine, refl) }

-- ---- a run's answers

-- the next slot is as many as were granted
pub next_slot : (slot slots first : ℕ) (told : List Reply) → slot ≡ slots → slots ≡ first + granted told → first ≡ 0 → slot ≡ granted told
next_slot slot slots first told is went none = omega (arith, is, went, none)

-- the store answers calls of new so, and where it grants them, memory did not run out
pub record IsFine (nulls : Bool) (g : Granting) : Type 0 where
  pub so : g.nulls ≡ nulls
  pub fine : nulls ≡ false → g.short ≡ false

-- it was so before these replies too, of which none was a refusal then
pub fine_before : (nulls : Bool) (a b : Granting) (told : List Reply) → GoesBy a told b → IsFine nulls b → IsFine nulls a × (nulls ≡ false → refused told ≡ 0)
fine_before nulls a b told went fine =
    let so : a.nulls ≡ nulls = sym went.nulls ∙ fine.so in
    let ample : nulls ≡ false → (a.short ≡ false) × (refused told ≡ 0) = λ grants. went.ample (so ∙ grants) (fine.fine grants) in
    (record { so = so; fine = λ grants. (ample grants).0 }, λ grants. (ample grants).1)

-- it is so in the end where memory did not run out
pub fine_last : (nulls : Bool) (first last : Granting) (told : List Reply) → first.nulls ≡ nulls → GoesBy first told last
    → last.short ≡ false → IsFine nulls last
fine_last nulls first last told is went fine = record { so = went.nulls ∙ is; fine = λ grants. fine }
