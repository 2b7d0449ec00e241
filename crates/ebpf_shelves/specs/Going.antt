-- How the store of one run goes from one state to a later one, by what the run is answered.
use Rattle.std.specs.Prelude.{◌≡◌, ◌+◌, ℕ, Bool, false, List, [], ◌++◌, length}
use Rattle.std.proofs.Common.{cond, refl, sym, ap, ◌∙◌, add_assoc, add-zero}
use Rattle.std.proofs.lemmas.List.Sums.{sum_by-append}
use Rattle.ebpf_machine.specs.declared.report.Reply.{Reply}
use Rattle.ebpf_machine.specs.Whole.{granted, refused, is_granted, is_null}
use Rattle.ebpf_shelves.specs.declared.store.Entry.{Entry}

-- what is compared of a store: whether it answers calls of new null, whether memory ran out, and how many slots it granted
pub record Granting : Type 0 where
  pub nulls : Bool
  pub short : Bool
  pub slots : ℕ

abbrev pub granting : (nulls short : Bool) → List Entry → Granting
granting nulls short table = record { nulls = nulls; short = short; slots = length table }

-- it answers calls of new as before, and granted as many slots more as the replies say; where calls are granted and memory did not run
-- out, it refused none
pub record GoesBy (old : Granting) (told : List Reply) (new : Granting) : Type 0 where
  pub nulls : new.nulls ≡ old.nulls
  pub slots : new.slots ≡ old.slots + granted told
  pub ample : old.nulls ≡ false → new.short ≡ false → (old.short ≡ false) × (refused told ≡ 0)

pub none_told : (g : Granting) → GoesBy g [] g
none_told g = record { nulls = refl; slots = sym (add-zero g.slots); ample = λ grants fine. (fine, refl) }

pub told_on : (a b c : Granting) (told more : List Reply) → GoesBy a told b → GoesBy b more c → GoesBy a (told ++ more) c
told_on a b c told more first then = record {
  nulls = then.nulls ∙ first.nulls;
  slots =
      then.slots
      ∙ ap (λ (n : ℕ). n + granted more) first.slots
      ∙ add_assoc a.slots (granted told) (granted more)
      ∙ ap (λ (n : ℕ). a.slots + n) (sym (sum_by-append (λ (r : Reply). cond (is_granted r) 1 0) told more));
  ample = λ grants fine.
      let after = then.ample (first.nulls ∙ grants) fine in
      let before = first.ample grants after.0 in
      (before.0, sum_by-append (λ (r : Reply). cond (is_null r) 1 0) told more ∙ (λ i. before.1 i + after.1 i));
}
