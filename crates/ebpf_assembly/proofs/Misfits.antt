-- The first operand that isn't what it has to be, operand by operand.
use Rattle.std.proofs.Common.{◌≡◌, ◌<◌, ◌≤◌, ℕ, ◌+◌, ◌-◌, Bool, true, false, List, [], ◌∷◌, length, get_or, take, drop, Bor, refl, ap, ◌∙◌, subst}
use Rattle.std.proofs.Common.{inl, inr, arith}
use Rattle.std.proofs.Math.Seq.{take-length}
use Rattle.ebpf_assembly.specs.declared.cause.Cause.{Cause}
use Rattle.ebpf_assembly.specs.declared.cause.Cause.TheVariants.{Other}
use Rattle.ebpf_assembly.specs.declared.cause.Wanted.{Wanted}
use Rattle.ebpf_assembly.specs.Names.{Named}
use Rattle.ebpf_assembly.specs.Reading.{texts}
use Rattle.ebpf_assembly.specs.Causes.{Fits, IsMisfitFrom, misfit}

pub none_wanted : (labels : List Named) (number : ℕ) (wants : List Wanted) (ws : List (List ℕ)) → length wants < 1 → IsMisfitFrom labels number wants ws Other
unfolding IsMisfitFrom
none_wanted labels number [] ws few = refl
none_wanted labels number (want ∷ wants) ws few = absurd (omega (arith, few))

pub none_given : (labels : List Named) (number : ℕ) (wants : List Wanted) (ops : List (Bor (List ℕ))) → length ops < 1
    → IsMisfitFrom labels number wants (texts ops) Other
unfolding IsMisfitFrom
none_given labels number [] ops few = refl
none_given labels number (want ∷ wants) [] few = refl
none_given labels number (want ∷ wants) (op ∷ ops) few = absurd (omega (arith, few))

false_is_not : (P : Type 0) (test : Bool) → test ≡ false → (P → test ≡ true) → P → ⊥
false_is_not P true is only p = absurd (cc)
false_is_not P false is only p = let wrong = only p in absurd (cc)

pub one_misfits : (labels : List Named) (number : ℕ) (wants : List Wanted) (ops : List (Bor (List ℕ))) (a : Wanted) (b : Bor (List ℕ)) (test : Bool) (c : Cause)
    → 1 ≤ length wants → 1 ≤ length ops → test ≡ false → (Fits labels (get_or wants 0 a) (get_or ops 0 b).now → test ≡ true)
    → c ≡ misfit number (get_or wants 0 a) (get_or ops 0 b).now → IsMisfitFrom labels number wants (texts ops) c
unfolding IsMisfitFrom
one_misfits labels number [] ops a b test c some given is only same = absurd (omega (arith, some))
one_misfits labels number (want ∷ wants) [] a b test c some given is only same = absurd (omega (arith, given))
one_misfits labels number (want ∷ wants) (op ∷ ops) a b test c some given is only same = inr (false_is_not (Fits labels want op.now) test is only, same)

-- a slice without its first
rest_is : {A : Type 0} (x : A) (xs : List A) → take (length (x ∷ xs) - 1) xs ≡ xs
rest_is x xs = let few : length (x ∷ xs) - 1 ≡ length xs = omega arith in ap (λ (n : ℕ). take n xs) few ∙ take-length xs

pub one_fits : (labels : List Named) (number : ℕ) (wants : List Wanted) (ops : List (Bor (List ℕ))) (a : Wanted) (b : Bor (List ℕ)) (c : Cause)
    → 1 ≤ length wants → 1 ≤ length ops → Fits labels (get_or wants 0 a) (get_or ops 0 b).now
    → IsMisfitFrom labels (number + 1) (take (length wants - 1) (drop 1 wants)) (texts (take (length ops - 1) (drop 1 ops))) c
    → IsMisfitFrom labels number wants (texts ops) c
unfolding IsMisfitFrom
one_fits labels number [] ops a b c some given fits later = absurd (omega (arith, some))
one_fits labels number (want ∷ wants) [] a b c some given fits later = absurd (omega (arith, given))
one_fits labels number (want ∷ wants) (op ∷ ops) a b c some given fits later =
    let wanted = subst (λ (xs : List Wanted). IsMisfitFrom labels (number + 1) xs (texts (take (length (op ∷ ops) - 1) ops)) c) (rest_is want wants) later in
    inl (fits, subst (λ (xs : List (Bor (List ℕ))). IsMisfitFrom labels (number + 1) wants (texts xs) c) (rest_is op ops) wanted)
