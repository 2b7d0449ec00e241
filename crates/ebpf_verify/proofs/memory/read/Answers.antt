use Rattle.std.proofs.Common.{rules, ℕ, ℤ, w64, ◌≡◌, if◌then◌else◌, OnOk, IfOk, IfErr, Some, None, Bool, true, false, refl}
use Rattle.std.specs.Option.{ok_or}
use Rattle.std.proofs.lemmas.Int.{ints, to_z-of_z}
use mir.Val.{SFits, of_z, to_z}
use Rattle.ebpf_verify.specs.Memory.{is_in_bounds}
use Rattle.ebpf_verify.proofs.memory.read.Goals as goal

inside : {A E : Type 0} (b : Bool) (value : A) (code : E) → IfOk (ok_or (if b then Some value else None) code) (λ it. it ≡ value)
inside true value code = refl
inside false value code = tt

pub returns-in-Ctx-clause-value : goal.returns-in-Ctx-clause-value
returns-in-Ctx-clause-value c = rw (c.ok_or.ensures.value, c.read_bytes.ensures, c.in-Ctx.is) (inside _ _ _)

pub returns-in-Ob-clause-value : goal.returns-in-Ob-clause-value
returns-in-Ob-clause-value c = rw (c.ok_or-in-Ob.ensures.value, c.read_bytes-in-Ob.ensures, c.size_held.ensures, c.in-Ob.is) (inside _ _ _)

-- the code of an access that is outside, where the code's test is the rule's
outside : {A E : Type 0} (tested wanted : Bool) (value : A) (code : E) → tested ≡ wanted
    → IfErr (ok_or (if tested then Some value else None) code) (λ it. (if wanted then None else Some code) ≡ Some it)
outside true true value code same = tt
outside true false value code same = tt
outside false true value code same = cc
outside false false value code same = refl

-- an access that is not outside has none
not_outside : {A E : Type 0} (tested wanted : Bool) (value : A) (code : E) → tested ≡ wanted
    → OnOk (ok_or (if tested then Some value else None) code) ((if wanted then None else Some code) ≡ None)
not_outside true true value code same = refl
not_outside true false value code same = cc
not_outside false true value code same = tt
not_outside false false value code same = tt

-- the code's test of a pointer's ends, which it reads as signed numbers, is the rule's
same_test : (len bytes : ℕ) (low high offset : ℤ) → SFits w64 low → SFits w64 high
    → is_in_bounds len (to_z w64 (of_z w64 low)) (to_z w64 (of_z w64 high)) offset bytes ≡ is_in_bounds len low high offset bytes
same_test len bytes low high offset low_fits high_fits = rw (to_z-of_z w64 low low_fits, to_z-of_z w64 high high_fits) refl

pub returns-in-Ctx-clause-refused : goal.returns-in-Ctx-clause-refused
returns-in-Ctx-clause-refused c =
    let low : SFits w64 c.in-Ctx.low = search (ints, rules) in
    let high : SFits w64 c.in-Ctx.high = search (ints, rules) in
    rw (c.ok_or.ensures.value, c.read_bytes.ensures, c.in-Ctx.is) (outside _ _ _ _ (same_test c.args.context _ c.in-Ctx.low c.in-Ctx.high _ low high))

pub returns-in-Ob-clause-refused : goal.returns-in-Ob-clause-refused
returns-in-Ob-clause-refused c =
    let low : SFits w64 c.in-Ob.low = search (ints, rules) in
    let high : SFits w64 c.in-Ob.high = search (ints, rules) in
    rw (c.ok_or-in-Ob.ensures.value, c.read_bytes-in-Ob.ensures, c.size_held.ensures, c.in-Ob.is) (outside _ _ _ _ (same_test _ _ c.in-Ob.low c.in-Ob.high _ low high))

pub returns-in-Ctx-clause-fine : goal.returns-in-Ctx-clause-fine
returns-in-Ctx-clause-fine c =
    let low : SFits w64 c.in-Ctx.low = search (ints, rules) in
    let high : SFits w64 c.in-Ctx.high = search (ints, rules) in
    rw (c.ok_or.ensures.value, c.read_bytes.ensures, c.in-Ctx.is) (not_outside _ _ _ _ (same_test c.args.context _ c.in-Ctx.low c.in-Ctx.high _ low high))

pub returns-in-Ob-clause-fine : goal.returns-in-Ob-clause-fine
returns-in-Ob-clause-fine c =
    let low : SFits w64 c.in-Ob.low = search (ints, rules) in
    let high : SFits w64 c.in-Ob.high = search (ints, rules) in
    rw (c.ok_or-in-Ob.ensures.value, c.read_bytes-in-Ob.ensures, c.size_held.ensures, c.in-Ob.is) (not_outside _ _ _ _ (same_test _ _ c.in-Ob.low c.in-Ob.high _ low high))
