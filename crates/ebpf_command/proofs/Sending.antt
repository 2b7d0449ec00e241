-- What is written of a text, and what waits.
use Rattle.std.proofs.Common.{◌≡◌, ℕ, ◌+◌, List, [], ◌++◌, length, take, Option, Some, None, Result, Ok, Err, OnOk, OnErr, sym, ap, ◌∙◌, subst}
use Rattle.std.proofs.Common.{arith, append_assoc, append-nil, length-append}
use Rattle.std.specs.Prelude.{IfErr}
use Rattle.std.specs.Io.KnownBytes.{Appends, Keeps}
use Rattle.std.proofs.lemmas.List.{take_all}
use Rattle.std.proofs.Math.Seq.{take-append-add, take-append-le}
use Rattle.ebpf_command.specs.declared.done.EngineFault.{EngineFault}
use Rattle.ebpf_command.specs.declared.done.EngineFault.TheVariants.{Output}
use Rattle.ebpf_command.specs.Writing.{AppendsBeginning, Sends, Puts}
use Rattle.ebpf_command.proofs.Known.{Appends-more}

pub on_ok : {T E : Type 0} (r : Result T E) (P : Type 0) → P → OnOk r P
on_ok (Ok x) P h = h
on_ok (Err e) P h = tt

pub on_err : {T E : Type 0} (r : Result T E) (P : Type 0) → P → OnErr r P
on_err (Ok x) P h = tt
on_err (Err e) P h = h

pub Appends-none : (a : Option (List ℕ)) → Appends a a []
Appends-none None = tt
Appends-none (Some xs) = sym (append-nil xs)

pub Appends-kept : (a b c : Option (List ℕ)) (xs : List ℕ) → Appends a b xs → Keeps b c → Appends a c xs
Appends-kept None b c xs h k = tt
Appends-kept (Some old) None c xs h k = absurd h
Appends-kept (Some old) (Some mid) None xs h k = absurd k
Appends-kept (Some old) (Some mid) (Some new) xs h k = k ∙ h

-- ---- a beginning of a text

pub begins : (a b : Option (List ℕ)) (text : List ℕ) → Appends a b text → AppendsBeginning a b text
begins a b text h = (length text, omega arith, subst (λ (xs : List ℕ). Appends a b xs) (sym (take_all (length text) text (omega arith))) h)

-- it is one of a longer text too
pub begins_longer : (a b : Option (List ℕ)) (x y : List ℕ) → AppendsBeginning a b x → AppendsBeginning a b (x ++ y)
begins_longer a b x y h = (h.0, omega (arith, h.1, length-append x y), subst (λ (xs : List ℕ). Appends a b xs) (sym (take-append-le h.0 x y h.1)) h.2)

-- a text was written, and a beginning of another
pub begins_after : (a b c : Option (List ℕ)) (x y : List ℕ) → Appends a b x → AppendsBeginning b c y → AppendsBeginning a c (x ++ y)
begins_after a b c x y h k = (
  length x + k.0,
  omega (arith, k.1, length-append x y),
  subst (λ (xs : List ℕ). Appends a c xs) (sym (take-append-add x y k.0)) (Appends-more a b c x (take k.0 y) h k.2),
)

-- ---- what waits

pub sends_answered : (a : Option (List ℕ)) (x y t : List ℕ) → y ≡ x ++ t → Sends a a x y t
sends_answered a x y t is = record { sent = []; written = Appends-none a; all = is }

pub sends_none : (a : Option (List ℕ)) (x y : List ℕ) → y ≡ x → Sends a a x y []
sends_none a x y same = sends_answered a x y [] (same ∙ sym (append-nil x))

pub sends_more : (a b c : Option (List ℕ)) (x y z t u : List ℕ) → Sends a b x y t → Sends b c y z u → Sends a c x z (t ++ u)
sends_more a b c x y z t u h k = record {
  sent = h.sent ++ k.sent;
  written = Appends-more a b c h.sent k.sent h.written k.written;
  all =
      append_assoc h.sent k.sent z
      ∙ (ap (λ (xs : List ℕ). h.sent ++ xs) k.all ∙ (sym (append_assoc h.sent y u)
      ∙ (ap (λ (xs : List ℕ). xs ++ u) h.all ∙ append_assoc x t u)));
}

-- what waits is written
pub sends_all : (a b c : Option (List ℕ)) (x y t : List ℕ) → Sends a b x y t → Appends b c y → Appends a c (x ++ t)
sends_all a b c x y t h k = subst (λ (xs : List ℕ). Appends a c xs) h.all (Appends-more a b c h.sent y h.written k)

-- a beginning of it is written
pub sends_part : (a b c : Option (List ℕ)) (x y t : List ℕ) → Sends a b x y t → AppendsBeginning b c y → AppendsBeginning a c (x ++ t)
sends_part a b c x y t h k = subst (λ (xs : List ℕ). AppendsBeginning a c xs) h.all (begins_after a b c h.sent y h.written k)

-- a beginning of it and of what comes then is written
pub sends_begun : (a b c : Option (List ℕ)) (x y t u : List ℕ) → Sends a b x y t → AppendsBeginning b c (y ++ u) → AppendsBeginning a c (x ++ (t ++ u))
sends_begun a b c x y t u h k =
    subst (λ (xs : List ℕ). AppendsBeginning a c xs)
    (sym (append_assoc h.sent y u) ∙ (ap (λ (xs : List ℕ). xs ++ u) h.all ∙ append_assoc x t u))
    (begins_after a b c h.sent (y ++ u) h.written k)

-- ---- a text after another

pub puts_then : (a b c : Option (List ℕ)) (x y z t u : List ℕ) (r : Result (Unit {0}) EngineFault) → Sends a b x y t → Puts b c y z u r → Puts a c x z (t ++ u) r
puts_then a b c x y z t u (Ok done) h k = sends_more a b c x y z t u h k
puts_then a b c x y z t u (Err fault) h k = (k.0, sends_begun a b c x y t u h k.1)

-- what stops in a text stops in a longer one
pub stops_longer : (a b : Option (List ℕ)) (x y t u : List ℕ) (fault : EngineFault) → Puts a b x y t (Err fault) → Puts a b x y (t ++ u) (Err fault)
stops_longer a b x y t u fault h = (h.0, subst (λ (xs : List ℕ). AppendsBeginning a b xs) (append_assoc x t u) (begins_longer a b (x ++ t) u h.1))

-- what waited was written, and then this text
pub puts_all : (a b c : Option (List ℕ)) (x y t : List ℕ) (r : Result (Unit {0}) EngineFault) → Appends a b x → y ≡ []
    → OnOk r (Appends b c t) → OnErr r (AppendsBeginning b c t) → IfErr r (λ e. e ≡ Output) → Puts a c x y t r
puts_all a b c x y t (Ok done) h empty written begun fault =
    record { sent = x ++ t; written = Appends-more a b c x t h written; all = ap (λ (ws : List ℕ). (x ++ t) ++ ws) empty ∙ append-nil (x ++ t) }
puts_all a b c x y t (Err e) h empty written begun fault = (fault, begins_after a b c x t h begun)
