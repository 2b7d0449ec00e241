-- The response to what is read is the response to the input, and written: for every command.
use Rattle.std.proofs.Common.{◌≡◌, ◌≢◌, ℕ, ◌<◌, ◌≤◌, Bool, true, false, nat_lt, List, length, Option, Some, None, Result, Ok, Err, refl, sym, ◌∙◌, subst, arith}
use Rattle.std.specs.Prelude.{IfSome, IfErr, IsErr}
use Rattle.std.specs.Result.{IsErrAnd}
use Rattle.std.specs.Borrow.{Bor}
use Rattle.std.specs.Io.KnownBytes.{Appends, Consumes}
use Rattle.std.proofs.lemmas.Bool.{ltb-true}
use Rattle.std.proofs.lemmas.Grind.{common_steps}
use Rattle.ebpf_command.specs.declared.done.Done.{Done}
use Rattle.ebpf_command.specs.declared.done.EngineFault.{EngineFault}
use Rattle.ebpf_command.specs.declared.done.EngineFault.TheVariants.{Output}
use Rattle.ebpf_command.specs.Input.{read_of}
use Rattle.ebpf_command.specs.Response.{Response}
use Rattle.ebpf_command.specs.Writing.{Responding, AppendsBeginning, Writes, WritesBeginning, IsWritten, Performs}
use Rattle.ebpf_command.proofs.Known.{front_of_short}

-- to an input that is too long the command responds as to its beginning
abbrev pub CutsLong : Responding → Type 0
CutsLong Responds = (input : List ℕ) (response : Response) → 1048577 < length input → Responds (read_of input) response → Responds input response

not-lt : (a b : ℕ) → nat_lt a b ≡ false → b ≤ a
not-lt a b h = grind (arith, common_steps)

pub response_of_read : (Responds : Responding) → CutsLong Responds → (input : List ℕ) (response : Response)
    → Responds (read_of input) response → Responds input response
response_of_read Responds cuts input response h = by_length (nat_lt 1048577 (length input)) refl where
  by_length : (b : Bool) → nat_lt 1048577 (length input) ≡ b → Responds input response
  by_length true e = cuts input response (ltb-true 1048577 (length input) e) h
  by_length false e = subst (λ (xs : List ℕ). Responds xs response) (front_of_short 1048577 input (not-lt 1048577 (length input) e)) h

-- the response to the bytes that were shown to the answer is the response to the input
pub response_of_shown : (Responds : Responding) → CutsLong Responds → (all : List ℕ) (response : Response) (shown : Bor (List ℕ))
    → shown.now ≡ read_of all → Responds shown.now response → Responds all response
response_of_shown Responds cuts all response shown read h = response_of_read Responds cuts all response (subst (λ (xs : List ℕ). Responds xs response) read h)

-- where a command responds with what was answered, it writes its response
pub response_through : {Answers : Responding} (Responds : Responding) (input old new : Option (List ℕ)) (result : Result Done EngineFault)
    → Writes Answers input old new result → ((all : List ℕ) (t : Response) → Answers all t → Responds all t) → Writes Responds input old new result
response_through Responds input old new (Err fault) h responds = tt
response_through Responds None old new (Ok done) h responds = tt
response_through Responds (Some all) old new (Ok done) h responds = (h.0, responds all h.0 h.1, h.2, h.3)

-- or a beginning of it
pub begun_through : {Answers : Responding} (Responds : Responding) (input old new : Option (List ℕ)) (result : Result Done EngineFault)
    → WritesBeginning Answers input old new result → ((all : List ℕ) (t : Response) → Answers all t → Responds all t)
    → WritesBeginning Responds input old new result
begun_through Responds input old new (Ok done) h responds = tt
begun_through Responds None old new (Err fault) h responds = tt
begun_through Responds (Some all) old new (Err fault) h responds = λ e. let begun = h e in (begun.0, responds all begun.0 begun.1, begun.2)

-- what was read is gone from the reader
pub consumed_by : (input rest : Option (List ℕ)) (bytes : List ℕ) → IfSome input (λ all. bytes ≡ read_of all)
    → Consumes input rest bytes → IfSome input (λ all. Consumes input rest (read_of all))
consumed_by None rest bytes read took = tt
consumed_by (Some all) rest bytes read took = subst (λ (xs : List ℕ). Consumes (Some all) rest xs) read took

-- where a command responds with what was answered, it performs that
pub performs_through : {V : Type 0} {Answers : Responding} (Responds : Responding) (input rest old new : Option (List ℕ)) (was is : V)
    (result : Result Done EngineFault) → Performs Answers input rest old new was is result
    → ((all : List ℕ) (t : Response) → Answers all t → Responds all t) → Performs Responds input rest old new was is result
performs_through Responds input rest old new was is result h responds = record {
  response = response_through Responds input old new result h.response responds;
  consumed = h.consumed;
  beginning = begun_through Responds input old new result h.beginning responds;
  untouched = h.untouched;
}

-- what is performed where it ends with a fault
pub performs_err : {V : Type 0} (Responds : Responding) (input rest old new : Option (List ℕ)) (was is : V) (result : Result Done EngineFault)
    → IsErr result → WritesBeginning Responds input old new result → IfErr result (λ fault. fault ≢ Output → is ≡ was)
    → Performs Responds input rest old new was is result
performs_err Responds input rest old new was is (Ok done) failed begun same = let never : ⊥ = cc in absurd never
performs_err Responds input rest old new was is (Err fault) failed begun same = record { response = tt; consumed = tt; beginning = begun; untouched = same }

-- where nothing was written
pub performs_nothing : {V : Type 0} (Responds : Responding) (input rest old : Option (List ℕ)) (was : V) (result : Result Done EngineFault)
    → IsErrAnd result (λ fault. fault ≢ Output) → Performs Responds input rest old old was was result
performs_nothing Responds input rest old was (Ok done) other = absurd other
performs_nothing Responds input rest old was (Err fault) other =
    record { response = tt; consumed = tt; beginning = begun input; untouched = λ _. refl }
  where
    begun : (i : Option (List ℕ)) → IfSome i (λ all. fault ≡ Output → (response : Response) × Responds all response × AppendsBeginning old old response.text)
    begun None = tt
    begun (Some all) = λ same. absurd (other same)

-- where what is read is answered, and the answer written
pub performs_read : {V : Type 0} (Answers : Responding) (input rest old new : Option (List ℕ)) (was is : V) (bytes seen : List ℕ) (response : Response)
    (result : Result Done EngineFault) → IfSome input (λ all. bytes ≡ read_of all) → Consumes input rest bytes → seen ≡ bytes → Answers seen response
    → IsWritten response old new result → Performs (λ all. Answers (read_of all)) input rest old new was is result
performs_read Answers input rest old new was is bytes seen response (Ok done) read took same sends written =
    record { response = response_to input read; consumed = consumed_by input rest bytes read took; beginning = tt; untouched = tt }
  where
    response_to : (i : Option (List ℕ)) → IfSome i (λ all. bytes ≡ read_of all)
        → IfSome i (λ all. (r : Response) × Answers (read_of all) r × (r.done ≡ done) × Appends old new r.text)
    response_to None _ = tt
    response_to (Some all) k = (response, subst (λ (xs : List ℕ). Answers xs response) (same ∙ k) sends, sym written.0, written.1)
performs_read Answers input rest old new was is bytes seen response (Err fault) read took same sends written =
    record { response = tt; consumed = tt; beginning = begun input read; untouched = λ other. absurd (other written.0) }
  where
    begun : (i : Option (List ℕ)) → IfSome i (λ all. bytes ≡ read_of all)
        → IfSome i (λ all. fault ≡ Output → (r : Response) × Answers (read_of all) r × AppendsBeginning old new r.text)
    begun None _ = tt
    begun (Some all) k = λ _. (response, subst (λ (xs : List ℕ). Answers xs response) (same ∙ k) sends, written.1)

-- so a command performs its response to what is read
pub performs_answer : {V : Type 0} (Responds : Responding) → CutsLong Responds → (input rest old new : Option (List ℕ)) (was is : V) (bytes seen : List ℕ) (response : Response)
    (result : Result Done EngineFault) → IfSome input (λ all. bytes ≡ read_of all) → Consumes input rest bytes → seen ≡ bytes → Responds seen response
    → IsWritten response old new result → Performs Responds input rest old new was is result
performs_answer Responds cuts input rest old new was is bytes seen response result read took same sends written =
    performs_through Responds input rest old new was is result
    (performs_read Responds input rest old new was is bytes seen response result read took same sends written)
    (λ all t h. response_of_read Responds cuts all t h)
