-- The lines of jobs.
use Rattle.std.proofs.Common.{◌≡◌, ℕ, ◌+◌, ◌-◌, ◌<◌, ◌≤◌, true, false, not, ◌==◌, ◌||◌, nat_le, Bool, List, [], ◌∷◌, ◌++◌, length, take, drop}
use Rattle.std.proofs.Common.{get_or, codes, Option, Some, None, IfSome, Result, Ok, Err, OnOk, refl, sym, ap, ◌∙◌, subst, arith, append_assoc}
use Rattle.std.proofs.Common.{length-append, length-take-le}
use Rattle.std.specs.List.{list_all, All}
use Rattle.std.proofs.lemmas.Bool.{and_parts, or_parts}
use Rattle.std.proofs.lemmas.Bool.Decides.{nat_tests}
use Rattle.std.proofs.lemmas.List.{get_or-append-add}
use Rattle.std.proofs.lemmas.List.Elements.{All-append, All-cons}
use Rattle.std.proofs.Math.Seq.{take-append-add, take-append_seam}
use Rattle.ebpf_reader.specs.declared.again.Again.{Again}
use Rattle.ebpf_reader.specs.declared.again.Beginning.{Beginning}
use Rattle.ebpf_reader.specs.declared.script.Dialect.TheVariants.{Jobs}
use Rattle.ebpf_reader.specs.declared.script.Script.{Script}
use Rattle.ebpf_reader.specs.Again.{IsAgain, IsBeginning}
use Rattle.ebpf_command.specs.HexText.{hex_or_dash}
use Rattle.ebpf_reader.specs.LineFaults.{line_fault, shape_fault, length_fault}
use Rattle.ebpf_reader.specs.Names.{is_name, is_name_byte}
use Rattle.ebpf_reader.specs.ParsedScript.{Named, ParsedScript, number_of, declared_by, with_job}
use Rattle.ebpf_reader.specs.ReadScripts.{parsed_script, Adds}
use Rattle.ebpf_reader.specs.ScriptLines.{IsFirst, is_text}
use Rattle.ebpf_reader.specs.Shapes.{JobLine}
use Rattle.ebpf_reader.specs.Words.{is_gap, words}
use Rattle.ebpf_reader.proofs.WordLemmas.{words-at_gap, words-whole}

-- ---- a job whose words are read

pub job_fault : (parsed : ParsedScript) (name hex bytes : List ℕ) (program declared : ℕ) → hex_or_dash hex ≡ Some bytes → is_name name ≡ true
    → number_of parsed.programs name ≡ Some program → declared_by parsed.programs name ≡ Some declared
    → shape_fault parsed (JobLine name hex) ≡ length_fault declared bytes
job_fault parsed name hex bytes program declared read allowed number context = rw (read, allowed, number, context) refl

pub job_adds : {T E : Type 0} (r : Result T E) (old new : Script) (name hex bytes : List ℕ) (program declared : ℕ) → hex_or_dash hex ≡ Some bytes → is_name name ≡ true
    → number_of (parsed_script old).programs name ≡ Some program → declared_by (parsed_script old).programs name ≡ Some declared
    → OnOk r (length bytes ≡ declared) → OnOk r (parsed_script new ≡ with_job (parsed_script old) (record { program = program; context = bytes }))
    → OnOk r (Adds (JobLine name hex) old new)
job_adds (Err e) old new name hex bytes program declared read allowed number context fits added = tt
job_adds (Ok x) old new name hex bytes program declared read allowed number context fits added =
    let same : (length bytes == declared) ≡ true = grind (arith, nat_tests) in
    record {
      fine = job_fault (parsed_script old) name hex bytes program declared read allowed number context ∙ rw same refl;
      parsed = rw (read, number) added;
    }

-- ---- what the line of a job of the last job's program says

pub again_fault : (parsed : ParsedScript) (line name hex : List ℕ) → is_text line ≡ true → words line ≡ codes "run" ∷ name ∷ hex ∷ []
    → line_fault Jobs parsed line ≡ shape_fault parsed (JobLine name hex)
unfolding line_fault
again_fault parsed line name hex printable split = rw (printable, split) refl

-- ---- its words

no_gap : (c : ℕ) → is_name_byte c ≡ true → is_gap c ≡ false
no_gap c h = grind (arith, nat_tests)

no_newline_byte : (c : ℕ) → is_name_byte c ≡ true → (c == 10) ≡ false
no_newline_byte c h = grind (arith, nat_tests)

is_other : (c : ℕ) → not (c == 10) ≡ true → (c == 10) ≡ false
is_other c h = grind (arith, nat_tests)

each : (p : ℕ → Bool) (Q : ℕ → Type 0) → ((c : ℕ) → p c ≡ true → Q c) → (xs : List ℕ) → list_all p xs ≡ true → All Q xs
each p Q says [] all = λ k d below. absurd (omega (arith, below))
each p Q says (x ∷ xs) all =
    let parts = and_parts (p x) (list_all p xs) all in
    All-cons Q x xs (says x parts.0) (each p Q says xs parts.1)

name_bytes : (name : List ℕ) → is_name name ≡ true → list_all is_name_byte name ≡ true
unfolding is_name
name_bytes name allowed = (and_parts _ _ allowed).1

some_byte : (name : List ℕ) → is_name name ≡ true → (length name == 0) ≡ false
unfolding is_name
some_byte name allowed =
    let least : nat_le 1 (length name) ≡ true = (and_parts _ _ (and_parts _ _ allowed).0).0 in
    grind (arith, nat_tests)

words_of_name : (name : List ℕ) → is_name name ≡ true → words name ≡ name ∷ []
words_of_name name allowed =
    let bytes = each is_name_byte (λ c. is_gap c ≡ false) no_gap name (name_bytes name allowed) in
    rw (some_byte name allowed) at (words-whole name bytes)

words_of_run : words (codes "run") ≡ codes "run" ∷ []
unfolding words
words_of_run = refl

again_words : (name hex : List ℕ) → is_name name ≡ true → words hex ≡ hex ∷ [] → words (codes "run " ++ (name ++ 32 ∷ hex)) ≡ codes "run" ∷ name ∷ hex ∷ []
again_words name hex allowed one =
    words-at_gap (codes "run") (name ++ 32 ∷ hex) 32 refl ∙ rw (words_of_run, words-at_gap name hex 32 refl, words_of_name name allowed, one) refl

-- ---- where it ends

first_after : (start rest line : List ℕ) → All (λ c. (c == 10) ≡ false) start → IsFirst rest line → IsFirst (start ++ rest) (start ++ line)
first_after start rest line one first = record {
  within = omega (arith, first.within, length-append start rest, length-append start line);
  begins = rw (length-append start line, take-append-add start rest (length line)) (ap (λ (xs : List ℕ). start ++ xs) first.begins);
  one = All-append (λ c. (c == 10) ≡ false) start line one first.one;
  ends = λ inside.
      let here : length line < length rest = omega (arith, inside, length-append start rest, length-append start line) in
      rw (length-append start line, get_or-append-add start rest (length line) 0) (first.ends here);
}

start_of_again : (name : List ℕ) → is_name name ≡ true → All (λ c. (c == 10) ≡ false) (codes "run " ++ (name ++ 32 ∷ []))
start_of_again name allowed =
    let bytes = each is_name_byte (λ c. (c == 10) ≡ false) no_newline_byte name (name_bytes name allowed) in
    let space : All (λ c. (c == 10) ≡ false) (32 ∷ []) = All-cons (λ c. (c == 10) ≡ false) 32 [] refl (λ k d below. absurd (omega (arith, below))) in
    let run = each (λ c. not (c == 10)) (λ c. (c == 10) ≡ false) is_other (codes "run ") refl in
    All-append (λ c. (c == 10) ≡ false) (codes "run ") (name ++ 32 ∷ []) run (All-append (λ c. (c == 10) ≡ false) name (32 ∷ []) bytes space)

joined : (name rest : List ℕ) → codes "run " ++ (name ++ 32 ∷ rest) ≡ (codes "run " ++ (name ++ 32 ∷ [])) ++ rest
joined name rest = ap (λ (xs : List ℕ). codes "run " ++ xs) (sym (append_assoc name (32 ∷ []) rest))

name_there : (name rest : List ℕ) → take (4 + length name - 4) (drop 4 (codes "run " ++ (name ++ 32 ∷ rest))) ≡ name
name_there name rest =
    let long : 4 + length name - 4 ≡ length name = omega arith in
    rw long (take-append_seam name (32 ∷ rest))

start_there : (name rest : List ℕ) → take (4 + length name + 1) (codes "run " ++ (name ++ 32 ∷ rest)) ≡ codes "run " ++ (name ++ 32 ∷ [])
start_there name rest =
    let start = codes "run " ++ (name ++ 32 ∷ []) in
    let long : 4 + length name + 1 ≡ length start = omega (arith, length-append name (32 ∷ [])) in
    ap (λ (n : ℕ). take n (codes "run " ++ (name ++ 32 ∷ rest))) long ∙ (ap (take (length start)) (joined name rest) ∙ take-append_seam start rest)

pub beginning_is : (script : Script) (text name rest : List ℕ) (b : Beginning) → text ≡ codes "run " ++ (name ++ 32 ∷ rest) → is_name name ≡ true
    → b.bytes.now ≡ take (4 + length name + 1) text → b.text.now ≡ text → b.name.now ≡ take (4 + length name - 4) (drop 4 text)
    → number_of (parsed_script script).programs name ≡ Some b.program → declared_by (parsed_script script).programs name ≡ Some b.declared
    → IsBeginning script b
beginning_is script text name rest b is allowed bytes whole named number declared =
    let same : b.name.now ≡ name = rw is at named ∙ name_there name rest in
    let start : b.bytes.now ≡ codes "run " ++ (name ++ 32 ∷ []) = rw is at bytes ∙ start_there name rest in
    let long : 4 + length name + 1 ≡ length b.bytes.now = omega (arith, ap length start, length-append name (32 ∷ [])) in
    record {
      whole = start ∙ ap (λ (xs : List ℕ). codes "run " ++ (xs ++ 32 ∷ [])) (sym same);
      begins = bytes ∙ (ap (λ (n : ℕ). take n text) long ∙ ap (take (length b.bytes.now)) (sym whole));
      allowed = rw same allowed;
      number = rw same number;
      declared = rw same declared;
    }

pub again_is : (script : Script) (text rest : List ℕ) (a : Again) → IsBeginning script a.beginning → text ≡ a.beginning.bytes.now ++ rest
    → IsFirst rest a.hex.now → words a.hex.now ≡ a.hex.now ∷ [] → a.line.now ≡ take (length a.beginning.bytes.now + length a.hex.now) text
    → IsAgain script text a
again_is script text rest a known is first one line =
    let name = a.beginning.name.now in
    let start = a.beginning.bytes.now in
    let none : All (λ c. (c == 10) ≡ false) start = subst (All (λ c. (c == 10) ≡ false)) (sym known.whole) (start_of_again name known.allowed) in
    let whole : a.line.now ≡ start ++ a.hex.now =
    rw is at line ∙ (take-append-add start rest (length a.hex.now) ∙ ap (λ (xs : List ℕ). start ++ xs) (sym first.begins)) in
    record {
      first = rw (is, whole) (first_after start rest a.hex.now none first);
      split = ap words (whole ∙ (ap (λ (xs : List ℕ). xs ++ a.hex.now) known.whole ∙ sym (joined name a.hex.now)))
          ∙ again_words name a.hex.now known.allowed one;
      known = known;
    }

-- a job more changes no program
pub begins_still : {T E : Type 0} (r : Result T E) (kept : Option Beginning) (name hex : List ℕ) (old new : Script) → IfSome kept (IsBeginning old)
    → OnOk r (Adds (JobLine name hex) old new) → OnOk r (IfSome kept (IsBeginning new))
begins_still (Err e) kept name hex old new begins adds = tt
begins_still (Ok x) None name hex old new begins adds = tt
begins_still (Ok x) (Some b) name hex old new begins adds =
    let same : (parsed_script new).programs ≡ (parsed_script old).programs = ap (λ (s : ParsedScript). s.programs) adds.parsed in
    record {
      whole = begins.whole;
      begins = begins.begins;
      allowed = begins.allowed;
      number = ap (λ (ps : List Named). number_of ps b.name.now) same ∙ begins.number;
      declared = ap (λ (ps : List Named). declared_by ps b.name.now) same ∙ begins.declared;
    }

-- ---- a word that is alone on its line

neither : (c : ℕ) → (c == 10 || is_gap c) ≡ false → ((c == 10) ≡ false) × (is_gap c ≡ false)
neither c h = or_parts (c == 10) (is_gap c) h

pub one_word : (text : List ℕ) (i : ℕ) → i ≤ length text → 0 < i → All (λ c. (c == 10 || is_gap c) ≡ false) (take i text) → words (take i text) ≡ take i text ∷ []
one_word text i within some none =
    let long : length (take i text) ≡ i = length-take-le i text within in
    let full : (length (take i text) == 0) ≡ false = grind (arith, nat_tests) in
    rw full at (words-whole (take i text) (λ k d below. (neither (get_or (take i text) k d) (none k d below)).1))
