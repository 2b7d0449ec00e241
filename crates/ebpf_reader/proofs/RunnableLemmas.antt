-- A script without a fault can be run.
use Rattle.std.proofs.Common.{◌≡◌, ◌≤◌, ◌<◌, ℕ, zero, suc, ◌+◌, ◌==◌, Bool, true, false, not, ◌&&◌, nat_le, nat_lt, cond, List, [], ◌∷◌, ◌++◌}
use Rattle.std.proofs.Common.{length, map, slice_get, Option, Some, None, is_none, unwrap_or, option_map, position, find, IfSome, Ok, Err, refl}
use Rattle.std.proofs.Common.{sym, ap, ◌∙◌, subst, arith}
use Rattle.std.specs.List.{position_or_len}
use Rattle.std.specs.Str.{bytes_eq}
use Rattle.std.proofs.lemmas.Bool.{leb-true}
use Rattle.std.proofs.lemmas.Bool.Decides.{nat_tests}
use Rattle.std.proofs.lemmas.List.{map-append, length_push, length-map}
use Rattle.std.proofs.lemmas.List.Elements.{All-push}
use Rattle.std.proofs.lemmas.List.Folds.{find_at}
use Rattle.std.proofs.lemmas.Option.{slice_get-map, slice_get_within}
use Rattle.ebpf_command.specs.declared.done.FaultCode.{FaultCode}
use Rattle.ebpf_command.specs.declared.done.FaultCode.TheVariants.{InputTooLong, UnprintableByte, BadHex, BadName, UndefinedName, WrongContextLength}
use Rattle.ebpf_command.specs.HexText.{hex_or_dash}
use Rattle.job_list.specs.declared.jobs.Job.{Job}
use Rattle.ebpf_reader.specs.declared.script.Dialect.{Dialect}
use Rattle.ebpf_reader.specs.LineFaults.{shape_fault, line_fault, is_as_declared}
use Rattle.ebpf_reader.specs.Names.{is_name}
use Rattle.ebpf_reader.specs.Numbers.{value_of, is_number, number_to, unless_zero, pages_of}
use Rattle.ebpf_reader.specs.ParsedScript.{Named, ParsedScript, empty_script, with_line, number_of, declared_by}
use Rattle.ebpf_reader.specs.Runnable.{AreDeclared, IsRunnable}
use Rattle.ebpf_reader.specs.Scripts.{parsed_lines, parsed_text, unless_fault}
use Rattle.ebpf_reader.specs.ScriptLines.{script_lines, is_text}
use Rattle.ebpf_reader.specs.Shapes.{Shape, Passed, Unknown, ProgramLine, StartLine, ExecLine, AnsweredLine, GrowLine, ReapLine, ArenaLine}
use Rattle.ebpf_reader.specs.Shapes.{JobLine, PassLine, shape_of}
use Rattle.ebpf_reader.specs.Words.{words}
use Rattle.ebpf_reader.proofs.LinesLemmas.{lines_few}

-- after n lines, each of which adds a program or a job at most
record IsReady (lines : ℕ) (parsed : ParsedScript) : Type 0 where
  pages : IfSome parsed.pages (λ n. (1 ≤ n) × (n ≤ 256))
  declared : AreDeclared parsed.programs parsed.jobs
  few : length parsed.jobs + length parsed.programs ≤ lines

ready_more : (before lines : ℕ) (parsed : ParsedScript) → before ≤ lines → IsReady before parsed → IsReady lines parsed
ready_more before lines parsed more h = record { pages = h.pages; declared = h.declared; few = omega (arith, more, h.few) }

-- ---- the pages of an arena

number_to-small : (most : ℕ) (word : List ℕ) → IfSome (number_to most word) (λ n. n ≤ most)
unfolding number_to
number_to-small most word = by (is_number word) (nat_le (value_of word) most) refl where
  by : (a b : Bool) → nat_le (value_of word) most ≡ b → IfSome (cond (a && b) (Some (value_of word)) None) (λ n. n ≤ most)
  by false b is = tt
  by true false is = tt
  by true true is = leb-true (value_of word) most is

pages_of-range : (word : List ℕ) → IfSome (pages_of word) (λ n. (1 ≤ n) × (n ≤ 256))
pages_of-range word = by (number_to 256 word) (number_to-small 256 word) where
  some : (n : ℕ) (b : Bool) → (n == 0) ≡ b → n ≤ 256 → IfSome (cond b None (Some n)) (λ n. (1 ≤ n) × (n ≤ 256))
  some n true is h = tt
  some n false is h = (grind (arith, nat_tests), h)

  by : (o : Option ℕ) → IfSome o (λ n. n ≤ 256) → IfSome (unless_zero o) (λ n. (1 ≤ n) × (n ≤ 256))
  by None h = tt
  by (Some n) h = some n (n == 0) refl h

-- ---- the programs of jobs

slice_get_left : {X : Type 0} (xs ys : List X) (k : ℕ) (x : X) → slice_get xs k ≡ Some x → slice_get (xs ++ ys) k ≡ Some x
slice_get_left [] ys k x h = absurd cc
slice_get_left (z ∷ xs) ys zero x h = h
slice_get_left (z ∷ xs) ys (suc k) x h = slice_get_left xs ys k x h

declared_more : (programs : List Named) (p : Named) (jobs : List Job) → AreDeclared programs jobs → AreDeclared (programs ++ p ∷ []) jobs
declared_more programs p jobs h = λ k d lt. rw (map-append (λ (q : Named). q.context) programs (p ∷ [])) (slice_get_left (map (λ (q : Named). q.context) programs) (p.context ∷ []) _ _ (h k d lt))

inside_some : {X : Type 0} (f : X → ℕ) (xs : List X) (k : ℕ) → k < length xs
    → option_map f (slice_get xs k) ≡ Some (unwrap_or (option_map f (slice_get xs k)) 0)
inside_some f [] k lt = absurd (omega (arith, lt))
inside_some f (x ∷ xs) zero lt = refl
inside_some f (x ∷ xs) (suc k) lt = inside_some f xs k (omega (arith, lt))

-- the first that passes is at its place
found_here : {X : Type 0} (p : X → Bool) (f : X → ℕ) (xs : List X) (len : ℕ) → is_none (position p xs) ≡ false
    → len ≡ unwrap_or (option_map f (find p xs)) 0 → slice_get (map f xs) (unwrap_or (position p xs) 0) ≡ Some len
found_here p f xs len is same = by (nat_lt (position_or_len p xs) (length xs)) refl is where
  by : (b : Bool) → nat_lt (position_or_len p xs) (length xs) ≡ b → is_none (cond b (Some (position_or_len p xs)) None) ≡ false
      → slice_get (map f xs) (unwrap_or (cond b (Some (position_or_len p xs)) None) 0) ≡ Some len
  by false e is = absurd cc
  by true e is =
      let inside : position_or_len p xs < length xs = grind (arith, nat_tests) in
      slice_get-map f xs (position_or_len p xs) ∙ (inside_some f xs (position_or_len p xs) inside
      ∙ (ap (λ o. Some (unwrap_or (option_map f o) 0)) (sym (find_at p xs)) ∙ ap Some (sym same)))

pub declared_here : (programs : List Named) (name : List ℕ) (len : ℕ) → is_none (number_of programs name) ≡ false → len ≡ unwrap_or (declared_by programs name) 0
    → slice_get (map (λ p. p.context) programs) (unwrap_or (number_of programs name) 0) ≡ Some len
unfolding number_of declared_by
declared_here programs name len is same = found_here (λ (p : Named). bytes_eq name p.name) (λ (p : Named). p.context) programs len is same

pub job_tests : (a b c d : Bool) (x y z w : FaultCode)
    → cond a (Some x) (cond b (Some y) (cond c (Some z) (cond d (Some w) None))) ≡ None → (c ≡ false) × (d ≡ false)
job_tests true b c d x y z w h = absurd cc
job_tests false true c d x y z w h = absurd cc
job_tests false false true d x y z w h = absurd cc
job_tests false false false true x y z w h = absurd cc
job_tests false false false false x y z w h = (refl, refl)

pub same_number : (a b : ℕ) → not (a == b) ≡ false → a ≡ b
same_number a b h = grind (arith, nat_tests)

-- ---- a line more

job_next : (parsed : ParsedScript) (name hex : List ℕ) → shape_fault parsed (JobLine name hex) ≡ None
    → AreDeclared parsed.programs parsed.jobs → AreDeclared parsed.programs (with_line parsed (JobLine name hex)).jobs
job_next parsed name hex fine h =
    let tests = job_tests (is_none (hex_or_dash hex)) (not (is_name name)) (is_none (number_of parsed.programs name)) (not (is_as_declared parsed.programs name (unwrap_or (hex_or_dash hex) []))) BadHex BadName UndefinedName WrongContextLength fine in
    All-push (λ (job : Job). slice_get (map (λ (p : Named). p.context) parsed.programs) job.program ≡ Some (length job.context)) parsed.jobs _ h
    (declared_here parsed.programs name _ tests.0 (same_number _ _ tests.1))

ready_next : (lines : ℕ) (parsed : ParsedScript) (shape : Shape) → shape_fault parsed shape ≡ None → IsReady lines parsed
    → IsReady (lines + 1) (with_line parsed shape)
ready_next lines parsed Passed fine h = record { pages = h.pages; declared = h.declared; few = omega (arith, h.few) }
ready_next lines parsed Unknown fine h = record { pages = h.pages; declared = h.declared; few = omega (arith, h.few) }
ready_next lines parsed (ProgramLine name context held hex) fine h = record { pages = h.pages; declared = declared_more _ _ _ h.declared; few = omega (arith, h.few, length_push) }
ready_next lines parsed (StartLine name hex) fine h = record { pages = h.pages; declared = h.declared; few = omega (arith, h.few) }
ready_next lines parsed (ExecLine run) fine h = record { pages = h.pages; declared = h.declared; few = omega (arith, h.few) }
ready_next lines parsed (AnsweredLine run answer) fine h = record { pages = h.pages; declared = h.declared; few = omega (arith, h.few) }
ready_next lines parsed (GrowLine kind slot) fine h = record { pages = h.pages; declared = h.declared; few = omega (arith, h.few) }
ready_next lines parsed (ReapLine kind slot) fine h = record { pages = h.pages; declared = h.declared; few = omega (arith, h.few) }
ready_next lines parsed (ArenaLine pages) fine h = record { pages = pages_of-range pages; declared = h.declared; few = omega (arith, h.few) }
ready_next lines parsed (JobLine name hex) fine h = record { pages = h.pages; declared = job_next parsed name hex fine h.declared; few = omega (arith, h.few, length_push) }
ready_next lines parsed PassLine fine h = record { pages = h.pages; declared = h.declared; few = omega (arith, h.few) }

-- ---- all lines

shape_fine : (dialect : Dialect) (parsed : ParsedScript) (line : List ℕ) → line_fault dialect parsed line ≡ None
    → shape_fault parsed (shape_of dialect (words line)) ≡ None
unfolding line_fault
shape_fine dialect parsed line h = by (is_text line) h where
  by : (b : Bool) → cond b (shape_fault parsed (shape_of dialect (words line))) (Some UnprintableByte) ≡ None
      → shape_fault parsed (shape_of dialect (words line)) ≡ None
  by true h = h
  by false h = absurd cc

lines_ready : (dialect : Dialect) (before number : ℕ) (parsed out : ParsedScript) (lines : List (List ℕ)) → IsReady before parsed
    → parsed_lines dialect number parsed lines ≡ Ok out → IsReady (before + length lines) out
lines_ready dialect before number parsed out [] h is =
    let same : parsed ≡ out = cc in
    ready_more before _ out (omega arith) (subst (IsReady before) same h)
lines_ready dialect before number parsed out (line ∷ lines) h is =
    by (line_fault dialect parsed line) refl is (λ ready behind. lines_ready dialect (before + 1) (number + 1) (with_line parsed (shape_of dialect (words line))) out lines ready behind)
  where
    next : ParsedScript
    next = with_line parsed (shape_of dialect (words line))

    by : (fault : Option FaultCode) → line_fault dialect parsed line ≡ fault → unless_fault number fault (parsed_lines dialect (number + 1) next lines) ≡ Ok out
        → (IsReady (before + 1) next → parsed_lines dialect (number + 1) next lines ≡ Ok out → IsReady (before + 1 + length lines) out)
        → IsReady (before + length (line ∷ lines)) out
    by None fine is behind =
        ready_more (before + 1 + length lines) _ out (omega arith) (behind (ready_next before parsed _ (shape_fine dialect parsed line fine) h) is)
    by (Some code) fault is behind = absurd cc

-- a job's program has a line of its own
few_jobs : (programs : List Named) (jobs : List Job) → AreDeclared programs jobs → length jobs + length programs ≤ 1048577 → length jobs ≤ 1048576
few_jobs programs [] h few = omega arith
few_jobs programs (job ∷ jobs) h few =
    omega (arith, few, slice_get_within (map (λ (p : Named). p.context) programs) _ _ (h 0 job (omega arith)), length-map programs (λ (p : Named). p.context))

pub text_runnable : (dialect : Dialect) (text : List ℕ) (parsed : ParsedScript) → parsed_text dialect text ≡ Ok parsed → IsRunnable parsed
unfolding parsed_text
text_runnable dialect text parsed h = by (nat_lt 1048576 (length text)) refl h where
  by : (b : Bool) → nat_lt 1048576 (length text) ≡ b
      → cond b (Err (0, InputTooLong)) (parsed_lines dialect 1 empty_script (script_lines text)) ≡ Ok parsed → IsRunnable parsed
  by true long is = absurd cc
  by false short is =
      let fits : length text ≤ 1048576 = grind (arith, nat_tests) in
      let first : IsReady 0 empty_script = record { pages = tt; declared = λ k d lt. absurd (omega (arith, lt)); few = omega arith } in
      let ready = ready_more _ 1048577 parsed (omega (arith, lines_few text fits)) (lines_ready dialect 0 1 empty_script parsed (script_lines text) first is) in
      record { pages = ready.pages; declared = ready.declared; few = few_jobs parsed.programs parsed.jobs ready.declared ready.few }
