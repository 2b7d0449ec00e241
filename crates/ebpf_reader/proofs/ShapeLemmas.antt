-- The shape of a line whose first word and number of words are known.
use Rattle.std.proofs.Common.{◌≡◌, ◌≤◌, ◌<◌, ℕ, true, false, Bool, List, [], ◌∷◌, cond, map, take, length, get_or, codes, Some, Result, OnOk}
use Rattle.std.proofs.Common.{IfErr, refl, sym, ap, ◌∙◌, subst, arith}
use Rattle.std.specs.Str.{bytes_eq}
use Rattle.ebpf_command.specs.declared.done.FaultCode.TheVariants.{UnknownLine}
use Rattle.ebpf_command.specs.declared.done.Stop.{Stop}
use Rattle.ebpf_command.specs.Stops.{IsStop}
use Rattle.ebpf_reader.specs.declared.script.Dialect.{Dialect}
use Rattle.ebpf_reader.specs.declared.script.Dialect.TheVariants.{Events, Jobs, Setup}
use Rattle.ebpf_reader.specs.declared.script.Script.{Script}
use Rattle.ebpf_reader.specs.LineFaults.{shape_fault}
use Rattle.ebpf_reader.specs.ParsedScript.{ParsedScript}
use Rattle.ebpf_reader.specs.ReadScripts.{Adds}
use Rattle.ebpf_reader.specs.Shapes.{Shape, Passed, Unknown, StartLine, ExecLine, AnsweredLine, GrowLine, ReapLine, ArenaLine, JobLine}
use Rattle.ebpf_reader.specs.Shapes.{event_shape, job_shape, setup_shape, dialect_shape, line_shape, shape_of, is_comment}

-- what a line of one shape adds, and why it is refused, is that of a line of the same shape
pub shaped : {T : Type 0} (r : Result T Stop) (shape which : Shape) (parsed : ParsedScript) (old new : Script) → shape ≡ which
    → OnOk r (Adds which old new) → IfErr r (IsStop (shape_fault parsed which))
    → record { ok : OnOk r (Adds shape old new); refused : IfErr r (IsStop (shape_fault parsed shape)) }
shaped r shape which parsed old new same ok refused = record {
  ok = subst (λ (s : Shape). OnOk r (Adds s old new)) (sym same) ok;
  refused = subst (λ (s : Shape). IfErr r (IsStop (shape_fault parsed s))) (sym same) refused;
}

-- what a test of the first word gave
pub tested : (first : List ℕ) {word wanted : List ℕ} {r b : Bool} → word ≡ wanted → r ≡ bytes_eq first word → r ≡ b → bytes_eq first wanted ≡ b
tested first same is told = ap (bytes_eq first) (sym same) ∙ (sym is ∙ told)

-- the words of a line that has one or two after its first
pub one_word : {X : Type 0} (f : X → List ℕ) (xs : List X) (d : X) → 1 ≤ length xs → length xs < 2 → map f xs ≡ f (get_or xs 0 d) ∷ []
one_word f [] d least below = absurd (omega arith)
one_word f (x ∷ []) d least below = refl
one_word f (x ∷ y ∷ xs) d least below = absurd (omega arith)

pub two_words : {X : Type 0} (f : X → List ℕ) (xs : List X) (d e : X) → 2 ≤ length xs → length xs < 3 → map f xs ≡ f (get_or xs 0 d) ∷ f (get_or xs 1 e) ∷ []
two_words f [] d e least below = absurd (omega arith)
two_words f (x ∷ []) d e least below = absurd (omega arith)
two_words f (x ∷ y ∷ []) d e least below = refl
two_words f (x ∷ y ∷ z ∷ xs) d e least below = absurd (omega arith)

-- the lines of events
pub exec_line : (first : List ℕ) (rest : List (List ℕ)) (a : List ℕ) → rest ≡ a ∷ [] → bytes_eq first (codes "exec") ≡ true
    → event_shape first rest ≡ ExecLine a
exec_line first rest a is exec = rw (is, exec) refl

pub start_line : (first : List ℕ) (rest : List (List ℕ)) (a b : List ℕ) → rest ≡ a ∷ b ∷ [] → bytes_eq first (codes "start") ≡ true
    → event_shape first rest ≡ StartLine a b
start_line first rest a b is start = rw (is, start) refl

pub answered_line : (first : List ℕ) (rest : List (List ℕ)) (a b : List ℕ) → rest ≡ a ∷ b ∷ []
    → bytes_eq first (codes "start") ≡ false → bytes_eq first (codes "exec") ≡ true
    → event_shape first rest ≡ AnsweredLine a b
answered_line first rest a b is start exec = rw (is, start, exec) refl

pub grow_line : (first : List ℕ) (rest : List (List ℕ)) (a b : List ℕ) → rest ≡ a ∷ b ∷ [] → bytes_eq first (codes "start") ≡ false
    → bytes_eq first (codes "exec") ≡ false
    → bytes_eq first (codes "grow") ≡ true → event_shape first rest ≡ GrowLine a b
grow_line first rest a b is start exec grow = rw (is, start, exec, grow) refl

pub reap_line : (first : List ℕ) (rest : List (List ℕ)) (a b : List ℕ) → rest ≡ a ∷ b ∷ [] → bytes_eq first (codes "start") ≡ false
    → bytes_eq first (codes "exec") ≡ false
    → bytes_eq first (codes "grow") ≡ false → bytes_eq first (codes "reap") ≡ true → event_shape first rest ≡ ReapLine a b
reap_line first rest a b is start exec grow reap = rw (is, start, exec, grow, reap) refl

-- and those that are none of them
pub no_event : {X : Type 0} (parsed : ParsedScript) (first : List ℕ) (f : X → List ℕ) (xs : List X) → 2 ≤ length xs → length xs < 3
    → bytes_eq first (codes "start") ≡ false
    → bytes_eq first (codes "exec") ≡ false → bytes_eq first (codes "grow") ≡ false → bytes_eq first (codes "reap") ≡ false
    → shape_fault parsed (event_shape first (map f xs)) ≡ Some UnknownLine
no_event parsed first f [] least below start exec grow reap = absurd (omega arith)
no_event parsed first f (x ∷ []) least below start exec grow reap = absurd (omega arith)
no_event parsed first f (x ∷ y ∷ []) least below start exec grow reap = rw (start, exec, grow, reap) refl
no_event parsed first f (x ∷ y ∷ z ∷ xs) least below start exec grow reap = absurd (omega arith)

pub no_long_event : {X : Type 0} (parsed : ParsedScript) (first : List ℕ) (f : X → List ℕ) (xs : List X) → 3 ≤ length xs
    → shape_fault parsed (event_shape first (map f xs)) ≡ Some UnknownLine
no_long_event parsed first f [] least = absurd (omega arith)
no_long_event parsed first f (x ∷ []) least = absurd (omega arith)
no_long_event parsed first f (x ∷ y ∷ []) least = absurd (omega arith)
no_long_event parsed first f (x ∷ y ∷ z ∷ xs) least = refl

-- the lines of jobs
pub job_line : (first : List ℕ) (rest : List (List ℕ)) (a b : List ℕ) → rest ≡ a ∷ b ∷ [] → bytes_eq first (codes "run") ≡ true
    → job_shape first rest ≡ JobLine a b
job_line first rest a b is run = rw (is, run) refl

pub arena_line : (first : List ℕ) (rest : List (List ℕ)) (a : List ℕ) → rest ≡ a ∷ [] → bytes_eq first (codes "arena") ≡ true
    → job_shape first rest ≡ ArenaLine a
arena_line first rest a is arena = rw (is, arena) refl

pub setup_line : (first : List ℕ) (rest : List (List ℕ)) (a : List ℕ) → rest ≡ a ∷ [] → bytes_eq first (codes "arena") ≡ true
    → setup_shape first rest ≡ ArenaLine a
setup_line first rest a is arena = rw (is, arena) refl

-- ---- the first six words say the shape

six_of_dialect : (dialect : Dialect) (first a b c : List ℕ) (rest : List (List ℕ)) → dialect_shape dialect first (a ∷ b ∷ c ∷ rest) ≡ Unknown
six_of_dialect Events first a b c rest = refl
six_of_dialect Jobs first a b c rest = refl
six_of_dialect Setup first a b c rest = refl

six_of_line : (dialect : Dialect) (first : List ℕ) (rest : List (List ℕ)) → line_shape dialect first (take 5 rest) ≡ line_shape dialect first rest
six_of_line dialect first [] = refl
six_of_line dialect first (a ∷ []) = refl
six_of_line dialect first (a ∷ b ∷ []) = refl
six_of_line dialect first (a ∷ b ∷ c ∷ []) = refl
six_of_line dialect first (a ∷ b ∷ c ∷ d ∷ []) = refl
six_of_line dialect first (a ∷ b ∷ c ∷ d ∷ e ∷ rest) =
    ap (λ (s : Shape). cond (bytes_eq first (codes "program")) Unknown s)
    (six_of_dialect dialect first a b c (d ∷ e ∷ []) ∙ sym (six_of_dialect dialect first a b c (d ∷ e ∷ rest)))

pub six_say : (dialect : Dialect) (words : List (List ℕ)) → shape_of dialect (take 6 words) ≡ shape_of dialect words
six_say dialect [] = refl
six_say dialect (first ∷ rest) = ap (λ (s : Shape). cond (is_comment first) Passed s) (six_of_line dialect first rest)
