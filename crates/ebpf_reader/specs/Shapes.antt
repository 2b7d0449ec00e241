-- The shapes of a script's lines: the first word and the number of words decide, and the words are still to be read.
use Rattle.std.specs.Prelude.{ℕ, Bool, false, ◌==◌, if◌then◌else◌, List, [], ◌∷◌, codes}
use Rattle.std.specs.Str.{bytes_eq}
use Rattle.ebpf_reader.specs.declared.script.Dialect.{Dialect}
use Rattle.ebpf_reader.specs.declared.script.Dialect.TheVariants.{Events, Jobs, Setup}

pub data Shape : Type 0 where
  Passed : Shape
  Unknown : Shape
  ProgramLine : (name context held hex : List ℕ) → Shape
  StartLine : (name hex : List ℕ) → Shape
  ExecLine : (run : List ℕ) → Shape
  AnsweredLine : (run answer : List ℕ) → Shape
  GrowLine : (kind slot : List ℕ) → Shape
  ReapLine : (kind slot : List ℕ) → Shape
  ArenaLine : (pages : List ℕ) → Shape
  JobLine : (name hex : List ℕ) → Shape
  PassLine : Shape

-- `#` is the first byte of a comment's first word
abbrev pub is_comment : List ℕ → Bool
is_comment [] = false
is_comment (c ∷ rest) = c == 35

-- the lines of events
abbrev pub event_shape : List ℕ → List (List ℕ) → Shape
event_shape first [] = Unknown
event_shape first (a ∷ []) =
    if bytes_eq first (codes "exec") then ExecLine a else Unknown
event_shape first (a ∷ b ∷ []) =
    if bytes_eq first (codes "start") then StartLine a b else
    if bytes_eq first (codes "exec") then AnsweredLine a b else
    if bytes_eq first (codes "grow") then GrowLine a b else
    if bytes_eq first (codes "reap") then ReapLine a b else Unknown
event_shape first (a ∷ b ∷ c ∷ rest) = Unknown

-- the lines of jobs
abbrev pub job_shape : List ℕ → List (List ℕ) → Shape
job_shape first [] =
    if bytes_eq first (codes "reap") then PassLine else Unknown
job_shape first (a ∷ []) =
    if bytes_eq first (codes "arena") then ArenaLine a else Unknown
job_shape first (a ∷ b ∷ []) =
    if bytes_eq first (codes "run") then JobLine a b else Unknown
job_shape first (a ∷ b ∷ c ∷ rest) = Unknown

-- the lines that say what a machine has
abbrev pub setup_shape : List ℕ → List (List ℕ) → Shape
setup_shape first [] = Unknown
setup_shape first (a ∷ []) =
    if bytes_eq first (codes "arena") then ArenaLine a else Unknown
setup_shape first (a ∷ b ∷ rest) = Unknown

abbrev pub dialect_shape : Dialect → List ℕ → List (List ℕ) → Shape
dialect_shape Events first rest = event_shape first rest
dialect_shape Jobs first rest = job_shape first rest
dialect_shape Setup first rest = setup_shape first rest

-- the line of a program
abbrev pub program_shape : List (List ℕ) → Shape
program_shape [] = Unknown
program_shape (a ∷ []) = Unknown
program_shape (a ∷ b ∷ []) = Unknown
program_shape (a ∷ b ∷ c ∷ []) = Unknown
program_shape (a ∷ b ∷ c ∷ d ∷ []) = ProgramLine a b c d
program_shape (a ∷ b ∷ c ∷ d ∷ e ∷ rest) = Unknown

-- every dialect has programs
abbrev pub line_shape : Dialect → List ℕ → List (List ℕ) → Shape
line_shape dialect first rest =
    if bytes_eq first (codes "program") then program_shape rest else dialect_shape dialect first rest

-- blank lines and comments are passed over
abbrev pub shape_of : Dialect → List (List ℕ) → Shape
shape_of dialect [] = Passed
shape_of dialect (first ∷ rest) = if is_comment first then Passed else line_shape dialect first rest
