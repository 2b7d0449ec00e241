-- The table of what the caches and the workers did, and of the times. In text a cache has a row under a head.
use Rattle.std.specs.Prelude.{ℕ, ◌+◌, ◌-◌, ◌^◌, ◌++◌, List, [], ◌∷◌, codes, decimal, Option, Some, None}
use Rattle.std.specs.Fmt.{format_spec, styled_decimal, styled_text}
use Rattle.object_cache.specs.declared.totals.Totals.{Totals}
use Rattle.ebpf_command.specs.declared.format.Format.{Format}
use Rattle.ebpf_command.specs.declared.format.Format.TheVariants.{Text, Json}
use Rattle.ebpf_command.specs.Members.{Said, Worded, Counted, line_in}
use Rattle.ebpf_report.specs.declared.stats.Stats.{Stats}
use Rattle.ebpf_report.specs.declared.watch.Times.{Times}
use Rattle.ebpf_report.specs.TotalsLines.{kind_name}

-- ---- the caches

-- a number at the right of a column of twelve places, or wider if it is so
abbrev pub column : ℕ → List ℕ
column n = styled_decimal (format_spec 32 3 0 12 (2 ^ 64 - 1)) n

-- a name at the left of a column of six places
abbrev pub name_column : List ℕ → List ℕ
name_column name = styled_text (format_spec 32 1 0 6 (2 ^ 64 - 1)) name

abbrev pub head_row : List ℕ
head_row = codes "cache       allocs       frees       nulls   exchanges   magazines       pages      reaped        most\n"

abbrev pub cache_row : (kind : ℕ) → Totals → List ℕ
cache_row kind t =
    name_column (kind_name kind) ++ (column t.allocs ++ (column t.frees ++ (column t.nulls ++ (column t.depot.exchanges
    ++ (column t.depot.magazines ++ (column t.pages.taken ++ (column t.pages.reaped ++ (column t.pages.most ++ codes "\n"))))))))

-- the same, under the words of the head
abbrev pub cache_said : (kind : ℕ) → Totals → List Said
cache_said kind t =
    Worded (codes "cache") (kind_name kind) ∷ Counted (codes "allocs") t.allocs ∷ Counted (codes "frees") t.frees
    ∷ Counted (codes "nulls") t.nulls ∷ Counted (codes "exchanges") t.depot.exchanges ∷ Counted (codes "magazines") t.depot.magazines
    ∷ Counted (codes "pages") t.pages.taken ∷ Counted (codes "reaped") t.pages.reaped ∷ Counted (codes "most") t.pages.most ∷ []

abbrev pub cache_in : Format → (kind : ℕ) → Totals → List ℕ
cache_in Text kind t = cache_row kind t
cache_in Json kind t = line_in Json (cache_said kind t)

-- the caches of the kinds from this one on
abbrev pub caches_from : Format → (kind : ℕ) → List Totals → List ℕ
caches_from format kind [] = []
caches_from format kind (t ∷ totals) = cache_in format kind t ++ caches_from format (kind + 1) totals

abbrev pub head_in : Format → List ℕ
head_in Text = head_row
head_in Json = []

-- ---- the jobs and the workers

abbrev pub jobs_said : Stats → List Said
jobs_said s =
    Counted (codes "jobs") s.jobs ∷ Counted (codes "steps") s.steps ∷ Counted (codes "clashes") s.clashes ∷ Counted (codes "strays") s.strays
    ∷ Counted (codes "misses") s.misses ∷ []

abbrev pub worker_said : (worker jobs : ℕ) → List Said
worker_said worker jobs = Counted (codes "worker") worker ∷ Counted (codes "jobs") jobs ∷ []

-- how many jobs each worker did, from the one of this number on
abbrev pub workers_from : Format → (worker : ℕ) → List ℕ → List ℕ
workers_from format worker [] = []
workers_from format worker (jobs ∷ rest) = line_in format (worker_said worker jobs) ++ workers_from format (worker + 1) rest

-- ---- the times

-- how long a stage took, after the words before it; something else where the clock did not tell
abbrev pub time_or : (untold before : List ℕ) → Option ℕ → List ℕ
time_or untold before None = before ++ untold
time_or untold before (Some time) = before ++ decimal time

abbrev pub times_in : Format → Times → List ℕ
times_in Text t =
    time_or (codes "-") (codes "microseconds reading ") t.reading ++ (time_or (codes "-") (codes " judging ") t.judging
    ++ (time_or (codes "-") (codes " running ") t.running ++ (time_or (codes "-") (codes " writing ") t.writing ++ codes "\n")))
times_in Json t =
    time_or (codes "null") (codes "{\"microseconds\":{\"reading\":") t.reading ++ (time_or (codes "null") (codes ",\"judging\":") t.judging
    ++ (time_or (codes "null") (codes ",\"running\":") t.running ++ (time_or (codes "null") (codes ",\"writing\":") t.writing ++ codes "}}\n")))

-- ---- all of it

abbrev pub table_in : Format → Stats → Times → List ℕ
table_in format s t =
    head_in format ++ (caches_from format 0 s.totals ++ (line_in format (jobs_said s) ++ (workers_from format 0 s.jobs_done.items ++ times_in format t)))
