-- The reports of bundles in the places of their bundles.
use Rattle.std.specs.Prelude.{[], All, min, vec_len, ◌≡◌, ◌⊎◌, ◌+◌, ◌++◌, ◌<◌, ◌≤◌, ℕ, ◌==◌, if◌then◌else◌, List, Option, Some, None, Contains}
use Rattle.std.specs.Prelude.{length, slice_get, sum_by}
use Rattle.std.specs.List.{flat_map}
use Rattle.ebpf_machine.specs.declared.report.Report.{Report}
use Rattle.job_list.specs.ReportLists.{Kept}
use Rattle.worker_pool.specs.declared.answered.Answered.{Answered}
use Rattle.worker_pool.specs.declared.answered.Bundle.{Bundle}
use Rattle.worker_pool.specs.Numbering.{Numbered, times_of}

-- the bundles of several workers
abbrev pub bundles_of : List Answered → List Bundle
bundles_of answered = flat_map (λ a. a.bundles.items) answered

-- 1 where there is a report at the place
abbrev pub filled_at : Option Kept → ℕ
filled_at None = 0
filled_at (Some kept) = if length kept.items == 0 then 0 else 1

abbrev pub filled : List Kept → ℕ → ℕ
filled places x = filled_at (slice_get places x)

-- the reports, weighed
abbrev pub weight : (Report → ℕ) → List Kept → ℕ
weight h places = sum_by (λ kept. sum_by h kept.items) places

abbrev pub weight_in : (Report → ℕ) → List Bundle → ℕ
weight_in h bundles = sum_by (λ b. sum_by h b.reports.items) bundles

abbrev pub weight_of : (Report → ℕ) → List Numbered → ℕ
weight_of h ns = sum_by (λ n. h n.report) ns

-- how many reports there are, as far as 64 bits go
abbrev pub counted : List Bundle → ℕ
counted bundles = min (sum_by (λ b. vec_len b.reports) bundles) 18446744073709551615

-- that many places without a report
abbrev pub AreBlank : ℕ → List Kept → Type 0
AreBlank count places = (length places ≡ count) × All (λ kept. kept.items ≡ []) places

-- one of the bundles has this number, and its reports are at the place of the number
pub record IsThere (all : List Bundle) (places : List Kept) (x : ℕ) : Type 0 where
  pub bundle : Bundle
  pub one : Contains all bundle
  pub number : bundle.number ≡ x
  pub at : slice_get places x ≡ Some bundle.reports

-- one of the bundles that are left has this number
pub record IsLeft (left : List Bundle) (x : ℕ) : Type 0 where
  pub bundle : Bundle
  pub one : Contains left bundle
  pub number : bundle.number ≡ x

-- of n bundles some are in their places, and these are left
pub record ArePlaced (count : ℕ) (all : List Bundle) (places : List Kept) (left : List Bundle) : Type 0 where
  pub len : length places ≡ count
  pub within : (b : Bundle) → Contains left b → Contains all b
  pub inside : (b : Bundle) → Contains left b → b.number < count
  pub once : (x : ℕ) → x < count → filled places x + times_of x left ≤ 1
  pub there : (x : ℕ) → x < count → IsLeft left x ⊎ IsThere all places x
  pub weighed : (h : Report → ℕ) → weight h places + weight_in h left ≡ weight_in h all

-- The bundles of a worker were put in their places: where they were left with others before, only the others are left now.
abbrev pub AreTheirsPlaced : (count : ℕ) → (theirs : List Bundle) → (places places' : List Kept) → Type 0
AreTheirsPlaced count theirs places places' = (all others : List Bundle) → ArePlaced count all places (others ++ theirs) → ArePlaced count all places' others
