-- Neighbouring jobs of one ticket.
use Rattle.std.specs.Prelude.{◌≡◌, ◌⊎◌, ◌*◌, ◌<◌, ◌≤◌, ℕ, List, Bool, cond}
use Rattle.owners_table.specs.Drawing.{times}
use Rattle.worker_pool.specs.Numbering.{times_of}
use Rattle.worker_pool.specs.declared.answered.Bundle.{Bundle}
use Rattle.worker_pool.specs.declared.setup.TheConstants.{MAX_BUNDLE, MIN_BUNDLES, MIN_LONG_BUNDLES}

abbrev pub IsBundleSize : ℕ → Type 0
IsBundleSize size = (0 < size) × (size ≤ MAX_BUNDLE)

-- how many bundles there are for each worker, at least, where a bundle has more than one job
abbrev pub fewest_bundles : (long : Bool) → ℕ
fewest_bundles long = cond long MIN_LONG_BUNDLES MIN_BUNDLES

-- n jobs make at least that many for each worker
abbrev pub IsShared : (size workers fewest count : ℕ) → Type 0
IsShared size workers fewest count = (size ≡ 1) ⊎ (size * (workers * fewest) ≤ count)

-- each bundle that there is was answered as often as it was drawn
abbrev pub AreAsDrawn : (limit : ℕ) → (drawn : List ℕ) → List Bundle → Type 0
AreAsDrawn limit drawn bundles = (x : ℕ) → x < limit → times x drawn ≡ times_of x bundles
