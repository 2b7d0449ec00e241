-- An arena as its callers see it: spans of pages that are out, none of which meets another.
use Rattle.std.specs.Prelude.{ℕ, ◌+◌, ◌<◌, ◌≤◌, ◌⊎◌, List, [], ◌∷◌}
use Rattle.vmem_arena.specs.declared.span.Span.{Span}

-- neighbouring pages
pub record Pages : Type 0 where
  pub first : ℕ
  pub len : ℕ

-- how many pages an arena has, and which spans are out, in an order that says nothing
pub record Spans : Type 0 where
  pub pages : ℕ
  pub out : List Pages

-- the pages of a span
abbrev pub pages_of : Span → Pages
pages_of s = record { first = s.first; len = s.len }

-- the page is one of these
abbrev pub Covers : Pages → ℕ → Type 0
Covers s page = (s.first ≤ page) × (page < s.first + s.len)

-- some span of the list has the page
abbrev pub AnyCovers : List Pages → ℕ → Type 0
AnyCovers [] page = ⊥
AnyCovers (s ∷ ss) page = Covers s page ⊎ AnyCovers ss page

-- the page is the arena's, and in no span that is out
abbrev pub IsFree : Spans → ℕ → Type 0
IsFree arena page = (page < arena.pages) × (AnyCovers arena.out page → ⊥)

-- n neighbouring pages from this one on are free
abbrev pub AreFree : Spans → ℕ → ℕ → Type 0
AreFree arena first n = (page : ℕ) → first ≤ page → page < first + n → IsFree arena page
