-- The arena's table: segments that follow one another from page 0 to the last, as each page describes them.
use Rattle.std.specs.Prelude.{◌≡◌, ℕ, zero, suc, ◌+◌, ◌-◌, ◌<◌, Bool, true, false, cond, List, [], ◌∷◌, length, slice_index_or, slice_set, replicate}
use Rattle.vmem_arena.specs.declared.segment.Tag.{Tag}
use Rattle.vmem_arena.specs.Spans.{Pages}

-- the tag of a page at which no segment begins
abbrev pub inside : Tag
inside = record { len = 0; before = 0; is_out = false }

abbrev pub tag_at : List Tag → ℕ → Tag
tag_at tags page = slice_index_or tags page inside

-- how many pages the free segment has that begins at a page, 0 where none does
abbrev pub free_len : List Tag → ℕ → ℕ
free_len tags page = cond (tag_at tags page).is_out 0 (tag_at tags page).len

-- the spans that are out, where the first tag is that of the page `at`
abbrev pub outs : ℕ → List Tag → List Pages
outs at [] = []
outs at (t ∷ ts) = cond t.is_out (record { first = at; len = t.len } ∷ outs (suc at) ts) (outs (suc at) ts)

-- the tags from within a segment on that has `left` of its `len` pages still to come and is out or isn't: each segment has a
-- page and knows the length of the one before it, and no two neighbours are free
abbrev pub IsTiled : ℕ → ℕ → Bool → List Tag → Type 0
IsTiled left len out [] = left ≡ 0
IsTiled zero len out (t ∷ ts) = (t.before ≡ len) × (0 < t.len) × (out ≡ false → t.is_out ≡ true) × IsTiled (t.len - 1) t.len t.is_out ts
IsTiled (suc left) len out (t ∷ ts) = (t ≡ inside) × IsTiled left len out ts

-- the table of an arena
abbrev pub IsTable : List Tag → Type 0
IsTable tags = IsTiled 0 0 true tags

-- the page of that number has the first of a span that is out, of n pages
pub record IsOut (tags : List Tag) (first len : ℕ) : Type 0 where
  pub within : first < length tags
  pub out : (tag_at tags first).is_out ≡ true
  pub long : (tag_at tags first).len ≡ len

-- the tags, where the segment before a page has that many pages
abbrev pub with_before : List Tag → ℕ → ℕ → List Tag
with_before [] page len = []
with_before (t ∷ ts) zero len = record t { before = len } ∷ ts
with_before (t ∷ ts) (suc page) len = t ∷ with_before ts page len

-- the tags of n pages that are one free segment
abbrev pub whole : ℕ → List Tag
whole pages = record { len = pages; before = 0; is_out = false } ∷ replicate (pages - 1) inside

-- the tags, with no segment at a page where one of `len` pages begins
abbrev pub without : List Tag → ℕ → ℕ → List Tag
without tags page zero = tags
without tags page (suc len) = slice_set tags page inside

-- the tags, with the first n pages of the segment at `first` out, and the `rest` of its pages free
abbrev pub taken : List Tag → ℕ → ℕ → ℕ → List Tag
taken tags first n zero = slice_set tags first (record { len = n; before = (tag_at tags first).before; is_out = true })
taken tags first n (suc rest) =
    with_before (slice_set (slice_set tags first (record { len = n; before = (tag_at tags first).before; is_out = true })) (first + n) (record { len = suc rest; before = n; is_out = false })) (first + n + suc rest) (suc rest)

-- the tags, with the segment at `first` free, and one with the `low` free pages below it and the `high` above it
abbrev pub freed : List Tag → ℕ → ℕ → ℕ → ℕ → List Tag
freed tags first low len high =
    let whole = low + len + high in
    let at = first - low in
    with_before (slice_set (slice_set (without tags (first + len) high) first inside) at (record { len = whole; before = (tag_at tags at).before; is_out = false })) (at + whole) whole
