-- The free segments in their classes.
use Rattle.std.proofs.Common.{◌≡◌, ◌≢◌, ℕ, zero, suc, ◌+◌, ◌*◌, ◌/◌, ◌%◌, ◌^◌, ◌<◌, ◌≤◌, cond, inl, inr, List, [], ◌∷◌, length, set, refl, sym, ap}
use Rattle.std.proofs.Common.{subst, ◌∙◌, arith, add-one}
use Rattle.std.proofs.Math.Nat.{pow-succ'}
use Rattle.std.proofs.lemmas.Bool.{cases_lt, cases_eq}
use Rattle.std.proofs.lemmas.Bool.Decides.{nat_tests}
use Rattle.std.proofs.lemmas.Nat.{pow_pos, pow_below}
use Rattle.std.proofs.lemmas.List.{length-set, get_or-set_same, get_or-set_other}
use Rattle.vmem_arena.specs.declared.segment.Tag.{Tag}
use Rattle.vmem_arena.specs.Segments.{inside, tag_at, free_len, with_before, without}
use Rattle.vmem_arena.specs.Classes.{bit_of, in_class, IsPlace, IsListed, SameBut}

-- ---- the class of a length
pow_le : (i j : ℕ) → i ≤ j → 2 ^ i ≤ 2 ^ j
pow_le i j le = elim (cases_eq i j) [
  | inl same ↦ omega (arith, ap (λ k. 2 ^ k) same)
  | inr other ↦ omega (arith, pow_below i j (omega arith))
]

pub pow_more : (k : ℕ) → 2 ^ (k + 1) ≡ 2 * 2 ^ k
pow_more k = ap (λ m. 2 ^ m) (add-one k) ∙ pow-succ' 2 k

pub class_low : (class len : ℕ) → 2 ^ class ≤ len → len ≤ 256 → class ≤ 8
class_low class len least within = elim (cases_lt 8 class) [
  | inl more ↦ let big = pow_below 8 class more in absurd (omega arith)
  | inr low ↦ low
]

-- each length has a class
class_exists : (len : ℕ) → 0 < len → (class : ℕ) × (2 ^ class ≤ len) × (len < 2 ^ (class + 1))
class_exists zero some = absurd (omega arith)
class_exists (suc zero) some = (0, omega arith, omega arith)
class_exists (suc (suc n)) some =
    let less = class_exists (suc n) (omega arith) in
    elim (cases_lt (suc (suc n)) (2 ^ (less.0 + 1))) [
      | inl low ↦ (less.0, omega (arith, less.1), low)
      | inr high ↦ (less.0 + 1, high, omega (arith, less.2, pow_more (less.0 + 1)))
    ]

pub in_class_one : (class len : ℕ) → 2 ^ class ≤ len → len < 2 ^ (class + 1) → in_class class len ≡ 1
in_class_one class len least most = grind (arith, nat_tests)

pub in_class_is : (class len : ℕ) → in_class class len ≡ 1 → (2 ^ class ≤ len) × (len < 2 ^ (class + 1))
in_class_is class len one = (grind (arith, nat_tests), grind (arith, nat_tests))

in_class_none : (class len : ℕ) → (2 ^ class ≤ len → len < 2 ^ (class + 1) → ⊥) → in_class class len ≡ 0
in_class_none class len other = grind (arith, nat_tests, other)

pub in_class_zero : (class : ℕ) → in_class class 0 ≡ 0
in_class_zero class = in_class_none class 0 (λ least most. absurd (omega (arith, pow_pos class)))

in_class_other : (class other len : ℕ) → 2 ^ class ≤ len → len < 2 ^ (class + 1) → other ≢ class → in_class other len ≡ 0
in_class_other class other len least most apart = in_class_none other len (λ low high. elim (cases_lt other class) [
  | inl below ↦ absurd (omega (arith, pow_le (other + 1) class (omega arith)))
  | inr above ↦ absurd (omega (arith, pow_le (class + 1) other (omega arith)))
])

-- ---- one segment comes or goes
relisted : (words news : List ℕ) (tags new : List Tag) (page was now place : ℕ) → IsListed words tags → place % 256 ≡ page
    → free_len tags page ≡ was → free_len new page ≡ now → bit_of news place ≡ in_class (place / 256) now
    → ((class : ℕ) → class ≢ place / 256 → in_class class was ≡ in_class class now)
    → ((i : ℕ) → i ≢ place → bit_of news i ≡ bit_of words i) → SameBut page tags new → IsListed news new
relisted words news tags new page was now place listed at old is here classes others same i = elim (cases_eq i place) [
  | inl this ↦ subst (λ k. bit_of news k ≡ in_class (k / 256) (free_len new (k % 256))) (sym this) (here ∙ sym (ap (in_class (place / 256)) (ap (free_len new) at ∙ is)))
  | inr other ↦ others i other ∙ listed i ∙ elim (cases_eq (i % 256) page) [
    | inl there ↦ ap (in_class (i / 256)) (ap (free_len tags) there ∙ old) ∙ classes (i / 256) (λ e. other (omega arith)) ∙ sym (ap (in_class (i / 256)) (ap (free_len new) there ∙ is))
    | inr away ↦ ap (in_class (i / 256)) (sym (same (i % 256) away))
  ]
]

pub listed_more : (words news : List ℕ) (tags new : List Tag) (page len place : ℕ) → IsPlace page len place → bit_of news place ≡ 1
    → ((i : ℕ) → i ≢ place → bit_of news i ≡ bit_of words i) → IsListed words tags → free_len tags page ≡ 0
    → free_len new page ≡ len → SameBut page tags new → IsListed news new
listed_more words news tags new page len place at here others listed old is same =
    relisted words news tags new page 0 len place listed at.page old is (here ∙ sym (in_class_one (place / 256) len at.least at.most)) (λ class apart. in_class_zero class ∙ sym (in_class_other (place / 256) class len at.least at.most apart)) others same

pub listed_less : (words news : List ℕ) (tags new : List Tag) (page len place : ℕ) → IsPlace page len place → bit_of news place ≡ 0
    → ((i : ℕ) → i ≢ place → bit_of news i ≡ bit_of words i) → IsListed words tags → free_len tags page ≡ len
    → free_len new page ≡ 0 → SameBut page tags new → IsListed news new
listed_less words news tags new page len place at here others listed old is same =
    relisted words news tags new page len 0 place listed at.page old is (here ∙ sym (in_class_zero (place / 256))) (λ class apart. in_class_other (place / 256) class len at.least at.most apart ∙ sym (in_class_zero class)) others same

-- ---- what the classes say of a segment
-- a place that is taken is that of a free segment of its class
pub listed_at : (words : List ℕ) (tags : List Tag) (i : ℕ) → IsListed words tags → bit_of words i ≡ 1
    → (2 ^ (i / 256) ≤ free_len tags (i % 256)) × (free_len tags (i % 256) < 2 ^ (i / 256 + 1))
listed_at words tags i listed one = in_class_is (i / 256) (free_len tags (i % 256)) (sym (listed i) ∙ one)

pub place_is : (words : List ℕ) (tags : List Tag) (i : ℕ) → IsListed words tags → bit_of words i ≡ 1 → IsPlace (i % 256) (free_len tags (i % 256)) i
place_is words tags i listed one =
    let is = listed_at words tags i listed one in
    record { least = is.0; most = is.1; page = refl }

-- a free segment has its place
pub record HasPlace (words : List ℕ) (page len : ℕ) : Type 0 where
  pub place : ℕ
  pub is : IsPlace page len place
  pub one : bit_of words place ≡ 1

pub place_of : (words : List ℕ) (tags : List Tag) (page : ℕ) → IsListed words tags → page < 256 → 0 < free_len tags page
    → HasPlace words page (free_len tags page)
place_of words tags page listed low some =
    let class = class_exists (free_len tags page) some in
    let i = 256 * class.0 + page in
    let c : i / 256 ≡ class.0 = omega arith in
    let p : i % 256 ≡ page = omega arith in
    let least : 2 ^ (i / 256) ≤ free_len tags page = omega (arith, class.1, ap (λ k. 2 ^ k) c) in
    let most : free_len tags page < 2 ^ (i / 256 + 1) = omega (arith, class.2, ap (λ k. 2 ^ (k + 1)) c) in
    record {
      place = i;
      is = record { least = least; most = most; page = p };
      one = listed i ∙ ap (λ q. in_class (i / 256) (free_len tags q)) p ∙ in_class_one (i / 256) (free_len tags page) least most;
    }

-- a segment of a class has as many pages as the request, where the class has
pub fits_above : (words : List ℕ) (tags : List Tag) (n full i : ℕ) → IsListed words tags → bit_of words i ≡ 1 → n ≤ 2 ^ full
    → 256 * full ≤ i → n ≤ free_len tags (i % 256)
fits_above words tags n full i listed one enough above =
    omega (arith, (listed_at words tags i listed one).0, pow_le full (i / 256) (omega arith))

-- where no segment of the request's class and those above fits, none does
pub none_fits : (words : List ℕ) (tags : List Tag) (n class page : ℕ) → IsListed words tags
    → (0 < free_len tags page → page + free_len tags page ≤ 256) → 0 < n → 2 ^ class ≤ n
    → ((i : ℕ) → class * 256 ≤ i → bit_of words i ≡ 1 → free_len tags (i % 256) < n) → free_len tags page < n
none_fits words tags n class page listed short some least none = elim (cases_lt (free_len tags page) n) [
  | inl less ↦ less
  | inr more ↦
      let within = short (omega arith) in
      let at = place_of words tags page listed (omega arith) (omega arith) in
      elim (cases_lt at.place (class * 256)) [
        | inl below ↦ absurd (omega (arith, at.is.most, pow_le (at.place / 256 + 1) class (omega arith)))
        | inr above ↦ omega (arith, none at.place above at.one, ap (free_len tags) at.is.page)
      ]
]

-- a segment that is no longer than those of the highest class
pub none_longer : (words : List ℕ) (tags : List Tag) (last longest page : ℕ) → IsListed words tags
    → (0 < free_len tags page → page + free_len tags page ≤ 256) → bit_of words last ≡ 1 → ((i : ℕ) → last < i → bit_of words i ≡ 0)
    → free_len tags (last % 256) ≤ longest
    → ((i : ℕ) → last / 256 * 256 ≤ i → bit_of words i ≡ 1 → free_len tags (i % 256) ≤ longest) → free_len tags page ≤ longest
none_longer words tags last longest page listed short one highest least most = elim (cases_lt longest (free_len tags page)) [
  | inr less ↦ less
  | inl more ↦
      let within = short (omega arith) in
      let at = place_of words tags page listed (omega arith) (omega arith) in
      elim (cases_lt at.place (last / 256 * 256)) [
        | inl below ↦ absurd (omega (arith, at.is.most, pow_le (at.place / 256 + 1) (last / 256) (omega arith), (listed_at words tags last listed one).0))
        | inr above ↦ omega (arith, most at.place above at.one, ap (free_len tags) at.is.page)
      ]
]

pub none_listed : (words : List ℕ) (tags : List Tag) (page : ℕ) → IsListed words tags
    → (0 < free_len tags page → page + free_len tags page ≤ 256) → ((i : ℕ) → bit_of words i ≡ 0) → free_len tags page ≡ 0
none_listed words tags page listed short none = elim (cases_lt 0 (free_len tags page)) [
  | inl some ↦ let within = short some in let at = place_of words tags page listed (omega arith) some in absurd (omega (arith, at.one, none at.place))
  | inr is ↦ omega arith
]

-- ---- the free segments of a table that was written
abbrev pub free_of : Tag → ℕ
free_of t = cond t.is_out 0 t.len

pub free-set_other : (ts : List Tag) (page q : ℕ) (t : Tag) → q ≢ page → free_len (set ts page t) q ≡ free_len ts q
free-set_other ts page q t other = ap free_of (get_or-set_other ts page q t inside other)

pub free-set_same : (ts : List Tag) (page : ℕ) (t : Tag) → page < length ts → free_len (set ts page t) page ≡ free_of t
free-set_same ts page t within = ap free_of (get_or-set_same ts page t inside within)

pub free-set_inside : (ts : List Tag) (page : ℕ) → free_len (set ts page inside) page ≡ 0
free-set_inside [] page = refl
free-set_inside (t ∷ ts) zero = refl
free-set_inside (t ∷ ts) (suc page) = free-set_inside ts page

pub free-before : (ts : List Tag) (page len q : ℕ) → free_len (with_before ts page len) q ≡ free_len ts q
free-before [] page len q = refl
free-before (t ∷ ts) zero len zero = refl
free-before (t ∷ ts) zero len (suc q) = refl
free-before (t ∷ ts) (suc page) len zero = refl
free-before (t ∷ ts) (suc page) len (suc q) = free-before ts page len q

pub tag-without : (ts : List Tag) (page len q : ℕ) → q ≢ page → tag_at (without ts page len) q ≡ tag_at ts q
tag-without ts page zero q other = refl
tag-without ts page (suc len) q other = get_or-set_other ts page q inside inside other

pub free-without_other : (ts : List Tag) (page len q : ℕ) → q ≢ page → free_len (without ts page len) q ≡ free_len ts q
free-without_other ts page len q other = ap free_of (tag-without ts page len q other)

pub free-without_here : (ts : List Tag) (page len : ℕ) → free_len ts page ≡ len → free_len (without ts page len) page ≡ 0
free-without_here ts page zero none = none
free-without_here ts page (suc len) some = free-set_inside ts page

pub length-without : (ts : List Tag) (page len : ℕ) → length (without ts page len) ≡ length ts
length-without ts page zero = refl
length-without ts page (suc len) = length-set ts page inside

pub length-before : (ts : List Tag) (page len : ℕ) → length (with_before ts page len) ≡ length ts
length-before [] page len = refl
length-before (t ∷ ts) zero len = refl
length-before (t ∷ ts) (suc page) len = omega (arith, length-before ts page len)
