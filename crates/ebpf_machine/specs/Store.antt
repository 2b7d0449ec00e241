-- What is said of a store of objects, and of the objects of a run that are out of it.
use Rattle.std.specs.Prelude.{◌≡◌, ◌≢◌, ℕ, ◌==◌, if◌then◌else◌, List, [], ◌++◌, map, All, AllPairs, Contains, count_by, Option, Some, None, option_map, IfSome}
use Rattle.ebpf_machine.specs.declared.holding.Holding.{Holding}
use Rattle.ebpf_machine.specs.declared.report.Reply.{Reply}
use Rattle.ebpf_machine.specs.declared.report.Reply.TheVariants as reply
use Rattle.ebpf_machine.specs.Effect.{Environment}
use Rattle.ebpf_machine.specs.World.{Kind}
use Rattle.ebpf_machine.specs.View.{ObjectView, environment_with}
use Rattle.ebpf_machine.specs.RunState.{object_seen}
pub use Rattle.ebpf_machine.specs.World.{Shelved}

-- A store in the states S, of objects H. It says which kinds there are, the kind and the slot of an object, which objects are out, and
-- their bytes. It says what a call of new for a kind, made at a slot of a program, may be answered: an object in a slot, or none. It says
-- what may come off a shelf, in which slot and with which bytes, and whether nothing may. Where nobody else changes its shelves, it says
-- what is on each. It says whether an object may come back, and how many objects of each kind are out. And it says how it goes from a
-- state to a later one by calls of new and of swap that were answered these replies: what it keeps, what it counts. It goes from each
-- state to itself by no replies, and where it goes on, by the replies of both ways
pub record Store (S H : Type 0) : Type 1 where
  pub kinds : List Kind
  pub kind_of : H → ℕ
  pub slot_of : H → ℕ
  pub is_out : S → H → Type 0
  pub bytes_of : S → H → List ℕ
  pub can_grant : (s : S) (kind at slot : ℕ) → Type 0
  pub can_refuse : (s : S) (kind : ℕ) → Type 0
  pub can_fetch : (s : S) (shelf slot : ℕ) (bytes : List ℕ) → Type 0
  pub can_miss : (s : S) (shelf : ℕ) → Type 0
  pub stand : (s : S) (shelf : ℕ) (what : Option Shelved) → Type 0
  pub can_give : S → Type 0
  pub outs : S → ℕ → ℕ
  pub goes : S → List Reply → S → Type 0
  pub stays : (s : S) → goes s [] s
  pub goes_on : (s t u : S) (told more : List Reply) → goes s told t → goes t more u → goes s (told ++ more) u

-- ---- what a call is answered

-- a call of new, by what it was answered
abbrev pub reply_to_new : {H : Type 0} → Option H → Reply
reply_to_new (Some h) = reply.Granted
reply_to_new None = reply.Null

-- a call of swap
abbrev pub reply_to_swap : {H : Type 0} → Option H → Reply
reply_to_swap (Some h) = reply.Shelf
reply_to_swap None = reply.Empty

-- ---- how many are out

-- 1 where it is an object, and of this kind
abbrev pub one_of : {H : Type 0} → Option H → (kind k : ℕ) → ℕ
one_of None kind k = 0
one_of (Some h) kind k = if k == kind then 1 else 0

-- how many of the objects of a run are of a kind
abbrev pub held_of_kind : {H : Type 0} → List (Holding H) → ℕ → ℕ
held_of_kind held kind = count_by (λ h. kind == h.kind) held

-- ---- what stays

-- an object stays out, with its bytes
abbrev pub Stays : {S H : Type 0} → Store S H → S → S → H → Type 0
Stays o old new object = o.is_out new object × (o.bytes_of new object ≡ o.bytes_of old object)

-- every object that is out stays so, but for one in this slot
abbrev pub AllStayBut : {S H : Type 0} → ℕ → Store S H → S → S → Type 0
AllStayBut {H = H} slot o old new = (other : H) → o.is_out old other → o.slot_of other ≢ slot → Stays o old new other

-- every object that is out stays so
abbrev pub AllStay : {S H : Type 0} → Store S H → S → S → Type 0
AllStay {H = H} o old new = (other : H) → o.is_out old other → Stays o old new other

-- every object that is out stays so, but for this one, if it is one
abbrev pub OthersStayThan : {S H : Type 0} → Option H → Store S H → S → S → Type 0
OthersStayThan {H = H} given o old new = (other : H) → o.is_out old other → IfSome given (λ g. o.slot_of other ≢ o.slot_of g) → Stays o old new other

-- what is known to be on shelves stays so
abbrev pub ShelvesStay : {S H : Type 0} → Store S H → S → S → Type 0
ShelvesStay o old new = (shelf : ℕ) (what : Option Shelved) → o.stand old shelf what → o.stand new shelf what

-- on other shelves than this
abbrev pub OtherShelvesStay : {S H : Type 0} → ℕ → Store S H → S → S → Type 0
OtherShelvesStay shelf o old new = (other : ℕ) (what : Option Shelved) → other ≢ shelf → o.stand old other what → o.stand new other what

-- an object as it is to be on a shelf
abbrev pub shelved_as : {S H : Type 0} → Store S H → S → H → Shelved
shelved_as o s object = record { slot = o.slot_of object; bytes = o.bytes_of s object }

-- on a shelf this is known to be now, or nothing, and on the others what was there
abbrev pub ShelvesExchange : {S H : Type 0} → Option H → (shelf : ℕ) → Store S H → S → S → Type 0
ShelvesExchange given shelf o old new =
    ((what : Option Shelved) → o.stand old shelf what → o.stand new shelf (option_map (λ g. shelved_as o old g) given)) × OtherShelvesStay shelf o old new

-- no object that is out is in this slot
abbrev pub IsNobodys : {S H : Type 0} → ℕ → Store S H → S → Type 0
IsNobodys {H = H} slot o s = (other : H) → o.is_out s other → o.slot_of other ≢ slot

-- ---- the objects of a run

-- objects that are out, each of its kind, no two in one slot
pub record AreOutBy {H : Type 0} (is_out : H → Type 0) (kind_of slot_of : H → ℕ) (held : List (Holding H)) : Type 0 where
  pub out : All (λ h. is_out h.object × (kind_of h.object ≡ h.kind)) held
  pub apart : AllPairs (λ a b. slot_of a.object ≢ slot_of b.object) held

abbrev pub AreOut : {S H : Type 0} → Store S H → S → List (Holding H) → Type 0
AreOut o s held = AreOutBy (o.is_out s) o.kind_of o.slot_of held

-- what the run held and no longer holds is no longer out
abbrev pub AreGone : {S H : Type 0} → Store S H → S → (held now : List (Holding H)) → Type 0
AreGone {H = H} o new held now = (h : Holding H) → Contains held h → All (λ k. o.slot_of k.object ≢ o.slot_of h.object) now → o.is_out new h.object → ⊥

-- everything else that is out stays so
abbrev pub OthersStay : {S H : Type 0} → Store S H → S → S → (held : List (Holding H)) → Type 0
OthersStay {H = H} o old new held = (other : H) → o.is_out old other → All (λ h. o.slot_of h.object ≢ o.slot_of other) held → Stays o old new other

-- what a run sees of the objects that it holds, in a state of their store
abbrev pub objects_in : {S H : Type 0} → Store S H → S → List (Holding H) → List ObjectView
objects_in o s held = map (object_seen (o.bytes_of s)) held

-- what it meets that has this context beside them, where there are n kinds
abbrev pub environment_in : {S H : Type 0} → Store S H → S → List (Holding H) → List ℕ → ℕ → Environment ℕ
environment_in o s held context kinds = environment_with context kinds (objects_in o s held)
