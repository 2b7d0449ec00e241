-- What an instruction asks of whoever answers is what its effect asks, and what its run sees of it; and what it writes to or gives
-- back is there.
use Rattle.std.proofs.Common.{◌≡◌, ℕ, ◌+◌, ◌<◌, ◌≤◌, ℤ, pos, negsuc, ◌+ℤ◌, Bool, true, false, cond, List, length, Option, Some, None, Result, Ok}
use Rattle.std.proofs.Common.{Err, refl, sym, ap, ◌∙◌, subst, arith, rules, inl, inr}
use Rattle.std.specs.Prelude.{slice_get, nat_lt, nat_abs, int_le, ◌&&◌, ◌==◌}
use Rattle.std.specs.Ordering.{int_eq}
use Rattle.std.proofs.lemmas.Bool.{ltb-true, eqb-true, and_parts}
use Rattle.std.proofs.lemmas.Int.{ints}
use Rattle.std.proofs.lemmas.List.{length-map}
use Rattle.byteorder.specs.Numbers.{length-bytes_low_first}
use Rattle.ebpf_insn.specs.declared.register.Reg.{Reg}
use Rattle.ebpf_insn.specs.declared.register.Reg.TheVariants.{R0, R1, R2}
use Rattle.ebpf_insn.specs.declared.insn.Insn.{Insn}
use Rattle.ebpf_insn.specs.declared.insn.Insn.TheVariants as insn
use Rattle.ebpf_insn.specs.declared.insn.Size.{Size}
use Rattle.ebpf_insn.specs.declared.insn.Width.TheVariants.{W64}
use Rattle.ebpf_insn.specs.Program.{insn_at}
use Rattle.ebpf_insn.specs.Arithmetic.{extension_at, negation_at, swap_of}
use Rattle.ebpf_flow.specs.Edges.{jump_of}
use Rattle.ebpf_state.specs.Stack.{bytes_in, place_of}
use Rattle.ebpf_verify.specs.Operations.{is_frame_pointer}
use Rattle.ebpf_operation.specs.declared.helper.Helper.{Helper}
use Rattle.ebpf_operation.specs.declared.helper.Helper.TheVariants as helper
use Rattle.ebpf_operation.specs.Helpers.{helper_of}
use Rattle.ebpf_machine.specs.declared.value.Base.TheVariants.{Stack, Context, Object}
use Rattle.ebpf_machine.specs.declared.value.Value.{Value}
use Rattle.ebpf_machine.specs.declared.value.Value.TheVariants.{Number, Pointer}
use Rattle.ebpf_machine.specs.declared.value.Cell.{Cell}
use Rattle.ebpf_machine.specs.Values.{Trap, BadCall, FramePointerWritten, Leak, Frame, read, source_value}
use Rattle.ebpf_machine.specs.Cells.{place_in, stored_at}
use Rattle.ebpf_machine.specs.Effect.{Found, Environment, Act, Nothing, Write, Ask, Free, Exchange, Effect, Goes, Ends, Traps, effect_at, effect}
use Rattle.ebpf_machine.specs.Effect.{unary, alu_value, with_value, written, is_taken, loaded, rewritten, written_at, writes_object}
use Rattle.ebpf_machine.specs.Effect.{effect_of_store, without_arguments, with_zero, effect_of_new, effect_of_freeing, effect_of_free}
use Rattle.ebpf_machine.specs.Effect.{effect_of_emit, exchanges, effect_of_giving, effect_of_swapping, effect_of_swap, effect_of_call}
use Rattle.ebpf_machine.specs.Effect.{effect_of_jump, effect_of_branch, effect_of_exit, result_number}
use Rattle.ebpf_machine.specs.World.{Name, Kind, World, Running}
use Rattle.ebpf_machine.specs.Events.{Asking, Unasked, OfNoKind, OfKind, AtShelf, asking_for, asking_shelf, asking_helper, asking, asking_of}
use Rattle.ebpf_machine.specs.Renaming.{register_renamed}
use Rattle.ebpf_machine.specs.View.{RunView, without_given, frame_seen, view_of, environment_of_view, effect_of_view}
use Rattle.ebpf_machine.specs.Step.{asking_in}
use Rattle.ebpf_machine.specs.Sound.{IsOwned}
use Rattle.ebpf_machine.proofs.World.Telling.{by_call}
use Rattle.ebpf_machine.proofs.World.Projection.{read-told}
use Rattle.ebpf_machine.proofs.World.Steps.{GoesOn, IsNext}

abbrev pub asked_by : {N : Type 0} → Act N → Asking
asked_by (Ask kind) = OfKind kind
asked_by (Exchange shelf given) = AtShelf shelf
asked_by Nothing = Unasked
asked_by (Write name at bytes) = Unasked
asked_by (Free name) = Unasked

-- an object that is given for what is on a shelf is found, and is of the shelf's kind
abbrev pub IsGivenThere : {N : Type 0} → Environment N → ℕ → Option N → Type 0
IsGivenThere a shelf None = Unit {0}
IsGivenThere a shelf (Some name) = (found : Found) × (a.object name ≡ Ok found) × (found.kind ≡ shelf)

-- bytes that are written lie in an object that is found, one that is freed is found, and there is the kind that is asked for
abbrev pub IsThere : {N : Type 0} → Environment N → Act N → Type 0
IsThere a Nothing = Unit {0}
IsThere a (Write name at bytes) = (found : Found) × (a.object name ≡ Ok found) × (at + length bytes ≤ length found.bytes)
IsThere a (Ask kind) = kind < a.kinds
IsThere a (Free name) = (found : Found) × (a.object name ≡ Ok found)
IsThere a (Exchange shelf given) = (shelf < a.kinds) × IsGivenThere a shelf given

-- an effect that goes on, or ends the run, asks for this
abbrev AsksFor : {N : Type 0} → Environment N → Asking → Effect N → Type 0
AsksFor a asked (Goes act to after) = (asked ≡ asked_by act) × IsThere a act
AsksFor a asked (Ends n) = asked ≡ Unasked
AsksFor a asked (Traps trap) = Unit {0}

written_asks : {N : Type 0} (a : Environment N) (to : ℕ) (frame : Frame N) (dst : Reg) (r : Result (Value N) Trap)
    → AsksFor a Unasked (written to frame dst r)
written_asks a to frame dst (Err trap) = tt
written_asks {N} a to frame dst (Ok v) = by (is_frame_pointer dst) where
  by : (t : Bool) → AsksFor a Unasked (cond t (Traps FramePointerWritten) (Goes Nothing to (with_value frame dst v)))
  by true = tt
  by false = (refl, tt)

jumps_asks : {N : Type 0} (a : Environment N) (target : Option ℕ) (frame : Frame N) → AsksFor a Unasked (effect_of_jump target frame)
jumps_asks a None frame = tt
jumps_asks a (Some to) frame = (refl, tt)

branches_asks : {N : Type 0} (a : Environment N) (next : ℕ) (target : Option ℕ) (frame : Frame N) (r : Result Bool Trap)
    → AsksFor a Unasked (effect_of_branch next target frame r)
branches_asks a next target frame (Err trap) = tt
branches_asks a next target frame (Ok true) = jumps_asks a target frame
branches_asks a next target frame (Ok false) = (refl, tt)

exits_asks : {N : Type 0} (a : Environment N) (holds : ℕ) (x : Option (Value N)) → AsksFor a Unasked (effect_of_exit holds x)
exits_asks a holds None = tt
exits_asks {N} a holds (Some v) = by (nat_lt 0 holds) v where
  by : (t : Bool) (v : Value N) → AsksFor a Unasked (cond t (Traps Leak) (result_number v))
  by true v = tt
  by false (Number n) = refl
  by false (Pointer base k) = tt

rewritten_asks : {N : Type 0} (a : Environment N) (to : ℕ) (frame : Frame N) (r : Result (List (Cell N)) Trap) → AsksFor a Unasked (rewritten to frame r)
rewritten_asks a to frame (Err trap) = tt
rewritten_asks a to frame (Ok stack) = (refl, tt)

inside : (len bytes : ℕ) (offset : ℤ) (place : ℕ) → place_in len offset bytes ≡ Some place → place + bytes ≤ len
inside len bytes offset place e = by (int_le (pos 0) offset) (int_le (offset +ℤ pos bytes) (pos len)) refl refl e where
  from_start : (z : ℤ) → int_le (pos 0) z ≡ true → int_le (z +ℤ pos bytes) (pos len) ≡ true → nat_abs z + bytes ≤ len
  from_start (pos n) low high = search (rules, ints)
  from_start (negsuc n) low high = search (rules, ints)

  by : (t u : Bool) → int_le (pos 0) offset ≡ t → int_le (offset +ℤ pos bytes) (pos len) ≡ u
      → cond (t && u) (Some (nat_abs offset)) None ≡ Some place → place + bytes ≤ len
  by true true low high e = let is : nat_abs offset ≡ place = cc in subst (λ (k : ℕ). k + bytes ≤ len) is (from_start offset low high)
  by true false low high e = absurd (cc)
  by false u low high e = absurd (cc)

written_at_asks : {N : Type 0} (a : Environment N) (to : ℕ) (frame : Frame N) (name : N) (found : Found) (place : Option ℕ) (bytes : ℕ) (v : Value N)
    → a.object name ≡ Ok found → ((k : ℕ) → place ≡ Some k → k + bytes ≤ length found.bytes)
    → AsksFor a Unasked (written_at to frame name place bytes v)
written_at_asks a to frame name found None bytes v is within = tt
written_at_asks a to frame name found (Some place) bytes (Number n) is within =
    (refl, (found, is, omega (arith, length-bytes_low_first 0 bytes n, within place refl)))
written_at_asks a to frame name found (Some place) bytes (Pointer base k) is within = tt

object_asks : {N : Type 0} (a : Environment N) (to : ℕ) (frame : Frame N) (name : N) (r : Result Found Trap) (offset : ℤ) (bytes : ℕ) (v : Value N)
    → a.object name ≡ r → AsksFor a Unasked (writes_object to frame name r offset bytes v)
object_asks a to frame name (Err trap) offset bytes v is = tt
object_asks a to frame name (Ok found) offset bytes v is =
    written_at_asks a to frame name found (place_in (length found.bytes) offset bytes) bytes v is (λ k e. inside (length found.bytes) bytes offset k e)

stores_asks : {N : Type 0} (to : ℕ) (a : Environment N) (frame : Frame N) (size : Size) (offset : ℤ) (x y : Option (Value N))
    → AsksFor a Unasked (effect_of_store to a frame size offset x y)
stores_asks to a frame size offset None y = tt
stores_asks to a frame size offset (Some base) None = tt
stores_asks to a frame size offset (Some (Number n)) (Some v) = tt
stores_asks to a frame size offset (Some (Pointer Stack k)) (Some v) =
    rewritten_asks a to frame (stored_at (place_of (k +ℤ offset) (bytes_in size)) (bytes_in size) v frame.stack)
stores_asks to a frame size offset (Some (Pointer Context k)) (Some v) = tt
stores_asks to a frame size offset (Some (Pointer (Object name) k)) (Some v) =
    object_asks a to frame name (a.object name) (k +ℤ offset) (bytes_in size) v refl

news_asks : {N : Type 0} (to : ℕ) (a : Environment N) (frame : Frame N) (x : Option (Value N)) → AsksFor a (asking_for x a.kinds) (effect_of_new to a frame x)
news_asks to a frame None = tt
news_asks {N} to a frame (Some (Number kind)) = by (nat_lt kind a.kinds) refl where
  by : (t : Bool) → nat_lt kind a.kinds ≡ t
      → AsksFor a (cond t (OfKind kind) OfNoKind) (cond t (Goes (Ask kind) to (without_arguments frame)) (Traps BadCall))
  by true e = (refl, ltb-true kind a.kinds e)
  by false e = tt
news_asks to a frame (Some (Pointer base k)) = tt

gives_asks : {N : Type 0} (a : Environment N) (to : ℕ) (frame : Frame N) (name : N) (r : Result Found Trap) (k : ℤ)
    → a.object name ≡ r → AsksFor a Unasked (effect_of_freeing to frame name r k)
gives_asks a to frame name (Err trap) k is = tt
gives_asks {N} a to frame name (Ok found) k is = by (int_eq k (pos 0)) where
  by : (t : Bool) → AsksFor a Unasked (cond t (Goes (Free name) to (with_zero frame)) (Traps BadCall))
  by true = (refl, (found, is))
  by false = tt

frees_asks : {N : Type 0} (to : ℕ) (a : Environment N) (frame : Frame N) (x : Option (Value N)) → AsksFor a Unasked (effect_of_free to a frame x)
frees_asks to a frame None = tt
frees_asks to a frame (Some (Number n)) = tt
frees_asks to a frame (Some (Pointer Stack k)) = tt
frees_asks to a frame (Some (Pointer Context k)) = tt
frees_asks to a frame (Some (Pointer (Object name) k)) = gives_asks a to frame name (a.object name) k refl

emits_asks : {N : Type 0} (a : Environment N) (to : ℕ) (frame : Frame N) (x : Option (Value N)) → AsksFor a Unasked (effect_of_emit to frame x)
emits_asks a to frame None = tt
emits_asks a to frame (Some (Number n)) = (refl, tt)
emits_asks a to frame (Some (Pointer base k)) = tt

-- an exchange, where it is allowed
exchanges_asks : {N : Type 0} (a : Environment N) (to : ℕ) (frame : Frame N) (asked : Asking) (shelf : ℕ) (given : Option N) (allowed : Bool)
    → (allowed ≡ true → (asked ≡ AtShelf shelf) × IsThere a (Exchange shelf given))
    → AsksFor a asked (exchanges to frame shelf given allowed)
exchanges_asks a to frame asked shelf given true h = h refl
exchanges_asks a to frame asked shelf given false h = tt

giving_asks : {N : Type 0} (a : Environment N) (to : ℕ) (frame : Frame N) (asked : Asking) (known : Bool) (shelf : ℕ) (name : N) (r : Result Found Trap)
    (k : ℤ)
    → a.object name ≡ r → (known ≡ true → (asked ≡ AtShelf shelf) × (shelf < a.kinds))
    → AsksFor a asked (effect_of_giving to frame known shelf name r k)
giving_asks a to frame asked known shelf name (Err trap) k is h = tt
giving_asks a to frame asked known shelf name (Ok found) k is h =
    exchanges_asks a to frame asked shelf (Some name) (known && ((found.kind == shelf) && int_eq k (pos 0))) (λ allowed.
    let parts = and_parts known ((found.kind == shelf) && int_eq k (pos 0)) allowed in
    let at = h parts.0 in
    (at.0, (at.1, (found, is, eqb-true found.kind shelf (and_parts (found.kind == shelf) (int_eq k (pos 0)) parts.1).0))))

swapping_asks : {N : Type 0} (a : Environment N) (to : ℕ) (frame : Frame N) (asked : Asking) (known : Bool) (shelf : ℕ) (given : Value N)
    → (known ≡ true → (asked ≡ AtShelf shelf) × (shelf < a.kinds))
    → AsksFor a asked (effect_of_swapping to a frame known shelf given)
swapping_asks a to frame asked known shelf (Number n) h =
    exchanges_asks a to frame asked shelf None (known && (n == 0)) (λ allowed. let at = h (and_parts known (n == 0) allowed).0 in (at.0, (at.1, tt)))
swapping_asks a to frame asked known shelf (Pointer Stack k) h = tt
swapping_asks a to frame asked known shelf (Pointer Context k) h = tt
swapping_asks a to frame asked known shelf (Pointer (Object name) k) h = giving_asks a to frame asked known shelf name (a.object name) k refl h

swaps_asks : {N : Type 0} (to : ℕ) (a : Environment N) (frame : Frame N) (x y : Option (Value N))
    → AsksFor a (asking_shelf x a.kinds) (effect_of_swap to a frame x y)
swaps_asks to a frame None y = tt
swaps_asks to a frame (Some shelf) None = tt
swaps_asks {N} to a frame (Some (Number shelf)) (Some given) =
    swapping_asks a to frame (asking_shelf {N = N} (Some (Number shelf)) a.kinds) (nat_lt shelf a.kinds) shelf given
    (λ known. (ap (λ (t : Bool). cond t (AtShelf shelf) Unasked) known, ltb-true shelf a.kinds known))
swaps_asks to a frame (Some (Pointer base k)) (Some given) = swapping_asks a to frame Unasked false 0 given (λ known. absurd (cc))

calls_asks : {N : Type 0} (helper : Option Helper) (to : ℕ) (a : Environment N) (frame : Frame N)
    → AsksFor a (asking_helper helper a.kinds frame) (effect_of_call helper to a frame)
calls_asks None to a frame = tt
calls_asks (Some helper.New) to a frame = news_asks to a frame (read frame R1)
calls_asks (Some helper.Free) to a frame = frees_asks to a frame (read frame R1)
calls_asks (Some helper.Emit) to a frame = emits_asks a to frame (read frame R1)
calls_asks (Some helper.Swap) to a frame = swaps_asks to a frame (read frame R1) (read frame R2)

effect_asks : {N : Type 0} (i : Insn) (pc : ℕ) (a : Environment N) (frame : Frame N) → AsksFor a (asking (Some i) a.kinds frame) (effect i pc a frame)
effect_asks (insn.Alu width o dst src) pc a frame = written_asks a _ frame dst (alu_value width o (read frame dst) (source_value frame width src))
effect_asks (insn.Sext width bits dst src) pc a frame = written_asks a _ frame dst (unary (extension_at width bits) (read frame src))
effect_asks (insn.Neg width dst) pc a frame = written_asks a _ frame dst (unary (negation_at width) (read frame dst))
effect_asks (insn.Swap order bits dst) pc a frame = written_asks a _ frame dst (unary (swap_of order bits) (read frame dst))
effect_asks (insn.Wide dst value) pc a frame = written_asks a _ frame dst (Ok (Number value))
effect_asks (insn.Jump offset) pc a frame = jumps_asks a (jump_of (insn.Jump offset) pc) frame
effect_asks (insn.JumpFar offset) pc a frame = jumps_asks a (jump_of (insn.JumpFar offset) pc) frame
effect_asks (insn.Branch width condition left right offset) pc a frame =
    branches_asks a _ (jump_of (insn.Branch width condition left right offset) pc) frame
    (is_taken width condition right (read frame left) (source_value frame width right))
effect_asks insn.Exit pc a frame = exits_asks a a.holds (read frame R0)
effect_asks (insn.Load size signed dst base offset) pc a frame = written_asks a _ frame dst (loaded a frame.stack size signed offset (read frame base))
effect_asks (insn.Store size base offset src) pc a frame = stores_asks _ a frame size offset (read frame base) (source_value frame W64 src)
effect_asks (insn.Call number) pc a frame = calls_asks (helper_of number) _ a frame

effect_at_asks : {N : Type 0} (o : Option Insn) (pc : ℕ) (a : Environment N) (frame : Frame N) → AsksFor a (asking o a.kinds frame) (effect_at o pc a frame)
effect_at_asks None pc a frame = tt
effect_at_asks (Some i) pc a frame = effect_asks i pc a frame

-- what an instruction asks for is what its effect does
pub asked_goes : {N : Type 0} (o : Option Insn) (pc : ℕ) (a : Environment N) (frame : Frame N) (act : Act N) (to : ℕ) (after : Frame N)
    → effect_at o pc a frame ≡ Goes act to after → asking o a.kinds frame ≡ asked_by act
asked_goes o pc a frame act to after does = (subst (AsksFor a (asking o a.kinds frame)) does (effect_at_asks o pc a frame)).0

pub asked_ends : {N : Type 0} (o : Option Insn) (pc : ℕ) (a : Environment N) (frame : Frame N) (n : ℕ)
    → effect_at o pc a frame ≡ Ends n → asking o a.kinds frame ≡ Unasked
asked_ends o pc a frame n does = subst (AsksFor a (asking o a.kinds frame)) does (effect_at_asks o pc a frame)

pub there_goes : {N : Type 0} (o : Option Insn) (pc : ℕ) (a : Environment N) (frame : Frame N) (act : Act N) (to : ℕ) (after : Frame N)
    → effect_at o pc a frame ≡ Goes act to after → IsThere a act
there_goes o pc a frame act to after does = (subst (AsksFor a (asking o a.kinds frame)) does (effect_at_asks o pc a frame)).1

-- ---- what the run sees of it

register_asks : (x : Option (Value Name)) (kinds : ℕ) → asking_for (register_renamed by_call.name x) kinds ≡ asking_for x kinds
register_asks None kinds = refl
register_asks (Some (Number n)) kinds = refl
register_asks (Some (Pointer base k)) kinds = refl

shelf_asks : (x : Option (Value Name)) (kinds : ℕ) → asking_shelf (register_renamed by_call.name x) kinds ≡ asking_shelf x kinds
shelf_asks None kinds = refl
shelf_asks (Some (Number n)) kinds = refl
shelf_asks (Some (Pointer base k)) kinds = refl

helper_asks : (helper : Option Helper) (kinds : ℕ) (frame : Frame Name) → asking_helper helper kinds (frame_seen frame) ≡ asking_helper helper kinds frame
helper_asks None kinds frame = refl
helper_asks (Some helper.New) kinds frame =
    ap (λ (x : Option (Value ℕ)). asking_for x kinds) (read-told by_call frame R1) ∙ register_asks (read frame R1) kinds
helper_asks (Some helper.Free) kinds frame = refl
helper_asks (Some helper.Emit) kinds frame = refl
helper_asks (Some helper.Swap) kinds frame =
    ap (λ (x : Option (Value ℕ)). asking_shelf x kinds) (read-told by_call frame R1) ∙ shelf_asks (read frame R1) kinds

insn_asks : (i : Insn) (kinds : ℕ) (frame : Frame Name) → asking (Some i) kinds (frame_seen frame) ≡ asking (Some i) kinds frame
insn_asks (insn.Call number) kinds frame = helper_asks (helper_of number) kinds frame
insn_asks _ kinds frame = refl

asks_seen : (o : Option Insn) (kinds : ℕ) (frame : Frame Name) → asking o kinds (frame_seen frame) ≡ asking o kinds frame
asks_seen None kinds frame = refl
asks_seen (Some i) kinds frame = insn_asks i kinds frame

pub asking_seen : (w : World) (run : ℕ) (r : Running) → IsOwned w → slice_get w.runs run ≡ Some r → asking_of w r ≡ asking_in (view_of w run r)
asking_seen w run r owned there =
    let o = insn_at r.subject.program r.pc in
    let kinds : length w.kinds ≡ length r.subject.rows =
    ap (λ (ks : List Kind). length ks) (sym (owned.runs.kinds_are run r there)) ∙ length-map r.subject.rows _ in
    ap (λ (n : ℕ). asking o n r.frame) kinds ∙ sym (asks_seen o (length r.subject.rows) r.frame)

-- ---- what the next instruction of a sound run asks for

-- the next instruction asks for an object of a kind that there is, and the run has room for it
pub record AsksNew (v : RunView) (kind : ℕ) : Type 0 where
  pub to : ℕ
  pub after : Frame ℕ
  pub does : effect_of_view v ≡ Goes (Ask kind) to after
  pub kind_is : kind < length v.subject.rows
  pub room : length v.objects < v.subject.decl.held

-- it asks for what is on a shelf, and the run has room for it
pub record AsksShelf (v : RunView) (shelf : ℕ) : Type 0 where
  pub given : Option ℕ
  pub to : ℕ
  pub after : Frame ℕ
  pub does : effect_of_view v ≡ Goes (Exchange shelf given) to after
  pub shelf_is : shelf < length v.subject.rows
  pub room : length (without_given given v.objects) < v.subject.decl.held

-- what it asks for, whatever that is
pub data Asks (v : RunView) : Type 0 where
  ForNothing : asking_in v ≡ Unasked → Asks v
  ForObject : (kind : ℕ) → asking_in v ≡ OfKind kind → AsksNew v kind → Asks v
  ForShelf : (shelf : ℕ) → asking_in v ≡ AtShelf shelf → AsksShelf v shelf → Asks v

pub asks_of : (v : RunView) → IsNext v → Asks v
asks_of v (inr (n, e)) = ForNothing (asked_ends (insn_at v.subject.program v.pc) v.pc (environment_of_view v) v.frame n e.does)
asks_of v (inl (act, to, after, g)) = by act g (asked_goes (insn_at v.subject.program v.pc) v.pc (environment_of_view v) v.frame act to after g.does) where
  by : (act : Act ℕ) → GoesOn v act to after → asking_in v ≡ asked_by act → Asks v
  by Nothing g asked = ForNothing asked
  by (Write name at bytes) g asked = ForNothing asked
  by (Free name) g asked = ForNothing asked
  by (Ask kind) g asked = ForObject kind asked (record { to = to; after = after; does = g.does; kind_is = g.room.0; room = g.room.1 })
  by (Exchange shelf given) g asked =
      ForShelf shelf asked (record { given = given; to = to; after = after; does = g.does; shelf_is = g.room.0; room = g.room.1 })
