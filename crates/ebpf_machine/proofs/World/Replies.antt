-- The replies that a run was answered: an instruction that asks for an object adds its own, and no other instruction reads or adds one.
use Rattle.std.proofs.Common.{◌≡◌, ℕ, ◌<◌, false, List, [], ◌∷◌, ◌++◌, length, refl, sym, ap, ◌∙◌, arith}
use Rattle.std.specs.Prelude.{nat_le}
use Rattle.std.proofs.lemmas.Bool.Decides.{nat_tests}
use Rattle.std.proofs.lemmas.List.{append-nil}
use Rattle.ebpf_insn.specs.Program.{insn_at}
use Rattle.ebpf_machine.specs.declared.report.Reply.{Reply}
use Rattle.ebpf_machine.specs.declared.report.Reply.TheVariants as reply
use Rattle.ebpf_machine.specs.Effect.{Nothing, Write, Ask, Free, Exchange, Effect, Goes, Ends, Traps}
use Rattle.ebpf_machine.specs.World.{Status, Going}
use Rattle.ebpf_machine.specs.Events.{Unasked}
use Rattle.ebpf_machine.specs.Alone.{Replies, replies_from}
use Rattle.ebpf_machine.specs.Replies.{replies_of, more_than}
use Rattle.ebpf_machine.specs.View.{RunView, environment_of_view, done_by, effect_of_view, stepped_from, stepped, answered, exchanged}
use Rattle.ebpf_machine.specs.View.{without_given, CallResult, Null, Granted, Empty, Shelved, reply_in}
use Rattle.ebpf_machine.specs.Step.{asking_in}
use Rattle.ebpf_machine.proofs.World.Asking.{AsksNew, AsksShelf, asked_goes}

pub stepped_going : (v : RunView) (result : CallResult) → v.status ≡ Going → stepped result v ≡ done_by (effect_of_view v) result v
stepped_going v result going = ap (λ (s : Status). stepped_from s result v) going

-- ---- an instruction that asks for nothing

-- what it does, whatever the result, and it leaves the replies as they are
record IsDeaf (v : RunView) (e : Effect ℕ) : Type 0 where
  same : (result other : CallResult) → done_by e result v ≡ done_by e other v
  replies : (result : CallResult) → replies_of (done_by e result v) ≡ replies_of v

deaf : (v : RunView) (e : Effect ℕ) → effect_of_view v ≡ e → asking_in v ≡ Unasked → IsDeaf v e
deaf v (Ends n) is unasked = record { same = λ result other. refl; replies = λ result. refl }
deaf v (Traps trap) is unasked = record { same = λ result other. refl; replies = λ result. refl }
deaf v (Goes Nothing to after) is unasked = record { same = λ result other. refl; replies = λ result. refl }
deaf v (Goes (Write name at bytes) to after) is unasked = record { same = λ result other. refl; replies = λ result. refl }
deaf v (Goes (Free name) to after) is unasked = record { same = λ result other. refl; replies = λ result. refl }
deaf v (Goes (Exchange shelf given) to after) is unasked =
    let asked = asked_goes (insn_at v.subject.program v.pc) v.pc (environment_of_view v) v.frame (Exchange shelf given) to after is in absurd (cc)
deaf v (Goes (Ask kind) to after) is unasked =
    let asked = asked_goes (insn_at v.subject.program v.pc) v.pc (environment_of_view v) v.frame (Ask kind) to after is in absurd (cc)

pub stepped_any : (v : RunView) (result other : CallResult) → v.status ≡ Going → asking_in v ≡ Unasked → stepped result v ≡ stepped other v
stepped_any v result other going unasked =
    stepped_going v result going ∙ (deaf v (effect_of_view v) refl unasked).same result other ∙ sym (stepped_going v other going)

pub replies_kept : (v : RunView) (result : CallResult) → v.status ≡ Going → asking_in v ≡ Unasked → replies_of (stepped result v) ≡ replies_of v
replies_kept v result going unasked = ap replies_of (stepped_going v result going) ∙ (deaf v (effect_of_view v) refl unasked).replies result

-- ---- an instruction that asks for an object

-- what a call of new makes of what it is answered
abbrev pub heard_by_new : CallResult → CallResult
heard_by_new Granted = Granted
heard_by_new Null = Null
heard_by_new Empty = Null
heard_by_new (Shelved bytes) = Null

pub stepped_heard : (v : RunView) (result : CallResult) (kind : ℕ) → v.status ≡ Going → AsksNew v kind → stepped (heard_by_new result) v ≡ stepped result v
stepped_heard v result kind going new = does (heard_by_new result) ∙ heard result ∙ sym (does result) where
  does : (r : CallResult) → stepped r v ≡ answered r new.to new.after kind v
  does r = stepped_going v r going ∙ ap (λ (e : Effect ℕ). done_by e r v) new.does

  heard : (r : CallResult) → answered (heard_by_new r) new.to new.after kind v ≡ answered r new.to new.after kind v
  heard Granted = refl
  heard Null = refl
  heard Empty = refl
  heard (Shelved bytes) = refl

-- a reply that is answered to new
abbrev pub one_told : CallResult → Replies
one_told result = replies_from (reply_in (heard_by_new result) ∷ []) []

pub replies_added : (v : RunView) (result : CallResult) (kind : ℕ) → v.status ≡ Going → AsksNew v kind
    → replies_of (stepped result v) ≡ more_than (replies_of v) (one_told result)
replies_added v result kind going new = ap replies_of (stepped_going v result going ∙ ap (λ (e : Effect ℕ). done_by e result v) new.does) ∙ told result where
  nothing_taken : (answers : List Reply) → replies_from answers v.taken ≡ replies_from answers (v.taken ++ [])
  nothing_taken answers = ap (replies_from answers) (sym (append-nil v.taken))

  few : (declared held : ℕ) → held < declared → nat_le declared held ≡ false
  few declared held lt = grind (arith, nat_tests)

  told : (result : CallResult) → replies_of (answered result new.to new.after kind v) ≡ more_than (replies_of v) (one_told result)
  told Null = nothing_taken (v.replies ++ reply.Null ∷ [])
  told Empty = nothing_taken (v.replies ++ reply.Null ∷ [])
  told (Shelved bytes) = nothing_taken (v.replies ++ reply.Null ∷ [])
  told Granted = let room = few v.subject.decl.held (length v.objects) new.room in rw room (nothing_taken (v.replies ++ reply.Granted ∷ []))

-- ---- an instruction that asks for what is on a shelf

-- what a call of swap makes of what it is answered
abbrev pub heard_by_swap : CallResult → CallResult
heard_by_swap (Shelved bytes) = Shelved bytes
heard_by_swap Empty = Empty
heard_by_swap Null = Empty
heard_by_swap Granted = Empty

-- the bytes that it is answered
abbrev pub bytes_told : CallResult → List ℕ
bytes_told (Shelved bytes) = bytes
bytes_told Empty = []
bytes_told Null = []
bytes_told Granted = []

-- a reply that is answered to swap
abbrev pub one_swapped : CallResult → Replies
one_swapped result = replies_from (reply_in (heard_by_swap result) ∷ []) (bytes_told result)

pub shelf_heard : (v : RunView) (result : CallResult) (shelf : ℕ) → v.status ≡ Going → AsksShelf v shelf → stepped (heard_by_swap result) v ≡ stepped result v
shelf_heard v result shelf going asks = does (heard_by_swap result) ∙ heard result ∙ sym (does result) where
  does : (r : CallResult) → stepped r v ≡ exchanged r asks.to asks.after shelf asks.given v
  does r = stepped_going v r going ∙ ap (λ (e : Effect ℕ). done_by e r v) asks.does

  heard : (r : CallResult) → exchanged (heard_by_swap r) asks.to asks.after shelf asks.given v ≡ exchanged r asks.to asks.after shelf asks.given v
  heard (Shelved bytes) = refl
  heard Empty = refl
  heard Null = refl
  heard Granted = refl

pub replies_swapped : (v : RunView) (result : CallResult) (shelf : ℕ) → v.status ≡ Going → AsksShelf v shelf
    → replies_of (stepped result v) ≡ more_than (replies_of v) (one_swapped result)
replies_swapped v result shelf going asks =
    ap replies_of (stepped_going v result going ∙ ap (λ (e : Effect ℕ). done_by e result v) asks.does) ∙ told result where
      nothing_taken : (answers : List Reply) → replies_from answers v.taken ≡ replies_from answers (v.taken ++ [])
      nothing_taken answers = ap (replies_from answers) (sym (append-nil v.taken))

      few : (declared held : ℕ) → held < declared → nat_le declared held ≡ false
      few declared held lt = grind (arith, nat_tests)

      told : (result : CallResult) → replies_of (exchanged result asks.to asks.after shelf asks.given v) ≡ more_than (replies_of v) (one_swapped result)
      told Null = nothing_taken (v.replies ++ reply.Empty ∷ [])
      told Granted = nothing_taken (v.replies ++ reply.Empty ∷ [])
      told Empty = nothing_taken (v.replies ++ reply.Empty ∷ [])
      told (Shelved bytes) = let room = few v.subject.decl.held (length (without_given asks.given v.objects)) asks.room in rw room refl
