-- A run of an accepted program, as it sees itself: it never traps, each instruction leads it forward, and each call adds a reply.
use Rattle.std.proofs.Common.{◌≡◌, ℕ, ◌+◌, ◌<◌, false, List, [], length, refl, sym, ap, subst, ◌∙◌, arith, inl, inr, ◌⊎◌}
use Rattle.std.specs.Prelude.{nat_le}
use Rattle.std.proofs.lemmas.Bool.Decides.{nat_tests}
use Rattle.std.proofs.lemmas.List.{length_push}
use Rattle.ebpf_verify.specs.Subject.{Subject}
use Rattle.ebpf_verify.specs.Verdict.{IsAccepted}
use Rattle.ebpf_machine.specs.Values.{Frame}
use Rattle.ebpf_machine.specs.Effect.{Act, Nothing, Write, Ask, Free, Exchange, Goes, Ends}
use Rattle.ebpf_machine.specs.World.{Status, Going, Exited, Trapped}
use Rattle.ebpf_machine.specs.Alone.{Alone, alone_after, replies_from}
use Rattle.ebpf_machine.specs.Replies.{replies_of}
use Rattle.ebpf_machine.specs.View.{RunView, CallResult, Null, Granted, Empty, Shelved, reply_in, view_in, effect_of_view}
use Rattle.ebpf_machine.specs.View.{acted, stepped_from, stepped, without_given}
use Rattle.ebpf_machine.specs.Sound.{AreSized, IsSound, IsAlone, IsWellStated}
use Rattle.ebpf_machine.specs.Step.{FitsShelf}
use Rattle.ebpf_machine.proofs.Rules.Next.{HasRoom, IsNext}
use Rattle.ebpf_machine.proofs.World.Execs.{sized_in}
use Rattle.ebpf_machine.proofs.World.Feeding.{there_is}
use Rattle.ebpf_machine.proofs.World.Lone.{after_none, seen_alone, alone_stepped}
use Rattle.ebpf_machine.proofs.World.Steps.{next_of, stepped_goes, stepped_ends, sound_stepped, first_sound}
use Rattle.ebpf_layout.specs.Running.{first_view}

-- ---- a run that is sound, and is where the run alone is

pub record IsGood (v : RunView) : Type 0 where
  pub sound : IsSound v
  pub alone : IsAlone v

pub sized : (v : RunView) → IsGood v → AreSized v
sized v h =
    let s = seen_alone v h.sound h.alone in
    let a = alone_after v.executed v.subject v.context (replies_of v) in
    subst AreSized s.seen (sized_in a.world 0 s.lone.run s.lone.owned (there_is a s.lone))

pub good_first : (s : Subject) (context : List ℕ) → IsAccepted s → length context ≡ s.decl.context → IsGood (first_view s context)
good_first s context accepted long = record {
  sound = first_sound (λ (h : ℕ). []) s context accepted long;
  alone = ap (λ (a : Alone). view_in a.world 0) (after_none s context (replies_from [] []));
}

pub good_next : (v : RunView) (reply : CallResult) → IsGood v → FitsShelf v reply → IsGood (stepped reply v)
good_next v reply h fits = by v.status refl where
  by : (s : Status) → v.status ≡ s → IsGood (stepped reply v)
  by Going e = record {
    sound = sound_stepped v reply h.sound (sized v h) e;
    alone = alone_stepped v reply h.sound h.alone e fits;
  }
  by (Exited n) e = subst IsGood (sym (ap (λ (s : Status). stepped_from s reply v) e)) h
  by (Trapped trap) e = subst IsGood (sym (ap (λ (s : Status). stepped_from s reply v) e)) h

pub never_trapped : (v : RunView) (h : IsGood v) → (s : Status) → v.status ≡ s → (s ≡ Going) ⊎ ((n : ℕ) × (s ≡ Exited n))
never_trapped v h Going e = inl refl
never_trapped v h (Exited n) e = inr (n, refl)
never_trapped v h (Trapped trap) e = absurd (subst (λ (s : Status). IsWellStated s v) e h.sound.stated)

-- ---- what an act leaves

-- how many replies it adds
abbrev pub asks : Act ℕ → ℕ
asks Nothing = 0
asks (Write call at bytes) = 0
asks (Free call) = 0
asks (Ask kind) = 1
asks (Exchange shelf given) = 1

pub record Gone (v : RunView) (act : Act ℕ) (to : ℕ) (t : RunView) : Type 0 where
  pub pc : t.pc ≡ to
  pub status : t.status ≡ v.status
  pub replies : length t.replies ≡ length v.replies + asks act

few : (declared held : ℕ) → held < declared → nat_le declared held ≡ false
few declared held lt = grind (arith, nat_tests)

pub gone : (v : RunView) (act : Act ℕ) (to : ℕ) (after : Frame ℕ) (reply : CallResult) → HasRoom v act → Gone v act to (acted act reply to after v)
gone v Nothing to after reply room = record { pc = refl; status = refl; replies = omega arith }
gone v (Write call at bytes) to after reply room = record { pc = refl; status = refl; replies = omega arith }
gone v (Free call) to after reply room = record { pc = refl; status = refl; replies = omega arith }
gone v (Ask kind) to after Null room = record { pc = refl; status = refl; replies = length_push v.replies (reply_in Null) }
gone v (Ask kind) to after Empty room = record { pc = refl; status = refl; replies = length_push v.replies (reply_in Null) }
gone v (Ask kind) to after (Shelved bytes) room = record { pc = refl; status = refl; replies = length_push v.replies (reply_in Null) }
gone v (Ask kind) to after Granted room =
    rw (few v.subject.decl.held (length v.objects) room.1) (record { pc = refl; status = refl; replies = length_push v.replies (reply_in Granted) })
gone v (Exchange shelf given) to after Null room = record { pc = refl; status = refl; replies = length_push v.replies (reply_in Empty) }
gone v (Exchange shelf given) to after Empty room = record { pc = refl; status = refl; replies = length_push v.replies (reply_in Empty) }
gone v (Exchange shelf given) to after Granted room = record { pc = refl; status = refl; replies = length_push v.replies (reply_in Empty) }
gone v (Exchange shelf given) to after (Shelved bytes) room =
    rw (few v.subject.decl.held (length (without_given given v.objects)) room.1)
    (record { pc = refl; status = refl; replies = length_push v.replies (reply_in (Shelved bytes)) })

-- ---- one instruction

-- the run has ended and stays; or it goes forward, or ends, with no more replies; or it goes forward with one more
pub data Moves (v t : RunView) : Type 0 where
  Stays : t ≡ v → Moves v t
  Passes : v.status ≡ Going → length t.replies ≡ length v.replies → (t.status ≡ Going → v.pc < t.pc) → Moves v t
  Calls : v.status ≡ Going → length t.replies ≡ length v.replies + 1 → v.pc < t.pc → Moves v t

moves_by : (v t : RunView) (act : Act ℕ) (to : ℕ) → v.status ≡ Going → v.pc < to → Gone v act to t → Moves v t
moves_by v t act to going forward g = by act refl where
  same : (n : ℕ) → asks act ≡ n → length t.replies ≡ length v.replies + n
  same n e = g.replies ∙ ap (λ (k : ℕ). length v.replies + k) e

  further : v.pc < t.pc
  further = omega (arith, g.pc, forward)

  by : (a : Act ℕ) → act ≡ a → Moves v t
  by Nothing e = Passes going (omega (arith, same 0 (ap asks e))) (λ still. further)
  by (Write call at bytes) e = Passes going (omega (arith, same 0 (ap asks e))) (λ still. further)
  by (Free call) e = Passes going (omega (arith, same 0 (ap asks e))) (λ still. further)
  by (Ask kind) e = Calls going (same 1 (ap asks e)) further
  by (Exchange shelf given) e = Calls going (same 1 (ap asks e)) further

pub moves : (v : RunView) (reply : CallResult) → IsGood v → Moves v (stepped reply v)
moves v reply h = by v.status refl where
  next : v.status ≡ Going → IsNext v → Moves v (stepped reply v)
  next going (inl goes) =
      let t = acted goes.0 reply goes.1 goes.2 v in
      subst (Moves v) (sym (stepped_goes v reply goes.0 goes.1 goes.2 going goes.3))
      (moves_by v t goes.0 goes.1 going goes.3.forward (gone v goes.0 goes.1 goes.2 reply goes.3.room))
  next going (inr ends) =
      subst (Moves v) (sym (stepped_ends v reply ends.0 going ends.1)) (Passes going refl (λ still. let never : Exited ends.0 ≡ Going = still in absurd (cc)))

  by : (s : Status) → v.status ≡ s → Moves v (stepped reply v)
  by Going e = next e (next_of v h.sound (sized v h) e)
  by (Exited n) e = Stays (ap (λ (s : Status). stepped_from s reply v) e)
  by (Trapped trap) e = Stays (ap (λ (s : Status). stepped_from s reply v) e)

-- an instruction that asks for an object adds a reply
pub asks_more : (v : RunView) (reply : CallResult) (act : Act ℕ) (to : ℕ) (after : Frame ℕ) → IsGood v → v.status ≡ Going
    → effect_of_view v ≡ Goes act to after → length (stepped reply v).replies ≡ length v.replies + asks act
asks_more v reply act to after h going does = by (next_of v h.sound (sized v h) going) where
  by : IsNext v → length (stepped reply v).replies ≡ length v.replies + asks act
  by (inl next) =
      let same : Goes next.0 next.1 next.2 ≡ Goes act to after = sym next.3.does ∙ does in
      let acts : next.0 ≡ act = cc in
      ap (λ (t : RunView). length t.replies) (stepped_goes v reply next.0 next.1 next.2 going next.3)
      ∙ (gone v next.0 next.1 next.2 reply next.3.room).replies ∙ ap (λ (a : Act ℕ). length v.replies + asks a) acts
  by (inr next) = let never : Ends next.0 ≡ Goes act to after = sym next.1.does ∙ does in absurd (cc)
