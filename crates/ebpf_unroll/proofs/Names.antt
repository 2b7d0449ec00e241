-- The slots of the calls of a run that goes forward, by their numbers: no two calls have one slot.
use Rattle.std.proofs.Common.{◌≡◌, ◌≢◌, ℕ, zero, suc, ◌+◌, ◌<◌, ◌≤◌, false, length, refl, sym, ap, subst, ◌∙◌, arith, inl, inr, ◌⊎◌}
use Rattle.std.specs.Prelude.{◌==◌, if◌then◌else◌}
use Rattle.std.proofs.lemmas.Bool.{cases_lt, eq-eqb, ne_eqb}
use Rattle.ebpf_machine.specs.World.{Going}
use Rattle.ebpf_machine.specs.View.{RunView, CallResult, stepped}
use Rattle.ebpf_machine.proofs.World.Steps.{within}
use Rattle.ebpf_unroll.proofs.Moves.{IsGood, Moves, Stays, Passes, Calls, moves}

-- a run, by the number of its instructions
abbrev pub told_to : (ℕ → RunView) → ℕ → ℕ
told_to w m = length (w m).replies

-- the slot of the call of a number, as far as the run has come; one that no program has, where it was not made yet
unfoldable pub slot_of : (ℕ → RunView) → ℕ → ℕ → ℕ
slot_of w zero r = 4096 + r
slot_of w (suc m) r =
    if length (w (suc m)).replies == length (w m).replies then slot_of w m r else
    if r == length (w m).replies then (w m).pc else
    slot_of w m r

-- each is the next of the one before
pub record IsRunOf (w : ℕ → RunView) : Type 0 where
  pub good : (m : ℕ) → IsGood (w m)
  pub reply : ℕ → CallResult
  pub next : (m : ℕ) → w (suc m) ≡ stepped (reply m) (w m)
  pub none : length (w 0).replies ≡ 0

pub record AreNames (w : ℕ → RunView) (m : ℕ) : Type 0 where
  pub fresh : (r : ℕ) → told_to w m ≤ r → slot_of w m r ≡ 4096 + r
  pub low : (r : ℕ) → r < told_to w m → slot_of w m r < 4096
  pub passed : (w m).status ≡ Going → (r : ℕ) → r < told_to w m → slot_of w m r < (w m).pc
  pub apart : (r s : ℕ) → r < told_to w m → s < told_to w m → slot_of w m r ≡ slot_of w m s → r ≡ s

same_more : (w : ℕ → RunView) (m r : ℕ) → told_to w (suc m) ≡ told_to w m → slot_of w (suc m) r ≡ slot_of w m r
unfolding slot_of
same_more w m r e = rw (eq-eqb (told_to w (suc m)) (told_to w m) e) refl

grown : (w : ℕ → RunView) (m : ℕ) → told_to w (suc m) ≡ told_to w m + 1 → (told_to w (suc m) == told_to w m) ≡ false
grown w m e = ne_eqb (told_to w (suc m)) (told_to w m) (λ same. omega (arith, same, e))

pub new_more : (w : ℕ → RunView) (m : ℕ) → told_to w (suc m) ≡ told_to w m + 1 → slot_of w (suc m) (told_to w m) ≡ (w m).pc
unfolding slot_of
new_more w m e = rw (grown w m e, eq-eqb (told_to w m) (told_to w m) refl) refl

old_more : (w : ℕ → RunView) (m r : ℕ) → told_to w (suc m) ≡ told_to w m + 1 → r ≢ told_to w m → slot_of w (suc m) r ≡ slot_of w m r
unfolding slot_of
old_more w m r e ne = rw (grown w m e, ne_eqb r (told_to w m) ne) refl

none_yet : (w : ℕ → RunView) (r : ℕ) → slot_of w 0 r ≡ 4096 + r
unfolding slot_of
none_yet w r = refl

module _ (w : ℕ → RunView) (run : IsRunOf w) where
  moved : (m : ℕ) → Moves (w m) (w (suc m))
  moved m = subst (Moves (w m)) (sym (run.next m)) (moves (w m) (run.reply m) (run.good m))

  -- nothing new
  names_same : (m : ℕ) → AreNames w m → told_to w (suc m) ≡ told_to w m
      → ((w (suc m)).status ≡ Going → (r : ℕ) → slot_of w m r < (w m).pc → slot_of w m r < (w (suc m)).pc)
      → ((w (suc m)).status ≡ Going → (w m).status ≡ Going) → AreNames w (suc m)
  names_same m h same further was = record {
    fresh = λ r le. same_more w m r same ∙ h.fresh r (omega (arith, same, le));
    low = λ r lt. let l = h.low r (omega (arith, same, lt)) in rw (same_more w m r same) l;
    passed = λ going r lt. let l = further going r (h.passed (was going) r (omega (arith, same, lt))) in rw (same_more w m r same) l;
    apart = λ r s lr ls e. h.apart r s (omega (arith, same, lr)) (omega (arith, same, ls)) (sym (same_more w m r same) ∙ e ∙ same_more w m s same);
  }

  -- a call
  names_call : (m : ℕ) → AreNames w m → (w m).status ≡ Going → told_to w (suc m) ≡ told_to w m + 1 → (w m).pc < (w (suc m)).pc → AreNames w (suc m)
  names_call m h going more further = record {
    fresh = λ r le. old_more w m r more (λ e. omega (arith, more, le, e)) ∙ h.fresh r (omega (arith, more, le));
    low = λ r lt. elim (below r lt) [
      | inl old ↦ let l = h.low r old in rw (old_more w m r more (λ e. omega (arith, e, old))) l
      | inr here ↦ let l = within (w m) (run.good m).sound going in rw (here, new_more w m more) l
    ];
    passed = λ still r lt. elim (below r lt) [
      | inl old ↦
          let l = h.passed going r old in
          let on : slot_of w m r < (w (suc m)).pc = omega (arith, l, further) in rw (old_more w m r more (λ e. omega (arith, e, old))) on
      | inr here ↦ rw (here, new_more w m more) further
    ];
    apart = λ r s lr ls e. elim (below r lr) [
      | inl one ↦ elim (below s ls) [
        | inl two ↦ h.apart r s one two (sym (old r one) ∙ e ∙ old s two)
        | inr last ↦ absurd (omega (arith, h.passed going r one, sym (old r one) ∙ e ∙ new s last))
      ]
      | inr first ↦ elim (below s ls) [
        | inl two ↦ absurd (omega (arith, h.passed going s two, sym (old s two) ∙ sym e ∙ new r first))
        | inr last ↦ first ∙ sym last
      ]
    ];
  } where
    below : (r : ℕ) → r < told_to w (suc m) → (r < told_to w m) ⊎ (r ≡ told_to w m)
    below r lt = elim (cases_lt r (told_to w m)) [
      | inl lower ↦ inl lower
      | inr le ↦ inr (omega (arith, le, lt, more))
    ]

    old : (r : ℕ) → r < told_to w m → slot_of w (suc m) r ≡ slot_of w m r
    old r lt = old_more w m r more (λ e. omega (arith, e, lt))

    new : (r : ℕ) → r ≡ told_to w m → slot_of w (suc m) r ≡ (w m).pc
    new r e = ap (slot_of w (suc m)) e ∙ new_more w m more

  names_next : (m : ℕ) → AreNames w m → Moves (w m) (w (suc m)) → AreNames w (suc m)
  names_next m h (Stays same) = names_same m h (ap (λ (t : RunView). length t.replies) same)
      (λ going r lt. omega (arith, lt, ap (λ (t : RunView). t.pc) same)) (λ going. sym (ap (λ (t : RunView). t.status) same) ∙ going)
  names_next m h (Passes going same further) = names_same m h same (λ still r lt. omega (arith, lt, further still)) (λ still. going)
  names_next m h (Calls going more further) = names_call m h going more further

  pub names : (m : ℕ) → AreNames w m
  names zero = record {
    fresh = λ r le. none_yet w r;
    low = λ r lt. absurd (omega (arith, lt, run.none));
    passed = λ going r lt. absurd (omega (arith, lt, run.none));
    apart = λ r s lr ls e. absurd (omega (arith, lr, run.none));
  }
  names (suc m) = names_next m (names m) (moved m)

  -- no two calls have one slot
  pub all_apart : (m r s : ℕ) → slot_of w m r ≡ slot_of w m s → r ≡ s
  all_apart m r s e = elim (cases_lt r (told_to w m)) [
    | inl one ↦ elim (cases_lt s (told_to w m)) [
      | inl two ↦ (names m).apart r s one two e
      | inr free ↦ absurd (omega (arith, (names m).low r one, (names m).fresh s free, e))
    ]
    | inr none ↦ elim (cases_lt s (told_to w m)) [
      | inl two ↦ absurd (omega (arith, (names m).low s two, (names m).fresh r none, e))
      | inr free ↦ omega (arith, (names m).fresh r none, (names m).fresh s free, e)
    ]
  ]

  -- and what has a slot keeps it
  no_fewer : (m : ℕ) → told_to w m ≤ told_to w (suc m)
  no_fewer m = by (moved m) where
    by : Moves (w m) (w (suc m)) → told_to w m ≤ told_to w (suc m)
    by (Stays same) = omega (arith, ap (λ (t : RunView). length t.replies) same)
    by (Passes going same further) = omega (arith, same)
    by (Calls going more further) = omega (arith, more)

  kept_once : (m r : ℕ) → r < told_to w m → slot_of w (suc m) r ≡ slot_of w m r
  kept_once m r lt = by (moved m) where
    by : Moves (w m) (w (suc m)) → slot_of w (suc m) r ≡ slot_of w m r
    by (Stays same) = same_more w m r (ap (λ (t : RunView). length t.replies) same)
    by (Passes going same further) = same_more w m r same
    by (Calls going more further) = old_more w m r more (λ e. omega (arith, e, lt))

  pub kept : (k m r : ℕ) → r < told_to w m → (slot_of w (k + m) r ≡ slot_of w m r) × (told_to w m ≤ told_to w (k + m))
  kept zero m r lt = let same : zero + m ≡ m = omega arith in rw same (refl, omega arith)
  kept (suc k) m r lt =
      let same : suc k + m ≡ suc (k + m) = omega arith in
      let h = kept k m r lt in
      let l : r < told_to w (k + m) = omega (arith, lt, h.1) in
      rw same (kept_once (k + m) r l ∙ h.0, omega (arith, h.1, no_fewer (k + m)))
