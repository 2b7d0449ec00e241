-- Where the copies are accepted, every run of the program ends, and is as far as the run of the copies.
use Rattle.std.proofs.Common.{◌≡◌, ℕ, zero, suc, ◌+◌, ◌*◌, ◌<◌, ◌≤◌, ◌-◌, List, length, Option, refl, sym, ap, subst, ◌∙◌, arith, inl, inr}
use Rattle.ebpf_insn.specs.declared.insn.Insn.{Insn}
use Rattle.ebpf_insn.specs.Program.{instructions}
use Rattle.ebpf_verify.specs.Subject.{Subject}
use Rattle.ebpf_verify.specs.Verdict.{IsAccepted}
use Rattle.ebpf_machine.specs.Values.{Frame, BadCall}
use Rattle.ebpf_machine.specs.Effect.{Act, Goes}
use Rattle.ebpf_machine.specs.Renaming.{frame_renamed}
use Rattle.ebpf_machine.specs.World.{Status, Going, Exited, Trapped}
use Rattle.ebpf_machine.specs.View.{RunView, CallResult, effect_of_view, stepped_from, stepped}
use Rattle.ebpf_machine.proofs.World.Telling.{act_told, effect_told}
use Rattle.ebpf_machine.proofs.World.Lone.{one_on}
use Rattle.ebpf_machine.proofs.World.Steps.{going_fewer}
use Rattle.ebpf_layout.specs.Running.{first_view, run_on, IsAsFar, run_of}
use Rattle.ebpf_layout.proofs.Renamed.{AreApart, placed}
use Rattle.ebpf_unroll.specs.Unrolling.{IsUnrolled}
use Rattle.ebpf_unroll.specs.Counting.{counted_from, counted, count_on}
use Rattle.ebpf_unroll.specs.Ending.{AnswersFit, EndsAs}
use Rattle.ebpf_unroll.proofs.Copied.{on_none, on_more}
use Rattle.ebpf_unroll.proofs.Runs.{run_copied}
use Rattle.ebpf_unroll.proofs.Moves.{IsGood, good_first, good_next, never_trapped, asks, asks_more}
use Rattle.ebpf_unroll.proofs.Names.{told_to, slot_of, IsRunOf, new_more, all_apart, kept}
use Rattle.ebpf_unroll.proofs.Named.{named_view, IsNamed, effect_named, next_named, asks_told, first_named, named_as_far}

run_none : (told : ℕ → CallResult) (v : RunView) → run_on 0 told v ≡ v
unfolding run_on
run_none told v = refl

run_more : (n : ℕ) (told : ℕ → CallResult) (v : RunView) → run_on (suc n) told v ≡ stepped (told (length (run_on n told v).replies)) (run_on n told v)
unfolding run_on
run_more n told v = refl

over : (v w : RunView) (result reply : CallResult) (s : Status) → v.status ≡ s → w.status ≡ s → (s ≡ Going → ⊥) → (counted result v ≡ v) × (stepped reply w ≡ w)
over v w result reply Going e f not = absurd (not refl)
over v w result reply (Exited n) e f not = (ap (λ (s : Status). counted_from s result v) e, ap (λ (s : Status). stepped_from s reply w) f)
over v w result reply (Trapped trap) e f not = (ap (λ (s : Status). counted_from s result v) e, ap (λ (s : Status). stepped_from s reply w) f)

module _ (s : Subject) (context : List ℕ) (told : ℕ → CallResult) (accepted : IsAccepted s) (long : length context ≡ s.decl.context)
    (fits : AnswersFit s context told) where
  abbrev w : ℕ → RunView
  w m = run_on m told (first_view s context)

  abbrev v : ℕ → RunView
  v m = count_on m told (first_view s context)

  good : (m : ℕ) → IsGood (w m)
  good zero = subst IsGood (sym (run_none told (first_view s context))) (good_first s context accepted long)
  good (suc m) = subst IsGood (sym (run_more m told (first_view s context))) (good_next (w m) (told (length (w m).replies)) (good m) (fits m))

  run : IsRunOf w
  run = record {
    good = good;
    reply = λ m. told (length (w m).replies);
    next = λ m. run_more m told (first_view s context);
    none = ap (λ (t : RunView). length t.replies) (run_none told (first_view s context));
  }

  apart : (n : ℕ) → AreApart (slot_of w n)
  apart n r t e = all_apart w run n r t e

  -- the name of what a call is granted now is its slot
  asked_now : (n k : ℕ) → k < n → (h : IsNamed (slot_of w n) (v k) (w k)) → (v k).status ≡ Going
      → (act : Act ℕ) (to : ℕ) (frame : Frame ℕ) → effect_of_view (v k) ≡ Goes act to frame → asks act ≡ 1
      → slot_of w n (length (v k).replies) ≡ (v k).pc
  asked_now n k lt h going act to frame does one =
      let name = slot_of w n in
      let same : w k ≡ named_view name (v k).pc h.executed (v k) = h.same ∙ ap (λ (at : ℕ). named_view name at h.executed (v k)) (h.pc going) in
      let does_there : effect_of_view (w k) ≡ Goes (act_told (placed name) act) to (frame_renamed name frame) =
      ap effect_of_view same ∙ effect_named name (apart n) (v k) h.executed (told 0) ∙ ap (effect_told (placed name)) does in
      let goes_there : (w k).status ≡ Going = ap (λ (t : RunView). t.status) same ∙ going in
      let more : told_to w (suc k) ≡ told_to w k + 1 =
      ap (λ (t : RunView). length t.replies) (run_more k told (first_view s context))
      ∙ asks_more (w k) (told (length (w k).replies)) (act_told (placed name) act) to (frame_renamed name frame) (good k) goes_there does_there
      ∙ ap (λ (i : ℕ). told_to w k + i) (asks_told name act ∙ one) in
      let far : n - suc k + suc k ≡ n = omega (arith, lt) in
      let keeps = kept w run (n - suc k) (suc k) (told_to w k) (omega (arith, more)) in
      ap (λ (t : RunView). name (length t.replies)) (sym same)
      ∙ ap (λ (m : ℕ). slot_of w m (told_to w k)) (sym far) ∙ keeps.0 ∙ new_more w k more ∙ ap (λ (t : RunView). t.pc) same

  named_next : (n k : ℕ) → k < n → IsNamed (slot_of w n) (v k) (w k) → IsNamed (slot_of w n) (v (suc k)) (w (suc k))
  named_next n k lt h = by (v k).status refl where
    replies : length (w k).replies ≡ length (v k).replies
    replies = ap (λ (t : RunView). length t.replies) h.same

    now : v (suc k) ≡ counted (told (length (v k).replies)) (v k)
    now = on_more k told (first_view s context)

    new : w (suc k) ≡ stepped (told (length (w k).replies)) (w k)
    new = run_more k told (first_view s context)

    stays : ((v k).status ≡ Going → ⊥) → IsNamed (slot_of w n) (v (suc k)) (w (suc k))
    stays not =
        let o = over (v k) (w k) (told (length (v k).replies)) (told (length (w k).replies)) (v k).status refl (ap (λ (t : RunView). t.status) h.same) not in
        subst (λ (t : RunView). IsNamed (slot_of w n) t (w (suc k))) (sym (now ∙ o.0)) (subst (IsNamed (slot_of w n) (v k)) (sym (new ∙ o.1)) h)

    by : (t : Status) → (v k).status ≡ t → IsNamed (slot_of w n) (v (suc k)) (w (suc k))
    by Going going =
        let same : w k ≡ named_view (slot_of w n) (v k).pc h.executed (v k) =
        h.same ∙ ap (λ (at : ℕ). named_view (slot_of w n) at h.executed (v k)) (h.pc going) in
        let there : w (suc k) ≡ stepped (told (length (v k).replies)) (named_view (slot_of w n) (v k).pc h.executed (v k)) =
        new ∙ ap (λ (t : RunView). stepped (told (length t.replies)) t) same in
        subst (λ (t : RunView). IsNamed (slot_of w n) t (w (suc k))) (sym now)
        (subst (IsNamed (slot_of w n) (counted (told (length (v k).replies)) (v k))) (sym there)
        (next_named (slot_of w n) (apart n) (v k) h.executed (told (length (v k).replies)) (subst IsGood same (good k)) going
        (asked_now n k lt h going)))
    by (Exited m) e = stays (λ going. let never : Exited m ≡ Going = sym e ∙ going in absurd (cc))
    by (Trapped trap) e = stays (λ going. let never : Trapped trap ≡ Going = sym e ∙ going in absurd (cc))

  named : (n k : ℕ) → k ≤ n → IsNamed (slot_of w n) (v k) (w k)
  named n zero le =
      subst (λ (t : RunView). IsNamed (slot_of w n) t (w 0)) (sym (on_none told (first_view s context)))
      (subst (IsNamed (slot_of w n) (first_view s context)) (sym (run_none told (first_view s context))) (first_named s context (slot_of w n)))
  named n (suc k) le = named_next n k (omega (arith, le)) (named n k (omega (arith, le)))

  pub counted_alike : (m : ℕ) → IsAsFar (v m) (w m)
  counted_alike m = named_as_far (slot_of w m) (v m) (w m) (named m m (omega arith))

  -- a run that goes on has done that many instructions
  executed_next : (m : ℕ) → (w (suc m)).status ≡ Going → ((w m).status ≡ Going → (w m).executed ≡ m) → (w (suc m)).executed ≡ suc m
  executed_next m still before = by (w m).status refl where
    new : w (suc m) ≡ stepped (told (length (w m).replies)) (w m)
    new = run_more m told (first_view s context)

    ended : ((w m).status ≡ Going → ⊥) → (w (suc m)).executed ≡ suc m
    ended not =
        let o = over (w m) (w m) (told (length (w m).replies)) (told (length (w m).replies)) (w m).status refl refl not in
        absurd (not (ap (λ (t : RunView). t.status) (sym (new ∙ o.1)) ∙ still))

    by : (t : Status) → (w m).status ≡ t → (w (suc m)).executed ≡ suc m
    by Going going =
        let so_far = before going in
        let one = (one_on (w m) (told (length (w m).replies)) going).executed in
        let now = ap (λ (t : RunView). t.executed) new in
        omega (arith, so_far, one, now)
    by (Exited n) e = ended (λ going. let never : Exited n ≡ Going = sym e ∙ going in absurd (cc))
    by (Trapped trap) e = ended (λ going. let never : Trapped trap ≡ Going = sym e ∙ going in absurd (cc))

  executed_is : (m : ℕ) → (w m).status ≡ Going → (w m).executed ≡ m
  executed_is zero going = ap (λ (t : RunView). t.executed) (run_none told (first_view s context))
  executed_is (suc m) still = executed_next m still (executed_is m)

  subject_next : (k : ℕ) → (w (suc k)).subject ≡ (w k).subject
  subject_next k = by (w k).status refl where
    new : w (suc k) ≡ stepped (told (length (w k).replies)) (w k)
    new = run_more k told (first_view s context)

    stays : ((w k).status ≡ Going → ⊥) → (w (suc k)).subject ≡ (w k).subject
    stays not =
        let o = over (w k) (w k) (told (length (w k).replies)) (told (length (w k).replies)) (w k).status refl refl not in
        ap (λ (t : RunView). t.subject) (new ∙ o.1)

    by : (t : Status) → (w k).status ≡ t → (w (suc k)).subject ≡ (w k).subject
    by Going going = ap (λ (t : RunView). t.subject) new ∙ (one_on (w k) (told (length (w k).replies)) going).subject
    by (Exited n) e = stays (λ going. let never : Exited n ≡ Going = sym e ∙ going in absurd (cc))
    by (Trapped trap) e = stays (λ going. let never : Trapped trap ≡ Going = sym e ∙ going in absurd (cc))

  subject_is : (k : ℕ) → (w k).subject ≡ s
  subject_is zero = ap (λ (t : RunView). t.subject) (run_none told (first_view s context))
  subject_is (suc k) = subject_next k ∙ subject_is k

  -- it has ended once it did as many instructions as the program has
  pub has_exited : (m : ℕ) → length (instructions s.program) ≤ m → (n : ℕ) × ((w m).status ≡ Exited n)
  has_exited m le = elim (never_trapped (w m) (good m) (w m).status refl) [
    | inl going ↦
        let subject : (w m).subject ≡ s = subject_is m in
        absurd (omega (arith, le, executed_is m going, going_fewer (w m) (good m).sound going, ap (λ (t : Subject). length (instructions t.program)) subject))
    | inr exited ↦ exited
  ]

as_far_by : (a b c : RunView) → IsAsFar a b → IsAsFar b c → IsAsFar a c
as_far_by a b c f g = record {
  status = g.status ∙ f.status;
  output = g.output ∙ f.output;
  replies = g.replies ∙ f.replies;
  taken = g.taken ∙ f.taken;
  objects = g.objects ∙ f.objects;
}

module _ (p : List (Option Insn)) (s : Subject) (of : ℕ → Option ℕ) (u : IsUnrolled p s.program of) (context : List ℕ)
    (told : ℕ → CallResult) (accepted : IsAccepted s) (long : length context ≡ s.decl.context) (fits : AnswersFit s context told) where
  alike : (n : ℕ) → (m : ℕ) × (n ≤ m) × (m ≤ 2 * n)
      × IsAsFar (count_on n told (run_of p s.decl s.rows context)) (run_on m told (run_of s.program s.decl s.rows context))
  alike n = elim (run_copied p s.program of u s.decl s.rows context told n) [
    | inl far ↦ (far.0, far.1, far.2, as_far_by _ _ _ far.3 (counted_alike s context told accepted long fits far.0))
    | inr stuck ↦
        let same = (counted_alike s context told accepted long fits stuck.0).status ∙ stuck.1 in
        elim (never_trapped (run_on stuck.0 told (first_view s context)) (good s context told accepted long fits stuck.0) (Trapped BadCall) same) [
          | inl going ↦ absurd (cc)
          | inr exited ↦ let never : Trapped BadCall ≡ Exited exited.0 = exited.1 in absurd (cc)
        ]
  ]

  pub ends_as : EndsAs p s context told
  ends_as =
      let last = alike (length (instructions s.program)) in
      let exited = has_exited s context told accepted long fits last.0 last.1 in
      record { result = exited.0; ends = sym last.3.status ∙ exited.1; alike = alike }
