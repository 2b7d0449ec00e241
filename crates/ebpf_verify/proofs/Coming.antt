-- What comes to a slot, from one slot after another, and the entries of a trace.
use Rattle.std.proofs.Common.{◌≡◌, ℕ, zero, suc, ◌+◌, ◌<◌, ◌++◌, List, [], ◌∷◌, length, Bool, true, false, cond, Option, Some, None, refl, sym, ap}
use Rattle.std.proofs.Common.{◌∙◌, add-one, arith, append_assoc, inl, inr, get_or, set, Result, Ok, Err, OnOk}
use Rattle.std.proofs.lemmas.Bool.{cases_lt}
use Rattle.std.proofs.lemmas.List.{append-nil, get_or_append_left, get_or_default, get_or-set_other, get_or_push, length_push}
use Rattle.ebpf_insn.specs.declared.insn.Insn.{Insn}
use Rattle.ebpf_insn.specs.Program.{insn_at}
use Rattle.ebpf_insn.proofs.FaultLemmas.{none_below, lowest_is}
use Rattle.ebpf_flow.specs.declared.edges.Edges.{Edges}
use Rattle.ebpf_flow.specs.Edges.{edges_at, leads_to}
use Rattle.ebpf_state.specs.StateView.{StateView}
use Rattle.ebpf_verify.specs.declared.comers.Comer.{Comer}
use Rattle.ebpf_verify.specs.declared.entry.EntryState.{EntryState}
use Rattle.ebpf_verify.specs.declared.entry.EntryState.TheVariants.{Unreached, Known, Conflict}
use Rattle.ebpf_verify.specs.declared.fault.VerifyCode.{VerifyCode}
use Rattle.ebpf_verify.specs.Comers.{along, comer_in, sent_by, comers_below}
use Rattle.ebpf_verify.specs.Entry.{entry_of, with_edge, with_sent, ChangesEach}
use Rattle.ebpf_verify.specs.Rules.{refusal, after_fall, after_jump}
use Rattle.ebpf_verify.specs.Subject.{Subject}
use Rattle.ebpf_verify.specs.Traces.{entries_below, looked_at, IsTrace, AreLookedAt}
use Rattle.ebpf_verify.specs.Verdict.{verdict, refusal_at, refusal_in}

-- from no slot
pub comers_below-zero : (p : List (Option Insn)) (to : ℕ) → [] ≡ comers_below p 0 to
unfolding comers_below
comers_below-zero p to = refl

-- from one more slot
pub comers_below-more : (p : List (Option Insn)) (m to : ℕ) (before after : List Comer) (here : EntryState) → here ≡ entry_of p m → before ≡ comers_below p m to
    → after ≡ before ++ sent_by (insn_at p m) (edges_at p m) m to here → after ≡ comers_below p (m + 1) to
unfolding comers_below
comers_below-more p m to before after here e f g =
    g ∙ (ap (λ (cs : List Comer). cs ++ sent_by (insn_at p m) (edges_at p m) m to here) f
    ∙ (ap (λ (a : EntryState). comers_below p m to ++ sent_by (insn_at p m) (edges_at p m) m to a) e
    ∙ ap (λ (n : ℕ). comers_below p n to) (sym (add-one m))))

-- nothing goes along edges that lead elsewhere
along_none : (s : Option StateView) (from : ℕ) → along s false from ≡ []
along_none None from = refl
along_none (Some s) from = refl

pub sent_nowhere : (i : Option Insn) (p : List (Option Insn)) (slot to : ℕ) (here : EntryState) (before : List Comer)
    → leads_to (edges_at p slot).fall to ≡ false → leads_to (edges_at p slot).jump to ≡ false
    → before ≡ before ++ sent_by i (edges_at p slot) slot to here
sent_nowhere i p slot to here before f j = sym (append-nil before) ∙ ap (λ (cs : List Comer). before ++ cs) (sym (none_sent i here)) where
  none_sent : (i : Option Insn) (here : EntryState) → sent_by i (edges_at p slot) slot to here ≡ []
  none_sent None here = refl
  none_sent (Some i) Unreached = refl
  none_sent (Some i) Conflict = refl
  none_sent (Some i) (Known s) = rw (f, j, along_none, along_none) refl

-- nothing comes by an edge that leads elsewhere, and to a slot to which nothing else comes just what the edge carries
by_no_edge : (s : Option StateView) (e : EntryState) → with_edge s false e ≡ e
by_no_edge None e = refl
by_no_edge (Some s) e = refl

by_one_edge : (s : Option StateView) (leads : Bool) (from : ℕ) → comer_in (with_edge s leads Unreached) from ≡ along s leads from
by_one_edge None leads from = refl
by_one_edge (Some s) true from = refl
by_one_edge (Some s) false from = refl

-- what a fall leaves at slot 0, and a jump at slot 1
pub came_by_fall : (fall jump : Option ℕ) (falls jumps : Bool) (passed taken : Option StateView) (from : ℕ) (e : EntryState)
    → fall ≡ cond falls (Some 0) None → jump ≡ cond jumps (Some 1) None
    → e ≡ with_edge passed (leads_to fall 0) (with_edge taken (leads_to jump 0) Unreached) → comer_in e from ≡ along passed falls from
came_by_fall fall jump falls jumps passed taken from e f j is = rw (is, f, j, here falls, elsewhere jumps, by_no_edge taken Unreached) (by_one_edge passed falls from) where
  here : (b : Bool) → leads_to (cond b (Some 0) None) 0 ≡ b
  here true = refl
  here false = refl

  elsewhere : (b : Bool) → leads_to (cond b (Some 1) None) 0 ≡ false
  elsewhere true = refl
  elsewhere false = refl

pub came_by_jump : (fall jump : Option ℕ) (falls jumps : Bool) (passed taken : Option StateView) (from : ℕ) (e : EntryState)
    → fall ≡ cond falls (Some 0) None → jump ≡ cond jumps (Some 1) None
    → e ≡ with_edge passed (leads_to fall 1) (with_edge taken (leads_to jump 1) Unreached) → comer_in e from ≡ along taken jumps from
came_by_jump fall jump falls jumps passed taken from e f j is =
    rw (is, f, j, elsewhere falls, here jumps, by_no_edge passed (with_edge taken jumps Unreached)) (by_one_edge taken jumps from) where
      here : (b : Bool) → leads_to (cond b (Some 1) None) 1 ≡ b
      here true = refl
      here false = refl

      elsewhere : (b : Bool) → leads_to (cond b (Some 0) None) 1 ≡ false
      elsewhere true = refl
      elsewhere false = refl

-- ---- the entries of a trace

pub length-below : (p : List (Option Insn)) (n : ℕ) → length (entries_below p n) ≡ n
unfolding entries_below
length-below p zero = refl
length-below p (suc n) = length_push (entries_below p n) (entry_of p n) ∙ (add-one (length (entries_below p n)) ∙ ap suc (length-below p n))

pub entry_below : (p : List (Option Insn)) (n k : ℕ) (d : EntryState) → k < n → get_or (entries_below p n) k d ≡ entry_of p k
unfolding entries_below
entry_below p zero k d lt = absurd (omega arith)
entry_below p (suc n) k d lt =
    elim (cases_lt k n) [
      | inl below ↦ get_or_append_left (entries_below p n) (entry_of p n ∷ []) d k (let e : length (entries_below p n) ≡ n = length-below p n in omega arith) ∙ entry_below p n k d below
      | inr above ↦ let same : k ≡ n = omega arith in rw same (get_or_push (entries_below p n) (entry_of p n) d n (length-below p n))
    ]

-- the slots of a trace but the last are not refused
pub looked_at_by_trace : (s : Subject) (entries : List EntryState) (refused : Option (ℕ × VerifyCode)) → IsTrace s entries refused → AreLookedAt s entries
looked_at_by_trace s entries refused h = from_verdict (verdict s) refl entries h.all where
  of_length : (n : ℕ) (es : List EntryState) → es ≡ entries_below s.program n → length es ≡ n
  of_length n es e = ap length e ∙ length-below s.program n

  from_verdict : (v : Option (ℕ × VerifyCode)) → verdict s ≡ v → (es : List EntryState)
      → es ≡ entries_below s.program (looked_at v (length s.program)) → AreLookedAt s es
  from_verdict None is es e =
      let len = of_length (length s.program) es e in record {
        all = e ∙ ap (entries_below s.program) (sym len);
        inside = omega (arith, len);
        fine = λ slot lt. none_below (refusal_at s) (length s.program) is slot (omega (arith, len));
      }
  from_verdict (Some (at, code)) is es e =
      let len = of_length (suc at) es e in
      let low = lowest_is (refusal_at s) (length s.program) at code is in
      let inside = low.inside in record {
        all = e ∙ ap (entries_below s.program) (sym len);
        inside = omega (arith, len, inside);
        fine = λ slot lt. none_below (refusal_at s) at low.before slot (omega (arith, len));
      }

pub entry_looked_at : (s : Subject) (entries : List EntryState) (slot : ℕ) (d : EntryState) → AreLookedAt s entries
    → slot < length entries → get_or entries slot d ≡ entry_of s.program slot
entry_looked_at s entries slot d h lt = ap (λ (es : List EntryState). get_or es slot d) h.all ∙ entry_below s.program (length entries) slot d lt

-- a slot before another that was looked at is not refused
pub refusal_below : (s : Subject) (entries : List EntryState) (slot to : ℕ) (i : Insn) (known : StateView) → AreLookedAt s entries
    → slot < to → to < length entries
    → insn_at s.program slot ≡ Some i → Known known ≡ entry_of s.program slot → refusal s.decl s.rows i known ≡ None
refusal_below s entries slot to i known h below inside at here =
    let fine : refusal_in s.decl s.rows (insn_at s.program slot) (entry_of s.program slot) ≡ None = h.fine slot (omega arith) in
    ap (refusal_in s.decl s.rows (Some i)) here ∙ (ap (λ (o : Option Insn). refusal_in s.decl s.rows o (entry_of s.program slot)) (sym at) ∙ fine)

-- ---- one after another

-- after what was there, what came by the jump and then what came by the fall
pub added_both : {A E : Type 0} (result : Result A E) (before one two jumped fallen x y : List Comer) → one ≡ before ++ jumped
    → OnOk result (two ≡ one ++ fallen) → jumped ≡ x → fallen ≡ y
    → OnOk result (two ≡ before ++ (x ++ y))
added_both (Err e) before one two jumped fallen x y a b j f = tt
added_both (Ok r) before one two jumped fallen x y a b j f = b ∙ (rw (a, j, f) (append_assoc before x y))

-- what an instruction sends to two slots to which nothing came
came_at : (i : Insn) (e : Edges) (from k : ℕ) (s copy : StateView) (old new : List EntryState) (here : EntryState) → copy ≡ s
    → old ≡ Unreached ∷ Unreached ∷ [] → length new ≡ length old
    → ChangesEach old new (λ t. with_sent (Some i) e from t (Known copy)) → k < 2
    → get_or (Unreached ∷ Unreached ∷ []) k Unreached ≡ Unreached → here ≡ get_or new k here
    → here ≡ with_edge (after_fall from i s) (leads_to e.fall k) (with_edge (after_jump i s) (leads_to e.jump k) Unreached)
came_at i e from k s copy old new here is two len sent small nothing at =
    let two_long : length old ≡ 2 = ap length two in
    at ∙ (get_or_default new k here Unreached (omega (arith, len, two_long)) ∙ (sent k (omega (arith, two_long))
    ∙ (ap (λ (t : StateView). with_sent (Some i) e from k (Known t) (get_or old k Unreached)) is
    ∙ (ap (λ (es : List EntryState). with_sent (Some i) e from k (Known s) (get_or es k Unreached)) two
    ∙ ap (with_sent (Some i) e from k (Known s)) nothing))))

pub came_to_first : (i : Insn) (e : Edges) (from : ℕ) (s copy : StateView) (old new : List EntryState) (here : EntryState)
    → copy ≡ s → old ≡ Unreached ∷ Unreached ∷ [] → length new ≡ length old
    → ChangesEach old new (λ t. with_sent (Some i) e from t (Known copy)) → here ≡ get_or new 0 here
    → here ≡ with_edge (after_fall from i s) (leads_to e.fall 0) (with_edge (after_jump i s) (leads_to e.jump 0) Unreached)
came_to_first i e from s copy old new here is two len sent at = came_at i e from 0 s copy old new here is two len sent (omega arith) refl at

-- the first of them is taken out before
pub came_to_second : (i : Insn) (e : Edges) (from : ℕ) (s copy : StateView) (old new : List EntryState) (here gone : EntryState)
    → copy ≡ s → old ≡ Unreached ∷ Unreached ∷ [] → length new ≡ length old
    → ChangesEach old new (λ t. with_sent (Some i) e from t (Known copy)) → here ≡ get_or (set new 0 gone) 1 here
    → here ≡ with_edge (after_fall from i s) (leads_to e.fall 1) (with_edge (after_jump i s) (leads_to e.jump 1) Unreached)
came_to_second i e from s copy old new here gone is two len sent at =
    came_at i e from 1 s copy old new here is two len sent (omega arith) refl (at ∙ get_or-set_other new 0 1 gone here (λ e. absurd (omega (arith, e))))
