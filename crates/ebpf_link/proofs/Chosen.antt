-- The word that is taken, and the words that were tried before it.
use Rattle.std.proofs.Common.{◌≡◌, ℕ, ◌+◌, ◌<◌, ℤ, List, Option, Some, None, refl, subst, arith, inl, inr, ◌⊎◌, below_more, Result, IfOk, ok_or}
use Rattle.ebpf_insn.specs.declared.insn.Insn.{Insn}
use Rattle.ebpf_flow.specs.Flow.{or_else}
use Rattle.ebpf_verify.specs.Verdict.{IsAccepted}
use Rattle.ebpf_link.specs.declared.fault.LinkFault.{LinkFault}
use Rattle.ebpf_link.specs.declared.fault.LinkFault.TheVariants.{NoWord}
use Rattle.ebpf_link.specs.declared.linked.Linked.{Linked}
use Rattle.ebpf_link.specs.declared.right.Judged.{Judged}
use Rattle.ebpf_link.specs.declared.right.Judged.TheVariants.{Misled, Refused, Unshown, Shown}
use Rattle.ebpf_link.specs.Right.{IsJudged, IsShown, IsRight}
use Rattle.ebpf_link.specs.Words.{IsFree, word_at}
use Rattle.ebpf_link.specs.Choice.{Wanted, subject_of, LinksTo, Fails, IsUnshown, IsLinkedBy, IsRefused, IsTried}
use Rattle.ebpf_link.proofs.Added.{are_added}
use Rattle.ebpf_link.proofs.Pointed.{fetched, pointing}
use Rattle.ebpf_link.proofs.Away.{apart}

-- what the states show is so
pub right : (q : List (Option Insn)) (word : ℤ) → IsShown q word → IsRight q word
right q word shown = record { fetched = fetched q word (λ slot. (shown slot).holds); apart = apart q word (λ slot. (shown slot).apart) }

-- the program linked with a free word, and what the checks say of it
pub record IsTry (w : Wanted) (number : ℕ) (l : Linked) (judged : Judged) : Type 0 where
  pub few : number < 4
  pub is : l.word ≡ word_at number
  pub free : IsFree w.program l.word
  pub links : LinksTo w l.word l.program
  pub told : IsJudged (subject_of w l.program) l.word judged

module _ (w : Wanted) where
  -- a word that is taken, since it is shown to be right, or since the flow has a fault
  pub taken : (number : ℕ) (l : Linked) (judged : Judged) → IsTry w number l judged → (judged ≡ Shown) ⊎ (judged ≡ Misled) → IsLinkedBy w l.word l.program
  taken number l judged h (inl is) =
      let told = subst (IsJudged (subject_of w l.program) l.word) is h.told in record {
        among = (number, h.few, h.is);
        free = h.free;
        linked = h.links;
        added = are_added w.program l.program w.offsets w.declared l.word h.links h.free;
        right = λ _. right l.program l.word told.1;
        pointing = λ _. pointing w.program l.program w.offsets w.declared l.word h.links (λ slot. (told.1 slot).holds);
        best = λ flow refuses. absurd (refuses told.0);
      }
  taken number l judged h (inr is) =
      let misled = subst (IsJudged (subject_of w l.program) l.word) is h.told in record {
        among = (number, h.few, h.is);
        free = h.free;
        linked = h.links;
        added = are_added w.program l.program w.offsets w.declared l.word h.links h.free;
        right = λ accepted. absurd (misled accepted.flow);
        pointing = λ accepted. absurd (misled accepted.flow);
        best = λ flow. absurd (misled flow);
      }

  -- the first that was refused, once all were tried
  by_refusal : (refused : Option Linked) (l : Linked) → IsTried w 4 refused → refused ≡ Some l → IsLinkedBy w l.word l.program
  by_refusal None l tried is = absurd (cc)
  by_refusal (Some m) l tried is =
      let same : m ≡ l = cc in
      let h : IsRefused w l = subst (IsRefused w) same tried.first in record {
        among = h.among;
        free = h.free;
        linked = h.linked;
        added = are_added w.program l.program w.offsets w.declared l.word h.linked h.free;
        right = λ accepted. absurd (h.refused accepted);
        pointing = λ accepted. absurd (h.refused accepted);
        best = λ flow refuses k lt. tried.failed k lt;
      }

  -- and a fault, if none was kept
  pub chosen : (refused : Option Linked) (result : Result Linked LinkFault) → IsTried w 4 refused → result ≡ ok_or refused NoWord
      → IfOk result (λ l. IsLinkedBy w l.word l.program)
  chosen None result tried is = rw is tt
  chosen (Some l) result tried is = rw is (by_refusal (Some l) l tried refl)

  -- ---- one more word that is not taken

  pub none_tried : IsTried w 0 None
  none_tried = record { failed = λ k lt. absurd (omega (arith, lt)); unshown = λ e k lt. absurd (omega (arith, lt)); first = tt }

  -- with which the program is accepted, but not shown to be right
  pub tried_unshown : (number : ℕ) (refused : Option Linked) (l : Linked) (judged : Judged) → IsTried w number refused → IsTry w number l judged → judged ≡ Unshown
      → IsTried w (number + 1) refused
  tried_unshown number refused l judged tried h is =
      let told = subst (IsJudged (subject_of w l.program) l.word) is h.told in
      let here : IsUnshown w (word_at number) = subst (IsUnshown w) h.is (l.program, h.links, told.0, told.1) in
      let fails : Fails w (word_at number) = subst (Fails w) h.is (l.program, h.links, λ _. told.1) in record {
        failed = below_more _ number tried.failed (λ _. fails);
        unshown = λ e. below_more _ number (tried.unshown e) (λ _. here);
        first = tried.first;
      }

  -- with which it is refused: the first is kept
  pub tried_refused : (number : ℕ) (before : Option Linked) (l : Linked) (judged : Judged) → IsTried w number before → IsTry w number l judged → judged ≡ Refused
      → IsTried w (number + 1) (or_else before (Some l))
  tried_refused number before l judged tried h is = kept before tried where
    refuses : IsAccepted (subject_of w l.program) → ⊥
    refuses accepted = subst (IsJudged (subject_of w l.program) l.word) is h.told accepted.accepted

    fails : Fails w (word_at number)
    fails = subst (Fails w) h.is (l.program, h.links, λ accepted. absurd (refuses accepted))

    kept : (o : Option Linked) → IsTried w number o → IsTried w (number + 1) (or_else o (Some l))
    kept (Some m) t = record {
      failed = below_more _ number t.failed (λ _. fails);
      unshown = λ e. absurd (cc);
      first = t.first;
    }
    kept None t = record {
      failed = below_more _ number t.failed (λ _. fails);
      unshown = λ e. absurd (cc);
      first = record { among = (number, h.few, h.is); free = h.free; linked = h.links; refused = refuses };
    }
