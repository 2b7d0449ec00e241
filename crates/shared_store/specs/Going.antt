-- How a worker's tools go from one state to a later one, by what its runs were answered.
use Rattle.std.specs.Prelude.{◌≡◌, ◌+◌, ℕ, List, [], ◌++◌}
use Rattle.std.proofs.Common.{cond, inl, inr, sym, add-zero, arith}
use Rattle.std.proofs.lemmas.List.Sums.{sum_by-append}
use Rattle.ebpf_machine.specs.declared.report.Reply.{Reply}
use Rattle.ebpf_machine.specs.Whole.{granted, refused, fetched, is_granted, is_null, is_fetched}
use Rattle.shared_store.specs.Stock.{CountsOn}
use Rattle.shared_store.specs.Tools.{HaveAnswered, ToolsView, all_fetched, all_granted, all_refused}

-- as these replies say
abbrev pub GoesBy : ToolsView → List Reply → ToolsView → Type 0
GoesBy old told new = HaveAnswered old new (granted told) (refused told) (fetched told)

-- a count that goes on by one number and then by another goes on by both
pub counts_on : (a b c x y z : ℕ) → CountsOn a b x → CountsOn b c y → z ≡ x + y → CountsOn a c z
counts_on a b c x y z first second sum = (
  omega (arith, first.0, second.0),
  elim second.1 [
    | inl on ↦ elim first.1 [ inl before ↦ inl (omega (arith, on, before, sum)) | inr end ↦ inr (omega (arith, end, second.0)) ]
    | inr end ↦ inr end
  ],
)

-- ---- the laws of `goes`

pub none_answered : (t : ToolsView) → GoesBy t [] t
none_answered t = record {
  of = λ c are. are;
  granted_are = sym (add-zero (all_granted t));
  refused_are = (omega arith, inl (sym (add-zero (all_refused t))));
  fetched_are = sym (add-zero (all_fetched t));
}

pub answered_on : (s t u : ToolsView) (told more : List Reply) → GoesBy s told t → GoesBy t more u → GoesBy s (told ++ more) u
answered_on s t u told more first then = record {
  of = λ c are. then.of c (first.of c are);
  granted_are = omega (arith, first.granted_are, then.granted_are, sum_by-append (λ (r : Reply). cond (is_granted r) 1 0) told more);
  refused_are = counts_on _ _ _ _ _ _ first.refused_are then.refused_are (sum_by-append (λ (r : Reply). cond (is_null r) 1 0) told more);
  fetched_are = omega (arith, first.fetched_are, then.fetched_are, sum_by-append (λ (r : Reply). cond (is_fetched r) 1 0) told more);
}
