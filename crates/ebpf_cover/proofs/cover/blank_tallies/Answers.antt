use Rattle.std.proofs.Common.{◌≡◌, ℕ, ◌+◌, ◌++◌, ◌∷◌, [], List, Some, length, refl, sym, ap, ◌∙◌, subst}
use Rattle.std.specs.Prelude.{slice_get}
use Rattle.std.proofs.lemmas.List.{length_push}
use Rattle.std.proofs.lemmas.Option.{slice_get_read}
use Rattle.ebpf_cover.specs.declared.tally.Tally.{Tally}
use Rattle.ebpf_cover.specs.Stretches.{IsTally, begun_at, taken_so_far}
use Rattle.ebpf_cover.specs.Tallies.{AreBlank, Each}
use Rattle.ebpf_cover.proofs.Summing.{each_more}
use Rattle.ebpf_cover.proofs.cover.blank_tallies.Goals as goal

pub made-preserved : goal.made-preserved
made-preserved c =
    let subjects = c.args.accepted.now in
    let was = c.made.tallies.items in
    let s = c.index-accepted-program.result in
    let t = c.in_ok-none.field-0 in
    let pushed : c.push.new.self.items ≡ was ++ t ∷ [] = c.in_ok-push.ensures.items in
    let here : slice_get subjects c.made.program ≡ Some s = slice_get_read subjects (length subjects) c.made.program s refl c.made-test.true c.index-accepted-program.is in record {
      long = ap length pushed ∙ length_push was t ∙ ap (λ n. n + 1) c.made.invariant.long;
      each = subst (λ (ts : List Tally). Each (λ program u v. IsTally u.program v) subjects ts) (sym pushed)
          (each_more (λ program u v. IsTally u.program v) subjects was s t c.made.program c.made.invariant.long here c.in_ok-none.ensures.tally c.made.invariant.each);
      blank = subst (λ (ts : List Tally). AreBlank subjects ts) (sym pushed)
          (each_more (λ program u v. (slot : ℕ) → (begun_at v slot ≡ 0) × (taken_so_far v slot ≡ 0)) subjects was s t c.made.program c.made.invariant.long here
          (λ slot. (c.in_ok-none.ensures.begun slot, c.in_ok-none.ensures.taken slot)) c.made.invariant.blank);
    }
