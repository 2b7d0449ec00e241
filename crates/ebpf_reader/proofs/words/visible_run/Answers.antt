use Rattle.std.proofs.Common.{◌≡◌, ◌<◌, ◌≤◌, ◌+◌, ℕ, List, leb, length, map, not, arith, sym, ap, ◌∙◌, w8}
use Rattle.std.proofs.lemmas.Simd.{length-chunk, bitmask_splat, trailing_mask_l, run_in_chunk_le, run_in_chunk_fails, none_from_empty_mask}
use Rattle.std.specs.List.{prefix_len}
use Rattle.std.specs.Simd.Lanes.{mask_l}
use lib.Lanes.{chunk}
use lib.Count.{count_trailing_zeros}
use Rattle.ebpf_reader.proofs.words.visible_run.Goals as goal

abbrev others_of : List ℕ → ℕ → ℕ
others_of text at = mask_l (map (λ x. leb x 32) (chunk at 16 text))

-- the lowest bit says how many bytes are before the first that is at most a space
counted : (text : List ℕ) (at others : ℕ) → at + 16 ≤ length text → others ≡ others_of text at → 0 < others
    → count_trailing_zeros 64 others ≡ prefix_len (λ x. not (leb x 32)) (chunk at 16 text)
counted text at others room is some =
    ap (count_trailing_zeros 64) is ∙ trailing_mask_l (λ x. leb x 32) 64 (chunk at 16 text) (omega (arith, length-chunk at 16 text room)) (omega (arith, is, some))

pub returns-then-others-eq0-clause-visible : goal.returns-then-others-eq0-clause-visible
returns-then-others-eq0-clause-visible c =
    let text = c.args.text.now in
    let at = c.args.at in
    let is = bitmask_splat w8 leb (chunk at 16 text) 16 32 (length-chunk at 16 text c.requires) (omega arith) in
    none_from_empty_mask (λ x. leb x 32) text at 16 0 c.requires (sym is ∙ c.if-others-eq0.true)

pub returns-else-others-eq0 : goal.returns-else-others-eq0
returns-else-others-eq0 c =
    let text = c.args.text.now in
    let at = c.args.at in
    let is = bitmask_splat w8 leb (chunk at 16 text) 16 32 (length-chunk at 16 text c.requires) (omega arith) in
    let run = counted text at _ c.requires is (omega (arith, c.if-others-eq0.false)) in
    record {
      within = run_in_chunk_le (λ x. leb x 32) text at 16 _ 0 c.requires run;
      visible = run_in_chunk_fails (λ x. leb x 32) text at 16 _ 0 c.requires run;
    }
