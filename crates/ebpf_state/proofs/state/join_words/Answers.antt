use Rattle.std.proofs.Common.{◌≡◌, ◌∙◌, ◌++◌, ℕ, List, length, drop, refl, arith, ap, length-append}
use Rattle.std.specs.Prelude.{replicate}
use Rattle.ebpf_state.specs.Words.{joined_word}
use Rattle.ebpf_state.specs.declared.word.Word.{Word}
use Rattle.ebpf_state.specs.declared.word.Word.TheVariants.{Bytes}
use Rattle.ebpf_state.specs.States.{joined_list}
use Rattle.ebpf_state.proofs.Stacks.{all_words-joined}
use Rattle.ebpf_state.proofs.state.join_words.Goals as goal

pub returns-clause-value : goal.returns-clause-value
returns-clause-value c =
    let below = c.saturating_sub-below.result in
    let beyond = c.saturating_sub-beyond.result in
    let low : c.fill.new.self ≡ replicate below (Bytes 0) =
    c.fill.ensures.after (λ y e. e) ∙ ap (λ (n : ℕ). replicate n (Bytes 0)) c.split_at_mut-low.ensures.front_len in
    let high : c.join_each.new.here ≡ joined_list joined_word (drop below c.args.left.now) (drop beyond c.args.right.now) =
    c.join_each.ensures.value ∙ rw (c.split_at_mut-low.ensures.back, c.split_at.ensures.back) refl in
    let whole : length (c.fill.new.self ++ c.join_each.new.here) ≡ length c.args.left.now =
    length-append c.fill.new.self c.join_each.new.here ∙ omega (arith, c.fill.ensures.len, c.join_each.ensures.len, c.split_at_mut-low.ensures.front_len, c.split_at_mut-low.ensures.back_len) in
    all_words-joined c.args.left.now c.args.right.now (c.fill.new.self ++ c.join_each.new.here) below beyond c.requires.few_left c.requires.few_right c.saturating_sub-below.ensures c.saturating_sub-beyond.ensures whole
    (ap (λ (ws : List Word). ws ++ c.join_each.new.here) low ∙ ap (λ (ws : List Word). replicate below (Bytes 0) ++ ws) high)
