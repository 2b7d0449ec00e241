use Rattle.std.proofs.Common.{arith, ◌<◌, length, ap, ◌∙◌}
use Rattle.std.proofs.lemmas.List.{get_or_read}
use Rattle.std.proofs.lemmas.List.Elements.{All-set}
use Rattle.ebpf_state.specs.References.{forgotten_word}
use Rattle.ebpf_state.specs.Words.{IsProperWord}
use Rattle.ebpf_state.specs.declared.word.Word.TheVariants.{Spill}
use Rattle.ebpf_state.specs.declared.value.Abs.TheVariants.{Unset}
use Rattle.ebpf_state.proofs.JoinLists.{changing_none, changing_more, changing_all}
use Rattle.ebpf_state.proofs.state.forget_words.Goals as goal

pub loop-i-init : goal.loop-i-init
loop-i-init c = (changing_none (forgotten_word c.args.call) (Spill Unset) c.args.words.now.items, c.requires)

pub loop-i-preserved : goal.loop-i-preserved
loop-i-preserved c =
    let inside : c.loop-i.i < length c.loop-i.words.items = omega (arith, c.loop-i.invariant.0.whole) in
    let read = get_or_read c.loop-i.words.items c.loop-i.i _ inside c.index.ensures (Spill Unset) in (
      changing_more (forgotten_word c.args.call) (Spill Unset) c.args.words.now.items c.loop-i.words.items c.loop-i.i
          c.forget.result inside c.loop-i.invariant.0 (c.forget.ensures.value ∙ ap (forgotten_word c.args.call) read),
      All-set
          IsProperWord c.loop-i.words.items c.loop-i.i _ c.forget.ensures.proper c.loop-i.invariant.1,
    )

pub returns-clause-value : goal.returns-clause-value
returns-clause-value c = changing_all (forgotten_word c.args.call) (Spill Unset) c.args.words.now.items c.loop-i.words.items c.loop-i.i (omega (arith, c.loop-i.invariant.0.whole)) c.loop-i.invariant.0
