use Rattle.std.proofs.Common.{◌≡◌, ◌++◌, map, take}
use Rattle.ebpf_assembly.specs.Names.{words_text}
use Rattle.ebpf_assembly.proofs.plain.push_words.Given as goal

abbrev pub invariant-loop-word : goal.invariant-loop-word
invariant-loop-word l = l.text.items ≡ l.initial.text.items ++ words_text (map (λ w. w.now) (take l.word-index l.words))
