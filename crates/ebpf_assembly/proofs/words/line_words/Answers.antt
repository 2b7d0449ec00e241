use Rattle.std.proofs.Common.{rules, tests, sym, ap, List, ℕ}
use Rattle.std.specs.Prelude.{filter}
use Rattle.std.specs.List.{slice_split}
use Rattle.std.proofs.lemmas.Iterator.Consumers.{map_from_collect, YieldsList-from_filter, YieldsList-at}
use Rattle.std.proofs.lemmas.Iterator.Splits.{YieldsList-from_slice_split}
use Rattle.ebpf_assembly.specs.Lines.{is_gap, is_word}
use Rattle.ebpf_assembly.proofs.words.line_words.Goals as goal

pub returns : goal.returns
returns c =
    rw (ap (λ (line : List ℕ). filter is_word (slice_split is_gap line)) (sym c.uncommented.ensures))
    (map_from_collect _ c.collect.ensures.ran
    (YieldsList-from_filter _ _ (YieldsList-at c.filter.ensures.source
    (YieldsList-from_slice_split _ _ c.uncommented.result.now c.split.ensures.rest c.split.ensures.done c.split.ensures.closure
    (λ x r q k. search (rules, tests)))) c.filter.ensures.closure (λ x r q k. search (rules, tests))))
