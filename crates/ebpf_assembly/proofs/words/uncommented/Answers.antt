use Rattle.std.proofs.Common.{rules, tests, ◌∙◌, sym}
use Rattle.std.proofs.lemmas.Iterator.{YieldsList-from_slice}
use Rattle.std.proofs.lemmas.Iterator.Search.{position_from_yields_List}
use Rattle.ebpf_assembly.proofs.LineWords.{is_semicolon, cut, whole_line}
use Rattle.ebpf_assembly.proofs.words.uncommented.Goals as goal

pub returns-in-Some : goal.returns-in-Some
returns-in-Some c =
    cut c.args.line.now c.in-Some.end (sym c.in-Some.is
    ∙ position_from_yields_List is_semicolon _ _ c.position.result c.position.ensures.ran (YieldsList-from_slice c.args.line.now c.iter.ensures.rest)
    (λ x b q k. search (rules, tests)))

pub returns-in-None : goal.returns-in-None
returns-in-None c =
    whole_line c.args.line.now (sym c.in-None.is
    ∙ position_from_yields_List is_semicolon _ _ c.position.result c.position.ensures.ran (YieldsList-from_slice c.args.line.now c.iter.ensures.rest)
    (λ x b q k. search (rules, tests)))
