use Rattle.std.proofs.Common.{◌/◌, ◌<◌, ℕ, Option, None, length, ap, sym, subst, ◌∙◌}
use Rattle.std.proofs.lemmas.List.{get_or_read}
use Rattle.ebpf_object_file.specs.declared.symbol.Symbol.{Symbol}
use Rattle.ebpf_object_file.specs.File.{name_limit}
use Rattle.ebpf_object_file.specs.Text.{text_at}
use Rattle.ebpf_object_file.specs.DataNames.{name_by}
use Rattle.ebpf_object_file.proofs.WholeSymbols.{whole_inside}
use Rattle.ebpf_object_file.proofs.data_names.DataNames.name.Goals as goal

pub symbol_of-at-requires : goal.symbol_of-at-requires
symbol_of-at-requires c =
    let n = c.args.self.now in
    let are = c.requires.names.whole in
    let i = c.args.part.section in
    let lt : i < length n.whole.items = subst (λ (x : ℕ). i < x) (sym are.all) c.requires.section in
    whole_inside n.functions.file.now n.functions.symbols.now (length n.functions.symbols.now / 24) n.whole.items i c.in-Some.number are c.requires.section
    (sym (get_or_read n.whole.items i c.index.result.now lt c.index.ensures None) ∙ c.in-Some.is)

pub returns-in-None : goal.returns-in-None
returns-in-None c =
    let n = c.args.self.now in
    let are = c.requires.names.whole in
    let i = c.args.part.section in
    let lt : i < length n.whole.items = subst (λ (x : ℕ). i < x) (sym are.all) c.requires.section in
    let here = sym (get_or_read n.whole.items i c.index.result.now lt c.index.ensures None) ∙ c.in-None.is in
    c.name.ensures ∙ ap (λ (k : Option ℕ). name_by n.functions i k) (sym here ∙ are.each i c.requires.section)

pub returns-in-Some : goal.returns-in-Some
returns-in-Some c =
    let n = c.args.self.now in
    let are = c.requires.names.whole in
    let i = c.args.part.section in
    let lt : i < length n.whole.items = subst (λ (x : ℕ). i < x) (sym are.all) c.requires.section in
    let here = sym (get_or_read n.whole.items i c.index.result.now lt c.index.ensures None) ∙ c.in-Some.is in
    c.text_at.ensures ∙ ap (λ (s : Symbol). text_at n.functions.strings.now s.name name_limit) c.symbol_of-at.ensures
    ∙ ap (λ (k : Option ℕ). name_by n.functions i k) (sym here ∙ are.each i c.requires.section)
