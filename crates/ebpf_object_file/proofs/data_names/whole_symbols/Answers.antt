use Rattle.std.proofs.Common.{◌≡◌, ◌+◌, ◌/◌, ℕ, Vec, Global, List, Option, None, length, slice_index_or, ap, sym, subst, ◌∙◌, arith, rules}
use Rattle.std.proofs.lemmas.List.{length-replicate}
use Rattle.ebpf_object_file.specs.declared.header.Header.{Header}
use Rattle.ebpf_object_file.specs.DataNames.{AreWholeBelow}
use Rattle.ebpf_object_file.proofs.Fresh.{same_at}
use Rattle.ebpf_object_file.proofs.Names.{whole_section}
use Rattle.ebpf_object_file.proofs.WholeSymbols.{none_whole, same_whole, one_whole}
use Rattle.ebpf_object_file.proofs.data_names.whole_symbols.Goals.{then-is_whole, else-is_whole}
use Rattle.ebpf_object_file.proofs.data_names.whole_symbols.Goals as goal

pub loop-number-init : goal.loop-number-init
loop-number-init c =
    let f = c.args.functions in
    let fresh = c.in_ok-whole.ensures.items_if_clones_equal (λ y e. search rules) in
    none_whole f.file.now f.symbols.now c.in_ok-whole.whole.items
    (ap length fresh ∙ length-replicate {A = Option ℕ} f.header.sections None ∙ ap (λ (h : Header). h.sections) c.requires.header)
    (λ i. ap (λ (whole : List (Option ℕ)). slice_index_or whole i None) fresh ∙ same_at {A = Option ℕ} f.header.sections i None)

pub loop-number-preserved : goal.loop-number-preserved
loop-number-preserved c =
    let f = c.args.functions in
    let n = c.loop-number.number in
    let s = c.symbol_of-symbol.result in
    let whole = c.loop-number.whole.items in
    elim c.if-is_whole.branch [
      | then-is_whole w ↦
          let has = sym c.is_whole.ensures ∙ w.if-is_whole.true in
          subst (λ (x : Vec (Option ℕ) Global). AreWholeBelow f.file.now f.symbols.now (n + 1) x.items) (sym w.whole-is)
          (one_whole f.file.now f.symbols.now n s whole c.symbol_of-symbol.ensures has (whole_section f.file.now s has) c.loop-number.invariant)
      | else-is_whole w ↦
          subst (λ (x : Vec (Option ℕ) Global). AreWholeBelow f.file.now f.symbols.now (n + 1) x.items) (sym w.whole-is)
          (same_whole f.file.now f.symbols.now n s whole c.symbol_of-symbol.ensures (sym c.is_whole.ensures ∙ w.if-is_whole.false) c.loop-number.invariant)
    ]

pub returns : goal.returns
returns c =
    let f = c.args.functions in
    let all : c.loop-number.number ≡ length f.symbols.now / 24 = omega (arith, c.loop-number-test.false, c.loop-number.auto.number-end) in
    subst (λ (n : ℕ). AreWholeBelow f.file.now f.symbols.now n c.loop-number.whole.items) all c.loop-number.invariant
