use Rattle.std.proofs.Common.{◌<◌, ℕ, length, sym, subst, arith}
use Rattle.ebpf_layout.specs.Writing.{HasPlace}
use Rattle.ebpf_layout.proofs.Written.{number_read, place_read}
use Rattle.ebpf_layout.proofs.writer.place_of.Goals as goal

pub returns-clause-has : goal.returns-clause-has
returns-clause-has c =
    let marks = c.args.order.now.marks.items in
    let places = c.args.writer.now.places.items in
    let same = place_read marks places c.args.slot c.requires.0 c.index.result.now c.in-Done.number c.index-in-Done.result.now c.requires.1 c.index.ensures
    c.in-Done.is c.index-in-Done.ensures in
    subst (HasPlace marks places c.args.slot) (sym same) c.requires.1

pub returns-clause-inside : goal.returns-clause-inside
returns-clause-inside c =
    let same = place_read c.args.order.now.marks.items c.args.writer.now.places.items c.args.slot c.requires.0 c.index.result.now c.in-Done.number
    c.index-in-Done.result.now c.requires.1 c.index.ensures c.in-Done.is c.index-in-Done.ensures in
    subst (λ (n : ℕ). n < length c.args.writer.now.code.items) (sym same) c.requires.2

pub index-requires-in-Done : goal.index-requires-in-Done
index-requires-in-Done c =
    omega (
      arith,
      c.args.writer.now.places.ok.0,
      number_read c.args.order.now.marks.items c.args.writer.now.places.items c.args.slot c.requires.0
          c.index.result.now c.in-Done.number c.requires.1 c.index.ensures c.in-Done.is,
    )
