use Rattle.std.proofs.Common.{◌≡◌, ◌+◌, ◌/◌, ℕ, false, length, Option, Vec, Global, sym, subst, ◌∙◌, arith}
use Rattle.ebpf_object_file.specs.declared.data_use.DataUse.{DataUse}
use Rattle.ebpf_object_file.specs.declared.relocation.Relocation.{Relocation}
use Rattle.ebpf_object_file.specs.Relocation.{reaches, relocation_of}
use Rattle.ebpf_object_file.specs.Reading.{ArePut}
use Rattle.ebpf_object_file.proofs.Uses.{none_put, put_passed, put_more, put_refused}
use Rattle.ebpf_object_file.proofs.data_use.Reading.put_all.Goals.{then-reaches+in-Ok, else-reaches}
use Rattle.ebpf_object_file.proofs.data_use.Reading.put_all.Goals as goal

pub loop-number-init : goal.loop-number-init
loop-number-init c =
    none_put c.args.self.functions.file.now c.args.self.functions.symbols.now c.args.self.function c.args.table.now c.args.uses.now.items c.requires.slots
    c.requires.empty

pub loop-number-preserved : goal.loop-number-preserved
loop-number-preserved c =
    let file = c.args.self.functions.file.now in
    let symbols = c.args.self.functions.symbols.now in
    let f = c.args.self.function in
    let table = c.args.table.now in
    let n = c.loop-number.number in
    let r = c.relocation_of-relocation.result in
    elim c.if-reaches.branch [
      | then-reaches+in-Ok w ↦
          let is = w.in-Ok.ensures.put in
          subst (λ (v : Vec (Option DataUse) Global). ArePut file symbols f table (n + 1) v.items) (sym w.uses-is)
          (put_more file symbols f table n r c.loop-number.uses.items w.put.new.uses.items c.relocation_of-relocation.ensures
          (sym c.reaches.ensures ∙ w.if-reaches.true) is.fine is.inside is.free is.set c.loop-number.invariant)
      | else-reaches w ↦
          let away : reaches f.place.from f.place.size (relocation_of table n) ≡ false = subst (λ (x : Relocation). reaches f.place.from f.place.size x ≡ false)
          c.relocation_of-relocation.ensures (sym c.reaches.ensures ∙ w.if-reaches.false) in
          subst (λ (v : Vec (Option DataUse) Global). ArePut file symbols f table (n + 1) v.items) (sym w.uses-is)
          (put_passed file symbols f table n c.loop-number.uses.items away c.loop-number.invariant)
    ]

pub returns-in-Err-clause-refused : goal.returns-in-Err-clause-refused
returns-in-Err-clause-refused c =
    put_refused c.args.self.functions c.args.self.function c.args.table.now c.loop-number.number c.relocation_of-relocation.result c.loop-number.uses.items
    c.in-Err.fault c.loop-number-test.true c.relocation_of-relocation.ensures (sym c.reaches.ensures ∙ c.if-reaches.true) c.in-Err.ensures.refused
    c.loop-number.invariant

pub returns-clause-put : goal.returns-clause-put
returns-clause-put c =
    let all : c.loop-number.number ≡ length c.args.table.now / 16 = omega (arith, c.loop-number-test.false, c.loop-number.auto.number-end) in
    subst (λ (n : ℕ). ArePut c.args.self.functions.file.now c.args.self.functions.symbols.now c.args.self.function c.args.table.now n c.loop-number.uses.items)
    all c.loop-number.invariant
