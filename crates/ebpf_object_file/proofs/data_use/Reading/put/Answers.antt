use Rattle.std.proofs.Common.{◌≡◌, ◌<◌, ◌∙◌, ap, sym, subst, refl, length, arith, true, Some, None, Option, is_some, slice_set}
use Rattle.std.proofs.lemmas.List.{get_or_read}
use Rattle.ebpf_object_file.specs.declared.outside.Target.{Target}
use Rattle.ebpf_object_file.specs.declared.data_use.DataUse.{DataUse}
use Rattle.ebpf_object_file.specs.Data.{is_wide, slot_of}
use Rattle.ebpf_object_file.specs.declared.fault.FileFault.TheVariants as fault
use Rattle.ebpf_object_file.specs.declared.object_fault.ObjectFault.TheVariants as object
use Rattle.ebpf_object_file.specs.DataFunction.{IsRefusalBy}
use Rattle.ebpf_object_file.proofs.Uses.{fine_wide, wide_from, wide_inside, none_at}
use Rattle.ebpf_object_file.proofs.data_use.Reading.put.Goals.{In-Ok}
use Rattle.ebpf_object_file.proofs.data_use.Reading.put.Goals as goal

wide : (c : In-Ok) → is_wide c.args.self.function c.args.relocation ≡ true
wide c = fine_wide c.args.self.functions.file.now c.args.self.functions.symbols.now c.args.self.function c.args.relocation c.in-Ok.ensures.0

slot_inside : (c : In-Ok) → slot_of c.args.self.function.place c.args.relocation < length c.args.uses.now.items
slot_inside c =
    let inside = wide_inside c.args.self.function c.args.relocation (wide c) in omega (arith, inside, c.requires.slots)

pub overflow_sub-slot : goal.overflow_sub-slot
overflow_sub-slot c = wide_from c.args.self.function c.args.relocation (wide (goal.at.overflow_sub-slot c).In-Ok)

pub index-requires : goal.index-requires
index-requires c = let inside = slot_inside (goal.at.index-requires c).In-Ok in omega (arith, inside, c.args.uses.now.ok.0)

pub index_mut-requires : goal.index_mut-requires
index_mut-requires c = let inside = slot_inside (goal.at.index_mut-requires c).In-Ok in omega (arith, inside, c.args.uses.now.ok.0)

pub returns-then-is_some-clause-refused : goal.returns-then-is_some-clause-refused
returns-then-is_some-clause-refused c =
    let uses = c.args.uses.now.items in
    let slot = slot_of c.args.self.function.place c.args.relocation in
    let here = get_or_read uses slot c.index.result.now (slot_inside (goal.at.returns-then-is_some-clause-refused c).In-Ok) c.index.ensures None in record {
      by = subst (λ (x : Option Target). IsRefusalBy c.args.self.functions c.args.self.function.place c.args.relocation x (object.File fault.SlotTwice))
          (sym c.in-Ok.ensures.0) refl;
      taken = λ fine. ap (λ (u : Option DataUse). is_some u) (sym here) ∙ sym c.is_some.ensures ∙ c.if-is_some.true;
    }

pub returns-clause-put : goal.returns-clause-put
returns-clause-put c =
    let uses = c.args.uses.now.items in
    let slot = slot_of c.args.self.function.place c.args.relocation in
    let inside = slot_inside (goal.at.returns-clause-put c).In-Ok in
    let here = get_or_read uses slot c.index.result.now inside c.index.ensures None in record {
      fine = c.in-Ok.ensures.0;
      inside = inside;
      free = none_at uses slot (ap (λ (u : Option DataUse). is_some u) (sym here) ∙ sym c.is_some.ensures ∙ c.if-is_some.false);
      set = ap (λ (u : DataUse). slice_set uses slot (Some u)) c.in-Ok.ensures.1;
    }
