use Rattle.std.proofs.Common.{◌≡◌, ◌<◌, ℕ, ℤ, List, length, Option, Some, None, slice_index_or, slice_set, sym, ◌∙◌, refl, ap, subst, arith, rules}
use Rattle.std.proofs.lemmas.List.{length-replicate, get_or_read}
use Rattle.std.specs.Vec.{with_item}
use Rattle.std.specs.Int.{w64, cast_signed, cast_unsigned}
use Rattle.std.specs.Prelude.{FitsSigned}
use Rattle.std.proofs.lemmas.Int.{to_z-of_z}
use Rattle.ebpf_object_file.specs.declared.header.Header.{Header}
use Rattle.ebpf_object_file.specs.Section.{sections_in}
use Rattle.ebpf_object_file.specs.DataParts.{used_sections}
use Rattle.ebpf_object_file.proofs.Fresh.{same_at}
use Rattle.ebpf_object_file.proofs.Layings.{none_laid, laid_none, laid_more, none_used, parts_near}
use Rattle.ebpf_object_file.proofs.data_function.DataFunction.data.Goals.{in-Some+in_ok-from, in_default}
use Rattle.ebpf_object_file.proofs.data_function.DataFunction.data.Goals as goal

pub loop-slot-init : goal.loop-slot-init
loop-slot-init c =
    let begins = c.in_ok-vec.ensures.items_if_clones_equal (λ y e. search rules) in
    let offsets = c.in_ok-offsets.ensures.items_if_clones_equal (λ y e. search rules) in
    let count : c.header_of-header.result.sections ≡ sections_in c.args.file.now = ap (λ (h : Header). h.sections) c.header_of-header.ensures in
    none_laid c.args.file.now c.args.self.now.uses.items (record { parts = c.new.result; size = 0; begins = c.in_ok-vec.field-0 }) c.in_ok-offsets.offsets.items
    c.new.ensures.items refl (ap length begins ∙ length-replicate {A = Option ℕ} c.header_of-header.result.sections None ∙ count)
    (λ i. ap (λ (x : List (Option ℕ)). slice_index_or x i None) begins ∙ same_at {A = Option ℕ} c.header_of-header.result.sections i None)
    (ap length offsets ∙ length-replicate {A = Option ℤ} c.len.result None ∙ omega (arith, c.len.ensures, c.args.self.now.uses.ok.0))
    (λ slot. ap (λ (x : List (Option ℤ)). slice_index_or x slot None) offsets ∙ same_at {A = Option ℤ} c.len.result slot None)

pub place-requires-clause-section : goal.place-requires-clause-section
place-requires-clause-section c =
    c.requires.inside c.loop-slot.slot c.in-Some.used
    (sym (get_or_read c.args.self.now.uses.items c.loop-slot.slot c.index.result.now
    (omega (arith, c.loop-slot-test.true, c.len-slot-end.ensures, c.args.self.now.uses.ok.0)) c.index.ensures None) ∙ c.in-Some.is)

pub loop-slot-preserved : goal.loop-slot-preserved
loop-slot-preserved c =
    let uses = c.args.self.now.uses.items in
    let n = c.loop-slot.slot in
    let inside : n < length uses = omega (arith, c.loop-slot-test.true, c.len-slot-end.ensures, c.args.self.now.uses.ok.0) in
    let here = get_or_read uses n c.index.result.now inside c.index.ensures None in
    elim c.match-index.branch [
      | in-Some+in_ok-from w ↦
          let used = sym here ∙ w.in-Some.is in
          let fits : FitsSigned w64 w.offset_in.result = search rules in
          rw (w.laying-is, w.offsets-is) (laid_more c.args.file.now uses n w.in-Some.used c.loop-slot.laying w.place.new.self w.in_ok-from.from
          c.loop-slot.offsets.items (with_item c.loop-slot.offsets n (Some (cast_signed w64 (cast_unsigned w64 w.offset_in.result)))).items used inside (c.requires.inside n w.in-Some.used used) w.in_ok-from.ensures.placed
          (ap (λ (z : ℤ). slice_set c.loop-slot.offsets.items n (Some z)) (to_z-of_z w64 w.offset_in.result fits ∙ w.offset_in.ensures)) c.loop-slot.invariant)
      | in_default w ↦
          rw (w.laying-is, w.offsets-is) (laid_none c.args.file.now uses n c.loop-slot.laying c.loop-slot.offsets.items
          (sym here ∙ none_used c.index.result.now w.in_default.not-Some) c.loop-slot.invariant)
    ]

pub returns-clause-laid : goal.returns-clause-laid
returns-clause-laid c =
    let uses = c.args.self.now.uses.items in
    let i = c.loop-slot.invariant in
    let all : c.loop-slot.slot ≡ length uses =
    omega (arith, c.loop-slot-test.false, c.loop-slot.auto.slot-end, c.len-slot-end.ensures, c.args.self.now.uses.ok.0) in record {
      sections = i.sections ∙ ap (used_sections uses) all;
      whole = i.laying.whole;
      size = i.laying.size;
      slots = i.slots;
      offsets = λ slot lt. i.laid slot (subst (λ (x : ℕ). slot < x) (sym all) lt);
    }

pub returns-clause-near : goal.returns-clause-near
returns-clause-near c = parts_near c.args.file.now c.loop-slot.laying c.loop-slot.invariant.laying
