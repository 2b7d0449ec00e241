use Rattle.std.proofs.Common.{◌<◌, List, All, suc, subst, arith}
use Rattle.ebpf_object_file.specs.declared.data_parts.Part.{Part}
use Rattle.ebpf_object_file.specs.Section.{sections_in}
use Rattle.ebpf_loader.proofs.sentence.write_parts.Goals as goal

pub write_part-requires-clause-section : goal.write_part-requires-clause-section
write_part-requires-clause-section c =
    let inside = subst (λ (x : List Part). All (λ (p : Part). p.section < sections_in c.args.file.now) x) c.in-Some.ensures.cases.0 c.requires.inside in
    inside 0 c.in-Some.first.now (omega (arith))

pub write_later_parts-requires : goal.write_later_parts-requires
write_later_parts-requires c =
    let inside = subst (λ (x : List Part). All (λ (p : Part). p.section < sections_in c.args.file.now) x) c.in-Some.ensures.cases.0 c.requires.inside in
    record { is_open = c.requires.is_open; inside = λ k d lt. inside (suc k) d (omega (arith, lt)) }
