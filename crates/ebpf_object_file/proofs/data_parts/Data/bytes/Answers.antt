use Rattle.std.proofs.Common.{◌≡◌, ◌<◌, ◌++◌, ℕ, List, length, take, sym, subst, ◌∙◌, ap, arith}
use Rattle.std.specs.List.{flat_map}
use Rattle.ebpf_object_file.specs.declared.data_parts.Part.{Part}
use Rattle.ebpf_object_file.specs.Section.{bytes_of}
use Rattle.ebpf_object_file.specs.DataParts.{part_at}
use Rattle.ebpf_object_file.proofs.Layings.{bytes_more}
use Rattle.std.proofs.Math.Seq.{take-length}
use Rattle.ebpf_object_file.proofs.data_parts.Data.bytes.Goals as goal

pub loop-part-preserved : goal.loop-part-preserved
loop-part-preserved c =
    let file = c.args.file.now in
    let parts = c.args.self.now.parts.items in
    let k = c.loop-part.part-index in
    let items = c.deref-part-items.ensures.value in
    let lt : k < length parts = subst (λ (x : List Part). k < length x) items c.loop-part-test.true in
    c.in_ok-extend_from_slice.ensures.items ∙ ap (λ (b : List ℕ). b ++ c.bytes_of.result.now) c.loop-part.invariant
    ∙ ap (λ (b : List ℕ). flat_map (λ (p : Part). bytes_of file p.section) (take k parts) ++ b)
    (c.bytes_of.ensures ∙ ap (λ (x : List Part). bytes_of file (part_at x k).section) items) ∙ sym (bytes_more file parts k lt)

pub returns : goal.returns
returns c =
    let parts = c.args.self.now.parts.items in
    let k = c.loop-part.part-index in
    let all : k ≡ length c.deref-part-items.result.now = omega (arith, c.loop-part-test.false, c.loop-part.auto.part-index-end) in
    let bytes = λ (x : List Part). flat_map (λ (p : Part). bytes_of c.args.file.now p.section) x in
    c.loop-part.invariant
    ∙ ap bytes (ap (λ (x : ℕ). take x parts) (all ∙ ap (λ (x : List Part). length x) c.deref-part-items.ensures.value) ∙ take-length parts)
