use Rattle.std.proofs.Common.{◌≡◌, take}
use Rattle.std.specs.List.{flat_map}
use Rattle.ebpf_object_file.specs.declared.data_parts.Part.{Part}
use Rattle.ebpf_object_file.specs.Section.{bytes_of}
use Rattle.ebpf_object_file.proofs.data_parts.Data.bytes.Given as goal

abbrev pub invariant-loop-part : goal.invariant-loop-part
invariant-loop-part l = l.bytes.items ≡ flat_map (λ (p : Part). bytes_of l.file p.section) (take l.part-index l.self.parts.items)
