-- The labels that are kept, as names and slots.
use Rattle.std.specs.Prelude.{List, map}
use Rattle.ebpf_assembly.specs.declared.label.Label.{Label}
use Rattle.ebpf_assembly.specs.Names.{Named}

abbrev pub named_by_label : Label → Named
named_by_label l = record { name = l.name.now; slot = l.slot }

abbrev pub names_of : List Label → List Named
names_of labels = map named_by_label labels
