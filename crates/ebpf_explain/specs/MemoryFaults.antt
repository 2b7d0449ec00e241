-- What a load or a store does that it may not, as text.
use Rattle.std.specs.Prelude.{ℕ, List, ◌++◌, codes, Option, Some, None, option_map, slice_get}
use Rattle.ebpf_state.specs.declared.kinds.KindRow.{KindRow}
use Rattle.ebpf_state.specs.declared.value.Abs.{Abs}
use Rattle.ebpf_state.specs.declared.value.Abs.TheVariants.{Ob}
use Rattle.ebpf_state.specs.References.{kind_held}
use Rattle.ebpf_state.specs.StateView.{StateView}
use Rattle.ebpf_state.specs.States.{register_of}
use Rattle.ebpf_text.specs.Operands.{place_text}
use Rattle.ebpf_explain.specs.declared.accesses.Access.{Access}
use Rattle.ebpf_explain.specs.Accesses.{bytes_text, reach_text, access_text}

-- an access, and what is wrong with it
abbrev pub access_with : Access → StateView → List ℕ → List ℕ
access_with a s fault = access_text a s ++ fault

abbrev pub size_text : Option ℕ → List ℕ
size_text None = codes "fewer bytes"
size_text (Some size) = bytes_text size

-- an access, and how many bytes there are
abbrev pub outside : Access → StateView → List ℕ → Option ℕ → List ℕ
outside a s fault size = access_text a s ++ (fault ++ size_text size)

-- how many bytes an object of a kind has, where there is a row for it
abbrev pub size_of_kind : List KindRow → Option ℕ → Option ℕ
size_of_kind rows None = None
size_of_kind rows (Some kind) = option_map (λ row. row.size) (slice_get rows kind)

-- how many bytes the object has that a value points to
abbrev pub size_behind : List KindRow → StateView → Abs → Option ℕ
size_behind rows s (Ob call low high) = size_of_kind rows (kind_held call s)
size_behind rows s _ = None

-- an access, and how many bytes the object has
abbrev pub outside_object : Access → StateView → List ℕ → List KindRow → List ℕ
outside_object a s fault rows = outside a s fault (size_behind rows s (register_of s a.base))

-- the context is read alone
abbrev pub context_written : Access → List ℕ
context_written a = codes "writes to the context at " ++ place_text a.base a.offset

abbrev pub number_as_address : Access → StateView → List ℕ
number_as_address a s = codes "accesses memory at " ++ (reach_text a s ++ codes ", which is a number")
