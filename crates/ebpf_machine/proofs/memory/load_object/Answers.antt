use Rattle.std.proofs.Common.{◌≡◌, ℕ, ℤ, ◌+ℤ◌, length, Ok, ◌∙◌, subst}
use Rattle.std.specs.Int.{w64}
use Rattle.std.proofs.lemmas.Int.{to_z-of_z}
use Rattle.ebpf_state.specs.Stack.{bytes_in}
use Rattle.ebpf_machine.specs.declared.value.Value.TheVariants.{Number}
use Rattle.ebpf_machine.specs.Values.{ObjectBounds}
use Rattle.ebpf_machine.specs.Cells.{place_in, read_at}
use Rattle.ebpf_machine.specs.Flows.{IsResult}
use Rattle.ebpf_machine.proofs.Instructions.Places.{read_there, read_held}
use Rattle.ebpf_machine.proofs.memory.load_object.Goals as goal

pub place_of-place-requires : goal.place_of-place-requires
place_of-place-requires g c = read_held _ _ _ _ _ _ c.requires.loads

pub load_bytes-requires : goal.load_bytes-requires
load_bytes-requires g c =
    let from = to_z-of_z w64 c.args.from c.ranges.from in (
      ObjectBounds,
      rw from (subst IsResult
          (read_there _ _ c.place_of-place.result c.args.call c.index-held-place.result c.bytes.result.now (c.args.from +ℤ c.args.load.offset)
          (bytes_in c.args.load.size) c.args.load.signed c.place_of-place.ensures.inside
          (c.place_of-place.ensures.value _) c.place_of-place.ensures.first c.bytes.ensures) c.requires.loads),
    )

pub returns : goal.returns
returns g c =
    let from = to_z-of_z w64 c.args.from c.ranges.from in
    read_there _ _ c.place_of-place.result c.args.call c.index-held-place.result c.bytes.result.now (c.args.from +ℤ c.args.load.offset)
    (bytes_in c.args.load.size) c.args.load.signed c.place_of-place.ensures.inside
    (c.place_of-place.ensures.value _) c.place_of-place.ensures.first c.bytes.ensures
    ∙ subst (λ (k : ℤ). read_at {N = ℕ} ObjectBounds (place_in (length c.bytes.result.now) (k +ℤ c.args.load.offset) (bytes_in c.args.load.size))
    (bytes_in c.args.load.size) c.args.load.signed c.bytes.result.now ≡ Ok (Number c.load_bytes.result)) from (c.load_bytes.ensures ObjectBounds)
