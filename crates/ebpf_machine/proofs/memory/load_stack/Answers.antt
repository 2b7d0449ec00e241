use Rattle.std.proofs.Common.{◌≡◌, ℕ, pos, ◌+ℤ◌, Some, ap, sym, ◌∙◌, rules}
use Rattle.std.specs.Prelude.{nat_abs}
use Rattle.std.specs.Int.{w16, w64}
use Rattle.std.proofs.lemmas.Int.{to_z-of_z}
use Rattle.ebpf_state.specs.Stack.{bytes_in, place_of}
use Rattle.ebpf_machine.proofs.Instructions.Accesses.{load_placed, load_fine, load_is}
use Rattle.ebpf_machine.proofs.memory.load_stack.Goals.{After-stack_place}
use Rattle.ebpf_machine.proofs.memory.load_stack.Goals as goal

-- where the code looks
place_is : (c : After-stack_place) → c.stack_place.result ≡ nat_abs ((c.args.from +ℤ c.args.load.offset) +ℤ pos 512)
place_is c =
    let from = to_z-of_z w64 c.args.from c.ranges.from in
    let offset = to_z-of_z w16 c.args.load.offset (search rules) in
    let place = c.stack_place.ensures in
    cc

there : (c : After-stack_place) → place_of (c.args.from +ℤ c.args.load.offset) (bytes_in c.args.load.size) ≡ Some c.stack_place.result
there c =
    load_placed c.args.stack.now (bytes_in c.args.load.size) c.args.load.signed (c.args.from +ℤ c.args.load.offset) c.requires
    ∙ ap (λ (n : ℕ). Some n) (sym (place_is c))

pub load-requires-clause-loads : goal.load-requires-clause-loads
load-requires-clause-loads c =
    load_fine c.args.stack.now (bytes_in c.args.load.size) c.args.load.signed (c.args.from +ℤ c.args.load.offset) c.stack_place.result (there c) c.requires

pub returns : goal.returns
returns c =
    load_is c.args.stack.now (bytes_in c.args.load.size) c.args.load.signed (c.args.from +ℤ c.args.load.offset) c.stack_place.result c.load.result
    (there (goal.at.returns c).After-stack_place) c.load.ensures
