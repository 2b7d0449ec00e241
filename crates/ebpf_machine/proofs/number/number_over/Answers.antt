use Rattle.std.proofs.Common.{◌≡◌, ◌+◌, ◌++◌, ◌-◌, ℕ, List, length, drop, sym, ap, ◌∙◌, arith}
use Rattle.std.proofs.Math.Seq.{drop-append-add}
use Rattle.byteorder.specs.Endian.{little_number}
use Rattle.ebpf_state.specs.Stack.{bytes_in}
use Rattle.ebpf_machine.specs.Cells.{extended}
use Rattle.ebpf_machine.proofs.number.number_over.Goals as goal

pub returns-then-place-first : goal.returns-then-place-first
returns-then-place-first c =
    let first = c.args.first.now in
    let after = c.args.after.now in
    let n = bytes_in c.args.size in
    let place : length first + (c.args.place - length first) ≡ c.args.place = omega (arith, c.if-place-first.true) in
    let moved = ap (λ (m : ℕ). drop m (first ++ after)) (sym place) ∙ drop-append-add first after (c.args.place - length first) in
    c.number_at-then-place-first.ensures ∙ ap (λ (xs : List ℕ). extended n c.args.signed (little_number n xs)) (sym moved)
