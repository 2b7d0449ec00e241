use Rattle.std.proofs.Common.{◌≡◌, ℕ, false, rules}
use Rattle.ebpf_object_file.specs.Symbol.{symbol_of}
use Rattle.ebpf_object_file.specs.Call.{is_called}
use Rattle.ebpf_object_file.proofs.Walks.{none_more}
use Rattle.ebpf_object_file.proofs.call.find_called.Goals as goal

pub loop-index-preserved : goal.loop-index-preserved
loop-index-preserved c =
    let here : is_called c.args.sections c.args.section c.args.at (symbol_of c.args.table.now c.loop-index.index) ≡ false = search rules in
    none_more (λ (k : ℕ). is_called c.args.sections c.args.section c.args.at (symbol_of c.args.table.now k)) c.loop-index.index c.loop-index.invariant here
