use Rattle.std.proofs.Common.{◌≡◌, ℕ, false, rules}
use Rattle.ebpf_object_file.specs.Symbol.{symbol_of}
use Rattle.ebpf_object_file.specs.Naming.{is_data_at}
use Rattle.ebpf_object_file.proofs.Walks.{none_more}
use Rattle.ebpf_object_file.proofs.symbol_name.find_data.Goals as goal

pub loop-index-preserved : goal.loop-index-preserved
loop-index-preserved c =
    let here : is_data_at c.args.section c.args.at (symbol_of c.args.table.now c.loop-index.index) ≡ false = search rules in
    none_more (λ (k : ℕ). is_data_at c.args.section c.args.at (symbol_of c.args.table.now k)) c.loop-index.index c.loop-index.invariant here
