use Rattle.std.proofs.Common.{◌≡◌, [], None, refl}
use Rattle.ebpf_host.specs.Stock.{StockView}
use Rattle.ebpf_host.proofs.ByKind.{of_each}
use Rattle.ebpf_host.proofs.stocks.Stocks.new.Goals as goal

pub returns-clause-bare : goal.returns-clause-bare
returns-clause-bare c = λ kind. of_each (λ (s : StockView). s.shelf ≡ None)
    (record { before = []; arena = c.args.arena; cells = c.new.result; records = c.new-2.result; blocks = c.new-3.result; after = [] }) c.new.ensures
    c.new-2.ensures c.new-3.ensures refl kind
