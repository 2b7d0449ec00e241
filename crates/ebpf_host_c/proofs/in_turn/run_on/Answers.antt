use Rattle.std.proofs.Common.{rules, ap, ◌∙◌, ◌≡◌}
use Rattle.ebpf_host.specs.declared.stocks.Stocks.{Stocks}
use Rattle.ebpf_host.specs.contracts.store.StocksObjects.TheImpl.{ghosts}
use Rattle.ebpf_host_c.proofs.InTurn.{pages_stay, runs_on}
use Rattle.ebpf_host_c.proofs.in_turn.run_on.Goals as goal

pub returns-clause-ran : goal.returns-clause-ran
returns-clause-ran c =
    let was : c.deref_mut-stocks.result.now ≡ c.args.machine.now = search rules in
    rw (← was) (runs_on ghosts.store (record { stands = λ s shelf what e. e; stood = λ s shelf what e. e; pages = λ s t told e. e })
    c.args.program.now c.args.contexts.now c.args.limit c.run_all.new.reports _ _ _ c.run_all.ensures.ran)

pub returns-clause-pages : goal.returns-clause-pages
returns-clause-pages c =
    let was : c.deref_mut-stocks.result.now ≡ c.args.machine.now = search rules in
    pages_stay ghosts.store (record { stands = λ s shelf what e. e; stood = λ s shelf what e. e; pages = λ s t told e. e })
    c.args.program.now c.args.contexts.now c.args.limit c.run_all.new.reports _ _ _ c.run_all.ensures.ran
    ∙ ap (λ (s : Stocks). s.arena.pages) was
