use Rattle.std.proofs.Common.{rules, ◌≡◌, ap, ◌∙◌}
use Rattle.ebpf_host.specs.declared.stocks.Stocks.{Stocks}
use Rattle.ebpf_host.proofs.Finding.{found_on_machine}
use Rattle.ebpf_host.proofs.Leaving.{on_machine}
use Rattle.ebpf_host.specs.Stocks.{bytes_on}
use Rattle.ebpf_host.proofs.machine.Machine.run_in_place.Goals as goal

pub returns-clause-shelves : goal.returns-clause-shelves
returns-clause-shelves c =
    let was : c.deref_mut-stocks.result.now ≡ c.args.self.now = search rules in
    rw (← was)
    (on_machine c.deref_mut-stocks.result.now c.run_within.new.objects c.args.program.now.verified _ c.in_ok-ended.ended c.in_ok-ended.ensures.shelves)

pub returns-clause-pages : goal.returns-clause-pages
returns-clause-pages c =
    let was : c.deref_mut-stocks.result.now ≡ c.args.self.now = search rules in
    c.in_ok-ended.ensures.goes ∙ ap (λ (s : Stocks). s.arena.pages) was

pub returns-clause-found : goal.returns-clause-found
returns-clause-found c =
    let was : c.deref_mut-stocks.result.now ≡ c.args.self.now = search rules in
    rw (← was) (found_on_machine c.deref_mut-stocks.result.now c.args.program.now.verified _ c.in_ok-ended.ended c.in_ok-ended.ensures.found)

pub run_within-requires-clause-tells : goal.run_within-requires-clause-tells
run_within-requires-clause-tells c = record {
  there = λ s shelf slot bytes what stands can. ap bytes_on (stands ∙ can);
  none = λ s shelf what stands can. ap bytes_on (stands ∙ can);
}
