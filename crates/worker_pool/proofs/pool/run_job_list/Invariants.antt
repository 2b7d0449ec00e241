use Rattle.worker_pool.specs.EachKind.{of_kind}
use Rattle.worker_pool.proofs.pool.run_job_list.Given as goal

-- the names of the ledgers are those that their blanks mean
abbrev pub ghosts-run_in : goal.ghosts-run_in
ghosts-run_in g a = record {
  outs = of_kind (λ b. b.outs.name) a.blanks;
  ins = of_kind (λ b. b.ins.name) a.blanks;
  puts = of_kind (λ b. b.puts.name) a.blanks;
  gets = of_kind (λ b. b.gets.name) a.blanks;
}
