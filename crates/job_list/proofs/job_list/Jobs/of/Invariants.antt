use Rattle.std.proofs.Common.{◌≡◌, take}
use Rattle.job_list.proofs.job_list.Jobs.of.Given as goal

abbrev pub invariant-copying : goal.invariant-copying
invariant-copying l = record {
  copied : l.list ≡ take l.number l.fn.jobs;
}
