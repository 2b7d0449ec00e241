use Rattle.std.proofs.Common.{refl, arith}
use Rattle.ebpf_fours.proofs.Beginning.{start_beside, start_goes, kinds_on, begun_on}
use Rattle.worker_pool.specs.Going.{none_answered}
use Rattle.worker_pool.proofs.Answering.{still_even}
use Rattle.worker_pool.proofs.EachKind.{evens}
use Rattle.worker_pool.proofs.Fours.{one_answered, program_on}
use Rattle.worker_pool.proofs.four_jobs.answer_four.Goals as goal

pub returns-in_default-clause-failed : goal.returns-in_default-clause-failed
returns-in_default-clause-failed g c = (refl, none_answered _)

pub go_together-one-requires-clause-side : goal.go_together-one-requires-clause-side
go_together-one-requires-clause-side g c =
    let s = c.in-Ok.ensures.started in
    record { one = (refl, refl); two = start_beside s.one s.two; three = start_beside s.one s.three; four = start_beside s.one s.four }

pub go_together-one-requires-clause-can : goal.go_together-one-requires-clause-can
go_together-one-requires-clause-can g c =
    let s = c.in-Ok.ensures.started in
    let kinds = c.requires.jobs.kinds in
    record {
      one = start_goes c.args.store.now kinds s.one;
      two = start_goes c.args.store.now kinds s.two;
      three = start_goes c.args.store.now kinds s.three;
      four = start_goes c.args.store.now kinds s.four;
    }

pub end_job-one-requires-clause-kinds : goal.end_job-one-requires-clause-kinds
end_job-one-requires-clause-kinds g c = kinds_on c.requires.jobs.kinds c.in-Ok.ensures.started.one c.go_together-one.ensures.one

pub end_job-one-requires-clause-begun : goal.end_job-one-requires-clause-begun
end_job-one-requires-clause-begun g c =
    begun_on 4096 c.begin.new.store c.requires.jobs.kinds (omega arith) c.in-Ok.ensures.started.one c.go_together-one.ensures.one

pub end_job-one-requires-clause-program : goal.end_job-one-requires-clause-program
end_job-one-requires-clause-program g c = program_on c.in-Ok.ensures.started.one c.go_together-one.ensures.one

pub end_job-two-requires-clause-kinds : goal.end_job-two-requires-clause-kinds
end_job-two-requires-clause-kinds g c = kinds_on c.requires.jobs.kinds c.in-Ok.ensures.started.two c.go_together-one.ensures.two

pub end_job-two-requires-clause-begun : goal.end_job-two-requires-clause-begun
end_job-two-requires-clause-begun g c =
    begun_on 4096 c.begin-2.new.store c.requires.jobs.kinds (omega arith) c.in-Ok.ensures.started.two c.go_together-one.ensures.two

pub end_job-two-requires-clause-program : goal.end_job-two-requires-clause-program
end_job-two-requires-clause-program g c = program_on c.in-Ok.ensures.started.two c.go_together-one.ensures.two

pub end_job-three-requires-clause-kinds : goal.end_job-three-requires-clause-kinds
end_job-three-requires-clause-kinds g c = kinds_on c.requires.jobs.kinds c.in-Ok.ensures.started.three c.go_together-one.ensures.three

pub end_job-three-requires-clause-begun : goal.end_job-three-requires-clause-begun
end_job-three-requires-clause-begun g c =
    begun_on 4096 c.begin-3.new.store c.requires.jobs.kinds (omega arith) c.in-Ok.ensures.started.three c.go_together-one.ensures.three

pub end_job-three-requires-clause-program : goal.end_job-three-requires-clause-program
end_job-three-requires-clause-program g c = program_on c.in-Ok.ensures.started.three c.go_together-one.ensures.three

pub end_job-four-requires-clause-kinds : goal.end_job-four-requires-clause-kinds
end_job-four-requires-clause-kinds g c = kinds_on c.requires.jobs.kinds c.in-Ok.ensures.started.four c.go_together-one.ensures.four

pub end_job-four-requires-clause-begun : goal.end_job-four-requires-clause-begun
end_job-four-requires-clause-begun g c =
    begun_on 4096 c.begin-4.new.store c.requires.jobs.kinds (omega arith) c.in-Ok.ensures.started.four c.go_together-one.ensures.four

pub end_job-four-requires-clause-program : goal.end_job-four-requires-clause-program
end_job-four-requires-clause-program g c = program_on c.in-Ok.ensures.started.four c.go_together-one.ensures.four

pub returns-clause-even : goal.returns-clause-even
returns-clause-even g c =
    let one = evens c.begin.new.store.stocks c.end_job-one.new.objects.stocks c.end_job-one.ensures.outs (still_even c.begin.ensures c.requires.even) in
    let two = evens c.begin-2.new.store.stocks c.end_job-two.new.objects.stocks c.end_job-two.ensures.outs (still_even c.begin-2.ensures one) in
    let three = evens c.begin-3.new.store.stocks c.end_job-three.new.objects.stocks c.end_job-three.ensures.outs (still_even c.begin-3.ensures two) in
    evens c.begin-4.new.store.stocks c.end_job-four.new.objects.stocks c.end_job-four.ensures.outs (still_even c.begin-4.ensures three)

pub returns-clause-answered : goal.returns-clause-answered
returns-clause-answered g c =
    let s = c.in-Ok.ensures.started in
    let t = c.go_together-one.ensures in
    let j = c.requires.jobs in record {
      second = _;
      third = _;
      fourth = _;
      with_one = _;
      with_two = _;
      with_three = _;
      one = one_answered j.one s.one t.one c.begin.ensures c.end_job-one.ensures.ended.report c.end_job-one.ensures.ended.kept c.end_job-one.ensures.ended.goes;
      two = one_answered j.two s.two t.two c.begin-2.ensures c.end_job-two.ensures.ended.report c.end_job-two.ensures.ended.kept c.end_job-two.ensures.ended.goes;
      three = one_answered j.three s.three t.three c.begin-3.ensures c.end_job-three.ensures.ended.report c.end_job-three.ensures.ended.kept c.end_job-three.ensures.ended.goes;
      four = one_answered j.four s.four t.four c.begin-4.ensures c.end_job-four.ensures.ended.report c.end_job-four.ensures.ended.kept c.end_job-four.ensures.ended.goes;
    }
