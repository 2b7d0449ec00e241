use Rattle.std.proofs.Common.{refl, sym, ◌∙◌}
use Rattle.ebpf_fours.proofs.Beginning.{start_beside, start_goes, kinds_on, begun_on}
use Rattle.ebpf_host.proofs.Beginning.{ended_on}
use Rattle.ebpf_host.proofs.four_within.run_four_within.Goals as goal

pub go_together-one-requires-clause-side : goal.go_together-one-requires-clause-side
go_together-one-requires-clause-side g c =
    let s = c.in_ok-runs.ensures.started in
    record { one = (refl, refl); two = start_beside s.one s.two; three = start_beside s.one s.three; four = start_beside s.one s.four }

pub go_together-one-requires-clause-can : goal.go_together-one-requires-clause-can
go_together-one-requires-clause-can g c =
    let s = c.in_ok-runs.ensures.started in
    let kinds = c.requires.kinds ∙ sym c.args.program.now.kinds in
    record {
      one = start_goes c.args.objects.now kinds s.one;
      two = start_goes c.args.objects.now kinds s.two;
      three = start_goes c.args.objects.now kinds s.three;
      four = start_goes c.args.objects.now kinds s.four;
    }

pub end_within-one-requires-clause-kinds : goal.end_within-one-requires-clause-kinds
end_within-one-requires-clause-kinds g c =
    kinds_on (c.requires.kinds ∙ sym c.args.program.now.kinds) c.in_ok-runs.ensures.started.one c.go_together-one.ensures.one

pub end_within-one-requires-clause-begun : goal.end_within-one-requires-clause-begun
end_within-one-requires-clause-begun g c =
    let kinds = c.requires.kinds ∙ sym c.args.program.now.kinds in
    begun_on c.args.limit c.args.objects.now kinds c.requires.limit c.in_ok-runs.ensures.started.one c.go_together-one.ensures.one

pub end_within-two-requires-clause-kinds : goal.end_within-two-requires-clause-kinds
end_within-two-requires-clause-kinds g c =
    kinds_on (c.requires.kinds ∙ sym c.args.program.now.kinds) c.in_ok-runs.ensures.started.two c.go_together-one.ensures.two

pub end_within-two-requires-clause-begun : goal.end_within-two-requires-clause-begun
end_within-two-requires-clause-begun g c =
    let kinds = c.requires.kinds ∙ sym c.args.program.now.kinds in
    begun_on c.args.limit c.end_within-one.new.objects kinds c.requires.limit c.in_ok-runs.ensures.started.two c.go_together-one.ensures.two

pub end_within-three-requires-clause-kinds : goal.end_within-three-requires-clause-kinds
end_within-three-requires-clause-kinds g c =
    kinds_on (c.requires.kinds ∙ sym c.args.program.now.kinds) c.in_ok-runs.ensures.started.three c.go_together-one.ensures.three

pub end_within-three-requires-clause-begun : goal.end_within-three-requires-clause-begun
end_within-three-requires-clause-begun g c =
    let kinds = c.requires.kinds ∙ sym c.args.program.now.kinds in
    begun_on c.args.limit c.end_within-two.new.objects kinds c.requires.limit c.in_ok-runs.ensures.started.three c.go_together-one.ensures.three

pub end_within-four-requires-clause-kinds : goal.end_within-four-requires-clause-kinds
end_within-four-requires-clause-kinds g c =
    kinds_on (c.requires.kinds ∙ sym c.args.program.now.kinds) c.in_ok-runs.ensures.started.four c.go_together-one.ensures.four

pub end_within-four-requires-clause-begun : goal.end_within-four-requires-clause-begun
end_within-four-requires-clause-begun g c =
    let kinds = c.requires.kinds ∙ sym c.args.program.now.kinds in
    begun_on c.args.limit c.end_within-three.new.objects kinds c.requires.limit c.in_ok-runs.ensures.started.four c.go_together-one.ensures.four

pub returns-clause-ran : goal.returns-clause-ran
returns-clause-ran g c =
    let s = c.in_ok-runs.ensures.started in
    let t = c.go_together-one.ensures in
    record {
      second = c.end_within-one.new.objects;
      third = c.end_within-two.new.objects;
      fourth = c.end_within-three.new.objects;
      one = ended_on s.one t.one c.end_within-one.ensures;
      two = ended_on s.two t.two c.end_within-two.ensures;
      three = ended_on s.three t.three c.end_within-three.ensures;
      four = ended_on s.four t.four c.end_within-four.ensures;
    }
