use Rattle.job_list.proofs.JobLists.{there}
use Rattle.job_list.proofs.job_list.job_at.Goals as goal

pub slice_bounds-result-count : goal.slice_bounds-result-count
slice_bounds-result-count c = (there c.args.bytes.now c.args.entries.now c.args.number c.start_of-start.result _ c.requires.order c.requires.number c.start_of-start.ensures).begins

pub slice_bounds-result-start : goal.slice_bounds-result-start
slice_bounds-result-start c = (there c.args.bytes.now c.args.entries.now c.args.number c.start_of-start.result (record { program = 0; end = 0 }) c.requires.order c.requires.number c.start_of-start.ensures).begins

pub slice_bounds-result-end : goal.slice_bounds-result-end
slice_bounds-result-end c = (there c.args.bytes.now c.args.entries.now c.args.number c.start_of-start.result (record { program = 0; end = 0 }) c.requires.order c.requires.number c.start_of-start.ensures).ends

pub returns : goal.returns
returns c = (there c.args.bytes.now c.args.entries.now c.args.number c.start_of-start.result (record { program = 0; end = 0 }) c.requires.order c.requires.number c.start_of-start.ensures).job
