use Rattle.std.proofs.Common.{◌≡◌, ◌++◌, ℕ, List, length, ap, subst}
use Rattle.std.specs.Prelude.{IfOk, IfErr, OnOk}
use Rattle.ebpf_machine.specs.RunState.{first_state_of}
use Rattle.ebpf_machine.specs.Turns.{IsStartFault}
use Rattle.ebpf_host.specs.Whole.{whole}
use Rattle.ebpf_host.proofs.within.start.Given.{Over}
use Rattle.ebpf_host.proofs.within.start.Goals.{After-start_with}
use Rattle.ebpf_host.proofs.within.start.Goals as goal

-- the run reads the host's bytes, and then the data
joined : (g : Over) (c : After-start_with g) → c.args.context.now ++ c.deref.result.now ≡ whole c.args.program.now c.args.context.now
joined g c = ap (λ (xs : List ℕ). c.args.context.now ++ xs) c.deref.ensures.value

pub returns-clause-started : goal.returns-clause-started
returns-clause-started g c =
    subst (λ (xs : List ℕ). IfOk c.start_with.result (λ r. r ≡ first_state_of c.args.program.now.verified xs)) (joined g c) c.start_with.ensures.started

pub returns-clause-length : goal.returns-clause-length
returns-clause-length g c =
    subst (λ (xs : List ℕ). OnOk c.start_with.result (length xs ≡ c.args.program.now.verified.decl.context)) (joined g c) c.start_with.ensures.length

pub returns-clause-refused : goal.returns-clause-refused
returns-clause-refused g c =
    subst (λ (xs : List ℕ). IfErr c.start_with.result (IsStartFault (length xs) c.args.program.now.verified.decl.context)) (joined g c)
    c.start_with.ensures.refused
