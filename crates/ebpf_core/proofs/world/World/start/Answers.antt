use Rattle.std.proofs.Common.{rules, ◌≡◌, [], ◌∷◌, ◌++◌, length, refl, subst, arith}
use Rattle.std.proofs.lemmas.Option.{slice_get_past, slice_get_read}
use Rattle.ebpf_verify.specs.Subject.{Subject}
use Rattle.ebpf_machine.specs.World.{kinds_of}
use Rattle.ebpf_machine.specs.Kinds.{known_kinds}
use Rattle.ebpf_machine.specs.Events.{NoSuchProgramOrKind, WrongContext}
use Rattle.ebpf_machine.specs.Turns.{IsStartFault}
use Rattle.ebpf_core.proofs.Runs.{at_number}
use Rattle.ebpf_core.proofs.Starting.{starting_none, starting_long, starting_fits, starting_pushed, pushed_tended}
use Rattle.ebpf_core.proofs.world.World.start.Goals as goal

pub returns-then-program-programs-clause-refused : goal.returns-then-program-programs-clause-refused
returns-then-program-programs-clause-refused c = rw (← c.self.view_is) (λ w h. (
  NoSuchProgramOrKind,
  starting_none c.self.inside.programs.now c.args.program c.args.context w
      (slice_get_past c.self.inside.programs.now c.args.program (omega arith)),
  refl,
))

pub returns-in-Err-ContextLength-clause-refused : goal.returns-in-Err-ContextLength-clause-refused
returns-in-Err-ContextLength-clause-refused c = rw (← c.self.view_is, ← c.context.view_is) (λ w h.
    let at = slice_get_read c.self.inside.programs.now _ c.args.program c.index-programs-program.result refl (omega arith) c.index-programs-program.is in
    let long = subst (IsStartFault (length c.context.inside.bytes.items) c.index-programs-program.result.decl.context) c.in-Err-ContextLength.field-0-is
    c.in-Err-ContextLength.ensures.refused in
    (WrongContext, starting_long c.self.inside.programs.now c.args.program c.index-programs-program.result c.context.inside.bytes.items w at long, refl))

pub returns-else-is_err-clause-done : goal.returns-else-is_err-clause-done
returns-else-is_err-clause-done c = rw (← c.self.view_is, ← c.context.view_is) (λ w h.
    let at = slice_get_read c.self.inside.programs.now _ c.args.program c.index-programs-program.result refl (omega arith) c.index-programs-program.is in
    let known = at_number (λ (s : Subject). kinds_of s.rows ≡ known_kinds) c.self.inside.programs.now c.args.program c.index-programs-program.result
    c.self.invariant.known at in
    let pushed : c.push.new.self.items ≡ c.self.inside.runs.items ++ c.in-Ok.run' ∷ [] = search rules in
    starting_pushed c.self.inside.programs.now c.args.program c.index-programs-program.result c.context.inside.bytes.items w _ c.in-Ok.run'
    c.push.new.self.items known h at c.in-Ok.ensures.length c.in-Ok.ensures.started pushed)

pub invariant_of-self-in-Ok : goal.invariant_of-self-in-Ok
invariant_of-self-in-Ok c =
    let at = slice_get_read c.self.inside.programs.now _ c.args.program c.index-programs-program.result refl (omega arith) c.index-programs-program.is in
    let known = at_number (λ (s : Subject). kinds_of s.rows ≡ known_kinds) c.self.inside.programs.now c.args.program c.index-programs-program.result
    c.self.invariant.known at in
    let pushed : c.push.new.self.items ≡ c.self.inside.runs.items ++ c.in-Ok.run' ∷ [] = search rules in
    pushed_tended _ c.index-programs-program.result c.context.inside.bytes.items c.in-Ok.run' c.push.new.self.items known c.in-Ok.ensures.started
    (c.in-Ok.ensures.sound (λ o. o.bytes.items)) c.self.invariant pushed

pub returns-then-is_err-clause-refused : goal.returns-then-is_err-clause-refused
returns-then-is_err-clause-refused c = rw (← c.self.view_is, ← c.context.view_is) (λ w h.
    let at = slice_get_read c.self.inside.programs.now _ c.args.program c.index-programs-program.result refl (omega arith) c.index-programs-program.is in
    starting_fits c.self.inside.programs.now c.args.program c.index-programs-program.result c.context.inside.bytes.items w at c.in-Ok.ensures.length)

pub returns-in-Err-NoMemory-clause-refused : goal.returns-in-Err-NoMemory-clause-refused
returns-in-Err-NoMemory-clause-refused c = rw (← c.self.view_is, ← c.context.view_is) (λ w h.
    let at = slice_get_read c.self.inside.programs.now _ c.args.program c.index-programs-program.result refl (omega arith) c.index-programs-program.is in
    let fits = subst (IsStartFault (length c.context.inside.bytes.items) c.index-programs-program.result.decl.context) c.in-Err-NoMemory.field-0-is
    c.in-Err-NoMemory.ensures.refused in
    starting_fits c.self.inside.programs.now c.args.program c.index-programs-program.result c.context.inside.bytes.items w at fits)
