-- The response to a program that is run after it was laid out, or after its loops were unrolled.
use Rattle.std.specs.Prelude.{◌≡◌, ◌⊎◌, ℕ, List, Option, Some, None}
use Rattle.ebpf_flow.specs.Flow.{flow_fault}
use Rattle.ebpf_state.specs.declared.kinds.KindRow.{KindRow}
use Rattle.ebpf_verify.specs.declared.decl.Decl.{Decl}
use Rattle.ebpf_verify.specs.declared.fault.VerifyCode.{VerifyCode}
use Rattle.ebpf_verify.specs.Subject.{Subject}
use Rattle.ebpf_verify.specs.Verdict.{verdict}
use Rattle.ebpf_forward.specs.declared.forward.Forward.{Forward}
use Rattle.ebpf_forward.specs.declared.forward.Forward.TheVariants.{LaidOut, Unrolled}
use Rattle.ebpf_command.specs.declared.format.Format.{Format}
use Rattle.ebpf_command.specs.Codes.{verify_name}
use Rattle.ebpf_command.specs.Response.{Response, refused_response}
use Rattle.ebpf_input.specs.Formats.{refused_in}
use Rattle.ebpf_one.specs.declared.how.How.{How}
use Rattle.ebpf_one.specs.declared.running.Running.{Running}
use Rattle.ebpf_one.specs.OneText.{RespondsCopies}

-- the run that is asked for, if one is, on a context
abbrev pub IsRunOf : Option How → List ℕ → Option Running → Type 0
IsRunOf None context run = run ≡ None
IsRunOf (Some how) context run = (r : Running) × (run ≡ Some r) × (r.how ≡ how) × (r.context.items ≡ context)

-- by the slots that its slots copy
abbrev pub RunsAs : Format → Running → Subject → List (Option ℕ) → Response → Type 0
RunsAs format run s of response = RespondsCopies format s of run.context.items run.how response

-- where the verifier refuses the program
abbrev pub RefusesJudged : Format → Subject → Response → Type 0
RefusesJudged format s response =
    (slot : ℕ) × (code : VerifyCode) × (verdict s ≡ Some (slot, code)) × (response ≡ refused_response (refused_in format (verify_name code) slot))

-- what the run did, or where the verifier refuses the program
abbrev pub RunsJudged : Format → Running → Subject → List (Option ℕ) → Response → Type 0
RunsJudged format run s of response = ((verdict s ≡ None) × RunsAs format run s of response) ⊎ RefusesJudged format s response

-- what is asked of a program before it is run
abbrev pub IsDeclared : Decl → List KindRow → Forward → Type 0
IsDeclared decl rows (LaidOut l) = flow_fault l.program ≡ None
IsDeclared decl rows (Unrolled u) = (u.verified.decl ≡ decl) × (u.verified.rows ≡ rows)

abbrev pub RunsForward : Format → Running → Decl → List KindRow → Forward → Response → Type 0
RunsForward format run decl rows (LaidOut l) response = RunsJudged format run (record { program = l.program; decl = decl; rows = rows }) l.of.items response
RunsForward format run decl rows (Unrolled u) response = RunsAs format run u.verified u.of.items response
