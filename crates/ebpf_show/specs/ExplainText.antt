-- What `explain` writes of a program: what is known before each instruction that the verifier looks at, and then the verdict. Where the
-- lines of C are known, that of a refused slot is under the reason.
use Rattle.std.specs.Prelude.{ℕ, ◌++◌, List, length, Option, Some, None}
use Rattle.ebpf_insn.specs.Program.{instructions}
use Rattle.ebpf_verify.specs.declared.entry.EntryState.{EntryState}
use Rattle.ebpf_verify.specs.declared.fault.VerifyCode.{VerifyCode}
use Rattle.ebpf_verify.specs.Subject.{Subject}
use Rattle.ebpf_verify.specs.Traces.{looked_at, entries_below}
use Rattle.ebpf_verify.specs.Verdict.{verdict}
use Rattle.ebpf_explain.specs.Reasons.{reason_at}
use Rattle.ebpf_command.specs.declared.codes.RefusalCode.TheVariants.{Verify}
use Rattle.ebpf_command.specs.declared.format.Format.{Format}
use Rattle.ebpf_command.specs.Codes.{refusal_name}
use Rattle.ebpf_command.specs.Response.{Response, refused_response, clean_response}
use Rattle.ebpf_input.specs.Formats.{accepted_in, refused_why_in}
use Rattle.ebpf_show.specs.declared.sourced.Beside.{Beside}
use Rattle.ebpf_show.specs.Sourced.{listed_lines, with_line}

-- the listing up to the refused slot and why that is refused, or the listing of all
abbrev pub explained_by : Format → Beside → Option (ℕ × VerifyCode) → Subject → List EntryState → Response
explained_by format beside (Some refusal) s entries =
    with_line format beside.source refusal.0 (refused_response (listed_lines format beside s entries
    ++ refused_why_in format (refusal_name (Verify refusal.1)) refusal.0 (reason_at s entries refusal.0 refusal.1)))
explained_by format beside None s entries = clean_response (listed_lines format beside s entries ++ accepted_in format (length (instructions s.program)))

-- by the entries that the verifier looks at
abbrev pub explained : Format → Beside → Subject → Response
explained format beside s = explained_by format beside (verdict s) s (entries_below s.program (looked_at (verdict s) (length s.program)))
