-- What `graph` writes of a program: the graph of its flow, with the slot that is refused.
use Rattle.std.specs.Prelude.{ℕ, Bool, List, length, Option, Some, None}
use Rattle.ebpf_verify.specs.declared.entry.EntryState.{EntryState}
use Rattle.ebpf_verify.specs.declared.fault.VerifyCode.{VerifyCode}
use Rattle.ebpf_verify.specs.Subject.{Subject}
use Rattle.ebpf_verify.specs.Traces.{looked_at, entries_below}
use Rattle.ebpf_verify.specs.Verdict.{verdict}
use Rattle.ebpf_graph.specs.Graph.{graph_of}
use Rattle.ebpf_command.specs.Response.{Response, refused_response, clean_response}

-- by the verdict of the verifier, and the entries that it looks at
abbrev pub graphed_by : Bool → Option (ℕ × VerifyCode) → Subject → List EntryState → Response
graphed_by states (Some refusal) s entries = refused_response (graph_of states s.program entries s.rows (Some refusal.0))
graphed_by states None s entries = clean_response (graph_of states s.program entries s.rows None)

abbrev pub graphed : Bool → Subject → Response
graphed states s = graphed_by states (verdict s) s (entries_below s.program (looked_at (verdict s) (length s.program)))
