-- How far the bytes of a program come: they are no program, or its flow is refused, or each instruction leads forward.
use Rattle.std.specs.Prelude.{◌≡◌, ℕ, List, Option, Some, None}
use Rattle.ebpf_insn.specs.declared.fault.DecodeCode.{DecodeCode}
use Rattle.ebpf_insn.specs.declared.insn.Insn.{Insn}
use Rattle.ebpf_insn.specs.Decoding.{decode_fault}
use Rattle.ebpf_insn.specs.Encoding.{IsProgram}
use Rattle.ebpf_flow.specs.declared.fault.FlowCode.{FlowCode}
use Rattle.ebpf_flow.specs.declared.followed.Followed.{Followed}
use Rattle.ebpf_flow.specs.declared.followed.Followed.TheVariants.{Undecoded, Misled, Flowed}
use Rattle.ebpf_flow.specs.Flow.{flow_fault}

-- a program, by the fault of its flow
abbrev pub followed_by : Option (ℕ × FlowCode) → List (Option Insn) → Followed
followed_by (Some refusal) p = Misled p refusal.0 refusal.1
followed_by None p = Flowed p

-- bytes: they are no program, or the program that they encode
abbrev pub IsFollowedBy : Option (ℕ × DecodeCode) → List ℕ → Followed → Type 0
IsFollowedBy (Some refusal) bytes followed = followed ≡ Undecoded refusal.0 refusal.1
IsFollowedBy None bytes followed = (p : List (Option Insn)) × IsProgram bytes p × (followed ≡ followed_by (flow_fault p) p)

-- how far bytes come
abbrev pub IsFollowed : List ℕ → Followed → Type 0
IsFollowed bytes followed = IsFollowedBy (decode_fault bytes) bytes followed
