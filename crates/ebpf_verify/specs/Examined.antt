-- How far the bytes of a program come through the checks: that which refuses them says where and why.
use Rattle.std.specs.Prelude.{◌≡◌, ℕ, List, Option, Some, None}
use Rattle.ebpf_flow.specs.declared.followed.Followed.{Followed}
use Rattle.ebpf_flow.specs.declared.followed.Followed.TheVariants as followed
use Rattle.ebpf_flow.specs.Followed.{IsFollowed}
use Rattle.ebpf_state.specs.declared.kinds.KindRow.{KindRow}
use Rattle.ebpf_verify.specs.declared.decl.Decl.{Decl}
use Rattle.ebpf_verify.specs.declared.examined.Examined.{Examined}
use Rattle.ebpf_verify.specs.declared.examined.Examined.TheVariants.{Undecoded, Misled, Refused, Accepted}
use Rattle.ebpf_verify.specs.declared.fault.VerifyCode.{VerifyCode}
use Rattle.ebpf_verify.specs.Subject.{Subject}
use Rattle.ebpf_verify.specs.Verdict.{verdict}

-- a program whose flow is fine, by the verdict of the verifier
abbrev pub examined_by : Option (ℕ × VerifyCode) → Subject → Examined
examined_by (Some refusal) s = Refused s.program refusal.0 refusal.1
examined_by None s = Accepted s

-- bytes, by how far they come without the verifier
abbrev pub examined_of : Followed → Decl → List KindRow → Examined
examined_of (followed.Undecoded slot code) decl rows = Undecoded slot code
examined_of (followed.Misled p slot code) decl rows = Misled p slot code
examined_of (followed.Flowed p) decl rows =
    examined_by (verdict (record { program = p; decl = decl; rows = rows })) (record { program = p; decl = decl; rows = rows })

-- how far bytes come, with what is declared and the kinds
pub record IsExamined (bytes : List ℕ) (decl : Decl) (rows : List KindRow) (examined : Examined) : Type 0 where
  pub followed : Followed
  pub is_followed : IsFollowed bytes followed
  pub is : examined ≡ examined_of followed decl rows
