-- What the bytes of a program are judged to be: the first check that refuses them says why.
use Rattle.std.specs.Prelude.{◌≡◌, ℕ, List}
use Rattle.ebpf_state.specs.declared.kinds.KindRow.{KindRow}
use Rattle.ebpf_verify.specs.declared.decl.Decl.{Decl}
use Rattle.ebpf_verify.specs.declared.examined.Examined.{Examined}
use Rattle.ebpf_verify.specs.declared.examined.Examined.TheVariants as examined
use Rattle.ebpf_verify.specs.Examined.{IsExamined}
use Rattle.ebpf_command.specs.declared.codes.RefusalCode.TheVariants.{Decode, Flow, Verify}
use Rattle.ebpf_command.specs.declared.judge.Judged.{Judged}
use Rattle.ebpf_command.specs.declared.judge.Judged.TheVariants.{Accepted, Refused}

-- by how far they come
abbrev pub judged_as : Examined → Judged
judged_as (examined.Undecoded slot code) = Refused (Decode code) slot
judged_as (examined.Misled p slot code) = Refused (Flow code) slot
judged_as (examined.Refused p slot code) = Refused (Verify code) slot
judged_as (examined.Accepted s) = Accepted s

-- with what is declared and the kinds
pub record IsJudged (bytes : List ℕ) (decl : Decl) (rows : List KindRow) (judged : Judged) : Type 0 where
  pub examined : Examined
  pub is_examined : IsExamined bytes decl rows examined
  pub is : judged ≡ judged_as examined
