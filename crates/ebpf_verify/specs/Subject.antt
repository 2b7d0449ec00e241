-- What is verified: a program, what it declares, and the kinds of object that there are.
use Rattle.std.specs.Prelude.{List, Option}
use Rattle.ebpf_insn.specs.declared.insn.Insn.{Insn}
use Rattle.ebpf_state.specs.declared.kinds.KindRow.{KindRow}
use Rattle.ebpf_verify.specs.declared.decl.Decl.{Decl}

pub record Subject : Type 0 where
  pub program : List (Option Insn)
  pub decl : Decl
  pub rows : List KindRow
