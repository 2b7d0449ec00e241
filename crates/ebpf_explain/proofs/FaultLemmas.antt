-- A text that ends with what is wrong by one code, where that is the code.
use Rattle.std.proofs.Common.{◌≡◌, ℕ, List, ◌++◌, sym, subst}
use Rattle.std.specs.Prelude.{Result, Ok, Err, OnOk, is_ok, if◌then◌else◌}
use Rattle.ebpf_insn.specs.declared.insn.Insn.{Insn}
use Rattle.ebpf_state.specs.declared.kinds.KindRow.{KindRow}
use Rattle.ebpf_state.specs.StateView.{StateView}
use Rattle.ebpf_verify.specs.declared.decl.Decl.{Decl}
use Rattle.ebpf_verify.specs.declared.fault.VerifyCode.{VerifyCode}
use Rattle.ebpf_explain.specs.VerifySentences.{fault}

pub told : {T E : Type 0} (r : Result T E) (before new : List ℕ) (i : Insn) (s : StateView) (code which : VerifyCode) (decl : Decl) (rows : List KindRow)
    → code ≡ which → OnOk r (new ≡ before ++ fault i s which decl rows) → OnOk r (new ≡ before ++ fault i s code decl rows)
told r before new i s code which decl rows is h = subst (λ (c : VerifyCode). OnOk r (new ≡ before ++ fault i s c decl rows)) (sym is) h

-- the same of a text that was written of what is equal to what the code is about
pub told_as : {T E : Type 0} (r : Result T E) (before new text : List ℕ) (i : Insn) (s : StateView) (code which : VerifyCode) (decl : Decl)
    (rows : List KindRow)
    → code ≡ which → text ≡ fault i s which decl rows → OnOk r (new ≡ before ++ text) → OnOk r (new ≡ before ++ fault i s code decl rows)
told_as r before new text i s code which decl rows is same h =
    told r before new i s code which decl rows is (subst (λ (t : List ℕ). OnOk r (new ≡ before ++ t)) same h)

-- the same of a text that was pushed
pub told_at_once : {T E : Type 0} (r : Result T E) (before new : List ℕ) (i : Insn) (s : StateView) (code which : VerifyCode) (decl : Decl)
    (rows : List KindRow)
    → code ≡ which → new ≡ (if is_ok r then before ++ fault i s which decl rows else before) → OnOk r (new ≡ before ++ fault i s code decl rows)
told_at_once r before new i s code which decl rows is h = told r before new i s code which decl rows is (pushed r (before ++ fault i s which decl rows) h) where
  pushed : {T E : Type 0} (r : Result T E) (all : List ℕ) → new ≡ (if is_ok r then all else before) → OnOk r (new ≡ all)
  pushed (Ok x) all is = is
  pushed (Err e) all is = tt
