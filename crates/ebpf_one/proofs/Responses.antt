-- The responses of `one`, `list` and `lay-out` to an input are their responses to what is read of it.
use Rattle.std.proofs.Common.{◌≡◌, ℕ, List, Option, None, sym, subst}
use Rattle.ebpf_command.specs.declared.format.Format.{Format}
use Rattle.ebpf_state.specs.declared.kinds.KindRow.{KindRow}
use Rattle.ebpf_verify.specs.declared.decl.Decl.{Decl}
use Rattle.ebpf_command.specs.declared.done.FaultCode.{FaultCode}
use Rattle.ebpf_command.specs.declared.judge.Judged.{Judged}
use Rattle.ebpf_command.specs.Judging.{IsJudged}
use Rattle.ebpf_command.specs.Response.{Response}
use Rattle.ebpf_command.proofs.Written.{CutsLong}
use Rattle.ebpf_input.specs.declared.form.Form.{Form}
use Rattle.ebpf_input.specs.Asked.{Asked, AreGiven, asked_for, bytes_in, input_fault, fault_of}
use Rattle.ebpf_input.proofs.LongInputs.{cuts_at, fault_of_long, input_fault_long}
use Rattle.ebpf_one.specs.declared.how.How.{How}
use Rattle.ebpf_one.specs.LayOutText.{LaysOut, LaysOutGiven}
use Rattle.ebpf_one.specs.ListText.{RespondsList, RespondsGiven}
use Rattle.ebpf_one.specs.OneText.{Responds, RespondsAsked, RespondsBytes, RespondsJudged}

-- `one` responds to an input that is too long as to its beginning
pub one_cuts : (format : Format) (form : Form) (context : List ℕ) (held : ℕ) (how : How) → CutsLong (Responds format form context held how)
one_cuts format form context held how =
    cuts_at (λ input. fault_of form input context held) (λ f input response. RespondsAsked format f (asked_for form input context held) how response)
    (λ input long. fault_of_long form input context held long) (λ a b response h. h)

-- and so does `list`
pub list_cuts : (format : Format) (form : Form) → CutsLong (RespondsList format form)
list_cuts format form = cuts_at (input_fault form) (λ f input response. RespondsGiven format f (bytes_in form input) response) (input_fault_long form) (λ a b response h. h)

-- the bytes of a request are judged to be this, to which this is the response
pub response_of_judged : (format : Format) (a : Asked) (seen : List ℕ) (decl : Decl) (rows : List KindRow) (was judged : Judged) (how : How) (response : Response)
    → seen ≡ a.bytes → AreGiven a decl rows → IsJudged seen decl rows was → was ≡ judged
    → RespondsJudged format judged a.context how response → RespondsBytes format a how response
response_of_judged format a seen decl rows was judged how response same given is e h =
    (decl, rows, judged, given, subst (λ (j : Judged). IsJudged a.bytes decl rows j) e (subst (λ (bytes : List ℕ). IsJudged bytes decl rows was) same is), h)

-- the response to the bytes that an input asks for is the response to the input
pub Responds-asked : (format : Format) (form : Form) (input context : List ℕ) (held : ℕ) (how : How) (a : Asked) (response : Response)
    → fault_of form input context held ≡ None → a ≡ asked_for form input context held → RespondsBytes format a how response
    → Responds format form context held how input response
Responds-asked format form input context held how a response fine same h =
    let P : Option FaultCode → Type 0 = λ f. RespondsAsked format f (asked_for form input context held) how response in
    subst P (sym fine) (subst (λ (x : Asked). RespondsBytes format x how response) same h)

-- and so does `lay-out`
pub lay_out_cuts : (format : Format) (form : Form) → CutsLong (LaysOut format form)
lay_out_cuts format form = cuts_at (input_fault form) (λ f input response. LaysOutGiven format f (bytes_in form input) response) (input_fault_long form) (λ a b response h. h)
