-- The responses of `explain` and `graph` to an input are their responses to what is read of it.
use Rattle.std.proofs.Common.{◌≡◌, ℕ, Bool, List, Option, None, sym, subst}
use Rattle.ebpf_state.specs.declared.kinds.KindRow.{KindRow}
use Rattle.ebpf_verify.specs.declared.decl.Decl.{Decl}
use Rattle.ebpf_command.specs.declared.done.FaultCode.{FaultCode}
use Rattle.ebpf_command.specs.Response.{Response}
use Rattle.ebpf_command.proofs.Written.{CutsLong}
use Rattle.ebpf_input.specs.declared.form.Form.{Form}
use Rattle.ebpf_input.specs.Asked.{Asked, AreGiven, asked_for, fault_of}
use Rattle.ebpf_input.proofs.LongInputs.{cuts_at, fault_of_long}
use Rattle.ebpf_show.specs.declared.shown.Shown.{Shown}
use Rattle.ebpf_show.specs.Shown.{ShowsTo, ShowsAsked, ShowsBy, ShowsBytes}

-- `explain` and `graph` respond to an input that is too long as to its beginning
pub shown_cuts : (unroll : Bool) (shown : Shown) (form : Form) (context : List ℕ) (held : ℕ) → CutsLong (ShowsTo unroll shown form context held)
shown_cuts unroll shown form context held =
    cuts_at (λ input. fault_of form input context held) (λ f input response. ShowsAsked unroll shown f form input context held response)
    (λ input long. fault_of_long form input context held long) (λ a b response h. h)

-- what the bytes of a request are shown as
pub shown_bytes : (unroll : Bool) (shown : Shown) (a : Asked) (seen : List ℕ) (decl : Decl) (rows : List KindRow) (response : Response) → seen ≡ a.bytes
    → AreGiven a decl rows → ShowsBy unroll shown seen decl rows response → ShowsBytes unroll shown a response
shown_bytes unroll shown a seen decl rows response same given h =
    (decl, rows, given, subst (λ (bytes : List ℕ). ShowsBy unroll shown bytes decl rows response) same h)

-- what the bytes that an input asks for are shown as is what the input is
pub Shows-asked : (unroll : Bool) (shown : Shown) (form : Form) (input context : List ℕ) (held : ℕ) (a : Asked) (response : Response)
    → fault_of form input context held ≡ None → a ≡ asked_for form input context held → ShowsBytes unroll shown a response
    → ShowsTo unroll shown form context held input response
Shows-asked unroll shown form input context held a response fine same h =
    let P : Option FaultCode → Type 0 = λ f. ShowsAsked unroll shown f form input context held response in
    subst P (sym fine) (subst (λ (x : Asked). ShowsBytes unroll shown x response) same h)
