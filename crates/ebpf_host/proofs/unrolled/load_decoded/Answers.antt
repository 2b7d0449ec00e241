use Rattle.std.proofs.Common.{◌∙◌, ap, inr, subst, sym}
use Rattle.std.proofs.lemmas.Result.{IfOk-weaker, IfErr-weaker}
use Rattle.ebpf_machine.specs.World.{kinds_of}
use Rattle.ebpf_machine.proofs.Instructions.KindLemmas.{kinds_known}
use Rattle.ebpf_verify.specs.declared.decl.Decl.{Decl}
use Rattle.ebpf_verify.specs.Subject.{Subject}
use Rattle.ebpf_verify.specs.Verdict.{IsAccepted}
use Rattle.ebpf_forward.specs.declared.forward.Forward.TheVariants.{LaidOut, Unrolled}
use Rattle.ebpf_forward.specs.Forward.{IsForward}
use Rattle.ebpf_host.specs.Unrolled.{IsLaidRefusal, IsProgramRefused}
use Rattle.ebpf_host.proofs.Forwarding.{IsFaultBy-weaker}
use Rattle.ebpf_host.proofs.unrolled.load_decoded.Goals as goal

pub of-requires : goal.of-requires
of-requires c =
    let is = subst (IsForward c.args.program.now c.args.decl c.args.kinds.now) c.in-Ok-Unrolled.field-0-is c.in-Ok-Unrolled.ensures.forward in
    ap kinds_of is.kinds ∙ kinds_known c.args.kinds.now c.requires

pub returns-in-Ok-LaidOut-clause-loaded : goal.returns-in-Ok-LaidOut-clause-loaded
returns-in-Ok-LaidOut-clause-loaded c =
    let laid = c.in-Ok-LaidOut.laid in
    let is = subst (IsForward c.args.program.now c.args.decl c.args.kinds.now) c.in-Ok-LaidOut.field-0-is c.in-Ok-LaidOut.ensures.forward in
    IfOk-weaker c.load_laid.result _ _ (λ p h. record { made = LaidOut laid; is = is; loaded = h }) c.load_laid.ensures.loaded

pub returns-in-Ok-LaidOut-clause-refused : goal.returns-in-Ok-LaidOut-clause-refused
returns-in-Ok-LaidOut-clause-refused c =
    let laid = c.in-Ok-LaidOut.laid in let decl = c.args.decl in
    let is = subst (IsForward c.args.program.now decl c.args.kinds.now) c.in-Ok-LaidOut.field-0-is c.in-Ok-LaidOut.ensures.forward in
    IfErr-weaker c.load_laid.result _ _
    (λ e h. IsFaultBy-weaker (IsLaidRefusal laid decl) (IsProgramRefused c.args.program.now decl c.args.kinds.now) decl.context decl.held
    (λ r refused. inr (laid, is, refused)) e h)
    c.load_laid.ensures.refused

pub returns-in-Ok-Unrolled-clause-loaded : goal.returns-in-Ok-Unrolled-clause-loaded
returns-in-Ok-Unrolled-clause-loaded c = record {
  made = Unrolled c.in-Ok-Unrolled.unrolled;
  is = subst (IsForward c.args.program.now c.args.decl c.args.kinds.now) c.in-Ok-Unrolled.field-0-is c.in-Ok-Unrolled.ensures.forward;
  loaded = (c.of.ensures.verified, subst IsAccepted (sym c.of.ensures.verified) c.program.ensures.accepted);
}

pub returns-in-Ok-Unrolled-clause-declared : goal.returns-in-Ok-Unrolled-clause-declared
returns-in-Ok-Unrolled-clause-declared c =
    let is = subst (IsForward c.args.program.now c.args.decl c.args.kinds.now) c.in-Ok-Unrolled.field-0-is c.in-Ok-Unrolled.ensures.forward in
    ap (λ (s : Subject). s.decl.context) c.of.ensures.verified ∙ ap (λ (d : Decl). d.context) is.declared
