use Rattle.std.proofs.Common.{◌++◌, ◌∙◌, ℕ, List, refl, ap, subst, sym}
use Rattle.ebpf_machine.specs.World.{kinds_of}
use Rattle.ebpf_machine.proofs.Instructions.KindLemmas.{kinds_known}
use Rattle.ebpf_command.specs.declared.judge.Judged.TheVariants.{Accepted}
use Rattle.ebpf_command.specs.Judging.{IsJudged}
use Rattle.ebpf_command.proofs.KindLemmas.{AreRows-kinds}
use Rattle.ebpf_command.proofs.JudgedRows.{accepted_decl, accepted_rows}
use Rattle.ebpf_explain.specs.Why.{why_of}
use Rattle.ebpf_verify.specs.declared.decl.Decl.{Decl}
use Rattle.ebpf_verify.specs.Subject.{Subject}
use Rattle.ebpf_host.specs.Loading.{IsLoaded}
use Rattle.ebpf_host.proofs.program.Program.load.Goals as goal

pub examine-requires : goal.examine-requires
examine-requires c = AreRows-kinds c.kinds-kinds.result c.kinds-kinds.ensures

pub write_why-requires : goal.write_why-requires
write_why-requires c = AreRows-kinds c.kinds-kinds.result c.kinds-kinds.ensures

pub of-requires-in-Accepted : goal.of-requires-in-Accepted
of-requires-in-Accepted c =
    let judged : IsJudged c.args.bytes.now c.in-Some.decl c.kinds-kinds.result (Accepted c.in-Accepted.verified) = record {
      examined = c.in_ok-examined.examined;
      is_examined = c.in_ok-examined.ensures;
      is = sym c.in-Accepted.is ∙ c.of.ensures;
    } in
    ap kinds_of (accepted_rows c.args.bytes.now c.in-Some.decl c.kinds-kinds.result (Accepted c.in-Accepted.verified) c.in-Accepted.verified judged refl)
    ∙ kinds_known c.kinds-kinds.result c.kinds-kinds.ensures

pub returns-in-Accepted-clause-loaded : goal.returns-in-Accepted-clause-loaded
returns-in-Accepted-clause-loaded c =
    let value = c.in-Some.ensures.value in
    subst (IsLoaded c.args.bytes.now c.args.context c.args.held) (sym c.of-in-Accepted.ensures.verified)
    (record {
      decl = c.in-Some.decl;
      rows = c.kinds-kinds.result;
      declared = record { context_is = value.0; held_is = value.1; kinds = c.kinds-kinds.ensures };
      is = record { examined = c.in_ok-examined.examined; is_examined = c.in_ok-examined.ensures; is = sym c.in-Accepted.is ∙ c.of.ensures };
    })

pub returns-in-Accepted-clause-declared : goal.returns-in-Accepted-clause-declared
returns-in-Accepted-clause-declared c =
    let judged : IsJudged c.args.bytes.now c.in-Some.decl c.kinds-kinds.result (Accepted c.in-Accepted.verified) = record {
      examined = c.in_ok-examined.examined;
      is_examined = c.in_ok-examined.ensures;
      is = sym c.in-Accepted.is ∙ c.of.ensures;
    } in
    ap (λ (s : Subject). s.decl.context) c.of-in-Accepted.ensures.verified
    ∙ (ap (λ (d : Decl). d.context) (accepted_decl c.args.bytes.now c.in-Some.decl c.kinds-kinds.result (Accepted c.in-Accepted.verified) c.in-Accepted.verified judged refl)
    ∙ c.in-Some.ensures.value.0)

pub returns-in-Refused-clause-refused : goal.returns-in-Refused-clause-refused
returns-in-Refused-clause-refused c =
    let value = c.in-Some.ensures.value in (
      record {
        judged = record {
          decl = c.in-Some.decl;
          rows = c.kinds-kinds.result;
          declared = record { context_is = value.0; held_is = value.1; kinds = c.kinds-kinds.ensures };
          is = record { examined = c.in_ok-examined.examined; is_examined = c.in_ok-examined.ensures; is = sym c.in-Refused.is ∙ c.of.ensures };
        };
        why = record {
          examined = c.in_ok-examined.examined;
          is_examined = c.in_ok-examined.ensures;
          is = c.in_ok-write_why.ensures
              ∙ ap (λ (text : List ℕ). text ++ why_of c.args.bytes.now c.in-Some.decl c.kinds-kinds.result c.in_ok-examined.examined) c.new-sentence.ensures.bytes;
        };
      },
      refl,
    )
