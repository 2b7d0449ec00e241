use Rattle.std.proofs.Common.{ℕ, List, None, refl, subst}
use Rattle.std.proofs.lemmas.Result.{IfOk-weaker}
use Rattle.ebpf_insn.specs.Decoding.{decode_fault}
use Rattle.ebpf_one.specs.UnrollText.{UnrollsDecoded}
use Rattle.ebpf_one.proofs.unroll.unroll_request.Goals as goal

pub returns : goal.returns
returns c =
    let said = c.in_ok-said.said in
    let run = c.run_of-run.result in
    let is = subst (λ (bytes : List ℕ). UnrollsDecoded c.args.format (record { run = run; link = None }) (decode_fault bytes) bytes c.args.request.decl c.kinds.result said.slot said.answer)
    c.deref.ensures.value c.in_ok-said.ensures in
    IfOk-weaker c.with_line.result _ _
    (λ response h. record {
      decl = c.args.request.decl;
      rows = c.kinds.result;
      given = record { context = c.requires; held = refl; kinds = c.kinds.ensures };
      run = run;
      runs = c.run_of-run.ensures;
      slot = said.slot;
      said = said.answer;
      is = is;
      over = h;
    })
    c.with_line.ensures
