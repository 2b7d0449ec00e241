use Rattle.std.proofs.Common.{◌≡◌, ℕ, ℤ, List, Some, refl, subst, w16, to_z, of_z, rules}
use Rattle.std.proofs.lemmas.Int.{to_z-of_z}
use Rattle.std.proofs.lemmas.Result.{IfOk-weaker}
use Rattle.ebpf_insn.specs.Decoding.{decode_fault}
use Rattle.ebpf_one.specs.declared.linked.Link.{Link}
use Rattle.ebpf_one.specs.UnrollText.{UnrollsDecoded}
use Rattle.ebpf_one.proofs.unroll.unroll_linked.Goals as goal

pub returns : goal.returns
returns c =
    let said = c.in_ok-said.said in
    let run = c.run_of-run.result in
    let request = c.args.linked.request in
    let word = c.args.linked.word in
    let link_at : ℤ → Link = λ x. record { bytes = c.args.linked.«data»; word = x } in
    let link = link_at word in
    let back : to_z w16 (of_z w16 word) ≡ word = to_z-of_z w16 word (search rules) in
    let with_word = subst (λ (x : ℤ). UnrollsDecoded c.args.format (record { run = run; link = Some (link_at x) }) (decode_fault c.deref.result.now) c.deref.result.now request.decl c.kinds.result said.slot said.answer)
    back c.in_ok-said.ensures in
    let is = subst (λ (bytes : List ℕ). UnrollsDecoded c.args.format (record { run = run; link = Some link }) (decode_fault bytes) bytes request.decl c.kinds.result said.slot said.answer)
    c.deref.ensures.value with_word in
    IfOk-weaker c.under_own.result _ _
    (λ response h. record {
      rows = c.kinds.result;
      kinds = c.kinds.ensures;
      link = link;
      after = refl;
      word = refl;
      slot = said.slot;
      said = said.answer;
      is = record { run = run; runs = c.run_of-run.ensures; is = is };
      over = h;
    })
    c.under_own.ensures
