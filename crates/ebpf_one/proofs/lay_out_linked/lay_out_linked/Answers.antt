use Rattle.std.proofs.Common.{◌≡◌, ℕ, ℤ, List, refl, subst, w16, to_z, of_z, rules}
use Rattle.std.proofs.lemmas.Int.{to_z-of_z}
use Rattle.std.proofs.lemmas.Result.{IfOk-weaker}
use Rattle.ebpf_insn.specs.Decoding.{decode_fault}
use Rattle.ebpf_one.specs.declared.linked.Link.{Link}
use Rattle.ebpf_one.specs.LayOutLinked.{LaysLinkedDecoded}
use Rattle.ebpf_one.proofs.lay_out_linked.lay_out_linked.Goals as goal

pub returns : goal.returns
returns c =
    let said = c.in_ok-said.said in
    let format = c.args.format in
    let rows = c.kinds.result in
    let request = c.args.linked.request in
    let word = c.args.linked.word in
    let link_at : ℤ → Link = λ x. record { bytes = c.args.linked.«data»; word = x } in
    let back : to_z w16 (of_z w16 word) ≡ word = to_z-of_z w16 word (search rules) in
    let seen = c.deref.result.now in
    let with_word = subst (λ (x : ℤ). LaysLinkedDecoded format (link_at x) (decode_fault seen) seen request.decl rows said.slot said.answer) back c.in_ok-said.ensures in
    let is = subst (λ (bytes : List ℕ). LaysLinkedDecoded format (link_at word) (decode_fault bytes) bytes request.decl rows said.slot said.answer)
    c.deref.ensures.value with_word in
    IfOk-weaker c.under_own.result _ _
    (λ response h. record {
      rows = rows;
      kinds = c.kinds.ensures;
      link = link_at word;
      after = refl;
      word = refl;
      slot = said.slot;
      said = said.answer;
      is = is;
      over = h;
    })
    c.under_own.ensures
