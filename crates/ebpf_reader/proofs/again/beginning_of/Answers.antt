use Rattle.std.proofs.Common.{◌≡◌, ◌++◌, ◌∷◌, codes, Some, ◌∙◌, refl}
use Rattle.std.proofs.lemmas.Bool.Decides.{Decides-eqb}
use Rattle.std.proofs.lemmas.Slice.Eq.{strip_prefix_is}
use Rattle.ebpf_reader.proofs.JobLemmas.{beginning_is}
use Rattle.ebpf_reader.proofs.again.beginning_of.Goals as goal

pub returns : goal.returns
returns c =
    let text = strip_prefix_is Decides-eqb c.args.text.now (codes "run ") (Some c.in_ok-rest.rest) c.in_ok-rest.ensures.cases in
    let name = strip_prefix_is Decides-eqb c.in_ok-rest.rest.now c.as_bytes.result.now (Some c.in_ok-rest-2.rest) c.in_ok-rest-2.ensures.cases in
    let space = strip_prefix_is Decides-eqb c.in_ok-rest-2.rest.now c.as_slice.result.now (Some c.in_ok-strip_prefix.field-0) c.in_ok-strip_prefix.ensures.cases in
    let begun : c.args.text.now ≡ codes "run " ++ (c.in_ok-program.name.now ++ 32 ∷ c.in_ok-strip_prefix.field-0.now) =
    text ∙ rw (name, c.as_bytes.ensures.value, space, c.as_slice.ensures) refl in
    beginning_is c.args.script.now c.args.text.now c.in_ok-program.name.now c.in_ok-strip_prefix.field-0.now _ begun c.in_ok-program.ensures.allowed
    refl refl refl c.in_ok-program.ensures.number c.in_ok-program.ensures.declared
