-- A linked program is shown with the function's own slots beside it, after the rows of its data.
use Rattle.std.proofs.Common.{◌≡◌, ℕ, Bool, List, Option, subst}
use Rattle.std.specs.Prelude.{string_bytes}
use Rattle.ebpf_object_file.specs.declared.lines.Line.{Line}
use Rattle.ebpf_command.specs.declared.format.Format.{Format}
use Rattle.ebpf_command.specs.Response.{Response}
use Rattle.ebpf_show.specs.declared.explain_object.LinkedCode.{LinkedCode}
use Rattle.ebpf_show.specs.declared.shown.Shown.{Shown}
use Rattle.ebpf_show.specs.declared.sourced.Sourced.{Sourced}
use Rattle.ebpf_show.specs.Copies.{linked_slots}
use Rattle.ebpf_show.specs.DataRows.{after_rows}
use Rattle.ebpf_show.specs.ExplainObject.{ExplainsLinked, asked_in}
use Rattle.ebpf_show.specs.Shown.{AreCopiedLines, HasBeside, ShowsBytes, states_of}

pub linked_shown : (format : Format) (unroll : Bool) (l : LinkedCode) (source : Option Sourced) (shown copied : Shown) (of seen again : List (Option ℕ))
    (holding held : List (Option Line)) (said response : Response)
    → shown ≡ states_of format source → of ≡ linked_slots → seen ≡ of → again ≡ of → held ≡ holding
    → AreCopiedLines seen shown holding → HasBeside again held shown copied → ShowsBytes unroll copied (asked_in l.request) said
    → response ≡ after_rows (string_bytes l.rows) said → ExplainsLinked format unroll l source response
linked_shown format unroll l source shown copied of seen again holding held said response same is first second third are has told after =
    let lines_of_all = subst (λ (o : List (Option ℕ)). AreCopiedLines o shown holding) is (subst (λ (o : List (Option ℕ)). AreCopiedLines o shown holding) first are) in
    let lines = subst (λ (s : Shown). AreCopiedLines linked_slots s holding) same lines_of_all in
    let with_all = subst (λ (o : List (Option ℕ)). HasBeside o held shown copied) is (subst (λ (o : List (Option ℕ)). HasBeside o held shown copied) second has) in
    let with_lines = subst (λ (h : List (Option Line)). HasBeside linked_slots h shown copied) third with_all in
    let beside = subst (λ (s : Shown). HasBeside linked_slots holding s copied) same with_lines in
    (copied, (holding, lines, beside), said, told, after)
