-- The response of `graph` by what is asked: to a function that reads data of its file, that to what it is linked to.
use Rattle.std.specs.Prelude.{Bool}
use Rattle.ebpf_command.specs.Writing.{Responding}
use Rattle.ebpf_input.specs.declared.ask.Ask.{Ask}
use Rattle.ebpf_input.specs.DataRequest.{RespondsData, asked_by}
use Rattle.ebpf_input.specs.NoRequest.{RespondsNoRequest}
use Rattle.ebpf_input.specs.ObjectText.{Refusing, RespondsInputOr}
use Rattle.ebpf_show.specs.declared.shown.Shown.TheVariants.{Graph}
use Rattle.ebpf_show.specs.Shown.{GraphsAs, ShowsBytes}

abbrev pub GraphsWithData : Ask → (unroll states : Bool) → Refusing
GraphsWithData ask unroll states = RespondsData ask (λ r response. ShowsBytes unroll (Graph states) (asked_by r) response) (RespondsNoRequest ask)

abbrev pub GraphsInput : Ask → (unroll states : Bool) → Responding
GraphsInput ask unroll states =
    RespondsInputOr (GraphsWithData ask unroll states) ask.input (GraphsAs unroll states ask.context.now ask.held)
