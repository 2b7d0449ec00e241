use Rattle.std.proofs.Common.{false, arith, ap, ◌∙◌, ◌<◌, length}
use Rattle.std.proofs.lemmas.List.{get_or_read}
use Rattle.ebpf_state.specs.References.{tested_reference}
use Rattle.ebpf_state.proofs.JoinLists.{changing_none, changing_more, changing_all}
use Rattle.ebpf_state.proofs.held.mark_tested.Goals as goal

pub loop-i-init : goal.loop-i-init
loop-i-init c =
    changing_none (tested_reference c.args.call) (record { call = 0; kind = 0; tested = false }) c.args.held.now.items

pub loop-i-preserved : goal.loop-i-preserved
loop-i-preserved c =
    let inside : c.loop-i.i < length c.loop-i.held.items = omega (arith, c.loop-i.invariant.whole) in
    let read = get_or_read c.loop-i.held.items c.loop-i.i _ inside c.index.ensures (record { call = 0; kind = 0; tested = false }) in
    changing_more (tested_reference c.args.call) (record { call = 0; kind = 0; tested = false }) c.args.held.now.items c.loop-i.held.items c.loop-i.i c.test.result inside c.loop-i.invariant (c.test.ensures ∙ ap (tested_reference c.args.call) read)

pub returns : goal.returns
returns c = changing_all (tested_reference c.args.call) (record { call = 0; kind = 0; tested = false }) c.args.held.now.items c.loop-i.held.items c.loop-i.i (omega (arith, c.loop-i.invariant.whole)) c.loop-i.invariant
