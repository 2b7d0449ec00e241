use Rattle.std.proofs.Common.{◌≡◌, [], length}
use Rattle.std.specs.Prelude.{string_bytes}
use Rattle.ebpf_stream.specs.Feeding.{set_up}
use Rattle.ebpf_stream.proofs.ServeLemmas.{IsServed}
use Rattle.ebpf_stream.proofs.stream.serve.Given as goal

abbrev pub invariant-reading : goal.invariant-reading
invariant-reading g l =
    IsServed (set_up l.setup) (g.I.Read.remaining l.fn.reader) (g.I.Read.remaining l.reader) (g.W.Write.contents l.fn.writer) (g.W.Write.contents l.writer)
    (string_bytes l.fn.feed.answers.text) l.feed
    × (string_bytes l.feed.answers.text ≡ [])
    × (length l.chunk ≡ 4096)
