use Rattle.std.proofs.Common.{◌≡◌, length}
use Rattle.ebpf_cover.proofs.replaying.Replaying.fill.Given as goal

abbrev pub invariant-filled : goal.invariant-filled
invariant-filled l =
    (l.self.inner ≡ l.fn.self.inner) × (l.object.slot ≡ l.fn.object.slot) × (l.object.kind ≡ l.fn.object.kind)
    × (length l.object.bytes.items ≡ length l.fn.object.bytes.items)
