use Rattle.std.proofs.Common.{◌≡◌, ◌-◌, min, length, vec_len, ap, ◌∙◌, arith}
use Rattle.ebpf_stream.proofs.FeedLemmas.{keeps}
use Rattle.ebpf_stream.proofs.feed.Feed.keep.Goals as goal

pub returns-clause-kept : goal.returns-clause-kept
returns-clause-kept c =
    let long : vec_len c.args.self.now.kept ≡ length c.args.self.now.kept.items = omega (arith, c.args.self.now.kept.ok.0) in
    keeps c.extend_from_slice.result _ c.args.self.now.kept.items c.args.piece.now c.min.result c.extend_from_slice.ensures.items
    (c.min.ensures ∙ ap (λ n. min n (length c.args.piece.now)) (c.saturating_sub-room.ensures ∙ ap (λ n. 65537 - n) (c.len.ensures ∙ long)))
