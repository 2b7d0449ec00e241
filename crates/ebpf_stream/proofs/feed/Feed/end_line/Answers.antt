use Rattle.std.proofs.Common.{vec_len, sym, ◌∙◌, arith}
use Rattle.ebpf_stream.specs.Feeding.{set_up}
use Rattle.ebpf_stream.proofs.FeedLemmas.{ends_direct, ends_kept}
use Rattle.ebpf_stream.proofs.LineLemmas.{is_zero, none_in}
use Rattle.ebpf_stream.proofs.feed.Feed.end_line.Goals as goal

pub returns-then-is_empty-clause-ended : goal.returns-then-is_empty-clause-ended
returns-then-is_empty-clause-ended c =
    let zero_test = is_zero (vec_len c.args.self.now.kept) (sym c.is_empty.ensures ∙ c.if-is_empty.true) in
    let none = none_in c.args.self.now.kept.items (omega (arith, zero_test, c.args.self.now.kept.ok.0)) in
    ends_direct c.answer.result (set_up c.args.setup.now) c.args.self.now _ c.args.piece.now c.requires none none c.answer.ensures.answered

pub returns-clause-ended : goal.returns-clause-ended
returns-clause-ended c =
    ends_kept c.end.result (set_up c.args.setup.now) c.args.self.now c.keep.new.self c.end.new.self c.args.piece.now c.requires c.in_ok-keep.ensures.kept c.keep.ensures.answers c.end.ensures.answered c.end.ensures.kept
