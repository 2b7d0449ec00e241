use Rattle.std.proofs.Common.{◌≡◌, ◌++◌, List, ℕ, ap, sym, ◌∙◌, subst}
use Rattle.std.specs.Prelude.{string_bytes}
use Rattle.std.specs.Io.KnownBytes.{Appends}
use Rattle.ebpf_command.specs.Writing.{AppendsBeginning}
use Rattle.ebpf_stream.specs.Answering.{Position, IsAnswered, position_of}
use Rattle.ebpf_stream.specs.Feeding.{set_up}
use Rattle.ebpf_stream.specs.Totals.{TellAllLeft, totals_in}
use Rattle.ebpf_stream.proofs.EndLemmas.{finishes, finishes_unanswered, finishes_unended, finishes_untold, finishes_unwritten}
use Rattle.ebpf_stream.proofs.stream.finish.Given.{Over}
use Rattle.ebpf_stream.proofs.stream.finish.Goals.{In_default}
use Rattle.ebpf_stream.proofs.stream.finish.Goals as goal

pub returns-in-Err : goal.returns-in-Err
returns-in-Err g c = finishes_unanswered (set_up c.args.setup.now) c.in-Err.fault (g.W.Write.contents c.args.writer.now) c.args.feed.now c.end.new.self

-- what is answered is all that waits, since nothing waited before
told : (g : Over) (c : In_default g) → string_bytes c.end.new.self.answers.text ≡ c.in_default.ensures.answered.0
told g c = let answered = c.in_default.ensures.answered in answered.2 ∙ ap (λ (xs : List ℕ). xs ++ answered.0) c.requires

pub returns-in-Err-flush : goal.returns-in-Err-flush
returns-in-Err-flush g c =
    let a = g.W.Write.contents c.args.writer.now in
    let b = g.W.Write.contents c.flush.new.writer in
    let answered = c.in_default.ensures.answered in
    finishes_unwritten (set_up c.args.setup.now) a b c.args.feed.now c.end.new.self answered.0 answered.1
    (subst (λ (xs : List ℕ). AppendsBeginning a b xs) (told g (goal.at.returns-in-Err-flush g c).In_default) c.in-Err-flush.ensures.beginning)

pub returns-in-Err-end : goal.returns-in-Err-end
returns-in-Err-end g c =
    let a = g.W.Write.contents c.args.writer.now in
    let b = g.W.Write.contents c.flush.new.writer in
    let waited = told g (goal.at.returns-in-Err-end g c).In_default in
    finishes_untold (set_up c.args.setup.now) a b c.args.feed.now c.end.new.self c.in_default.ensures.answered.0 c.in_default.ensures.answered.1
    (subst (λ (xs : List ℕ). Appends a b xs) waited c.in_default-flush.ensures.written)

pub returns-in-Ok : goal.returns-in-Ok
returns-in-Ok g c =
    let s = set_up c.args.setup.now in
    let a = g.W.Write.contents c.args.writer.now in
    let b = g.W.Write.contents c.flush.new.writer in
    let d = g.W.Write.contents c.flush-2.new.writer in
    let end = c.in_default-end.ensures.told in
    let answered = c.in_default.ensures.answered in
    let rest = end.2 ∙ ap (λ (xs : List ℕ). xs ++ totals_in s.format end.0) c.in_default-flush.ensures.empty in
    let position = c.flush-2.ensures.position ∙ (c.end-2.ensures.position ∙ c.flush.ensures.position) in
    let left = subst (λ (p : Position). TellAllLeft p.shelves end.0) (sym (c.flush-2.ensures.position ∙ c.end-2.ensures.position)) end.1 in
    finishes s a b d c.args.feed.now c.flush-2.new.self answered.0 end.0
    (subst (λ (p : Position). IsAnswered s c.args.feed.now.kept.items (position_of c.args.feed.now.answers) p answered.0) (sym position) answered.1) left
    (subst (λ (xs : List ℕ). Appends a b xs) (told g (goal.at.returns-in-Ok g c).In_default) c.in_default-flush.ensures.written)
    (subst (λ (xs : List ℕ). Appends b d xs) rest c.in-Ok.ensures.written)

pub returns-in-Err-flush-2 : goal.returns-in-Err-flush-2
returns-in-Err-flush-2 g c =
    let s = set_up c.args.setup.now in
    let b = g.W.Write.contents c.flush.new.writer in
    let answered = c.in_default.ensures.answered in
    let end = c.in_default-end.ensures.told in
    let waited = told g (goal.at.returns-in-Err-flush-2 g c).In_default in
    let rest = end.2 ∙ ap (λ (xs : List ℕ). xs ++ totals_in s.format end.0) c.in_default-flush.ensures.empty in
    let left = subst (λ (p : Position). TellAllLeft p.shelves end.0) c.flush.ensures.position end.1 in
    finishes_unended s (g.W.Write.contents c.args.writer.now) b (g.W.Write.contents c.flush-2.new.writer) c.args.feed.now c.end.new.self answered.0 end.0 answered.1 left
    (subst (λ (xs : List ℕ). Appends (g.W.Write.contents c.args.writer.now) b xs) waited c.in_default-flush.ensures.written)
    (subst (λ (xs : List ℕ). AppendsBeginning b (g.W.Write.contents c.flush-2.new.writer) xs) rest c.in-Err-flush-2.ensures.beginning)
