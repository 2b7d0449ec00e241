use Rattle.std.proofs.Common.{◌≡◌, ◌<◌, ◌+◌, ◌-◌, ◌++◌, ℕ, [], ◌∷◌, List, length, get_or, take, drop, Ok, refl, ap, subst, arith, add_assoc, length-drop}
use Rattle.std.proofs.lemmas.List.{take_all, take_rest}
use Rattle.ebpf_command.specs.declared.done.EngineFault.TheVariants.{NoMemory}
use Rattle.ebpf_stream.specs.Feeding.{Takes, set_up}
use Rattle.ebpf_stream.proofs.FeedLemmas.{below_end, takes_last, takes_line, takes_next, takes_no_line, takes_no_piece, takes_no_relief}
use Rattle.ebpf_stream.proofs.FeedLemmas.{takes_nothing, takes_piece, takes_relief, takes_until, takes_until_relief, ten_there, whole_rest}
use Rattle.ebpf_stream.proofs.feed.Feed.take.Given.{Over}
use Rattle.ebpf_stream.proofs.feed.Feed.take.Goals.{In_default}
use Rattle.ebpf_stream.proofs.feed.Feed.take.Goals as goal

pub taking-init : goal.taking-init
taking-init g c = (omega arith, takes_nothing (set_up c.args.setup.now) (g.W.Write.contents c.args.writer.now) c.args.self.now)

pub returns-in-Ok : goal.returns-in-Ok
returns-in-Ok g c =
    let s = set_up c.args.setup.now in
    let bytes = c.args.bytes.now in
    let from = c.taking.from in
    let rest = take (length bytes - from) (drop from bytes) in
    let b = g.W.Write.contents c.taking.writer in
    let piece = takes_piece s b c.taking.self c.keep.new.self rest (whole_rest c.line_length-length.result rest c.if-length-rest.true c.line_length-length.ensures.whole) c.in-Ok.ensures.kept c.keep.ensures.answers in
    takes_last s (g.W.Write.contents c.args.writer.now) b b c.args.self.now c.taking.self c.keep.new.self bytes from c.taking.invariant.1
    (subst (λ (xs : List ℕ). Takes s b b c.taking.self c.keep.new.self xs (Ok tt)) (take_rest bytes from) piece)

pub returns-in-Err : goal.returns-in-Err
returns-in-Err g c =
    let s = set_up c.args.setup.now in
    let bytes = c.args.bytes.now in
    let from = c.taking.from in
    let b = g.W.Write.contents c.taking.writer in
    takes_until s NoMemory (g.W.Write.contents c.args.writer.now) b b c.args.self.now c.taking.self c.keep.new.self bytes (take (length bytes - from) (drop from bytes)) from (length bytes - from) refl
    c.taking.invariant.1 (takes_no_piece s b c.taking.self c.keep.new.self (take (length bytes - from) (drop from bytes)) c.keep.ensures.answers)

pub returns-in-Err-end_line : goal.returns-in-Err-end_line
returns-in-Err-end_line g c =
    let s = set_up c.args.setup.now in
    let bytes = c.args.bytes.now in
    let from = c.taking.from in
    let n = c.line_length-length.result in
    let rest = take (length bytes - from) (drop from bytes) in
    let b = g.W.Write.contents c.taking.writer in
    takes_until s c.in-Err-end_line.fault (g.W.Write.contents c.args.writer.now) b b c.args.self.now c.taking.self c.end_line.new.self bytes (take n rest) from n
    (ap (λ (xs : List ℕ). take n xs) (take_rest bytes from))
    c.taking.invariant.1 (takes_no_line s c.in-Err-end_line.fault b c.taking.self c.end_line.new.self (take n rest) c.in-Err-end_line.ensures.fault c.in-Err-end_line.ensures.text)

-- a line was ended: the newline after it is there, and the line is taken
ended : (g : Over) (c : In_default g)
    → (c.taking.from + c.line_length-length.result < length c.args.bytes.now)
    × (get_or (drop c.taking.from c.args.bytes.now) c.line_length-length.result 0 ≡ 10)
    × Takes (set_up c.args.setup.now) (g.W.Write.contents c.taking.writer) (g.W.Write.contents c.taking.writer) c.taking.self c.end_line.new.self
    (take c.line_length-length.result (drop c.taking.from c.args.bytes.now) ++ 10 ∷ []) (Ok tt)
ended g c =
    let s = set_up c.args.setup.now in
    let bytes = c.args.bytes.now in
    let from = c.taking.from in
    let n = c.line_length-length.result in
    let rest = take (length bytes - from) (drop from bytes) in
    let is = take_rest bytes from in
    let inside = below_end bytes rest from n is c.taking.invariant.0 c.line_length-length.ensures.within c.if-length-rest.false in
    let b = g.W.Write.contents c.taking.writer in
    let line = takes_line s b c.taking.self c.end_line.new.self (take n rest ++ 10 ∷ []) c.in_default.ensures.ended in (
      inside,
      ten_there bytes rest from n is (c.line_length-length.ensures.ended (omega (arith, inside, ap length is, length-drop from bytes))),
      subst (λ (xs : List ℕ). Takes s b b c.taking.self c.end_line.new.self (take n xs ++ 10 ∷ []) (Ok tt)) is line,
    )

pub returns-in-Err-relieve : goal.returns-in-Err-relieve
returns-in-Err-relieve g c =
    let s = set_up c.args.setup.now in
    let line = ended g (goal.at.returns-in-Err-relieve g c).In_default in
    let b = g.W.Write.contents c.taking.writer in
    let d = g.W.Write.contents c.relieve.new.writer in
    takes_until_relief s (g.W.Write.contents c.args.writer.now) b d c.args.self.now c.taking.self c.end_line.new.self c.relieve.new.self
    c.args.bytes.now c.taking.from c.line_length-length.result line.0 line.1 c.taking.invariant.1 line.2
    (takes_no_relief s b d c.end_line.new.self c.relieve.new.self c.in-Err-relieve.ensures.beginning)

pub taking-preserved : goal.taking-preserved
taking-preserved g c =
    let s = set_up c.args.setup.now in
    let from = c.taking.from in
    let a = g.W.Write.contents c.args.writer.now in
    let b = g.W.Write.contents c.taking.writer in
    let d = g.W.Write.contents c.relieve.new.writer in
    let line = ended g (goal.at.taking-preserved g c).In_default in
    let relief = takes_relief s b d c.end_line.new.self c.relieve.new.self c.relieve.ensures.kept c.relieve.ensures.position c.in_default-relieve.ensures.sent in
    let next = takes_next s a b d c.args.self.now c.taking.self c.end_line.new.self c.relieve.new.self
    c.args.bytes.now from c.line_length-length.result line.0 line.1 c.taking.invariant.1 line.2 relief in (
      omega (arith, line.0),
      subst (λ (k : ℕ). Takes s a d c.args.self.now c.relieve.new.self (take k c.args.bytes.now) (Ok tt)) (add_assoc from c.line_length-length.result 1) next,
    )

pub returns : goal.returns
returns g c =
    let s = set_up c.args.setup.now in
    let bytes = c.args.bytes.now in
    subst (λ (xs : List ℕ). Takes s (g.W.Write.contents c.args.writer.now) (g.W.Write.contents c.taking.writer) c.args.self.now c.taking.self xs (Ok tt))
    (take_all c.taking.from bytes (omega (arith, c.taking-test.false))) c.taking.invariant.1
