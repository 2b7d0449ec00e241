use Rattle.std.proofs.Common.{◌<◌, length, take, refl, ap, ◌∙◌, arith}
use Rattle.std.specs.Prelude.{string_bytes}
use Rattle.ebpf_command.specs.declared.done.EngineFault.TheVariants.{Input}
use Rattle.ebpf_stream.specs.Answering.{position_of}
use Rattle.ebpf_stream.specs.Feeding.{set_up}
use Rattle.ebpf_stream.proofs.EndLemmas.{served_all, served_first, served_more, served_part}
use Rattle.ebpf_stream.proofs.ServeLemmas.{serves_nothing, serves_stopped}
use Rattle.ebpf_stream.proofs.stream.serve.Goals as goal

pub returns-in-Err-clause-served : goal.returns-in-Err-clause-served
returns-in-Err-clause-served g c =
    serves_nothing (set_up c.args.setup.now) (g.I.Read.remaining c.args.reader.now) (g.W.Write.contents c.args.writer.now) (g.W.Write.contents c.flush.new.writer) (string_bytes c.args.feed.now.answers.text) (position_of c.args.feed.now.answers) c.in-Err.ensures.beginning

pub reading-init : goal.reading-init
reading-init g c = (
  served_first (set_up c.args.setup.now) (g.I.Read.remaining c.args.reader.now) (g.W.Write.contents c.args.writer.now) (g.W.Write.contents c.flush.new.writer) (string_bytes c.args.feed.now.answers.text) c.flush.new.self
      (ap (λ v. v.items) c.flush.ensures.kept ∙ c.requires.kept) (c.flush.ensures.position ∙ c.requires.position) c.in_default.ensures.written,
  c.in_default.ensures.empty,
  refl,
)

pub returns-in_default-read-clause-served : goal.returns-in_default-read-clause-served
returns-in_default-read-clause-served g c =
    serves_stopped (set_up c.args.setup.now) Input (g.I.Read.remaining c.args.reader.now) (g.I.Read.remaining c.reading.reader) (g.W.Write.contents c.args.writer.now) (g.W.Write.contents c.reading.writer)
    (string_bytes c.args.feed.now.answers.text) c.reading.feed (position_of c.args.feed.now.answers) c.reading.invariant.0

pub returns-then-n-eq0-clause-served : goal.returns-then-n-eq0-clause-served
returns-then-n-eq0-clause-served g c =
    let some : 0 < length c.read.new.buf = omega (arith, c.read.auto.buf, c.reading.invariant.2) in
    served_all (set_up c.args.setup.now) c.finish.result (g.I.Read.remaining c.args.reader.now) (g.I.Read.remaining c.reading.reader) (g.I.Read.remaining c.read.new.self) (g.W.Write.contents c.args.writer.now) (g.W.Write.contents c.reading.writer) (g.W.Write.contents c.finish.new.writer)
    (string_bytes c.args.feed.now.answers.text) c.read.new.buf c.in-Ok.n c.reading.feed c.finish.new.feed c.reading.invariant.0 c.if-n-eq0.true c.in-Ok.ensures.bytes.0
    (c.in-Ok.ensures.bytes.1 c.if-n-eq0.true some) c.finish.ensures

pub returns-in-Err-take_all-clause-served : goal.returns-in-Err-take_all-clause-served
returns-in-Err-take_all-clause-served g c =
    served_part (set_up c.args.setup.now) c.in-Err-take_all.fault (g.I.Read.remaining c.args.reader.now) (g.I.Read.remaining c.reading.reader) (g.I.Read.remaining c.read.new.self) (g.W.Write.contents c.args.writer.now) (g.W.Write.contents c.reading.writer) (g.W.Write.contents c.take_all.new.writer)
    (string_bytes c.args.feed.now.answers.text) (take c.in-Ok.n c.read.new.buf) c.reading.feed c.take_all.new.feed (position_of c.args.feed.now.answers) c.reading.invariant.0 c.reading.invariant.1 c.in-Ok.ensures.bytes.0 c.in-Err-take_all.ensures

pub reading-preserved : goal.reading-preserved
reading-preserved g c =
    let next = served_more (set_up c.args.setup.now) (g.I.Read.remaining c.args.reader.now) (g.I.Read.remaining c.reading.reader) (g.I.Read.remaining c.read.new.self) (g.W.Write.contents c.args.writer.now) (g.W.Write.contents c.reading.writer) (g.W.Write.contents c.take_all.new.writer)
    (string_bytes c.args.feed.now.answers.text) (take c.in-Ok.n c.read.new.buf) c.reading.feed c.take_all.new.feed c.reading.invariant.0 c.reading.invariant.1 c.in-Ok.ensures.bytes.0 c.in_default-take_all.ensures in
    (next.0, next.1, omega (arith, c.read.auto.buf, c.reading.invariant.2))

pub returns-clause-served : goal.returns-clause-served
returns-clause-served g c =
    serves_stopped (set_up c.args.setup.now) Input (g.I.Read.remaining c.args.reader.now) (g.I.Read.remaining c.reading.reader) (g.W.Write.contents c.args.writer.now) (g.W.Write.contents c.reading.writer)
    (string_bytes c.args.feed.now.answers.text) c.reading.feed (position_of c.args.feed.now.answers) c.reading.invariant.0
