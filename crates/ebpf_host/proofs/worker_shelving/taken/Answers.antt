use Rattle.std.proofs.Common.{◌∙◌, ℕ, List, ap, length}
use Rattle.ebpf_machine.specs.Kinds.{known_kinds}
use Rattle.ebpf_machine.specs.World.{image_at}
use Rattle.ebpf_object.specs.Object.{bytes_of, has_size}
use Rattle.ebpf_host.specs.Copying.{copied}
use Rattle.shared_store.proofs.ByKind.{answered_then}
use Rattle.ebpf_host.proofs.worker_shelving.taken.Goals as goal

pub returns-in-Some-clause-taken : goal.returns-in-Some-clause-taken
returns-in-Some-clause-taken c =
    let size = (has_size c.in-Some.object).0 ∙ ap (λ (k : ℕ). length (image_at known_kinds k)) c.in-Some.ensures.kind in
    record {
      answered = answered_then _ _ _ 0 0 1 0 0 0 c.in-Some.ensures.replies.answered c.give.ensures.goes;
      bytes = (bytes_of c.in-Some.object, size, c.copy.ensures ∙ ap (λ (bytes : List ℕ). copied bytes c.args.room.now) c.bytes.ensures);
    }
