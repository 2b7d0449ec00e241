use Rattle.std.proofs.Common.{◌≡◌, ap, ◌∙◌, arith}
use Rattle.ebpf_object.specs.Object.{kind_of}
use Rattle.ebpf_owned.specs.Claims.{lost}
use Rattle.ebpf_owned.proofs.Passing.{once_given}
use Rattle.worker_pool.proofs.client.Client.shelved.Goals as goal

pub invariant_of-self : goal.invariant_of-self
invariant_of-self g c =
    let client = c.args.self.now in
    let e = c.shelved.ensures in record {
      slots = client.slots;
      seated = e.table ∙ client.seated;
      once = once_given c.args.given (λ o. kind_of o ≡ c.args.shelf) client.seat.held _ c.requires.given e.held client.once;
      few = client.few;
      clashed = let same = ap lost e.notes.0 in omega (arith, same, client.clashed);
    }
