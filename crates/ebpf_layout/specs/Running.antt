-- What it means that two programs run alike on the machine of the model, whose jumps lead forward and back.
use Rattle.std.specs.Prelude.{◌≡◌, ◌≤◌, ◌*◌, ℕ, zero, suc, List, [], length, map, Option}
use Rattle.ebpf_insn.specs.declared.insn.Insn.{Insn}
use Rattle.ebpf_state.specs.declared.kinds.KindRow.{KindRow}
use Rattle.ebpf_verify.specs.declared.decl.Decl.{Decl}
use Rattle.ebpf_verify.specs.Subject.{Subject}
use Rattle.ebpf_machine.specs.Effect.{Found}
use Rattle.ebpf_machine.specs.World.{Going, first_frame}
use Rattle.ebpf_machine.specs.View.{CallResult, ObjectView, RunView, stepped}

-- a run at its first instruction
abbrev pub first_view : Subject → List ℕ → RunView
first_view subject context = record {
  subject = subject;
  context = context;
  pc = 0;
  frame = first_frame;
  objects = [];
  replies = [];
  taken = [];
  executed = 0;
  status = Going;
}

-- a run after n instructions more, where each call of new or of swap is answered what its number says
unfoldable pub run_on : ℕ → (ℕ → CallResult) → RunView → RunView
run_on zero told v = v
run_on (suc n) told v = let w = run_on n told v in stepped (told (length w.replies)) w

-- the kind and the bytes of an object, whatever call was granted it
abbrev pub content : ObjectView → Found
content o = record { kind = o.kind; bytes = o.bytes }

-- as much came of one run as of the other: how it is, with its number or its trap; its output; what its calls were answered; and what
-- it holds
pub record IsAsFar (v w : RunView) : Type 0 where
  pub status : w.status ≡ v.status
  pub output : w.frame.output ≡ v.frame.output
  pub replies : w.replies ≡ v.replies
  pub taken : w.taken ≡ v.taken
  pub objects : map content w.objects ≡ map content v.objects

-- a program declared so, on a context
abbrev pub run_of : List (Option Insn) → Decl → List KindRow → List ℕ → RunView
run_of p decl rows context = first_view (record { program = p; decl = decl; rows = rows }) context

-- whatever is declared, on any context, whatever the calls are answered: after n instructions of the one, the other is as far after
-- as many or at most twice as many
abbrev pub RunAlike : List (Option Insn) → List (Option Insn) → Type 0
RunAlike p q = (decl : Decl) (rows : List KindRow) (context : List ℕ) (told : ℕ → CallResult) (n : ℕ)
    → (m : ℕ) × (n ≤ m) × (m ≤ 2 * n) × IsAsFar (run_on n told (run_of p decl rows context)) (run_on m told (run_of q decl rows context))
