-- The object of a reference that a run holds: it is found by its call, and has as many bytes as its kind says.
use Rattle.std.proofs.Common.{◌≡◌, ℕ, zero, suc, Bool, true, false, cond, List, [], ◌∷◌, length, Some, Ok, refl, sym, ap, ◌∙◌, arith}
use Rattle.std.specs.Prelude.{Contains, ◌==◌}
use Rattle.std.specs.List.{find}
use Rattle.std.proofs.lemmas.Bool.{eqb-true, eq-eqb}
use Rattle.std.proofs.lemmas.List.{length-replicate}
use Rattle.std.proofs.lemmas.List.Elements.{All-contains}
use Rattle.ebpf_state.specs.declared.kinds.KindRow.{KindRow}
use Rattle.ebpf_state.specs.StateView.{StateView}
use Rattle.ebpf_state.specs.References.{kind_held}
use Rattle.ebpf_verify.specs.Memory.{size_of, size_held}
use Rattle.ebpf_machine.specs.Effect.{Found}
use Rattle.ebpf_machine.specs.World.{kinds_of, image_at}
use Rattle.ebpf_machine.specs.View.{ObjectView, RunView, found_in, object_at}
use Rattle.ebpf_machine.specs.Concretization.{AreReferred, calls_of}
use Rattle.ebpf_machine.specs.Sound.{AreSized}
use Rattle.ebpf_machine.proofs.Lists.ListLemmas.{Contains-head, Contains-tail}
use Rattle.ebpf_machine.proofs.Lists.Mapped.{Contains-unmapped}

-- a search for a call finds an object of it
record IsThere (objects : List ObjectView) (call : ℕ) : Type 0 where
  o : ObjectView
  among : Contains objects o
  same : o.call ≡ call
  finds : find (λ p. p.call == call) objects ≡ Some o

found_there : (objects : List ObjectView) (call : ℕ) (o : ObjectView) → Contains objects o → o.call ≡ call → IsThere objects call
found_there [] call o (k, lt, e) same = absurd (omega (arith, lt))
found_there (p ∷ objects) call o (zero, lt, e) same =
    record {
      o = p;
      among = Contains-head p objects;
      same = here;
      finds = ap (λ (t : Bool). cond t (Some p) (find (λ q. q.call == call) objects)) (eq-eqb p.call call here);
    } where
      here : p.call ≡ call
      here = ap (λ (q : ObjectView). q.call) e ∙ same
found_there (p ∷ objects) call o (suc k, lt, e) same = by (p.call == call) refl (found_there objects call o (k, omega (arith, lt), e) same) where
  by : (t : Bool) → (p.call == call) ≡ t → IsThere objects call → IsThere (p ∷ objects) call
  by true here rest =
      record {
        o = p;
        among = Contains-head p objects;
        same = eqb-true p.call call here;
        finds = ap (λ (t : Bool). cond t (Some p) (find (λ q. q.call == call) objects)) here;
      }
  by false other rest =
      record {
        o = rest.o;
        among = Contains-tail p rest.o objects rest.among;
        same = rest.same;
        finds = ap (λ (t : Bool). cond t (Some p) (find (λ q. q.call == call) objects)) other ∙ rest.finds;
      }

-- an object of a kind is as long as its row says
image_long : (rows : List KindRow) (kind : ℕ) → length (image_at (kinds_of rows) kind) ≡ size_of rows (Some kind)
image_long [] kind = refl
image_long (row ∷ rows) zero = length-replicate row.size row.fill
image_long (row ∷ rows) (suc kind) = image_long rows kind

-- what a run finds of the object of a call
pub record IsFound (v : RunView) (s : StateView) (call : ℕ) : Type 0 where
  pub found : Found
  pub is : object_at v.objects call ≡ Ok found
  pub kind_is : kind_held call s ≡ Some found.kind
  pub long : length found.bytes ≡ size_held v.subject.rows call s

pub held_found : (v : RunView) (s : StateView) (call : ℕ) → AreSized v → AreReferred s v.objects → Contains (calls_of v.objects) call → IsFound v s call
held_found v s call sized held among =
    let it = Contains-unmapped (λ (o : ObjectView). o.call) v.objects call among in
    let there = found_there v.objects call it.0 it.1 it.2 in
    let o = there.o in
    let kind : kind_held call s ≡ Some o.kind = ap (λ (c : ℕ). kind_held c s) (sym there.same) ∙ held o there.among in
    record {
      found = record { kind = o.kind; bytes = o.bytes };
      is = ap found_in there.finds;
      kind_is = kind;
      long =
          All-contains (λ (p : ObjectView). length p.bytes ≡ length (image_at (kinds_of v.subject.rows) p.kind)) v.objects o sized there.among
          ∙ image_long v.subject.rows o.kind
          ∙ ap (size_of v.subject.rows) (sym kind);
    }
