-- A run as it sees itself, and the same run in the new program: its objects are named by where the calls are now.
use Rattle.std.proofs.Common.{◌≡◌, ℕ, Bool, true, false, cond, List, [], ◌∷◌, Option, Some, None, refl, sym, ap, ◌∙◌, inl, inr}
use Rattle.std.specs.Prelude.{map, ◌==◌, option_map}
use Rattle.std.specs.List.{find}
use Rattle.std.proofs.lemmas.Bool.{cases_eq, eq-eqb, ne_eqb}
use Rattle.std.proofs.lemmas.List.{length-map}
use Rattle.ebpf_insn.specs.declared.insn.Insn.{Insn}
use Rattle.ebpf_machine.specs.Values.{Trap, AnotherRunsObject}
use Rattle.ebpf_machine.specs.Renaming.{frame_renamed}
use Rattle.ebpf_machine.specs.View.{ObjectView, RunView, found_in, object_at, environment_of_view}
use Rattle.ebpf_machine.proofs.World.Telling.{Telling, trap_told, found_told}
use Rattle.ebpf_machine.proofs.World.Projection.{IsToldAs}

-- no two slots have one place
abbrev pub AreApart : (ℕ → ℕ) → Type 0
AreApart place = (a b : ℕ) → place a ≡ place b → a ≡ b

-- names are given by places, and nothing is hidden
abbrev pub placed : (ℕ → ℕ) → Telling ℕ ℕ
placed place = record { name = place; hides = false }

abbrev pub object_placed : (ℕ → ℕ) → ObjectView → ObjectView
object_placed place o = record { call = place o.call; kind = o.kind; bytes = o.bytes }

-- the run in the new program, after n instructions
abbrev pub laid_view : List (Option Insn) → (ℕ → ℕ) → ℕ → RunView → RunView
laid_view q place executed v = record {
  subject = record { program = q; decl = v.subject.decl; rows = v.subject.rows };
  context = v.context;
  pc = place v.pc;
  frame = frame_renamed place v.frame;
  objects = map (object_placed place) v.objects;
  replies = v.replies;
  taken = v.taken;
  executed = executed;
  status = v.status;
}

pub trap_kept : (place : ℕ → ℕ) (trap : Trap) → trap_told (placed place) trap ≡ trap
trap_kept place AnotherRunsObject = refl
trap_kept place _ = refl

pub same_names : (place : ℕ → ℕ) (a b : ℕ) → AreApart place → (place a == place b) ≡ (a == b)
same_names place a b apart = elim (cases_eq a b) [
  | inl e ↦ eq-eqb (place a) (place b) (ap place e) ∙ sym (eq-eqb a b e)
  | inr ne ↦ ne_eqb (place a) (place b) (λ e. ne (apart a b e)) ∙ sym (ne_eqb a b ne)
]

-- an object is found by its place where it was found by its slot
found_placed : (place : ℕ → ℕ) (call : ℕ) (objects : List ObjectView) → AreApart place
    → find (λ o. o.call == place call) (map (object_placed place) objects) ≡ option_map (object_placed place) (find (λ o. o.call == call) objects)
found_placed place call [] apart = refl
found_placed place call (o ∷ objects) apart = rw (same_names place o.call call apart) (by (o.call == call) (found_placed place call objects apart)) where
  rest : Option ObjectView
  rest = find (λ (x : ObjectView). x.call == call) objects

  by : (t : Bool) → find (λ x. x.call == place call) (map (object_placed place) objects) ≡ option_map (object_placed place) rest
      → cond t (Some (object_placed place o)) (find (λ x. x.call == place call) (map (object_placed place) objects))
      ≡ option_map (object_placed place) (cond t (Some o) rest)
  by true e = refl
  by false e = e

told_found : (place : ℕ → ℕ) (o : Option ObjectView) → found_in (option_map (object_placed place) o) ≡ found_told (placed place) (found_in o)
told_found place None = refl
told_found place (Some o) = refl

objects_placed : (place : ℕ → ℕ) (call : ℕ) (objects : List ObjectView) → AreApart place
    → object_at (map (object_placed place) objects) (place call) ≡ found_told (placed place) (object_at objects call)
objects_placed place call objects apart = rw (found_placed place call objects apart) (told_found place (find (λ o. o.call == call) objects))

-- what the run meets in the new program
pub met : (q : List (Option Insn)) (place : ℕ → ℕ) (executed : ℕ) (v : RunView) → AreApart place
    → IsToldAs (placed place) (environment_of_view v) (environment_of_view (laid_view q place executed v)) v.frame
met q place executed v apart = record {
  context = refl;
  kinds = refl;
  holds = length-map v.objects (object_placed place);
  objects = λ n has. objects_placed place n v.objects apart;
  names = λ n m has had. same_names place n m apart;
}
