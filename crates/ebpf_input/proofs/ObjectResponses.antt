-- A command responds to an object file that is too long as to its beginning.
use Rattle.std.proofs.Common.{◌≡◌, inl, inr, ℕ, ◌<◌, List, length, refl, subst, arith}
use Rattle.std.proofs.lemmas.List.{length-take-le}
use Rattle.ebpf_command.specs.Input.{read_of}
use Rattle.ebpf_command.specs.Response.{Response}
use Rattle.ebpf_command.specs.Writing.{Responding}
use Rattle.ebpf_command.proofs.Written.{CutsLong}
use Rattle.ebpf_input.specs.declared.ask.Input.{Input}
use Rattle.ebpf_input.specs.declared.ask.Input.TheVariants.{Program, Object}
use Rattle.ebpf_input.specs.declared.form.Form.{Form}
use Rattle.ebpf_input.specs.declared.form.Form.TheVariants.{Raw}
use Rattle.ebpf_input.specs.ObjectText.{IsTaken, Refusing, RespondsObjectOr, RespondsInputOr}

pub read_long : (file : List ℕ) → 1048577 < length file → length (read_of file) ≡ 1048577
read_long file long = length-take-le 1048577 file (omega (arith, long))

-- so its beginning is taken as it is
module _ (Refuses : Refusing) where
  taken_long : (P : Responding) → CutsLong P → (name : List ℕ) (file bytes : List ℕ) (response : Response) → 1048577 < length file
      → IsTaken name (read_of file) bytes → P bytes response → RespondsObjectOr Refuses P name file response
  taken_long P cuts name file bytes response long (inl k) h =
      inl (file, inl (omega (arith, long), refl), cuts file response long (subst (λ (xs : List ℕ). P xs response) k.1 h))
  taken_long P cuts name file bytes response long (inr k) h =
      let short = k.0 in let read = read_long file long in absurd (omega (arith, short, read))

  pub object_cuts : (P : Responding) → CutsLong P → (name : List ℕ) → CutsLong (RespondsObjectOr Refuses P name)
  object_cuts P cuts name file response long (inl k) = taken_long P cuts name file k.0 response long k.1 k.2
  object_cuts P cuts name file response long (inr k) =
      let short = k.1.0 in let read = read_long file long in absurd (omega (arith, short, read))

  -- so does a command to an input that is too long, whatever it is
  pub input_cuts : (Sends : Form → Responding) → ((form : Form) → CutsLong (Sends form)) → (input : Input)
      → CutsLong (RespondsInputOr Refuses input Sends)
  input_cuts Sends cuts (Program form) = cuts form
  input_cuts Sends cuts (Object name) = object_cuts (Sends Raw) (cuts Raw) name.now
