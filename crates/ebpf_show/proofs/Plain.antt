-- What `explain` writes of a file without lines.
use Rattle.std.proofs.Common.{ℕ, List, Option, Result, refl, inl, inr}
use Rattle.ebpf_object_file.proofs.Unlined.{no_lines, no_fault_of_lines}
use Rattle.ebpf_command.specs.declared.done.Done.{Done}
use Rattle.ebpf_command.specs.declared.done.EngineFault.{EngineFault}
use Rattle.ebpf_command.specs.Writing.{Responding, Writes, WritesBeginning}
use Rattle.ebpf_input.specs.declared.ask.Ask.{Ask}
use Rattle.ebpf_input.specs.declared.ask.Input.{Input}
use Rattle.ebpf_input.specs.declared.ask.Input.TheVariants.{Program, Object}
use Rattle.ebpf_input.specs.declared.form.Form.TheVariants.{Raw}
use Rattle.ebpf_input.specs.ObjectText.{WritesInputPlain}
use Rattle.ebpf_input.proofs.Plain.{IsPlain, writes_plain}
use Rattle.ebpf_show.specs.declared.explain_object.Detail.{Detail}
use Rattle.ebpf_show.specs.ExplainObject.{ExplainsObject, ExplainsBy, ExplainsWithData}
use Rattle.ebpf_show.specs.Shown.{ExplainsTo}

module _ (ask : Ask) (d : Detail) where
  abbrev pub Plainly : Responding
  Plainly = ExplainsTo ask.format d.unroll Raw ask.context.now ask.held

  explain_plain : (name : List ℕ) → IsPlain (ExplainsWithData ask d) (ExplainsObject ask d name) Plainly name
  explain_plain name file response none (inl k) = inl (file, inl (k.0, refl), k.1)
  explain_plain name file response none (inr (inl (short, f, wanted, inl k))) = absurd (no_lines file f.place.section k.0 none k.1)
  explain_plain name file response none (inr (inl (short, f, wanted, inr (inl k)))) = inl (f.code.now, inr (short, f, wanted, refl), k.1)
  explain_plain name file response none (inr (inl (short, f, wanted, inr (inr k)))) = absurd (no_fault_of_lines file name f k.0 wanted none k.1)
  explain_plain name file response none (inr (inr k)) = inr k

  -- by what the input is
  pub explains_plain : (what : Input) (input old new : Option (List ℕ)) (result : Result Done EngineFault)
      → Writes (ExplainsBy ask d what) input old new result → WritesBeginning (ExplainsBy ask d what) input old new result
      → WritesInputPlain (ExplainsWithData ask d) Plainly what input old new result
  explains_plain (Program form) input old new result wrote began = tt
  explains_plain (Object name) input old new result wrote began =
      writes_plain (ExplainsWithData ask d) (ExplainsObject ask d name.now) Plainly name.now input old new result (explain_plain name.now) wrote began
