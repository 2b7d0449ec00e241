-- What `list` writes of a file without lines.
use Rattle.std.proofs.Common.{ℕ, Bool, true, false, List, Option, Result, refl, inl, inr}
use Rattle.ebpf_command.specs.declared.format.Format.{Format}
use Rattle.ebpf_object_file.proofs.Unlined.{no_lines, no_fault_of_lines}
use Rattle.ebpf_command.specs.declared.done.Done.{Done}
use Rattle.ebpf_command.specs.declared.done.EngineFault.{EngineFault}
use Rattle.ebpf_command.specs.Writing.{Writes, WritesBeginning}
use Rattle.ebpf_input.specs.declared.ask.Input.{Input}
use Rattle.ebpf_input.specs.declared.ask.Input.TheVariants.{Program, Object}
use Rattle.ebpf_input.specs.declared.form.Form.TheVariants.{Raw}
use Rattle.ebpf_input.specs.ObjectText.{RespondsObjectOr, WritesInputPlain}
use Rattle.ebpf_input.proofs.Plain.{IsPlain, writes_plain}
use Rattle.ebpf_one.specs.DataListText.{ListsWithData}
use Rattle.ebpf_one.specs.ListText.{RespondsList}
use Rattle.ebpf_one.specs.SourceText.{RespondsSource, ListsInput}

pub list_plain : (format : Format) (name : List ℕ) → IsPlain (ListsWithData format true) (RespondsSource format name) (RespondsList format Raw) name
list_plain format name file response none (inl k) = inl (file, inl (k.0, refl), k.1)
list_plain format name file response none (inr (inl (short, f, wanted, inl k))) = inl (f.code.now, inr (short, f, wanted, refl), k.1)
list_plain format name file response none (inr (inl (short, f, wanted, inr (inl k)))) = absurd (no_lines file f.place.section k.0 none k.1)
list_plain format name file response none (inr (inl (short, f, wanted, inr (inr k)))) = absurd (no_fault_of_lines file name f k.0 wanted none k.1)
list_plain format name file response none (inr (inr k)) = inr k

-- by what the input is
pub lists_plain : (format : Format) (what : Input) (lines : Bool) (input old new : Option (List ℕ)) (result : Result Done EngineFault)
    → Writes (ListsInput format what lines) input old new result → WritesBeginning (ListsInput format what lines) input old new result
    → WritesInputPlain (ListsWithData format lines) (RespondsList format Raw) what input old new result
lists_plain format (Program form) lines input old new result wrote began = tt
lists_plain format (Object name) true input old new result wrote began =
    writes_plain (ListsWithData format true) (RespondsSource format name.now) (RespondsList format Raw) name.now input old new result (list_plain format name.now) wrote began
lists_plain format (Object name) false input old new result wrote began =
    let P = RespondsObjectOr (ListsWithData format false) (RespondsList format Raw) name.now in
    writes_plain (ListsWithData format false) P (RespondsList format Raw) name.now input old new result (λ file response none h. h) wrote began
