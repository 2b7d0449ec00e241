-- What is under the sentence of a slot that needs another part of the file.
use Rattle.std.proofs.Common.{◌≡◌, ℕ, List, ◌++◌, Option, Some, None, Result, Ok, Err, OnOk, refl, sym, subst, append-nil}
use Rattle.ebpf_object_file.specs.declared.holding_line.HoldingLine.{HoldingLine}
use Rattle.ebpf_object_file.specs.declared.object_fault.ObjectFault.{ObjectFault}
use Rattle.ebpf_object_file.specs.declared.object_fault.ObjectFault.TheVariants as object
use Rattle.ebpf_object_file.specs.declared.outside.Outside.{Outside}
use Rattle.ebpf_object_file.specs.HoldingLine.{IsHoldingLine}
use Rattle.ebpf_command.specs.declared.format.Format.{Format}
use Rattle.ebpf_input.specs.Formats.{place_in}
use Rattle.ebpf_input.specs.ObjectText.{IsUnder, holding_in}

module _ (format : Format) (file : List ℕ) (e : ObjectFault) (o : Outside) (is : e ≡ object.Outside o) where
  under_by : (holding : Option HoldingLine) → IsHoldingLine file o.place o.at holding → IsUnder format file e (holding_in format holding)
  under_by holding held =
      subst (λ (x : ObjectFault). IsUnder format file x (holding_in format holding)) (sym is) (holding, held, refl)

  pub with_line : {A E : Type 0} (result : Result A E) (h : HoldingLine) (old new : List ℕ) → IsHoldingLine file o.place o.at (Some h)
      → OnOk result (new ≡ old ++ place_in format h.lines h.line) → OnOk result ((under : List ℕ) × IsUnder format file e under × (new ≡ old ++ under))
  with_line (Ok _) h old new held written = (place_in format h.lines h.line, under_by (Some h) held, written)
  with_line (Err _) h old new held written = tt

  pub without : (old : List ℕ) → IsHoldingLine file o.place o.at None → (under : List ℕ) × IsUnder format file e under × (old ≡ old ++ under)
  without old none = (holding_in format None, under_by None none, sym (append-nil old))
