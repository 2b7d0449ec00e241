-- The listing of a function that reads data of its file.
use Rattle.std.proofs.Common.{◌≡◌, ◌++◌, ◌∙◌, ℕ, List, Option, Result, Ok, Err, OnOk, ap, append_assoc, codes, decimal, inl, inr, subst}
use Rattle.std.specs.Prelude.{None, Some, true}
use Rattle.ebpf_command.specs.declared.format.Format.{Format}
use Rattle.ebpf_command.specs.Response.{Response}
use Rattle.ebpf_input.proofs.SourceLine.{LinesKnown}
use Rattle.ebpf_object_file.specs.declared.data_function.DataFunction.{DataFunction}
use Rattle.ebpf_object_file.specs.declared.lines.Lines.{Lines}
use Rattle.ebpf_object_file.specs.Source.{AreLinesOf, HasNoLinesOf}
use Rattle.ebpf_one.specs.DataListText.{ListsDataFunction, ListsDataLined, ListsDataSourced}

-- a text after another one, after a text
pub then_written : {A E : Type 0} (result : Result A E) (before one new a b : List ℕ) → one ≡ before ++ a → OnOk result (new ≡ one ++ b)
    → OnOk result (new ≡ before ++ (a ++ b))
then_written (Ok _) before one new a b f k = k ∙ (ap (λ (xs : List ℕ). xs ++ b) f ∙ append_assoc before a b)
then_written (Err _) before one new a b f k = tt

-- which data is meant, after the register that gets its address
pub use_written : {A E : Type 0} (result : Result A E) (before one new what : List ℕ) (number register : ℕ) → number ≡ register
    → one ≡ before ++ (codes "lddw r" ++ (decimal number ++ codes ", ")) → OnOk result (new ≡ one ++ what)
    → OnOk result (new ≡ before ++ (codes "lddw r" ++ (decimal register ++ (codes ", " ++ what))))
use_written result before one new what number register is f k =
    let after = then_written result before one new (codes "lddw r" ++ (decimal number ++ codes ", ")) what f k in
    let flat = ap (λ (xs : List ℕ). codes "lddw r" ++ xs) (append_assoc (decimal number) (codes ", ") what) in
    let written = subst (λ (xs : List ℕ). OnOk result (new ≡ before ++ xs)) flat after in
    subst (λ (n : ℕ). OnOk result (new ≡ before ++ (codes "lddw r" ++ (decimal n ++ (codes ", " ++ what))))) is written

-- the response to a function without lines, and with them
module _ (format : Format) (file : List ℕ) (f : DataFunction) (r : Option Lines) (response : Response) where
  pub of_no_lines : r ≡ None → LinesKnown file f.function r → ListsDataLined format file f None response → ListsDataFunction format true file f response
  of_no_lines e known h = let is : HasNoLinesOf file f.function.place.section = subst (LinesKnown file f.function) e known in inl (is, h)

  pub of_lines : (l : Lines) → r ≡ Some l → LinesKnown file f.function r → ListsDataSourced format file f l response
      → ListsDataFunction format true file f response
  of_lines l e known h = let are : AreLinesOf file f.function.place.section l = subst (LinesKnown file f.function) e known in inr (inl (l, are, h))
