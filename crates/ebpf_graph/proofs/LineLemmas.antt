-- A line of the listing without its newline, and as a label has it.
use Rattle.std.proofs.Common.{◌≡◌, ℕ, List, [], ◌∷◌, ◌++◌, sym, ap, ◌∙◌, append_assoc, cond, Result, Ok, Err, is_ok, OnOk}
use Rattle.std.specs.Prelude.{codes, decimal}
use Rattle.std.proofs.lemmas.List.{append_cancel_right}
use Rattle.ebpf_insn.specs.declared.insn.Insn.{Insn}
use Rattle.ebpf_text.specs.Listing.{insn_text, line_of}
use Rattle.ebpf_graph.specs.Graph.{label_line}

abbrev pub unended : ℕ → Insn → List ℕ
unended slot i = decimal slot ++ (codes ": " ++ insn_text i)

with_end : (slot : ℕ) (i : Insn) (end : List ℕ) → unended slot i ++ end ≡ decimal slot ++ (codes ": " ++ (insn_text i ++ end))
with_end slot i end =
    append_assoc (decimal slot) (codes ": " ++ insn_text i) end
    ∙ ap (λ (xs : List ℕ). decimal slot ++ xs) (append_assoc (codes ": ") (insn_text i) end)

-- a line of the listing ends in a newline
pub is_ended : (line : List ℕ) (slot : ℕ) (i : Insn) → line ≡ line_of slot i → line ≡ unended slot i ++ (10 ∷ [])
is_ended line slot i is = is ∙ sym (with_end slot i (10 ∷ []))

-- what is before it, and the end of a line of a label
pub ends_left : (line words : List ℕ) (slot : ℕ) (i : Insn) → line ≡ line_of slot i → line ≡ words ++ (10 ∷ []) → words ++ codes "\\l" ≡ label_line slot i
ends_left line words slot i is cut =
    ap (λ (xs : List ℕ). xs ++ codes "\\l") (append_cancel_right words (unended slot i) (10 ∷ []) (sym cut ∙ is_ended line slot i is))
    ∙ with_end slot i (codes "\\l")

-- what is written of it, and then that end
pub left_written : {A E : Type 0} (result : Result A E) (before one new words line : List ℕ) → one ≡ before ++ words → words ++ codes "\\l" ≡ line
    → new ≡ cond (is_ok result) (one ++ codes "\\l") one → OnOk result (new ≡ before ++ line)
left_written (Err _) before one new words line f g k = tt
left_written (Ok _) before one new words line f g k =
    k ∙ (ap (λ (xs : List ℕ). xs ++ codes "\\l") f ∙ (append_assoc before words (codes "\\l") ∙ ap (λ (xs : List ℕ). before ++ xs) g))
