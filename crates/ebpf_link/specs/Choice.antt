-- Which word a program is linked with.
use Rattle.std.specs.Prelude.{◌≡◌, ◌⊎◌, ◌<◌, ℕ, suc, ℤ, List, Option, Some, None, IfSome}
use Rattle.ebpf_insn.specs.declared.insn.Insn.{Insn}
use Rattle.ebpf_insn.specs.Program.{insn_at}
use Rattle.ebpf_flow.specs.Flow.{flow_fault}
use Rattle.ebpf_state.specs.declared.kinds.KindRow.{KindRow}
use Rattle.ebpf_verify.specs.declared.decl.Decl.{Decl}
use Rattle.ebpf_verify.specs.Subject.{Subject}
use Rattle.ebpf_verify.specs.Verdict.{IsAccepted}
use Rattle.ebpf_link.specs.declared.choice.Given.{Given}
use Rattle.ebpf_link.specs.declared.fault.LinkFault.{LinkFault}
use Rattle.ebpf_link.specs.declared.fault.LinkFault.TheVariants.{NoWord}
use Rattle.ebpf_link.specs.declared.linked.Linked.{Linked}
use Rattle.ebpf_link.specs.Linking.{offset_at, IsLinked, IsLinkFault}
use Rattle.ebpf_link.specs.Apart.{IsOfWord}
use Rattle.ebpf_link.specs.Pointing.{ArePointing}
use Rattle.ebpf_link.specs.Right.{IsRight, IsShown}
use Rattle.ebpf_link.specs.Words.{IsFree, IsWord, word_at}

-- what is to be linked: a program, the offsets of its addresses, how long the context is before the data, what is declared of the context
-- with the data, and the kinds of object
pub record Wanted : Type 0 where
  pub program : List (Option Insn)
  pub offsets : List (Option ℤ)
  pub declared : ℕ
  pub decl : Decl
  pub rows : List KindRow

abbrev pub wanted : List (Option Insn) → List (Option ℤ) → ℕ → Decl → List KindRow → Wanted
wanted p offsets declared decl rows = record { program = p; offsets = offsets; declared = declared; decl = decl; rows = rows }

-- as the code has it
abbrev pub wanted_of : Given → Wanted
wanted_of given = wanted given.program.now given.offsets.now given.declared given.decl given.kinds.now

-- a linked program is judged with what is declared
abbrev pub subject_of : Wanted → List (Option Insn) → Subject
subject_of w q = record { program = q; decl = w.decl; rows = w.rows }

abbrev pub LinksTo : Wanted → ℤ → List (Option Insn) → Type 0
LinksTo w word q = IsLinked w.program w.offsets w.declared word q

-- linked with this word, the program isn't both accepted and shown to be right
abbrev pub Fails : Wanted → ℤ → Type 0
Fails w word = (q : List (Option Insn)) × LinksTo w word q × (IsAccepted (subject_of w q) → IsShown q word → ⊥)

-- linked with this word, it is accepted, but not shown to be right
abbrev pub IsUnshown : Wanted → ℤ → Type 0
IsUnshown w word = (q : List (Option Insn)) × LinksTo w word q × IsAccepted (subject_of w q) × (IsShown q word → ⊥)

-- the instructions of q that save the context's pointer in the word, or fetch it from there, are those that were added: the first, and the
-- first of each two that replace an immediate
abbrev pub AreAdded : List (Option ℤ) → ℤ → List (Option Insn) → Type 0
AreAdded offsets word q = (slot : ℕ) → IsOfWord word (insn_at q slot)
    → (slot ≡ 0) ⊎ ((of : ℕ) × (offset : ℤ) × (offset_at offsets of ≡ Some offset) × (slot ≡ suc of))

-- q is the program linked with a free word. If q is accepted, then in every run each address is right, and the word is. If the verifier
-- refuses q, then no free word does better.
pub record IsLinkedBy (w : Wanted) (word : ℤ) (q : List (Option Insn)) : Type 0 where
  pub among : IsWord word
  pub free : IsFree w.program word
  pub linked : LinksTo w word q
  pub added : AreAdded w.offsets word q
  pub right : IsAccepted (subject_of w q) → IsRight q word
  pub pointing : IsAccepted (subject_of w q) → ArePointing w.program w.offsets w.declared q
  pub best : flow_fault q ≡ None → (IsAccepted (subject_of w q) → ⊥) → (number : ℕ) → number < 4 → IsFree w.program (word_at number) → Fails w (word_at number)

-- why no word is taken: with each that is free the program is accepted, but not shown to be right
abbrev pub IsChoiceFault : Wanted → LinkFault → Type 0
IsChoiceFault w NoWord = (number : ℕ) → number < 4 → IsFree w.program (word_at number) → IsUnshown w (word_at number)
IsChoiceFault w fault = IsLinkFault w.program w.offsets w.declared fault

-- ---- the words below a number were tried, and none was taken

-- the first with which the verifier refused it
pub record IsRefused (w : Wanted) (l : Linked) : Type 0 where
  pub among : IsWord l.word
  pub free : IsFree w.program l.word
  pub linked : LinksTo w l.word l.program
  pub refused : IsAccepted (subject_of w l.program) → ⊥

pub record IsTried (w : Wanted) (number : ℕ) (refused : Option Linked) : Type 0 where
  pub failed : (k : ℕ) → k < number → IsFree w.program (word_at k) → Fails w (word_at k)
  pub unshown : refused ≡ None → (k : ℕ) → k < number → IsFree w.program (word_at k) → IsUnshown w (word_at k)
  pub first : IfSome refused (IsRefused w)
