-- What a command that knows lines of C writes of a file without them.
use Rattle.std.proofs.Common.{List, ℕ, Option, Result, Ok, Err, subst, sym}
use Rattle.std.specs.Prelude.{Some}
use Rattle.ebpf_object_file.specs.Source.{HasNoTables}
use Rattle.ebpf_command.specs.declared.done.Done.{Done}
use Rattle.ebpf_command.specs.declared.done.EngineFault.{EngineFault}
use Rattle.ebpf_command.specs.Response.{Response}
use Rattle.ebpf_command.specs.Writing.{Responding, Writes, WritesBeginning}
use Rattle.ebpf_input.specs.ObjectText.{Refusing, RespondsObjectOr, WritesAnswer, WritesPlain}

-- a response to a file without lines is the plain one
abbrev pub IsPlain : (Refuses : Refusing) → Responding → Responding → List ℕ → Type 0
IsPlain Refuses Lined Sends name = (file : List ℕ) (response : Response) → HasNoTables file → Lined file response → RespondsObjectOr Refuses Sends name file response

-- so that is what is written
written : (Refuses : Refusing) (Lined Sends : Responding) (name file : List ℕ) (old new : Option (List ℕ)) (result : Result Done EngineFault)
    → IsPlain Refuses Lined Sends name → HasNoTables file → Writes Lined (Some file) old new result → Writes (RespondsObjectOr Refuses Sends name) (Some file) old new result
written Refuses Lined Sends name file old new (Ok done) plain none h = (h.0, plain file h.0 none h.1, h.2, h.3)
written Refuses Lined Sends name file old new (Err fault) plain none h = tt

begun : (Refuses : Refusing) (Lined Sends : Responding) (name file : List ℕ) (old new : Option (List ℕ)) (result : Result Done EngineFault)
    → IsPlain Refuses Lined Sends name → HasNoTables file → WritesBeginning Lined (Some file) old new result
    → WritesBeginning (RespondsObjectOr Refuses Sends name) (Some file) old new result
begun Refuses Lined Sends name file old new (Ok done) plain none h = tt
begun Refuses Lined Sends name file old new (Err fault) plain none h = λ e. let b = h e in (b.0, plain file b.0 none b.1, b.2)

pub writes_plain : (Refuses : Refusing) (Lined Sends : Responding) (name : List ℕ) (input old new : Option (List ℕ)) (result : Result Done EngineFault)
    → IsPlain Refuses Lined Sends name → Writes Lined input old new result → WritesBeginning Lined input old new result
    → WritesPlain Refuses Sends name input old new result
writes_plain Refuses Lined Sends name input old new result plain wrote began file is none =
    subst (λ (i : Option (List ℕ)). WritesAnswer (RespondsObjectOr Refuses Sends name) i old new result) (sym is) (record {
      response = written Refuses Lined Sends name file old new result plain none (subst (λ (i : Option (List ℕ)). Writes Lined i old new result) is wrote);
      beginning = begun Refuses Lined Sends name file old new result plain none (subst (λ (i : Option (List ℕ)). WritesBeginning Lined i old new result) is began);
    })
