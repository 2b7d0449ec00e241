-- A line of a job whose program is the last job's.
use Rattle.std.specs.Prelude.{◌≡◌, ◌++◌, true, List, ℕ, [], ◌∷◌, codes, length, take, Some}
use Rattle.ebpf_reader.specs.declared.again.Again.{Again}
use Rattle.ebpf_reader.specs.declared.again.Beginning.{Beginning}
use Rattle.ebpf_reader.specs.declared.script.Script.{Script}
use Rattle.ebpf_reader.specs.Names.{is_name}
use Rattle.ebpf_reader.specs.ParsedScript.{number_of, declared_by}
use Rattle.ebpf_reader.specs.ReadScripts.{parsed_script}
use Rattle.ebpf_reader.specs.ScriptLines.{IsFirst}
use Rattle.ebpf_reader.specs.Words.{words}

-- the bytes that begin the text are `run`, such a name and a space after each; its program has this number, and declares this many bytes
pub record IsBeginning (script : Script) (b : Beginning) : Type 0 where
  pub whole : b.bytes.now ≡ codes "run " ++ (b.name.now ++ 32 ∷ [])
  pub begins : b.bytes.now ≡ take (length b.bytes.now) b.text.now
  pub allowed : is_name b.name.now ≡ true
  pub number : number_of (parsed_script script).programs b.name.now ≡ Some b.program
  pub declared : declared_by (parsed_script script).programs b.name.now ≡ Some b.declared

-- the first line of a text is this: `run`, such a name and a word more
pub record IsAgain (script : Script) (text : List ℕ) (a : Again) : Type 0 where
  pub first : IsFirst text a.line.now
  pub split : words a.line.now ≡ codes "run" ∷ a.beginning.name.now ∷ a.hex.now ∷ []
  pub known : IsBeginning script a.beginning
