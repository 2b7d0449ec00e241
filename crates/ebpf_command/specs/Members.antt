-- Lines of members: a name and a value each.
use Rattle.std.specs.Prelude.{ℕ, ◌++◌, List, [], ◌∷◌, codes, decimal}
use Rattle.std.specs.List.{flat_map}
use Rattle.ebpf_command.specs.declared.format.Format.{Format}
use Rattle.ebpf_command.specs.declared.format.Format.TheVariants.{Text, Json}
use Rattle.ebpf_command.specs.declared.members.Member.{Member}
use Rattle.ebpf_command.specs.declared.members.Member.TheVariants.{Word, Number}

-- a name, and the word or the number that is said of it
pub data Said : Type 0 where
  Worded : (name word : List ℕ) → Said
  Counted : (name : List ℕ) (number : ℕ) → Said

abbrev pub said : Member → Said
said (Word name word) = Worded name.now word.now
said (Number name number) = Counted name.now number

-- in text, the name before the value
abbrev pub in_text : Said → List ℕ
in_text (Worded name word) = name ++ (codes " " ++ word)
in_text (Counted name number) = name ++ (codes " " ++ decimal number)

abbrev pub later_in_text : Said → List ℕ
later_in_text m = codes " " ++ in_text m

-- in JSON, a member of an object
abbrev pub in_json : Said → List ℕ
in_json (Worded name word) = codes "\"" ++ (name ++ (codes "\":\"" ++ (word ++ codes "\"")))
in_json (Counted name number) = codes "\"" ++ (name ++ (codes "\":" ++ decimal number))

abbrev pub later_in_json : Said → List ℕ
later_in_json m = codes "," ++ in_json m

abbrev pub line_in : Format → List Said → List ℕ
line_in format [] = []
line_in Text (first ∷ later) = in_text first ++ (flat_map later_in_text later ++ codes "\n")
line_in Json (first ∷ later) = codes "{" ++ (in_json first ++ (flat_map later_in_json later ++ codes "}\n"))
