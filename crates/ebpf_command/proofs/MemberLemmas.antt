-- A line of members, by what each says.
use Rattle.std.proofs.Common.{◌≡◌, ◌++◌, ℕ, List, [], ◌∷◌, Result, OnOk, codes, map, refl, sym, ap, subst}
use Rattle.std.specs.List.{flat_map}
use Rattle.std.proofs.lemmas.List.Folds.{flat_map-map}
use Rattle.ebpf_command.specs.declared.format.Format.{Format}
use Rattle.ebpf_command.specs.declared.format.Format.TheVariants.{Text, Json}
use Rattle.ebpf_command.specs.Members.{Said, in_json, in_text, later_in_json, later_in_text, line_in}

-- the same, of what says them
abbrev pub line_of : {X : Type 0} → (X → Said) → Format → List X → List ℕ
line_of say format [] = []
line_of say Text (first ∷ later) = in_text (say first) ++ (flat_map (λ m. later_in_text (say m)) later ++ codes "\n")
line_of say Json (first ∷ later) = codes "{" ++ (in_json (say first) ++ (flat_map (λ m. later_in_json (say m)) later ++ codes "}\n"))

line_is : {X : Type 0} (say : X → Said) (format : Format) (members : List X) → line_of say format members ≡ line_in format (map say members)
line_is say format [] = refl
line_is say Text (first ∷ later) = ap (λ (rest : List ℕ). in_text (say first) ++ (rest ++ codes "\n")) (sym (flat_map-map later_in_text say later))
line_is say Json (first ∷ later) =
    ap (λ (rest : List ℕ). codes "{" ++ (in_json (say first) ++ (rest ++ codes "}\n"))) (sym (flat_map-map later_in_json say later))

-- what is written after a text by members is written by what they say
pub said_after : {X R E : Type 0} (say : X → Said) (format : Format) (result : Result R E) (old new : List ℕ) (members : List X)
    → OnOk result (new ≡ old ++ line_of say format members) → OnOk result (new ≡ old ++ line_in format (map say members))
said_after say format result old new members written = subst (λ (line : List ℕ). OnOk result (new ≡ old ++ line)) (line_is say format members) written
