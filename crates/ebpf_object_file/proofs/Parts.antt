-- A walk over the parts of a table of lines.
use Rattle.std.proofs.Common.{◌≡◌, ℕ, false, true, List, [], ◌∷◌, ◌++◌, drop, refl}
use Rattle.ebpf_object_file.specs.Text.{is_named}
use Rattle.ebpf_object_file.specs.Lines.{PartValue, is_part, part_of, part_size, Follows, NoneNamed}

-- some parts were passed, none of that name, and this is left
pub record HasPassed (size : ℕ) (strings name bytes rest : List ℕ) : Type 0 where
  pub parts : List PartValue
  pub follows : Follows size bytes parts rest
  pub others : NoneNamed strings name parts

follows_more : (size : ℕ) (bytes rest : List ℕ) (ps : List PartValue) → Follows size bytes ps rest → is_part size rest ≡ true
    → Follows size bytes (ps ++ part_of size rest ∷ []) (drop (part_size size rest) rest)
follows_more size bytes rest [] f here = rw (← f) (here, refl, refl)
follows_more size bytes rest (p ∷ ps) f here = (f.0, f.1, follows_more size (drop (part_size size bytes) bytes) rest ps f.2 here)

others_more : (strings name : List ℕ) (q : PartValue) (ps : List PartValue) → NoneNamed strings name ps → is_named strings q.name name ≡ false
    → NoneNamed strings name (ps ++ q ∷ [])
others_more strings name q [] o here = (here, o)
others_more strings name q (p ∷ ps) o here = (o.0, others_more strings name q ps o.1 here)

-- one part more, of another name
pub passed_more : (size : ℕ) (strings name bytes rest : List ℕ) → HasPassed size strings name bytes rest → is_part size rest ≡ true
    → is_named strings (part_of size rest).name name ≡ false → HasPassed size strings name bytes (drop (part_size size rest) rest)
passed_more size strings name bytes rest h here other = record {
  parts = h.parts ++ part_of size rest ∷ [];
  follows = follows_more size bytes rest h.parts h.follows here;
  others = others_more strings name (part_of size rest) h.parts h.others other;
}
