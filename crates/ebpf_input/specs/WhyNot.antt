-- Why every jump of a program can't be made to lead forward, in a format.
use Rattle.std.specs.Prelude.{ℕ, ◌++◌, List, [], ◌∷◌, drop, codes, decimal, Option, Some, None, string_bytes}
use Rattle.std.specs.List.{flat_map}
use Rattle.std.specs.declared.alloc.Global.{Global}
use Rattle.std.specs.declared.string.String.{String}
use Rattle.ebpf_forward.specs.declared.fault.BackEdge.{BackEdge}
use Rattle.ebpf_forward.specs.declared.why_not.KnownVisit.{KnownVisit}
use Rattle.ebpf_forward.specs.declared.why_not.RefusedSlot.{RefusedSlot}
use Rattle.ebpf_forward.specs.declared.why_not.StuckLoop.{StuckLoop}
use Rattle.ebpf_forward.specs.declared.why_not.Turns.{Turns}
use Rattle.ebpf_forward.specs.declared.why_not.WhyNot.{WhyNot}
use Rattle.ebpf_forward.specs.declared.why_not.WhyNot.TheVariants.{Slot, Loop}
use Rattle.ebpf_forward.specs.Lines.{lines_of}
use Rattle.ebpf_command.specs.declared.format.Format.{Format}
use Rattle.ebpf_command.specs.declared.format.Format.TheVariants.{Text, Json}
use Rattle.ebpf_command.specs.Codes.{refusal_name}
use Rattle.ebpf_command.specs.Json.{quoted, refused_head, why_member}
use Rattle.ebpf_input.specs.Lines.{refused_line}

-- ---- in lines

-- the edge that closes a loop
abbrev pub loop_line : BackEdge → List ℕ
loop_line e = codes "loop " ++ (decimal e.from ++ (codes " " ++ (decimal e.to ++ codes "\n")))

abbrev pub first_line : WhyNot → List ℕ
first_line (Slot r) = refused_line (refusal_name r.code) r.slot
first_line (Loop l) = loop_line l.edge

-- ---- in JSON

-- without the two blanks before the first word of what is known
abbrev pub visit_members : KnownVisit → List ℕ
visit_members v = codes ",\"visit\":" ++ (decimal v.visit ++ (codes ",\"known\":" ++ quoted (drop 2 (string_bytes v.known))))

abbrev pub visit_members_of : Option KnownVisit → List ℕ
visit_members_of None = []
visit_members_of (Some v) = visit_members v

abbrev pub slot_rest : RefusedSlot → List ℕ
slot_rest r = why_member (string_bytes r.why) ++ (visit_members_of r.visit ++ codes "}\n")

abbrev pub slot_object : RefusedSlot → List ℕ
slot_object r = refused_head (refusal_name r.code) r.slot ++ slot_rest r

abbrev pub edge_member : BackEdge → List ℕ
edge_member e = codes "{\"loop\":{\"from\":" ++ (decimal e.from ++ (codes ",\"to\":" ++ (decimal e.to ++ codes "}")))

abbrev pub turns_member : Option Turns → List ℕ
turns_member None = []
turns_member (Some t) = codes ",\"turns\":" ++ decimal t.count

abbrev pub later_string : List ℕ → List ℕ
later_string s = codes "," ++ quoted s

abbrev pub later_strings : List (String Global) → List ℕ
later_strings strings = flat_map (λ s. later_string (string_bytes s)) strings

-- with a comma between two
abbrev pub strings_of : List (String Global) → List ℕ
strings_of [] = []
strings_of (s ∷ later) = quoted (string_bytes s) ++ later_strings later

abbrev pub exits_member : Option Turns → List ℕ
exits_member None = []
exits_member (Some t) = codes ",\"exits\":[" ++ (strings_of t.exits.items ++ codes "]")

abbrev pub loop_rest : StuckLoop → List ℕ
loop_rest l = why_member (string_bytes l.why) ++ (exits_member l.turns ++ codes "}\n")

abbrev pub loop_object : StuckLoop → List ℕ
loop_object l = edge_member l.edge ++ (turns_member l.turns ++ loop_rest l)

abbrev pub object_of : WhyNot → List ℕ
object_of (Slot r) = slot_object r
object_of (Loop l) = loop_object l

abbrev pub why_not_in : Format → WhyNot → List ℕ
why_not_in Text w = first_line w ++ lines_of w
why_not_in Json w = object_of w
