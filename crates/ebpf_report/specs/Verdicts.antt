-- The verdicts on the programs of a script, and their lines.
use Rattle.std.specs.Prelude.{◌≡◌, ℕ, ◌++◌, Bool, true, false, if◌then◌else◌, List, [], ◌∷◌, length, map, codes, decimal}
use Rattle.std.specs.List.{flat_map, list_any}
use Rattle.ebpf_insn.specs.Program.{instructions}
use Rattle.ebpf_state.specs.declared.kinds.KindRow.{KindRow}
use Rattle.ebpf_state.specs.Kinds.{AreKinds}
use Rattle.ebpf_verify.specs.declared.decl.Decl.{Decl}
use Rattle.ebpf_verify.specs.Subject.{Subject}
use Rattle.ebpf_command.specs.declared.codes.RefusalCode.{RefusalCode}
use Rattle.ebpf_command.specs.declared.judge.Judged.{Judged}
use Rattle.ebpf_command.specs.declared.judge.Judged.TheVariants.{Accepted, Refused}
use Rattle.ebpf_command.specs.declared.format.Format.{Format}
use Rattle.ebpf_command.specs.declared.format.Format.TheVariants.{Text, Json}
use Rattle.ebpf_command.specs.Codes.{refusal_name}
use Rattle.ebpf_command.specs.Json.{why_member}
use Rattle.ebpf_command.specs.Judging.{IsJudged}
use Rattle.ebpf_command.specs.Response.{Response, refused_response, clean_response}
use Rattle.ebpf_reader.specs.ParsedScript.{Named}

-- what a program of a script is judged to be, with what it declares and the kinds that there are
pub record Verdict : Type 0 where
  pub program : Named
  pub decl : Decl
  pub rows : List KindRow
  pub judged : Judged
  pub context : decl.context ≡ program.context
  pub held : decl.held ≡ program.held
  pub kinds : AreKinds rows
  pub is : IsJudged program.bytes decl rows judged

-- they are on these programs, in their order
abbrev pub AreOn : List Named → List Verdict → Type 0
AreOn programs verdicts = map (λ v. v.program) verdicts ≡ programs

abbrev pub judged_line : List ℕ → Judged → List ℕ
judged_line name (Accepted s) = name ++ (codes " accepted " ++ (decimal (length (instructions s.program)) ++ codes "\n"))
judged_line name (Refused code slot) = name ++ (codes " refused " ++ (refusal_name code ++ (codes " " ++ (decimal slot ++ codes "\n"))))

-- a program of this many instructions is accepted
abbrev pub accepted_object : List ℕ → ℕ → List ℕ
accepted_object name len = codes "{\"program\":\"" ++ (name ++ (codes "\",\"accepted\":" ++ (decimal len ++ codes "}\n")))

-- a program is refused at a slot: the members before why
abbrev pub refused_members : List ℕ → RefusalCode → ℕ → List ℕ
refused_members name code slot =
    codes "{\"program\":\"" ++ (name ++ (codes "\",\"refused\":\"" ++ (refusal_name code ++ (codes "\",\"slot\":" ++ decimal slot))))

-- the object of a verdict, with why the program is refused, where a line says so
abbrev pub judged_object : List ℕ → Judged → (why : List ℕ) → List ℕ
judged_object name (Accepted s) why = accepted_object name (length (instructions s.program))
judged_object name (Refused code slot) why = refused_members name code slot ++ (why_member why ++ codes "}\n")

-- a verdict in a format, and why the program is refused
abbrev pub verdict_in : Format → List ℕ → Judged → (why : List ℕ) → List ℕ
verdict_in Text name judged why = judged_line name judged ++ why
verdict_in Json name judged why = judged_object name judged why

-- the verdicts alone, and not why
abbrev pub verdict_lines : Format → List Verdict → List ℕ
verdict_lines format verdicts = flat_map (λ v. verdict_in format v.program.name v.judged []) verdicts

-- the programs that are accepted
abbrev pub accepted_in : Judged → List Subject
accepted_in (Accepted s) = s ∷ []
accepted_in (Refused code slot) = []

abbrev pub accepted_of : List Verdict → List Subject
accepted_of verdicts = flat_map (λ v. accepted_in v.judged) verdicts

-- whether a program is refused
abbrev pub is_refused : Judged → Bool
is_refused (Accepted s) = false
is_refused (Refused code slot) = true

abbrev pub is_any_refused : List Verdict → Bool
is_any_refused verdicts = list_any (λ v. is_refused v.judged) verdicts

-- the response of a text, by whether a program is refused
abbrev pub answered : List ℕ → Bool → Response
answered text refused = if refused then refused_response text else clean_response text
