use Rattle.std.proofs.Common.{◌≡◌, ◌≤◌, not, filter, length, take, vec_len}
use Rattle.std.specs.Prelude.{vec_capacity}
use Rattle.ebpf_input.specs.ProgramText.{is_blank}
use Rattle.ebpf_input.proofs.program_text.without_blanks.Given as goal

abbrev pub invariant-loop-c : goal.invariant-loop-c
invariant-loop-c l = record {
  kept : l.digits.items ≡ filter (λ c. not (is_blank c)) (take l.c-index l.text);
  short : vec_len l.digits ≤ l.c-index;
  room : vec_capacity l.digits ≡ length l.text;
}
