use Rattle.std.proofs.Common.{◌≡◌, ℕ, List, Option, ◌<◌, ◌++◌, Some, None, length, take, sym, ap, ◌∙◌, arith}
use Rattle.std.proofs.lemmas.List.{append-nil, take_all}
use Rattle.std.specs.Option.{option_copied}
use Rattle.std.specs.List.{flat_map}
use Rattle.ebpf_insn.specs.declared.insn.Insn.{Insn}
use Rattle.ebpf_insn.specs.Program.{instructions, insn_at}
use Rattle.ebpf_insn.specs.Encoding.{encoding}
use Rattle.ebpf_insn.proofs.ProgramLemmas.{defined_at, bytes_next}
use Rattle.ebpf_insn.proofs.encode.encode.Goals as goal
use Rattle.ebpf_insn.proofs.encode.encode.Goals.{in-Some+in_ok-push_insn-in-Some, in-None}

pub push_insn-requires : goal.push_insn-requires
push_insn-requires c =
    let at : insn_at c.args.program.now c.loop-slot.slot ≡ Some c.in-Some.insn.now = sym c.at.ensures ∙ ap option_copied c.in-Some.is in
    defined_at c.args.program.now c.loop-slot.slot c.in-Some.insn.now c.loop-slot.invariant.formed.defined at

pub loop-slot-init : goal.loop-slot-init
loop-slot-init c = record {
  formed = c.slots-slot-end.ensures.formed;
  end = c.slots-slot-end.ensures.value;
  few = omega arith;
  written = c.new-bytes.ensures.items;
}

pub loop-slot-preserved : goal.loop-slot-preserved
loop-slot-preserved c =
    let inside : c.loop-slot.slot < length c.args.program.now = omega (arith, c.loop-slot-test.true, c.loop-slot.invariant.end) in
    record {
      formed = c.loop-slot.invariant.formed;
      end = c.loop-slot.invariant.end;
      few = omega arith;
      written = elim c.match-at.branch [
        | in-Some+in_ok-push_insn-in-Some w ↦
            let at : insn_at c.args.program.now c.loop-slot.slot ≡ Some w.in-Some.insn.now = sym c.at.ensures ∙ ap option_copied w.in-Some.is in
            rw (w.bytes-is, w.in_ok-push_insn-in-Some.ensures, c.loop-slot.invariant.written)
            (ap (λ (e : List ℕ). flat_map encoding (instructions (take c.loop-slot.slot c.args.program.now)) ++ e) (sym (append-nil (encoding w.in-Some.insn.now))) ∙ sym (bytes_next c.args.program.now c.loop-slot.slot (Some w.in-Some.insn.now) inside at))
        | in-None w ↦
            let at : insn_at c.args.program.now c.loop-slot.slot ≡ None = sym c.at.ensures ∙ ap option_copied w.in-None.is in
            rw (w.bytes-is, c.loop-slot.invariant.written)
            (sym (append-nil (flat_map encoding (instructions (take c.loop-slot.slot c.args.program.now)))) ∙ sym (bytes_next c.args.program.now c.loop-slot.slot None inside at))
      ];
    }

pub returns : goal.returns
returns c =
    let end : c.loop-slot.slot ≡ length c.args.program.now = omega arith in
    record { formed = c.loop-slot.invariant.formed; encoded = c.loop-slot.invariant.written ∙ ap (λ (p : List (Option Insn)). flat_map encoding (instructions p)) (ap (λ (n : ℕ). take n c.args.program.now) end ∙ take_all (length c.args.program.now) c.args.program.now (omega arith)) }
