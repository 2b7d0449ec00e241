use Rattle.std.proofs.Common.{string_bytes}
use Rattle.std.specs.Prelude.{codes, decimal}
use Rattle.ebpf_insn.specs.declared.fault.DecodeCode.TheVariants.{ProgramTooLong}
use Rattle.ebpf_explain.specs.DecodeSentences.{decode_words}
use Rattle.ebpf_explain.proofs.TextLemmas.{pushed, pushed_behind_number}
use Rattle.ebpf_explain.proofs.decode_sentence.write_words.Goals as goal

pub returns-in_ok-write_byte-in-UnknownOpcode : goal.returns-in_ok-write_byte-in-UnknownOpcode
returns-in_ok-write_byte-in-UnknownOpcode c =
    rw c.in-UnknownOpcode.is (pushed_behind_number _ _ _ _ _ (codes "slot ") (decimal c.args.slot) (codes " has the opcode 0x") _ _
    c.in_ok-write-in-UnknownOpcode.ensures.bytes
    c.in_ok-write_byte-in-UnknownOpcode.ensures c.push_str.ensures.bytes)

pub returns-in-ProgramTooLong : goal.returns-in-ProgramTooLong
returns-in-ProgramTooLong c = rw c.in-ProgramTooLong.is
    (pushed _ (string_bytes c.args.text.now) _ (decode_words c.args.bytes.now c.args.slot ProgramTooLong) c.push_str-in-ProgramTooLong.ensures.bytes)
