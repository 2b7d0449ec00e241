use Rattle.std.proofs.Common.{◌≡◌, ◌++◌, OnOk, string_bytes, arith}
use Rattle.std.proofs.lemmas.Grind.{common_steps}
use Rattle.ebpf_command.specs.Members.{said}
use Rattle.ebpf_command.proofs.MemberLemmas.{line_of, said_after}
use Rattle.ebpf_command.proofs.members.write_line.Goals as goal

pub returns-in_ok-write_later_in_text-in-Text : goal.returns-in_ok-write_later_in_text-in-Text
returns-in_ok-write_later_in_text-in-Text c =
    let written : OnOk c.push_str.result (string_bytes c.push_str.new.self ≡ string_bytes c.args.text.now ++ line_of said c.args.format c.args.members.now) =
    grind (arith, common_steps) in
    said_after said c.args.format _ _ _ _ written

pub returns-in_ok-write_later_in_json-in-Json : goal.returns-in_ok-write_later_in_json-in-Json
returns-in_ok-write_later_in_json-in-Json c =
    let written : OnOk c.push_str-in-Json-2.result (string_bytes c.push_str-in-Json-2.new.self ≡ string_bytes c.args.text.now ++ line_of said c.args.format c.args.members.now) =
    grind (arith, common_steps) in
    said_after said c.args.format _ _ _ _ written
