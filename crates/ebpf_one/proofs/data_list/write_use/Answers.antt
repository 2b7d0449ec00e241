use Rattle.std.proofs.Common.{◌≡◌, ◌++◌, ℤ, OnOk, of_z, rules, string_bytes, subst, to_z, w32}
use Rattle.std.proofs.lemmas.Int.{to_z-of_z}
use Rattle.ebpf_text.specs.Operands.{offset_text}
use Rattle.ebpf_one.specs.DataListText.{use_text}
use Rattle.ebpf_one.proofs.DataLists.{then_written}
use Rattle.ebpf_one.proofs.data_list.write_use.Goals.{After-write_offset}
use Rattle.ebpf_one.proofs.data_list.write_use.Goals as goal

back : (c : After-write_offset) → to_z w32 (of_z w32 c.args.used.offset) ≡ c.args.used.offset
back c = to_z-of_z w32 c.args.used.offset (search rules)

pub returns : goal.returns
unfolding use_text
returns c =
    let written = subst (λ (z : ℤ). OnOk c.write_offset.result (string_bytes c.write_offset.new.text ≡ string_bytes c.write_section.new.text ++ offset_text z)) (back c) c.write_offset.ensures in
    then_written c.write_offset.result _ _ _ _ _ c.in_ok-write_section.ensures written
