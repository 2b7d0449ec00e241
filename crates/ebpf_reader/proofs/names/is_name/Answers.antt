use Rattle.std.proofs.Common.{rules, tests, ◌≡◌, ◌<◌, length, arith}
use Rattle.std.specs.List.{list_all}
use Rattle.std.proofs.lemmas.Iterator.{YieldsList-from_slice}
use Rattle.std.proofs.lemmas.Iterator.Search.{all_from_yields_List}
use Rattle.std.proofs.lemmas.Bool.Decides.{nat_tests}
use Rattle.ebpf_reader.specs.Names.{is_name_byte}
use Rattle.ebpf_reader.proofs.NameLemmas.{is_name-bytes}
use Rattle.ebpf_reader.proofs.names.is_name.Goals as goal

pub returns : goal.returns
returns c =
    let all : c.all.result ≡ list_all is_name_byte c.args.word.now =
    all_from_yields_List is_name_byte _ _ c.all.result c.all.ensures.ran (YieldsList-from_slice c.args.word.now cc) (λ x b q k. search (rules, tests)) in
    let some : 0 < length c.args.word.now = grind (arith, nat_tests) in
    is_name-bytes c.args.word.now c.all.result some (omega arith) all
