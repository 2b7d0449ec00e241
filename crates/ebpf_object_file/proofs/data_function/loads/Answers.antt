use Rattle.std.proofs.Common.{◌/◌, List, length, Option, None, slice_index_or, ap, ◌∙◌, inr, rules}
use Rattle.std.proofs.lemmas.List.{length-replicate}
use Rattle.ebpf_object_file.specs.declared.data_use.DataUse.{DataUse}
use Rattle.ebpf_object_file.proofs.Objects.{names_inside}
use Rattle.ebpf_object_file.proofs.Fresh.{same_at}
use Rattle.ebpf_object_file.proofs.Loads.{all_put}
use Rattle.ebpf_object_file.proofs.data_function.loads.Goals as goal

pub has_comment-requires-clause-names : goal.has_comment-requires-clause-names
has_comment-requires-clause-names c =
    names_inside c.args.functions.file.now c.args.functions.header c.requires.functions.symbols.is.file_is c.requires.functions.header

pub put_all-requires-clause-slots : goal.put_all-requires-clause-slots
put_all-requires-clause-slots c =
    let fresh = c.in_ok-uses.ensures.items_if_clones_equal (λ y e. search rules) in
    ap length fresh ∙ length-replicate {A = Option DataUse} (length c.args.function.code.now / 8) None

pub put_all-requires-clause-empty : goal.put_all-requires-clause-empty
put_all-requires-clause-empty c =
    let fresh = c.in_ok-uses.ensures.items_if_clones_equal (λ y e. search rules) in
    λ slot. ap (λ (uses : List (Option DataUse)). slice_index_or uses slot None) fresh
    ∙ same_at {A = Option DataUse} (length c.args.function.code.now / 8) slot None

pub returns-in-Ok-refuse_calls-clause-found : goal.returns-in-Ok-refuse_calls-clause-found
returns-in-Ok-refuse_calls-clause-found c =
    all_put c.args.functions.file.now c.args.functions.symbols.now c.args.function c.in-Ok.table.now c.put_all.new.uses.items c.in-Ok.ensures.found
    c.in-Ok-put_all.ensures.put c.in-Ok-refuse_calls.ensures.none

pub returns-clause-refused : goal.returns-clause-refused
returns-clause-refused c =
    inr (c.in-Ok.table.now, c.in-Ok.ensures.found, inr (c.in-Ok-put_all.ensures.put.taken, c.in-Err-refuse_calls.ensures.refused))
