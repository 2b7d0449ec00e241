use Rattle.std.proofs.Common.{rules, ◌≡◌, ◌∙◌, length}
use Rattle.std.proofs.lemmas.List.Elements.{All-push, All-same}
use Rattle.shared_store.specs.Parting.{IsOnePass}
use Rattle.shared_store.proofs.Together.{all_idle, all_parts}
use Rattle.shared_store.proofs.closing.base_ended.Goals as goal

pub close-requires-clause-passes : goal.close-requires-clause-passes
close-requires-clause-passes c =
    let arena = c.args.base.arena in
    let all = All-push (IsOnePass arena) c.args.passes.items c.args.rest.pages c.requires.passes.0 c.requires.passes.1 in
    all_idle arena c.push_reserved.new.self.items (All-same (IsOnePass arena) _ _ c.push_reserved.ensures.items all)

pub close-requires-clause-whole : goal.close-requires-clause-whole
close-requires-clause-whole c =
    let arena = c.args.base.arena in
    let all = All-push (IsOnePass arena) c.args.passes.items c.args.rest.pages c.requires.passes.0 c.requires.passes.1 in
    let count : length c.push_reserved.new.self.items ≡ arena.passes = search rules in
    all_parts arena c.push_reserved.new.self.items (All-same (IsOnePass arena) _ _ c.push_reserved.ensures.items all) ∙ count
