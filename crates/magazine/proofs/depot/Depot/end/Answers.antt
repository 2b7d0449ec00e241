use Rattle.std.proofs.Common.{◌≡◌, [], Some, ap, ◌∙◌}
use Rattle.std.proofs.lemmas.List.Elements.{All-pop}
use Rattle.magazine.specs.DepotView.{DepotView}
use Rattle.magazine.proofs.Rounds.{holds_some, none_full}
use Rattle.magazine.proofs.depot.Depot.end.Goals as goal

pub destroy_empty-requires : goal.destroy_empty-requires
destroy_empty-requires g c =
    let full = c.self.inside.full in
    full.ok.0 ∙ none_full full.items g.K.Kind.ROUNDS (holds_some _ g.K.Kind.is_row) c.self.invariant.filled (ap (λ (d : DepotView). d.rounds) c.self.view_is ∙ c.requires)

pub end-requires : goal.end-requires
end-requires g c =
    (All-pop (λ m. m ≡ []) c.loop-magazine.empty.items c.pop.new.self.items (Some c.in-Some.magazine) c.in-Some.ensures.items c.loop-magazine.invariant).1

pub loop-magazine-preserved : goal.loop-magazine-preserved
loop-magazine-preserved g c =
    (All-pop (λ m. m ≡ []) c.loop-magazine.empty.items c.pop.new.self.items c.pop.result c.pop.ensures.items c.loop-magazine.invariant).0
