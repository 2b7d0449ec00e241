use Rattle.std.proofs.Common.{◌≡◌, ◌*◌, ◌∙◌, sym, map, length, vec_len}
use Rattle.std.proofs.lemmas.List.{length-map}
use Rattle.slab_layer.proofs.Homes.{has_home_by}
use Rattle.slab_layer.proofs.slab.Slab.has_home.Goals as goal

pub returns : goal.returns
returns g c =
    let s = c.args.self.now in
    let len : vec_len s.home ≡ length s.home.items = s.home.ok.0 in
    has_home_by c.is_empty.result (vec_len s.home) (map (λ o. o.slot) s.home.items) (s.page * 256) s.places.items c.is_empty.ensures (len ∙ sym (length-map s.home.items (λ o. o.slot))) s.stacked
