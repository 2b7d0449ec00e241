use Rattle.std.proofs.Common.{◌≡◌, ◌*◌, ◌==◌, ◌∙◌, false, sym, ap, map, length, vec_len}
use Rattle.std.proofs.lemmas.List.{length-map}
use Rattle.slab_layer.proofs.Homes.{idle_by}
use Rattle.slab_layer.proofs.slab.Slab.is_idle.Goals as goal

pub returns-then-not-is_empty : goal.returns-then-not-is_empty
returns-then-not-is_empty g c =
    let s = c.args.self.now in
    let high : vec_len s.home ≡ length s.home.items = s.home.ok.0 in
    let wide : vec_len s.places ≡ length s.places.items = s.places.ok.0 in
    let some : (c.len-then-not-is_empty.result == 0) ≡ false =
    ap (λ n. n == 0) c.len-then-not-is_empty.ensures ∙ (sym c.is_empty.ensures ∙ c.if-not-is_empty.true) in
    idle_by c.len.result c.len-then-not-is_empty.result (map (λ o. o.slot) s.home.items) (s.page * 256) s.places.items (c.len.ensures ∙ (high ∙ sym (length-map s.home.items (λ o. o.slot)))) (c.len-then-not-is_empty.ensures ∙ wide) some s.stacked
