use Rattle.std.proofs.Common.{map, ap, ◌∙◌}
use Rattle.cw_base.proofs.Hashed.{mapped_items, hashes_are}
use Rattle.cw_base.proofs.rows.hash_rows.Goals as goal

pub returns : goal.returns
returns g c =
    let hash = g.H.Hasher.digest_of in
    hashes_are hash c.args.width c.args.rows.now c.deref.result.now _
    (ap (map (λ row. row.now)) c.deref.ensures.value ∙ c.in_ok-slices.ensures)
    (mapped_items _ _ (λ x. hash x.now) (λ x r e. e.says.met ∙ ap (λ y. hash y.now) e.shows)
    c.deref.result.now _ c.in_ok-hashes.ensures.list_map)
