use Rattle.std.proofs.Common.{ℕ, ◌∙◌, ap}
use Rattle.cw_base.specs.Rows.{row_of}
use Rattle.cw_base.proofs.Hashed.{mapped_items}
use Rattle.cw_coding.proofs.DigestLaws.{mapped_digests}
use Rattle.cw_coding.proofs.hashing.hash_at.Goals as goal

pub returns : goal.returns
returns g c =
    let hash = g.H.Hasher.digest_of in
    let rows = c.args.rows.now in
    let width = c.args.width in
    mapped_digests hash width rows c.args.indices.now _ c.requires.below
    (mapped_items _ _ (λ i. hash (row_of rows width i))
    (λ i r e. e.says.met ∙ ap (λ (j : ℕ). hash (row_of rows width j)) e.shows)
    c.args.indices.now _ c.in_ok-hashes.ensures.list_map)
