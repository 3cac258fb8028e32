use Rattle.std.proofs.Common.{ℕ, ⊎_elim, ◌/◌, ◌∙◌, ◌≡◌, arith, inl, inr, length}
use Rattle.cw_base.specs.Rows.{row_of}
use Rattle.cw_coding.proofs.DigestLaws.{all_hashes}
use Rattle.cw_coding.proofs.hashing.all_digests.Goals as goal

pub returns : goal.returns
returns g c =
    let hash = g.H.Hasher.digest_of in
    let rows = c.args.rows.now in
    let width = c.args.width in
    let f : ℕ → g.row.H-Digest.Denot = λ i. hash (row_of rows width i) in
    let count : length c.in_ok-all.all.items ≡ length rows / width =
    omega (arith, c.in_ok-all.ensures.len, c.in_ok-all.all.ok) in
    all_hashes hash width rows _ (c.put_at-2.ensures.count ∙ c.put_at.ensures.count ∙ count)
    (λ i d l. c.put_at-2.ensures.each f c.requires.made.each i
    (omega (arith, l, count, c.put_at.ensures.count))
    (⊎_elim
    (λ one. inl
    (λ e. c.put_at.ensures.each f c.requires.given.each i (omega (arith, l, count)) (inr one) e))
    inr (c.requires.all i l)) d)
