use Rattle.std.proofs.Common.{ℕ, ◌++◌, ◌∙◌, List, ap, filter, map, nat_lt, not, sym}
use Rattle.std.specs.List.{flat_map}
use Rattle.std.proofs.lemmas.List.{map-append}
use Rattle.std.proofs.lemmas.List.Concat.{flat_map-append}
use Rattle.cw_coding.specs.Checked.{Checked}
use Rattle.cw_coding.specs.Decoding.{indices_of}
use Rattle.cw_coding.proofs.gathering.ordered.Goals as goal

pub returns-clause-indices : goal.returns-clause-indices
returns-clause-indices g c =
    let first = filter (λ (x : Checked _). nat_lt x.index c.args.k) c.args.shards.now in
    let second = filter (λ (x : Checked _). not (nat_lt x.index c.args.k)) c.args.shards.now in
    c.in_ok-put_recoveries.ensures.indices
    ∙ ap (λ (xs : List ℕ). xs ++ indices_of second)
    (c.in_ok-put_originals.ensures.indices
    ∙ ap (λ (xs : List ℕ). xs ++ indices_of first) c.new-indices.ensures.items)
    ∙ sym (map-append (λ (x : Checked _). x.index) first second)

pub returns-clause-rows : goal.returns-clause-rows
returns-clause-rows g c =
    let first = filter (λ (x : Checked _). nat_lt x.index c.args.k) c.args.shards.now in
    let second = filter (λ (x : Checked _). not (nat_lt x.index c.args.k)) c.args.shards.now in
    c.in_ok-put_recoveries.ensures.rows
    ∙ ap (λ (xs : List ℕ). xs ++ flat_map (λ x. x.shard) second)
    (c.in_ok-put_originals.ensures.rows
    ∙ ap (λ (xs : List ℕ). xs ++ flat_map (λ x. x.shard) first) c.in_ok-rows.ensures.items)
    ∙ sym (flat_map-append (λ (x : Checked _). x.shard) first second)

pub returns-clause-digests : goal.returns-clause-digests
returns-clause-digests g c =
    let hash = g.H.Hasher.digest_of in
    let first = filter (λ (x : Checked _). nat_lt x.index c.args.k) c.args.shards.now in
    let second = filter (λ (x : Checked _). not (nat_lt x.index c.args.k)) c.args.shards.now in
    c.in_ok-put_recoveries.ensures.digests
    ∙ ap (λ xs. xs ++ map (λ (x : Checked _). hash x.shard) second)
    (c.in_ok-put_originals.ensures.digests
    ∙ ap (λ xs. xs ++ map (λ (x : Checked _). hash x.shard) first) c.new-digests.ensures.items)
    ∙ sym (map-append (λ (x : Checked _). hash x.shard) first second)
