use Rattle.std.proofs.Common.{◌≡◌, ◌≤◌, length, refl, ap, ◌∙◌, arith}
use Rattle.cw_coding.specs.Totals.{total_of}
use Rattle.cw_coding.specs.Decoding.{width_of}
use Rattle.cw_coding.proofs.OrderLaws.{sound_in_order, length-indices, compared-le, compared-ge, rows_long_of, decoding_from, fits_from}
use Rattle.cw_coding.proofs.DigestLaws.{given_digests}
use Rattle.cw_coding.proofs.decoding.prepared.Goals as goal

pub returns-clause-recoverable : goal.returns-clause-recoverable
returns-clause-recoverable g c =
    let k = c.minimum.result in
    let shards = c.args.shards.now in
    let given = c.in_ok-given.ensures in
    let are = c.in-Ok.ensures.1 in
    let width : c.in_ok-given.given.width ≡ width_of shards = given.width ∙ c.in-Ok.ensures.0 in
    let enough : k ≤ length shards = omega (arith, c.minimum.ensures.value, are.enough) in
    record {
      some = omega (arith, c.minimum.ensures.value, c.minimum.ensures.some);
      total = are.total;
      narrow = omega (arith, width, are.width.narrow);
      within =
          omega (
            arith,
            given.compared,
            ap length given.indices,
            length-indices k shards,
            compared-le k shards enough,
          );
      used =
          omega (
            arith,
            given.compared,
            c.minimum.ensures.value,
            compared-ge k shards enough,
          );
      long =
          rows_long_of c.args.config.now c.args.commitment.now shards k
          c.in_ok-given.given.width _ _ are width given.indices given.rows;
      sound =
          rw given.indices (sound_in_order k (total_of c.args.config.now) shards are.fit.indices);
    }

pub returns-clause-same : goal.returns-clause-same
returns-clause-same g c text =
    let config = c.args.config.now in
    let given = c.in_ok-given.ensures in
    let width = given.width ∙ c.in-Ok.ensures.0 in
    let indices = rw c.minimum.ensures.value at given.indices in
    let rows = rw c.minimum.ensures.value at given.rows in
    let compared = rw c.minimum.ensures.value at given.compared in (
      λ fits. decoding_from _ _ config c.args.commitment.now c.args.shards.now config.minimum
          config.extra _ _ _ _ text c.in-Ok.ensures.1 refl refl width indices rows compared fits,
      λ decodes. fits_from _ _ config c.args.commitment.now c.args.shards.now config.minimum
          config.extra _ _ _ _ text c.in-Ok.ensures.1 refl refl width indices rows compared
          decodes,
    )

pub returns-clause-digests : goal.returns-clause-digests
returns-clause-digests g c =
    let given = c.in_ok-given.ensures in
    given_digests g.H.Hasher.digest_of c.args.config.now c.args.commitment.now c.args.shards.now
    c.minimum.result c.in_ok-given.given.width _ _ _ c.in-Ok.ensures.1
    (given.width ∙ c.in-Ok.ensures.0) given.indices given.rows given.digests
