use Rattle.std.proofs.Common.{◌≡◌, ◌∙◌, Some, ap, arith, max}
use Rattle.cw_types.specs.Same.{same_digest}
use Rattle.marshal.specs.Digests.{later_place}
use Rattle.marshal.proofs.Digesting.{digest_cmp, digests_tie}
use Rattle.marshal.proofs.Placing.{found_by}
use Rattle.marshal.proofs.by_digest.ByDigest.later.Goals as goal

pub returns-in-Some : goal.returns-in-Some
returns-in-Some c =
    c.max.ensures
    ∙ ap (later_place (Some c.args.first))
    (c.in-Some.ensures.value
    ∙ found_by same_digest digest_cmp digests_tie c.args.self.now.again.entries c.args.digest.now)

pub returns-in-None : goal.returns-in-None
returns-in-None c =
    let same : c.args.first ≡ max c.args.first 0 = omega arith in
    same
    ∙ ap (later_place (Some c.args.first))
    (c.in-None.ensures.value
    ∙ found_by same_digest digest_cmp digests_tie c.args.self.now.again.entries c.args.digest.now)
