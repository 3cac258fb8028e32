use Rattle.std.proofs.Common.{◌∙◌, ℕ, Some, ap}
use Rattle.std.specs.Map.{lookup}
use Rattle.std.specs.Option.{option_map}
use Rattle.cw_types.specs.Same.{same_digest}
use Rattle.marshal.specs.Digests.{later_place}
use Rattle.marshal.proofs.Digesting.{digest_cmp, digests_tie}
use Rattle.marshal.proofs.Placing.{found_by}
use Rattle.marshal.proofs.by_digest.ByDigest.span.Goals as goal

pub returns-in-Some : goal.returns-in-Some
returns-in-Some c =
    let again = lookup (same_digest c.args.digest.now) c.args.self.now.again.entries in
    ap (λ (n : ℕ). Some (c.in-Some.first.now, n)) c.later.ensures
    ∙ ap (option_map (λ (first : ℕ). (first, later_place (Some first) again)))
    (c.in-Some.ensures.value
    ∙ found_by same_digest digest_cmp digests_tie c.args.self.now.first.entries c.args.digest.now)

pub returns-in-None : goal.returns-in-None
returns-in-None c =
    let again = lookup (same_digest c.args.digest.now) c.args.self.now.again.entries in
    ap (option_map (λ (first : ℕ). (first, later_place (Some first) again)))
    (c.in-None.ensures.value
    ∙ found_by same_digest digest_cmp digests_tie c.args.self.now.first.entries c.args.digest.now)
