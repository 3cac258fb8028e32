use Rattle.std.proofs.Common.{List, ◌∙◌, ap, sym}
use Rattle.cw_types.specs.Block.{Block}
use Rattle.cw_rules_coded.specs.Coded.{coded}
use Rattle.cw_light.specs.Checking.{light_answer}
use Rattle.run_light.proofs.Paths.{yes_same}
use Rattle.run_light.proofs.told.told_of.Goals as goal

pub returns : goal.returns
returns g c = λ backlog accepts height d e.
    let told =
    c.in_ok-height.ensures backlog accepts
    ∙ ap
    (λ (path : List Block). light_answer
    (coded g.H.Hasher.digest_of c.args.committees.now backlog accepts)
    (g.V.Verifier.signs c.args.verifier.now) c.args.shown.now.cert path)
    c.as_slice-path.ensures in
    yes_same c.in-Yes.height height c.in-Yes.digest d (sym c.in-Yes.is ∙ (told ∙ e))

pub unreachable-requires : goal.unreachable-requires
unreachable-requires g c =
    let (backlog, accepts, height, d, e) = c.requires in
    let told =
    c.in_ok-height.ensures backlog accepts
    ∙ ap
    (λ (path : List Block). light_answer
    (coded g.H.Hasher.digest_of c.args.committees.now backlog accepts)
    (g.V.Verifier.signs c.args.verifier.now) c.args.shown.now.cert path)
    c.as_slice-path.ensures in
    c.in_default.not-Yes height d (told ∙ e)
