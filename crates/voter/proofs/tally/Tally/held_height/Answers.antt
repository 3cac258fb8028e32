use Rattle.std.proofs.Common.{◌∙◌, ap, sym, option_map}
use Rattle.cw_types.specs.Block.{Block}
use Rattle.cw_types.specs.Same.{same_commitment}
use Rattle.voter.specs.Known.{vote_rules}
use Rattle.voter.proofs.HeldHeights.{held_kept}
use Rattle.voter.proofs.tally.Tally.held_height.Goals as goal

pub returns-clause-value : goal.returns-clause-value
returns-clause-value g c =
    let other =
    ap (same_commitment c.args.commitment.now) (sym c.genesis_commitment.ensures)
    ∙ (sym c.is_same.ensures ∙ c.if-is_same.false) in
    c.kept_height.ensures.value
    ∙ sym
    (ap (option_map (λ (b : Block). b.height))
    (held_kept (vote_rules g.H.Hasher.digest_of c.args.self.now.epochs)
    c.args.self.now.notes c.args.commitment.now other))
