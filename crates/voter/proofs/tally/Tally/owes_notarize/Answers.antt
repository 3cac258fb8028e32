use Rattle.std.proofs.Common.{◌∙◌, sym}
use Rattle.cw_rules.specs.Owed.{all_nullified}
use Rattle.voter.specs.Known.{known_state, vote_rules}
use Rattle.voter.specs.Owing.{can_vote_for, is_turn, is_votable, owes_notarize}
use Rattle.voter.proofs.Voted.{notarize_where, payload_last}
use Rattle.voter.proofs.tally.Tally.owes_notarize.Goals as goal

pub returns : goal.returns
unfolding can_vote_for is_turn is_votable owes_notarize
returns g c =
    let t = c.args.self.now in
    let p = c.args.proposal.now in
    c.can_notarize.ensures
    ∙ (sym
    (payload_last (is_turn t p) (can_vote_for g.H.Hasher.digest_of t p)
    (all_nullified t.notes p.epoch p.parent p.view))
    ∙ sym
    (notarize_where (vote_rules g.H.Hasher.digest_of t.epochs) t.id (known_state t) p))
