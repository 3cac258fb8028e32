use Rattle.std.proofs.Common.{◌∙◌, ap, filter, length, option_map, sym}
use Rattle.cw_types.specs.Epochs.{members_in}
use Rattle.cw_types.specs.Votes.{vote_epoch}
use Rattle.cw_rules.specs.Owed as rule
use Rattle.voter.specs.Known.{known_state}
use Rattle.voter.proofs.KnownSigners.{unless_none, unless_some}
use Rattle.voter.proofs.index.Index.count_known.Goals as goal

pub returns-in-Some : goal.returns-in-Some
returns-in-Some c = λ t epochs are.
    c.len.ensures.len
    ∙ sym
    (ap length
    (unless_some
    (filter (rule.knows t.id (known_state t) c.args.vote.now)
    (members_in t.epochs (vote_epoch c.args.vote.now)))
    c.in-Some.signers.now.keys
    (sym (c.signers.ensures t epochs are)
    ∙ ap (option_map (λ signers. signers.now.keys)) c.in-Some.is)))

pub returns-in-None : goal.returns-in-None
returns-in-None c = λ t epochs are.
    sym
    (ap length
    (unless_none
    (filter (rule.knows t.id (known_state t) c.args.vote.now)
    (members_in t.epochs (vote_epoch c.args.vote.now)))
    (sym (c.signers.ensures t epochs are)
    ∙ ap (option_map (λ signers. signers.now.keys)) c.in-None.is)))
