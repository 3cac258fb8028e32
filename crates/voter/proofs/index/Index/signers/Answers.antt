use Rattle.std.proofs.Common.{◌≡◌, ◌∙◌, ap, option_map, subst, sym, true}
use Rattle.cw_types.specs.Epochs.{Epochs, is_committee, members_in}
use Rattle.cw_types.specs.Votes.{vote_epoch}
use Rattle.voter.proofs.KnownSigners.{known_found, known_missing}
use Rattle.voter.proofs.index.Index.signers.Goals as goal

pub returns-in-Some : goal.returns-in-Some
returns-in-Some c = λ t epochs are.
    let came = c.args.self.now.came.by_vote.entries in
    let known = c.args.self.now.known.by_vote.entries in
    let at : c.members-members.result.now ≡ members_in t.epochs (vote_epoch c.args.vote.now) =
    c.members-members.ensures.value
    ∙ (ap (members_in c.args.committees.now) c.epoch.ensures
    ∙ ap (λ (x : Epochs). members_in x (vote_epoch c.args.vote.now)) (sym epochs)) in
    known_found t c.args.vote.now came known are c.args.committees.now.total
    c.in-Some.signers.now
    (sym c.get.ensures ∙ ap (option_map (λ members. members.now)) c.in-Some.is)
    c.len-count.ensures.ordered
    (subst (λ xs. is_committee c.args.committees.now.total xs ≡ true) at
    c.members-members.ensures.committee)

pub returns-in-None : goal.returns-in-None
returns-in-None c = λ t epochs are.
    known_missing t c.args.vote.now c.args.self.now.came.by_vote.entries
    c.args.self.now.known.by_vote.entries are
    (sym c.get.ensures ∙ ap (option_map (λ members. members.now)) c.in-None.is)
