use Rattle.std.proofs.Common.{◌≡◌, ◌≤◌, true, length, arith, ap, subst, sym, ◌∙◌}
use Rattle.std.specs.List.{list_all}
use Rattle.cw_types.specs.Epochs.{is_committee, members_in}
use Rattle.cw_types.specs.Votes.{vote_epoch}
use Rattle.cw_rules.specs.Owed.{knows}
use Rattle.voter.specs.Known.{Known, known_state}
use Rattle.voter.specs.Standing.{are_signers, is_signed}
use Rattle.voter.proofs.Signers.{chosen_few, chosen_sign}
use Rattle.voter.proofs.tally.Tally.certifying.Goals as goal

pub returns-clause-signed : goal.returns-clause-signed
returns-clause-signed g c =
    let at : c.members-members.result.now
    ≡ members_in c.args.self.now.epochs (vote_epoch c.args.vote.now) =
    c.members-members.ensures.value
    ∙ (ap (members_in c.self.inside.committees) c.epoch.ensures
    ∙ ap (λ (k : Known). members_in k.epochs (vote_epoch c.args.vote.now))
    c.self.view_is) in
    let committee : is_committee c.self.inside.committees.total
    (members_in c.args.self.now.epochs (vote_epoch c.args.vote.now))
    ≡ true =
    subst (λ xs. is_committee c.self.inside.committees.total xs ≡ true) at
    c.members-members.ensures.committee in
    let signed : list_all (is_signed c.args.self.now.epochs) c.args.self.now.ballots ≡ true =
    subst (λ k. list_all (is_signed k.epochs) k.ballots ≡ true) c.self.view_is
    c.self.invariant.signed in
    subst (λ xs. are_signers c.args.self.now.epochs c.args.vote.now xs ≡ true)
    (sym c.in_ok-signers.ensures)
    (chosen_sign c.args.self.now.epochs c.args.vote.now c.self.inside.committees.total
    c.args.self.now.ballots
    (knows c.args.self.now.id (known_state c.args.self.now) c.args.vote.now) committee signed)

pub returns-clause-few : goal.returns-clause-few
returns-clause-few g c =
    let at : c.members-members.result.now
    ≡ members_in c.args.self.now.epochs (vote_epoch c.args.vote.now) =
    c.members-members.ensures.value
    ∙ (ap (members_in c.self.inside.committees) c.epoch.ensures
    ∙ ap (λ (k : Known). members_in k.epochs (vote_epoch c.args.vote.now))
    c.self.view_is) in
    let committee : is_committee c.self.inside.committees.total
    (members_in c.args.self.now.epochs (vote_epoch c.args.vote.now))
    ≡ true =
    subst (λ xs. is_committee c.self.inside.committees.total xs ≡ true) at
    c.members-members.ensures.committee in
    let signed : list_all (is_signed c.args.self.now.epochs) c.args.self.now.ballots ≡ true =
    subst (λ k. list_all (is_signed k.epochs) k.ballots ≡ true) c.self.view_is
    c.self.invariant.signed in
    let few = subst (λ xs. length xs ≤ c.self.inside.committees.total) (sym c.in_ok-signers.ensures)
    (chosen_few c.args.self.now.epochs c.args.vote.now c.self.inside.committees.total
    c.args.self.now.ballots
    (knows c.args.self.now.id (known_state c.args.self.now) c.args.vote.now) committee signed) in
    let fits = c.total-total.type_inv in
    omega (arith, few, c.total-total.ensures)
