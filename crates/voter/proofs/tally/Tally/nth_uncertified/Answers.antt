use Rattle.std.proofs.Common.{◌++◌, ◌∙◌, ap, filter, filter_map, not, slice_get, subst}
use Rattle.std.specs.List.{list_any}
use Rattle.cw_types.specs.Same.{same_proposal}
use Rattle.cw_types.proofs.Same.{same_proposal-true}
use Rattle.cw_rules.specs.Owed as rule
use Rattle.note_scans.specs.Keys.{keyed, same_key}
use Rattle.voter.specs.Facts.{HasSaid}
use Rattle.voter.specs.Known.{Known}
use Rattle.voter.specs.Lines.{items_of}
use Rattle.voter.specs.Owing.{is_candidate, is_uncertified}
use Rattle.voter.specs.Waiting.{AreWaiting, came_proposals, is_open, is_uncertified_by}
use Rattle.voter.proofs.Once.{filter_same_test, pick_two}
use Rattle.voter.proofs.Undone.{uncertified_by, uncertified_left, waiting_undone}
use Rattle.voter.proofs.tally.Tally.nth_uncertified.Goals as goal

pub returns : goal.returns
unfolding is_candidate
returns g c =
    let t = c.args.self.now in
    let w = c.self.inside.waiting in
    let said = c.self.inside.index.facts.said.by_key.entries in
    let came = items_of w.proposals.came in
    let noted = items_of w.proposals.noted in
    let are : AreWaiting t w =
    subst (λ (k : Known). AreWaiting k w) c.self.view_is c.self.invariant.waiting in
    let has : HasSaid t.notes said =
    subst (λ (k : Known). HasSaid k.notes said) c.self.view_is c.self.invariant.facts.saying in
    c.nth_uncertified.ensures
    ∙ ap (λ ps. slice_get ps c.args.index)
    (filter_same_test (is_uncertified_by said) (is_uncertified t.notes)
    (uncertified_by t.epochs t.id t.notes said has)
    (came ++ filter (λ p. not (list_any (same_proposal p) came)) noted)
    ∙ pick_two same_proposal same_proposal-true (λ p. not (is_open t.epochs t.id t.notes p)) came
    noted (came_proposals t.ballots) (filter_map rule.note_proposal t.notes)
    (waiting_undone same_key (keyed 3) same_proposal (is_open t.epochs t.id t.notes) _ _ _ _
    are.proposals.of_came)
    (waiting_undone same_key (keyed 3) same_proposal (is_open t.epochs t.id t.notes) _ _ _ _
    are.proposals.of_notes)
    (is_uncertified t.notes) (uncertified_left t.epochs t.id t.notes))
