use Rattle.std.proofs.Common.{◌≡◌, ◌∙◌, ◌++◌, [], Option, Some, ap, subst, sym}
use Rattle.std.specs.List.{cons_option}
use Rattle.cw_types.specs.Same.{same_vote}
use Rattle.cw_types.specs.declared.vote.Vote.{Vote}
use Rattle.cw_rules.specs.Owed.{note_vote}
use Rattle.note_scans.specs.Keys.{key_of}
use Rattle.voter.specs.Known.{with_note}
use Rattle.note_scans.specs.declared.key.VoteKey.{VoteKey}
use Rattle.voter.specs.Lines.{AreLines, IsNoting}
use Rattle.voter.specs.Waiting.{can_certify}
use Rattle.voter.proofs.Certifying.{certify_noted}
use Rattle.voter.proofs.Lineups.{votes_keyed}
use Rattle.voter.proofs.Waits.{votes_unnamed}
use Rattle.voter.proofs.waiting.Waiting.take_vote.Goals as goal

pub returns-in-Some-clause-votes : goal.returns-in-Some-clause-votes
returns-in-Some-clause-votes c = λ t certifies came noted are.
    let note = c.args.note.now in
    let names : note_vote note ≡ Some c.in-Some.vote = sym c.vote_of.ensures ∙ c.in-Some.is in
    subst
    (λ (o : Option Vote). AreLines key_of same_vote (can_certify (with_note t note)) came
    (noted ++ cons_option o []) c.take_noted.new.self)
    (sym names)
    (c.take_noted.ensures key_of same_vote votes_keyed (can_certify t)
    (can_certify (with_note t note))
    (λ y k. certify_noted t note y
    (λ w e.
    let f : ◌≡◌ {A = Option Vote} (Some c.in-Some.vote) (Some w) = sym names ∙ e in
    let h : c.in-Some.vote ≡ w = cc in
    ap (λ (u : Vote). same_vote u y) (sym h) ∙ k))
    (sym c.new.ensures) (certifies c.in-Some.vote names) came noted are)

pub returns-in_default-clause-votes : goal.returns-in_default-clause-votes
returns-in_default-clause-votes c = λ t certifies came noted are.
    votes_unnamed t c.args.note.now came noted c.args.self.now.votes
    (sym c.vote_of.ensures ∙ c.in_default.is) are

pub take_noted-requires : goal.take_noted-requires
take_noted-requires c =
    subst (λ (k : VoteKey). IsNoting k c.args.self.now.votes) (sym c.new.ensures)
    (c.requires c.in-Some.vote (sym c.vote_of.ensures ∙ c.in-Some.is))
