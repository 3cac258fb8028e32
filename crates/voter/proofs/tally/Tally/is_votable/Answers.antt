use Rattle.std.proofs.Common.{◌≡◌, ◌&&◌, ◌==◌, ◌∙◌, true, not, ap, eqb-true, sym}
use Rattle.std.specs.List.{list_any}
use Rattle.std.proofs.lemmas.Bool.{and_parts}
use Rattle.cw_types.specs.Epochs.{is_member, leader}
use Rattle.cw_types.specs.declared.vote.Proposal.{Proposal}
use Rattle.cw_types.specs.declared.vote.Vote.TheVariants.{Notarize}
use Rattle.cw_rules.specs.Notes.{epoch_of, view_of}
use Rattle.cw_rules.specs.Owed.{all_nullified, has_voted, is_single}
use Rattle.voter.specs.Known.{Known}
use Rattle.voter.specs.Owing.{is_turn, is_votable}
use Rattle.voter.proofs.tally.Tally.is_votable.Goals as goal

turn_view : (t : Known) (p : Proposal) → is_turn t p ≡ true → p.view ≡ view_of t.notes p.epoch
unfolding is_turn
turn_view t p h =
    let a = and_parts _ (not (has_voted t.notes p.epoch p.view)) h in
    let b =
    and_parts _ (list_any (is_single (leader t.epochs p.epoch p.view) (Notarize p)) t.ballots) a.0 in
    let c = and_parts _ (is_member t.epochs p.epoch t.id) b.0 in
    let d = and_parts (p.epoch == epoch_of t.notes) (p.view == view_of t.notes p.epoch) c.0 in
    eqb-true p.view (view_of t.notes p.epoch) d.1

pub returns-then-is_turn : goal.returns-then-is_turn
unfolding is_votable
returns-then-is_turn g c =
    let t = c.args.self.now in
    let p = c.args.proposal.now in
    let turn : is_turn t p ≡ true = sym c.is_turn.ensures ∙ c.if-is_turn.true in
    c.all_nullified_above.ensures
    ∙ (ap (all_nullified t.notes p.epoch p.parent) (sym (turn_view t p turn))
    ∙ sym (ap (λ b. b && all_nullified t.notes p.epoch p.parent p.view) turn))
