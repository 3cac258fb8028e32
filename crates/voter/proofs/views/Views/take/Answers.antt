use Rattle.std.proofs.Common.{◌≡◌, ◌∙◌, Option, Some, ap, rules, subst, sym}
use Rattle.std.specs.Prelude.{Vec}
use Rattle.std.specs.Map.{lookup}
use Rattle.std.specs.Option.{is_some}
use Rattle.std.specs.declared.alloc.Global.{Global}
use Rattle.std.proofs.lemmas.Bool.{false≢true}
use Rattle.cw_types.specs.declared.vote.Proposal.{Proposal}
use Rattle.note_scans.specs.Keys.{in_view, same_key}
use Rattle.note_scans.specs.declared.key.VoteKey.{VoteKey}
use Rattle.note_scans.proofs.Keys.{found_key}
use Rattle.voter.proofs.Viewing.{Sets, views_more}
use Rattle.voter.proofs.views.Views.take.Goals as goal

pub push_reserved-requires : goal.push_reserved-requires
push_reserved-requires c =
    let es = c.args.self.now.by_view.entries in
    c.requires.room c.in-Some.list.now
    (ap (λ (q : VoteKey). lookup (same_key q) es) (sym c.view_key-key.ensures)
    ∙ (sym (found_key es c.view_key-key.result) ∙ sym c.in-Some.ensures.value))

pub returns-in-Some : goal.returns-in-Some
returns-in-Some c = λ named there none has.
    let es = c.args.self.now.by_view.entries in
    let p = c.args.proposal.now in
    let new = (c.get_mut.follows.lender c.push_reserved.new.self).entries in
    let at : lookup (same_key (in_view 9 p.epoch p.view)) es ≡ Some c.in-Some.list.now =
    ap (λ (q : VoteKey). lookup (same_key q) es) (sym c.view_key-key.ensures)
    ∙ (sym (found_key es c.view_key-key.result) ∙ sym c.in-Some.ensures.value) in
    let sets : Sets (in_view 9 p.epoch p.view) c.push_reserved.new.self es new =
    subst (λ (k : VoteKey). Sets k c.push_reserved.new.self es new) c.view_key-key.ensures
    ((c.get_mut.follows.holds c.push_reserved.new.self).3 (search rules)).0 in
    views_more es new p c.in-Some.list.now c.push_reserved.new.self at
    c.push_reserved.ensures.items sets named none has

pub returns-in_default : goal.returns-in_default
returns-in_default c = λ named there none has.
    let es = c.args.self.now.by_view.entries in
    absurd
    (false≢true
    (ap (λ (o : Option (Vec Proposal Global)). is_some o)
    (c.in_default.ensures.value
    ∙ (found_key es c.view_key-key.result
    ∙ ap (λ (q : VoteKey). lookup (same_key q) es) c.view_key-key.ensures))
    ∙ there))
