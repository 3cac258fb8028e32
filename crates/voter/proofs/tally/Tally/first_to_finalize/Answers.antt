use Rattle.std.proofs.Common.{◌∙◌, ℕ, filter_map, not, rules, subst, sym, tests}
use Rattle.std.proofs.lemmas.Iterator.{YieldsList-from_map, YieldsList-from_slice}
use Rattle.std.proofs.lemmas.Iterator.Adapters.{option_map_id}
use Rattle.std.proofs.lemmas.Iterator.Consumers.{YieldsList-at, YieldsList-from_chain}
use Rattle.std.proofs.lemmas.Iterator.Search.{find_from_yields_List}
use Rattle.cw_types.specs.Same.{same_proposal}
use Rattle.cw_types.specs.declared.vote.Proposal.{Proposal}
use Rattle.cw_types.proofs.Same.{same_proposal-true}
use Rattle.cw_rules.specs.Owed as rule
use Rattle.note_scans.specs.Keys.{keyed, same_key}
use Rattle.voter.specs.Known.{Known}
use Rattle.voter.specs.Lines.{items_of}
use Rattle.voter.specs.Owing.{owes_finalize}
use Rattle.voter.specs.Waiting.{AreWaiting, came_proposals, is_open}
use Rattle.voter.proofs.Once.{find_two}
use Rattle.voter.proofs.Undone.{finalize_left, waiting_undone}
use Rattle.voter.proofs.tally.Tally.first_to_finalize.Goals as goal

pub returns : goal.returns
returns g c =
    let t = c.args.self.now in
    let w = c.self.inside.waiting in
    let are : AreWaiting t w =
    subst (λ (k : Known). AreWaiting k w) c.self.view_is c.self.invariant.waiting in
    sym (option_map_id _)
    ∙ (find_from_yields_List (owes_finalize g.H.Hasher.digest_of t) _ _ _ c.find.ensures.ran
    (YieldsList-from_chain
    (YieldsList-at c.chain.ensures.first
    (YieldsList-from_map _ (λ (at : ℕ × Proposal). at.1)
    (YieldsList-at c.map.ensures.source
    (YieldsList-from_slice w.proposals.came.waiting.items (cc)))
    c.map.ensures.closure (λ x r q k. search (rules, tests))))
    (YieldsList-at c.chain.ensures.second
    (YieldsList-from_map _ (λ (at : ℕ × Proposal). at.1)
    (YieldsList-at c.map-2.ensures.source
    (YieldsList-from_slice w.proposals.noted.waiting.items (cc)))
    c.map-2.ensures.closure (λ x r q k. search (rules, tests))))
    c.chain.ensures.first_done c.chain.ensures.second_done)
    (λ x b q k. search (rules, tests))
    ∙ find_two same_proposal same_proposal-true (λ p. not (is_open t.epochs t.id t.notes p))
    (items_of w.proposals.came) (items_of w.proposals.noted) (came_proposals t.ballots)
    (filter_map rule.note_proposal t.notes)
    (waiting_undone same_key (keyed 3) same_proposal (is_open t.epochs t.id t.notes) _ _ _ _
    are.proposals.of_came)
    (waiting_undone same_key (keyed 3) same_proposal (is_open t.epochs t.id t.notes) _ _ _ _
    are.proposals.of_notes)
    (owes_finalize g.H.Hasher.digest_of t) (finalize_left g.H.Hasher.digest_of t))
