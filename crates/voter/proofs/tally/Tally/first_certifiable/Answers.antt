use Rattle.std.proofs.Common.{◌∙◌, ℕ, filter_map, map, not, rules, subst, sym, tests}
use Rattle.std.proofs.lemmas.Iterator.{YieldsList-from_map, YieldsList-from_slice}
use Rattle.std.proofs.lemmas.Iterator.Adapters.{option_map_id}
use Rattle.std.proofs.lemmas.Iterator.Consumers.{YieldsList-at, YieldsList-from_chain}
use Rattle.std.proofs.lemmas.Iterator.Search.{find_from_yields_List}
use Rattle.cw_types.specs.Same.{same_vote}
use Rattle.cw_types.specs.declared.vote.Vote.{Vote}
use Rattle.cw_types.proofs.Same.{same_vote-true}
use Rattle.cw_rules.specs.Owed as rule
use Rattle.note_scans.specs.Keys.{key_of, same_key}
use Rattle.voter.specs.Known.{Known}
use Rattle.voter.specs.Lines.{items_of}
use Rattle.voter.specs.Owing.{owes_cert}
use Rattle.voter.specs.Waiting.{AreWaiting, can_certify}
use Rattle.voter.proofs.Once.{find_two}
use Rattle.voter.proofs.Undone.{certify_left, waiting_undone}
use Rattle.voter.proofs.tally.Tally.first_certifiable.Goals as goal

pub returns : goal.returns
returns g c =
    let t = c.args.self.now in
    let w = c.self.inside.waiting in
    let are : AreWaiting t w =
    subst (λ (k : Known). AreWaiting k w) c.self.view_is c.self.invariant.waiting in
    sym (option_map_id _)
    ∙ (find_from_yields_List (owes_cert g.H.Hasher.digest_of t) _ _ _ c.find.ensures.ran
    (YieldsList-from_chain
    (YieldsList-at c.chain.ensures.first
    (YieldsList-from_map _ (λ (at : ℕ × Vote). at.1)
    (YieldsList-at c.map.ensures.source (YieldsList-from_slice w.votes.came.waiting.items (cc)))
    c.map.ensures.closure (λ x r q k. search (rules, tests))))
    (YieldsList-at c.chain.ensures.second
    (YieldsList-from_map _ (λ (at : ℕ × Vote). at.1)
    (YieldsList-at c.map-2.ensures.source (YieldsList-from_slice w.votes.noted.waiting.items (cc)))
    c.map-2.ensures.closure (λ x r q k. search (rules, tests))))
    c.chain.ensures.first_done c.chain.ensures.second_done)
    (λ x b q k. search (rules, tests))
    ∙ find_two same_vote same_vote-true (λ v. not (can_certify t v)) (items_of w.votes.came)
    (items_of w.votes.noted) (map rule.ballot_vote t.ballots) (filter_map rule.note_vote t.notes)
    (waiting_undone same_key key_of same_vote (can_certify t) _ _ _ _ are.votes.of_came)
    (waiting_undone same_key key_of same_vote (can_certify t) _ _ _ _ are.votes.of_notes)
    (owes_cert g.H.Hasher.digest_of t) (certify_left g.H.Hasher.digest_of t))
