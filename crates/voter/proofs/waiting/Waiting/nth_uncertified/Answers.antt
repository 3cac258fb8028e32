use Rattle.std.proofs.Common.{◌∙◌, Bor, ℕ, Option, ap, not, option_map, rules, sym, tests}
use Rattle.std.specs.List.{list_any}
use Rattle.std.proofs.lemmas.Iterator.{YieldsList-from_slice}
use Rattle.std.proofs.lemmas.Iterator.Consumers.{YieldsList-at, YieldsList-from_chain, YieldsList-from_filter, nth_from_yields_List}
use Rattle.cw_types.specs.Same.{same_proposal}
use Rattle.cw_types.specs.declared.vote.Proposal.{Proposal}
use Rattle.voter.specs.Waiting.{is_uncertified_by}
use Rattle.voter.proofs.Waits.{item_found}
use Rattle.voter.proofs.waiting.Waiting.nth_uncertified.Goals as goal

pub returns-in-Some : goal.returns-in-Some
returns-in-Some c =
    let ws = c.as_slice-came.result.now in
    let us = c.as_slice-noted.result.now in
    let u = is_uncertified_by c.args.said.now.by_key.entries in
    let found =
    nth_from_yields_List c.nth-found.result c.nth-found.new.self c.args.index c.nth-found.ensures.ran
    (YieldsList-from_filter _ (λ (at : ℕ × Proposal). u at.1)
    (YieldsList-at c.filter-2.ensures.source
    (YieldsList-from_chain
    (YieldsList-at c.chain.ensures.first (YieldsList-from_slice ws (cc)))
    (YieldsList-at c.chain.ensures.second
    (YieldsList-from_filter _
    (λ (at : ℕ × Proposal). not (list_any (λ (w : ℕ × Proposal). same_proposal at.1 w.1) ws))
    (YieldsList-at c.filter.ensures.source
    (YieldsList-from_slice us (cc)))
    c.filter.ensures.closure (λ x r q k. search (rules, tests))))
    c.chain.ensures.first_done c.chain.ensures.second_done))
    c.filter-2.ensures.closure (λ x r q k. search (rules, tests))) in
    item_found same_proposal u ws us c.args.self.now.proposals.came.waiting.items
    c.args.self.now.proposals.noted.waiting.items c.args.index _ c.as_slice-came.ensures.value
    c.as_slice-noted.ensures.value
    (ap
    (λ (o : Option (Bor (ℕ × Proposal))). option_map (λ (at : ℕ × Proposal). at.1)
    (option_map (λ a. a.now) o))
    (sym c.in-Some.is)
    ∙ ap (option_map (λ (at : ℕ × Proposal). at.1)) found)

pub returns-in-None : goal.returns-in-None
returns-in-None c =
    let ws = c.as_slice-came.result.now in
    let us = c.as_slice-noted.result.now in
    let u = is_uncertified_by c.args.said.now.by_key.entries in
    let found =
    nth_from_yields_List c.nth-found.result c.nth-found.new.self c.args.index c.nth-found.ensures.ran
    (YieldsList-from_filter _ (λ (at : ℕ × Proposal). u at.1)
    (YieldsList-at c.filter-2.ensures.source
    (YieldsList-from_chain
    (YieldsList-at c.chain.ensures.first (YieldsList-from_slice ws (cc)))
    (YieldsList-at c.chain.ensures.second
    (YieldsList-from_filter _
    (λ (at : ℕ × Proposal). not (list_any (λ (w : ℕ × Proposal). same_proposal at.1 w.1) ws))
    (YieldsList-at c.filter.ensures.source
    (YieldsList-from_slice us (cc)))
    c.filter.ensures.closure (λ x r q k. search (rules, tests))))
    c.chain.ensures.first_done c.chain.ensures.second_done))
    c.filter-2.ensures.closure (λ x r q k. search (rules, tests))) in
    item_found same_proposal u ws us c.args.self.now.proposals.came.waiting.items
    c.args.self.now.proposals.noted.waiting.items c.args.index _ c.as_slice-came.ensures.value
    c.as_slice-noted.ensures.value
    (ap
    (λ (o : Option (Bor (ℕ × Proposal))). option_map (λ (at : ℕ × Proposal). at.1)
    (option_map (λ a. a.now) o))
    (sym c.in-None.is)
    ∙ ap (option_map (λ (at : ℕ × Proposal). at.1)) found)
