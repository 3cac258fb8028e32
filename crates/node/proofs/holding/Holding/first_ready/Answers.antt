use Rattle.std.proofs.Common.{◌≡◌, ◌+◌, suc, sym, ◌∙◌, ap, find, drop, slice_get, add-one, arith}
use Rattle.std.proofs.lemmas.Option.{slice_get_within}
use Rattle.cw_rules.specs.Owed.{can_vote}
use Rattle.voter.specs.Owing.{votable}
use Rattle.node.proofs.Tops.{find_end, find_here, find_next}
use Rattle.node.specs.Holding.{Holding, own_state, rules_of}
use Rattle.node.proofs.holding.Holding.first_ready.Goals as goal

pub loop-proposal-preserved : goal.loop-proposal-preserved
loop-proposal-preserved g c =
    let h = c.args.self.now in
    let hash = g.H.Hasher.digest_of in
    let r = rules_of hash g.A.Application.accepts h in
    let ready = can_vote r h.tally.id (own_state h) in
    let same =
    ap
    (λ (k : Holding g.row.D.Denot g.row.A.Denot). slice_get (votable k.tally)
    c.loop-proposal.index)
    c.self.view_is in
    let at = sym same ∙ (sym c.votable.ensures.value ∙ c.in-Some.is) in
    let next : c.in-Some-checked_add.next ≡ suc c.loop-proposal.index =
    c.in-Some-checked_add.ensures.1 ∙ add-one c.loop-proposal.index in
    c.loop-proposal.invariant
    ∙ (find_next ready (votable h.tally) c.loop-proposal.index c.in-Some.proposal at
    (sym c.can_vote.ensures ∙ c.if-can_vote.false)
    ∙ ap (λ n. find ready (drop n (votable h.tally))) (sym next))

pub loop-proposal-smaller : goal.loop-proposal-smaller
loop-proposal-smaller g c =
    let h = c.args.self.now in
    let hash = g.H.Hasher.digest_of in
    let r = rules_of hash g.A.Application.accepts h in
    let ready = can_vote r h.tally.id (own_state h) in
    let same =
    ap
    (λ (k : Holding g.row.D.Denot g.row.A.Denot). slice_get (votable k.tally)
    c.loop-proposal.index)
    c.self.view_is in
    let at = sym same ∙ (sym c.votable.ensures.value ∙ c.in-Some.is) in
    let below =
    slice_get_within (votable h.tally) c.loop-proposal.index c.in-Some.proposal at in
    let next : c.in-Some-checked_add.next ≡ c.loop-proposal.index + 1 =
    c.in-Some-checked_add.ensures.1 in
    omega (arith, below)

pub returns-then-can_vote-clause-value : goal.returns-then-can_vote-clause-value
returns-then-can_vote-clause-value g c =
    let h = c.args.self.now in
    let hash = g.H.Hasher.digest_of in
    let r = rules_of hash g.A.Application.accepts h in
    let ready = can_vote r h.tally.id (own_state h) in
    let same =
    ap
    (λ (k : Holding g.row.D.Denot g.row.A.Denot). slice_get (votable k.tally)
    c.loop-proposal.index)
    c.self.view_is in
    let at = sym same ∙ (sym c.votable.ensures.value ∙ c.in-Some.is) in
    sym
    (c.loop-proposal.invariant
    ∙ find_here ready (votable h.tally) c.loop-proposal.index c.in-Some.proposal at
    (sym c.can_vote.ensures ∙ c.if-can_vote.true))

pub returns-clause-value : goal.returns-clause-value
returns-clause-value g c =
    let h = c.args.self.now in
    let hash = g.H.Hasher.digest_of in
    let r = rules_of hash g.A.Application.accepts h in
    let ready = can_vote r h.tally.id (own_state h) in
    let same =
    ap
    (λ (k : Holding g.row.D.Denot g.row.A.Denot). slice_get (votable k.tally)
    c.loop-proposal.index)
    c.self.view_is in
    let at = sym same ∙ (sym c.votable.ensures.value ∙ c.in_default.is) in
    sym
    (c.loop-proposal.invariant
    ∙ find_end ready (votable h.tally) c.loop-proposal.index at)
