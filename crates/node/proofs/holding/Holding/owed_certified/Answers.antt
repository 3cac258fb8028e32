use Rattle.std.proofs.Common.{◌≡◌, ◌+◌, suc, sym, ◌∙◌, ap, option_map, find, drop, slice_get, add-one, arith, Bor}
use Rattle.std.proofs.lemmas.Option.{slice_get_within}
use Rattle.cw_types.specs.declared.note.Note.{Note}
use Rattle.cw_types.specs.declared.vote.Proposal.{Proposal}
use Rattle.cw_rules.specs.Fits.{block_fits}
use Rattle.voter.specs.Owing.{uncertified}
use Rattle.node.proofs.Tops.{find_end, find_here, find_next}
use Rattle.node.specs.Holding.{Holding, own_state, rules_of}
use Rattle.node.specs.Store.{stored_notes}
use Rattle.node.proofs.holding.Holding.owed_certified.Goals as goal

pub loop-proposal-preserved : goal.loop-proposal-preserved
loop-proposal-preserved g c =
    let h = c.args.self.now in
    let hash = g.H.Hasher.digest_of in
    let r = rules_of hash g.A.Application.accepts h in
    let fits = block_fits r (stored_notes h.store) in
    let same =
    ap
    (λ (k : Holding g.row.D.Denot g.row.A.Denot). slice_get (uncertified k.tally)
    c.loop-proposal.index)
    c.self.view_is in
    let law = c.tally_stands.ensures.certified hash h.tally r (own_state h) c.requires.tally in
    let noted =
    ap (λ l. option_map Note.Certified (find (block_fits r l) (uncertified h.tally)))
    c.requires.tally.notes in
    let at =
    sym same
    ∙ (sym c.uncertified.ensures.value
    ∙ ap (option_map (λ (p : Bor Proposal). p.now)) c.in-Some.is) in
    let next : c.in-Some-checked_add.next ≡ suc c.loop-proposal.index =
    c.in-Some-checked_add.ensures.1 ∙ add-one c.loop-proposal.index in
    c.loop-proposal.invariant
    ∙ (find_next fits (uncertified h.tally) c.loop-proposal.index c.in-Some.proposal.now at
    (sym c.in_ok-block_fits.ensures ∙ c.if-branch.false)
    ∙ ap (λ n. find fits (drop n (uncertified h.tally))) (sym next))

pub loop-proposal-smaller : goal.loop-proposal-smaller
loop-proposal-smaller g c =
    let h = c.args.self.now in
    let hash = g.H.Hasher.digest_of in
    let r = rules_of hash g.A.Application.accepts h in
    let fits = block_fits r (stored_notes h.store) in
    let same =
    ap
    (λ (k : Holding g.row.D.Denot g.row.A.Denot). slice_get (uncertified k.tally)
    c.loop-proposal.index)
    c.self.view_is in
    let law = c.tally_stands.ensures.certified hash h.tally r (own_state h) c.requires.tally in
    let noted =
    ap (λ l. option_map Note.Certified (find (block_fits r l) (uncertified h.tally)))
    c.requires.tally.notes in
    let at =
    sym same
    ∙ (sym c.uncertified.ensures.value
    ∙ ap (option_map (λ (p : Bor Proposal). p.now)) c.in-Some.is) in
    let below =
    slice_get_within (uncertified h.tally) c.loop-proposal.index c.in-Some.proposal.now at in
    let next : c.in-Some-checked_add.next ≡ c.loop-proposal.index + 1 =
    c.in-Some-checked_add.ensures.1 in
    omega (arith, below)

pub returns-then-branch-clause-value : goal.returns-then-branch-clause-value
returns-then-branch-clause-value g c =
    let h = c.args.self.now in
    let hash = g.H.Hasher.digest_of in
    let r = rules_of hash g.A.Application.accepts h in
    let fits = block_fits r (stored_notes h.store) in
    let same =
    ap
    (λ (k : Holding g.row.D.Denot g.row.A.Denot). slice_get (uncertified k.tally)
    c.loop-proposal.index)
    c.self.view_is in
    let law = c.tally_stands.ensures.certified hash h.tally r (own_state h) c.requires.tally in
    let noted =
    ap (λ l. option_map Note.Certified (find (block_fits r l) (uncertified h.tally)))
    c.requires.tally.notes in
    let at =
    sym same
    ∙ (sym c.uncertified.ensures.value
    ∙ ap (option_map (λ (p : Bor Proposal). p.now)) c.in-Some.is) in
    sym
    (law
    ∙ (sym noted
    ∙ ap (option_map Note.Certified)
    (c.loop-proposal.invariant
    ∙ find_here fits (uncertified h.tally) c.loop-proposal.index
    c.in-Some.proposal.now at
    (sym c.in_ok-block_fits.ensures ∙ c.if-branch.true))))

pub returns-clause-value : goal.returns-clause-value
returns-clause-value g c =
    let h = c.args.self.now in
    let hash = g.H.Hasher.digest_of in
    let r = rules_of hash g.A.Application.accepts h in
    let fits = block_fits r (stored_notes h.store) in
    let same =
    ap
    (λ (k : Holding g.row.D.Denot g.row.A.Denot). slice_get (uncertified k.tally)
    c.loop-proposal.index)
    c.self.view_is in
    let law = c.tally_stands.ensures.certified hash h.tally r (own_state h) c.requires.tally in
    let noted =
    ap (λ l. option_map Note.Certified (find (block_fits r l) (uncertified h.tally)))
    c.requires.tally.notes in
    let at =
    sym same
    ∙ (sym c.uncertified.ensures.value
    ∙ ap (option_map (λ (p : Bor Proposal). p.now)) c.in_default.is) in
    sym
    (law
    ∙ (sym noted
    ∙ ap (option_map Note.Certified)
    (c.loop-proposal.invariant
    ∙ find_end fits (uncertified h.tally) c.loop-proposal.index at)))
