use Rattle.std.proofs.Common.{sym, ◌∙◌, ap, option_map, Bor, arith}
use Rattle.cw_types.specs.Block.{Block}
use Rattle.cw_types.specs.Commit.{genesis_commitment}
use Rattle.cw_rules.specs.Held.{held}
use Rattle.voter.specs.Owing.{parent_over}
use Rattle.node.specs.Holding.{Holding, own_state, rules_of}
use Rattle.node.specs.Store.{stored_notes}
use Rattle.node.proofs.holding.Holding.best_parent.Goals as goal

pub returns-in-Some-held-clause-value : goal.returns-in-Some-held-clause-value
returns-in-Some-held-clause-value g c =
    let h = c.args.self.now in
    let hash = g.H.Hasher.digest_of in
    let r = rules_of hash g.A.Application.accepts h in
    let s = c.requires.stands in
    let told =
    ap
    (λ (k : Holding g.row.D.Denot g.row.A.Denot). parent_over (genesis_commitment hash)
    k.tally.notes c.args.epoch c.loop-parent.below)
    c.self.view_is in
    let p = sym told ∙ (sym c.propose_parent.ensures ∙ c.in-Some.is) in
    let block =
    ap
    (λ (k : Holding g.row.D.Denot g.row.A.Denot). held r (stored_notes k.store)
    c.in-Some.payload)
    c.self.view_is in
    let b =
    sym (ap (λ l. held r l c.in-Some.payload) s.tally.notes)
    ∙ (sym block
    ∙ (sym c.held.ensures
    ∙ ap (option_map (λ (x : Bor Block). x.now)) c.in-Some-held.is)) in
    sym
    (c.loop-parent.invariant.rest
    ∙ c.parent_stands.ensures.held hash h.tally r (own_state h) s.tally c.args.epoch
    c.loop-parent.below c.in-Some.parent c.in-Some.payload c.in-Some-held.block.now p b)

pub loop-parent-smaller : goal.loop-parent-smaller
loop-parent-smaller g c =
    let h = c.args.self.now in
    let hash = g.H.Hasher.digest_of in
    let r = rules_of hash g.A.Application.accepts h in
    let s = c.requires.stands in
    let told =
    ap
    (λ (k : Holding g.row.D.Denot g.row.A.Denot). parent_over (genesis_commitment hash)
    k.tally.notes c.args.epoch c.loop-parent.below)
    c.self.view_is in
    let p = sym told ∙ (sym c.propose_parent.ensures ∙ c.in-Some.is) in
    c.parent_stands.ensures.falls hash h.tally c.args.epoch c.loop-parent.below c.in-Some.parent
    c.in-Some.payload p

pub loop-parent-preserved : goal.loop-parent-preserved
loop-parent-preserved g c =
    let h = c.args.self.now in
    let hash = g.H.Hasher.digest_of in
    let r = rules_of hash g.A.Application.accepts h in
    let s = c.requires.stands in
    let told =
    ap
    (λ (k : Holding g.row.D.Denot g.row.A.Denot). parent_over (genesis_commitment hash)
    k.tally.notes c.args.epoch c.loop-parent.below)
    c.self.view_is in
    let p = sym told ∙ (sym c.propose_parent.ensures ∙ c.in-Some.is) in
    let block =
    ap
    (λ (k : Holding g.row.D.Denot g.row.A.Denot). held r (stored_notes k.store)
    c.in-Some.payload)
    c.self.view_is in
    let b =
    sym (ap (λ l. held r l c.in-Some.payload) s.tally.notes)
    ∙ (sym block
    ∙ (sym c.held.ensures
    ∙ ap (option_map (λ (x : Bor Block). x.now)) c.in_default-held.is)) in
    let down =
    c.parent_stands.ensures.falls hash h.tally c.args.epoch c.loop-parent.below c.in-Some.parent
    c.in-Some.payload p in
    record {
      low = let l = c.loop-parent.invariant.low in omega (arith, down);
      rest =
          c.loop-parent.invariant.rest
          ∙ c.parent_stands.ensures.next hash h.tally r (own_state h) s.tally c.args.epoch
          c.loop-parent.below c.in-Some.parent c.in-Some.payload p b;
    }

pub returns-clause-value : goal.returns-clause-value
returns-clause-value g c =
    let h = c.args.self.now in
    let hash = g.H.Hasher.digest_of in
    let r = rules_of hash g.A.Application.accepts h in
    let s = c.requires.stands in
    let told =
    ap
    (λ (k : Holding g.row.D.Denot g.row.A.Denot). parent_over (genesis_commitment hash)
    k.tally.notes c.args.epoch c.loop-parent.below)
    c.self.view_is in
    sym
    (c.loop-parent.invariant.rest
    ∙ c.parent_stands.ensures.none hash h.tally r (own_state h) s.tally c.args.epoch
    c.loop-parent.below (sym told ∙ (sym c.propose_parent.ensures ∙ c.in_default.is)))

pub returns-in-Some-held-clause-below : goal.returns-in-Some-held-clause-below
returns-in-Some-held-clause-below g c =
    let h = c.args.self.now in
    let hash = g.H.Hasher.digest_of in
    let r = rules_of hash g.A.Application.accepts h in
    let s = c.requires.stands in
    let told =
    ap
    (λ (k : Holding g.row.D.Denot g.row.A.Denot). parent_over (genesis_commitment hash)
    k.tally.notes c.args.epoch c.loop-parent.below)
    c.self.view_is in
    let p = sym told ∙ (sym c.propose_parent.ensures ∙ c.in-Some.is) in
    let down =
    c.parent_stands.ensures.falls hash h.tally c.args.epoch c.loop-parent.below c.in-Some.parent
    c.in-Some.payload p in
    let l = c.loop-parent.invariant.low in
    omega (arith, down)
