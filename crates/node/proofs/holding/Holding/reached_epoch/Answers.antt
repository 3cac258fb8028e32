use Rattle.std.proofs.Common.{◌≡◌, ◌<◌, ◌≤◌, sym, ◌∙◌, ap, arith}
use Rattle.cw_rules.specs.Notes.{epoch_of}
use Rattle.node.proofs.Tops.{reach_end, reach_here, reach_next}
use Rattle.node.specs.Holding.{Holding, rules_of}
use Rattle.node.specs.Store.{stored_notes}
use Rattle.node.proofs.holding.Holding.reached_epoch.Goals as goal

pub returns-in-Some-clause-value : goal.returns-in-Some-clause-value
returns-in-Some-clause-value g c =
    let h = c.args.self.now in
    let now : c.epoch-current.result ≡ epoch_of (stored_notes h.store) =
    c.epoch-current.ensures
    ∙ (ap (λ (k : Holding g.row.D.Denot g.row.A.Denot). epoch_of k.tally.notes) c.self.view_is
    ∙ ap epoch_of (sym c.requires.stands.tally.notes)) in
    let above : epoch_of (stored_notes h.store) < c.loop-epoch.epoch =
    let t = c.loop-epoch-test.true in
    omega (arith, now) in
    sym
    (reach_here (rules_of g.H.Hasher.digest_of g.A.Application.accepts h) (stored_notes h.store)
    c.args.span c.loop-epoch.epoch c.in-Some.commitment above
    (sym c.commitment_at.ensures ∙ c.in-Some.is))
    ∙ c.loop-epoch.invariant.rest

pub loop-epoch-preserved : goal.loop-epoch-preserved
loop-epoch-preserved g c =
    let h = c.args.self.now in
    let now : c.epoch-current.result ≡ epoch_of (stored_notes h.store) =
    c.epoch-current.ensures
    ∙ (ap (λ (k : Holding g.row.D.Denot g.row.A.Denot). epoch_of k.tally.notes) c.self.view_is
    ∙ ap epoch_of (sym c.requires.stands.tally.notes)) in
    let above : epoch_of (stored_notes h.store) < c.loop-epoch.epoch =
    let t = c.loop-epoch-test.true in
    omega (arith, now) in
    record {
      low = let k = c.loop-epoch.invariant.low in omega arith;
      rest =
          sym
          (reach_next (rules_of g.H.Hasher.digest_of g.A.Application.accepts h)
          (stored_notes h.store) c.args.span c.loop-epoch.epoch above
          (sym c.commitment_at.ensures ∙ c.in_default.is))
          ∙ c.loop-epoch.invariant.rest;
    }

pub returns-clause-value : goal.returns-clause-value
returns-clause-value g c =
    let h = c.args.self.now in
    let now : c.epoch-current.result ≡ epoch_of (stored_notes h.store) =
    c.epoch-current.ensures
    ∙ (ap (λ (k : Holding g.row.D.Denot g.row.A.Denot). epoch_of k.tally.notes) c.self.view_is
    ∙ ap epoch_of (sym c.requires.stands.tally.notes)) in
    let below : c.loop-epoch.epoch ≤ epoch_of (stored_notes h.store) =
    let t = c.loop-epoch-test.false in
    omega (arith, now) in
    sym
    (reach_end (rules_of g.H.Hasher.digest_of g.A.Application.accepts h) (stored_notes h.store)
    c.args.span c.loop-epoch.epoch below)
    ∙ c.loop-epoch.invariant.rest
