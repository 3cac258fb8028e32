use Rattle.std.proofs.Common.{◌≡◌, ℕ, sym, ◌∙◌, ap, subst, refl, ◌&&◌, ◌==◌, ◌-◌, ◌^◌, nat_lt, List, option_map, Bor, arith, true}
use Rattle.std.specs.Prelude.{IfOk, not}
use Rattle.std.proofs.lemmas.Bool.{and_from, and_parts}
use Rattle.cw_types.specs.Block.{Block}
use Rattle.cw_types.specs.Epochs.{leader}
use Rattle.cw_types.specs.declared.commitment.Commitment.{Commitment}
use Rattle.cw_types.specs.declared.note.Note.{Note}
use Rattle.cw_rules.specs.Direct.{best_parent, propose_over}
use Rattle.cw_rules.specs.Notes.{epoch_of, view_of}
use Rattle.cw_rules.specs.Owed.{has_voted}
use Rattle.node.specs.Holding.{Holding, rules_of}
use Rattle.node.specs.Proposing.{notes_proposed}
use Rattle.node.specs.Store.{stored_notes}
use Rattle.node.specs.declared.direct.Proposed.{Proposed}
use Rattle.node.proofs.holding.Holding.proposal.Goals as goal

pub returns-then-not-may_propose-clause-value : goal.returns-then-not-may_propose-clause-value
returns-then-not-may_propose-clause-value g c =
    let h = c.args.self.now in
    let hash = g.H.Hasher.digest_of in
    let r = rules_of hash g.A.Application.accepts h in
    let notes = stored_notes h.store in
    let e = c.self.view_is in
    let all = sym c.requires.tally.notes in
    let n =
    c.epoch-epoch.ensures
    ∙ (ap (λ (k : Holding g.row.D.Denot g.row.A.Denot). epoch_of k.tally.notes) e
    ∙ ap epoch_of all) in
    let v =
    c.view-view.ensures
    ∙ (ap
    (λ (k : Holding g.row.D.Denot g.row.A.Denot). view_of k.tally.notes
    c.epoch-epoch.result)
    e
    ∙ (ap (λ l. view_of l c.epoch-epoch.result) all ∙ ap (view_of notes) n)) in
    let t =
    sym
    (λ i. (leader h.epochs (n i) (v i) == h.id) && nat_lt (v i) (2 ^ 64 - 1)
    && not (has_voted notes (n i) (v i)))
    ∙ (sym c.may_propose.ensures ∙ c.if-not-may_propose.true) in
    sym (rw t refl)

pub returns-in-None-clause-value : goal.returns-in-None-clause-value
returns-in-None-clause-value g c =
    let h = c.args.self.now in
    let hash = g.H.Hasher.digest_of in
    let r = rules_of hash g.A.Application.accepts h in
    let notes = stored_notes h.store in
    let e = c.self.view_is in
    let all = sym c.requires.tally.notes in
    let n =
    c.epoch-epoch.ensures
    ∙ (ap (λ (k : Holding g.row.D.Denot g.row.A.Denot). epoch_of k.tally.notes) e
    ∙ ap epoch_of all) in
    let v =
    c.view-view.ensures
    ∙ (ap
    (λ (k : Holding g.row.D.Denot g.row.A.Denot). view_of k.tally.notes
    c.epoch-epoch.result)
    e
    ∙ (ap (λ l. view_of l c.epoch-epoch.result) all ∙ ap (view_of notes) n)) in
    let t =
    sym
    (λ i. (leader h.epochs (n i) (v i) == h.id) && nat_lt (v i) (2 ^ 64 - 1)
    && not (has_voted notes (n i) (v i)))
    ∙ (sym c.may_propose.ensures ∙ c.if-not-may_propose.false) in
    let f =
    λ (x : ℕ × Commitment × Bor Block). let y : ℕ × Commitment × Block = (x.0, x.1, x.2.now) in
    y in
    let b =
    sym (λ i. best_parent r notes (n i) (v i))
    ∙ (sym c.best_parent.ensures.value ∙ ap (option_map f) c.in-None.is) in
    sym (rw (t, b) refl)

pub returns-in-Some-clause-value : goal.returns-in-Some-clause-value
returns-in-Some-clause-value g c =
    let h = c.args.self.now in
    let hash = g.H.Hasher.digest_of in
    let r = rules_of hash g.A.Application.accepts h in
    let notes = stored_notes h.store in
    let e = c.self.view_is in
    let all = sym c.requires.tally.notes in
    let n =
    c.epoch-epoch.ensures
    ∙ (ap (λ (k : Holding g.row.D.Denot g.row.A.Denot). epoch_of k.tally.notes) e
    ∙ ap epoch_of all) in
    let v =
    c.view-view.ensures
    ∙ (ap
    (λ (k : Holding g.row.D.Denot g.row.A.Denot). view_of k.tally.notes
    c.epoch-epoch.result)
    e
    ∙ (ap (λ l. view_of l c.epoch-epoch.result) all ∙ ap (view_of notes) n)) in
    let t =
    sym
    (λ i. (leader h.epochs (n i) (v i) == h.id) && nat_lt (v i) (2 ^ 64 - 1)
    && not (has_voted notes (n i) (v i)))
    ∙ (sym c.may_propose.ensures ∙ c.if-not-may_propose.false) in
    let f =
    λ (x : ℕ × Commitment × Bor Block). let y : ℕ × Commitment × Block = (x.0, x.1, x.2.now) in
    y in
    let b =
    sym (λ i. best_parent r notes (n i) (v i))
    ∙ (sym c.best_parent.ensures.value ∙ ap (option_map f) c.in-Some.is) in
    let whole =
    (λ i. propose_over r notes (n i) (v i) c.args.payload.now
    (c.in-Some.parent, c.in-Some.payload_below, c.in-Some.block.now))
    ∙ sym (rw (t, b) refl) in
    subst
    (λ (l : List Note). IfOk c.proposal_over.result
    (λ (p : Proposed). notes_proposed r notes p ≡ l))
    whole c.proposal_over.ensures.value

pub proposal_over-requires-clause-ordered : goal.proposal_over-requires-clause-ordered
proposal_over-requires-clause-ordered g c κs within =
    let h = c.args.self.now in
    let positive : nat_lt 0 c.view-view.result ≡ true =
    (let e = c.view-view.ensures in grind (arith, e)) in
    let leads = sym c.may_propose.ensures ∙ c.if-not-may_propose.false in
    let below : nat_lt c.in-Some.parent c.view-view.result ≡ true =
    (let l = c.in-Some.ensures.below in grind (arith, l)) in
    let most =
    (and_parts
    ((leader h.epochs c.epoch-epoch.result c.view-view.result == h.id)
    && nat_lt c.view-view.result (2 ^ 64 - 1))
    (not (has_voted (stored_notes h.store) c.epoch-epoch.result c.view-view.result))
    leads).0 in
    let high =
    (and_parts (leader h.epochs c.epoch-epoch.result c.view-view.result == h.id)
    (nat_lt c.view-view.result (2 ^ 64 - 1)) most).1 in
    and_from _ _ (and_from _ _ positive high) below
