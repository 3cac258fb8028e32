use Rattle.std.proofs.Common.{◌≡◌, ℕ, sym, ◌∙◌, ap, subst, ◌&&◌, ◌==◌, ◌-◌, ◌^◌, nat_lt, List, [], ◌∷◌, refl}
use Rattle.std.specs.Prelude.{OnOk, not}
use Rattle.cw_types.specs.Epochs.{is_member}
use Rattle.cw_types.specs.declared.note.Note.{Note}
use Rattle.cw_types.specs.declared.vote.Vote.TheVariants.{Nullify}
use Rattle.cw_rules.specs.Direct.{timed_out}
use Rattle.cw_rules.specs.Notes.{epoch_of, view_of}
use Rattle.cw_rules.specs.Owed.{has_closed}
use Rattle.node.proofs.Noting.{noted_none}
use Rattle.node.specs.Holding.{Holding, rules_of}
use Rattle.node.specs.Noting.{HasNoted}
use Rattle.node.specs.Store.{stored_notes}
use Rattle.node.proofs.holding.Holding.time_out.Goals as goal

pub returns-then-not-may_nullify-clause-ok : goal.returns-then-not-may_nullify-clause-ok
returns-then-not-may_nullify-clause-ok g c =
    let h = c.args.self.now in
    let hash = g.H.Hasher.digest_of in
    let accepts = g.A.Application.accepts in
    let notes = stored_notes h.store in
    let now : c.epoch-epoch.result ≡ epoch_of notes =
    c.epoch-epoch.ensures
    ∙ (ap (λ (k : Holding g.row.D.Denot g.row.A.Denot). epoch_of k.tally.notes) c.self.view_is
    ∙ ap epoch_of (sym c.requires.tally.notes)) in
    let test =
    λ (n : ℕ). (c.args.view == view_of notes n) && nat_lt c.args.view (2 ^ 64 - 1)
    && is_member h.epochs n h.id && not (has_closed notes n c.args.view) in
    let t = sym (ap test now) ∙ (sym c.may_nullify.ensures ∙ c.if-not-may_nullify.true) in
    let none : timed_out (rules_of hash accepts h) h.id notes c.args.view ≡ [] = rw t refl in
    subst (λ (l : List Note). HasNoted hash accepts l h h) (sym none)
    (noted_none hash accepts h c.requires)

pub returns-clause-ok : goal.returns-clause-ok
returns-clause-ok g c =
    let h = c.args.self.now in
    let hash = g.H.Hasher.digest_of in
    let accepts = g.A.Application.accepts in
    let notes = stored_notes h.store in
    let now : c.epoch-epoch.result ≡ epoch_of notes =
    c.epoch-epoch.ensures
    ∙ (ap (λ (k : Holding g.row.D.Denot g.row.A.Denot). epoch_of k.tally.notes) c.self.view_is
    ∙ ap epoch_of (sym c.requires.tally.notes)) in
    let test =
    λ (n : ℕ). (c.args.view == view_of notes n) && nat_lt c.args.view (2 ^ 64 - 1)
    && is_member h.epochs n h.id && not (has_closed notes n c.args.view) in
    let t = sym (ap test now) ∙ (sym c.may_nullify.ensures ∙ c.if-not-may_nullify.false) in
    let one : timed_out (rules_of hash accepts h) h.id notes c.args.view
    ≡ Note.Vote (Nullify (epoch_of notes) c.args.view) ∷ [] =
    rw t refl in
    subst (λ (l : List Note). OnOk c.write.result (HasNoted hash accepts l h c.write.new.self))
    ((λ i. Note.Vote (Nullify (now i) c.args.view) ∷ []) ∙ sym one) c.write.ensures.ok
