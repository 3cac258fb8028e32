use Rattle.std.proofs.Common.{sym, ◌∙◌, ap, subst, Result}
use Rattle.cw_rules.specs.Rules.{Rules}
use Rattle.cw_types.specs.declared.event.StepOut.{StepOut}
use Rattle.node_disk.specs.declared.log.StoreError.{StoreError}
use Rattle.node.specs.Disks.{HasTried}
use Rattle.node.proofs.Stepping.{goes_on, no_fewer, rests_answered, stands_committed, whole_step}
use Rattle.node.proofs.Tried.{err_is, tried_none}
use Rattle.node.specs.Acting.{IsBefore, notes_of_event}
use Rattle.node.specs.Holding.{Holding, own_state, rules_of}
use Rattle.node.specs.Leading.{IsLedBy}
use Rattle.node.specs.Store.{stored_notes}
use Rattle.node.proofs.holding.Holding.act.Goals as goal

pub returns-in_err-before-clause-disk : goal.returns-in_err-before-clause-disk
returns-in_err-before-clause-disk g c =
    let h = c.args.self.now in
    let r = rules_of g.H.Hasher.digest_of g.A.Application.accepts h in
    let notes = notes_of_event r (g.V.Verifier.signs c.args.verifier.now) c.args.event.now h in
    let log = ap (λ (k : Holding g.row.D.Denot g.row.A.Denot). k.log) c.prepare.ensures.kept in
    let laws =
    g.met.D.Disk g.world.𝓛 g.world.𝓜 g.world.𝓡 ((λ s x. x), (λ x. x), (λ x. x), λ x. x) in
    subst
    (λ (x : Result StepOut StoreError). HasTried g.D.Disk.state g.D.Disk.continues
    h.store.frames notes x h.log c.prepare.new.self.log)
    (sym (err_is c.from_residual.result c.from_residual.ensures.1))
    (tried_none g.D.Disk.state g.D.Disk.continues laws.continues_itself {X = StepOut} h.store.frames
    notes h.log c.prepare.new.self.log (c.rests.ensures.still c.requires.ready.stands.running notes)
    log)

pub answer-requires-clause-stands : goal.answer-requires-clause-stands
answer-requires-clause-stands g c κs within =
    let h = c.args.self.now in
    let hash = g.H.Hasher.digest_of in
    let accepts = g.A.Application.accepts in
    let signed = g.V.Verifier.signs c.args.verifier.now in
    let ev = c.args.event.now in
    let b = c.prepare.new.self in
    let m = c.commit.new.self in
    let acted = c.in_ok-before.ensures.acted in
    let kept = c.in_ok-before.ensures.kept in
    let is = c.in_ok-commit.ensures.ok in
    stands_committed hash accepts b m acted.stands is

pub answer-requires-clause-notes : goal.answer-requires-clause-notes
answer-requires-clause-notes g c κs within =
    let h = c.args.self.now in
    let hash = g.H.Hasher.digest_of in
    let accepts = g.A.Application.accepts in
    let signed = g.V.Verifier.signs c.args.verifier.now in
    let ev = c.args.event.now in
    let b = c.prepare.new.self in
    let m = c.commit.new.self in
    let acted = c.in_ok-before.ensures.acted in
    let kept = c.in_ok-before.ensures.kept in
    let is = c.in_ok-commit.ensures.ok in
    no_fewer hash accepts signed ev h b m c.in_ok-before.before.notes acted is
    c.in_ok-before.ensures.before.notes

pub returns-clause-step : goal.returns-clause-step
returns-clause-step g c =
    let h = c.args.self.now in
    let hash = g.H.Hasher.digest_of in
    let accepts = g.A.Application.accepts in
    let signed = g.V.Verifier.signs c.args.verifier.now in
    let ev = c.args.event.now in
    let b = c.prepare.new.self in
    let m = c.commit.new.self in
    let acted = c.in_ok-before.ensures.acted in
    let kept = c.in_ok-before.ensures.kept in
    let is = c.in_ok-commit.ensures.ok in
    let rules = ap (λ (k : Holding g.row.D.Denot g.row.A.Denot). rules_of hash accepts k) kept in
    let later =
    ap (λ (k : Holding g.row.D.Denot g.row.A.Denot). rules_of hash accepts k) is ∙ rules in
    let before =
    subst (λ (r : Rules). IsBefore r ev (own_state h) c.in_ok-before.before) (sym later)
    c.in_ok-before.ensures.before in
    let on =
    goes_on hash accepts signed ev h b m c.args.leads.now.led.entries acted rules is
    c.requires.led in
    whole_step hash accepts signed ev h b m c.answer.new.self c.in_ok-out.out
    c.requires.ready.quiet acted
    rules (ap (λ (k : Holding g.row.D.Denot g.row.A.Denot). k.id) kept) is
    (c.in_ok-out.ensures.answer (own_state h) before on)

pub returns-clause-awake : goal.returns-clause-awake
returns-clause-awake g c =
    let h = c.args.self.now in
    let hash = g.H.Hasher.digest_of in
    let accepts = g.A.Application.accepts in
    let signed = g.V.Verifier.signs c.args.verifier.now in
    let ev = c.args.event.now in
    let b = c.prepare.new.self in
    let m = c.commit.new.self in
    let acted = c.in_ok-before.ensures.acted in
    let kept = c.in_ok-before.ensures.kept in
    let is = c.in_ok-commit.ensures.ok in
    let rules = ap (λ (k : Holding g.row.D.Denot g.row.A.Denot). rules_of hash accepts k) kept in
    let later =
    ap (λ (k : Holding g.row.D.Denot g.row.A.Denot). rules_of hash accepts k) is ∙ rules in
    let before =
    subst (λ (r : Rules). IsBefore r ev (own_state h) c.in_ok-before.before) (sym later)
    c.in_ok-before.ensures.before in
    let on =
    goes_on hash accepts signed ev h b m c.args.leads.now.led.entries acted rules is
    c.requires.led in
    let left = (c.in_ok-out.ensures.answer (own_state h) before on).left in
    record {
      ready =
          record {
            stands = c.in_ok-out.ensures.stands;
            quiet =
                ap (λ (k : Holding g.row.D.Denot g.row.A.Denot). k.store.staged) left
                ∙ ap (λ (k : Holding g.row.D.Denot g.row.A.Denot). k.store.staged) is;
            rests = rests_answered hash accepts ev (own_state h) b m c.answer.new.self
                c.in_ok-out.out is (c.in_ok-out.ensures.answer (own_state h) before on)
                acted.rests;
          };
      led =
          subst
          (λ (k : Holding g.row.D.Denot g.row.A.Denot). IsLedBy (rules_of hash accepts k)
          (stored_notes k.store) c.answer.new.leads.led.entries)
          (sym left)
          (c.in_ok-out.ensures.led (own_state h) before on);
    }
