use Rattle.std.proofs.Common.{◌≡◌, true, sym, ◌∙◌, ap, subst, List, [], Result, Err}
use Rattle.std.specs.Prelude.{not}
use Rattle.cw_types.specs.declared.event.StepOut.{StepOut}
use Rattle.cw_types.specs.declared.note.Note.{Note}
use Rattle.cw_rules.specs.Step.{step}
use Rattle.node_disk.specs.declared.log.StoreError.{StoreError}
use Rattle.node.proofs.Stepping.{notes_same}
use Rattle.node.proofs.Working.{at_work}
use Rattle.node.specs.Disks.{HasTried}
use Rattle.node.specs.Holding as holding
use Rattle.node.specs.Holding.{member_of}
use Rattle.node.specs.State.{NodeState, node_rules, notes_of_step}
use Rattle.node.proofs.member.Member.step.Goals as goal

pub returns-in-Ok-clause-step : goal.returns-in-Ok-clause-step
returns-in-Ok-clause-step g c =
    let hash = g.H.Hasher.digest_of in
    let accepts = g.A.Application.accepts in
    let signed = g.V.Verifier.signs c.args.verifier.now in
    let h = c.self.inside.holding in
    let live : true ≡ not c.self.inside.failed = ap not (sym c.if-self.false) in
    c.in-Ok.ensures.step
    ∙ ((λ i. step (holding.rules_of hash accepts h) h.id signed (member_of (live i) h)
    c.args.event.now)
    ∙ ap
    (λ (n : NodeState g.row.D.Denot g.row.A.Denot). step (node_rules hash accepts n) n.id signed
    n.member c.args.event.now)
    c.self.view_is)

pub returns-in-Ok-clause-at_work : goal.returns-in-Ok-clause-at_work
returns-in-Ok-clause-at_work g c =
    let running = c.in-Ok.ensures.awake.ready.stands.running in
    at_work g.D.Disk.state c.act.new.self running c.rests.ensures.running c.rests.ensures.frames
    c.rests.ensures.readable
    (c.rests.ensures.settled running) (c.rests.ensures.still running [])

pub returns-in-Err-clause-disk : goal.returns-in-Err-clause-disk
returns-in-Err-clause-disk g c alive =
    let hash = g.H.Hasher.digest_of in
    let accepts = g.A.Application.accepts in
    let signed = g.V.Verifier.signs c.args.verifier.now in
    let h = c.self.inside.holding in
    let r = holding.rules_of hash accepts h in
    let ready = (c.self.invariant.1 c.if-self.false).ready in
    let error : Result StepOut StoreError = Err c.in-Err.error in
    let first =
    subst
    (λ (l : List Note). HasTried g.D.Disk.state g.D.Disk.continues h.store.frames l error
    h.log c.act.new.self.log)
    (notes_same r signed c.args.event.now h (not c.self.inside.failed) ready.quiet)
    c.in-Err.ensures.disk in
    subst
    (λ (n : NodeState g.row.D.Denot g.row.A.Denot). HasTried g.D.Disk.state g.D.Disk.continues
    n.member.frames (notes_of_step (node_rules hash accepts n) signed n c.args.event.now)
    error n.log c.act.new.self.log)
    c.self.view_is first
