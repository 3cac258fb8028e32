use Rattle.std.proofs.Common.{◌≡◌, ℕ}
use Rattle.std.specs.Prelude.{string_bytes}
use Rattle.std.proofs.lemmas.Result.{on_ok_weaker}
use Rattle.cw_rules.specs.Notes.{epoch_of, view_of}
use Rattle.cw_rules.specs.Step.{member_notes}
use Rattle.member_lines.specs.Claims.{claims}
use Rattle.member_session.proofs.Behind.{same_two}
use Rattle.member_session.proofs.Taking.{serves_on}
use Rattle.member_session.proofs.Turning.{turned}
use Rattle.member_session.proofs.running.take_event.Goals as goal

pub returns-in-Ok-clause-turns : goal.returns-in-Ok-clause-turns
returns-in-Ok-clause-turns g c =
    let live = c.requires.works.live in
    let notes = member_notes c.args.member.now.member in
    let place = same_two (λ (e : ℕ) (v : ℕ). (e, v)) c.epoch.result (epoch_of notes) c.view.result
    (view_of notes (epoch_of notes)) (c.epoch.ensures.place live) (c.view.ensures.place live) in
    on_ok_weaker c.tell_turn-told.result
    (λ tells. turned g.H.Hasher.digest_of g.W.Way.travel _ c.args.committees.now c.args.member.now
    c.step.new.self c.tell_turn-told.new.member (claims c.args.claim.now) c.args.event.now
    c.in-Ok.step (c.epoch.result, c.view.result) (string_bytes c.args.out.now)
    (string_bytes c.tell_turn-told.new.out) c.requires c.step.ensures.same c.in-Ok.ensures.step
    (c.in-Ok.ensures.disk live).appended place tells c.tell_turn-told.ensures.rest)
    c.tell_turn-told.ensures.told

pub returns-in-Ok-clause-serves : goal.returns-in-Ok-clause-serves
returns-in-Ok-clause-serves g c =
    on_ok_weaker c.tell_turn-told.result
    (λ tells. serves_on g.W.Way.travel c.args.committees.now c.args.member.now c.step.new.self
    c.tell_turn-told.new.member c.requires c.step.ensures.same c.in-Ok.ensures.at_work
    c.tell_turn-told.ensures.rest)
    c.tell_turn-told.ensures.told
