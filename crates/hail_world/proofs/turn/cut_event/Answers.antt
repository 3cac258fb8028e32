use Rattle.std.proofs.Common.{◌≡◌, ◌<◌, ◌≤◌, ℕ, length, false, refl, ap, sym, subst, ◌∙◌, List, [], Some, Option, Err}
use Rattle.cw_types.specs.declared.event.StepOut.{StepOut}
use Rattle.cw_types.specs.declared.note.Note.{Note}
use Rattle.cw_rules.specs.Rules.{Rules}
use Rattle.cw_rules.specs.Step.{Stepped, cut_step}
use Rattle.node_disk.specs.Cut.{IsArmed}
use Rattle.node_disk.specs.Memory.{is_stopped}
use Rattle.node_disk.proofs.Calm.{calm_goes_on}
use Rattle.hail_world.specs.Places.{SitsAs, IsPutOut, table}
use Rattle.hail_report.specs.Pool.{sent_in}
use Rattle.hail_world.specs.MemoryNodes.{HasStepped, MemoryNode, WasStopped, rules_by, with_stop}
use Rattle.hail_world.proofs.Cutting.{IsCut, cut_whole, cut_short}
use Rattle.hail_world.proofs.Stops.{armed, is_member}
use Rattle.hail_world.proofs.turn.cut_event.Goals as goal

pub stopped-requires-after_bounds : goal.stopped-requires-after_bounds
stopped-requires-after_bounds g c κs within =
    let s : MemoryNode = c.args.node in
    let new : MemoryNode = c.step.new.node in
    let r : Rules = rules_by g.H.Hasher.digest_of s in
    let signed = table c.args.setting.now.faulty.now (sent_in c.args.setting.now.pool.now) in
    let is = c.stop_at.ensures.armed (calm_goes_on s.log.disk c.requires.calm) in
    let h =
    subst
    (λ (x : MemoryNode). HasStepped (rules_by g.H.Hasher.digest_of x) signed c.args.event.now x
    new c.in-Ok.out)
    is c.in-Ok.ensures.ok in
    let done =
    cut_whole r signed c.args.event.now s new c.in-Ok.out c.args.stop.call c.args.stop.cut
    c.args.stop.fill
    (λ some.
    (c.law_of_a_stop.ensures.whole _ _ _ c.args.stop.call c.args.stop.cut c.args.stop.fill
    (armed s c.args.stop.call c.args.stop.cut c.args.stop.fill c.requires.calm
    c.args.stop.later)
    h.appended some).0)
    h in
    (_, done.0)

pub returns-in_ok-stopped-in-Ok-clause-cut : goal.returns-in_ok-stopped-in-Ok-clause-cut
returns-in_ok-stopped-in-Ok-clause-cut g c =
    let s : MemoryNode = c.args.node in
    let new : MemoryNode = c.step.new.node in
    let r : Rules = rules_by g.H.Hasher.digest_of s in
    let signed = table c.args.setting.now.faulty.now (sent_in c.args.setting.now.pool.now) in
    let is = c.stop_at.ensures.armed (calm_goes_on s.log.disk c.requires.calm) in
    let h =
    subst
    (λ (x : MemoryNode). HasStepped (rules_by g.H.Hasher.digest_of x) signed c.args.event.now x
    new c.in-Ok.out)
    is c.in-Ok.ensures.ok in
    let cut : Stepped =
    cut_step r s.id signed s.member c.args.stop.call c.args.stop.cut c.args.stop.fill
    c.args.event.now in
    let done : IsCut cut new.log.disk c.in-Ok.out =
    cut_whole r signed c.args.event.now s new c.in-Ok.out c.args.stop.call c.args.stop.cut
    c.args.stop.fill
    (λ some.
    (c.law_of_a_stop.ensures.whole _ _ _ c.args.stop.call c.args.stop.cut c.args.stop.fill
    (armed s c.args.stop.call c.args.stop.cut c.args.stop.fill c.requires.calm
    c.args.stop.later)
    h.appended some).0)
    h in (
      is_member new.log.disk c.in_ok-stopped-in-Ok.field-0 cut.member c.in_ok-stopped-in-Ok.ensures
          done.0 done.1,
      done.2,
    )

pub stopped-requires-in-Err-Disk-after_bounds : goal.stopped-requires-in-Err-Disk-after_bounds
stopped-requires-in-Err-Disk-after_bounds g c κs within =
    let s : MemoryNode = c.args.node in
    let new : MemoryNode = c.step.new.node in
    let r : Rules = rules_by g.H.Hasher.digest_of s in
    let signed = table c.args.setting.now.faulty.now (sent_in c.args.setting.now.pool.now) in
    let is = c.stop_at.ensures.armed (calm_goes_on s.log.disk c.requires.calm) in
    let raw = c.in-Err-Disk.ensures.cut (ap Err c.in-Err-Disk.field-0-is) in
    let h =
    subst
    (λ (x : MemoryNode). WasStopped (rules_by g.H.Hasher.digest_of x) signed c.args.event.now x
    new)
    is raw in
    let law =
    c.law_of_a_stop.ensures.cut_short _ _ _ c.args.stop.call c.args.stop.cut c.args.stop.fill
    (armed s c.args.stop.call c.args.stop.cut c.args.stop.fill c.requires.calm
    c.args.stop.later)
    h.cut in
    let done =
    cut_short r signed c.args.event.now s new c.args.stop.call c.args.stop.cut c.args.stop.fill
    c.requires.works c.args.stop.later law h in
    (_, done.0)

pub returns-in_ok-stopped-in-Err-Disk-clause-cut : goal.returns-in_ok-stopped-in-Err-Disk-clause-cut
returns-in_ok-stopped-in-Err-Disk-clause-cut g c =
    let s : MemoryNode = c.args.node in
    let new : MemoryNode = c.step.new.node in
    let r : Rules = rules_by g.H.Hasher.digest_of s in
    let signed = table c.args.setting.now.faulty.now (sent_in c.args.setting.now.pool.now) in
    let is = c.stop_at.ensures.armed (calm_goes_on s.log.disk c.requires.calm) in
    let raw = c.in-Err-Disk.ensures.cut (ap Err c.in-Err-Disk.field-0-is) in
    let h =
    subst
    (λ (x : MemoryNode). WasStopped (rules_by g.H.Hasher.digest_of x) signed c.args.event.now x
    new)
    is raw in
    let law =
    c.law_of_a_stop.ensures.cut_short _ _ _ c.args.stop.call c.args.stop.cut c.args.stop.fill
    (armed s c.args.stop.call c.args.stop.cut c.args.stop.fill c.requires.calm
    c.args.stop.later)
    h.cut in
    let cut : Stepped =
    cut_step r s.id signed s.member c.args.stop.call c.args.stop.cut c.args.stop.fill
    c.args.event.now in
    let done : IsCut cut new.log.disk (record { sent = []; handed = []; tickets = [] }) =
    cut_short r signed c.args.event.now s new c.args.stop.call c.args.stop.cut c.args.stop.fill
    c.requires.works c.args.stop.later law h in (
      is_member new.log.disk c.in_ok-stopped-in-Err-Disk.field-0 cut.member
          c.in_ok-stopped-in-Err-Disk.ensures done.0 done.1,
      c.nothing.ensures ∙ done.2,
    )
