use Rattle.std.proofs.Common.{◌≡◌, ◌++◌, ◌∙◌, refl, sym, ap, subst}
use Rattle.cw_rules.specs.Report.{Entry}
use Rattle.cw_rules.specs.World.{Line, Faulty}
use Rattle.hail_script.specs.Events.{line_of}
use Rattle.hail_script.specs.declared.event.LineKind.{LineKind}
use Rattle.hail_world.specs.Honest.{IsHonest}
use Rattle.hail_world.specs.Places.{IsTurn, script_rules}
use Rattle.hail_report.specs.Pool.{sent_in}
use Rattle.hail_world.proofs.Playing.{fault_turn, is_honest}
use Rattle.hail_world.proofs.play.play.Goals as goal

pub play_member-requires-clause-honest : goal.play_member-requires-clause-honest
play_member-requires-clause-honest g c κs within =
    subst IsHonest c.kind.ensures (is_honest c.kind.result.now c.in_default.not-Faulty)

pub returns-in_ok-entry-in-Faulty-clause-turn : goal.returns-in_ok-entry-in-Faulty-clause-turn
returns-in_ok-entry-in-Faulty-clause-turn g c w members pools flags =
    let s = c.args.setting.now in
    let r = script_rules g.H.Hasher.digest_of s.script.now in
    let entry = c.in_ok-entry-in-Faulty.entry in
    let told = c.in_ok-entry-in-Faulty.ensures in
    let is : Faulty c.in-Faulty.member c.in-Faulty.fault ≡ s.line.now =
    sym (ap line_of c.in-Faulty.is) ∙ c.kind.ensures in
    subst
    (λ (l : Line). IsTurn r w s.number l c.args.places.now
    (sent_in s.pool.now ++ entry.sent) entry)
    is
    (fault_turn r w s.number c.in-Faulty.member c.in-Faulty.member c.in-Faulty.fault
    c.args.places.now (sent_in s.pool.now) (sent_in s.pool.now ++ entry.sent) entry refl members
    pools told (ap (λ (e : Entry). sent_in s.pool.now ++ e.sent) told))
