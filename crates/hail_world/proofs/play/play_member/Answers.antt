use Rattle.std.proofs.Common.{◌≡◌, ◌++◌, ap}
use Rattle.cw_rules.specs.Report.{Entry}
use Rattle.hail_world.specs.Places.{script_rules}
use Rattle.hail_report.specs.Pool.{sent_in}
use Rattle.hail_world.proofs.Playing.{member_turn}
use Rattle.hail_world.proofs.play.play_member.Goals as goal

pub returns-clause-turn : goal.returns-clause-turn
returns-clause-turn g c w members pools flags =
    let s = c.args.setting.now in
    member_turn (script_rules g.H.Hasher.digest_of s.script.now) w s.number c.member-member.result
    s.line.now
    s.faulty.now c.args.places.now c.turn_place.new.places c.in_ok-found.found
    c.in_ok-found.done (sent_in s.pool.now) (sent_in s.pool.now ++ c.in_ok-entry.entry.sent)
    c.in_ok-entry.entry c.requires.honest c.member-member.ensures c.in_ok-found.ensures.turned members
    pools flags c.in_ok-entry.ensures
    (ap (λ (e : Entry). sent_in s.pool.now ++ e.sent) c.in_ok-entry.ensures)
