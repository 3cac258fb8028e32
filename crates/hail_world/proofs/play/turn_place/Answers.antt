use Rattle.std.proofs.Common.{◌≡◌, ◌<◌, ◌∙◌, length, arith}
use Rattle.cw_rules.specs.World.{line_member}
use Rattle.hail_world.specs.Places.{script_rules}
use Rattle.hail_report.specs.Pool.{sent_in}
use Rattle.hail_world.proofs.Playing.{taken_sound, put_back, placed}
use Rattle.hail_world.proofs.play.turn_place.Goals as goal

pub take_turn-requires-clause-sound : goal.take_turn-requires-clause-sound
take_turn-requires-clause-sound g c κs within =
    let s = c.args.setting.now in
    let there : c.member-id.result < length c.args.places.now =
    omega (arith, c.member-id.ensures, s.known, c.requires.count) in
    taken_sound (script_rules g.H.Hasher.digest_of s.script.now) c.args.places.now
    c.member-id.result
    c.from.result c.index-places-from.result c.replace-place.result c.requires.sound there
    c.from.ensures c.replace-place.ensures.value

pub returns-clause-turned : goal.returns-clause-turned
returns-clause-turned g c =
    let s = c.args.setting.now in
    let there : line_member s.line.now < length c.args.places.now =
    omega (arith, s.known, c.requires.count) in
    placed (script_rules g.H.Hasher.digest_of s.script.now) s.faulty.now (sent_in s.pool.now)
    c.args.places.now c.from.result c.from-2.result c.index-places-from.result
    c.replace-place.result c.replace-place.new.dest c.in_ok-place.place s.line.now
    c.found_at-found.result c.in_ok-place.done there (c.from.ensures ∙ c.member-id.ensures)
    (c.from-2.ensures ∙ c.member-id.ensures) c.replace-place.ensures.value
    c.found_at-found.ensures (rw c.member-id.ensures at c.in_ok-place.ensures.makes)

pub returns-clause-sound : goal.returns-clause-sound
returns-clause-sound g c =
    let s = c.args.setting.now in
    put_back (script_rules g.H.Hasher.digest_of s.script.now) c.args.places.now c.member-id.result
    c.from.result c.from-2.result c.replace-place.new.dest c.in_ok-place.place c.requires.sound
    c.from.ensures c.from-2.ensures c.in_ok-place.ensures.sound
