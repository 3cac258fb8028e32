use Rattle.std.proofs.Common.{subst}
use Rattle.std.specs.Prelude.{string_bytes}
use Rattle.member_lines.specs.Claims.{claims}
use Rattle.member_session.specs.Serving.{Serving, serving_of, serving_rules}
use Rattle.member_session.specs.Told.{Turns}
use Rattle.member_session.proofs.running.Running.turn.Goals as goal

pub returns-in-Ok : goal.returns-in-Ok
returns-in-Ok g c =
    subst
    (λ (s : Serving). Turns (serving_rules g.H.Hasher.digest_of g.W.Way.travel s) s
    (record { signed = claims c.args.claim.now; event = c.args.event.now })
    (string_bytes c.args.out.now) (string_bytes c.take_event.new.out)
    (serving_of c.take_event.new.member))
    c.self.view_is c.in-Ok.ensures.turns
