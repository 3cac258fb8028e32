use Rattle.std.proofs.Common.{◌++◌, ◌∷◌, [], List, sym, subst, take, append_assoc}
use Rattle.std.proofs.lemmas.List.{take_more}
use Rattle.cw_rules.specs.World.{Sent}
use Rattle.hail_report.specs.Votes.{TellVotes}
use Rattle.hail_report.proofs.votes.Votes.take_all.Goals as goal

pub loop-one-preserved : goal.loop-one-preserved
loop-one-preserved c before told =
    let front : List Sent = take c.loop-one.one-index c.args.sent.now in
    let one : Sent = c.one-item.result in
    let more = take_more c.args.sent.now c.loop-one.one-index one c.loop-one-test.true in
    let next = rw (← c.one-item.is) at more in
    let kept = c.in_ok-take.ensures (before ++ front) (c.loop-one.invariant before told) in
    subst (λ (l : List Sent). TellVotes c.take.new.self.rounds (before ++ l)) (sym next)
    (subst (λ (l : List Sent). TellVotes c.take.new.self.rounds l)
    (append_assoc before front (one ∷ [])) kept)
