use Rattle.hail_report.proofs.Numbered.{placed_more}
use Rattle.hail_report.proofs.pool.put_places.Goals as goal

pub loop-place-preserved : goal.loop-place-preserved
loop-place-preserved c =
    placed_more c.args.entry c.loop-place.place c.args.places.now.items c.loop-place.places.items
    c.push.new.self.items c.loop-place.invariant c.in_ok-push.ensures.items
