use Rattle.node_disk.proofs.Refusing.{cut_only}
use Rattle.node_disk.proofs.log.Log.start.Goals as goal

pub returns-in-Err-clause-foreign : goal.returns-in-Err-clause-foreign
returns-in-Err-clause-foreign g c place is =
    cut_only (g.D.Disk.state c.args.disk).now.seen place (c.in-Err.ensures.foreign place is)
