use Rattle.std.proofs.Common.{◌∙◌}
use Rattle.node_disk.specs.Memory.{is_stopped, stop_from_now}
use Rattle.node.proofs.Working.{awake_logged, travel_logged}
use Rattle.node.proofs.member.Member+H+MemoryDisk+A+W.stop_at.Goals as goal

pub invariant_of-self : goal.invariant_of-self
invariant_of-self g c =
    let h = c.self.inside.holding in
    let disk = h.log.disk in
    let log =
    record h.log
    { disk = record disk { stop = stop_from_now disk c.args.call c.args.cut c.args.fill } } in
    record {
      0 =
          travel_logged (is_stopped disk) h c.stop_at.new.self log c.stop_at.ensures.armed
          c.stop_at.ensures.stopped
          ∙ c.self.invariant.0;
      1 = λ works.
          awake_logged g.H.Hasher.digest_of g.A.Application.accepts (is_stopped disk) h
          c.stop_at.new.self c.self.inside.leads.led.entries log c.stop_at.ensures.armed
          c.stop_at.ensures.stopped (c.self.invariant.1 works);
    }
