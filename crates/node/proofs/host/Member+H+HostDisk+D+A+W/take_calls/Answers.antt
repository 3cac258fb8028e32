use Rattle.std.proofs.Common.{◌∙◌, [], ap, false}
use Rattle.node.proofs.Working.{awake_logged}
use Rattle.node.proofs.host.Member+H+HostDisk+D+A+W.take_calls.Goals as goal

pub invariant_of-self : goal.invariant_of-self
invariant_of-self g c =
    let h = c.self.inside.holding in
    let log = record h.log { disk = record h.log.disk { waiting = [] } } in
    record {
      0 = ap (λ n. n.travel) c.take_calls.ensures.rest ∙ c.self.invariant.0;
      1 = λ works.
          awake_logged g.H.Hasher.digest_of g.A.Application.accepts false h c.take_calls.new.self
          c.self.inside.leads.led.entries log (λ _. c.take_calls.ensures.rest) (λ no. cc)
          (c.self.invariant.1 works);
    }
