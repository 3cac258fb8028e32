use Rattle.member_session.proofs.Served.{HasServed}
use Rattle.member_session.proofs.program.serve.Given as goal

abbrev pub invariant-lines : goal.invariant-lines
invariant-lines g l =
    HasServed g.H.Hasher.digest_of (l.fn.id, g.W.Way.travel) (g.I.Source.left l.fn.source)
    (g.O.Sink.held l.fn.sink) (g.I.Source.faults l.fn.source) (g.O.Sink.faults l.fn.sink)
    (g.I.Source.left l.source) (g.O.Sink.held l.sink) (g.I.Source.faults l.source)
    (g.O.Sink.faults l.sink) l.counter l.input.ahead l.session
