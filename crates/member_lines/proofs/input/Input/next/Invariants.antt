use Rattle.member_lines.proofs.Reading.{HasRead}
use Rattle.member_lines.proofs.input.Input.next.Given as goal

abbrev pub invariant-pieces : goal.invariant-pieces
invariant-pieces g l =
    HasRead (g.I.Source.left l.fn.source) (g.I.Source.left l.source)
    (g.I.Source.faults l.fn.source) (g.I.Source.faults l.source) l.counter l.fn.self.ahead l.self
