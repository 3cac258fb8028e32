use Rattle.node.proofs.Acting.{acted, owes_then}
use Rattle.node.proofs.holding.Holding.note.Goals as goal

pub returns-clause-acted : goal.returns-clause-acted
returns-clause-acted g c =
    acted g.H.Hasher.digest_of g.A.Application.accepts (g.V.Verifier.signs c.args.verifier.now)
    c.args.event.now
    c.args.self.now c.accept.new.self c.write_direct.new.self c.settle.new.self
    c.in_ok-brought.ensures.come c.in_ok-write_direct.ensures.ok c.in_ok-settle.ensures.ok
    c.in_ok-settle.ensures.rests

pub settle-requires-clause-last : goal.settle-requires-clause-last
settle-requires-clause-last g c κs within =
    owes_then g.H.Hasher.digest_of g.A.Application.accepts (g.V.Verifier.signs c.args.verifier.now)
    c.args.event.now c.args.self.now c.accept.new.self c.write_direct.new.self _
    c.in_ok-brought.ensures.come c.in_ok-write_direct.ensures.ok c.requires.rests
