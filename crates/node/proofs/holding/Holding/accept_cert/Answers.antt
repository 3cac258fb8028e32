use Rattle.std.proofs.Common.{sym, ◌∙◌}
use Rattle.node.proofs.Accepting.{valid_signers}
use Rattle.node.specs.Holding.{rules_of}
use Rattle.node.proofs.holding.Holding.accept_cert.Goals as goal

pub take_cert-requires-clause-signed : goal.take_cert-requires-clause-signed
take_cert-requires-clause-signed g c κs within =
    valid_signers (rules_of g.H.Hasher.digest_of g.A.Application.accepts c.args.self.now)
    (g.V.Verifier.signs c.args.verifier.now) c.args.cert.now
    (sym c.is_valid.ensures ∙ c.if-not-is_valid.false)
