use Rattle.std.proofs.Common.{◌++◌, ◌∷◌, [], Option, subst, sym}
use Rattle.cw_base.specs.declared.hash.Digest32.{Digest32}
use Rattle.marshal.specs.Digests.{HaveDigests}
use Rattle.marshal.proofs.Digesting.{none_met}
use Rattle.marshal.proofs.by_digest.ByDigest.put.Goals as goal

pub returns-in-None-clause-ok : goal.returns-in-None-clause-ok
returns-in-None-clause-ok c = λ digests have at.
    let i = c.args.self.now in
    subst
    (λ (x : Option Digest32). HaveDigests (digests ++ x ∷ []) i.first.entries i.again.entries)
    (sym c.in-None.is) (none_met digests i.first.entries i.again.entries have)
