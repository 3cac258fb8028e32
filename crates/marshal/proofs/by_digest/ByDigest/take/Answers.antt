use Rattle.std.proofs.Common.{ap}
use Rattle.cw_types.specs.Same.{same_digest}
use Rattle.marshal.specs.Digests.{is_digest}
use Rattle.marshal.proofs.Digesting.{digest_cmp, digests_tie, met_less}
use Rattle.marshal.proofs.Placing.{first_gone, first_less, gone_so}
use Rattle.marshal.proofs.by_digest.ByDigest.take.Goals as goal

pub returns-in-Some : goal.returns-in-Some
returns-in-Some c = λ digests have at.
    let i = c.args.self.now in
    let d = c.in-Some.digest in
    met_less digests c.args.digest i.first.entries c.take_last.new.map.entries i.again.entries have
    (first_gone same_digest is_digest i.first.entries c.take_last.new.map.entries digests
    c.args.digest d c.args.place (λ q. ap (is_digest q) c.in-Some.is) have.firsts
    (gone_so same_digest digest_cmp digests_tie d c.args.place i.first.entries
    c.take_last.new.map.entries c.take_last.ensures)
    at)

pub returns-in_default : goal.returns-in_default
returns-in_default c = λ digests have at.
    let i = c.args.self.now in
    met_less digests c.args.digest i.first.entries i.first.entries i.again.entries have
    (first_less same_digest is_digest i.first.entries digests c.args.digest
    (λ q. ap (is_digest q) c.in_default.is) have.firsts)
