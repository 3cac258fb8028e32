use Rattle.std.proofs.Common.{◌≡◌, sym, ◌∙◌, ap, subst}
use Rattle.std.specs.Prelude.{IfOk}
use Rattle.cw_rules.specs.Rules.{commit}
use Rattle.cw_rules.specs.declared.travel.Travel.{Travel}
use Rattle.cw_rules_coded.specs.Coded.{ruled}
use Rattle.node.specs.Holding.{Holding}
use Rattle.node.proofs.holding.Holding.commitment_of.Goals as goal

pub returns-in-Chunked : goal.returns-in-Chunked
returns-in-Chunked g c =
    let h = c.args.self.now in
    let hash = g.H.Hasher.digest_of in
    let accepts = g.A.Application.accepts in
    let travel =
    sym (ap (λ (k : Holding g.row.D.Denot g.row.A.Denot). k.travel) c.self.view_is)
    ∙ c.in-Chunked.is in
    subst
    (λ (t : Travel). IfOk c.cut_commitment.result
    (λ m. m ≡ commit (ruled t hash h.epochs h.backlog (accepts h.app)) c.args.block.now))
    (sym travel) c.cut_commitment.ensures

pub returns-in-Uncut : goal.returns-in-Uncut
returns-in-Uncut g c =
    let h = c.args.self.now in
    let hash = g.H.Hasher.digest_of in
    let accepts = g.A.Application.accepts in
    let travel =
    sym (ap (λ (k : Holding g.row.D.Denot g.row.A.Denot). k.travel) c.self.view_is)
    ∙ c.in-Uncut.is in
    subst
    (λ (t : Travel). IfOk c.whole_commit.result
    (λ m. m ≡ commit (ruled t hash h.epochs h.backlog (accepts h.app)) c.args.block.now))
    (sym travel) (c.whole_commit.ensures h.epochs h.backlog (accepts h.app))
