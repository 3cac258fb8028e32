use Rattle.std.proofs.Common.{◌≡◌, sym, ◌∙◌, ap, subst, ◌++◌}
use Rattle.std.specs.Prelude.{OnOk}
use Rattle.cw_rules.specs.Sends.{block_sends}
use Rattle.cw_rules.specs.declared.travel.Travel.{Travel}
use Rattle.node.specs.Holding.{Holding, rules_of}
use Rattle.node.proofs.holding.Holding.put_verified.Goals as goal

pub returns-in-Chunked : goal.returns-in-Chunked
returns-in-Chunked g c =
    let h = c.args.self.now in
    let hash = g.H.Hasher.digest_of in
    let accepts = g.A.Application.accepts in
    let travel =
    sym (ap (λ (k : Holding g.row.D.Denot g.row.A.Denot). k.travel) c.self.view_is)
    ∙ c.in-Chunked.is in
    subst
    (λ (t : Travel). OnOk c.put_cut.result
    (c.put_cut.new.out.items
    ≡ c.args.out.now.items
    ++ block_sends t (rules_of hash accepts h) h.id c.args.epoch c.args.block.now))
    (sym travel) c.put_cut.ensures

pub returns-in-Uncut : goal.returns-in-Uncut
returns-in-Uncut g c =
    let h = c.args.self.now in
    let hash = g.H.Hasher.digest_of in
    let accepts = g.A.Application.accepts in
    let travel =
    sym (ap (λ (k : Holding g.row.D.Denot g.row.A.Denot). k.travel) c.self.view_is)
    ∙ c.in-Uncut.is in
    subst
    (λ (t : Travel). OnOk c.put_whole.result
    (c.put_whole.new.out.items
    ≡ c.args.out.now.items
    ++ block_sends t (rules_of hash accepts h) h.id c.args.epoch c.args.block.now))
    (sym travel) c.put_whole.ensures
