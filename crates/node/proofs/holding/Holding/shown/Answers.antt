use Rattle.std.proofs.Common.{sym, ◌∙◌, ap}
use Rattle.cw_rules.specs.Held.{shown_by}
use Rattle.cw_rules.specs.declared.travel.Travel.{Travel}
use Rattle.node.specs.Holding.{Holding, came_of, rules_of}
use Rattle.node.proofs.holding.Holding.shown.Goals as goal

pub returns-in-Chunked : goal.returns-in-Chunked
returns-in-Chunked g c =
    let h = c.args.self.now in
    let hash = g.H.Hasher.digest_of in
    let accepts = g.A.Application.accepts in
    let travel =
    sym (ap (λ (k : Holding g.row.D.Denot g.row.A.Denot). k.travel) c.self.view_is)
    ∙ c.in-Chunked.is in
    c.shown_cut.ensures
    ∙ ap
    (λ (t : Travel). shown_by t (rules_of hash accepts h) (came_of h) c.args.commitment.now)
    (sym travel)

pub returns-in-Uncut : goal.returns-in-Uncut
returns-in-Uncut g c =
    let h = c.args.self.now in
    let hash = g.H.Hasher.digest_of in
    let accepts = g.A.Application.accepts in
    let travel =
    sym (ap (λ (k : Holding g.row.D.Denot g.row.A.Denot). k.travel) c.self.view_is)
    ∙ c.in-Uncut.is in
    c.shown_whole.ensures
    ∙ ap
    (λ (t : Travel). shown_by t (rules_of hash accepts h) (came_of h) c.args.commitment.now)
    (sym travel)
