use Rattle.std.proofs.Common.{◌≡◌, sym, ◌∙◌, ap, subst, ◌++◌, List, [], option_map, Bor}
use Rattle.std.specs.Prelude.{OnOk}
use Rattle.std.specs.Option.{option_map_or}
use Rattle.cw_types.specs.Block.{Block}
use Rattle.cw_types.specs.declared.event.Out.{Out}
use Rattle.cw_rules.specs.Accepted.{first_some}
use Rattle.cw_rules.specs.Held.{noted_block_of}
use Rattle.cw_rules.specs.Sends.{block_sends}
use Rattle.node.specs.Holding.{Holding, rules_of}
use Rattle.node.specs.Store.{stored_notes}
use Rattle.node.proofs.holding.Holding.put_block.Goals as goal

pub returns-in-Some : goal.returns-in-Some
returns-in-Some g c =
    let h = c.args.self.now in
    let r = rules_of g.H.Hasher.digest_of g.A.Application.accepts h in
    let m = c.args.commitment.now in
    let noted =
    sym
    (ap
    (λ (k : Holding g.row.D.Denot g.row.A.Denot). first_some (noted_block_of m)
    (stored_notes k.store))
    c.self.view_is)
    ∙ (sym c.noted_block.ensures ∙ ap (option_map (λ (x : Bor Block). x.now)) c.in-Some.is) in
    λ view. subst
    (λ (l : List Out). OnOk c.put_verified.result
    (c.put_verified.new.out.items ≡ c.args.out.now.items ++ l))
    (sym (ap (λ o. option_map_or (block_sends h.travel r h.id c.args.epoch) o []) noted))
    c.put_verified.ensures
