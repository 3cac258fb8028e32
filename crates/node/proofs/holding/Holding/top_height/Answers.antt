use Rattle.std.proofs.Common.{Bor, ap, option_map, sym, ◌∙◌}
use Rattle.std.specs.Option.{option_map_or}
use Rattle.cw_types.specs.Block.{Block}
use Rattle.marshal.specs.Finding.{final_blocks, highest_block}
use Rattle.node.proofs.Tops.{highest_height}
use Rattle.node.specs.Holding.{Holding, rules_of}
use Rattle.node.specs.Store.{stored_notes, stored_rules}
use Rattle.node.proofs.holding.Holding.top_height.Goals as goal

pub returns-in-Some-clause-value : goal.returns-in-Some-clause-value
returns-in-Some-clause-value g c =
    let h = c.args.self.now in
    let hash = g.H.Hasher.digest_of in
    let r = rules_of hash g.A.Application.accepts h in
    let now = λ (b : Bor Block). b.now in
    let height = λ (b : Block). b.height in
    let found =
    c.highest.ensures
    ∙ ap
    (λ (k : Holding g.row.D.Denot g.row.A.Denot). highest_block
    (final_blocks (stored_rules hash k.store) (stored_notes k.store)))
    c.self.view_is in
    c.height.ensures.value
    ∙ (sym (ap (λ o. option_map_or height (option_map now o) 0) c.in-Some.is)
    ∙ (ap (λ o. option_map_or height o 0) found ∙ sym (highest_height r (stored_notes h.store))))

pub returns-in-None-clause-value : goal.returns-in-None-clause-value
returns-in-None-clause-value g c =
    let h = c.args.self.now in
    let hash = g.H.Hasher.digest_of in
    let r = rules_of hash g.A.Application.accepts h in
    let now = λ (b : Bor Block). b.now in
    let height = λ (b : Block). b.height in
    let found =
    c.highest.ensures
    ∙ ap
    (λ (k : Holding g.row.D.Denot g.row.A.Denot). highest_block
    (final_blocks (stored_rules hash k.store) (stored_notes k.store)))
    c.self.view_is in
    sym (ap (λ o. option_map_or height (option_map now o) 0) c.in-None.is)
    ∙ (ap (λ o. option_map_or height o 0) found ∙ sym (highest_height r (stored_notes h.store)))
