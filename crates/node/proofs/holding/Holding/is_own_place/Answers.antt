use Rattle.std.proofs.Common.{◌∙◌, ◌==◌, List, ap, false, ℕ}
use Rattle.std.specs.List.{list_any}
use Rattle.std.specs.Option.{option_map_or}
use Rattle.std.specs.Prelude.{position}
use Rattle.node.specs.Accepting.{is_own_place}
use Rattle.node.specs.Holding.{Holding}
use Rattle.node.proofs.holding.Holding.is_own_place.Goals as goal

pub returns : goal.returns
returns g c =
    let h = c.self.inside in
    c.stands_in.ensures
    ∙ (ap
    (λ (lists : List (List ℕ)). list_any
    (λ list. option_map_or (λ at. at == c.args.index) (position (λ j. j == h.id) list)
    false)
    lists)
    c.lists.ensures.value
    ∙ ap (λ (k : Holding g.row.D.Denot g.row.A.Denot). is_own_place k.epochs k.id c.args.index)
    c.self.view_is)
