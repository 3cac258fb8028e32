use Rattle.std.proofs.Common.{◌≡◌, ◌∙◌, ◌++◌, [], List, Option, None, Some, ap, sym}
use Rattle.std.specs.Prelude.{flat_map}
use Rattle.std.specs.Option.{option_map_or}
use Rattle.cw_types.specs.Block.{Block}
use Rattle.cw_types.specs.declared.event.Handed.{Handed}
use Rattle.cw_rules.specs.Chains.{chain_to}
use Rattle.cw_rules.specs.Report.{highest}
use Rattle.hail_world.specs.Runs.{chain_from}
use Rattle.hail_world.proofs.Links.{top_is}
use Rattle.hail_world.proofs.Searching.{ok_more}
use Rattle.hail_world.proofs.chain.chain_of.Goals as goal

pub returns-in-None : goal.returns-in-None
returns-in-None g c = λ r w by members.
    c.new.ensures
    ∙ ap (λ (o : Option Handed). chain_from r w o)
    (sym c.in-None.is
    ∙ top_is c.args.opening.now c.args.steps.now c.highest.result c.highest-2.result
    c.highest.ensures c.highest-2.ensures)

pub returns-in_ok-top-in-Some : goal.returns-in_ok-top-in-Some
returns-in_ok-top-in-Some g c = λ r w by members.
    ok_more (λ (x : List Block). x ≡ option_map_or (λ b. chain_to r w b) c.in_ok-top-in-Some.top [])
    (λ (x : List Block). x
    ≡ chain_from r w
    (highest (flat_map (λ e. e.handed) (c.args.opening.now ++ c.args.steps.now))))
    c.links_to.result
    (λ x e. e
    ∙ ap (λ (o : Option Block). option_map_or (λ b. chain_to r w b) o [])
    (c.in_ok-top-in-Some.ensures r w by members)
    ∙ ap (λ (o : Option Handed). chain_from r w o)
    (sym c.in-Some.is
    ∙ top_is c.args.opening.now c.args.steps.now c.highest.result c.highest-2.result
    c.highest.ensures c.highest-2.ensures))
    (c.links_to.ensures r w by members)
