use Rattle.std.proofs.Common.{◌≡◌, ◌∙◌, ◌++◌, ◌∷◌, ℕ, List, Option, None, ap, take, drop}
use Rattle.std.specs.Prelude.{option_map}
use Rattle.cw_types.specs.Block.{Block}
use Rattle.cw_rules.specs.Chains.{clash_at, first_clash}
use Rattle.cw_rules.specs.Rules.{genesis}
use Rattle.hail_world.specs.Known.{AreKnown, Knows, blocks_in}
use Rattle.hail_world.specs.Places.{notes_at}
use Rattle.hail_world.specs.Runs.{encoded}
use Rattle.hail_world.proofs.Clashes.{is_own}
use Rattle.hail_world.proofs.Searching.{ok_more}
use Rattle.hail_world.proofs.clash.find_clash.Goals as goal

pub returns-clause-clash : goal.returns-clause-clash
returns-clause-clash g c = λ r before after bytes members grown named knows.
    let own = c.notes_at-own.result.now in
    let o =
    is_own r before after c.args.id c.args.old c.args.known.now grown named knows c.args.places.now
    c.index-places-id.result own members c.requires.there
    (c.notes_at-own.ensures ∙ ap notes_at c.index-places-id.is) in
    ok_more
    (λ (x : Option (List ℕ × List ℕ)). x
    ≡ option_map (encoded r)
    (first_clash r o.low (blocks_in (take c.args.old own)) o.high
    (blocks_in (drop c.args.old own))))
    (λ (x : Option (List ℕ × List ℕ)). x
    ≡ option_map (encoded r) (clash_at r before after c.args.id))
    c.clash_from.result
    (λ x e. e ∙ ap (λ (p : Option (Block × Block)). option_map (encoded r) p) o.clash)
    (c.clash_from.ensures.clash r o.low o.high bytes o.named o.knows)

pub returns-clause-knows : goal.returns-clause-knows
returns-clause-knows g c = λ r before after bytes members grown named knows.
    let own = c.notes_at-own.result.now in
    let new = c.clash_from.new.known in
    let o =
    is_own r before after c.args.id c.args.old c.args.known.now grown named knows c.args.places.now
    c.index-places-id.result own members c.requires.there
    (c.notes_at-own.ensures ∙ ap notes_at c.index-places-id.is) in
    ok_more
    (λ (x : Option (List ℕ × List ℕ)). x ≡ None
    → AreKnown r new (genesis r ∷ o.low ++ blocks_in own ++ o.high))
    (λ (x : Option (List ℕ × List ℕ)). x ≡ None → Knows r new after)
    c.clash_from.result
    (λ x h none. o.later new (h none))
    (c.clash_from.ensures.knows r o.low o.high bytes o.named o.knows)
