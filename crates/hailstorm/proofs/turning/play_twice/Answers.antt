use Rattle.std.proofs.Common.{◌≡◌, ◌++◌, ◌∷◌, [], List, length, ap, ◌∙◌, arith, length-append}
use Rattle.cw_rules.specs.Report.{Entry, entry_of}
use Rattle.hail_world.specs.Clusters.{Cluster, steps_in, world_in}
use Rattle.hail_world.specs.Places.{script_rules}
use Rattle.hail_world.proofs.Clusters.{line_there}
use Rattle.hailstorm.proofs.Between.{last_at, steps_more}
use Rattle.hailstorm.proofs.turning.play_twice.Goals as goal

pub overflow_sub-last : goal.overflow_sub-last
overflow_sub-last g c =
    let hash = g.H.Hasher.digest_of in
    let k : Cluster = c.args.cluster.now in
    let there = line_there k.script.lines c.args.at c.requires.there in
    let is = c.in-Ok.ensures.ok there.0 there.1 in
    let whole = ap (λ (x : Cluster). x.over) is ∙ c.requires.whole in
    let all =
    steps_more hash k c.turn.new.self c.args.number there.0 c.steps-steps.result.now is
    (c.steps-steps.ensures whole) in
    let entry : Entry = entry_of (script_rules hash k.script) (world_in hash k) c.args.number
    there.0 in
    let many : length c.steps-steps.result.now ≡ length (steps_in hash k ++ entry ∷ []) =
    ap (λ (l : List Entry). length l) all in
    let both = length-append (steps_in hash k) (entry ∷ []) in
    omega (arith, many, both)

pub bounds-steps-last : goal.bounds-steps-last
bounds-steps-last g c =
    let hash = g.H.Hasher.digest_of in
    let k : Cluster = c.args.cluster.now in
    let there = line_there k.script.lines c.args.at c.requires.there in
    let is = c.in-Ok.ensures.ok there.0 there.1 in
    let whole = ap (λ (x : Cluster). x.over) is ∙ c.requires.whole in
    let all =
    steps_more hash k c.turn.new.self c.args.number there.0 c.steps-steps.result.now is
    (c.steps-steps.ensures whole) in
    let entry : Entry = entry_of (script_rules hash k.script) (world_in hash k) c.args.number
    there.0 in
    let many : length c.steps-steps.result.now ≡ length (steps_in hash k ++ entry ∷ []) =
    ap (λ (l : List Entry). length l) all in
    let both = length-append (steps_in hash k) (entry ∷ []) in
    omega (arith, many, both)

pub returns-clause-gives : goal.returns-clause-gives
returns-clause-gives g c = λ line there.
    let hash = g.H.Hasher.digest_of in
    let k : Cluster = c.args.cluster.now in
    let is = c.in-Ok.ensures.ok line there in
    let whole = ap (λ (x : Cluster). x.over) is ∙ c.requires.whole in
    let all =
    steps_more hash k c.turn.new.self c.args.number line c.steps-steps.result.now is
    (c.steps-steps.ensures whole) in
    c.in_ok-first.ensures ∙ c.index-steps-last.is
    ∙ last_at (steps_in hash k)
    (entry_of (script_rules hash k.script) (world_in hash k) c.args.number line) _
    c.steps-steps.result.now all
