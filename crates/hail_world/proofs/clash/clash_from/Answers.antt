use Rattle.std.proofs.Common.{◌≡◌, ◌<◌, ◌++◌, ◌∷◌, ℕ, List, length, take, get_or, subst, sym, arith}
use Rattle.cw_types.specs.Block.{Block}
use Rattle.cw_types.specs.declared.note.Note.{Note}
use Rattle.cw_rules.specs.Reached.{IsNamed}
use Rattle.cw_rules.specs.Rules.{genesis}
use Rattle.hail_world.specs.Known.{Takes, blocks_in}
use Rattle.hail_world.proofs.Nothing.{none_when}
use Rattle.hail_world.proofs.Colliding.{named_at, one_taken}
use Rattle.hail_world.proofs.clash.clash_from.Goals as goal

pub loop-index-preserved : goal.loop-index-preserved
loop-index-preserved c = λ r low high bytes named h.
    let own : List Note = c.args.own.now in
    let i : ℕ = c.loop-index.index in
    let d : Note = c.index-own-index.result in
    let known : List Block = genesis r ∷ low ++ blocks_in (take i own) ++ high in
    let lt : i < length own = omega (arith, c.loop-index-test.true) in
    let before = c.loop-index.invariant r low high bytes named h in
    let takes =
    c.in_ok-both.ensures.ok r known bytes
    (subst (IsNamed r) (sym c.index-own-index.is) (named_at r own i d named lt)) before.knows in
    one_taken r low high own c.args.old i d c.loop-index.known c.take.new.self c.in_ok-both.field-0
    before lt
    (subst (λ (n : Note). Takes r known n c.take.new.self c.in_ok-both.field-0)
    c.index-own-index.is takes)
    (none_when c.in_ok-both.field-0 c.in_default.not-Some)
