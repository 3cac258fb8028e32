use Rattle.std.proofs.Common.{◌≡◌, ℕ, ◌+◌, ◌<◌, All, get_or, length, refl, sym, subst, arith}
use Rattle.std.proofs.lemmas.Grind.{get_or_default_zero}
use Rattle.coding_c.proofs.Buffers.{below_next}
use Rattle.coding_c.proofs.shards.are_below.Goals as goal

pub loop-i-preserved : goal.loop-i-preserved
loop-i-preserved c =
    below_next (λ j. get_or c.args.indices.now j 0 < c.args.k + c.args.m) c.loop-i.i
    c.loop-i.invariant
    (omega (
      arith,
      c.if-from.false,
      c.from.ensures,
      c.from-in-loop-i.ensures,
      c.from-in-loop-i-2.ensures,
    ))

pub returns : goal.returns
returns c = (
  λ _. λ j d l. subst (λ (x : ℕ). x < c.args.k + c.args.m)
      (sym (get_or_default_zero c.args.indices.now j d l))
      (c.loop-i.invariant j (omega (arith, l, c.loop-i-test.false))),
  λ _. refl,
)
