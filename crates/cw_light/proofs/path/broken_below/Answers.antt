use Rattle.std.proofs.Common.{◌≡◌, ℕ, List, Some, ◌+◌, ◌-◌, ◌∙◌, sym, subst, slice_get, refl, arith, drop, length}
use Rattle.std.proofs.lemmas.Option.{same_Some, slice_get_read}
use Rattle.cw_rules.specs.Rules.{Rules}
use Rattle.cw_rules_coded.specs.Coded.{coded}
use Rattle.cw_types.specs.Block.{Block}
use Rattle.cw_light.specs.Checking.{broken_below}
use Rattle.cw_light.proofs.Walks.{breaks, ends, goes_on, some_at}
use Rattle.cw_light.proofs.path.broken_below.Goals as goal

pub returns-then-not-branch : goal.returns-then-not-branch
returns-then-not-branch g c = λ backlog accepts first below e.
    let r : Rules = coded g.H.Hasher.digest_of c.args.committees.now backlog accepts in
    let path : List Block = c.args.path.now in
    let place : ℕ = c.loop-place.place in
    let (low, few, rest) = c.loop-place.invariant backlog accepts first below e in
    let above : Block = c.index-path-place.result in
    let b : Block = c.index-path-place-in-loop-place.result in
    let at_above : slice_get path (place - 1) ≡ Some above =
    slice_get_read path (length path) (place - 1) above refl
    (omega (arith, c.loop-place-test.true)) c.index-path-place.is in
    let at : slice_get path place ≡ Some b =
    slice_get_read path (length path) place b refl c.loop-place-test.true
    c.index-path-place-in-loop-place.is in
    let other = sym (c.in_ok-is_parent.ensures backlog accepts) ∙ c.if-not-branch.true in
    sym (rest above at_above ∙ breaks r path place above b at other)

pub loop-place-preserved : goal.loop-place-preserved
loop-place-preserved g c = λ backlog accepts first below e.
    let r : Rules = coded g.H.Hasher.digest_of c.args.committees.now backlog accepts in
    let path : List Block = c.args.path.now in
    let place : ℕ = c.loop-place.place in
    let (low, few, rest) = c.loop-place.invariant backlog accepts first below e in
    let above : Block = c.index-path-place.result in
    let b : Block = c.index-path-place-in-loop-place.result in
    let at_above : slice_get path (place - 1) ≡ Some above =
    slice_get_read path (length path) (place - 1) above refl
    (omega (arith, c.loop-place-test.true)) c.index-path-place.is in
    let at : slice_get path place ≡ Some b =
    slice_get_read path (length path) place b refl c.loop-place-test.true
    c.index-path-place-in-loop-place.is in
    let is = sym (c.in_ok-is_parent.ensures backlog accepts) ∙ c.if-not-branch.false in
    let on = rest above at_above ∙ goes_on r path place above b at is in
    let back : place + 1 - 1 ≡ place = omega arith in (
      omega arith,
      omega (arith, c.loop-place-test.true),
      λ x h.
          let same : b ≡ x =
          same_Some b x (sym at ∙ subst (λ n. slice_get path n ≡ Some x) back h) in
          subst
          (λ (y : Block). broken_below r 1 first below
          ≡ broken_below r (place + 1) y (drop (place + 1) path))
          same on,
    )

pub returns : goal.returns
returns g c = λ backlog accepts first below e.
    let r : Rules = coded g.H.Hasher.digest_of c.args.committees.now backlog accepts in
    let path : List Block = c.args.path.now in
    let place : ℕ = c.loop-place.place in
    let (low, few, rest) = c.loop-place.invariant backlog accepts first below e in
    let all : place ≡ length path = omega (arith, few, c.loop-place-test.false) in
    let (above, at) = some_at path (place - 1) (omega (arith, low, all)) in
    sym (rest above at ∙ ends r path place above (omega (arith, all)))
