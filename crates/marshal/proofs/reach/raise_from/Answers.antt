use Rattle.std.proofs.Common.{◌≡◌, ◌<◌, arith, length, rules}
use Rattle.std.proofs.lemmas.List.{get_or_default}
use Rattle.marshal.proofs.Raising.{raised_all, raised_on, raising}
use Rattle.marshal.proofs.reach.raise_from.Goals as goal

pub loop-place-init : goal.loop-place-init
loop-place-init c = raising c.args.reach.now.items c.args.from c.args.height

pub returns-then-height-index-clause-lifted : goal.returns-then-height-index-clause-lifted
returns-then-height-index-clause-lifted c =
    let reach = c.loop-place.reach.items in
    let place = c.loop-place.place in
    let found = c.index.result.now in
    (raised_all c.args.reach.now.items c.args.from c.args.height reach place
    c.loop-place.invariant c.requires
    (λ d l.
    let inside : place < length reach = omega (arith, l, c.loop-place.invariant.as_many) in
    let at = get_or_default reach place d found inside in
    omega (arith, at, c.index.ensures, c.if-height-index.true))).0

pub returns-then-height-index-clause-above : goal.returns-then-height-index-clause-above
returns-then-height-index-clause-above c =
    let reach = c.loop-place.reach.items in
    let place = c.loop-place.place in
    let found = c.index.result.now in
    (raised_all c.args.reach.now.items c.args.from c.args.height reach place
    c.loop-place.invariant c.requires
    (λ d l.
    let inside : place < length reach = omega (arith, l, c.loop-place.invariant.as_many) in
    let at = get_or_default reach place d found inside in
    omega (arith, at, c.index.ensures, c.if-height-index.true))).1

pub loop-place-preserved : goal.loop-place-preserved
loop-place-preserved c =
    let reach = c.loop-place.reach.items in
    let place = c.loop-place.place in
    let found = c.index.result.now in
    let long : c.len-place-end.result ≡ length c.args.reach.now.items = search rules in
    let inside : place < length reach =
    omega (arith, c.loop-place-test.true, long, c.loop-place.invariant.as_many) in
    let at = get_or_default reach place 0 found inside in
    raised_on c.args.reach.now.items c.args.from c.args.height reach place
    c.loop-place.invariant inside (omega (arith, at, c.index.ensures, c.if-height-index.false))

pub returns-clause-lifted : goal.returns-clause-lifted
returns-clause-lifted c =
    let long : c.len-place-end.result ≡ length c.args.reach.now.items = search rules in
    (raised_all c.args.reach.now.items c.args.from c.args.height c.loop-place.reach.items
    c.loop-place.place c.loop-place.invariant c.requires
    (λ d l. absurd (omega (arith, l, long, c.loop-place-test.false)))).0

pub returns-clause-above : goal.returns-clause-above
returns-clause-above c =
    let long : c.len-place-end.result ≡ length c.args.reach.now.items = search rules in
    (raised_all c.args.reach.now.items c.args.from c.args.height c.loop-place.reach.items
    c.loop-place.place c.loop-place.invariant c.requires
    (λ d l. absurd (omega (arith, l, long, c.loop-place-test.false)))).1
