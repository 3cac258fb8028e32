use Rattle.std.proofs.Common.{◌≡◌, ℕ, ◌<◌, length, map, refl, inl, inr, ap, subst, arith}
use Rattle.coding_c.specs.Calls.{fewest_bytes, most_bytes}
use Rattle.coding_c.proofs.Enough.{first_shard, fewest_is, most_is}
use Rattle.coding_c.proofs.buz_decode.Goals as goal

pub returns-in-Some-lacking_text-clause-any_enough
    : goal.returns-in-Some-lacking_text-clause-any_enough
returns-in-Some-lacking_text-clause-any_enough c found e =
    let config = c.in-Some.ensures in
    let none = rw config.0 at c.in-Some-lacking_text.ensures in
    let wide =
    first_shard c.encodings_decode.ensures.checks c.encodings_decode.ensures.read_back c.args.k
    c.args.m c.args.root.now found (map (λ s. s.bytes.now) c.args.chunks.now) e none.bytes
    none.chunk none.first none.taken in
    let less = subst
    (λ (w : ℕ). length c.args.text.now < fewest_bytes c.args.k w) wide none.less in
    let needs = subst
    (λ (w : ℕ). c.in-Some-lacking_text.needed ≡ most_bytes c.args.k w) wide none.needs in
    let fewest = fewest_is (length found) c.args.k config.1 in
    let most = most_is (length found) c.args.k config.1 in
    inr (inr (refl, omega (arith, less, fewest), omega (arith, needs, most)))

pub returns-in-Err-clause-any_enough : goal.returns-in-Err-clause-any_enough
returns-in-Err-clause-any_enough c found e =
    let config = c.in-Some.ensures.0 in
    inr (inl ((rw config at c.in-Err.ensures.any_enough) found e))

pub returns-then-text-len-clause-any_enough : goal.returns-then-text-len-clause-any_enough
returns-then-text-len-clause-any_enough c found e =
    let config = c.in-Some.ensures.0 in
    let same : c.in-Ok.found.items ≡ found = (rw config at c.in-Ok.ensures.any_enough) found e in
    inr (inr (
      refl,
      omega (arith, ap length same, c.if-text-len.true, c.len.ensures, c.len-2.ensures),
      omega (arith, ap length same, c.len.ensures),
    ))

pub returns-clause-any_enough : goal.returns-clause-any_enough
returns-clause-any_enough c found e =
    let config = c.in-Some.ensures.0 in
    let same : c.in-Ok.found.items ≡ found = (rw config at c.in-Ok.ensures.any_enough) found e in
    inl (
      refl,
      rw (← same) (rw c.deref.ensures.value at c.put_front.ensures),
      omega (arith, ap length same, c.len.ensures),
    )
