use Rattle.std.proofs.Common.{ℕ, List, length, ◌∙◌, ap, sym, subst, arith}
use Rattle.cw_coding.specs.Clash.{AreTold}
use Rattle.cw_coding.proofs.ClashLaws.{TellsDigests, leads_on, rivals_long, rivals_meet, clash_there}
use Rattle.cw_coding.proofs.clash.clash_of.Goals as goal

pub way_from_chunk-requires-clause-leads : goal.way_from_chunk-requires-clause-leads
way_from_chunk-requires-clause-leads g c κs within =
    leads_on g.H.Hasher.digest_of g.H.Digest.Digest.content c.args.ours.now c.requires.root
    c.requires.ours

pub way_from_chunk-requires-2-clause-leads : goal.way_from_chunk-requires-2-clause-leads
way_from_chunk-requires-2-clause-leads g c κs within =
    leads_on g.H.Hasher.digest_of g.H.Digest.Digest.content c.args.theirs.now c.requires.root
    c.requires.theirs

pub first_collision-requires-clause-lengths : goal.first_collision-requires-clause-lengths
first_collision-requires-clause-lengths g c κs within =
    let digests =
    g.met.H.Digest.Digest g.world.𝓛 g.world.𝓜 g.world.𝓡
    ((λ s x. x), (λ x. x), (λ x. x), λ x. x) in
    let hashes =
    g.met.H.Hasher g.world.𝓛 g.world.𝓜 g.world.𝓡 ((λ s x. x), (λ x. x), (λ x. x), λ x. x) in
    let laws : TellsDigests g.H.Hasher.digest_of g.H.Digest.Digest.content =
    record {
      size = g.H.Digest.Digest.SIZE;
      sized = hashes.sized;
      told = digests.told_by_bytes;
    } in
    ap length c.deref.ensures.value
    ∙ rivals_long g.H.Hasher.digest_of g.H.Digest.Digest.content laws c.args.ours.now
    c.args.theirs.now c.requires
    c.in_ok-ours.ours.items c.in_ok-theirs.theirs.items c.in_ok-ours.ensures c.in_ok-theirs.ensures
    ∙ sym (ap length c.deref-2.ensures.value)

pub unreachable-requires : goal.unreachable-requires
unreachable-requires g c =
    let digests =
    g.met.H.Digest.Digest g.world.𝓛 g.world.𝓜 g.world.𝓡
    ((λ s x. x), (λ x. x), (λ x. x), λ x. x) in
    let hashes =
    g.met.H.Hasher g.world.𝓛 g.world.𝓜 g.world.𝓡 ((λ s x. x), (λ x. x), (λ x. x), λ x. x) in
    let laws : TellsDigests g.H.Hasher.digest_of g.H.Digest.Digest.content =
    record {
      size = g.H.Digest.Digest.SIZE;
      sized = hashes.sized;
      told = digests.told_by_bytes;
    } in
    let hash = g.H.Hasher.digest_of in
    let n = length c.deref.result.now in
    rivals_meet hash g.H.Digest.Digest.content laws c.args.ours.now c.args.theirs.now c.requires
    c.in_ok-ours.ours.items c.in_ok-theirs.theirs.items c.in_ok-ours.ensures c.in_ok-theirs.ensures
    n (omega (arith, ap length c.deref.ensures.value))
    (subst (λ (xs : List (List ℕ)). AreTold hash n xs c.in_ok-theirs.theirs.items)
    c.deref.ensures.value
    (subst (λ (ys : List (List ℕ)). AreTold hash n c.deref.result.now ys) c.deref-2.ensures.value
    c.in_default.ensures.none))

pub index-requires-2 : goal.index-requires-2
index-requires-2 g c =
    let digests =
    g.met.H.Digest.Digest g.world.𝓛 g.world.𝓜 g.world.𝓡
    ((λ s x. x), (λ x. x), (λ x. x), λ x. x) in
    let hashes =
    g.met.H.Hasher g.world.𝓛 g.world.𝓜 g.world.𝓡 ((λ s x. x), (λ x. x), (λ x. x), λ x. x) in
    let laws : TellsDigests g.H.Hasher.digest_of g.H.Digest.Digest.content =
    record {
      size = g.H.Digest.Digest.SIZE;
      sized = hashes.sized;
      told = digests.told_by_bytes;
    } in
    let long =
    rivals_long g.H.Hasher.digest_of g.H.Digest.Digest.content laws c.args.ours.now
    c.args.theirs.now c.requires
    c.in_ok-ours.ours.items c.in_ok-theirs.theirs.items c.in_ok-ours.ensures
    c.in_ok-theirs.ensures in
    omega (
      arith,
      c.in-Some.ensures.within,
      long,
      ap length c.deref.ensures.value,
      ap length c.deref-2.ensures.value,
      c.deref-2.ensures.len,
    )

pub returns : goal.returns
returns g c =
    let digests =
    g.met.H.Digest.Digest g.world.𝓛 g.world.𝓜 g.world.𝓡
    ((λ s x. x), (λ x. x), (λ x. x), λ x. x) in
    let hashes =
    g.met.H.Hasher g.world.𝓛 g.world.𝓜 g.world.𝓡 ((λ s x. x), (λ x. x), (λ x. x), λ x. x) in
    let laws : TellsDigests g.H.Hasher.digest_of g.H.Digest.Digest.content =
    record {
      size = g.H.Digest.Digest.SIZE;
      sized = hashes.sized;
      told = digests.told_by_bytes;
    } in
    clash_there g.H.Hasher.digest_of g.H.Digest.Digest.content c.deref.result.now
    c.deref-2.result.now c.in_ok-ours.ours.items c.in_ok-theirs.theirs.items
    c.args.ours.now c.args.theirs.now c.in-Some.place c.index.result.now c.index-2.result.now _ _
    c.deref.ensures.value c.deref-2.ensures.value c.in_ok-ours.ensures c.in_ok-theirs.ensures
    (rivals_long g.H.Hasher.digest_of g.H.Digest.Digest.content laws c.args.ours.now
    c.args.theirs.now c.requires
    c.in_ok-ours.ours.items c.in_ok-theirs.theirs.items c.in_ok-ours.ensures c.in_ok-theirs.ensures)
    c.in-Some.ensures.within c.index.ensures c.index-2.ensures
    (c.in_ok-one.ensures.items ∙ c.as_slice.ensures)
    (c.in_ok-other.ensures.items ∙ c.as_slice-2.ensures) c.in-Some.ensures.collide
    c.in-Some.ensures.before
