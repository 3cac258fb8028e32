use Rattle.std.proofs.Common.{◌≡◌, ◌∙◌, Bor, IsTrue, List, ap, arith, length, map, subst, sym}
use Rattle.std.proofs.lemmas.List.{length-map, length-take}
use Rattle.cw_rules.specs.Coding.{AreApart}
use Rattle.cw_rules.specs.Rules.{Chunk}
use Rattle.cw_types.specs.declared.commitment.Commitment.{Commitment}
use Rattle.cw_archive.specs.Archived.{by_index, checks, chunks_of_least_index}
use Rattle.cw_archive.specs.Showing.{AreChecked}
use Rattle.cw_archive.proofs.IndexLemmas.{all_of, least_all, least_apart}
use Rattle.cw_archive.proofs.archive.Archive.get.Goals as goal

pub shown-requires-after_bounds : goal.shown-requires-after_bounds
shown-requires-after_bounds g c κs within =
    let hash = g.H.Hasher.digest_of in
    let d = c.args.commitment.now in
    let kept = c.self.inside.kept in
    let is : map (λ (x : Bor Chunk). x.now) c.deref.result.now ≡ chunks_of_least_index d kept =
    ap (λ (xs : List (Bor Chunk)). map (λ (x : Bor Chunk). x.now) xs) c.deref.ensures.value
    ∙ c.in_ok-chunks.ensures in
    let same = ap length is in
    let long = length-map c.deref.result.now (λ (x : Bor Chunk). x.now) in
    let taken = length-take d.config.minimum (by_index d kept) in
    let items = ap length c.deref.ensures.value in
    record {
      some = omega arith;
      enough = omega arith;
      check =
          subst (λ (xs : List Chunk). AreChecked hash d xs) (sym is)
          (least_all (λ (x : Chunk). IsTrue (checks hash d x)) d kept
          (all_of (λ (e : Commitment) (x : Chunk). IsTrue (checks hash e x)) d kept
          c.self.invariant.check));
      apart = subst AreApart (sym is) (least_apart d kept);
    }
