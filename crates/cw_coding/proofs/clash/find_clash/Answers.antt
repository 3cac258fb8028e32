use Rattle.std.proofs.Common.{◌≡◌, List, ◌≢◌, length, ◌∙◌, ap, sym, subst, arith, rules, IsTrue}
use Rattle.cw_tree.specs.Chunks.{Piece}
use Rattle.cw_coding.specs.Clash.{AreAlike}
use Rattle.cw_coding.proofs.FindLaws.{lengths, alike_texts, rivals, clash_is}
use Rattle.cw_coding.proofs.clash.find_clash.Goals as goal

pub first_difference-requires : goal.first_difference-requires
first_difference-requires g c = record {
  lengths = ap length c.deref.ensures.value
      ∙ lengths g.H.Hasher.digest_of g.H.Digest.Digest.content c.args.config.now c.args.first.now
      c.args.second.now _ _ _ _ c.in-Ok.ensures.some c.in-Ok.ensures.encoded
      c.in-Ok-encode_text.ensures.encoded
      ∙ sym (ap length c.deref-2.ensures.value);
}

pub unreachable-requires : goal.unreachable-requires
unreachable-requires g c =
    let hash = g.H.Hasher.digest_of in
    let content = g.H.Digest.Digest.content in
    let n = length c.deref.result.now in
    let alike : AreAlike n c.in-Ok.encoded.1.items c.in-Ok-encode_text.encoded.1.items =
    subst
    (λ (xs : List (Piece g.row.H-Digest.Denot)). AreAlike n xs
    c.in-Ok-encode_text.encoded.1.items)
    c.deref.ensures.value
    (subst (λ (ys : List (Piece g.row.H-Digest.Denot)). AreAlike n c.deref.result.now ys)
    c.deref-2.ensures.value c.in_default.ensures.none) in
    let same : c.args.first.now ≡ c.args.second.now =
    alike_texts hash content c.args.config.now c.args.first.now c.args.second.now _ _ _ _
    c.in-Ok.ensures.some c.in-Ok.ensures.encoded c.in-Ok-encode_text.ensures.encoded
    c.prove_rows.ensures.originals c.prove_rows.ensures.any_rows
    (λ i. omega (arith, c.type_inv.first i)) (λ i. omega (arith, c.type_inv.second i)) n
    (omega (arith, ap length c.deref.ensures.value)) alike in
    let yes = c.same_bytes.ensures.1 same in
    search rules

pub index-requires-2 : goal.index-requires-2
index-requires-2 g c =
    let long =
    lengths g.H.Hasher.digest_of g.H.Digest.Digest.content c.args.config.now c.args.first.now
    c.args.second.now _ _ _ _ c.in-Ok.ensures.some c.in-Ok.ensures.encoded
    c.in-Ok-encode_text.ensures.encoded in
    omega (arith, c.in-Some.ensures.within, long, ap length c.deref.ensures.value)

pub clash_of-requires-after_bounds : goal.clash_of-requires-after_bounds
clash_of-requires-after_bounds g c κs within =
    let yes : IsTrue c.is_same.result = search rules in
    rivals g.H.Hasher.digest_of g.H.Digest.Digest.content c.args.config.now c.args.first.now
    c.args.second.now _ _ _ _
    c.in-Ok.ensures.some c.in-Ok.ensures.encoded c.in-Ok-encode_text.ensures.encoded
    c.deref.result.now c.deref-2.result.now c.deref.ensures.value c.deref-2.ensures.value
    (sym (c.is_same.ensures.0 yes))
    c.in-Some.index c.index.result.now c.index-2.result.now c.in-Some.ensures.within c.index.ensures
    c.index-2.ensures c.in-Some.ensures.differ

pub returns-clause-found : goal.returns-clause-found
returns-clause-found g c =
    let yes : IsTrue c.is_same.result = search rules in
    let other : c.args.first.now ≢ c.args.second.now =
    λ same. let both = c.same_bytes.ensures.1 same in
    search rules in
    clash_is g.H.Hasher.digest_of g.H.Digest.Digest.content c.args.config.now c.args.first.now
    c.args.second.now _ _ _ _
    c.in-Ok.ensures.some c.in-Ok.ensures.encoded c.in-Ok-encode_text.ensures.encoded
    c.deref.result.now c.deref-2.result.now c.deref.ensures.value c.deref-2.ensures.value
    (sym (c.is_same.ensures.0 yes))
    c.in-Some.index c.index.result.now c.index-2.result.now c.in-Some.ensures.within c.index.ensures
    c.index-2.ensures c.in-Some.ensures.differ
    other c.in-Some.ensures.before _ _ c.in_ok-clash.ensures
