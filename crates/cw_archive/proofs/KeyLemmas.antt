-- Keys: when two are the same, and how they are ordered.
use Rattle.std.proofs.Common.{◌≡◌, ◌==◌, true, cond, refl, ◌∙◌, ap, subst, eqb-true, eq-eqb, List, [], ◌∷◌, Some}
use Rattle.std.specs.Cmp.{IsEquivalence}
use Rattle.std.specs.Cmp.Lexicographic.{slice_cmp}
use Rattle.std.specs.Map.{lookup}
use Rattle.std.specs.declared.cmp.Ordering.{Ordering}
use Rattle.std.specs.declared.cmp.Ordering.TheVariants.{Less, Equal, Greater}
use Rattle.std.specs.Ordering.{is_eq, nat_cmp, ordering_then}
use Rattle.std.proofs.lemmas.Bool.{and_parts, and_from}
use Rattle.std.proofs.lemmas.Cmp.{nat_cmp_total, nat_list_cmp_total, tied_itself}
use Rattle.std.proofs.lemmas.Map.Lookups.{exact_bytes, exact_unsigned}
use Rattle.cw_base.specs.declared.hash.Digest32.{Digest32}
use Rattle.cw_types.specs.Same.{same_commitment}
use Rattle.cw_types.proofs.Same.{same_commitment-true, same_commitment_self}
use Rattle.cw_rules.specs.Rules.{Chunk}
use Rattle.cw_rules.proofs.Lists.{one_test}
use Rattle.cw_archive.specs.Keys.{at_key, commitment_of, same_chunk_key}
use Rattle.cw_archive.specs.declared.key.ChunkKey.{ChunkKey}

-- ---- the same keys

pub same_key-true : (a b : ChunkKey) → same_chunk_key a b ≡ true → a ≡ b
same_key-true a b h =
    let p =
    and_parts (same_commitment (commitment_of a) (commitment_of b)) (a.index == b.index) h in
    let e = same_commitment-true (commitment_of a) (commitment_of b) p.0 in
    let f = eqb-true a.index b.index p.1 in
    λ i. record {
      block = (e i).block;
      root = (e i).root;
      context = (e i).context;
      minimum = (e i).config.minimum;
      extra = (e i).config.extra;
      index = f i;
    }

pub same_key_self : (a : ChunkKey) → same_chunk_key a a ≡ true
same_key_self a =
    and_from (same_commitment (commitment_of a) (commitment_of a)) (a.index == a.index)
    (same_commitment_self (commitment_of a)) (eq-eqb a.index a.index refl)

pub same_key_symm : (a b : ChunkKey) → same_chunk_key a b ≡ same_chunk_key b a
same_key_symm a b = one_test (same_chunk_key a b) (same_chunk_key b a) (λ h. turn a b h)
    (λ h. turn b a h)
  where
    turn : (x y : ChunkKey) → same_chunk_key x y ≡ true → same_chunk_key y x ≡ true
    turn x y h =
        subst (λ (z : ChunkKey). same_chunk_key z x ≡ true) (same_key-true x y h) (same_key_self x)

pub same_key_equiv : IsEquivalence same_chunk_key
same_key_equiv = record {
  refl = same_key_self;
  symm = same_key_symm;
  congr = λ x y z h. ap (λ (w : ChunkKey). same_chunk_key w z) (same_key-true x y h);
}

-- ---- the order of keys

-- digest by digest, then the numbers
abbrev pub key_cmp : ChunkKey → ChunkKey → Ordering
key_cmp a b =
    ordering_then (slice_cmp nat_cmp a.block.0 b.block.0)
    (ordering_then (slice_cmp nat_cmp a.root.0 b.root.0)
    (ordering_then (slice_cmp nat_cmp a.context.0 b.context.0)
    (ordering_then (nat_cmp a.minimum b.minimum)
    (ordering_then (nat_cmp a.extra b.extra) (nat_cmp a.index b.index)))))

then_parts : (p q : Ordering) → is_eq (ordering_then p q) ≡ true → (p ≡ Equal) × (is_eq q ≡ true)
then_parts Less q h = cc
then_parts Equal q h = (refl, h)
then_parts Greater q h = cc

equal_from : (p : Ordering) → is_eq p ≡ true → p ≡ Equal
equal_from Less h = cc
equal_from Equal h = refl
equal_from Greater h = cc

digest_from : (a b : Digest32) → a.0 ≡ b.0 → a ≡ b
digest_from a b e = λ i. record { 0 = e i }

key_cmp-true : (a b : ChunkKey) → is_eq (key_cmp a b) ≡ true → a ≡ b
key_cmp-true a b h =
    let p0 = then_parts (slice_cmp nat_cmp a.block.0 b.block.0) _ h in
    let p1 = then_parts (slice_cmp nat_cmp a.root.0 b.root.0) _ p0.1 in
    let p2 = then_parts (slice_cmp nat_cmp a.context.0 b.context.0) _ p1.1 in
    let p3 = then_parts (nat_cmp a.minimum b.minimum) _ p2.1 in
    let p4 = then_parts (nat_cmp a.extra b.extra) (nat_cmp a.index b.index) p3.1 in
    let e0 = digest_from a.block b.block (exact_bytes a.block.0 b.block.0 p0.0) in
    let e1 = digest_from a.root b.root (exact_bytes a.root.0 b.root.0 p1.0) in
    let e2 = digest_from a.context b.context (exact_bytes a.context.0 b.context.0 p2.0) in
    let e3 = exact_unsigned a.minimum b.minimum p3.0 in
    let e4 = exact_unsigned a.extra b.extra p4.0 in
    let e5 = exact_unsigned a.index b.index (equal_from (nat_cmp a.index b.index) p4.1) in
    λ i. record {
      block = e0 i;
      root = e1 i;
      context = e2 i;
      minimum = e3 i;
      extra = e4 i;
      index = e5 i;
    }

key_cmp_self : (a : ChunkKey) → is_eq (key_cmp a a) ≡ true
key_cmp_self a =
    let bytes = tied_itself nat_list_cmp_total in
    let numbers = tied_itself nat_cmp_total in
    rw (
      bytes a.block.0,
      bytes a.root.0,
      bytes a.context.0,
      numbers a.minimum,
      numbers a.extra,
      numbers a.index,
    )
    refl

-- keys are compared equal where they are the same
pub key_tests : (a b : ChunkKey) → is_eq (key_cmp a b) ≡ same_chunk_key a b
key_tests a b = one_test (is_eq (key_cmp a b)) (same_chunk_key a b)
    (λ h. subst (λ (z : ChunkKey). same_chunk_key a z ≡ true) (key_cmp-true a b h)
    (same_key_self a))
    (λ h. subst (λ (z : ChunkKey). is_eq (key_cmp a z) ≡ true) (same_key-true a b h)
    (key_cmp_self a))

-- what a look-up by the order finds
pub at_key_found : (es : List (ChunkKey × Chunk)) (q : ChunkKey)
    → lookup (λ (k : ChunkKey). is_eq (key_cmp q k)) es ≡ at_key es q
at_key_found [] q = refl
at_key_found (e ∷ es) q =
    ap (λ b. cond b (Some e.1) (lookup (λ (k : ChunkKey). is_eq (key_cmp q k)) es))
    (key_tests q e.0)
    ∙ ap (λ o. cond (same_chunk_key q e.0) (Some e.1) o) (at_key_found es q)
