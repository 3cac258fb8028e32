-- Which chunks leave, and what stays.
use Rattle.std.proofs.Common.{◌≡◌, ℕ, ◌+◌, ◌-◌, ◌<◌, ◌≤◌, ◌⊎◌, inl, inr, Bool, true, false, if◌then◌else◌, nat_lt, List, [], ◌∷◌, ◌++◌, length, Some, slice_get, drop, refl, sym, ◌∙◌, ap, subst, arith, ltb-true, zero-add}
use Rattle.std.specs.List.{AllByRecursion}
use Rattle.std.specs.Option.{option_map}
use Rattle.std.proofs.lemmas.Bool.{cases_Bool, lt-ltb}
use Rattle.std.proofs.lemmas.List.Sums.{sum_by-append}
use Rattle.std.proofs.lemmas.Option.{same_Some}
use Rattle.cw_rules.specs.Rules.{Chunk}
use Rattle.shards.specs.declared.pieces.KeptChunk.{KeptChunk}
use Rattle.cw_archive.specs.Archived.{used_of, within_limit}
use Rattle.cw_archive.specs.Showing.{HasNewest}

abbrev width : KeptChunk → ℕ
width k = length k.chunk.shard

-- the bytes of all shards are those of the newest and of the others
pub used_newest : (w used : ℕ) (kept : List KeptChunk) → HasNewest w used kept
    → used_of kept ≡ used + w
used_newest w used kept h =
    ap used_of h.is
    ∙ (sum_by-append width h.others (h.newest ∷ [])
    ∙ (let e = h.wide in let f = h.counted in omega arith))

-- within the limit all stay
pub all_stay : (limit : ℕ) (kept : List KeptChunk) → used_of kept ≤ limit
    → within_limit limit kept ≡ kept
all_stay limit [] h = refl
all_stay limit (k ∷ ks) h = go (cases_Bool (nat_lt limit (used_of (k ∷ ks))))
  where
    go : (nat_lt limit (used_of (k ∷ ks)) ≡ true) ⊎ (nat_lt limit (used_of (k ∷ ks)) ≡ false)
        → within_limit limit (k ∷ ks) ≡ k ∷ ks
    go (inl t) = absurd (let l = ltb-true limit (used_of (k ∷ ks)) t in omega arith)
    go (inr f) = ap (λ b. if b then within_limit limit ks else k ∷ ks) f

-- past it the oldest leaves
one_leaves : (limit : ℕ) (k : KeptChunk) (ks : List KeptChunk) → limit < used_of (k ∷ ks)
    → within_limit limit (k ∷ ks) ≡ within_limit limit ks
one_leaves limit k ks h =
    ap (λ b. if b then within_limit limit ks else k ∷ ks) (lt-ltb limit (used_of (k ∷ ks)) h)

-- what one leaves behind
pub record Leaves (w limit used : ℕ) (kept : List KeptChunk) : Type 0 where
  pub oldest : KeptChunk
  pub rest : List KeptChunk
  pub is : kept ≡ oldest ∷ rest
  pub counted : length oldest.chunk.shard ≤ used
  pub newest : HasNewest w (used - length oldest.chunk.shard) rest
  pub same : within_limit limit kept ≡ within_limit limit rest

-- where the shards have more bytes than the limit, there is an older chunk than the newest, and it
-- leaves
pub leaves : (w limit used : ℕ) (kept : List KeptChunk) → HasNewest w used kept → w ≤ limit
    → limit - w < used → Leaves w limit used kept
leaves w limit used kept h fits more = go h.others h.is h.counted
  where
    go : (others : List KeptChunk) → kept ≡ others ++ h.newest ∷ [] → used ≡ used_of others
        → Leaves w limit used kept
    go [] is counted = absurd (omega arith)
    go (k ∷ ks) is counted =
        let rest = ks ++ h.newest ∷ [] in
        let sum : used_of (k ∷ ks) ≡ used_of (k ∷ []) + used_of ks =
        sum_by-append width (k ∷ []) ks in
        let one : used_of (k ∷ []) ≡ length k.chunk.shard = zero-add (length k.chunk.shard) in
        let total : used_of (k ∷ rest) ≡ used + w =
        ap used_of (sym is) ∙ used_newest w used kept h in
        record {
          oldest = k;
          rest = ks ++ h.newest ∷ [];
          is = is;
          counted = omega arith;
          newest =
              record {
                others = ks;
                newest = h.newest;
                is = refl;
                wide = h.wide;
                counted = omega arith;
              };
          same =
              ap (within_limit limit) is ∙ one_leaves limit k (ks ++ h.newest ∷ []) (omega arith);
        }

-- what holds of all holds of those that stay
pub all_within : (P : KeptChunk → Type 0) (limit : ℕ) (kept : List KeptChunk)
    → AllByRecursion P kept → AllByRecursion P (within_limit limit kept)
all_within P limit [] h = tt
all_within P limit (k ∷ ks) h = go (nat_lt limit (used_of (k ∷ ks))) (all_within P limit ks h.1)
  where
    go : (b : Bool) → AllByRecursion P (within_limit limit ks)
        → AllByRecursion P (if b then within_limit limit ks else k ∷ ks)
    go true more = more
    go false more = h

pub all_push : {X : Type 0} (P : X → Type 0) (xs : List X) (y : X) → AllByRecursion P xs → P y
    → AllByRecursion P (xs ++ y ∷ [])
all_push P [] y a b = (b, tt)
all_push P (x ∷ xs) y a b = (a.0, all_push P xs y a.1 b)

-- what the oldest leaves, where it was taken out
pub popped : (w limit used : ℕ) (kept new : List KeptChunk) (x : Chunk) → Leaves w limit used kept
    → Some x ≡ option_map (λ (k : KeptChunk). k.chunk) (slice_get kept 0) → new ≡ drop 1 kept
    → (length x.shard ≤ used) × HasNewest w (used - length x.shard) new
    × (within_limit limit new ≡ within_limit limit kept)
popped w limit used kept new x h value rest =
    let same : x ≡ h.oldest.chunk =
    same_Some x h.oldest.chunk
    (value
    ∙ ap
    (λ (ks : List KeptChunk). option_map (λ (k : KeptChunk). k.chunk)
    (slice_get ks 0))
    h.is) in
    let left : new ≡ h.rest = rest ∙ ap (λ (ks : List KeptChunk). drop 1 ks) h.is in (
      subst (λ (y : Chunk). length y.shard ≤ used) (sym same) h.counted,
      subst (λ (ks : List KeptChunk). HasNewest w (used - length x.shard) ks) (sym left)
          (subst (λ (y : Chunk). HasNewest w (used - length y.shard) h.rest) (sym same) h.newest),
      ap (within_limit limit) left ∙ sym h.same,
    )
