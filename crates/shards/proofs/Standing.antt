-- What a check of a chunk answers, and what the rules ask.
use Rattle.std.proofs.Common.{◌≡◌, ◌≢◌, ℕ, ◌%◌, ◌≤◌, ◌&&◌, ◌==◌, ◌⊎◌, inl, inr, true, false, nat_lt, List, length, Some, None, Option, refl, sym, ap, arith, eq-eqb, eqb-true, ltb-true}
use Rattle.std.specs.Option.{option_map_or}
use Rattle.std.proofs.lemmas.Bool.{and_parts, and_from, cases_Bool, lt-ltb}
use Rattle.cw_base.specs.declared.hash.Digest32.{Digest32}
use Rattle.cw_coding.specs.Checking.{IsBadWidth, IsCheckRefusal, IsUnder}
use Rattle.cw_coding.specs.Totals.{total_of}
use Rattle.cw_coding.specs.declared.error.RsError.TheVariants.{InvalidShardSize}
use Rattle.cw_coding.specs.declared.error.ReedSolomonError.{ReedSolomonError}
use Rattle.cw_coding.specs.declared.error.ReedSolomonError.TheVariants.{ReedSolomon, Inconsistent, InvalidProof, NotEnoughChunks, DuplicateIndex, InvalidDataLength, InvalidIndex, TooManyTotalShards, CommitmentMismatch, NoMemory}
use Rattle.cw_tree.specs.Tree.{root_by}
use Rattle.cw_types.specs.Epochs.{Epochs}
use Rattle.cw_types.specs.Same.{same_digest}
use Rattle.cw_types.specs.declared.commitment.Commitment.{Commitment}
use Rattle.cw_rules.specs.Rules.{Chunk, is_under}
use Rattle.cw_rules_coded.specs.Coded.{digest_bytes, leads_up}
use Rattle.shards.specs.Kept.{chunk_rules}
use Rattle.cw_types.proofs.Same.{same_digest-true, same_digest_self}

module _ (hash : List ℕ → Digest32) (epochs : Epochs) (c : Commitment) (x : Chunk) where
  total : ℕ
  total = total_of c.config

  -- what stands is under the commitment
  pub under_stands : IsUnder hash digest_bytes c.config c.root x.index x
      → is_under (chunk_rules hash epochs) c x ≡ true
  under_stands u =
      let led : option_map_or (same_digest c.root)
      (root_by hash digest_bytes x.leaf_count x.siblings x.index (hash x.shard)) false
      ≡ true =
      rw u.path (same_digest_self c.root) in
      and_from _ (leads_up hash c.root x)
      (and_from _ (x.leaf_count == total_of c.config)
      (and_from _ (length x.shard % 2 == 0)
      (and_from (nat_lt x.index (total_of c.config)) (nat_lt 0 (length x.shard))
      (lt-ltb x.index (total_of c.config) u.within)
      (lt-ltb 0 (length x.shard) (let some = u.some in omega arith)))
      (eq-eqb (length x.shard % 2) 0 u.even))
      (eq-eqb x.leaf_count (total_of c.config) u.leaves))
      led

  -- and the other way round
  pub stands_under : total_of c.config ≤ 65535 → is_under (chunk_rules hash epochs) c x ≡ true
      → IsUnder hash digest_bytes c.config c.root x.index x
  stands_under few h =
      let a =
      and_parts
      (nat_lt x.index (total_of c.config) && nat_lt 0 (length x.shard)
      && (length x.shard % 2 == 0) && (x.leaf_count == total_of c.config))
      (leads_up hash c.root x) h in
      let b =
      and_parts
      (nat_lt x.index (total_of c.config) && nat_lt 0 (length x.shard)
      && (length x.shard % 2 == 0))
      (x.leaf_count == total_of c.config) a.0 in
      let d =
      and_parts (nat_lt x.index (total_of c.config) && nat_lt 0 (length x.shard))
      (length x.shard % 2 == 0) b.0 in
      let e = and_parts (nat_lt x.index (total_of c.config)) (nat_lt 0 (length x.shard)) d.0 in
      let some = ltb-true 0 (length x.shard) e.1 in
      record {
        total = few;
        within = ltb-true x.index (total_of c.config) e.0;
        some = λ none. absurd (omega arith);
        even = eqb-true (length x.shard % 2) 0 d.1;
        leaves = eqb-true x.leaf_count (total_of c.config) b.1;
        same = refl;
        path = led (root_by hash digest_bytes x.leaf_count x.siblings x.index (hash x.shard)) a.1;
      }
    where
      led : (o : Option Digest32) → option_map_or (same_digest c.root) o false ≡ true
          → o ≡ Some c.root
      led None f = cc
      led (Some d) t = ap Some (sym (same_digest-true c.root d t))

  -- what stands is refused for want of memory alone
  refuses : (e : ReedSolomonError) → e ≢ NoMemory
      → IsUnder hash digest_bytes c.config c.root x.index x
      → IsCheckRefusal hash digest_bytes c.config c.root x.index x e → ⊥
  refuses (TooManyTotalShards n) ne u (p, q) = let t = u.total in omega arith
  refuses (InvalidIndex i) ne u (p, inl q) = let w = u.within in let l = q.1 in omega arith
  refuses (InvalidIndex i) ne u (p, inr q) = q.4 refl
  refuses (ReedSolomon (InvalidShardSize n)) ne u r = bad r.3
    where
      bad : IsBadWidth (length x.shard) → ⊥
      bad (inl z) = u.some z
      bad (inr o) = o u.even
  refuses InvalidProof ne u r = bad r.3
    where
      bad : (x.leaf_count ≢ total_of c.config)
          ⊎ ((x.leaf_count ≡ total_of c.config) × (x.index ≡ x.index)
          × (root_by hash digest_bytes x.leaf_count x.siblings x.index (hash x.shard)
          ≢ Some c.root))
          → ⊥
      bad (inl z) = z u.leaves
      bad (inr o) = o.2 u.path
  refuses NoMemory ne u r = ne refl
  refuses Inconsistent ne u r = r
  refuses NotEnoughChunks ne u r = r
  refuses (DuplicateIndex i) ne u r = r
  refuses (InvalidDataLength n) ne u r = r
  refuses CommitmentMismatch ne u r = r

  -- what is refused, and not for want of memory, isn't under the commitment
  pub refused_under : (e : ReedSolomonError) → total_of c.config ≤ 65535 → e ≢ NoMemory
      → IsCheckRefusal hash digest_bytes c.config c.root x.index x e
      → is_under (chunk_rules hash epochs) c x ≡ false
  refused_under e few ne r = go (cases_Bool (is_under (chunk_rules hash epochs) c x))
    where
      go : (is_under (chunk_rules hash epochs) c x ≡ true)
          ⊎ (is_under (chunk_rules hash epochs) c x ≡ false)
          → is_under (chunk_rules hash epochs) c x ≡ false
      go (inl t) = absurd (refuses e ne (stands_under few t) r)
      go (inr f) = f

  pub refused_never : (e : ReedSolomonError) → total_of c.config ≤ 65535
      → is_under (chunk_rules hash epochs) c x ≡ true
      → IsCheckRefusal hash digest_bytes c.config c.root x.index x e → e ≢ NoMemory → ⊥
  refused_never e few t r ne = refuses e ne (stands_under few t) r
