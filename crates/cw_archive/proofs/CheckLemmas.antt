-- What a check of a chunk answers, as a test.
use Rattle.std.proofs.Common.{◌≡◌, ◌≢◌, ℕ, ◌<◌, ◌≤◌, ◌⊎◌, inl, inr, true, false, nat_le, List, [], ◌∷◌, length, refl, arith}
use Rattle.std.proofs.lemmas.Bool.{and_from, and_parts, cases_Bool, leb-true, le-leb}
use Rattle.cw_base.specs.declared.hash.Digest32.{Digest32}
use Rattle.cw_coding.specs.Checking.{IsCheckRefusal, IsUnder}
use Rattle.cw_coding.specs.declared.error.ReedSolomonError.{ReedSolomonError}
use Rattle.cw_coding.specs.declared.error.ReedSolomonError.TheVariants.{NoMemory}
use Rattle.cw_types.specs.declared.commitment.Commitment.{Commitment}
use Rattle.cw_rules.specs.Rules.{Chunk}
use Rattle.cw_coding.specs.Totals.{total_of}
use Rattle.cw_rules_coded.specs.Coded.{digest_bytes}
use Rattle.shards.specs.Enough.{AreUnder, is_under_root, no_committees}
use Rattle.shards.proofs.Standing.{refused_under, stands_under, under_stands}
use Rattle.cw_archive.specs.Archived.{checks}
use Rattle.cw_archive.specs.Showing.{AreChecked, AreSufficient}

module _ (hash : List ℕ → Digest32) (c : Commitment) where
  pub check_taken : (x : Chunk) → IsUnder hash digest_bytes c.config c.root x.index x
      → checks hash c x ≡ true
  check_taken x u =
      and_from (nat_le (total_of c.config) 65535) (is_under_root hash c x)
      (le-leb (total_of c.config) 65535 u.total) (under_stands hash no_committees c x u)

  pub check_refused : (x : Chunk) (e : ReedSolomonError) → e ≢ NoMemory
      → IsCheckRefusal hash digest_bytes c.config c.root x.index x e → checks hash c x ≡ false
  check_refused x e ne r = go (cases_Bool (nat_le (total_of c.config) 65535))
    where
      go : (nat_le (total_of c.config) 65535 ≡ true) ⊎ (nat_le (total_of c.config) 65535 ≡ false)
          → checks hash c x ≡ false
      go (inl t) =
          rw t (refused_under hash no_committees c x e (leb-true (total_of c.config) 65535 t) ne r)
      go (inr f) = rw f refl

  pub check_parts : (x : Chunk) → checks hash c x ≡ true
      → (total_of c.config ≤ 65535) × (is_under_root hash c x ≡ true)
  check_parts x h =
      let p = and_parts (nat_le (total_of c.config) 65535) (is_under_root hash c x) h in
      (leb-true (total_of c.config) 65535 p.0, p.1)

  -- a config by which some chunk checks has few enough
  pub few_chunks : (xs : List Chunk) → 1 ≤ length xs → AreChecked hash c xs
      → total_of c.config ≤ 65535
  few_chunks [] some h = absurd (omega arith)
  few_chunks (x ∷ xs) some h = (check_parts x h.0).0

  -- a chunk that checks is of an index that its config has
  pub check_within : (x : Chunk) → checks hash c x ≡ true → x.index < total_of c.config
  check_within x h = let p = check_parts x h in (stands_under hash no_committees c x p.0 p.1).within

  pub all_under : (xs : List Chunk) → AreChecked hash c xs → AreUnder hash c xs
  all_under [] a = tt
  all_under (x ∷ xs) a = ((check_parts x a.0).1, all_under xs a.1)

  -- chunks that check, of which there are some, are of a config with few enough shards
  pub few_of : (xs : List Chunk) → AreSufficient hash c xs → total_of c.config ≤ 65535
  few_of [] are = absurd (let some = are.some in let none = are.enough in omega arith)
  few_of (x ∷ xs) are = (check_parts x are.check.0).0
