-- What is answered to a put, and what it leaves.
use Rattle.std.proofs.Common.{◌≡◌, ℕ, ◌<◌, ◌≤◌, ◌⊎◌, inl, inr, Bool, true, false, if◌then◌else◌, is_some, not, nat_lt, List, length, Option, Some, None, Bor, refl, ap, arith, ltb-true}
use Rattle.std.specs.Option.{option_copied}
use Rattle.std.proofs.lemmas.Bool.{cases_Bool, lt-ltb}
use Rattle.cw_base.specs.declared.hash.Digest32.{Digest32}
use Rattle.cw_types.specs.declared.commitment.Commitment.{Commitment}
use Rattle.cw_rules.specs.Rules.{Chunk}
use Rattle.shards.specs.Kept.{is_kept_chunk, with_chunk}
use Rattle.cw_archive.specs.Archived.{Archived, after_put, checks, put_answer, within_limit}
use Rattle.cw_archive.specs.declared.put.Put.TheVariants.{Foreign, Kept, Known, TooLarge}

pub copied_some : {X : Type 0} (o : Option (Bor X)) → is_some (option_copied o) ≡ is_some o
copied_some None = refl
copied_some (Some x) = refl

pub copied_none : {X : Type 0} (o : Option (Bor X)) → ((x : Bor X) → o ≡ Some x → ⊥)
    → option_copied o ≡ None
copied_none None h = refl
copied_none (Some x) h = absurd (h x refl)

-- a test by which there is something
pub none_there : {A : Type 0} (b : Bool) (y : A) (o : Option A) (r : Bool)
    → o ≡ (if b then Some y else None) → is_some o ≡ not r → r ≡ true → b ≡ false
none_there true y o r e h t = cc (ap is_some e, ap not t)
none_there false y o r e h t = refl

pub some_there : {A : Type 0} (b : Bool) (y : A) (o : Option A) (r : Bool)
    → o ≡ (if b then Some y else None) → is_some o ≡ not r → r ≡ false → b ≡ true
some_there true y o r e h t = refl
some_there false y o r e h t = cc (ap is_some e, ap not t)

module _ (hash : List ℕ → Digest32) (a : Archived) (c : Commitment) (x : Chunk) where
  pub answer_known : is_kept_chunk a.kept c x ≡ true → put_answer hash a c x ≡ Known
  answer_known h = rw h refl

  pub answer_foreign : is_kept_chunk a.kept c x ≡ false → checks hash c x ≡ false
      → put_answer hash a c x ≡ Foreign
  answer_foreign h k = rw (h, k) refl

  pub answer_large : is_kept_chunk a.kept c x ≡ false → checks hash c x ≡ true
      → a.limit < length x.shard
      → put_answer hash a c x ≡ TooLarge
  answer_large h k l = rw (h, k, lt-ltb a.limit (length x.shard) l) refl

  pub answer_kept : is_kept_chunk a.kept c x ≡ false → checks hash c x ≡ true
      → length x.shard ≤ a.limit
      → put_answer hash a c x ≡ Kept
  answer_kept h k l = rw (h, k, fits (cases_Bool (nat_lt a.limit (length x.shard)))) refl
    where
      fits : (nat_lt a.limit (length x.shard) ≡ true) ⊎ (nat_lt a.limit (length x.shard) ≡ false)
          → nat_lt a.limit (length x.shard) ≡ false
      fits (inl t) = absurd (let m = ltb-true a.limit (length x.shard) t in omega arith)
      fits (inr f) = f

  pub after_known : put_answer hash a c x ≡ Known → after_put hash a c x ≡ a
  after_known h = rw h refl

  pub after_kept : put_answer hash a c x ≡ Kept
      → after_put hash a c x ≡ record {
        limit = a.limit;
        kept = within_limit a.limit (with_chunk a.kept c x);
      }
  after_kept h = rw h refl
