-- An account that is set to an amount.
use Rattle.std.proofs.Common.{◌≡◌, ℕ, ◌+◌, ◌<◌, ◌==◌, Bool, true, false, cond, List, sum, Option, Some, option_map, refl, sym, ap, ◌∙◌, arith}
use Rattle.std.specs.BTreeMap.{insert_entry, is_at}
use Rattle.std.specs.List.Sorted.{IsStrictlySortedBy}
use Rattle.std.specs.Map.{keys_of, lookup, values_of}
use Rattle.std.specs.Ordering.{nat_cmp}
use Rattle.std.specs.Prelude.{unwrap_or, is_some}
use Rattle.std.proofs.lemmas.Bool.{eqb-true}
use Rattle.std.proofs.lemmas.Cmp.{nat_cmp_total}
use Rattle.std.proofs.lemmas.Iterator.Adapters.{option_map_id}
use Rattle.std.proofs.lemmas.Map.Entries.{sum_by-insert_entry}
use Rattle.cw_ledger.specs.Kept.{IsSet, amount_in, has_entry}
use Rattle.cw_ledger.specs.Transfers.{account_count}
use Rattle.cw_ledger.proofs.Entries.{at_is, has_none, keys_more}

-- what a map has at each key once an entry was put in
abbrev pub HasPut : ℕ → ℕ → List (ℕ × ℕ) → List (ℕ × ℕ) → Type 0
HasPut account amount old new =
    (q : ℕ)
    → lookup (is_at (nat_cmp q)) new
    ≡ cond (is_at (nat_cmp account) q) (Some amount) (lookup (is_at (nat_cmp q)) old)

module _ (old new : List (ℕ × ℕ)) (account amount : ℕ) where
  amount_after : (b : Bool) (o : Option ℕ)
      → unwrap_or (cond b (Some amount) o) 0 ≡ cond b amount (unwrap_or o 0)
  amount_after true o = refl
  amount_after false o = refl

  entry_after : (b : Bool) (o : Option ℕ) → is_some o ≡ true
      → is_some (cond b (Some amount) o) ≡ true
  entry_after true o h = refl
  entry_after false o h = h

  pub was_set : HasPut account amount old new → new ≡ insert_entry nat_cmp old account amount
      → IsStrictlySortedBy nat_cmp (keys_of old) → IsStrictlySortedBy nat_cmp (keys_of new)
      → account < account_count → IsSet account amount old new
  was_set put entries was sorted fits = record {
    amounts =
        λ other. ap (λ o. unwrap_or o 0) (put other)
        ∙ amount_after (is_at (nat_cmp account) other) (lookup (is_at (nat_cmp other)) old)
        ∙ ap (λ b. cond b amount (amount_in old other)) (at_is account other);
    stays =
        λ other had. ap is_some (put other)
        ∙ entry_after (is_at (nat_cmp account) other) (lookup (is_at (nat_cmp other)) old) had;
    sorted = sorted;
    accounts = λ all. rw entries (keys_more (λ a. a < account_count) old account amount fits all);
    sums =
        ap (λ o. sum (values_of new) + unwrap_or o 0)
        (sym (option_map_id (lookup (is_at (nat_cmp account)) old)))
        ∙ ap
        (λ es. sum (values_of es)
        + unwrap_or (option_map (λ (x : ℕ). x) (lookup (is_at (nat_cmp account)) old)) 0)
        entries
        ∙ sum_by-insert_entry (λ (x : ℕ). x) nat_cmp_total old account amount was;
  }

  pub has_it : HasPut account amount old new → has_entry new account ≡ true
  has_it put =
      ap is_some (put account)
      ∙ ap (λ b. is_some (cond b (Some amount) (lookup (is_at (nat_cmp account)) old)))
      (at_is account account ∙ same account)
    where
      same : (n : ℕ) → (n == n) ≡ true
      same n = grind arith

  -- it had nothing, has no entry and gets nothing
  pub stays_none : amount ≡ 0 → has_entry old account ≡ false → new ≡ old
      → IsStrictlySortedBy nat_cmp (keys_of old) → IsSet account amount old new
  stays_none gone none same sorted = record {
    amounts = λ other. ap (λ es. amount_in es other) same ∙ kept other;
    stays = λ other had. ap (λ es. has_entry es other) same ∙ had;
    sorted = rw same sorted;
    accounts = λ all. rw same all;
    sums = rw same (ap (λ n. sum (values_of old) + n) (has_none old account none ∙ sym gone));
  }
    where
      kept : (other : ℕ)
          → amount_in old other ≡ cond (account == other) amount (amount_in old other)
      kept other = go (account == other) refl
        where
          go : (b : Bool) → (account == other) ≡ b
              → amount_in old other ≡ cond b amount (amount_in old other)
          go true is =
              ap (amount_in old) (sym (eqb-true account other is)) ∙ has_none old account none
              ∙ sym gone
          go false is = refl
