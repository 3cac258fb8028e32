-- What entries say of each account.
use Rattle.std.proofs.Common.{◌≡◌, ◌⊎◌, inl, inr, ℕ, ◌-◌, ◌<◌, ◌^◌, ◌==◌, Bool, true, false, cond, nat_lt, List, [], ◌∷◌, Option, None, Some, refl, arith}
use Rattle.std.specs.BTreeMap.{insert_entry, is_at}
use Rattle.std.specs.List.{AllByRecursion}
use Rattle.std.specs.Map.{keys_of, lookup}
use Rattle.std.specs.Ordering.{is_eq, match_ordering, nat_cmp}
use Rattle.std.specs.Prelude.{unwrap_or, is_some}
use Rattle.std.specs.declared.cmp.Ordering.{Ordering}
use Rattle.std.specs.declared.cmp.Ordering.TheVariants.{Less, Equal, Greater}
use Rattle.std.proofs.lemmas.Bool.{ltb-true, eqb-true}
use Rattle.cw_ledger.specs.Kept.{amount_in, has_entry}
use Rattle.cw_ledger.specs.Transfers.{account_count}

-- the order of numbers tests whether they are the same
pub at_is : (k q : ℕ) → is_at (nat_cmp k) q ≡ (k == q)
at_is k q = go (nat_lt k q) (k == q) refl refl
  where
    go : (a b : Bool) → nat_lt k q ≡ a → (k == q) ≡ b
        → is_eq (cond a Less (cond b Equal Greater)) ≡ b
    go true true lt same = absurd (omega (arith, ltb-true k q lt, eqb-true k q same))
    go true false lt same = refl
    go false true lt same = refl
    go false false lt same = refl

-- each number of four bytes is an account
pub is_account : (account : ℕ) → account < 2 ^ 32 → account < account_count
unfolding account_count
is_account account fits = fits

-- an account without an entry has nothing
pub has_none : (entries : List (ℕ × ℕ)) (account : ℕ) → has_entry entries account ≡ false
    → amount_in entries account ≡ 0
has_none entries account none = go (lookup (is_at (nat_cmp account)) entries) none
  where
    go : (o : Option ℕ) → is_some o ≡ false → unwrap_or o 0 ≡ 0
    go None e = refl
    go (Some x) e = absurd cc

-- one key more
pub keys_more : (P : ℕ → Type 0) (entries : List (ℕ × ℕ)) (account amount : ℕ) → P account
    → AllByRecursion P (keys_of entries)
    → AllByRecursion P (keys_of (insert_entry nat_cmp entries account amount))
keys_more P [] account amount here all = (here, tt)
keys_more P (e ∷ es) account amount here all =
    go (nat_cmp account e.0) (keys_more P es account amount here all.1)
  where
    go : (o : Ordering) → AllByRecursion P (keys_of (insert_entry nat_cmp es account amount))
        → AllByRecursion P
        (keys_of
        (match_ordering o ((account, amount) ∷ e ∷ es) ((e.0, amount) ∷ es)
        (e ∷ insert_entry nat_cmp es account amount)))
    go Less later = (here, all)
    go Equal later = (all.0, all.1)
    go Greater later = (all.0, later)

-- an account that has something has an entry, and so what is taken from one without is nothing
pub taken_fits : (entries : List (ℕ × ℕ)) (account amount : ℕ)
    → (amount_in entries account - amount ≡ 0) ⊎ (has_entry entries account ≡ true)
taken_fits entries account amount = go (has_entry entries account) refl
  where
    go : (b : Bool) → has_entry entries account ≡ b
        → (amount_in entries account - amount ≡ 0) ⊎ (b ≡ true)
    go true e = inr refl
    go false e =
        inl (let none : amount_in entries account ≡ 0 = has_none entries account e in omega arith)
