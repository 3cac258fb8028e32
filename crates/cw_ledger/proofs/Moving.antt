-- What transfers leave.
use Rattle.std.proofs.Common.{◌≡◌, ◌⊎◌, inl, inr, ℕ, zero, suc, ◌+◌, ◌-◌, ◌<◌, ◌≤◌, ◌==◌, ◌&&◌, not, Bool, true, false, cond, nat_le, List, [], ◌∷◌, ◌++◌, length, get_or, flat_map, sum, refl, sym, ap, ◌∙◌, arith}
use Rattle.std.specs.BTreeMap.{is_at}
use Rattle.std.specs.Map.{values_of}
use Rattle.std.specs.Ordering.{nat_cmp}
use Rattle.std.proofs.lemmas.Bool.{cases_eq, eq-eqb, le-leb, leb-true, ne_eqb}
use Rattle.std.proofs.lemmas.Map.Steps.{lookup-le-sum}
use Rattle.std.proofs.lemmas.Grind.{flat_map-append}
use Rattle.cw_ledger.specs.declared.transfer.Transfer.{Transfer}
use Rattle.cw_ledger.specs.Kept.{AreBalances, HasRoom, IsSet, amount_in, has_entry}
use Rattle.cw_ledger.specs.Transfers.{applies, balances, first_balance, moved, moved_all, transfers}

-- ---- one transfer, by what each account has

-- accounts that have the same have the same after it
pub moved_same : (f g : ℕ → ℕ) (t : Transfer) → ((a : ℕ) → f a ≡ g a) → (a : ℕ)
    → moved f t a ≡ moved g t a
moved_same f g t same a =
    ap
    (λ n. cond (nat_le t.amount n && not (t.from == t.to))
    (cond (a == t.from) (f a - t.amount) (cond (a == t.to) (f a + t.amount) (f a))) (f a))
    (same t.from)
    ∙ ap
    (λ n. cond (applies g t)
    (cond (a == t.from) (n - t.amount) (cond (a == t.to) (n + t.amount) n)) n)
    (same a)

pub moved_all_same : (f g : ℕ → ℕ) (ts : List Transfer) → ((a : ℕ) → f a ≡ g a) → (a : ℕ)
    → moved_all f ts a ≡ moved_all g ts a
moved_all_same f g [] same a = same a
moved_all_same f g (t ∷ ts) same a =
    moved_all_same (moved f t) (moved g t) ts (moved_same f g t same) a

pub moved_more : (f : ℕ → ℕ) (xs ys : List Transfer) (a : ℕ)
    → moved_all f (xs ++ ys) a ≡ moved_all (moved_all f xs) ys a
moved_more f [] ys a = refl
moved_more f (x ∷ xs) ys a = moved_more (moved f x) xs ys a

-- a transfer that doesn't apply
pub passed_over : (has : ℕ → ℕ) (t : Transfer) → (has t.from < t.amount) ⊎ (t.from ≡ t.to) → (a : ℕ)
    → has a ≡ moved has t a
passed_over has t why a =
    ap
    (λ b. cond b
    (cond (a == t.from) (has a - t.amount) (cond (a == t.to) (has a + t.amount) (has a)))
    (has a))
    (sym (unfit why))
  where
    with_false : (b : Bool) → (b && false) ≡ false
    with_false true = refl
    with_false false = refl

    unfit : (has t.from < t.amount) ⊎ (t.from ≡ t.to) → applies has t ≡ false
    unfit (inl less) = ap (λ b. b && not (t.from == t.to)) (le_not t.amount (has t.from) less)
      where
        le_not : (x y : ℕ) → y < x → nat_le x y ≡ false
        le_not x y lt = go (nat_le x y) refl
          where
            go : (b : Bool) → nat_le x y ≡ b → b ≡ false
            go true is = absurd (omega (arith, leb-true x y is))
            go false is = refl
    unfit (inr same) =
        ap (λ b. nat_le t.amount (has t.from) && not b) (eq-eqb t.from t.to same)
        ∙ with_false (nat_le t.amount (has t.from))

-- a transfer that applies: its amount is taken from one account, and given to the other
module _ (has mid new : ℕ → ℕ) (t : Transfer) (there : t.amount ≤ has t.from)
    (apart : t.from ≡ t.to → ⊥)
    (first : (a : ℕ) → mid a ≡ cond (t.from == a) (has t.from - t.amount) (has a))
    (second : (a : ℕ) → new a ≡ cond (t.to == a) (mid t.to + t.amount) (mid a)) where
  does : applies has t ≡ true
  does =
      ap (λ b. b && not (t.from == t.to)) (le-leb t.amount (has t.from) there)
      ∙ ap not (ne_eqb t.from t.to apart)

  mid_to : mid t.to ≡ has t.to
  mid_to =
      first t.to ∙ ap (λ b. cond b (has t.from - t.amount) (has t.to)) (ne_eqb t.from t.to apart)

  opened : (a : ℕ)
      → moved has t a
      ≡ cond (a == t.from) (has a - t.amount) (cond (a == t.to) (has a + t.amount) (has a))
  opened a =
      ap
      (λ b. cond b
      (cond (a == t.from) (has a - t.amount) (cond (a == t.to) (has a + t.amount) (has a)))
      (has a))
      does

  pub passed : (a : ℕ) → new a ≡ moved has t a
  passed a = go (cases_eq t.from a) (cases_eq t.to a)
    where
      go : (t.from ≡ a) ⊎ (t.from ≡ a → ⊥) → (t.to ≡ a) ⊎ (t.to ≡ a → ⊥) → new a ≡ moved has t a
      go (inl from) (inl to) = absurd (apart (from ∙ sym to))
      go (inl from) (inr to) =
          second a ∙ ap (λ b. cond b (mid t.to + t.amount) (mid a)) (ne_eqb t.to a to)
          ∙ first a ∙ ap (λ b. cond b (has t.from - t.amount) (has a)) (eq-eqb t.from a from)
          ∙ ap (λ n. has n - t.amount) from
          ∙ sym
          (opened a
          ∙ ap
          (λ b. cond b (has a - t.amount) (cond (a == t.to) (has a + t.amount) (has a)))
          (eq-eqb a t.from (sym from)))
      go (inr from) (inl to) =
          second a ∙ ap (λ b. cond b (mid t.to + t.amount) (mid a)) (eq-eqb t.to a to)
          ∙ ap (λ n. n + t.amount) (mid_to ∙ ap has to)
          ∙ sym
          (opened a
          ∙ ap
          (λ b. cond b (has a - t.amount) (cond (a == t.to) (has a + t.amount) (has a)))
          (ne_eqb a t.from (λ e. from (sym e)))
          ∙ ap (λ b. cond b (has a + t.amount) (has a)) (eq-eqb a t.to (sym to)))
      go (inr from) (inr to) =
          second a ∙ ap (λ b. cond b (mid t.to + t.amount) (mid a)) (ne_eqb t.to a to)
          ∙ first a ∙ ap (λ b. cond b (has t.from - t.amount) (has a)) (ne_eqb t.from a from)
          ∙ sym
          (opened a
          ∙ ap
          (λ b. cond b (has a - t.amount) (cond (a == t.to) (has a + t.amount) (has a)))
          (ne_eqb a t.from (λ e. from (sym e)))
          ∙ ap (λ b. cond b (has a + t.amount) (has a)) (ne_eqb a t.to (λ e. to (sym e))))

-- ---- one transfer, by entries

-- what an account has is no more than all that there is
pub at_most_all : (entries : List (ℕ × ℕ)) (account : ℕ)
    → amount_in entries account ≤ sum (values_of entries)
at_most_all entries account = lookup-le-sum (is_at (nat_cmp account)) entries

-- all that there is stays, and what is given fits
module _ (old mid : List (ℕ × ℕ)) (from amount : ℕ) (are : AreBalances old)
    (there : amount ≤ amount_in old from)
    (taken : IsSet from (amount_in old from - amount) old mid) where
  pub less_is_left : sum (values_of mid) + amount ≡ 1_000_000_000
  less_is_left = omega (arith, taken.sums, are.supply, at_most_all old from)

  pub gives_fit : (to : ℕ) → amount_in mid to + amount ≤ 1_000_000_000
  gives_fit to = omega (arith, less_is_left, at_most_all mid to)

  pub all_stays : (to : ℕ) (new : List (ℕ × ℕ)) → IsSet to (amount_in mid to + amount) mid new
      → AreBalances new
  all_stays to new given = record {
    sorted = given.sorted;
    accounts = given.accounts (taken.accounts are.accounts);
    supply = omega (arith, less_is_left, given.sums);
  }

-- ---- room

pub room_stays : (old new : List (ℕ × ℕ)) (ts : List Transfer)
    → ((a : ℕ) → has_entry old a ≡ true → has_entry new a ≡ true) → HasRoom old ts → HasRoom new ts
room_stays old new [] stays room = tt
room_stays old new (t ∷ ts) stays room = (stays t.to room.0, room_stays old new ts stays room.1)

pub room_more : (entries : List (ℕ × ℕ)) (xs : List Transfer) (t : Transfer) → HasRoom entries xs
    → has_entry entries t.to ≡ true → HasRoom entries (xs ++ t ∷ [])
room_more entries [] t room there = (there, tt)
room_more entries (x ∷ xs) t room there = (room.0, room_more entries xs t room.1 there)

-- there is room at each place
pub room_at : (entries : List (ℕ × ℕ)) (ts : List Transfer) (i : ℕ) (d : Transfer) → i < length ts
    → HasRoom entries ts → has_entry entries (get_or ts i d).to ≡ true
room_at entries [] i d lt room = absurd (omega arith)
room_at entries (t ∷ ts) zero d lt room = room.0
room_at entries (t ∷ ts) (suc i) d lt room = room_at entries ts i d (omega arith) room.1

-- ---- payloads

pub nothing_moved : (a : ℕ) → balances [] a ≡ first_balance a
unfolding balances
nothing_moved a = refl

-- one payload more
pub balances_more : (payloads : List (List ℕ)) (payload : List ℕ) (a : ℕ)
    → balances (payloads ++ payload ∷ []) a ≡ moved_all (balances payloads) (transfers payload) a
unfolding balances
balances_more payloads payload a =
    ap (λ ts. moved_all first_balance ts a) (flat_map-append transfers payloads (payload ∷ []))
    ∙ ap (λ ts. moved_all first_balance (flat_map transfers payloads ++ ts) a)
    (append-nil (transfers payload))
    ∙ moved_more first_balance (flat_map transfers payloads) (transfers payload) a
  where
    append-nil : (ts : List Transfer) → ts ++ [] ≡ ts
    append-nil [] = refl
    append-nil (t ∷ ts) = ap (λ l. t ∷ l) (append-nil ts)
