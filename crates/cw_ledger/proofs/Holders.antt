-- Who holds something, by entries in order.
use Rattle.std.proofs.Common.{◌≡◌, ◌⊎◌, inl, inr, ℕ, zero, suc, ◌+◌, ◌<◌, ◌≤◌, ◌==◌, Bool, true, false, cond, nat_lt, List, [], ◌∷◌, Option, None, Some, refl, ap, ◌∙◌, arith}
use Rattle.std.specs.BTreeMap.{is_at}
use Rattle.std.specs.List.{AllByRecursion, cons_option, filter_map, range_with_len}
use Rattle.std.specs.List.Sorted.{IsStrictlySortedBy}
use Rattle.std.specs.Map.{keys_of, lookup}
use Rattle.std.specs.Ordering.{nat_cmp}
use Rattle.std.specs.Prelude.{unwrap_or}
use Rattle.std.specs.declared.cmp.Ordering.{Ordering}
use Rattle.std.specs.declared.cmp.Ordering.TheVariants.{Less, Equal, Greater}
use Rattle.std.proofs.lemmas.Bool.{cases_eq, eqb-true, ltb-true}
use Rattle.std.proofs.lemmas.Map.Keys.{sorted_head, sorted_tail}
use Rattle.cw_ledger.specs.Kept.{AreBalances, amount_in}
use Rattle.cw_ledger.specs.Transfers.{account_count, holding_of, holdings}
use Rattle.cw_ledger.specs.declared.balances.Holding.{Holding}
use Rattle.cw_ledger.proofs.Entries.{at_is}

-- what an entry holds, if it holds something
abbrev pub held_by : ℕ × ℕ → Option Holding
held_by e = cond (nat_lt 0 e.1) (Some (record { account = e.0; amount = e.1 })) None

abbrev pub held_in : List (ℕ × ℕ) → List Holding
held_in entries = filter_map held_by entries

-- ---- the order of numbers

less_is : (k q : ℕ) → nat_cmp k q ≡ Less → k < q
less_is k q is = go (nat_lt k q) (k == q) refl is
  where
    go : (a b : Bool) → nat_lt k q ≡ a
        → ◌≡◌ {A = Ordering} (cond a Less (cond b Equal Greater)) Less → k < q
    go true b lt e = ltb-true k q lt
    go false true lt e = absurd cc
    go false false lt e = absurd cc

all_above : (k : ℕ) (ks : List ℕ) → AllByRecursion (λ y. nat_cmp k y ≡ Less) ks
    → AllByRecursion (λ y. k < y) ks
all_above k [] all = tt
all_above k (y ∷ ys) all = (less_is k y all.0, all_above k ys all.1)

all_from : (k low : ℕ) (ks : List ℕ) → low ≤ k → AllByRecursion (λ y. k < y) ks
    → AllByRecursion (λ y. low + 1 ≤ y) ks
all_from k low [] le all = tt
all_from k low (y ∷ ys) le all = (omega (arith, all.0), all_from k low ys le all.1)

all_weaker : (P Q : ℕ → Type 0) → ((y : ℕ) → P y → Q y) → (ks : List ℕ) → AllByRecursion P ks
    → AllByRecursion Q ks
all_weaker P Q f [] all = tt
all_weaker P Q f (y ∷ ys) all = (f y all.0, all_weaker P Q f ys all.1)

-- ---- a look-up

here : (e : ℕ × ℕ) (es : List (ℕ × ℕ)) (account : ℕ) → account ≡ e.0
    → amount_in (e ∷ es) account ≡ e.1
here e es account same =
    ap (λ b. unwrap_or (cond b (Some e.1) (lookup (is_at (nat_cmp account)) es)) 0)
    (at_is account e.0 ∙ is_here)
  where
    is_here : (account == e.0) ≡ true
    is_here = rw same (grind arith)

behind : (e : ℕ × ℕ) (es : List (ℕ × ℕ)) (account : ℕ) → (account ≡ e.0 → ⊥)
    → amount_in (e ∷ es) account ≡ amount_in es account
behind e es account other =
    ap (λ b. unwrap_or (cond b (Some e.1) (lookup (is_at (nat_cmp account)) es)) 0)
    (at_is account e.0 ∙ is_other (account == e.0) refl)
  where
    is_other : (b : Bool) → (account == e.0) ≡ b → b ≡ false
    is_other true is = absurd (other (eqb-true account e.0 is))
    is_other false is = refl

none_in : (es : List (ℕ × ℕ)) (account : ℕ) → AllByRecursion (λ k. account + 1 ≤ k) (keys_of es)
    → amount_in es account ≡ 0
none_in [] account all = refl
none_in (e ∷ es) account all =
    behind e es account (λ same. omega (arith, all.0)) ∙ none_in es account all.1

-- ---- a range of accounts

same_range : (f g : ℕ → ℕ) (low len : ℕ) → ((a : ℕ) → low ≤ a → f a ≡ g a)
    → filter_map (holding_of f) (range_with_len low len)
    ≡ filter_map (holding_of g) (range_with_len low len)
same_range f g low zero same = refl
same_range f g low (suc len) same =
    ap
    (λ n. cons_option (cond (nat_lt 0 n) (Some (record { account = low; amount = n })) None)
    (filter_map (holding_of f) (range_with_len (low + 1) len)))
    (same low (omega arith))
    ∙ ap (cons_option (holding_of g low))
    (same_range f g (low + 1) len (λ a le. same a (omega arith)))

nothing : (has : ℕ → ℕ) (low : ℕ) (rest : List Holding) → has low ≡ 0
    → cons_option (holding_of has low) rest ≡ rest
nothing has low rest none =
    ap
    (λ n. cons_option (cond (nat_lt 0 n) (Some (record {
      account = low;
      amount = n;
    })) None) rest)
    none

in_range : (low len : ℕ) (entries : List (ℕ × ℕ)) → IsStrictlySortedBy nat_cmp (keys_of entries)
    → AllByRecursion (λ k. low ≤ k) (keys_of entries)
    → AllByRecursion (λ k. k < low + len) (keys_of entries)
    → filter_map (holding_of (amount_in entries)) (range_with_len low len) ≡ held_in entries
in_range low zero [] sorted above below = refl
in_range low zero (e ∷ es) sorted above below = absurd (omega (arith, above.0, below.0))
in_range low (suc len) [] sorted above below = in_range (low + 1) len [] sorted tt tt
in_range low (suc len) (e ∷ es) sorted above below =
    go (cases_eq low e.0)
    (λ same. in_range (low + 1) len es (sorted_tail nat_cmp e.0 (keys_of es) sorted)
    (all_from e.0 low (keys_of es) (omega arith) rest) (fewer (keys_of es) below.1))
    (λ all. in_range (low + 1) len (e ∷ es) sorted all (fewer (keys_of (e ∷ es)) below))
  where
    rest : AllByRecursion (λ k. e.0 < k) (keys_of es)
    rest = all_above e.0 (keys_of es) (sorted_head nat_cmp e.0 (keys_of es) sorted)

    fewer : (ks : List ℕ) → AllByRecursion (λ k. k < low + suc len) ks
        → AllByRecursion (λ k. k < low + 1 + len) ks
    fewer ks all =
        all_weaker (λ k. k < low + suc len) (λ k. k < low + 1 + len) (λ k lt. omega arith) ks all

    go : (low ≡ e.0) ⊎ (low ≡ e.0 → ⊥)
        → (low ≡ e.0
        → filter_map (holding_of (amount_in es)) (range_with_len (low + 1) len) ≡ held_in es)
        → (AllByRecursion (λ k. low + 1 ≤ k) (keys_of (e ∷ es))
        → filter_map (holding_of (amount_in (e ∷ es))) (range_with_len (low + 1) len)
        ≡ held_in (e ∷ es))
        → filter_map (holding_of (amount_in (e ∷ es))) (range_with_len low (suc len))
        ≡ held_in (e ∷ es)
    go (inl same) first later =
        ap
        (λ n. cons_option (cond (nat_lt 0 n) (Some (record { account = low; amount = n })) None)
        (filter_map (holding_of (amount_in (e ∷ es))) (range_with_len (low + 1) len)))
        (here e es low same)
        ∙ ap
        (λ a. cons_option
        (cond (nat_lt 0 e.1) (Some (record { account = a; amount = e.1 })) None)
        (filter_map (holding_of (amount_in (e ∷ es))) (range_with_len (low + 1) len)))
        same
        ∙ ap (cons_option (held_by e))
        (same_range (amount_in (e ∷ es)) (amount_in es) (low + 1) len
        (λ a le. behind e es a (λ is. omega arith))
        ∙ first same)
    go (inr other) first later =
        let more : low + 1 ≤ e.0 = omega (arith, above.0, other) in
        let all : AllByRecursion (λ k. low + 1 ≤ k) (keys_of (e ∷ es)) =
        (more, all_from e.0 low (keys_of es) (omega arith) rest) in
        nothing (amount_in (e ∷ es)) low
        (filter_map (holding_of (amount_in (e ∷ es))) (range_with_len (low + 1) len))
        (none_in (e ∷ es) low all)
        ∙ later all

all_low : (ks : List ℕ) → AllByRecursion (λ k. 0 ≤ k) ks
all_low [] = tt
all_low (k ∷ ks) = (omega arith, all_low ks)

pub holdings_are : (entries : List (ℕ × ℕ)) → AreBalances entries
    → holdings (amount_in entries) ≡ held_in entries
holdings_are entries are =
    in_range 0 account_count entries are.sorted (all_low (keys_of entries))
    (all_weaker (λ k. k < account_count) (λ k. k < 0 + account_count) (λ k lt. omega arith)
    (keys_of entries) are.accounts)
