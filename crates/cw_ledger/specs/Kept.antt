-- What the fields of a replica keep.
use Rattle.std.specs.Prelude.{◌≡◌, ◌<◌, ◌==◌, ◌+◌, ℕ, Bool, true, is_some, if◌then◌else◌, List, [], sum, unwrap_or, Result, Ok, Err}
use Rattle.std.specs.BTreeMap.{is_at}
use Rattle.std.specs.List.{AllByRecursion}
use Rattle.std.specs.List.Sorted.{IsStrictlySortedBy}
use Rattle.std.specs.Map.{keys_of, lookup, values_of}
use Rattle.std.specs.Ordering.{nat_cmp}
use Rattle.cw_ledger.specs.declared.transfer.Transfer.{Transfer}
use Rattle.cw_ledger.specs.Frames.{payloads_from}
use Rattle.cw_ledger.specs.Ledger.{payload_frames}
use Rattle.cw_ledger.specs.Transfers.{account_count, balances}

-- what an account has by these entries
abbrev pub amount_in : List (ℕ × ℕ) → ℕ → ℕ
amount_in entries account = unwrap_or (lookup (is_at (nat_cmp account)) entries) 0

-- balances by account, in order: all that there is stands in them
pub record AreBalances (entries : List (ℕ × ℕ)) : Type 0 where
  pub sorted : IsStrictlySortedBy nat_cmp (keys_of entries)
  pub accounts : AllByRecursion (λ account. account < account_count) (keys_of entries)
  pub supply : sum (values_of entries) ≡ 1_000_000_000

-- an account has an entry
abbrev pub has_entry : List (ℕ × ℕ) → ℕ → Bool
has_entry entries account = is_some (lookup (is_at (nat_cmp account)) entries)

-- there is an entry for each account that these transfers go to
abbrev pub HasRoom : List (ℕ × ℕ) → List Transfer → Type 0
HasRoom entries ts = AllByRecursion (λ t. has_entry entries t.to ≡ true) ts

-- an account was set to an amount, and the others kept theirs
pub record IsSet (account amount : ℕ) (old new : List (ℕ × ℕ)) : Type 0 where
  pub amounts : (other : ℕ)
      → amount_in new other ≡ (if account == other then amount else amount_in old other)
  pub stays : (other : ℕ) → has_entry old other ≡ true → has_entry new other ≡ true
  pub sorted : IsStrictlySortedBy nat_cmp (keys_of new)
  pub accounts : AllByRecursion (λ a. a < account_count) (keys_of old)
      → AllByRecursion (λ a. a < account_count) (keys_of new)
  pub sums : sum (values_of new) + amount_in old account ≡ sum (values_of old) + amount

-- the payloads, where all frames have theirs
abbrev pub payloads_or_none : Result (List (List ℕ)) ℕ → List (List ℕ)
payloads_or_none (Ok payloads) = payloads
payloads_or_none (Err place) = []

-- the payloads of a log's frames
abbrev pub kept_payloads : List (List ℕ) → List (List ℕ)
kept_payloads frames = payloads_or_none (payloads_from 0 0 frames)

-- A log's frames are those of the payloads that are found in them, and the entries are the balances
-- that these leave.
pub record KeepBalances (frames : List (List ℕ)) (entries : List (ℕ × ℕ)) : Type 0 where
  pub found : payloads_from 0 0 frames ≡ Ok (kept_payloads frames)
  pub written : frames ≡ payload_frames (kept_payloads frames)
  pub balanced : (account : ℕ) → amount_in entries account ≡ balances (kept_payloads frames) account
