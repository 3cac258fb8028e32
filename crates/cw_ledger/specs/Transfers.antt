-- Transfers, and the balances that they leave.
use Rattle.std.specs.Prelude.{ℕ, ◌+◌, ◌-◌, ◌*◌, ◌/◌, ◌%◌, ◌^◌, ◌==◌, ◌&&◌, Bool, not, nat_le, nat_lt, if◌then◌else◌, List, [], length, take, drop, map, flat_map, filter_map, fold, Option, Some, None}
use Rattle.std.specs.Int.{w32, w64, from_be_bytes}
use Rattle.std.specs.List.{range_with_len}
use Rattle.cw_ledger.specs.declared.transfer.Transfer.{Transfer}
use Rattle.cw_ledger.specs.declared.balances.Holding.{Holding}

-- the transfer that the first sixteen bytes say: from 4, to 4, amount 8, the high byte first
abbrev pub transfer_at : List ℕ → Transfer
transfer_at bytes = record {
  from = from_be_bytes w32 (take 4 bytes);
  to = from_be_bytes w32 (take 4 (drop 4 bytes));
  amount = from_be_bytes w64 (take 8 (drop 8 bytes));
}

-- the transfers of a payload: one for each sixteen bytes, and none where its length isn't a
-- multiple of sixteen
unfoldable pub transfers : List ℕ → List Transfer
transfers payload =
    if length payload % 16 == 0
    then map (λ i. transfer_at (drop (i * 16) payload)) (range_with_len 0 (length payload / 16))
    else []

-- a transfer applies where the balance is there. Where both are one account nothing changes
abbrev pub applies : (ℕ → ℕ) → Transfer → Bool
applies has t = nat_le t.amount (has t.from) && not (t.from == t.to)

-- what an account has after a transfer, by what each had before
abbrev pub moved : (ℕ → ℕ) → Transfer → ℕ → ℕ
moved has t account =
    if applies has t
    then (if account == t.from then has account - t.amount
    else (if account == t.to then has account + t.amount else has account))
    else has account

-- what an account has at the beginning
abbrev pub first_balance : ℕ → ℕ
first_balance account = if account == 0 then 1_000_000_000 else 0

-- what an account has after these transfers, one behind the other
abbrev pub moved_all : (ℕ → ℕ) → List Transfer → ℕ → ℕ
moved_all has ts = fold moved has ts

-- what an account has after the transfers of these payloads, from the beginning
unfoldable pub balances : List (List ℕ) → ℕ → ℕ
balances payloads = moved_all first_balance (flat_map transfers payloads)

-- ---- who holds something

-- how many accounts there are
unfoldable pub account_count : ℕ
account_count = 2 ^ 32

-- what an account holds, if it holds something
abbrev pub holding_of : (ℕ → ℕ) → ℕ → Option Holding
holding_of has account =
    if nat_lt 0 (has account) then Some (record {
      account = account;
      amount = has account;
    }) else None

-- the accounts that hold something, by number
abbrev pub holdings : (ℕ → ℕ) → List Holding
holdings has = filter_map (holding_of has) (range_with_len 0 account_count)
