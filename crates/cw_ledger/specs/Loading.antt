-- The frames of a log, as they are read one behind the other.
use Rattle.std.specs.Prelude.{◌≡◌, ℕ, List, length, Bool, is_some}
use Rattle.cw_ledger.specs.Frames.{payload_in}
use Rattle.cw_ledger.specs.Kept.{KeepBalances}
use Rattle.cw_ledger.specs.declared.frames.Loading.{Loading}

-- a frame of this height has a payload
abbrev pub is_payload : ℕ → List ℕ → Bool
is_payload height frame = is_some (payload_in height frame)

-- these frames were read, and what they leave are the balances
abbrev pub HaveLeft : Loading → List (List ℕ) → Type 0
HaveLeft loading frames = KeepBalances frames loading.balances × (loading.count ≡ length frames)
