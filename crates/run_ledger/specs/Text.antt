-- The text of the replicas, on whole values.
use Rattle.std.specs.Prelude.{ℕ, List, [], ◌∷◌, ◌++◌, length, codes, Option, Some, None}
use Rattle.std.specs.List.{flat_map}
use Rattle.std.specs.Fmt.{decimal}
use Rattle.cw_ledger.specs.Ledger.{last_applied}
use Rattle.cw_ledger.specs.Transfers.{balances, holdings}
use Rattle.cw_ledger.specs.declared.balances.Holding.{Holding}
use Rattle.hail_report.specs.Text.{line}

-- `ledger M H`, H the height that was applied last
unfoldable pub height_line : ℕ → Option ℕ → List ℕ
height_line member (Some height) =
    line (codes "ledger " ++ decimal member ++ codes " " ++ decimal height)
height_line member None = line (codes "ledger " ++ decimal member ++ codes " none")

-- `balance M A V`, V what the account A holds
unfoldable pub balance_line : ℕ → Holding → List ℕ
balance_line member h =
    line
    (codes "balance " ++ decimal member ++ codes " " ++ decimal h.account ++ codes " "
    ++ decimal h.amount)

-- a member's replica that applied these payloads
abbrev pub replica_text : ℕ → List (List ℕ) → List ℕ
replica_text member payloads =
    height_line member (last_applied (length payloads))
    ++ flat_map (balance_line member) (holdings (balances payloads))

-- those of all members, one behind the other
abbrev pub ledger_text : List ℕ → List (List (List ℕ)) → List ℕ
ledger_text (member ∷ members) (payloads ∷ more) =
    replica_text member payloads ++ ledger_text members more
ledger_text _ _ = []

-- the answer to words
abbrev pub usage_line : List ℕ
usage_line = line (codes "usage: hail_ledger")
