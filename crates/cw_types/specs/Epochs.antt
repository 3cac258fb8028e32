-- The committees of a cluster: who the members of an epoch are, and which heights it covers.
use Rattle.std.specs.Prelude.{ℕ, ◌+◌, ◌-◌, ◌*◌, ◌%◌, ◌^◌, ◌==◌, nat_le, nat_lt}
use Rattle.std.specs.Prelude.{Bool, true, false, ◌&&◌, if◌then◌else◌}
use Rattle.std.specs.Prelude.{List, [], ◌∷◌, length, slice_get, position}
use Rattle.std.specs.Prelude.{Option, Some, None, option_map, option_and_then, unwrap_or}
use Rattle.std.specs.List.{list_any, list_all, range_with_len}
use Rattle.std.specs.Option.{option_or, option_map_or}
use Rattle.cw_base.specs.Counts.{Counts}
use Rattle.cw_types.specs.Numbers.{config_for, quorum}

-- how many members there are, how many heights an epoch covers (none: the first epoch has no end),
-- and the members of each epoch, rising
pub record Epochs : Type 0 where
  pub total : ℕ
  pub span : Option ℕ
  pub lists : List (List ℕ)

-- one epoch without end, of n members
abbrev pub single : ℕ → Epochs
single n = record { total = n; span = None; lists = range_with_len 0 n ∷ [] }

-- the numbers rise strictly from low on
abbrev pub rises_from : ℕ → List ℕ → Bool
rises_from low [] = true
rises_from low (x ∷ xs) = nat_le low x && rises_from (x + 1) xs

-- a committee: at least four members, rising, each below the total
abbrev pub is_committee : ℕ → List ℕ → Bool
is_committee total list =
    nat_le 4 (length list) && rises_from 0 list && list_all (λ i. nat_lt i total) list

-- committees that a cluster can have: 1 to 64 lists, and an epoch covers at least one height
abbrev pub is_sound : Epochs → Bool
is_sound x =
    nat_lt 0 (length x.lists) && nat_le (length x.lists) 64
    && list_all (is_committee x.total) x.lists
    && option_map_or (λ span. nat_lt 0 span) x.span true

-- the list of that number, else the last one
abbrev pub list_of : List (List ℕ) → ℕ → List ℕ
list_of lists epoch =
    unwrap_or (option_or (slice_get lists epoch) (slice_get lists (length lists - 1))) []

-- the members of an epoch: those of the last list for greater ones
abbrev pub members_in : Epochs → ℕ → List ℕ
members_in x epoch = list_of x.lists epoch

-- n of an epoch
abbrev pub size : Epochs → ℕ → ℕ
size x epoch = length (members_in x epoch)

-- so many members are a quorum of an epoch
abbrev pub is_enough : Epochs → ℕ → ℕ → Bool
is_enough x epoch count = nat_le (quorum (size x epoch)) count

-- in how many chunks the blocks of an epoch are cut
abbrev pub config_in : Epochs → ℕ → Counts
config_in x epoch = config_for (size x epoch)

-- the member stands in the list of an epoch
abbrev pub is_member : Epochs → ℕ → ℕ → Bool
is_member x epoch id = list_any (λ j. j == id) (members_in x epoch)

-- a member's place in the list of an epoch
abbrev pub place : Epochs → ℕ → ℕ → Option ℕ
place x epoch id = position (λ j. j == id) (members_in x epoch)

-- the member that leads a view of an epoch: each in turn
abbrev pub leader : Epochs → ℕ → ℕ → ℕ
leader x epoch view = unwrap_or (slice_get (members_in x epoch) (view % size x epoch)) 0

-- the last height of an epoch
abbrev pub last_height : Epochs → ℕ → Option ℕ
last_height x epoch = option_map (λ span. (epoch + 1) * span) x.span

-- the height, where a block may be so high
abbrev pub height_of_block : ℕ → Option ℕ
height_of_block height = if nat_lt height (2 ^ 64 - 1) then Some height else None

-- the last height of an epoch, where a block may be so high
abbrev pub last_block_height : Epochs → ℕ → Option ℕ
last_block_height x epoch = option_and_then height_of_block (last_height x epoch)

-- the height is no higher than the epoch's last
abbrev pub is_within : Epochs → ℕ → ℕ → Bool
is_within x epoch height = option_map_or (λ last. nat_le height last) (last_height x epoch) true

-- the height is the epoch's last
abbrev pub is_last : Epochs → ℕ → ℕ → Bool
is_last x epoch height = option_map_or (λ last. height == last) (last_height x epoch) false
