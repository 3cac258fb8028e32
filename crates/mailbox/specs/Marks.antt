-- What a close marks each place of the history with.
use Rattle.std.specs.Prelude.{◌≡◌, ◌==◌, ◌&&◌, ℕ, Bool, true, false, not, nat_lt, List, [], ◌∷◌, if◌then◌else◌, max}
use Rattle.mailbox.specs.declared.call.Call.{Call}
use Rattle.mailbox.specs.declared.mark.Mark.{Mark}
use Rattle.mailbox.specs.declared.mark.Mark.TheVariants.{Empty, Filled, Failed}

-- no call had the place so far
abbrev pub is_empty : Mark → Bool
is_empty Empty = true
is_empty Filled = false
is_empty Failed = false

-- one call had the place, and it holds so far
abbrev pub is_filled : Mark → Bool
is_filled Empty = false
is_filled Filled = true
is_filled Failed = false

-- the mark of a call's own place behind it, where the calls before it in its list have places of at
-- most `top`
abbrev pub next_mark : {T E R : Type 0} → (Call T E R → Bool) → Mark → ℕ → Call T E R → Mark
next_mark is_it mark top c =
    if is_empty mark && not (nat_lt c.place top) && is_it c then Filled else Failed

-- the mark of the place k behind one more call
abbrev pub mark_behind : {T E R : Type 0} → (Call T E R → Bool) → ℕ → Mark → ℕ → Call T E R → Mark
mark_behind is_it k mark top c = if c.place == k then next_mark is_it mark top c else mark

-- the same behind the calls of a list
abbrev pub marked_by : {T E R : Type 0} → (Call T E R → Bool) → ℕ → Mark → ℕ → List (Call T E R)
    → Mark
marked_by is_it k mark top [] = mark
marked_by is_it k mark top (c ∷ cs) =
    marked_by is_it k (mark_behind is_it k mark top c) (max top c.place) cs

-- the same behind all lists
abbrev pub marked_by_all : {T E R : Type 0} → (Call T E R → Bool) → ℕ → Mark
    → List (List (Call T E R))
    → Mark
marked_by_all is_it k mark [] = mark
marked_by_all is_it k mark (list ∷ lists) =
    marked_by_all is_it k (marked_by is_it k mark 0 list) lists
