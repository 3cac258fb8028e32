-- The members that the code marks as faulty.
use Rattle.std.specs.Prelude.{ℕ, Bool, List, count_by, false, length, nat_le, slice_index_or, slice_set, true}
use Rattle.cw_types.specs.Numbers.{max_faults}
use Rattle.cw_rules.specs.World.{Faulty, Line}

-- the marks with that of the member that a line makes faulty
abbrev pub with_faulty : List Bool → Line → List Bool
with_faulty marks (Faulty member fault) = slice_set marks member true
with_faulty marks _ = marks

-- the member is marked
abbrev pub is_marked : List Bool → ℕ → Bool
is_marked marks member = slice_index_or marks member false

-- at most f members of the list are marked
abbrev pub marks_bear : List Bool → List ℕ → Bool
marks_bear marks list = nat_le (count_by (is_marked marks) list) (max_faults (length list))
