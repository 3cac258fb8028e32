-- Where the digests of noted blocks stand.
use Rattle.std.specs.Prelude.{ℕ, ◌≡◌, ◌≤◌, Bool, List, Option, Some, false, max, slice_get, unwrap_or}
use Rattle.std.specs.Map.{lookup}
use Rattle.std.specs.Option.{option_map_or}
use Rattle.cw_base.specs.declared.hash.Digest32.{Digest32}
use Rattle.cw_types.specs.Same.{same_digest}
use Rattle.marshal.specs.Placed.{HasFirsts}

-- what stands there is that digest
abbrev pub is_digest : Digest32 → Option Digest32 → Bool
is_digest d found = option_map_or (same_digest d) found false

-- the later of the place where a digest stands first and of one where it was met again
abbrev pub later_place : Option ℕ → Option ℕ → ℕ
later_place first again = max (unwrap_or first 0) (unwrap_or again 0)

-- maps have where each digest stands first, and of those that were met again a place: behind the
-- later of the two it doesn't stand
pub record HaveDigests (digests : List (Option Digest32))
    (first again : List (Digest32 × ℕ)) : Type 0 where
  pub firsts : HasFirsts same_digest is_digest first digests
  pub lasts : (d : Digest32) (i : ℕ) → slice_get digests i ≡ Some (Some d)
      → i ≤ later_place (lookup (same_digest d) first) (lookup (same_digest d) again)
