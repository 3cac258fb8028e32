-- Sets of members, one for each vote, in a map.
use Rattle.std.specs.Prelude.{ℕ, ◌<◌, ◌≡◌, ◌&&◌, ◌||◌, ◌==◌, Bool, List, Some, false, length, not}
use Rattle.std.specs.BTreeSet.{BTreeSet, contains}
use Rattle.std.specs.Map.{lookup}
use Rattle.std.specs.Option.{option_map_or}
use Rattle.std.specs.Ordering.{nat_cmp}
use Rattle.cw_types.specs.Same.{same_vote}
use Rattle.cw_types.specs.declared.vote.Vote.{Vote}
use Rattle.note_scans.specs.Keys.{key_of, same_key}
use Rattle.note_scans.specs.declared.key.VoteKey.{VoteKey}

-- the member is in the set of the vote
abbrev pub is_in_set : List (VoteKey × BTreeSet ℕ) → Vote → ℕ → Bool
is_in_set sets v i =
    option_map_or (λ members. contains nat_cmp members i) (lookup (same_key (key_of v)) sets) false

-- no set is empty
abbrev pub NoneEmpty : List (VoteKey × BTreeSet ℕ) → Type 0
NoneEmpty sets =
    (v : Vote) (members : BTreeSet ℕ)
    → lookup (same_key (key_of v)) sets ≡ Some members → 0 < length members.keys

module _ (old new : List (VoteKey × BTreeSet ℕ)) where
  -- each set has the members that it had
  abbrev pub AreSameSets : Type 0
  AreSameSets = (v : Vote) (i : ℕ) → is_in_set new v i ≡ is_in_set old v i

  -- and that of one vote one member more
  abbrev pub HaveAdded : Vote → ℕ → Type 0
  HaveAdded w j =
      (v : Vote) (i : ℕ)
      → is_in_set new v i ≡ (is_in_set old v i || (same_vote v w && (i == j)))

  -- and that of one vote not that member
  abbrev pub HaveRemoved : Vote → ℕ → Type 0
  HaveRemoved w j =
      (v : Vote) (i : ℕ)
      → is_in_set new v i ≡ (is_in_set old v i && not (same_vote v w && (i == j)))
