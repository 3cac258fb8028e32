-- Lists of signers, some for each vote, in a map.
use Rattle.std.specs.Prelude.{ℕ, ◌≡◌, ◌&&◌, ◌||◌, Bool, List, Vec, bytes_eq, false, not}
use Rattle.std.specs.BTreeSet.{BTreeSet}
use Rattle.std.specs.List.{list_any}
use Rattle.std.specs.Map.{lookup}
use Rattle.std.specs.Option.{option_map_or}
use Rattle.std.specs.declared.alloc.Global.{Global}
use Rattle.cw_rules.specs.Accepted.{Ballot, Many, same_ballot}
use Rattle.cw_types.specs.Same.{same_vote}
use Rattle.cw_types.specs.declared.vote.Vote.{Vote}
use Rattle.note_scans.specs.Keys.{key_of, same_key}
use Rattle.note_scans.specs.declared.key.VoteKey.{VoteKey}

-- these signers are a list of the vote's
abbrev pub has_signers_list : List (VoteKey × BTreeSet (Vec ℕ Global)) → Vote → List ℕ → Bool
has_signers_list lists v signers =
    option_map_or (λ s. list_any (λ l. bytes_eq signers l.items) s.keys)
    (lookup (same_key (key_of v)) lists) false

module _ (old new : List (VoteKey × BTreeSet (Vec ℕ Global))) where
  -- each vote has the lists that it had
  abbrev pub AreSameLists : Type 0
  AreSameLists = (v : Vote) (l : List ℕ) → has_signers_list new v l ≡ has_signers_list old v l

  -- and one vote one list more
  abbrev pub HaveListed : Vote → List ℕ → Type 0
  HaveListed w k =
      (v : Vote) (l : List ℕ)
      → has_signers_list new v l ≡ (has_signers_list old v l || (same_vote v w && bytes_eq l k))

  -- and one vote not that list
  abbrev pub HaveUnlisted : Vote → List ℕ → Type 0
  HaveUnlisted w k =
      (v : Vote) (l : List ℕ)
      → has_signers_list new v l ≡ (has_signers_list old v l && not (same_vote v w && bytes_eq l k))

-- the lists are those of the certificates that came
abbrev pub HasLists : List Ballot → List (VoteKey × BTreeSet (Vec ℕ Global)) → Type 0
HasLists ballots lists =
    (v : Vote) (l : List ℕ)
    → has_signers_list lists v l
    ≡ list_any (same_ballot (Many (record { vote = v; signers = l }))) ballots
