-- The votes that members sent, by who sent them and where they are cast.
use Rattle.std.specs.Prelude.{[], ℕ, ◌≡◌, List, unwrap_or}
use Rattle.std.specs.BTreeMap.{BTreeMap, get}
use Rattle.std.specs.List.{list_any}
use Rattle.std.specs.Ordering.{nat_cmp, ordering_then}
use Rattle.std.specs.declared.cmp.Ordering.{Ordering}
use Rattle.cw_types.specs.Same.{same_vote}
use Rattle.cw_types.specs.Votes.{vote_epoch, vote_view}
use Rattle.cw_types.specs.declared.vote.Vote.{Vote}
use Rattle.cw_rules.specs.World.{Sent, is_sent_vote}

-- a signer, an epoch and a view, in this order
abbrev pub round_cmp : ℕ × ℕ × ℕ → ℕ × ℕ × ℕ → Ordering
round_cmp a b = ordering_then (ordering_then (nat_cmp a.0 b.0) (nat_cmp a.1 b.1)) (nat_cmp a.2 b.2)

-- who signed a vote, and where it is cast
abbrev pub round_of : ℕ → Vote → ℕ × ℕ × ℕ
round_of i v = (i, vote_epoch v, vote_view v)

-- the votes that are kept under these
abbrev pub votes_under : BTreeMap (ℕ × ℕ × ℕ) (List Vote) → ℕ × ℕ × ℕ → List Vote
votes_under rounds k = unwrap_or (get round_cmp rounds k) []

-- what is kept tells of each vote whether its signer sent it in these messages
abbrev pub TellVotes : BTreeMap (ℕ × ℕ × ℕ) (List Vote) → List Sent → Type 0
TellVotes rounds sent =
    (i : ℕ) (v : Vote)
    → list_any (same_vote v) (votes_under rounds (round_of i v)) ≡ list_any (is_sent_vote i v) sent
