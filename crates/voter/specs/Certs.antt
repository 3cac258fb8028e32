-- Where the first certificate of each vote stands, in place of a search.
use Rattle.std.specs.Prelude.{ℕ, ◌≡◌, Bool, List, Option, false}
use Rattle.std.specs.List.{position_from}
use Rattle.std.specs.Map.{lookup}
use Rattle.cw_types.specs.declared.vote.Vote.{Vote}
use Rattle.cw_rules.specs.Accepted.{Ballot, Many, Single}
use Rattle.note_scans.specs.Keys.{key_of, same_key}
use Rattle.voter.specs.Known.{is_cert_for}
use Rattle.note_scans.specs.declared.key.VoteKey.{VoteKey}

-- a certificate of the vote with that key
abbrev pub has_key : VoteKey → Ballot → Bool
has_key q (Single i v) = false
has_key q (Many s) = same_key q (key_of s.vote)

-- the place of the first certificate of the vote
abbrev pub first_place : Vote → List Ballot → Option ℕ
first_place v ballots = position_from (is_cert_for v) 0 ballots

-- a map has the places of the first certificates, and nothing else
abbrev pub HasFirst : List Ballot → List (VoteKey × ℕ) → Type 0
HasFirst ballots entries =
    (q : VoteKey) → lookup (same_key q) entries ≡ position_from (has_key q) 0 ballots
