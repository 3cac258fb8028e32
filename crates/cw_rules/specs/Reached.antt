-- The worlds that a script reaches.
use Rattle.std.specs.Prelude.{[], ℕ, ⊤, ◌++◌, ◌+◌, ◌<◌, ◌∷◌, ◌≡◌, ◌≢◌, ◌≤◌, ◌⊎◌, Bool, IsTrue, List, Some, count_by, length, map, option_map, slice_get}
use Rattle.std.specs.List.{AllByRecursion, list_any}
use Rattle.cw_types.specs.Block.{Block}
use Rattle.cw_types.specs.Epochs.{Epochs, is_last, members_in, rises_from, size}
use Rattle.cw_types.specs.Numbers.{max_faults}
use Rattle.cw_types.specs.declared.commitment.Commitment.{Commitment}
use Rattle.cw_types.specs.declared.event.Handed.{Handed}
use Rattle.cw_types.specs.declared.note.Note.{Note}
use Rattle.cw_types.specs.declared.vote.Proposal.{Proposal}
use Rattle.cw_types.specs.declared.vote.Vote.{Vote}
use Rattle.cw_types.specs.declared.vote.Vote.TheVariants.{Finalize}
use Rattle.cw_rules.specs.Accepted.{Ballot, Many, Single, is_valid}
use Rattle.cw_rules.specs.Chains.{Ends, IsChain, all_notes, block_under, chain_to, link_commitment, outcome}
use Rattle.cw_rules.specs.Keeps.{IsSound, Keeps, meaning}
use Rattle.cw_rules.specs.Notes.{has_vote}
use Rattle.cw_rules.specs.Rules.{Rules, digest, genesis}
use Rattle.cw_rules.specs.Stands.{EachAfter, Members, Stands}
use Rattle.cw_rules.specs.Step.{Member, member_notes}
use Rattle.cw_rules.specs.World.{Line, World, faults, happens, is_sent_vote, line_member, opening, run, signed}

-- the members of a world, with all their notes
abbrev pub members_of : World → Members
members_of w = map (option_map member_notes) w.members

-- each epoch has at least four members, rising and there, of whom the script makes at most f
-- faulty, and covers at least one height
pub record IsCluster (r : Rules) (script : List Line) : Type 0 where
  pub enough : (epoch : ℕ) → 4 ≤ size r.epochs epoch
  pub rising : (epoch : ℕ) → IsTrue (rises_from 0 (members_in r.epochs epoch))
  pub there : (epoch : ℕ) → AllByRecursion (λ i. i < r.epochs.total) (members_in r.epochs epoch)
  pub few : (epoch : ℕ)
      → count_by (λ i. list_any (faults i) script) (members_in r.epochs epoch)
      ≤ max_faults (size r.epochs epoch)
  pub spans : (span : ℕ) → r.epochs.span ≡ Some span → 0 < span

-- the script reaches the world by some front of it
abbrev pub Reaches : Rules → List Line → World → Type 0
Reaches r script w =
    (before : List Line) × (rest : List Line) × (script ≡ before ++ rest)
    × (w ≡ run r (opening r script) before)

-- the script reaches the world by some front of it, without a clash
abbrev pub ReachesClear : Rules → List Line → World → Type 0
ReachesClear r script w =
    (before : List Line) × (rest : List Line) × (script ≡ before ++ rest)
    × (outcome r (opening r script) before ≡ Ends w)

-- x is in the list
abbrev pub In : {X : Type 0} → X → List X → Type 0
In x [] = ⊥
In x (y ∷ ys) = (x ≡ y) ⊎ In x ys

-- an epoch is entered by the payload of a proposal of the epoch before that stands finalized
pub record IsAnchored (x : Epochs) (members : Members) (epoch : ℕ) (c : Commitment) : Type 0 where
  pub proposal : Proposal
  pub stands : Stands x members (Finalize proposal)
  pub before : proposal.epoch + 1 ≡ epoch
  pub payload : proposal.payload ≡ c

-- each note of an honest member that enters an epoch does so
abbrev pub AllAnchored : Epochs → Members → Type 0
AllAnchored x members =
    (i : ℕ) (notes : List Note) → slice_get members i ≡ Some (Some notes)
    → (epoch : ℕ) (c : Commitment) → In (Note.Epoch epoch c) notes → IsAnchored x members epoch c

-- a step of a descent goes to the height below, or keeps the payload, at the last height of the
-- epoch
pub data GoesDown (r : Rules) (w : World) (q p : Proposal) : Type 0 where
  Lower : (b a : Block) → block_under r w q.payload ≡ Some b → block_under r w p.payload ≡ Some a
      → b.height ≡ a.height + 1 → GoesDown r w q p
  Same : q.payload ≡ p.payload → (b : Block) → block_under r w q.payload ≡ Some b
      → IsTrue (is_last r.epochs q.epoch b.height) → GoesDown r w q p

-- a handed block is the link of its height, with its commitment and digest
pub record IsLinkOf (r : Rules) (links : List Block) (y : Handed) : Type 0 where
  pub link : Block
  pub there : slice_get links y.height ≡ Some link
  pub same_digest : y.digest ≡ digest r link
  pub same_commitment : y.commitment ≡ link_commitment r link

-- the chain up to a handed block is a chain that ends in it, and each handed block that isn't
-- higher lies on it
pub record IsChainUpTo (r : Rules) (w : World) (handed : List Handed) (x : Handed) : Type 0 where
  pub block : Block
  pub under : block_under r w x.commitment ≡ Some block
  pub height : block.height ≡ x.height
  pub chain : IsChain r w (chain_to r w block)
  pub links : (y : Handed) → In y handed → y.height ≤ x.height → IsLinkOf r (chain_to r w block) y

-- the links are one chain from genesis, each handed block is the link of its height, and no link is
-- higher than all of them
pub record IsReported (r : Rules) (w : World) (handed : List Handed)
    (links : List Block) : Type 0 where
  pub chain : IsChain r w links
  pub each : (y : Handed) → In y handed → IsLinkOf r links y
  pub top : (x : Handed) × In x handed × (length links ≡ x.height + 1)

-- a block that is genesis or noted by an honest member
abbrev pub IsKnown : Rules → World → Block → Type 0
IsKnown r w b = (b ≡ genesis r) ⊎ ((c : Commitment) × In (Note.Block c b) (all_notes w))

-- the encodings of two different blocks of one digest, of which the later is noted and the earlier
-- noted or genesis
pub record IsClash (r : Rules) (w : World) (earlier later : List ℕ) : Type 0 where
  pub first : Block
  pub second : Block
  pub encoded : (earlier ≡ r.block_bytes first) × (later ≡ r.block_bytes second)
  pub known : IsKnown r w first × IsKnown r w second
  pub one_digest : digest r first ≡ digest r second
  pub different : first ≢ second

-- what came was signed: a vote by its signer, a certificate by a quorum
abbrev pub IsSigned : Rules → (ℕ → Vote → Bool) → Ballot → Type 0
IsSigned r sign (Single i v) = IsTrue (sign i v)
IsSigned r sign (Many s) = IsTrue (is_valid r sign s)

-- what is kept of an honest member
pub record IsMemberKept (r : Rules) (w : World) (i : ℕ) (m : Member) : Type 0 where
  -- each note rests on those before it, by what votes mean among the members
  pub notes : EachAfter (Keeps r (meaning r.epochs (members_of w))) [] (member_notes m)
  -- each vote that came was signed by its signer, and that of each certificate stands
  pub came : AllByRecursion (IsSound (meaning r.epochs (members_of w))) m.came.ballots
  -- each vote that came was sent by its signer, or that is faulty; so was each vote of each
  -- certificate
  pub signers : AllByRecursion (IsSigned r (signed w)) m.came.ballots
  -- each of its votes that was sent is among its notes
  pub sent : (v : Vote) → IsTrue (list_any (is_sent_vote i v) w.pool)
      → IsTrue (has_vote (member_notes m) v)

-- a note of a block is under the block's digest
abbrev pub IsNamed : Rules → Note → Type 0
IsNamed r (Note.Block c b) = digest r b ≡ c.block
IsNamed r _ = ⊤

-- each Block note of an honest member is
abbrev pub AllNamed : Rules → World → Type 0
AllNamed r w = AllByRecursion (IsNamed r) (all_notes w)

-- what a line leaves of an honest member: its notes and maybe more, and all of it where the line is
-- another's
pub record OnlyGrows (r : Rules) (w : World) (line : Line) (i : ℕ) (m : Member) : Type 0 where
  pub after : Member
  pub there : slice_get (happens r w line).members i ≡ Some (Some after)
  pub more : List Note
  pub notes : member_notes after ≡ member_notes m ++ more
  pub same : i ≢ line_member line → after ≡ m
