-- Two blocks of one digest, and what a chain is.
use Rattle.std.specs.Prelude.{[], ℕ, ◌&&◌, ◌++◌, ◌+◌, ◌==◌, ◌∷◌, ◌≡◌, Bool, IsTrue, List, None, Option, Some, drop, false, filter_map, find, flat_map, if◌then◌else◌, length, not, option_map, suc, take, zero}
use Rattle.std.specs.List.{list_any}
use Rattle.std.specs.Option.{option_map_or, option_or}
use Rattle.cw_types.specs.Block.{Block}
use Rattle.cw_types.specs.Same.{same_block, same_commitment, same_digest}
use Rattle.cw_types.specs.declared.commitment.Commitment.{Commitment}
use Rattle.cw_types.specs.declared.note.Note.{Note}
use Rattle.cw_rules.specs.Accepted.{first_some}
use Rattle.cw_rules.specs.Held.{noted_block_of}
use Rattle.cw_rules.specs.Rules.{Rules, commit, digest, genesis, genesis_commitment}
use Rattle.cw_rules.specs.Step.{Member, member_notes}
use Rattle.cw_rules.specs.World.{Line, World, happens, line_member}

-- ---- two blocks of one digest

-- the block that a note is of
abbrev pub noted_block : Note → Option Block
noted_block (Note.Block c b) = Some b
noted_block _ = None

-- the blocks that some members have noted, by number and place
abbrev pub blocks_of : List (Option Member) → List Block
blocks_of members =
    flat_map (λ o. option_map_or (λ m. filter_map noted_block (member_notes m)) o []) members

-- another block of one digest
abbrev pub collides : Rules → Block → Block → Bool
collides r b a = same_digest (digest r a) (digest r b) && not (same_block a b)

-- the first of these new blocks that collides with genesis or with one noted before it, after the
-- one that it collides with
abbrev pub first_clash : Rules → List Block → List Block → List Block → List Block
    → Option (Block × Block)
first_clash r low own high [] = None
first_clash r low own high (b ∷ bs) =
    option_or (option_map (λ a. (a, b)) (find (collides r b) (genesis r ∷ low ++ own ++ high)))
    (first_clash r low (own ++ b ∷ []) high bs)

-- the clash that a line brings
abbrev pub clash_at : Rules → World → World → ℕ → Option (Block × Block)
clash_at r before after i =
    let own = blocks_of (take 1 (drop i before.members)) in
    first_clash r (blocks_of (take i before.members)) own (blocks_of (drop (i + 1) before.members))
    (drop (length own) (blocks_of (take 1 (drop i after.members))))

-- what a run ends in: the world that its last line leaves, or the encodings of two blocks of one
-- digest, the earlier first
pub data Outcome : Type 0 where
  Ends : (world : World) → Outcome
  Clashes : (earlier later : List ℕ) → Outcome

-- a script, until a clash ends it
abbrev pub outcome : Rules → World → List Line → Outcome
outcome r w [] = Ends w
outcome r w (line ∷ lines) =
    option_map_or (λ both. Clashes (r.block_bytes both.0) (r.block_bytes both.1))
    (clash_at r w (happens r w line) (line_member line)) (outcome r (happens r w line) lines)

-- ---- the chain

-- the note says that a proposal with this payload is certified
abbrev pub certifies : Commitment → Note → Bool
certifies c (Note.Certified p) = same_commitment p.payload c
certifies c _ = false

-- some honest member has certified it
abbrev pub is_certified_in : World → Commitment → Bool
is_certified_in w c =
    list_any (λ o. option_map_or (λ m. list_any (certifies c) (member_notes m)) o false) w.members

-- each block is over the one before it, which is a under c, and is certified
abbrev pub Follow : Rules → World → Commitment → Block → List Block → Type 0
Follow r w c a [] = Unit {0}
Follow r w c a (b ∷ bs) =
    (b.height ≡ a.height + 1) × (b.context.parent ≡ c) × (b.parent ≡ digest r a)
    × IsTrue (is_certified_in w (commit r b)) × Follow r w (commit r b) b bs

-- blocks from genesis on, each over the one before it
abbrev pub IsChain : Rules → World → List Block → Type 0
IsChain r w [] = ⊥
IsChain r w (b ∷ bs) = (b ≡ genesis r) × Follow r w (genesis_commitment r) b bs

-- all notes of the honest members, by number and place
abbrev pub all_notes : World → List Note
all_notes w = flat_map (λ o. option_map_or member_notes o []) w.members

-- the block of the first Block note of a commitment, and genesis for its own
abbrev pub block_under : Rules → World → Commitment → Option Block
block_under r w c =
    if same_commitment c (genesis_commitment r) then Some (genesis r)
    else first_some (noted_block_of c) (all_notes w)

-- the blocks from genesis up to b, each under the parent commitment of the one above it, in at most
-- so many steps
abbrev pub links_to : Rules → World → ℕ → Block → List Block
links_to r w zero b = b ∷ []
links_to r w (suc steps) b =
    option_map_or (links_to r w steps) (block_under r w b.context.parent) [] ++ b ∷ []

-- the chain up to a block. Its heights fall by one down to genesis, so as many steps are enough
abbrev pub chain_to : Rules → World → Block → List Block
chain_to r w b = links_to r w b.height b

-- the commitment of a link
abbrev pub link_commitment : Rules → Block → Commitment
link_commitment r b = if b.height == 0 then genesis_commitment r else commit r b
