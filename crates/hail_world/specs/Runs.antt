-- What the parts of a run leave.
use Rattle.std.specs.Prelude.{[], ℕ, ◌+◌, ◌∷◌, ◌==◌, ◌≡◌, List, None, Option, Some, drop, flat_map, if◌then◌else◌, nat_lt, option_and_then, take}
use Rattle.std.specs.List.{list_any}
use Rattle.std.specs.Option.{option_map_or}
use Rattle.cw_types.specs.Commit.{genesis, genesis_commitment}
use Rattle.cw_types.specs.Encoding.{block_bytes, context_bytes}
use Rattle.cw_types.specs.Same.{same_commitment}
use Rattle.cw_types.specs.declared.event.Handed.{Handed}
use Rattle.cw_types.specs.declared.commitment.Commitment.{Commitment}
use Rattle.cw_rules.specs.Accepted.{first_some}
use Rattle.cw_rules.specs.Held.{noted_block_of}
use Rattle.cw_base.specs.declared.hash.Digest32.{Digest32}
use Rattle.cw_types.specs.Block.{Block}
use Rattle.cw_types.specs.declared.note.Note.{Note}
use Rattle.cw_rules.specs.Chains.{Clashes, block_under, chain_to, outcome}
use Rattle.cw_rules.specs.Rules.{Rules}
use Rattle.cw_rules.specs.Step.{Member, member_notes, start}
use Rattle.cw_rules.specs.World.{Line, World, faults, opening, run}
use Rattle.hail_script.specs.declared.error.RunError.{RunError}
use Rattle.hail_script.specs.declared.error.RunError.TheVariants as error
use Rattle.hail_script.specs.Scenario.{Scenario}
use Rattle.hail_world.specs.declared.place.Place.{Place}
use Rattle.hail_world.specs.declared.place.Place.TheVariants as place
use Rattle.node_disk.specs.Memory.{memory_state}
use Rattle.hail_world.specs.Places.{script_rules}
use Rattle.hail_world.specs.MemoryNodes.{MemoryNode}

-- the world in which a script begins
abbrev pub opened : (List ℕ → Digest32) → Scenario → World
opened hash s = opening (script_rules hash s) s.lines

-- the member in a place when a script begins, on an empty disk; none where some line makes it
-- faulty
abbrev pub opening_member : Rules → List Line → ℕ → Option Member
opening_member r lines i = if list_any (faults i) lines then None else Some (start r i []).member

-- why lines weren't played to their end: for want of memory, or by a clash
abbrev pub IsStopped : Rules → World → List Line → RunError → Type 0
IsStopped r w lines error.NoMemory = Unit {0}
IsStopped r w lines (error.HashClash earlier later) = outcome r w lines ≡ Clashes earlier later
IsStopped r w lines _ = ⊥

-- the encodings of two blocks
abbrev pub encoded : Rules → Block × Block → List ℕ × List ℕ
encoded r both = (r.block_bytes both.0, r.block_bytes both.1)

-- the notes at a place of the rules
abbrev pub notes_of_place : Option Member → List Note
notes_of_place o = option_map_or member_notes o []

-- the second world differs from the first in one place, where notes were added to so many
pub record HasGrown (before after : World) (i old : ℕ) : Type 0 where
  pub low : take i after.members ≡ take i before.members
  pub high : drop (i + 1) after.members ≡ drop (i + 1) before.members
  pub own : flat_map notes_of_place (take 1 (drop i before.members))
      ≡ take old (flat_map notes_of_place (take 1 (drop i after.members)))

-- the rules hash what is hashed by that hash
pub record GoesBy (hash : List ℕ → Digest32) (r : Rules) : Type 0 where
  pub hashes : r.hash ≡ hash
  pub blocks : r.block_bytes ≡ block_bytes
  pub contexts : r.context_bytes ≡ context_bytes

-- genesis for its own commitment, and the block of the first note of another in lists of notes
abbrev pub first_named : (List ℕ → Digest32) → List (List Note) → Commitment → Option Block
first_named hash lists c =
    if same_commitment c (genesis_commitment hash) then Some (genesis hash)
    else first_some (noted_block_of c) (flat_map (λ notes. notes) lists)

-- the block under the parent commitment of one, where some are left
abbrev pub under : Rules → World → ℕ → Block → Option Block
under r w left b = if left == 0 then None else block_under r w b.context.parent

-- the first of the greatest height, of one before and others
abbrev pub higher : Option Handed → List Handed → Option Handed
higher best [] = best
higher None (x ∷ xs) = higher (Some x) xs
higher (Some y) (x ∷ xs) = higher (Some (if nat_lt y.height x.height then x else y)) xs

abbrev pub chain_from : Rules → World → Option Handed → List Block
chain_from r w top =
    option_map_or (chain_to r w) (option_and_then (λ x. block_under r w x.commitment) top) []

-- what is handed back of a place: the bytes of its disk, and the node where it is live
abbrev pub HandsBack : Place MemoryNode → Option (List ℕ × Option MemoryNode) → Type 0
HandsBack place.Faulty closed = closed ≡ None
HandsBack (place.Live m) closed = closed ≡ Some ((memory_state m.log.disk).now.seen, Some m)
HandsBack (place.Stopped disk notes) closed = closed ≡ Some ((memory_state disk).now.seen, None)

-- the height that a note acknowledges, else the one before
abbrev pub acked_with : Option ℕ → Note → Option ℕ
acked_with last (Note.Ack height) = Some height
acked_with last _ = last
