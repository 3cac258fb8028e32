-- The members of a cluster in their places, and those of the rules that they are.
use Rattle.std.specs.Prelude.{[], ℕ, ◌++◌, ◌+◌, ◌∷◌, ◌≡◌, ◌||◌, Bool, IsTrue, List, None, length, Option, Some, false, if◌then◌else◌, option_map, slice_get, true}
use Rattle.std.specs.List.{flat_map, list_any}
use Rattle.std.specs.Option.{option_map_or}
use Rattle.cw_base.specs.declared.hash.Digest32.{Digest32}
use Rattle.cw_types.specs.Block.{Block}
use Rattle.cw_types.specs.declared.event.StepOut.{StepOut}
use Rattle.cw_types.specs.declared.note.Note.{Note}
use Rattle.cw_types.specs.declared.vote.Vote.{Vote}
use Rattle.cw_rules.specs.Report.{Entry, entry_of}
use Rattle.cw_rules.specs.Rules.{Rules}
use Rattle.cw_rules.specs.Step.{Member, Stepped, cut_step, member_notes, start, step}
use Rattle.cw_rules.specs.World.{Ask, Cut, Do, Faulty, Line, Restart, Sent, World, event_of, happens, is_sent_vote}
use Rattle.cw_rules_coded.specs.Coded.{ruled}
use Rattle.marshal.specs.Frames.{FindsNotes}
use Rattle.node_disk.specs.Memory.{MemoryState, is_calm, memory_state, reopened_disk}
use Rattle.hail_script.specs.Scenario.{Scenario}
use Rattle.hail_world.specs.declared.place.Place.{Place}
use Rattle.hail_world.specs.declared.place.Place.TheVariants as place
use Rattle.hail_world.specs.MemoryNodes.{MemoryNode, Works, out_of, rules_by}

-- the rules of a script's cluster, by how its blocks travel, in which every block is accepted over
-- every other
abbrev pub script_rules : (List ℕ → Digest32) → Scenario → Rules
script_rules hash s = ruled s.travel hash s.committees s.backlog (λ b a. true)

-- a disk that holds some frames of notes, which are these notes in order
abbrev pub DiskHolds : MemoryState → List Note → Type 0
DiskHolds disk notes =
    (frames : List (List Note)) × (FindsNotes frames (memory_state disk).now.seen)
    × (notes ≡ flat_map (λ frame. frame) frames)

-- who sits there works by these rules, on a disk that doesn't fail; a stopped member's notes are
-- those on its disk
abbrev pub WorksBy : Rules → ℕ → Place MemoryNode → Type 0
WorksBy r i place.Faulty = Unit {0}
WorksBy r i (place.Live m) =
    (rules_by r.hash m ≡ r) × (m.id ≡ i) × Works m × (is_calm m.log.disk ≡ true)
WorksBy r i (place.Stopped disk notes) = (is_calm disk ≡ true) × DiskHolds disk notes

-- so in each place, numbered from a number on
abbrev pub WorkBy : Rules → ℕ → List (Place MemoryNode) → Type 0
WorkBy r i [] = Unit {0}
WorkBy r i (p ∷ ps) = WorksBy r i p × WorkBy r (i + 1) ps

-- who sits there is this member of the rules, faulty where there is none. A stopped one is known by
-- its disk
abbrev pub SitsAs : Place MemoryNode → Option Member → Type 0
SitsAs place.Faulty None = Unit {0}
SitsAs (place.Live m) (Some x) = m.member ≡ x
SitsAs (place.Stopped disk notes) (Some x) =
    (x.live ≡ false) × (FindsNotes x.frames (memory_state disk).now.seen) × (notes ≡ member_notes x)
SitsAs _ _ = ⊥

-- so in each place
abbrev pub SitAs : List (Place MemoryNode) → List (Option Member) → Type 0
SitAs [] [] = Unit {0}
SitAs (p ∷ ps) (o ∷ os) = SitsAs p o × SitAs ps os
SitAs _ _ = ⊥

-- the notes of who sits there
abbrev pub notes_at : Place MemoryNode → List Note
notes_at place.Faulty = []
notes_at (place.Live m) = member_notes m.member
notes_at (place.Stopped disk notes) = notes

-- the member is marked as faulty
abbrev pub is_faulty_member : List Bool → ℕ → Bool
is_faulty_member faulty i = option_map_or (λ b. b) (slice_get faulty i) false

-- ideal signatures: a faulty member signed every vote, an honest one those that it sent
abbrev pub table : List Bool → List Sent → ℕ → Vote → Bool
table faulty pool i v = is_faulty_member faulty i || list_any (is_sent_vote i v) pool

-- a world in which these messages were sent
abbrev pub world_of_pool : List Sent → World
world_of_pool pool = record { members = []; pool = pool }

-- what a member does that is asked for something: nothing where it is stopped, or where there is no
-- such message
abbrev pub did : Rules → (ℕ → Vote → Bool) → World → ℕ → Ask → Member → Option Stepped
did r signed w i ask m = if m.live then option_map (step r i signed m) (event_of w i ask) else None

-- the same with a stop
abbrev pub did_cut : Rules → (ℕ → Vote → Bool) → World → ℕ → ℕ → ℕ → ℕ → Ask → Member
    → Option Stepped
did_cut r signed w i a c x ask m =
    if m.live then option_map (cut_step r i signed m a c x) (event_of w i ask) else None

-- a member that starts again, where it was stopped
abbrev pub starts_again : Rules → ℕ → Member → Option Stepped
starts_again r i m = if m.live then None else Some (start r i m.frames)

-- what a line makes of an honest member, by a table of votes
abbrev pub turned_by : Rules → (ℕ → Vote → Bool) → World → ℕ → Line → Member → Option Stepped
turned_by r signed w i (Do j ask) m = did r signed w i ask m
turned_by r signed w i (Cut a c x j ask) m = did_cut r signed w i a c x ask m
turned_by r signed w i (Restart j) m = starts_again r i m
turned_by r signed w i (Faulty j fault) m = None

-- what a line made of who sits in a place, and what that gave: what the rules make of that member,
-- or nothing
abbrev pub Makes : Option Member → Option Stepped → Place MemoryNode → Option StepOut → Type 0
Makes o None place out = SitsAs place o × (out ≡ None)
Makes o (Some done) place out = SitsAs place (Some done.member) × (out ≡ Some (out_of done))

-- how many notes a restart found, where it started its member
abbrev pub found_at : Line → Place MemoryNode → Option StepOut → Option ℕ
found_at (Restart m) p (Some out) = Some (length (notes_at p))
found_at _ p out = None

-- a stopped member: its disk, reopened, and the notes on it
abbrev pub IsPutOut : MemoryState → Place MemoryNode → Type 0
IsPutOut disk place.Faulty = ⊥
IsPutOut disk (place.Live m) = ⊥
IsPutOut disk (place.Stopped again notes) =
    (again ≡ reopened_disk disk) × ((memory_state again).now.seen ≡ (memory_state disk).now.seen)
    × DiskHolds again notes

-- a line made of the world what the rules say, and gave their entry
pub record IsTurn (r : Rules) (w : World) (number : ℕ) (line : Line)
    (places : List (Place MemoryNode))
    (pool : List Sent) (entry : Entry) : Type 0 where
  pub gives : entry ≡ entry_of r w number line
  pub members : SitAs places (happens r w line).members
  pub sent : pool ≡ (happens r w line).pool
