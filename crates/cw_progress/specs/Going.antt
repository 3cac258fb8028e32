-- When a cluster can go on, by which lines, and what it is that it goes on.
use Rattle.std.specs.Prelude.{[], ℕ, ⊤, ◌&&◌, ◌*◌, ◌++◌, ◌==◌, ◌||◌, ◌∷◌, ◌⊎◌, Bool, IsTrue, List, Option, bytes_eq, false, filter_map, if◌then◌else◌, length, map, nat_le, nat_lt, not, option_map, slice_get, suc, true, zero}
use Rattle.std.specs.List.{AllByRecursion, enumerate_from, list_all, list_any}
use Rattle.std.specs.Option.{option_map_or}
use Rattle.cw_types.specs.Block.{Block}
use Rattle.cw_types.specs.Epochs.{is_member}
use Rattle.cw_types.specs.declared.event.Handed.{Handed}
use Rattle.cw_types.specs.declared.message.Message.{Message}
use Rattle.cw_rules.specs.Chains.{Clashes, Ends, Outcome, blocks_of, collides, outcome}
use Rattle.cw_rules.specs.Direct.{best_parent, proposed_block}
use Rattle.cw_rules.specs.Held.{greatest_floor, greatest_prune, resume}
use Rattle.cw_rules.specs.Notes.{epoch_of, greatest, view_of}
use Rattle.cw_rules.specs.Rules.{Rules, genesis}
use Rattle.cw_rules.specs.Step.{Member, member_notes}
use Rattle.cw_rules.specs.World.{Ask, Cut, Do, Line, Restart, World, done_by, happens, line_member, run}
use Rattle.cw_progress.specs.Tops.{final_top}

-- ---- which lines help

-- the message is a vote or a certificate: what its sender's notes can give again
abbrev pub is_ballot : Message → Bool
is_ballot (Message.Vote i v) = true
is_ballot (Message.Cert s) = true
is_ballot _ = false

-- what may help from a world on: a message that is sent from there on arrives, or a vote or a
-- certificate from before; a leader proposes this payload, a timer runs out, a handed block is
-- acknowledged, a stopped member starts, or a member stops before it writes anything. No faulty
-- member does anything, no height is given up, no block is hidden
abbrev pub helps : World → List ℕ → Line → Bool
helps w payload (Do i (Ask.Propose own)) = bytes_eq own payload
helps w payload (Do i (Ask.Timeout view)) = true
helps w payload (Do i (Ask.Deliver number)) =
    nat_le (length w.pool) number
    || option_map_or (λ s. is_ballot s.message) (slice_get w.pool number) false
helps w payload (Do i Ask.Ack) = true
helps w payload (Restart i) = true
helps w payload (Cut call cut fill i Ask.Ack) = call == 1
helps w payload _ = false

-- neither gives up a height nor lets a block go
abbrev pub keeps_all : Line → Bool
keeps_all (Do i (Ask.Prune height)) = false
keeps_all (Do i (Ask.Floor number)) = false
keeps_all (Cut call cut fill i (Ask.Prune height)) = false
keeps_all (Cut call cut fill i (Ask.Floor number)) = false
keeps_all _ = true

-- ---- when a world is able

-- the honest members, each with its number
abbrev pub numbered_members : World → List (ℕ × Member)
numbered_members w =
    filter_map (λ at. option_map (λ m. (at.0, m)) at.1) (enumerate_from 0 w.members)

-- the newest epoch that an honest member is in
abbrev pub newest_epoch : World → ℕ
newest_epoch w = greatest (map (λ at. epoch_of (member_notes at.1)) (numbered_members w))

-- nobody let a block go that another still has to hand out
abbrev pub is_stocked : World → Bool
is_stocked w =
    list_all
    (λ a. list_all
    (λ b. nat_le (greatest_prune (member_notes b.1)) (resume (member_notes a.1)))
    (numbered_members w))
    (numbered_members w)

-- the member isn't one of that epoch, or is in it, or gave up no height past its beginning
abbrev pub can_enter : Rules → ℕ → ℕ × Member → Bool
can_enter r epoch at =
    not (is_member r.epochs epoch at.0) || (epoch_of (member_notes at.1) == epoch)
    || option_map_or (λ span. nat_le (greatest_floor (member_notes at.1)) (epoch * span))
    r.epochs.span true

-- a cluster can go on: no block is gone that is still to be handed out, and each honest member of
-- the newest epoch can enter it
abbrev pub is_able : Rules → World → Bool
is_able r w = is_stocked w && list_all (can_enter r (newest_epoch w)) (numbered_members w)

-- ---- what it is to go on

-- what a member hands out in these lines
abbrev pub handed_of : Rules → World → ℕ → List Line → List Handed
handed_of r w i [] = []
handed_of r w i (line ∷ lines) =
    (if line_member line == i then option_map_or (λ done. done.handed) (done_by r w line) [] else [])
    ++ handed_of r (happens r w line) i lines

-- the greatest height that an honest member knows to be final
abbrev pub known_top : Rules → World → ℕ
known_top r w = greatest (map (λ at. final_top r (member_notes at.1)) (numbered_members w))

-- the lines end without a clash in a world that can go on
abbrev pub ends_able : Rules → Outcome → Bool
ends_able r (Ends after) = is_able r after
ends_able r (Clashes earlier later) = false

-- the cluster goes on by the lines: each honest member hands out a block above all that any of them
-- knew to be final, no clash ends them, and the cluster can go on again
abbrev pub goes_on : Rules → World → List Line → Bool
goes_on r w more =
    ends_able r (outcome r w more)
    && list_all
    (λ at. list_any (λ x. nat_lt (known_top r w) x.height) (handed_of r w at.0 more))
    (numbered_members w)

-- ---- twins

-- the new block that a member would propose in its view
abbrev pub would_build : Rules → List ℕ → Member → Option Block
would_build r payload m =
    let notes = member_notes m in
    let epoch = epoch_of notes in
    let view = view_of notes epoch in
    option_map
    (λ best. proposed_block r (record {
      epoch = epoch;
      view = view;
      parent = best.0;
      payload = best.1;
    }) best.1 best.2 payload)
    (best_parent r notes epoch view)

-- some honest member would build another block of the digest of one that is known
abbrev pub builds_twin : Rules → List ℕ → World → Bool
builds_twin r payload w =
    list_any
    (λ at. option_map_or (λ b. list_any (collides r b) (genesis r ∷ blocks_of w.members))
    (would_build r payload at.1) false)
    (numbered_members w)

-- such blocks are told where lines end
abbrev pub twins_in : Rules → List ℕ → Outcome → Bool
twins_in r payload (Clashes earlier later) = true
twins_in r payload (Ends after) = builds_twin r payload after

-- the lines show twins, two different blocks of one digest: by a clash, or by what a leader would
-- build of this payload where they end
abbrev pub shows_twins : Rules → World → List ℕ → List Line → Bool
shows_twins r w payload more = twins_in r payload (outcome r w more)

-- so many blocks, one after the other: by lines that help the cluster goes on, and so from there
-- again, or they show twins
abbrev pub GoesOnTimes : Rules → List ℕ → ℕ → World → Type 0
GoesOnTimes r payload zero w = ⊤
GoesOnTimes r payload (suc count) w =
    (more : List Line) × AllByRecursion (λ line. IsTrue (helps w payload line)) more
    × ((IsTrue (goes_on r w more) × GoesOnTimes r payload count (run r w more))
    ⊎ IsTrue (shows_twins r w payload more))
