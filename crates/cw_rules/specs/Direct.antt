-- The notes that an event gives at once.
use Rattle.std.specs.Prelude.{[], ℕ, ◌&&◌, ◌++◌, ◌+◌, ◌-◌, ◌==◌, ◌^◌, ◌∷◌, List, None, Option, Some, false, if◌then◌else◌, min, nat_le, nat_lt, not, option_and_then, option_map, suc, zero}
use Rattle.std.specs.Option.{option_map_or, option_or}
use Rattle.cw_types.specs.Block.{Block}
use Rattle.cw_types.specs.Epochs.{is_last, is_member, is_within, leader}
use Rattle.cw_types.specs.declared.commitment.Commitment.{Commitment}
use Rattle.cw_types.specs.declared.event.Event.{Event}
use Rattle.cw_types.specs.declared.note.Note.{Note}
use Rattle.cw_types.specs.declared.vote.Proposal.{Proposal}
use Rattle.cw_types.specs.declared.vote.Vote.TheVariants.{Notarize, Nullify}
use Rattle.cw_rules.specs.Accepted.{State}
use Rattle.cw_rules.specs.Fits.{context_for}
use Rattle.cw_rules.specs.Held.{greatest_prune, held, last_ack, pending}
use Rattle.cw_rules.specs.Notes.{epoch_of, has_block, nullified, settled, view_of}
use Rattle.cw_rules.specs.Owed.{has_closed, has_voted}
use Rattle.cw_rules.specs.Rules.{Rules, commit, digest, genesis_commitment}

-- the greatest settled view of the epoch below so many whose payload is held, with all views above
-- it nullified; with its payload and block
abbrev pub best_parent : Rules → List Note → ℕ → ℕ → Option (ℕ × Commitment × Block)
best_parent r notes epoch zero = None
best_parent r notes epoch (suc view) =
    option_or
    (option_and_then (λ c. option_map (λ a. (view, c, a)) (held r notes c))
    (settled (genesis_commitment r) notes epoch view))
    (if nullified notes epoch view then best_parent r notes epoch view else None)

-- the block that a leader proposes over a, held under c
abbrev pub proposed_block : Rules → Proposal → Commitment → Block → List ℕ → Block
proposed_block r p c a payload =
    record {
      context = context_for r p c;
      parent = digest r a;
      height = a.height + 1;
      payload = payload;
    }

-- the notes of a proposal of the block b in that view
abbrev pub proposal_notes : Rules → List Note → ℕ → ℕ → ℕ → Block → List Note
proposal_notes r notes epoch view parent b =
    let c = commit r b in
    (if has_block notes c then [] else Note.Block c b ∷ [])
    ++ Note.Verified epoch view c ∷ Note.Vote (Notarize (record {
      epoch = epoch;
      view = view;
      parent = parent;
      payload = c;
    })) ∷ []

-- a new block over the best parent
abbrev pub propose_new : Rules → List Note → ℕ → ℕ → List ℕ → ℕ × Commitment × Block → List Note
propose_new r notes epoch view payload best =
    let b =
    proposed_block r (record { epoch = epoch; view = view; parent = best.0; payload = best.1 })
    best.1 best.2 payload in
    if nat_lt b.height (2 ^ 64 - 1) && is_within r.epochs epoch b.height && r.accepts b best.2
    then proposal_notes r notes epoch view best.0 b else []

-- the best parent again, where it is the last block of the epoch, else a new block over it
abbrev pub propose_over : Rules → List Note → ℕ → ℕ → List ℕ → ℕ × Commitment × Block → List Note
propose_over r notes epoch view payload best =
    if nat_lt 0 best.0 && is_last r.epochs epoch best.2.height
    then Note.Vote (Notarize (record {
      epoch = epoch;
      view = view;
      parent = best.0;
      payload = best.1;
    })) ∷ []
    else propose_new r notes epoch view payload best

-- what the leader of the member's view proposes, where it has no vote in it
abbrev pub proposed : Rules → ℕ → List Note → List ℕ → List Note
proposed r id notes payload =
    let epoch = epoch_of notes in
    let view = view_of notes epoch in
    if (leader r.epochs epoch view == id) && nat_lt view (2 ^ 64 - 1)
    && not (has_voted notes epoch view)
    then option_map_or (propose_over r notes epoch view payload) (best_parent r notes epoch view) []
    else []

-- a vote to nullify the member's view
abbrev pub timed_out : Rules → ℕ → List Note → ℕ → List Note
timed_out r id notes view =
    let epoch = epoch_of notes in
    if (view == view_of notes epoch) && nat_lt view (2 ^ 64 - 1) && is_member r.epochs epoch id
    && not (has_closed notes epoch view)
    then Note.Vote (Nullify epoch view) ∷ [] else []

-- the least of some numbers
abbrev pub least : List ℕ → Option ℕ
least [] = None
least (x ∷ xs) = Some (option_map_or (min x) (least xs) x)

-- the notes that an event gives at once
abbrev pub direct : Rules → ℕ → State → Event → List Note
direct r id s (Event.Propose payload) = proposed r id s.notes payload
direct r id s (Event.Timeout view) = timed_out r id s.notes view
direct r id s Event.Ack = option_map_or (λ h. Note.Ack h ∷ []) (least (pending s)) []
direct r id s (Event.Prune h) =
    if option_map_or (λ a. nat_le h a) (last_ack s.notes) false && nat_lt (greatest_prune s.notes) h
    then Note.Prune h ∷ [] else []
direct r id s _ = []
