-- A node that isn't refused is at work.
use Rattle.std.proofs.Common.{◌≡◌, ◌∙◌, ◌++◌, ◌∷◌, ap, Bool, false, true, inr, ⊎_elim, List, [], map, ℕ, refl, subst, sym}
use Rattle.cw_base.specs.declared.hash.Digest32.{Digest32}
use Rattle.cw_types.specs.Block.{Block}
use Rattle.cw_types.specs.declared.commitment.Commitment.{Commitment}
use Rattle.cw_types.specs.declared.note.Note.{Note}
use Rattle.marshal.specs.Frames.{FindsAllOrNone, ReadBack, frame_bytes}
use Rattle.node_disk.specs.Disk.{DiskState, LeavesOnly}
use Rattle.node_disk.specs.Log.{HasSettled, LogState}
use Rattle.node_disk.proofs.AtRest.{finds_at_rest}
use Rattle.node.specs.Holding.{Holding, node_of}
use Rattle.node.specs.Standing.{IsAwake, PartsStand}
use Rattle.node.specs.State.{IsAtWork}
use Rattle.node.specs.declared.leads.Led.{Led}

pub at_work : {D A : Type 0} (state : D → DiskState) (h : Holding D A) → h.store.failed ≡ false
    → h.log.failed ≡ h.store.failed
    → h.log.frames ≡ map frame_bytes h.store.frames
    → ReadBack h.store.frames
    → HasSettled h.log.frames h.log.gate (state h.log.disk).now
    → LeavesOnly (state h.log.disk) (state h.log.disk) (FindsAllOrNone h.store.frames [])
    → IsAtWork state (node_of true h)
at_work state h running failed frames readable settled still = record {
  live = refl;
  running = failed ∙ running;
  frames = frames;
  readable = readable;
  settled = settled;
  found = finds_at_rest h.log.frames h.log.gate (state h.log.disk).now.seen settled.file;
  on_disk = λ image is. ⊎_elim (λ e. e) (λ e. e) (still.left image (inr is));
}

-- another log is nothing that a node stands on
stands_logged : {D A : Type 0} (hash : List ℕ → Digest32) (accepts : A → Block → Block → Bool)
    (h : Holding D A) (log : LogState D)
    → PartsStand hash accepts h → PartsStand hash accepts (record h { log = log })
stands_logged hash accepts h log s = record {
  epochs = s.epochs;
  backlog = s.backlog;
  running = s.running;
  id = s.id;
  tally = s.tally;
  shards = record { rules = s.shards.rules; rows = s.shards.rows };
  rows = s.rows;
  named = s.named;
  shown = s.shown;
}

-- nor does it say how blocks travel
pub travel_logged : {D A : Type 0} (stopped : Bool) (old new : Holding D A) (log : LogState D)
    → (stopped ≡ false → new ≡ record old { log = log }) → (stopped ≡ true → new ≡ old)
    → new.travel ≡ old.travel
travel_logged true old new log armed same = ap (λ h. h.travel) (same refl)
travel_logged false old new log armed same = ap (λ h. h.travel) (armed refl)

-- so it is awake with a stop on its disk, or without
pub awake_logged : {D A : Type 0} (hash : List ℕ → Digest32) (accepts : A → Block → Block → Bool)
    (stopped : Bool) (old new : Holding D A) (entries : List (Commitment × Led)) (log : LogState D)
    → (stopped ≡ false → new ≡ record old { log = log }) → (stopped ≡ true → new ≡ old)
    → IsAwake hash accepts old entries → IsAwake hash accepts new entries
awake_logged hash accepts true old new entries log armed same awake =
    subst (λ h. IsAwake hash accepts h entries) (sym (same refl)) awake
awake_logged hash accepts false old new entries log armed same awake =
    subst (λ h. IsAwake hash accepts h entries) (sym (armed refl)) (record {
      ready =
          record {
            stands = stands_logged hash accepts old log awake.ready.stands;
            quiet = awake.ready.quiet;
            rests = awake.ready.rests;
          };
      led = awake.led;
    })
