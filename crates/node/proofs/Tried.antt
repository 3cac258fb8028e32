-- What a step did to the disk, by where it ended.
use Rattle.std.proofs.Common.{◌≡◌, ap, List, [], Result, Ok, Err, refl, sym, subst, arith}
use Rattle.std.specs.Prelude.{IsErrAnd}
use Rattle.cw_types.specs.declared.note.Note.{Note}
use Rattle.marshal.specs.Frames.{FindsAllOrNone, frame_bytes}
use Rattle.node_disk.specs.Disk.{DiskState, LeavesOnly}
use Rattle.node_disk.specs.Log.{LogState, calls_of_append}
use Rattle.node_disk.specs.declared.log.StoreError.{StoreError}
use Rattle.node_disk.specs.declared.log.StoreError.TheVariants as store
use Rattle.node_disk.proofs.Moments.{told_none}
use Rattle.node.specs.Disks.{HasTried}

-- an error that is want of memory
pub err_is : {X : Type 0} (r : Result X StoreError) → IsErrAnd r (λ e. e ≡ store.NoMemory)
    → r ≡ Err store.NoMemory
err_is (Ok x) h = absurd h
err_is (Err e) h = ap Err h

module _ {D : Type 0} (state : D → DiskState) (continues : D → D → Type 0)
    (itself : (d : D) → continues d d) where
  -- it was refused before a device call
  pub tried_none : {X : Type 0} (frames : List (List Note)) (notes : List Note)
      (old new : LogState D)
      → LeavesOnly (state old.disk) (state old.disk) (FindsAllOrNone frames notes) → new ≡ old
      → HasTried {D = D} {X = X} state continues frames notes (Err store.NoMemory) old new
  tried_none {X = X} frames notes old new still is =
      subst
      (λ (l : LogState D). HasTried {D = D} {X = X} state continues frames notes
      (Err store.NoMemory) old l)
      (sym is) (record {
        any_moment = still;
        appended = tt;
        readable = tt;
        cut_short = λ e. cc;
        cut_readable = λ e. cc;
        refused =
            λ e. record {
              did = [];
              rest = calls_of_append old.gate (frame_bytes notes);
              whole = refl;
              told = sym (told_none (state old.disk).calls);
            };
        cause = λ e. cc;
        faults = omega arith;
        goes_on = itself old.disk;
      })
