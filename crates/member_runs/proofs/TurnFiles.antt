-- What the calls of turns leave in a file.
use Rattle.std.proofs.Common.{◌≡◌, ℕ, List, [], ◌∷◌, ◌++◌, map, refl, sym, subst, arith, inl, inr}
use Rattle.cw_types.specs.declared.note.Note.{Note}
use Rattle.cw_rules.specs.Rules.{Rules}
use Rattle.cw_rules.specs.Step.{Member}
use Rattle.marshal.specs.Frames.{FindsAllOrNone, FindsNotes, frame_bytes}
use Rattle.node.specs.Lives.{Turn, after_turns}
use Rattle.node_disk.specs.Disk.{DeviceCall}
use Rattle.node_disk.specs.Images.{IsImage, Moment}
use Rattle.node_disk.proofs.Moments.{durable_image}
use Rattle.cw_rules.specs.Coding.{AreBytes}
use Rattle.node_disk.specs.Log.{HasSettled, calls_of_append}
use Rattle.node_disk.specs.Made.{FindsSome, last_moment}
use Rattle.member_session.specs.Told.{gate_of, turn_calls, turn_notes}
use Rattle.member_runs.specs.Files.{AreWritable, MayBeLeft, MayCrashTo, some_frames, shared}
use Rattle.member_runs.specs.Turns.{FindsTurns, turns_calls, turns_notes}
use Rattle.member_runs.proofs.Sharing.{each_calls, finds_front, shared_leaves, shared_rests}
use Rattle.member_runs.proofs.Turnings.{calls_are, finds_turns, frames_after}

module _ (r : Rules) (i : ℕ) (p : Member) (ts : List Turn) where
  pub all_writable : AreWritable (after_turns r i p ts).frames
      → AreWritable (p.frames ++ some_frames (turns_notes r i p ts))
  all_writable writable =
      subst (λ (fs : List (List Note)). AreWritable fs) (frames_after r i p ts) writable

  pub turns_leave : (file : Moment)
      → HasSettled (map frame_bytes p.frames) (gate_of p.frames) file
      → AreWritable (after_turns r i p ts).frames → (image : List ℕ)
      → MayCrashTo file (shared (turns_calls r i p ts)) image
      → FindsSome (map frame_bytes p.frames) (map frame_bytes (some_frames (turns_notes r i p ts))) image
  turns_leave file settled writable image left =
      shared_leaves p.frames (turns_notes r i p ts) file settled (all_writable writable) image
      (subst (λ (l : List (List DeviceCall)). MayCrashTo file (shared l) image) (calls_are r i p ts)
      left)

  pub turns_rest : (file : Moment)
      → HasSettled (map frame_bytes p.frames) (gate_of p.frames) file
      → AreWritable (after_turns r i p ts).frames
      → HasSettled (map frame_bytes (after_turns r i p ts).frames)
      (gate_of (after_turns r i p ts).frames) (last_moment file (shared (turns_calls r i p ts)))
  turns_rest file settled writable =
      subst
      (λ (l : List (List DeviceCall)). HasSettled (map frame_bytes (after_turns r i p ts).frames)
      (gate_of (after_turns r i p ts).frames) (last_moment file (shared l)))
      (sym (calls_are r i p ts))
      (subst
      (λ (fs : List (List Note)). HasSettled (map frame_bytes fs) (gate_of fs)
      (last_moment file (shared (each_calls p.frames (turns_notes r i p ts)))))
      (sym (frames_after r i p ts))
      (shared_rests p.frames (turns_notes r i p ts) file settled (all_writable writable)))

  pub some_turns : (image : List ℕ) → AreWritable (after_turns r i p ts).frames
      → FindsSome (map frame_bytes p.frames) (map frame_bytes (some_frames (turns_notes r i p ts))) image
      → FindsTurns r i p ts image
  some_turns image writable some =
      finds_turns r i p ts image
      (finds_front p.frames (turns_notes r i p ts) image (all_writable writable).readable some)

-- ---- a turn alone

alone_shared : (gate : ℕ) (frame : List ℕ)
    → shared (calls_of_append gate frame ∷ []) ≡ calls_of_append gate frame
alone_shared gate [] = refl
alone_shared gate (byte ∷ bytes) = refl

one_or_none : (r : Rules) (i : ℕ) (p : Member) (t : Turn) (image : List ℕ)
    → FindsTurns r i p (t ∷ []) image → FindsAllOrNone p.frames (turn_notes r i p t) image
one_or_none r i p t image found = go found.first found.rest found.whole found.found
  where
    go : (first rest : List Turn) → t ∷ [] ≡ first ++ rest
        → FindsNotes (after_turns r i p first).frames image
        → FindsAllOrNone p.frames (turn_notes r i p t) image
    go [] rest whole finds = inl finds
    go (x ∷ []) rest whole finds =
        let same : x ≡ t = cc in
        inr (subst (λ (y : Turn). FindsNotes (after_turns r i p (y ∷ [])).frames image) same finds)
    go (x ∷ y ∷ first) rest whole finds = absurd (cc)

pub turn_left : (r : Rules) (i : ℕ) (p : Member) (t : Turn) (file left : Moment)
    → HasSettled (map frame_bytes p.frames) (gate_of p.frames) file
    → AreWritable (after_turns r i p (t ∷ [])).frames → MayBeLeft file (turn_calls r i p t) left
    → (image : List ℕ) → IsImage left image → FindsAllOrNone p.frames (turn_notes r i p t) image
turn_left r i p t file left settled writable leaves image is =
    one_or_none r i p t image
    (some_turns r i p (t ∷ []) image writable
    (turns_leave r i p (t ∷ []) file settled writable image
    (subst (λ (l : List DeviceCall). MayCrashTo file l image)
    (sym (alone_shared (gate_of p.frames) (frame_bytes (turn_notes r i p t))))
    (leaves.images image is))))

-- ---- any calls

-- a crash may leave a file that holds this image for good
pub crash_leaves : (file : Moment) (calls : List DeviceCall) (image : List ℕ)
    → MayCrashTo file calls image → AreBytes image
    → MayBeLeft file calls (record { seen = image; synced = image; ranges = [] })
crash_leaves file calls image may bytes = record {
  seen =
      record {
        no_shorter = omega arith;
        no_longer = omega arith;
        same = λ place below out. refl;
      };
  bytes = bytes;
  images =
      λ other is.
      subst (λ (l : List ℕ). MayCrashTo file calls l)
      (sym
      (durable_image (record { seen = image; synced = image; ranges = [] }) other
      (record { synced = refl; ranges = refl }) is))
      may;
}
