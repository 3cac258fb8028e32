-- A start's calls leave a file at rest, and no other frames.
use Rattle.std.proofs.Common.{◌≡◌, ℕ, ◌<◌, List, [], ◌∷◌, length, Result, Ok, refl, sym, subst, arith, inl, inr, ◌⊎◌}
use Rattle.cw_rules.specs.Coding.{AreBytes}
use Rattle.node_disk.specs.Disk.{put_at}
use Rattle.node_disk.specs.Frames.{Finds, IsAtRest, blocks}
use Rattle.node_disk.specs.Images.{HadImage, IsImage, Moment}
use Rattle.node_disk.specs.Log.{HasSettled, start_calls, write_then_sync}
use Rattle.node_disk.specs.Made.{last_moment, moments_before}
use Rattle.node_disk.proofs.Moments.{durable_image}
use Rattle.node_disk.proofs.Starting.{read_short}
use Rattle.member_runs.specs.Files.{MayCrashTo}
use Rattle.member_runs.proofs.AtRest.{found_rests}

no_frames : (frames : List (List ℕ)) → ◌≡◌ {A = Result (List (List ℕ)) ℕ} (Ok []) (Ok frames)
    → [] ≡ frames
no_frames frames is = cc

-- a file whose one byte is a closed gate
closed : Moment
closed = record { seen = 0 ∷ []; synced = 0 ∷ []; ranges = [] }

settled_closed : HasSettled [] 0 (record { seen = 0 ∷ []; synced = 0 ∷ []; ranges = [] })
settled_closed = record {
  file =
      record {
        front = refl;
        place = refl;
        inside = omega arith;
        closed = λ e. let no : 0 ≡ 1 = e in omega arith;
        short = refl;
      };
  durable = record { synced = refl; ranges = refl };
}

-- behind the calls of a start the file is at rest
pub start_rests : (frames : List (List ℕ)) (file : Moment) → AreBytes file.seen
    → Finds frames file.seen
    → HasSettled frames (length (blocks frames)) (last_moment file (start_calls file.seen))
start_rests frames file small found = go file.seen refl small found
  where
    go : (seen : List ℕ) → file.seen ≡ seen → AreBytes seen → Finds frames seen
        → HasSettled frames (length (blocks frames)) (last_moment file (start_calls seen))
    go [] is small found =
        subst
        (λ (l : List (List ℕ)). HasSettled l (length (blocks l)) (last_moment file (start_calls [])))
        (no_frames frames found)
        (subst
        (λ (s : List ℕ). HasSettled [] 0
        (last_moment (record { seen = s; synced = s; ranges = [] }) (write_then_sync 0 (0 ∷ []))))
        (sym is) settled_closed)
    go (a ∷ []) is small found =
        subst
        (λ (l : List (List ℕ)). HasSettled l (length (blocks l))
        (last_moment file (start_calls (a ∷ []))))
        (no_frames frames found)
        (subst
        (λ (s : List ℕ). HasSettled [] 0
        (last_moment (record { seen = s; synced = s; ranges = [] }) (write_then_sync 0 (0 ∷ []))))
        (sym is) settled_closed)
    go (a ∷ b ∷ seen) is small found =
        record {
          file =
              subst (λ (s : List ℕ). IsAtRest frames (length (blocks frames)) s) (sym is)
              (found_rests frames (a ∷ b ∷ seen) small (omega arith) found);
          durable = record { synced = refl; ranges = refl };
        }

-- an image in front of which a sync was made finds what a read gave
synced_finds : (frames : List (List ℕ)) (seen image : List ℕ) → Finds frames seen
    → IsImage (record { seen = seen; synced = seen; ranges = [] }) image → Finds frames image
synced_finds frames seen image found is =
    subst (λ (l : List ℕ). Finds frames l)
    (sym
    (durable_image (record { seen = seen; synced = seen; ranges = [] }) image
    (record { synced = refl; ranges = refl }) is))
    found

-- an image shorter than two bytes finds nothing
short_finds : (frames : List (List ℕ)) (m : Moment) (image : List ℕ) → [] ≡ frames
    → length m.seen < 2 → IsImage m image → Finds frames image
short_finds frames m image none short is =
    subst (λ (l : List (List ℕ)). Finds l image) none
    (read_short image (omega (arith, is.no_longer, short)))

-- a crash in a start leaves what could be left before, or the same frames
pub start_leaves : (frames : List (List ℕ)) (file : Moment) → Finds frames file.seen
    → (image : List ℕ) → MayCrashTo file (start_calls file.seen) image
    → IsImage file image ⊎ Finds frames image
start_leaves frames file found image left = go file.seen refl found left
  where
    after : (seen : List ℕ) → file.seen ≡ seen → Finds frames seen
        → IsImage (record { seen = file.seen; synced = file.seen; ranges = [] }) image
        → Finds frames image
    after seen is found left =
        synced_finds frames seen image found
        (subst (λ (s : List ℕ). IsImage (record { seen = s; synced = s; ranges = [] }) image) is
        left)

    gated : (seen : List ℕ) → file.seen ≡ seen → length (put_at file.seen 0 (0 ∷ [])) < 2
        → [] ≡ frames
        → Finds frames seen
        → HadImage
        (file ∷ moments_before (record { seen = file.seen; synced = file.seen; ranges = [] })
        (write_then_sync 0 (0 ∷ [])))
        image
        ⊎ IsImage
        (last_moment (record { seen = file.seen; synced = file.seen; ranges = [] })
        (write_then_sync 0 (0 ∷ [])))
        image
        → IsImage file image ⊎ Finds frames image
    gated seen is short none found (inl (inl here)) = inl here
    gated seen is short none found (inl (inr (inl here))) = inr (after seen is found here)
    gated seen is short none found (inl (inr (inr (inl here)))) =
        inr
        (short_finds frames
        (record {
          seen = put_at file.seen 0 (0 ∷ []);
          synced = file.seen;
          ranges = (0, 1) ∷ [];
        })
        image none short here)
    gated seen is short none found (inl (inr (inr (inr never)))) = absurd never
    gated seen is short none found (inr here) =
        inr
        (short_finds frames
        (record {
          seen = put_at file.seen 0 (0 ∷ []);
          synced = put_at file.seen 0 (0 ∷ []);
          ranges = [];
        })
        image none short here)

    go : (seen : List ℕ) → file.seen ≡ seen → Finds frames seen
        → MayCrashTo file (start_calls seen) image → IsImage file image ⊎ Finds frames image
    go [] is found left =
        gated [] is
        (subst (λ (s : List ℕ). length (put_at s 0 (0 ∷ [])) < 2) (sym is) (omega arith)) (no_frames frames found) found left
    go (a ∷ []) is found left =
        gated (a ∷ []) is
        (subst (λ (s : List ℕ). length (put_at s 0 (0 ∷ [])) < 2) (sym is) (omega arith)) (no_frames frames found) found left
    go (a ∷ b ∷ seen) is found (inl (inl here)) = inl here
    go (a ∷ b ∷ seen) is found (inl (inr none)) = absurd none
    go (a ∷ b ∷ seen) is found (inr here) = inr (after (a ∷ b ∷ seen) is found here)
