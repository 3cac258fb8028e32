-- What a crash leaves of a disk on which device calls are made, call by call.
use Rattle.std.proofs.Common.{◌≡◌, ◌⊎◌, inl, inr, ⊎_elim, ℕ, ◌<◌, ◌≤◌, List, [], ◌∷◌, ◌++◌, length, get_or, true, sym, ◌∙◌, ap, subst, arith, append_assoc}
use Rattle.node_disk.specs.Images.{Moment, IsImage, Untouched, HadImage}
use Rattle.node_disk.specs.Disk.{DiskState, DeviceCall, Wrote, Synced, LeftSince, LeavesOnly, HasFailedToWrite, HasFailedToSync}
use Rattle.node_disk.specs.Made.{last_moment, moments_before, HasMade}
use Rattle.node_disk.specs.HostLaws.{last_append, before_append}
use Rattle.node_disk.proofs.Compose.{had_append, only_since}
use Rattle.node_disk.proofs.WriteSync.{length_put_at, unsynced_image}

-- an image that was left before some of these moments, or now
abbrev pub Leaves : Moment → List DeviceCall → List ℕ → Type 0
Leaves moment calls image =
    HadImage (moments_before moment calls) image ⊎ IsImage (last_moment moment calls) image

had_front : (xs ys : List Moment) (image : List ℕ) → HadImage xs image → HadImage (xs ++ ys) image
had_front [] ys image had = absurd had
had_front (x ∷ xs) ys image (inl here) = inl here
had_front (x ∷ xs) ys image (inr there) = inr (had_front xs ys image there)

had_behind : (xs ys : List Moment) (image : List ℕ) → HadImage ys image → HadImage (xs ++ ys) image
had_behind [] ys image had = had
had_behind (x ∷ xs) ys image had = inr (had_behind xs ys image had)

-- what device calls leave is what is left of the disk since
pub leaves_made : (calls : List DeviceCall) (old new : DiskState) → HasMade calls old new
    → (image : List ℕ) → LeftSince new (length old.past) image → Leaves old.now calls image
leaves_made calls old new made image (inl had) =
    inl
    (subst (λ (l : List Moment). HadImage l image)
    (only_since old new (moments_before old.now calls) made.past) had)
leaves_made calls old new made image (inr is) =
    inr (subst (λ (m : Moment). IsImage m image) made.now is)

pub made_leaves : (calls : List DeviceCall) (old new : DiskState) → HasMade calls old new
    → (image : List ℕ) → Leaves old.now calls image → LeftSince new (length old.past) image
made_leaves calls old new made image (inl had) =
    inl
    (subst (λ (l : List Moment). HadImage l image)
    (sym (only_since old new (moments_before old.now calls) made.past)) had)
made_leaves calls old new made image (inr is) =
    inr (subst (λ (m : Moment). IsImage m image) (sym made.now) is)

pub only_made : (calls : List DeviceCall) (old new : DiskState) (P : List ℕ → Type 0)
    → HasMade calls old new → ((image : List ℕ) → Leaves old.now calls image → P image)
    → LeavesOnly old new P
only_made calls old new P made only =
    record {
      since = moments_before old.now calls;
      past = made.past;
      left = λ image left. only image (leaves_made calls old new made image left);
    }

-- the first of them leave nothing else
pub front_leaves : (moment : Moment) (did rest : List DeviceCall) (image : List ℕ)
    → Leaves moment did image → Leaves moment (did ++ rest) image
front_leaves moment did rest image (inl had) =
    inl
    (subst (λ (l : List Moment). HadImage l image) (sym (before_append moment did rest))
    (had_front (moments_before moment did) (moments_before (last_moment moment did) rest) image
    had))
front_leaves moment did [] image (inr is) =
    inr
    (subst (λ (m : Moment). IsImage m image) (sym (last_append moment did [])) is)
front_leaves moment did (call ∷ rest) image (inr is) =
    inl
    (subst (λ (l : List Moment). HadImage l image) (sym (before_append moment did (call ∷ rest)))
    (had_behind (moments_before moment did)
    (moments_before (last_moment moment did) (call ∷ rest)) image (inl is)))

-- one of two runs
pub leaves_append : (moment : Moment) (first second : List DeviceCall) (image : List ℕ)
    → Leaves moment (first ++ second) image
    → Leaves moment first image ⊎ Leaves (last_moment moment first) second image
leaves_append moment first second image (inl had) =
    ⊎_elim (λ l. inl (inl l)) (λ r. inr (inl r))
    (had_append (moments_before moment first)
    (moments_before (last_moment moment first) second) image
    (subst (λ (l : List Moment). HadImage l image) (before_append moment first second) had))
leaves_append moment first second image (inr is) =
    inr
    (inr (subst (λ (m : Moment). IsImage m image) (last_append moment first second) is))

-- another disk that stood at the same moment, where a front of the calls was made
pub stopped_leaves : (did rest : List DeviceCall) (old new file stopped : DiskState)
    → HasMade (did ++ rest) old new → HasMade did file stopped → file.now ≡ old.now
    → (image : List ℕ) → LeftSince stopped (length file.past) image
    → LeftSince new (length old.past) image
stopped_leaves did rest old new file stopped all front same image left =
    made_leaves (did ++ rest) old new all image
    (front_leaves old.now did rest image
    (subst (λ (m : Moment). Leaves m did image) same
    (leaves_made did file stopped front image left)))

-- and the next one failed there
module _ (did rest : List DeviceCall) (next : DeviceCall) (old new file stopped broken : DiskState)
    (all : HasMade (did ++ next ∷ rest) old new) (front : HasMade did file stopped)
    (same : file.now ≡ old.now) (past : broken.past ≡ stopped.past ++ stopped.now ∷ [])
    (now : (image : List ℕ) → IsImage broken.now image
    → Leaves stopped.now (next ∷ []) image) where
  moved : (image : List ℕ) → Leaves stopped.now (next ∷ []) image
      → Leaves old.now (did ++ next ∷ rest) image
  moved image left =
      let there : last_moment old.now did ≡ stopped.now =
      ap (λ (m : Moment). last_moment m did) (sym same) ∙ sym front.now in
      let whole : did ++ next ∷ rest ≡ (did ++ next ∷ []) ++ rest =
      sym (append_assoc did (next ∷ []) rest) in
      subst (λ (l : List DeviceCall). Leaves old.now l image) (sym whole)
      (front_leaves old.now (did ++ next ∷ []) rest image
      (behind image (subst (λ (m : Moment). Leaves m (next ∷ []) image) (sym there) left)))
    where
      behind : (image : List ℕ) → Leaves (last_moment old.now did) (next ∷ []) image
          → Leaves old.now (did ++ next ∷ []) image
      behind image (inl had) =
          inl
          (subst (λ (l : List Moment). HadImage l image)
          (sym (before_append old.now did (next ∷ [])))
          (had_behind (moments_before old.now did)
          (moments_before (last_moment old.now did) (next ∷ [])) image had))
      behind image (inr is) =
          inr
          (subst (λ (m : Moment). IsImage m image) (sym (last_append old.now did (next ∷ [])))
          is)

  pub broken_leaves : (image : List ℕ) → LeftSince broken (length file.past) image
      → LeftSince new (length old.past) image
  broken_leaves image left = made_leaves (did ++ next ∷ rest) old new all image (either left)
    where
      since : broken.past ≡ file.past ++ (moments_before file.now did ++ stopped.now ∷ [])
      since =
          past ∙ ap (λ (l : List Moment). l ++ stopped.now ∷ []) front.past
          ∙ append_assoc file.past (moments_before file.now did) (stopped.now ∷ [])

      either : LeftSince broken (length file.past) image
          → Leaves old.now (did ++ next ∷ rest) image
      either (inr is) = moved image (now image is)
      either (inl had) =
          ⊎_elim
          (λ l. front_leaves old.now did (next ∷ rest) image
          (inl
          (subst (λ (m : Moment). HadImage (moments_before m did) image) same l)))
          (λ r. moved image (inl r))
          (had_append (moments_before file.now did) (stopped.now ∷ []) image
          (subst (λ (l : List Moment). HadImage l image)
          (only_since file broken (moments_before file.now did ++ stopped.now ∷ []) since)
          had))

-- a call that failed leaves no image that it doesn't leave where it is made
pub failed_write : (place : ℕ) (bytes : List ℕ) (stopped broken : DiskState)
    → place ≤ length stopped.now.seen → HasFailedToWrite place bytes stopped broken
    → (image : List ℕ) → IsImage broken.now image
    → Leaves stopped.now (Wrote place bytes true ∷ []) image
failed_write place bytes stopped broken inside failed image is = inr (record {
  no_shorter = subst (λ (l : List ℕ). length l ≤ length image) failed.synced is.no_shorter;
  no_longer =
      omega (
        arith,
        is.no_longer,
        failed.seen.no_longer,
        length_put_at stopped.now.seen place bytes inside,
      );
  same =
      λ k lt out. is.same k (subst (λ (l : List ℕ). k < length l) (sym failed.synced) lt)
      (subst (λ (rs : List (ℕ × ℕ)). Untouched rs k) (sym failed.ranges) out)
      ∙ ap (λ (l : List ℕ). get_or l k 0) failed.synced;
})

pub failed_sync : (stopped broken : DiskState) → HasFailedToSync stopped broken
    → (image : List ℕ) → IsImage broken.now image → Leaves stopped.now (Synced true ∷ []) image
failed_sync stopped broken failed image is =
    inl (inl (unsynced_image stopped broken failed image is))
