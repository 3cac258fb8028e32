-- One frame more on the log of a replica.
use Rattle.std.proofs.Common.{◌≡◌, inl, inr, ℕ, ◌+◌, ◌<◌, ◌^◌, List, [], ◌∷◌, ◌++◌, length, Ok, refl, sym, ap, ◌∙◌, arith, length-append}
use Rattle.node_disk.proofs.Compose.{stays, weakens}
use Rattle.node_disk.specs.Disk.{DiskState, LeavesOnly}
use Rattle.node_disk.specs.Frames.{Finds, FindsWithOrWithout}
use Rattle.node_disk.specs.Images.{Moment}
use Rattle.node_disk.specs.Log.{IsBeforeOrSame, HasSettled, with_frame}
use Rattle.node_disk.proofs.AtRest.{settled_images}
use Rattle.cw_base.specs.Bytes.{be64}
use Rattle.cw_base.proofs.Lengths.{length-be64}
use Rattle.cw_ledger.specs.Frames.{FindsEither, FindsPayloads, IsBeforeOrPayloads, payload_in, payloads_from, payloads_of}
use Rattle.cw_ledger.specs.Kept.{KeepBalances, amount_in, kept_payloads, payloads_or_none}
use Rattle.cw_ledger.specs.Ledger.{frame_of, payload_frames}
use Rattle.cw_ledger.specs.Transfers.{balances, moved_all, transfers}
use Rattle.cw_ledger.proofs.Loading.{as_many, frames_more, one_more}
use Rattle.cw_ledger.proofs.Moving.{balances_more, moved_all_same}
use Rattle.cw_ledger.proofs.Reading.{found_again}

-- ---- what a log's images show

pub finds_payloads : (frames payloads : List (List ℕ)) (image : List ℕ)
    → payloads_from 0 0 frames ≡ Ok payloads → Finds frames image → FindsPayloads payloads image
finds_payloads frames payloads image found finds = ap payloads_of finds ∙ found

pub before_or_found : (moment : Moment) (image : List ℕ) → IsBeforeOrSame moment image
    → IsBeforeOrPayloads moment image
before_or_found moment image (inl is) = inl is
before_or_found moment image (inr same) = inr (ap payloads_of same)

pub starts_so : (old new : DiskState) → LeavesOnly old new (IsBeforeOrSame old.now)
    → LeavesOnly old new (IsBeforeOrPayloads old.now)
starts_so old new left =
    weakens old new (IsBeforeOrSame old.now) (IsBeforeOrPayloads old.now) (before_or_found old.now)
    left

-- nothing was done to the disk
pub stays_found : (frames payloads others : List (List ℕ)) (gate : ℕ) (disk : DiskState)
    → payloads_from 0 0 frames ≡ Ok payloads → HasSettled frames gate disk.now
    → LeavesOnly disk disk (FindsEither payloads others)
stays_found frames payloads others gate disk found settled =
    stays disk disk (FindsEither payloads others) (record { now = refl; past = refl; calls = refl })
    (λ image is. inl
    (finds_payloads frames payloads image found
    (settled_images frames gate disk.now settled image is)))

-- ---- a payload more

long_frame : (height : ℕ) (payload : List ℕ) → 0 < length (frame_of (height, payload))
long_frame height payload = omega (arith, length-append (be64 height) payload, length-be64 height)

added : (frames : List (List ℕ)) (frame : List ℕ) → 0 < length frame
    → with_frame frames frame ≡ frames ++ frame ∷ []
added frames [] none = absurd (omega arith)
added frames (b ∷ bs) long = refl

-- how a replica stands once its log has the frame
pub record IsAdded (frames more : List (List ℕ)) (payload : List ℕ)
    (entries : List (ℕ × ℕ)) : Type 0 where
  pub kept_more : KeepBalances more entries
  pub payloads : kept_payloads more ≡ kept_payloads frames ++ payload ∷ []

module _ (frames : List (List ℕ)) (entries : List (ℕ × ℕ)) (are : KeepBalances frames entries)
    (payload : List ℕ) (fits : length frames < 2 ^ 64) where
  abbrev frame : List ℕ
  frame = frame_of (length frames, payload)

  pub found_more : payloads_from 0 0 (frames ++ frame ∷ [])
      ≡ Ok (kept_payloads frames ++ payload ∷ [])
  found_more =
      one_more 0 0 frames (kept_payloads frames) frame payload are.found
      (ap (λ n. payload_in n frame)
      (let z : 0 + length frames ≡ length frames = omega arith in z)
      ∙ found_again (length frames) payload fits)

  pub any_moment : (old new : DiskState) → LeavesOnly old new (FindsWithOrWithout frames frame)
      → LeavesOnly old new
      (FindsEither (kept_payloads frames) (kept_payloads frames ++ payload ∷ []))
  any_moment old new left =
      weakens old new (FindsWithOrWithout frames frame)
      (FindsEither (kept_payloads frames) (kept_payloads frames ++ payload ∷ []))
      (λ image found. in_payloads image found) left
    where
      in_payloads : (image : List ℕ) → FindsWithOrWithout frames frame image
          → FindsEither (kept_payloads frames) (kept_payloads frames ++ payload ∷ []) image
      in_payloads image (inl finds) =
          inl (finds_payloads frames (kept_payloads frames) image are.found finds)
      in_payloads image (inr finds) =
          inr
          (finds_payloads (frames ++ frame ∷ []) (kept_payloads frames ++ payload ∷ []) image
          found_more finds)

  module _ (more : List (List ℕ)) (more_is : more ≡ with_frame frames frame) where
    more_are : more ≡ frames ++ frame ∷ []
    more_are = more_is ∙ added frames frame (long_frame (length frames) payload)

    found_there : payloads_from 0 0 more ≡ Ok (kept_payloads frames ++ payload ∷ [])
    found_there = ap (payloads_from 0 0) more_are ∙ found_more

    pub payloads_are : kept_payloads more ≡ kept_payloads frames ++ payload ∷ []
    payloads_are = ap payloads_or_none found_there

    pub found_kept : payloads_from 0 0 more ≡ Ok (kept_payloads more)
    found_kept = found_there ∙ ap Ok (sym payloads_are)

    pub written_more : more ≡ payload_frames (kept_payloads more)
    written_more =
        more_are ∙ ap (λ fs. fs ++ frame ∷ []) are.written
        ∙ ap (λ n. payload_frames (kept_payloads frames) ++ frame_of (n, payload) ∷ [])
        (sym (as_many frames entries are))
        ∙ sym (frames_more (kept_payloads frames) payload) ∙ ap payload_frames (sym payloads_are)

    pub are_kept : (room passed : List (ℕ × ℕ)) → ((a : ℕ) → amount_in room a ≡ amount_in entries a)
        → ((a : ℕ) → amount_in passed a ≡ moved_all (amount_in room) (transfers payload) a)
        → KeepBalances more passed
    are_kept room passed same moves = record {
      found = found_kept;
      written = written_more;
      balanced =
          λ a. moves a
          ∙ moved_all_same (amount_in room) (balances (kept_payloads frames)) (transfers payload)
          (λ b. same b ∙ are.balanced b) a
          ∙ sym (balances_more (kept_payloads frames) payload a)
          ∙ ap (λ ps. balances ps a) (sym payloads_are);
    }
