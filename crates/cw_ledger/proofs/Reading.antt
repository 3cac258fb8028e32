-- A frame, and the payload in it.
use Rattle.std.proofs.Common.{◌≡◌, ℕ, ◌<◌, ◌^◌, ◌==◌, Bool, true, false, cond, List, ◌++◌, None, Some, Ok, Err, refl, ap, ◌∙◌, arith}
use Rattle.std.proofs.lemmas.Bool.{eqb-true}
use Rattle.std.proofs.lemmas.Option.{same_Some}
use Rattle.cw_base.specs.Bytes.{be64}
use Rattle.cw_base.specs.Reading.{Reading, be64_at}
use Rattle.cw_base.specs.ReadsBack.{IsBytes}
use Rattle.cw_base.proofs.ReadingLaws.{be64_reads_back}
use Rattle.cw_ledger.specs.Frames.{behind_height, payload_in}
use Rattle.cw_ledger.specs.Ledger.{frame_of}

-- the payload that is found in a frame is the one that it is written for
pub frame_is : (height : ℕ) (frame payload : List ℕ) → IsBytes frame
    → payload_in height frame ≡ Some payload → frame ≡ frame_of (height, payload)
frame_is height frame payload bytes found = go (be64_at frame) refl found
  where
    go : (r : Reading ℕ) → be64_at frame ≡ r → behind_height height r ≡ Some payload
        → frame ≡ frame_of (height, payload)
    go (Err e) is h = absurd cc
    go (Ok read) is h = by (read.0 == height) refl h
      where
        by : (b : Bool) → (read.0 == height) ≡ b → cond b (Some read.1) None ≡ Some payload
            → frame ≡ frame_of (height, payload)
        by false differs e = absurd cc
        by true same e =
            (be64_reads_back.found frame read.1 read.0 bytes is).0
            ∙ ap (λ n. be64 n ++ read.1) (eqb-true read.0 height same)
            ∙ ap (λ p. be64 height ++ p) (same_Some read.1 payload e)

-- a frame that is written is read as its payload
pub found_again : (height : ℕ) (payload : List ℕ) → height < 2 ^ 64
    → payload_in height (frame_of (height, payload)) ≡ Some payload
found_again height payload fits =
    ap (behind_height height) (be64_reads_back.again height payload fits)
    ∙ ap (λ b. cond b (Some payload) None) (same height)
  where
    same : (n : ℕ) → (n == n) ≡ true
    same n = grind arith
