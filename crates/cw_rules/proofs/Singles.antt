-- One epoch without end is the cluster of n members.
use Rattle.std.proofs.Common.{◌≡◌, ℕ, zero, suc, ◌+◌, ◌%◌, ◌<◌, Some, slice_get, unwrap_or, refl, ◌∙◌, ap, arith, length}
use Rattle.std.specs.List.{range_with_len}
use Rattle.std.proofs.lemmas.List.FromFn.{length-range_with_len}
use Rattle.cw_types.specs.Epochs.{leader, members_in, single, size}

pub single_members : (n epoch : ℕ) → members_in (single n) epoch ≡ range_with_len 0 n
single_members n zero = refl
single_members n (suc epoch) = refl

range_at : (low n i : ℕ) → i < n → slice_get (range_with_len low n) i ≡ Some (low + i)
range_at low zero i h = absurd (omega arith)
range_at low (suc n) zero h = ap Some (plus_zero low)
  where
    plus_zero : (a : ℕ) → a ≡ a + 0
    plus_zero a = omega arith
range_at low (suc n) (suc i) h = range_at (low + 1) n i (omega arith) ∙ ap Some (shift low i)
  where
    shift : (a b : ℕ) → (a + 1) + b ≡ a + suc b
    shift a b = omega arith

pub single_size : (n epoch : ℕ) → size (single n) epoch ≡ n
single_size n epoch = ap length (single_members n epoch) ∙ length-range_with_len 0 n

pub single_leader : (n epoch view : ℕ) → 0 < n → leader (single n) epoch view ≡ view % n
single_leader n epoch view pos =
    let less : view % n < n = omega arith in
    ap (λ xs. unwrap_or (slice_get xs (view % length xs)) 0) (single_members n epoch)
    ∙ (ap (λ k. unwrap_or (slice_get (range_with_len 0 n) (view % k)) 0) (length-range_with_len 0 n)
    ∙ (ap (λ o. unwrap_or o 0) (range_at 0 n (view % n) less) ∙ front (view % n)))
  where
    front : (a : ℕ) → 0 + a ≡ a
    front a = omega arith
