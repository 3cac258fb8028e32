-- Reading numbers one behind the other, as a loop does.
use Rattle.std.proofs.Common.{◌≡◌, ℕ, suc, ◌-◌, ◌+◌, ◌<◌, List, [], ◌∷◌, ◌++◌, Ok, Err, refl, sym}
use Rattle.std.proofs.Common.{ap, subst, ◌∙◌, append_assoc, arith}
use Rattle.cw_base.specs.declared.reader.CodecError.{CodecError}
use Rattle.cw_base.specs.Reading.{Reading, ◌>>=◌, IsRefused, be16_at}
use Rattle.cw_base.proofs.Behind.{refused_is, refused_made}
use Rattle.cw_types.specs.Reading.{signers_at}

-- what was read before, and what is still read
abbrev pub with_front : List ℕ → Reading (List ℕ) → Reading (List ℕ)
with_front front read = read >>= λ x. Ok (front ++ x.0, x.1)

regroup : (front : List ℕ) (d : ℕ) (read : Reading (List ℕ))
    → with_front front (read >>= λ x. Ok (d ∷ x.0, x.1)) ≡ with_front (front ++ d ∷ []) read
regroup front d (Ok x) = ap (λ (ds : List ℕ). Ok (ds, x.1)) (simp append_assoc)
regroup front d (Err f) = refl

pub goes_on : (front : List ℕ) (count i : ℕ) (bytes : List ℕ) (d : ℕ) (after : List ℕ)
    (total : Reading (List ℕ))
    → i < count → be16_at bytes ≡ Ok (d, after)
    → with_front front (signers_at (count - i) bytes) ≡ total
    → with_front (front ++ d ∷ []) (signers_at (count - (i + 1)) after) ≡ total
goes_on front count i bytes d after total lt h so_far =
    let k : count - i ≡ suc (count - (i + 1)) = omega arith in
    let one : with_front front (signers_at (count - i) bytes)
    ≡ with_front (front ++ d ∷ []) (signers_at (count - (i + 1)) after) =
    rw (k, h) (regroup front d (signers_at (count - (i + 1)) after)) in
    sym one ∙ so_far

pub ends : (e : CodecError) (front : List ℕ) (count i : ℕ) (bytes left : List ℕ)
    (total : Reading (List ℕ))
    → i < count → be16_at bytes ≡ Err (e, left)
    → with_front front (signers_at (count - i) bytes) ≡ total → IsRefused e left total
ends e front count i bytes left total lt h so_far =
    let k : count - i ≡ suc (count - (i + 1)) = omega arith in
    let one : with_front front (signers_at (count - i) bytes) ≡ Err (e, left) = rw (k, h) refl in
    refused_is e left total (sym so_far ∙ one)

-- ---- what is skipped for want of memory

-- a number was read, and one behind it is refused, or memory for them
pub refused_more : (count i : ℕ) (bytes : List ℕ) (d : ℕ) (after left : List ℕ) (e : CodecError)
    → i < count → be16_at bytes ≡ Ok (d, after)
    → IsRefused e left (signers_at (count - (i + 1)) after)
    → IsRefused e left (signers_at (count - i) bytes)
refused_more count i bytes d after left e lt h more =
    let k : count - i ≡ suc (count - (i + 1)) = omega arith in
    rw (k, h)
    (refused_made e left (signers_at (count - (i + 1)) after) (λ x. Ok (d ∷ x.0, x.1))
    (λ x. refl) more)

-- the next one is refused
pub refused_here : (count i : ℕ) (bytes left : List ℕ) (e : CodecError) → i < count
    → be16_at bytes ≡ Err (e, left) → IsRefused e left (signers_at (count - i) bytes)
refused_here count i bytes left e lt h =
    let k : count - i ≡ suc (count - (i + 1)) = omega arith in
    refused_is e left (signers_at (count - i) bytes) (rw (k, h) refl)

-- what refuses those that are skipped refuses them all
pub refused_all : (e : CodecError) (front : List ℕ) (count i : ℕ) (bytes : List ℕ) (d : ℕ)
    (after left : List ℕ) (total : Reading (List ℕ))
    → i < count → be16_at bytes ≡ Ok (d, after)
    → with_front front (signers_at (count - i) bytes) ≡ total
    → IsRefused e left (signers_at (count - i - 1) after) → IsRefused e left total
refused_all e front count i bytes d after left total lt h so_far skip =
    let n : count - i - 1 ≡ count - (i + 1) = omega arith in
    let more : IsRefused e left (signers_at (count - (i + 1)) after) = rw n at skip in
    let here = refused_more count i bytes d after left e lt h more in
    subst (λ (r : Reading (List ℕ)). IsRefused e left r) so_far
    (refused_made e left (signers_at (count - i) bytes) (λ x. Ok (front ++ x.0, x.1))
    (λ x. refl) here)
