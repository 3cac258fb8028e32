-- Reading digests one behind the other, as a loop does.
use Rattle.std.proofs.Common.{◌≡◌, ℕ, suc, ◌-◌, ◌+◌, ◌≤◌, ◌<◌, List, [], ◌∷◌, ◌++◌, Ok, Err, refl, sym, ap, subst, ◌∙◌, append_assoc, arith}
use Rattle.std.proofs.lemmas.List.{append-nil}
use Rattle.cw_base.specs.declared.reader.CodecError.{CodecError}
use Rattle.cw_base.specs.Reading.{Reading, ◌>>=◌, IsRefused, bytes_at}
use Rattle.cw_base.proofs.Behind.{refused_is, refused_made}
use Rattle.cw_tree.specs.Formats.{digests_at}

-- what was read before, and what is still read
abbrev pub with_front : List (List ℕ) → Reading (List (List ℕ)) → Reading (List (List ℕ))
with_front front read = read >>= λ x. Ok (front ++ x.0, x.1)

regroup : (front : List (List ℕ)) (d : List ℕ) (read : Reading (List (List ℕ)))
    → with_front front (read >>= λ x. Ok (d ∷ x.0, x.1)) ≡ with_front (front ++ d ∷ []) read
regroup front d (Ok x) = ap (λ (ds : List (List ℕ)). Ok (ds, x.1)) (simp append_assoc)
regroup front d (Err f) = refl

-- nothing was read before
pub begins : (front : List (List ℕ)) (read : Reading (List (List ℕ))) → front ≡ []
    → with_front front read ≡ read
begins front read none = rw none (itself read)
  where
    itself : (r : Reading (List (List ℕ))) → with_front [] r ≡ r
    itself (Ok x) = refl
    itself (Err e) = refl

pub goes_on : (size : ℕ) (front : List (List ℕ)) (count i : ℕ) (bytes d after : List ℕ)
    (total : Reading (List (List ℕ)))
    → i < count → bytes_at size bytes ≡ Ok (d, after)
    → with_front front (digests_at size (count - i) bytes) ≡ total
    → with_front (front ++ d ∷ []) (digests_at size (count - (i + 1)) after) ≡ total
goes_on size front count i bytes d after total lt h so_far =
    let k : count - i ≡ suc (count - (i + 1)) = omega arith in
    let one : with_front front (digests_at size (count - i) bytes)
    ≡ with_front (front ++ d ∷ []) (digests_at size (count - (i + 1)) after) =
    rw (k, h) (regroup front d (digests_at size (count - (i + 1)) after)) in
    sym one ∙ so_far

pub ends : (size : ℕ) (e : CodecError) (front : List (List ℕ)) (count i : ℕ) (bytes left : List ℕ)
    (total : Reading (List (List ℕ)))
    → i < count → bytes_at size bytes ≡ Err (e, left)
    → with_front front (digests_at size (count - i) bytes) ≡ total → IsRefused e left total
ends size e front count i bytes left total lt h so_far =
    let k : count - i ≡ suc (count - (i + 1)) = omega arith in
    let one : with_front front (digests_at size (count - i) bytes) ≡ Err (e, left) =
    rw (k, h) refl in
    refused_is e left total (sym so_far ∙ one)

-- ---- what is skipped for want of memory

-- a digest was read, and one behind it is refused, or memory for them
pub refused_more : (size count i : ℕ) (bytes d after left : List ℕ) (e : CodecError) → i < count
    → bytes_at size bytes ≡ Ok (d, after)
    → IsRefused e left (digests_at size (count - (i + 1)) after)
    → IsRefused e left (digests_at size (count - i) bytes)
refused_more size count i bytes d after left e lt h more =
    let k : count - i ≡ suc (count - (i + 1)) = omega arith in
    rw (k, h)
    (refused_made e left (digests_at size (count - (i + 1)) after) (λ x. Ok (d ∷ x.0, x.1))
    (λ x. refl) more)

-- the next one is refused
pub refused_here : (size count i : ℕ) (bytes left : List ℕ) (e : CodecError) → i < count
    → bytes_at size bytes ≡ Err (e, left) → IsRefused e left (digests_at size (count - i) bytes)
refused_here size count i bytes left e lt h =
    let k : count - i ≡ suc (count - (i + 1)) = omega arith in
    refused_is e left (digests_at size (count - i) bytes) (rw (k, h) refl)

-- what refuses those that are skipped refuses them all
pub refused_all : (size : ℕ) (e : CodecError) (front : List (List ℕ)) (count i : ℕ)
    (bytes d after left : List ℕ) (total : Reading (List (List ℕ)))
    → i < count → bytes_at size bytes ≡ Ok (d, after)
    → with_front front (digests_at size (count - i) bytes) ≡ total
    → IsRefused e left (digests_at size (count - i - 1) after) → IsRefused e left total
refused_all size e front count i bytes d after left total lt h so_far skip =
    let n : count - i - 1 ≡ count - (i + 1) = omega arith in
    let more : IsRefused e left (digests_at size (count - (i + 1)) after) = rw n at skip in
    let here = refused_more size count i bytes d after left e lt h more in
    subst (λ (r : Reading (List (List ℕ))). IsRefused e left r) so_far
    (refused_made e left (digests_at size (count - i) bytes) (λ x. Ok (front ++ x.0, x.1))
    (λ x. refl) here)

pub is_done : (size : ℕ) (front : List (List ℕ)) (count i : ℕ) (bytes : List ℕ)
    (total : Reading (List (List ℕ)))
    → count ≤ i → with_front front (digests_at size (count - i) bytes) ≡ total
    → total ≡ Ok (front, bytes)
is_done size front count i bytes total le so_far =
    let k : count - i ≡ 0 = omega arith in
    let one : with_front front (digests_at size (count - i) bytes) ≡ Ok (front, bytes) =
    rw k (ap (λ (ds : List (List ℕ)). Ok (ds, bytes)) (append-nil front)) in
    sym so_far ∙ one
