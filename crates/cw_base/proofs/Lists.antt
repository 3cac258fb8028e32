-- Lists that are read from the front.
use Rattle.std.proofs.Common.{◌≡◌, ℕ, ◌≤◌, List, ◌++◌, length, take, drop, sym}
use Rattle.std.proofs.lemmas.List.{take-append-drop, take_at, length-take-le}

-- n bytes of left were put in front of room, and the rest of left follows them
pub read_front : (left front room rest : List ℕ) (n : ℕ) → front ≡ take n left → rest ≡ drop n left
    → n ≤ length left → left ≡ take n (front ++ room) ++ rest
read_front left front room rest n f r h =
    rw (f, r, take_at (take n left) room n (length-take-le n left h))
    (sym (take-append-drop n left))
