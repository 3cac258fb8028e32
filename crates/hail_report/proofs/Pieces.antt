-- A text that goes out in pieces.
use Rattle.std.proofs.Common.{ℕ, ◌+◌, ◌-◌, List, length, take, drop, Option, Some, None, sym, ◌∙◌, append_assoc}
use Rattle.std.proofs.lemmas.List.{take-append-drop, take_rest}
use Rattle.std.proofs.Math.Seq.{take-add}
use Rattle.std.specs.Io.KnownBytes.{Appends, Keeps}
use Rattle.hail_report.specs.Writing.{WritesFront}

-- the next piece went out
pub piece_more : (a b c : Option (List ℕ)) (text : List ℕ) (at n : ℕ) → Appends a b (take at text)
    → Appends b c (take n (take (length text - at) (drop at text)))
    → Appends a c (take (at + n) text)
piece_more None b c text at n h k = tt
piece_more (Some xs) None c text at n h k = absurd h
piece_more (Some xs) (Some ys) None text at n h k = absurd k
piece_more (Some xs) (Some ys) (Some zs) text at n h k =
    k
    ∙ rw (h, take_rest text at, take-add at n text)
    (append_assoc xs (take at text) (take n (drop at text)))

-- the front that went out, where no more does
pub piece_last : (a b c : Option (List ℕ)) (text : List ℕ) (at : ℕ) → Appends a b (take at text)
    → Keeps b c → WritesFront a c text
piece_last a b c text at h k =
    record {
      front = take at text;
      rest = drop at text;
      parts = sym (take-append-drop at text);
      wrote = kept a b c (take at text) h k;
    }
  where
    kept : (a b c : Option (List ℕ)) (front : List ℕ) → Appends a b front → Keeps b c
        → Appends a c front
    kept None b c front h k = tt
    kept (Some xs) None c front h k = absurd h
    kept (Some xs) (Some ys) None front h k = absurd k
    kept (Some xs) (Some ys) (Some zs) front h k = k ∙ h
