-- The frames of a log, by how many there are and what a read gives.
use Rattle.std.proofs.Common.{◌≡◌, inl, inr, ℕ, List, [], ◌∷◌, length, take, refl, sym, ◌∙◌, ap, arith}
use Rattle.std.proofs.lemmas.List.{take_at, take_all}
use Rattle.node_disk.specs.Frames.{Finds, FindsWithOrWithout, IsAtRest, frames_in, log_frames_or_none}
use Rattle.node_disk.proofs.AtRest.{finds_at_rest}

pub frames_found : (frames : List (List ℕ)) (count : ℕ) (bytes : List ℕ) → Finds frames bytes
    → count ≡ length frames → frames_in count bytes ≡ frames
unfolding frames_in
frames_found frames count bytes finds counted =
    ap (λ r. take count (log_frames_or_none r)) finds
    ∙ take_all count frames (omega (arith, counted))

-- none of them
pub frames_none : (bytes : List ℕ) → frames_in 0 bytes ≡ []
unfolding frames_in
frames_none bytes = refl

pub frames_rest : (frames : List (List ℕ)) (gate count : ℕ) (bytes : List ℕ)
    → IsAtRest frames gate bytes → count ≡ length frames → frames_in count bytes ≡ frames
frames_rest frames gate count bytes is counted =
    frames_found frames count bytes (finds_at_rest frames gate bytes is) counted

-- with one frame more behind them or without, the first frames are the same
pub frames_stay : (frames : List (List ℕ)) (frame : List ℕ) (count : ℕ) (bytes : List ℕ)
    → FindsWithOrWithout frames frame bytes → count ≡ length frames → frames_in count bytes ≡ frames
unfolding frames_in
frames_stay frames frame count bytes (inl finds) counted =
    frames_found frames count bytes finds counted
frames_stay frames frame count bytes (inr finds) counted =
    ap (λ r. take count (log_frames_or_none r)) finds
    ∙ take_at frames (frame ∷ []) count (sym counted)
