-- What is left of an encoding.
use Rattle.std.proofs.Common.{◌≡◌, ℕ, ◌+◌, ◌<◌, List, length, drop, map, get_or, All, refl, sym, ap, subst, ◌∙◌, arith, length-drop}
use Rattle.std.proofs.lemmas.List.{get_or-drop}
use Rattle.std.proofs.lemmas.List.Elements.{All-map}
use Rattle.cw_base.specs.Counts.{Counts}
use Rattle.cw_base.specs.declared.hash.Digest32.{Digest32}
use Rattle.cw_base.proofs.Listed.{length-listed}
use Rattle.cw_tree.specs.Chunks.{Piece}
use Rattle.cw_coding.specs.Encoding.{IsEncoding, piece_of}
use Rattle.cw_coding.specs.Laws.{IsChunkOf}
use Rattle.cw_coding.specs.Totals.{total_of}
use Rattle.cw_coding.proofs.CheckingLaws.{listed_at}
use Rattle.use_coding.specs.Checked.{checked_under, hash}

one_left : (c : Counts) (text : List ℕ) (root : Digest32) (pieces : List (Piece Digest32))
    → IsEncoding hash (λ d. d.0) c text root pieces → (n i : ℕ) (d : Piece Digest32)
    → i < length (drop n pieces)
    → IsChunkOf c text root (checked_under root (get_or (drop n pieces) i d))
one_left c text root pieces e n i d l =
    let piece : ℕ → Piece Digest32 = piece_of hash (λ d. d.0) c text in
    let long : length pieces ≡ total_of c = ap length e.each ∙ length-listed (total_of c) piece in
    let within : n + i < total_of c = omega (arith, length-drop n pieces, long, l) in
    let is : get_or (drop n pieces) i d ≡ piece (n + i) =
    get_or-drop n pieces i d
    ∙ (ap (λ (xs : List (Piece Digest32)). get_or xs (n + i) d) e.each
    ∙ listed_at (total_of c) piece (n + i) d within) in
    let it : IsChunkOf c text root (checked_under root (piece (n + i))) =
    record { rooted = refl; within = within; row = refl } in
    subst (λ (p : Piece Digest32). IsChunkOf c text root (checked_under root p)) (sym is) it

-- the chunks from an index on are chunks of the text, once they are checked
pub all_left : (c : Counts) (text : List ℕ) (root : Digest32) (pieces : List (Piece Digest32))
    → IsEncoding hash (λ d. d.0) c text root pieces → (n : ℕ)
    → All (IsChunkOf c text root) (map (checked_under root) (drop n pieces))
all_left c text root pieces e n =
    All-map (IsChunkOf c text root) (checked_under root) (drop n pieces)
    (λ i d l. one_left c text root pieces e n i d l)
