-- What refuses a part of a proof or of a chunk refuses the whole, and what is read of the parts is
-- read of the whole.
use Rattle.std.proofs.Common.{◌≡◌, ℕ, List, Result, Ok, Err, refl, sym, ap, subst, ◌∙◌}
use Rattle.std.specs.Result.{IsErrAnd}
use Rattle.cw_base.specs.declared.reader.CodecError.{CodecError}
use Rattle.cw_base.specs.declared.reader.CodecError.TheVariants as codec
use Rattle.cw_base.specs.Reading.{Reading, ◌>>=◌, IsBehind, IsRefused, Gives, be16_at, be32_at}
use Rattle.cw_base.proofs.Behind.{refused_is, refused_made}
use Rattle.cw_tree.specs.Chunks.{Piece}
use Rattle.cw_tree.specs.Formats.{siblings_at, proof_at, shard_at, chunk_at}

-- what a call answers that hands an error on
pub gives_err : {X Y : Type 0} (view : X → Y) (answer : Result X CodecError) (e : CodecError)
    (left : List ℕ) (read : Reading Y)
    → IsErrAnd answer (λ f. f ≡ e) → IsRefused e left read → Gives view answer left read
gives_err view (Ok x) e left read h refused = absurd h
gives_err view (Err f) e left read h refused =
    subst (λ (d : CodecError). IsRefused d left read) (sym h) refused

-- ---- a proof

pub no_leaf_count : (size : ℕ) (bytes left : List ℕ) (e : CodecError)
    → be32_at bytes ≡ Err (e, left) → IsRefused e left (proof_at size bytes)
unfolding proof_at
no_leaf_count size bytes left e h = refused_is e left (proof_at size bytes) (rw h refl)

behind_count : (size : ℕ) (bytes after : List ℕ) (leaf_count : ℕ)
    → be32_at bytes ≡ Ok (leaf_count, after)
    → proof_at size bytes ≡ (siblings_at size after >>= λ x. Ok ((leaf_count, x.0), x.1))
unfolding proof_at
behind_count size bytes after leaf_count h = rw h refl

pub no_siblings : (size : ℕ) (bytes after left : List ℕ) (leaf_count : ℕ) (e : CodecError)
    → be32_at bytes ≡ Ok (leaf_count, after) → IsRefused e left (siblings_at size after)
    → IsRefused e left (proof_at size bytes)
no_siblings size bytes after left leaf_count e h refused =
    subst (λ (r : Reading (ℕ × List (List ℕ))). IsRefused e left r)
    (sym (behind_count size bytes after leaf_count h))
    (refused_made e left (siblings_at size after) (λ x. Ok ((leaf_count, x.0), x.1)) (λ x. refl)
    refused)

pub whole_proof : (size : ℕ) (bytes after left : List ℕ) (leaf_count : ℕ)
    (siblings : List (List ℕ))
    → be32_at bytes ≡ Ok (leaf_count, after) → siblings_at size after ≡ Ok (siblings, left)
    → proof_at size bytes ≡ Ok ((leaf_count, siblings), left)
unfolding proof_at
whole_proof size bytes after left leaf_count siblings h s = rw (h, s) refl

-- ---- a chunk

pub no_shard : (size bound : ℕ) (bytes left : List ℕ) (e : CodecError)
    → shard_at bound bytes ≡ Err (e, left) → IsRefused e left (chunk_at size bound bytes)
unfolding chunk_at
no_shard size bound bytes left e h = refused_is e left (chunk_at size bound bytes) (rw h refl)

pub no_index : (size bound : ℕ) (bytes shard after left : List ℕ) (e : CodecError)
    → shard_at bound bytes ≡ Ok (shard, after) → be16_at after ≡ Err (e, left)
    → IsRefused e left (chunk_at size bound bytes)
unfolding chunk_at
no_index size bound bytes shard after left e s h =
    refused_is e left (chunk_at size bound bytes) (rw (s, h) refl)

-- a chunk of a shard and an index, and of the proof that is read
abbrev piece_with : (shard : List ℕ) (index : ℕ) → (ℕ × List (List ℕ)) × List ℕ
    → Reading (Piece (List ℕ))
piece_with shard index x =
    Ok (record { shard = shard; index = index; leaf_count = x.0.0; siblings = x.0.1 }, x.1)

behind_index : (size bound : ℕ) (bytes shard after behind : List ℕ) (index : ℕ)
    → shard_at bound bytes ≡ Ok (shard, after) → be16_at after ≡ Ok (index, behind)
    → chunk_at size bound bytes ≡ (proof_at size behind >>= piece_with shard index)
unfolding chunk_at
behind_index size bound bytes shard after behind index s i = rw (s, i) refl

pub no_proof : (size bound : ℕ) (bytes shard after behind left : List ℕ) (index : ℕ)
    (e : CodecError)
    → shard_at bound bytes ≡ Ok (shard, after) → be16_at after ≡ Ok (index, behind)
    → IsRefused e left (proof_at size behind) → IsRefused e left (chunk_at size bound bytes)
no_proof size bound bytes shard after behind left index e s i refused =
    subst (λ (r : Reading (Piece (List ℕ))). IsRefused e left r)
    (sym (behind_index size bound bytes shard after behind index s i))
    (refused_made e left (proof_at size behind) (piece_with shard index) (λ x. refl) refused)

-- a whole chunk stands there, which there is no memory for
pub no_room : (size bound : ℕ) (bytes shard after behind left : List ℕ) (index : ℕ)
    (p : ℕ × List (List ℕ))
    → shard_at bound bytes ≡ Ok (shard, after) → be16_at after ≡ Ok (index, behind)
    → proof_at size behind ≡ Ok (p, left)
    → IsRefused codec.NoMemory left (chunk_at size bound bytes)
no_room size bound bytes shard after behind left index p s i h =
    subst (λ (r : Reading (Piece (List ℕ))). IsBehind r left)
    (sym
    (behind_index size bound bytes shard after behind index s i
    ∙ ap (λ (r : Reading (ℕ × List (List ℕ))). r >>= piece_with shard index) h))
    refl
