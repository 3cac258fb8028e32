-- What the statuses mean, in words.
use Rattle.std.specs.Prelude.{ℕ, List, [], ◌∷◌, codes, get_or}

-- the texts of the statuses from 0 on
abbrev pub status_texts : List (List ℕ)
status_texts =
    codes "ok"
    ∷ codes "out of memory"
    ∷ codes "k and m must be at least 1"
    ∷ codes "more than 65535 shards"
    ∷ codes "text or shards too long"
    ∷ codes "buffer too small"
    ∷ codes "not a chunk"
    ∷ codes "another chunk's index"
    ∷ codes "invalid shard width"
    ∷ codes "invalid proof"
    ∷ codes "not enough chunks"
    ∷ codes "duplicate chunk"
    ∷ codes "inconsistent chunks"
    ∷ codes "chunk of another root"
    ∷ []

-- the text of a status
abbrev pub status_text : ℕ → List ℕ
status_text status = get_or status_texts status (codes "unknown status")
