use Rattle.std.proofs.Common.{◌≡◌, ℕ, ◌<◌, [], List, map, ◌∙◌, ap, sym, get_or, take, slice_index}
use Rattle.rs_code.specs.Rows.{code_row}
use Rattle.coding_c.specs.declared.shards.Span.{Span}
use Rattle.coding_c.proofs.Buffers.{end_joined}
use Rattle.coding_c.proofs.shards.rebuilt.Goals as goal

abbrev all : List Span → List (List ℕ)
all shards = map (λ (s : Span). s.bytes.now) shards

pub returns-in-Ok-rebuild_here-clause-codeword : goal.returns-in-Ok-rebuild_here-clause-codeword
returns-in-Ok-rebuild_here-clause-codeword c originals are =
    let plan = c.in-Ok.ensures.0 in
    let row : ℕ → List ℕ = λ s.
    code_row c.args.k originals c.args.width (slice_index (take c.args.k c.args.indices.now) s)
    in
    let same : (s : ℕ) → s < c.args.k → get_or (all c.args.shards.now) s [] ≡ row s = λ s l.
    are s l
    ∙ ap
    (λ (w : ℕ). code_row c.args.k originals w (slice_index (take c.args.k c.args.indices.now) s))
    (sym c.requires.width) in
    (rw plan at c.in-Ok-rebuild_here.ensures.codeword) originals
    (c.deref.ensures.value ∙ c.in-Ok-gathered.ensures.value
    ∙ end_joined c.args.k (all c.args.shards.now) row c.requires.shards.enough same)
