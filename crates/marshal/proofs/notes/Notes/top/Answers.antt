use Rattle.std.proofs.Common.{◌≡◌, ◌∙◌, ◌<◌, ◌≤◌, IfSome, ℕ, Some, option_and_then, slice_get, subst, sym, take}
use Rattle.std.specs.List.{AllByRecursion}
use Rattle.marshal.specs.Bare.{bare}
use Rattle.marshal.specs.Finding.{final_block}
use Rattle.marshal.proofs.Searching.{highest_at}
use Rattle.marshal.proofs.notes.Notes.top.Goals as goal

pub returns-then-height-clause-block : goal.returns-then-height-clause-block
returns-then-height-clause-block g c =
    let notes = c.args.self.now in
    let place = c.reach_from-place.result in
    let b = c.in_ok-found.found.block.now in
    let same : c.in_ok-height.height ≡ b.height = sym c.if-height.true ∙ c.height.ensures.value in
    let at : option_and_then (final_block (bare g.H.Hasher.digest_of) notes) (slice_get notes place)
    ≡ Some b =
    sym c.in_ok-found.ensures.block in
    sym
    (highest_at (final_block (bare g.H.Hasher.digest_of) notes) place notes b at
    (subst
    (λ (n : ℕ). AllByRecursion
    (λ note. IfSome (final_block (bare g.H.Hasher.digest_of) notes note) (λ x. x.height < n))
    (take place notes))
    same c.reach_from-place.ensures.low)
    (subst
    (λ (n : ℕ). AllByRecursion
    (λ note. IfSome (final_block (bare g.H.Hasher.digest_of) notes note) (λ x. x.height ≤ n))
    notes)
    same c.in_ok-height.ensures))
