use Rattle.std.proofs.Common.{◌∙◌, ◌-◌, List, ℕ, ap, length, slice_get}
use Rattle.marshal.specs.Bare.{bare}
use Rattle.marshal.proofs.Reaching.{low_top}
use Rattle.marshal.proofs.notes.Notes.reach_top.Goals as goal

pub returns : goal.returns
returns g c =
    rw (← c.self.view_is)
    (low_top (bare g.H.Hasher.digest_of) c.self.inside.notes.items c.self.inside.reach.items
    c.self.invariant.reaching c.copied.result
    (c.copied.ensures
    ∙ (c.last.ensures.value
    ∙ ap (λ (xs : List ℕ). slice_get xs (length xs - 1)) c.deref.ensures.value)))
