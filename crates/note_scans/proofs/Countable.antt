-- How great the views are that countable notes end.
use Rattle.std.proofs.Common.{◌≡◌, ℕ, ◌-◌, ◌^◌, ◌<◌, ◌==◌, if◌then◌else◌, Bool, true, false, nat_lt, List, [], ◌∷◌, Option, Some, None, refl, arith, subst, ltb-true}
use Rattle.std.specs.List.{filter_map, list_all}
use Rattle.std.proofs.lemmas.Bool.{and_parts}
use Rattle.cw_types.specs.Votes.{is_ordered, is_view, well_formed}
use Rattle.cw_types.specs.declared.note.Note.{Note}
use Rattle.cw_types.specs.declared.vote.Proposal.{Proposal}
use Rattle.cw_types.specs.declared.vote.Vote.{Vote}
use Rattle.cw_types.specs.declared.vote.Vote.TheVariants.{Finalize, Notarize, Nullify}
use Rattle.cw_rules.specs.Notes.{ended, ended_by, greatest}
use Rattle.note_scans.specs.Countable.{is_countable}

view_below : (v : ℕ) → is_view v ≡ true → v < 2 ^ 64 - 1
view_below v h = ltb-true v (2 ^ 64 - 1) (and_parts (nat_lt 0 v) (nat_lt v (2 ^ 64 - 1)) h).1

ordered_below : (p : Proposal) → is_ordered p ≡ true → p.view < 2 ^ 64 - 1
ordered_below p h = view_below p.view (and_parts (is_view p.view) (nat_lt p.parent p.view) h).0

in_view : (b : Bool) (v view : ℕ) → (if b then Some v else None) ≡ Some view → v ≡ view
in_view true v view h = cc
in_view false v view h = cc

-- the view that a countable vote ends is no last number
vote_below : (epoch : ℕ) (v : Vote) (view : ℕ) → well_formed v ≡ true → ended_by epoch v ≡ Some view
    → view < 2 ^ 64 - 1
vote_below epoch (Notarize p) view s h = cc
vote_below epoch (Nullify e v) view s h =
    subst (λ x. x < 2 ^ 64 - 1) (in_view (e == epoch) v view h) (view_below v s)
vote_below epoch (Finalize p) view s h =
    subst (λ x. x < 2 ^ 64 - 1) (in_view (p.epoch == epoch) p.view view h) (ordered_below p s)

-- nor is one that a countable note ends
note_below : (epoch : ℕ) (note : Note) (view : ℕ) → is_countable note ≡ true
    → ended epoch note ≡ Some view → view < 2 ^ 64 - 1
note_below epoch (Note.Block c b) view s h = cc
note_below epoch (Note.Verified e v c) view s h = cc
note_below epoch (Note.Certified p) view s h =
    subst (λ x. x < 2 ^ 64 - 1) (in_view (p.epoch == epoch) p.view view h) (ordered_below p s)
note_below epoch (Note.Vote v) view s h = cc
note_below epoch (Note.Cert c) view s h = vote_below epoch c.vote view s h
note_below epoch (Note.Ack h) view s e = cc
note_below epoch (Note.Floor h) view s e = cc
note_below epoch (Note.Prune h) view s e = cc
note_below epoch (Note.Epoch e c) view s h = cc

-- the view of a member fits in 64 bits
pub ended_below : (epoch : ℕ) (notes : List Note) → list_all is_countable notes ≡ true
    → greatest (filter_map (ended epoch) notes) < 2 ^ 64 - 1
ended_below epoch [] h = omega arith
ended_below epoch (note ∷ notes) h =
    let parts = and_parts (is_countable note) (list_all is_countable notes) h in
    go (ended epoch note) refl parts.0 (ended_below epoch notes parts.1)
  where
    go : (o : Option ℕ) → ended epoch note ≡ o → is_countable note ≡ true
        → greatest (filter_map (ended epoch) notes) < 2 ^ 64 - 1
        → greatest (filter_map (ended epoch) (note ∷ notes)) < 2 ^ 64 - 1
    go None e good tail = rw e tail
    go (Some view) e good tail =
        let head : view < 2 ^ 64 - 1 = note_below epoch note view good e in rw e (omega arith)
