-- Two quorums share an honest member.
use Rattle.std.proofs.Common.{◌≡◌, ℕ, refl, sym, subst, slice_get, ◌+◌, ◌<◌, ◌≤◌, Bool, true, false, ◌&&◌, List, [], ◌∷◌, Option, Some, None, is_none, length, count_by, arith, inl, inr, ◌⊎◌}
use Rattle.std.specs.List.{list_any}
use Rattle.std.proofs.lemmas.Bool.{or_cases, or_parts, and_parts, cases_Bool, false≢true}
use Rattle.cw_types.specs.declared.note.Note.{Note}
use Rattle.cw_types.specs.declared.vote.Vote.{Vote}
use Rattle.cw_types.specs.Epochs.{Epochs, members_in, size}
use Rattle.cw_types.specs.Numbers.{max_faults, quorum}
use Rattle.cw_types.specs.Votes.{vote_epoch}
use Rattle.cw_rules.specs.Notes.{has_vote}
use Rattle.cw_rules.specs.Stands.{AreFew, Members, Stands, backs, backs_at, is_faulty_at}
use Rattle.std.specs.Option.{option_map_or}
use Rattle.cw_rules.proofs.Lists.{count-cons, counts_as}

-- an honest member with both votes among its notes
abbrev has_both : Vote → Vote → Option (List Note) → Bool
has_both v w None = false
has_both v w (Some notes) = has_vote notes v && has_vote notes w

abbrev has_both_at : Members → Vote → Vote → ℕ → Bool
has_both_at members v w i = option_map_or (has_both v w) (slice_get members i) false

-- each member adds two to the sides only where it is faulty or has both
shares : (v w : Vote) (m : Option (Option (List Note)))
    → option_map_or (has_both v w) m false ≡ false
    → counts_as (option_map_or (backs v) m false) + counts_as (option_map_or (backs w) m false)
    ≤ 1 + counts_as (option_map_or is_none m false)
unfolding counts_as
shares v w None h = omega arith
shares v w (Some None) h = omega arith
shares v w (Some (Some notes)) h = go (has_vote notes v) (has_vote notes w) h
  where
    go : (x y : Bool) → x && y ≡ false → counts_as x + counts_as y ≤ 1 + 0
    go true true h = cc
    go true false h = omega arith
    go false true h = omega arith
    go false false h = omega arith

-- where nobody honest of these has both, the two sides together are no more than they and the
-- faulty ones
sides : (ms : Members) (v w : Vote) (is : List ℕ) → list_any (has_both_at ms v w) is ≡ false
    → count_by (backs_at ms v) is + count_by (backs_at ms w) is
    ≤ length is + count_by (is_faulty_at ms) is
sides ms v w [] h = omega arith
sides ms v w (i ∷ is) h =
    let p = or_parts (has_both_at ms v w i) (list_any (has_both_at ms v w) is) h in
    omega (
      arith,
      shares v w (slice_get ms i) p.0,
      sides ms v w is p.1,
      count-cons (backs_at ms v) i is,
      count-cons (backs_at ms w) i is,
      count-cons (is_faulty_at ms) i is,
    )

-- an honest member that has both votes, by its number and its notes
pub record Sharer (members : Members) (v w : Vote) : Type 0 where
  pub place : ℕ
  pub notes : List Note
  pub at : slice_get members place ≡ Some (Some notes)
  pub first : has_vote notes v ≡ true
  pub second : has_vote notes w ≡ true

sharer_among : (ms : Members) (v w : Vote) (is : List ℕ) → list_any (has_both_at ms v w) is ≡ true
    → Sharer ms v w
sharer_among ms v w [] h = absurd (false≢true h)
sharer_among ms v w (i ∷ is) h =
    go (or_cases (has_both_at ms v w i) (list_any (has_both_at ms v w) is) h)
    (sharer_among ms v w is)
  where
    here : (m : Option (Option (List Note))) → slice_get ms i ≡ m
        → option_map_or (has_both v w) m false ≡ true → Sharer ms v w
    here None e h = absurd (false≢true h)
    here (Some None) e h = absurd (false≢true h)
    here (Some (Some notes)) e h =
        let p = and_parts (has_vote notes v) (has_vote notes w) h in
        record { place = i; notes = notes; at = e; first = p.0; second = p.1 }

    go : (has_both_at ms v w i ≡ true) ⊎ (list_any (has_both_at ms v w) is ≡ true)
        → (list_any (has_both_at ms v w) is ≡ true → Sharer ms v w) → Sharer ms v w
    go (inl b) later = here (slice_get ms i) refl b
    go (inr r) later = later r

-- two quorums are more than the members and f of them
enough_for : (n : ℕ) → 4 ≤ n → n + max_faults n < quorum n + quorum n
enough_for n h = omega arith

-- two votes of one epoch that stand share an honest member
pub sharer : (x : Epochs) (members : Members) (v w : Vote) → AreFew x members
    → vote_epoch v ≡ vote_epoch w → Stands x members v → Stands x members w → Sharer members v w
sharer x members v w l same a b = go (cases_Bool (list_any (has_both_at members v w) is))
  where
    is : List ℕ
    is = members_in x (vote_epoch v)

    b' : quorum (length is) ≤ count_by (backs_at members w) is
    b' =
        subst (λ e. quorum (size x e) ≤ count_by (backs_at members w) (members_in x e)) (sym same) b

    go : (list_any (has_both_at members v w) is ≡ true)
        ⊎ (list_any (has_both_at members v w) is ≡ false)
        → Sharer members v w
    go (inl t) = sharer_among members v w is t
    go (inr f) =
        absurd
        (omega (
          arith,
          sides members v w is f,
          enough_for (length is) (l.enough (vote_epoch v)),
          l.few (vote_epoch v),
          a,
          b',
        ))
