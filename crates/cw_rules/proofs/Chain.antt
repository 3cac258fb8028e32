-- Votes that stand don't contradict each other, and what is finalized is built upon.
use Rattle.std.proofs.Common.{◌≡◌, Bool, ℕ, zero, suc, ◌<◌, ◌≤◌, true, List, [], ◌∷◌, ◌++◌, refl, sym, ◌∙◌, subst, inl, inr, ◌⊎◌, arith}
use Rattle.std.proofs.lemmas.Bool.{cases_lt}
use Rattle.cw_types.specs.declared.note.Note.{Note}
use Rattle.cw_types.specs.declared.vote.Proposal.{Proposal}
use Rattle.cw_types.specs.declared.vote.Vote.{Vote}
use Rattle.cw_types.specs.declared.vote.Vote.TheVariants.{Finalize, Notarize, Nullify}
use Rattle.cw_types.specs.Epochs.{Epochs}
use Rattle.cw_rules.specs.Notes.{has_cert, has_certified, has_vote, is_cert, is_certified, is_vote, nullified}
use Rattle.cw_rules.specs.Stands.{AreKept, AreLawful, AreNullified, Descends, IsSettled, Members, RestsOn, Stands}
use Rattle.cw_rules.proofs.NoteLemmas.{found_after, any_front, vote_note, certified_note, Settles, settler_found, Settles_front}
use Rattle.cw_rules.proofs.Quorums.{sharer}

-- no two different Notarize votes of one view stand
pub one_notarized : (x : Epochs) (fits : List Note → Proposal → Bool) (members : Members)
    → AreLawful x fits members → (p q : Proposal) → Stands x members (Notarize p)
    → Stands x members (Notarize q) → p.epoch ≡ q.epoch → p.view ≡ q.view → p ≡ q
one_notarized x fits members l p q a b d e =
    let s = sharer x members (Notarize p) (Notarize q) l.faults d a b in
    (l.honest s.place s.notes s.at).one_notarize p q s.first s.second d e

-- a view that is finalized is never nullified
pub not_both_stand : (x : Epochs) (fits : List Note → Proposal → Bool) (members : Members)
    → AreLawful x fits members → (p : Proposal) → Stands x members (Finalize p)
    → Stands x members (Nullify p.epoch p.view) → ⊥
not_both_stand x fits members l p a b =
    let s = sharer x members (Finalize p) (Nullify p.epoch p.view) l.faults refl a b in
    (l.honest s.place s.notes s.at).not_both p s.first s.second

-- what a vote rests on, by the notes of a member that has it
rests_at : (x : Epochs) (fits : List Note → Proposal → Bool) (members : Members) (notes : List Note)
    → AreKept x fits members notes → (v : Vote) → has_vote notes v ≡ true
    → (before rest : List Note) × (notes ≡ before ++ rest) × RestsOn fits before (Note.Vote v)
rests_at x fits members notes k v h =
    let f = found_after (RestsOn fits) (is_vote v) [] notes k.rests h in (
      f.before,
      f.rest,
      f.joined,
      subst (RestsOn fits f.before) (vote_note v f.note f.passes) f.holds,
    )

-- what a member certified is notarized
pub certified_rests : (x : Epochs) (fits : List Note → Proposal → Bool) (members : Members)
    (notes : List Note)
    → AreKept x fits members notes → (p : Proposal) → has_certified notes p ≡ true
    → Stands x members (Notarize p)
certified_rests x fits members notes k p h =
    let f = found_after (RestsOn fits) (is_certified p) [] notes k.rests h in
    let r = subst (RestsOn fits f.before) (certified_note p f.note f.passes) f.holds in
    k.certs_stand (Notarize p)
    (subst (λ ns. has_cert ns (Notarize p) ≡ true) (sym f.joined)
    (any_front (is_cert (Notarize p)) f.before f.rest r.0))

-- a member that noted a vote to finalize p noted before that p is certified
pub finalized_certified : (x : Epochs) (fits : List Note → Proposal → Bool) (members : Members)
    (notes : List Note)
    → AreKept x fits members notes → (p : Proposal) → has_vote notes (Finalize p) ≡ true
    → has_certified notes p ≡ true
finalized_certified x fits members notes k p h =
    let (before, rest, joined, r) = rests_at x fits members notes k (Finalize p) h in
    subst (λ ns. has_certified ns p ≡ true) (sym joined) (any_front (is_certified p) before rest r)

pub finalized_rests : (x : Epochs) (fits : List Note → Proposal → Bool) (members : Members)
    (notes : List Note)
    → AreKept x fits members notes → (p : Proposal) → has_vote notes (Finalize p) ≡ true
    → Stands x members (Notarize p)
finalized_rests x fits members notes k p h =
    certified_rests x fits members notes k p (finalized_certified x fits members notes k p h)

-- what is finalized is notarized
pub finalized_notarized : (x : Epochs) (fits : List Note → Proposal → Bool) (members : Members)
    → AreLawful x fits members → (p : Proposal) → Stands x members (Finalize p)
    → Stands x members (Notarize p)
finalized_notarized x fits members l p a =
    let s = sharer x members (Finalize p) (Finalize p) l.faults refl a a in
    finalized_rests x fits members s.notes (l.honest s.place s.notes s.at) p s.first

-- who settles a view for an honest member stands notarized
pub settler_stands : (x : Epochs) (fits : List Note → Proposal → Bool) (members : Members)
    → AreLawful x fits members → (notes : List Note) → AreKept x fits members notes
    → (epoch view : ℕ) (p : Proposal) → Settles notes epoch view p → Stands x members (Notarize p)
settler_stands x fits members l notes k epoch view p (d, e, inl c) =
    certified_rests x fits members notes k p c
settler_stands x fits members l notes k epoch view p (d, e, inr c) =
    finalized_notarized x fits members l p (k.certs_stand (Finalize p) c)

-- a nullified view stands nullified
nullified_stands : (x : Epochs) (fits : List Note → Proposal → Bool) (members : Members)
    (notes before rest : List Note)
    → AreKept x fits members notes → notes ≡ before ++ rest → (epoch view : ℕ)
    → nullified before epoch view ≡ true → Stands x members (Nullify epoch view)
nullified_stands x fits members notes before rest k joined epoch view h =
    k.certs_stand (Nullify epoch view)
    (subst (λ ns. has_cert ns (Nullify epoch view) ≡ true) (sym joined)
    (any_front (is_cert (Nullify epoch view)) before rest h))

-- a settled view above the first has a proposal that stands notarized
settled_stands : (x : Epochs) (fits : List Note → Proposal → Bool) (members : Members)
    → AreLawful x fits members → (notes before rest : List Note) → AreKept x fits members notes
    → notes ≡ before ++ rest → (epoch view : ℕ) → 0 < view → IsSettled before epoch view
    → (r : Proposal) × Stands x members (Notarize r) × (r.epoch ≡ epoch) × (r.view ≡ view)
settled_stands x fits members l notes before rest k joined epoch view pos (inl z) =
    absurd (omega (arith, z.0))
settled_stands x fits members l notes before rest k joined epoch view pos (inr (above, some)) =
    let (r, settles) = settler_found before epoch view some in (
      r,
      settler_stands x fits members l notes k epoch view r
          (subst (λ ns. Settles ns epoch view r) (sym joined)
          (Settles_front before rest epoch view r settles)),
      settles.0,
      settles.1,
    )

-- what stands notarized has a view above 0
pub notarized_above : (x : Epochs) (fits : List Note → Proposal → Bool) (members : Members)
    → AreLawful x fits members → (p : Proposal) → Stands x members (Notarize p) → 0 < p.view
notarized_above x fits members l p a =
    let s = sharer x members (Notarize p) (Notarize p) l.faults refl a a in
    let (before, rest, joined, r) =
    rests_at x fits members s.notes (l.honest s.place s.notes s.at) (Notarize p) s.first in
    omega (arith, r.0)

-- what stands notarized has a parent view below its own
pub notarized_below : (x : Epochs) (fits : List Note → Proposal → Bool) (members : Members)
    → AreLawful x fits members → (p : Proposal) → Stands x members (Notarize p) → p.parent < p.view
notarized_below x fits members l p a =
    let s = sharer x members (Notarize p) (Notarize p) l.faults refl a a in
    let (before, rest, joined, r) =
    rests_at x fits members s.notes (l.honest s.place s.notes s.at) (Notarize p) s.first in
    r.0

-- where p stands finalized and q above it notarized, q's parent view isn't below p's, and some
-- proposal stands notarized there
step_down : (x : Epochs) (fits : List Note → Proposal → Bool) (members : Members)
    → AreLawful x fits members → (p q : Proposal) → Stands x members (Finalize p)
    → Stands x members (Notarize q) → p.epoch ≡ q.epoch → p.view < q.view
    → (q.parent < q.view) × (p.view ≤ q.parent)
    × ((r : Proposal) × Stands x members (Notarize r) × (r.epoch ≡ q.epoch)
    × (r.view ≡ q.parent))
step_down x fits members l p q a b same lt =
    let s = sharer x members (Finalize p) (Notarize q) l.faults same a b in
    let pos = notarized_above x fits members l p (finalized_notarized x fits members l p a) in
    let (before, rest, joined, r) =
    rests_at x fits members s.notes (l.honest s.place s.notes s.at) (Notarize q) s.second in
    let above : p.view ≤ q.parent =
    (not_below s.notes before rest (l.honest s.place s.notes s.at) joined r.2
    (cases_lt q.parent p.view)) in (
      r.0,
      above,
      settled_stands x fits members l s.notes before rest (l.honest s.place s.notes s.at) joined
          q.epoch q.parent (omega (arith, pos)) r.1,
    )
  where
    not_below : (notes before rest : List Note) → AreKept x fits members notes
        → notes ≡ before ++ rest → AreNullified before q.epoch q.parent q.view
        → (q.parent < p.view) ⊎ (p.view ≤ q.parent) → p.view ≤ q.parent
    not_below notes before rest k joined n (inl below) =
        absurd
        (not_both_stand x fits members l p a
        (subst (λ e. Stands x members (Nullify e p.view)) (sym same)
        (nullified_stands x fits members notes before rest k joined q.epoch p.view
        (n p.view below lt))))
    not_below notes before rest k joined n (inr above) = above

-- q descends from p, by induction on a bound of q's view
pub descent : (x : Epochs) (fits : List Note → Proposal → Bool) (members : Members)
    → AreLawful x fits members → (bound : ℕ) (p q : Proposal) → Stands x members (Finalize p)
    → Stands x members (Notarize q) → p.epoch ≡ q.epoch → p.view < q.view → q.view < bound
    → Descends x members q p
descent x fits members l zero p q a b same lt within = absurd (omega arith)
descent x fits members l (suc bound) p q a b same lt within =
    let (below, above, r) = step_down x fits members l p q a b same lt in
    go r.0 r.1 r.2 r.3 below above (cases_lt p.view r.0.view)
    (descent x fits members l bound p r.0 a r.1 (same ∙ sym r.2))
  where
    go : (r : Proposal) → Stands x members (Notarize r) → r.epoch ≡ q.epoch → r.view ≡ q.parent
        → q.parent < q.view → p.view ≤ q.parent → (p.view < r.view) ⊎ (r.view ≤ p.view)
        → (p.view < r.view → r.view < bound → Descends x members r p) → Descends x members q p
    go r stands of here below above (inl more) later =
        let d = later more (omega arith) in
        (r ∷ d.0, (stands, of, here, d.1))
    go r stands of here below above (inr less) later =
        let e : r ≡ p =
        one_notarized x fits members l r p stands (finalized_notarized x fits members l p a)
        (of ∙ sym same) (omega arith) in
        (r ∷ [], (stands, of, here, e))

-- what stands notarized above a finalized proposal of its epoch descends from it
pub finalized_descent : (x : Epochs) (fits : List Note → Proposal → Bool) (members : Members)
    → AreLawful x fits members → (p q : Proposal) → Stands x members (Finalize p)
    → Stands x members (Notarize q) → p.epoch ≡ q.epoch → p.view < q.view → Descends x members q p
finalized_descent x fits members l p q a b same lt =
    descent x fits members l (suc q.view) p q a b same lt (omega arith)
