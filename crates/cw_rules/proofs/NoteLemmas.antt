-- What the questions to a list of notes tell.
use Rattle.std.proofs.Common.{◌≡◌, ℕ, Bool, true, false, ◌||◌, ◌&&◌, ◌==◌, List, [], ◌∷◌, ◌++◌, Option, Some, None, IsSome, filter_map, find, cond, refl, sym, ◌∙◌, ap, subst, inl, inr, ◌⊎◌, eqb-true, append_assoc, append-nil}
use Rattle.std.specs.List.{list_any, cons_option}
use Rattle.std.proofs.lemmas.Bool.{and_parts, or_cases, or_left, or_right, false≢true, cases_Bool, cond-true, cond-false}
use Rattle.std.proofs.lemmas.List.Folds.{list_any-append}
use Rattle.cw_types.specs.declared.note.Note.{Note}
use Rattle.cw_types.specs.declared.vote.Cert.{Cert}
use Rattle.cw_types.specs.declared.vote.Proposal.{Proposal}
use Rattle.cw_types.specs.declared.vote.Vote.{Vote}
use Rattle.cw_types.specs.declared.vote.Vote.TheVariants.{Finalize, Notarize, Nullify}
use Rattle.cw_types.specs.Same.{same_vote}
use Rattle.cw_types.specs.Votes.{finalized}
use Rattle.cw_rules.specs.Notes.{has_cert, has_certified, is_cert, is_certified, is_vote, settler, settling}
use Rattle.cw_rules.specs.Stands.{EachAfter}
use Rattle.cw_types.proofs.Same.{same_vote-true, same_vote_self, same_proposal-true, same_proposal_self}

-- a test that some note of a front passes, some note of the whole passes
pub any_front : (test : Note → Bool) (xs ys : List Note) → list_any test xs ≡ true
    → list_any test (xs ++ ys) ≡ true
any_front test xs ys h =
    list_any-append test xs ys ∙ or_left (list_any test xs) (list_any test ys) h

pub any_back : (test : Note → Bool) (xs ys : List Note) → list_any test ys ≡ true
    → list_any test (xs ++ ys) ≡ true
any_back test xs ys h =
    list_any-append test xs ys ∙ or_right (list_any test xs) (list_any test ys) h

-- a note that passes the test, with a front of the list before it, no shorter than start, at which
-- R holds of it
pub record FoundAfter (R : List Note → Note → Type 0) (test : Note → Bool)
    (start whole : List Note) : Type 0 where
  pub note : Note
  pub before : List Note
  pub rest : List Note
  pub mid : List Note
  pub begins : before ≡ start ++ mid
  pub passes : test note ≡ true
  pub holds : R before note
  pub joined : whole ≡ before ++ rest

pub found_after : (R : List Note → Note → Type 0) (test : Note → Bool) (before notes : List Note)
    → EachAfter R before notes → list_any test notes ≡ true
    → FoundAfter R test before (before ++ notes)
found_after R test before [] e h = absurd (false≢true h)
found_after R test before (x ∷ xs) e h =
    go (or_cases (test x) (list_any test xs) h) (found_after R test (before ++ x ∷ []) xs e.1)
  where
    go : ((test x ≡ true) ⊎ (list_any test xs ≡ true))
        → (list_any test xs ≡ true
        → FoundAfter R test (before ++ x ∷ []) ((before ++ x ∷ []) ++ xs))
        → FoundAfter R test before (before ++ x ∷ xs)
    go (inl p) later =
        record {
          note = x;
          before = before;
          rest = x ∷ xs;
          mid = [];
          begins = sym (append-nil before);
          passes = p;
          holds = e.0;
          joined = refl;
        }
    go (inr q) later =
        let f = later q in
        record {
          note = f.note;
          before = f.before;
          rest = f.rest;
          mid = x ∷ f.mid;
          begins = f.begins ∙ append_assoc before (x ∷ []) f.mid;
          passes = f.passes;
          holds = f.holds;
          joined = sym (append_assoc before (x ∷ []) xs) ∙ f.joined;
        }

-- what holds of each note in one sense holds of each in a weaker one
pub each_weaker : (R T : List Note → Note → Type 0)
    → ((before : List Note) (note : Note) → R before note → T before note)
    → (before notes : List Note) → EachAfter R before notes → EachAfter T before notes
each_weaker R T f before [] e = tt
each_weaker R T f before (x ∷ xs) e = (f before x e.0, each_weaker R T f (before ++ x ∷ []) xs e.1)

pub any_weaker : (a b : Note → Bool) → ((x : Note) → a x ≡ true → b x ≡ true) → (xs : List Note)
    → list_any a xs ≡ true → list_any b xs ≡ true
any_weaker a b f [] h = absurd (false≢true h)
any_weaker a b f (x ∷ xs) h = go (or_cases (a x) (list_any a xs) h) (any_weaker a b f xs)
  where
    go : (a x ≡ true) ⊎ (list_any a xs ≡ true) → (list_any a xs ≡ true → list_any b xs ≡ true)
        → (b x || list_any b xs) ≡ true
    go (inl e) later = or_left (b x) (list_any b xs) (f x e)
    go (inr e) later = or_right (b x) (list_any b xs) (later e)

-- where neither of two kinds comes after the other, they come in one note
pub in_one : (R : List Note → Note → Type 0) (a b : Note → Bool)
    → ((before : List Note) (x : Note) → R before x → a x ≡ true → list_any b before ≡ true → ⊥)
    → ((before : List Note) (x : Note) → R before x → b x ≡ true → list_any a before ≡ true → ⊥)
    → (start notes : List Note) → EachAfter R start notes → list_any a notes ≡ true
    → list_any b notes ≡ true → (x : Note) × (a x ≡ true) × (b x ≡ true)
in_one R a b no_b no_a start [] e h k = absurd (false≢true h)
in_one R a b no_b no_a start (x ∷ xs) e h k =
    go (or_cases (a x) (list_any a xs) h) (or_cases (b x) (list_any b xs) k)
    (in_one R a b no_b no_a (start ++ x ∷ []) xs e.1)
  where
    -- x stands in each front of the rest
    seen : (t : Note → Bool) (mid : List Note) → t x ≡ true
        → list_any t ((start ++ x ∷ []) ++ mid) ≡ true
    seen t mid p =
        any_front t (start ++ x ∷ []) mid (any_back t start (x ∷ []) (or_left (t x) false p))

    go : (a x ≡ true) ⊎ (list_any a xs ≡ true) → (b x ≡ true) ⊎ (list_any b xs ≡ true)
        → (list_any a xs ≡ true → list_any b xs ≡ true → (y : Note) × (a y ≡ true) × (b y ≡ true))
        → (y : Note) × (a y ≡ true) × (b y ≡ true)
    go (inl p) (inl q) later = (x, p, q)
    go (inl p) (inr q) later =
        let f = found_after R b (start ++ x ∷ []) xs e.1 q in
        absurd
        (no_a f.before f.note f.holds f.passes
        (subst (λ ns. list_any a ns ≡ true) (sym f.begins) (seen a f.mid p)))
    go (inr p) (inl q) later =
        let f = found_after R a (start ++ x ∷ []) xs e.1 p in
        absurd
        (no_b f.before f.note f.holds f.passes
        (subst (λ ns. list_any b ns ≡ true) (sym f.begins) (seen b f.mid q)))
    go (inr p) (inr q) later = later p q

-- only a note of the right kind passes its test
pub vote_note : (v : Vote) (note : Note) → is_vote v note ≡ true → note ≡ Note.Vote v
vote_note v (Note.Vote w) h = ap Note.Vote (sym (same_vote-true v w h))
vote_note v _ h = absurd (false≢true h)

pub certified_note : (p : Proposal) (note : Note) → is_certified p note ≡ true
    → note ≡ Note.Certified p
certified_note p (Note.Certified q) h = ap Note.Certified (sym (same_proposal-true p q h))
certified_note p _ h = absurd (false≢true h)

-- who settles a view: a Certified note or a noted finalization
abbrev pub Settles : List Note → ℕ → ℕ → Proposal → Type 0
Settles notes epoch view p =
    (p.epoch ≡ epoch) × (p.view ≡ view)
    × ((has_certified notes p ≡ true) ⊎ (has_cert notes (Finalize p) ≡ true))

pub Settles_later : (x : Note) (xs : List Note) (epoch view : ℕ) (p : Proposal)
    → Settles xs epoch view p → Settles (x ∷ xs) epoch view p
Settles_later x xs epoch view p (d, e, inl c) =
    (d, e, inl (or_right (is_certified p x) (has_certified xs p) c))
Settles_later x xs epoch view p (d, e, inr c) =
    (d, e, inr (or_right (is_cert (Finalize p) x) (has_cert xs (Finalize p)) c))

-- one step of the search for who settles a view
settles_head : (x : Note) (xs : List Note) (epoch view : ℕ) (p q : Proposal)
    → ((is_certified q x ≡ true) ⊎ (is_cert (Finalize q) x ≡ true))
    → (settler xs epoch view ≡ Some p → Settles xs epoch view p)
    → cond ((q.epoch == epoch) && (q.view == view)) (Some q) (settler xs epoch view) ≡ Some p
    → Settles (x ∷ xs) epoch view p
settles_head x xs epoch view p q here ih h =
    go (cases_Bool ((q.epoch == epoch) && (q.view == view)))
  where
    go : (((q.epoch == epoch) && (q.view == view)) ≡ true)
        ⊎ (((q.epoch == epoch) && (q.view == view)) ≡ false)
        → Settles (x ∷ xs) epoch view p
    go (inl t) =
        let e : q ≡ p =
        cc
        (cond-true ((q.epoch == epoch) && (q.view == view)) (Some q) (settler xs epoch view)
        t) in
        let f = and_parts (q.epoch == epoch) (q.view == view) t in
        subst (Settles (x ∷ xs) epoch view) e
        (eqb-true q.epoch epoch f.0, eqb-true q.view view f.1, at here)
      where
        at : ((is_certified q x ≡ true) ⊎ (is_cert (Finalize q) x ≡ true))
            → (has_certified (x ∷ xs) q ≡ true) ⊎ (has_cert (x ∷ xs) (Finalize q) ≡ true)
        at (inl c) = inl (or_left (is_certified q x) (has_certified xs q) c)
        at (inr c) = inr (or_left (is_cert (Finalize q) x) (has_cert xs (Finalize q)) c)
    go (inr f) =
        Settles_later x xs epoch view p
        (ih
        (sym
        (cond-false ((q.epoch == epoch) && (q.view == view)) (Some q)
        (settler xs epoch view) f)
        ∙ h))

settles_cert : (s : Cert) (xs : List Note) (epoch view : ℕ) (p : Proposal) (v : Vote)
    → same_vote v s.vote ≡ true
    → (settler xs epoch view ≡ Some p → Settles xs epoch view p)
    → find (λ q. (q.epoch == epoch) && (q.view == view))
    (cons_option (finalized v) (filter_map settling xs))
    ≡ Some p
    → Settles (Note.Cert s ∷ xs) epoch view p
settles_cert s xs epoch view p (Finalize q) e ih h =
    settles_head (Note.Cert s) xs epoch view p q (inr e) ih h
settles_cert s xs epoch view p (Notarize q) e ih h =
    Settles_later (Note.Cert s) xs epoch view p (ih h)
settles_cert s xs epoch view p (Nullify d v) e ih h =
    Settles_later (Note.Cert s) xs epoch view p (ih h)

-- the proposal that is found is one that settles the view
pub settler_tells : (notes : List Note) (epoch view : ℕ) (p : Proposal)
    → settler notes epoch view ≡ Some p → Settles notes epoch view p
settler_tells [] epoch view p h = cc
settler_tells (Note.Certified q ∷ xs) epoch view p h =
    settles_head (Note.Certified q) xs epoch view p q (inl (same_proposal_self q))
    (settler_tells xs epoch view p) h
settler_tells (Note.Cert s ∷ xs) epoch view p h =
    settles_cert s xs epoch view p s.vote (same_vote_self s.vote) (settler_tells xs epoch view p) h
settler_tells (x ∷ xs) epoch view p h =
    Settles_later x xs epoch view p (settler_tells xs epoch view p h)

pub settler_found : (notes : List Note) (epoch view : ℕ) → IsSome (settler notes epoch view)
    → (p : Proposal) × Settles notes epoch view p
settler_found notes epoch view h = go (settler notes epoch view) refl h
  where
    go : (o : Option Proposal) → settler notes epoch view ≡ o → IsSome o
        → (p : Proposal) × Settles notes epoch view p
    go None e h = absurd (false≢true h)
    go (Some p) e h = (p, settler_tells notes epoch view p e)

-- what a front of the notes tells, all of them tell
pub Settles_front : (xs ys : List Note) (epoch view : ℕ) (p : Proposal) → Settles xs epoch view p
    → Settles (xs ++ ys) epoch view p
Settles_front xs ys epoch view p (d, e, inl c) = (d, e, inl (any_front (is_certified p) xs ys c))
Settles_front xs ys epoch view p (d, e, inr c) =
    (d, e, inr (any_front (is_cert (Finalize p)) xs ys c))
