-- What waits: of what something can be owed.
use Rattle.std.proofs.Common.{◌≡◌, ◌&&◌, ◌==◌, ◌||◌, ℕ, Bool, true, false, not, List, [], ◌∷◌, ◌++◌, map, filter, Option, Some, None, refl, sym, subst, ◌∙◌, ap, eqb-true, if◌then◌else◌}
use Rattle.std.specs.Prelude.{Vec}
use Rattle.std.specs.declared.alloc.Global.{Global}
use Rattle.std.specs.List.{cons_option, filter_map, find, list_any}
use Rattle.std.proofs.lemmas.Bool.{and_parts, false≢true}
use Rattle.std.proofs.lemmas.List.Folds.{list_any-append}
use Rattle.cw_base.specs.declared.hash.Digest32.{Digest32}
use Rattle.cw_types.specs.Epochs.{Epochs, is_member, leader}
use Rattle.cw_types.specs.Same.{same_proposal, same_vote}
use Rattle.cw_types.specs.Votes.{proposal_of}
use Rattle.cw_types.specs.declared.note.Note.{Note}
use Rattle.cw_types.specs.declared.vote.Proposal.{Proposal}
use Rattle.cw_types.specs.declared.vote.Vote.{Vote}
use Rattle.cw_types.specs.declared.vote.Vote.TheVariants.{Notarize}
use Rattle.cw_types.proofs.Same.{same_proposal-true, same_proposal_self, same_vote-true}
use Rattle.cw_rules.specs.Accepted.{Ballot, Many, Single}
use Rattle.cw_rules.specs.Notes.{epoch_of, has_cert, has_certified, is_cert, is_certified, view_of}
use Rattle.cw_rules.specs.Owed.{all_nullified, ballot_vote, closes, has_closed, has_voted, is_single, named_proposals, note_proposal}
use Rattle.voter.specs.Facts.{HasSaid, said_at}
use Rattle.note_scans.specs.Keys.{in_view, key_of, keyed}
use Rattle.note_scans.specs.declared.key.VoteKey.{VoteKey}
use Rattle.voter.specs.Known.{Known, known_state, vote_rules}
use Rattle.voter.specs.Lineup.{IsLineup, without_repeats}
use Rattle.voter.specs.Owing.{can_vote_for, is_candidate, is_turn, is_uncertified, is_votable, owes_cert, owes_finalize, owes_notarize, votable}
use Rattle.voter.specs.Views.{HasViews, is_in, listed_at}
use Rattle.voter.specs.Waiting.{came_proposals, can_certify, is_open, is_open_by, is_uncertified_by, undone, was_but}
use Rattle.voter.proofs.Certified.{cert_where}
use Rattle.voter.proofs.Certifying.{none_more}
use Rattle.voter.proofs.Lineups.{passing_values}
use Rattle.voter.proofs.Once.{filter_same_test, filter_through, find_named, find_through, pick_named}
use Rattle.voter.proofs.Saying.{said_cert, said_certified, said_closed}
use Rattle.voter.proofs.Voted.{finalize_where, notarize_where, payload_last}

-- ---- what waits in a lineup

not_not : (b : Bool) → b ≡ not (not b)
not_not true = refl
not_not false = refl

pub waiting_undone : {K X : Type 0} (eq : K → K → Bool) (key : X → K) (same : X → X → Bool)
    (passes : X → Bool) (named : List X) (places : List (K × ℕ)) (count : ℕ)
    (waiting : List (ℕ × X)) → IsLineup eq key same passes named places count waiting
    → map (λ (at : ℕ × X). at.1) waiting ≡ undone same (λ x. not (passes x)) named
waiting_undone {X = X} eq key same passes named places count waiting is =
    ap (map (λ (at : ℕ × X). at.1)) is.waits
    ∙ (passing_values passes 0 (without_repeats same named)
    ∙ filter_same_test passes (λ x. not (not (passes x))) (λ x. not_not (passes x))
    (without_repeats same named))

-- ---- when something is owed, it can be owed

pub owes_certify : (hash : List ℕ → Digest32) (t : Known) (v : Vote)
    → owes_cert hash t v ≡ can_certify t v
unfolding owes_cert
owes_certify hash t v = cert_where (vote_rules hash t.epochs) t.id (known_state t) v

pub certify_left : (hash : List ℕ → Digest32) (t : Known) (v : Vote)
    → owes_cert hash t v ≡ true → not (can_certify t v) ≡ false
certify_left hash t v h = ap not (sym (owes_certify hash t v) ∙ h)

pub finalize_left : (hash : List ℕ → Digest32) (t : Known) (p : Proposal)
    → owes_finalize hash t p ≡ true → not (is_open t.epochs t.id t.notes p) ≡ false
unfolding owes_finalize
finalize_left hash t p h =
    by (has_certified t.notes p) (is_member t.epochs p.epoch t.id)
    (not (has_closed t.notes p.epoch p.view)) (has_cert t.notes (Notarize p))
    (sym (finalize_where (vote_rules hash t.epochs) t.id (known_state t) p) ∙ h)
  where
    by : (a b c d : Bool) → (a && b && c) ≡ true → not (if a then b && c else d) ≡ false
    by true true true d k = refl
    by true true false d k = cc
    by true false c d k = cc
    by false b c d k = cc

pub uncertified_left : (x : Epochs) (id : ℕ) (notes : List Note) (p : Proposal)
    → is_uncertified notes p ≡ true → not (is_open x id notes p) ≡ false
uncertified_left x id notes p h =
    by (has_certified notes p) (has_cert notes (Notarize p))
    (is_member x p.epoch id && not (has_closed notes p.epoch p.view)) h
  where
    by : (a c m : Bool) → (c && not a) ≡ true → not (if a then m else c) ≡ false
    by true true m k = cc
    by true false m k = cc
    by false true m k = refl
    by false false m k = cc

-- ---- by what a map says

module _ (x : Epochs) (id : ℕ) (notes : List Note) (said : List (VoteKey × Bool))
    (has : HasSaid notes said) where
  cert_by : (v : Vote) → said_at (key_of v) said ≡ has_cert notes v
  cert_by v = has (key_of v) ∙ said_cert v notes

  certified_by : (p : Proposal) → said_at (keyed 3 p) said ≡ has_certified notes p
  certified_by p = has (keyed 3 p) ∙ said_certified p notes

  pub open_by : (p : Proposal) → is_open_by x id said p ≡ is_open x id notes p
  open_by p =
      ap
      (λ b. if b then is_member x p.epoch id && not (said_at (in_view 5 p.epoch p.view) said)
      else said_at (keyed 0 p) said)
      (certified_by p)
      ∙ (ap
      (λ b. if has_certified notes p then is_member x p.epoch id && not b
      else said_at (keyed 0 p) said)
      (has (in_view 5 p.epoch p.view) ∙ said_closed p.epoch p.view notes)
      ∙ ap
      (λ b. if has_certified notes p
      then is_member x p.epoch id && not (has_closed notes p.epoch p.view) else b)
      (cert_by (Notarize p)))

  pub uncertified_by : (p : Proposal) → is_uncertified_by said p ≡ is_uncertified notes p
  uncertified_by p =
      ap (λ b. b && not (said_at (keyed 3 p) said)) (cert_by (Notarize p))
      ∙ ap (λ b. has_cert notes (Notarize p) && not b) (certified_by p)

-- ---- with one note more

module _ (x : Epochs) (id : ℕ) (notes : List Note) (note : Note) where
  abbrev more : List Note
  more = notes ++ note ∷ []

  -- of a proposal that the note doesn't name no more is owed
  open_less : (q : Proposal)
      → ((p : Proposal) → note_proposal note ≡ Some p → same_proposal p q ≡ false)
      → (is_open x id notes q && is_open x id more q) ≡ is_open x id more q
  open_less q e =
      rw (
        none_more (is_certified q) notes note (not_certified note e),
        none_more (is_cert (Notarize q)) notes note (not_cert note e),
        list_any-append (closes q.epoch q.view) notes (note ∷ []),
      )
      (by (has_certified notes q) (has_cert notes (Notarize q)) (is_member x q.epoch id)
      (has_closed notes q.epoch q.view) (list_any (closes q.epoch q.view) (note ∷ [])))
    where
      not_certified : (n : Note)
          → ((p : Proposal) → note_proposal n ≡ Some p → same_proposal p q ≡ false)
          → is_certified q n ≡ false
      not_certified (Note.Certified p) k = go (same_proposal q p) refl
        where
          go : (b : Bool) → same_proposal q p ≡ b → b ≡ false
          go false l = refl
          go true l =
              absurd
              (false≢true
              (sym (k p refl)
              ∙ (ap (λ y. same_proposal p y) (same_proposal-true q p l) ∙ same_proposal_self p)))
      not_certified _ k = refl

      not_cert : (n : Note)
          → ((p : Proposal) → note_proposal n ≡ Some p → same_proposal p q ≡ false)
          → is_cert (Notarize q) n ≡ false
      not_cert (Note.Cert s) k = go (same_vote (Notarize q) s.vote) refl
        where
          go : (b : Bool) → same_vote (Notarize q) s.vote ≡ b → b ≡ false
          go false l = refl
          go true l =
              absurd
              (false≢true
              (sym (k q (ap proposal_of (sym (same_vote-true (Notarize q) s.vote l))))
              ∙ same_proposal_self q))
      not_cert _ k = refl

      by : (a c m k f : Bool)
          → ((if a then m && not k else c) && (if a then m && not (k || f) else c))
          ≡ (if a then m && not (k || f) else c)
      by true c true true f = refl
      by true c true false f = refl
      by true c false k f = refl
      by false true m k f = refl
      by false false m k f = refl

  -- what is open of the proposal that it names, or was and is of another
  pub open_more : (said : List (VoteKey × Bool)) → HasSaid more said → (q : Proposal)
      → (was_but (is_open x id notes) (is_open x id more) (note_proposal note) q
      && is_open_by x id said q)
      ≡ is_open x id more q
  open_more said has q =
      ap (λ b. was_but (is_open x id notes) (is_open x id more) (note_proposal note) q && b)
      (open_by x id more said has q)
      ∙ go (note_proposal note) refl
    where
      twice : (b : Bool) → (b && b) ≡ b
      twice true = refl
      twice false = refl

      go : (o : Option Proposal) → note_proposal note ≡ o
          → (was_but (is_open x id notes) (is_open x id more) o q && is_open x id more q)
          ≡ is_open x id more q
      go None e =
          open_less q
          (λ p k. let f : ◌≡◌ {A = Option Proposal} None (Some p) = sym e ∙ k in cc)
      go (Some p) e = by (same_proposal p q) refl
        where
          by : (b : Bool) → same_proposal p q ≡ b
              → ((if b then is_open x id more q else is_open x id notes q) && is_open x id more q)
              ≡ is_open x id more q
          by true l = twice (is_open x id more q)
          by false l =
              open_less q
              (λ r k.
              let f : ◌≡◌ {A = Option Proposal} (Some p) (Some r) = sym e ∙ k in
              let g : p ≡ r = cc in
              subst (λ y. same_proposal y q ≡ false) g l)

-- ---- a view's proposals

-- a votable proposal is of the member's view
votable_in : (t : Known) (p : Proposal) → is_votable t p ≡ true
    → is_in (epoch_of t.notes) (view_of t.notes (epoch_of t.notes)) p ≡ true
unfolding is_votable is_turn
votable_in t p h =
    go
    (parts (p.epoch == epoch_of t.notes) (p.view == view_of t.notes p.epoch)
    (is_member t.epochs p.epoch t.id)
    (list_any (is_single (leader t.epochs p.epoch p.view) (Notarize p)) t.ballots)
    (not (has_voted t.notes p.epoch p.view))
    (all_nullified t.notes p.epoch p.parent p.view) h)
  where
    parts : (a b c d e f : Bool) → ((a && b && c && d && e) && f) ≡ true
        → (a ≡ true) × (b ≡ true)
    parts true true c d e f k = (refl, refl)
    parts true false c d e f k = cc
    parts false b c d e f k = cc

    go : ((p.epoch == epoch_of t.notes) ≡ true) × ((p.view == view_of t.notes p.epoch) ≡ true)
        → is_in (epoch_of t.notes) (view_of t.notes (epoch_of t.notes)) p ≡ true
    go (a, b) =
        ap (λ c. c && (p.view == view_of t.notes (epoch_of t.notes))) a
        ∙ subst (λ e. (p.view == view_of t.notes e) ≡ true)
        (eqb-true p.epoch (epoch_of t.notes) a) b

-- and what came names it
single_named : (i : ℕ) (p : Proposal) (ballots : List Ballot)
    → list_any (is_single i (Notarize p)) ballots ≡ true
    → list_any (same_proposal p) (came_proposals ballots) ≡ true
single_named i p [] h = cc
single_named i p (b ∷ ballots) h =
    go b (is_single i (Notarize p) b) refl h (single_named i p ballots)
  where
    rest : (o : Option Proposal)
        → list_any (same_proposal p) (came_proposals ballots) ≡ true
        → list_any (same_proposal p) (cons_option o (came_proposals ballots)) ≡ true
    rest None k = k
    rest (Some q) k = by (same_proposal p q)
      where
        by : (c : Bool) → (c || list_any (same_proposal p) (came_proposals ballots)) ≡ true
        by true = refl
        by false = k

    here : (b : Ballot) → is_single i (Notarize p) b ≡ true
        → list_any (same_proposal p)
        (cons_option (proposal_of (ballot_vote b)) (came_proposals ballots))
        ≡ true
    here (Many s) k = cc
    here (Single j v) k =
        let same = and_parts (i == j) (same_vote (Notarize p) v) k in
        subst
        (λ w. list_any (same_proposal p) (cons_option (proposal_of w) (came_proposals ballots))
        ≡ true)
        (same_vote-true (Notarize p) v same.1)
        (ap (λ c. c || list_any (same_proposal p) (came_proposals ballots)) (same_proposal_self p))

    go : (b : Ballot) (c : Bool) → is_single i (Notarize p) b ≡ c
        → (c || list_any (is_single i (Notarize p)) ballots) ≡ true
        → (list_any (is_single i (Notarize p)) ballots ≡ true
        → list_any (same_proposal p) (came_proposals ballots) ≡ true)
        → list_any (same_proposal p) (came_proposals (b ∷ ballots)) ≡ true
    go b true e k next = here b e
    go b false e k next = rest (proposal_of (ballot_vote b)) (next k)

votable_named : (t : Known) (p : Proposal) → is_votable t p ≡ true
    → list_any (same_proposal p) (came_proposals t.ballots) ≡ true
unfolding is_votable is_turn
votable_named t p h =
    single_named (leader t.epochs p.epoch p.view) p t.ballots
    (fourth (p.epoch == epoch_of t.notes) (p.view == view_of t.notes p.epoch)
    (is_member t.epochs p.epoch t.id)
    (list_any (is_single (leader t.epochs p.epoch p.view) (Notarize p)) t.ballots)
    (not (has_voted t.notes p.epoch p.view))
    (all_nullified t.notes p.epoch p.parent p.view) h)
  where
    fourth : (a b c d e f : Bool) → ((a && b && c && d && e) && f) ≡ true → d ≡ true
    fourth true true true true e f k = refl
    fourth true true true false e f k = cc
    fourth true true false d e f k = cc
    fourth true false c d e f k = cc
    fourth false b c d e f k = cc

-- a vote to notarize is owed of a votable one
pub notarize_votable : (hash : List ℕ → Digest32) (t : Known) (p : Proposal)
    → owes_notarize hash t p ≡ (is_votable t p && can_vote_for hash t p)
unfolding can_vote_for is_turn is_votable owes_notarize
notarize_votable hash t p =
    notarize_where (vote_rules hash t.epochs) t.id (known_state t) p
    ∙ payload_last (is_turn t p) (can_vote_for hash t p)
    (all_nullified t.notes p.epoch p.parent p.view)

-- what is listed of the member's view
pub listed_here : (t : Known) (entries : List (VoteKey × Vec Proposal Global)) (epoch view : ℕ)
    → epoch ≡ epoch_of t.notes → view ≡ view_of t.notes epoch
    → listed_at (in_view 9 epoch view) entries
    ≡ listed_at (in_view 9 (epoch_of t.notes) (view_of t.notes (epoch_of t.notes))) entries
listed_here t entries epoch view e f =
    ap (λ v. listed_at (in_view 9 epoch v) entries) f
    ∙ ap (λ n. listed_at (in_view 9 n (view_of t.notes n)) entries) e

module _ (t : Known) (entries : List (VoteKey × Vec Proposal Global))
    (has : HasViews (came_proposals t.ballots) entries) where
  abbrev here : List Proposal
  here =
      listed_at (in_view 9 (epoch_of t.notes) (view_of t.notes (epoch_of t.notes))) entries

  -- the votable ones
  pub votable_here : filter (is_votable t) here ≡ votable t
  unfolding is_candidate
  votable_here =
      ap (filter (is_votable t)) (has (epoch_of t.notes) (view_of t.notes (epoch_of t.notes)))
      ∙ (filter_through (is_votable t)
      (is_in (epoch_of t.notes) (view_of t.notes (epoch_of t.notes))) (votable_in t)
      (without_repeats same_proposal (came_proposals t.ballots))
      ∙ pick_named same_proposal same_proposal-true (is_votable t) (came_proposals t.ballots)
      (filter_map note_proposal t.notes) (votable_named t))

  -- the first that a vote to notarize is owed of
  pub notarize_here : (hash : List ℕ → Digest32)
      → find (owes_notarize hash t) here
      ≡ find (owes_notarize hash t) (named_proposals (known_state t))
  notarize_here hash =
      ap (find (owes_notarize hash t))
      (has (epoch_of t.notes) (view_of t.notes (epoch_of t.notes)))
      ∙ (find_through (owes_notarize hash t)
      (is_in (epoch_of t.notes) (view_of t.notes (epoch_of t.notes)))
      (λ p h. votable_in t p (turn p h))
      (without_repeats same_proposal (came_proposals t.ballots))
      ∙ find_named same_proposal same_proposal-true (owes_notarize hash t)
      (came_proposals t.ballots) (filter_map note_proposal t.notes)
      (λ p h. votable_named t p (turn p h)))
    where
      turn : (p : Proposal) → owes_notarize hash t p ≡ true → is_votable t p ≡ true
      turn p h =
          (and_parts (is_votable t p) (can_vote_for hash t p)
          (sym (notarize_votable hash t p) ∙ h)).0
