-- What waits, when something comes or is noted.
use Rattle.std.proofs.Common.{◌≡◌, ◌||◌, suc, zero, true, cond, option_map, slice_get, Bool, refl, sym, subst, ◌∙◌, ap, false, if◌then◌else◌, List, [], ◌∷◌, ◌++◌, filter, filter_map, map, not, Option, Some, None, ℕ}
use Rattle.std.specs.List.{cons_option, list_any}
use Rattle.std.proofs.lemmas.List.Elements.{filter_map-append}
use Rattle.cw_types.specs.Epochs.{Epochs}
use Rattle.cw_types.specs.Same.{same_proposal, same_vote}
use Rattle.cw_types.specs.Votes.{proposal_of}
use Rattle.cw_types.specs.declared.note.Note.{Note}
use Rattle.cw_types.specs.declared.vote.Proposal.{Proposal}
use Rattle.cw_types.specs.declared.vote.Vote.{Vote}
use Rattle.cw_rules.specs.Accepted.{Ballot}
use Rattle.cw_rules.specs.Owed.{ballot_vote, note_proposal, note_vote}
use Rattle.note_scans.specs.Keys.{key_of, same_key}
use Rattle.note_scans.specs.declared.key.VoteKey.{VoteKey}
use Rattle.voter.specs.Known.{Known, with_note}
use Rattle.voter.specs.Lines.{AreLines}
use Rattle.voter.specs.Waiting.{AreWaiting, came_proposals, can_certify, was_but}
use Rattle.voter.specs.declared.lines.Lines.{Lines}
use Rattle.voter.specs.declared.own.OwnChunk.{OwnChunk}
use Rattle.voter.specs.declared.waiting.Waiting.{Waiting}
use Rattle.voter.proofs.Once.{filter_same_test}
use Rattle.cw_types.proofs.Same.{same_proposal_self}
use Rattle.voter.proofs.Certifying.{certify_noted}
use Rattle.voter.proofs.Lineups.{lineup_same}

map_more : {X Y : Type 0} (f : X → Y) (xs : List X) (x : X)
    → map f (xs ++ x ∷ []) ≡ map f xs ++ f x ∷ []
map_more f [] x = refl
map_more f (y ∷ ys) x = ap (λ zs. f y ∷ zs) (map_more f ys x)

-- the votes that what came names, with one more
pub votes_more : (ballots : List Ballot) (b : Ballot) (v : Vote) → ballot_vote b ≡ v
    → map ballot_vote ballots ++ v ∷ [] ≡ map ballot_vote (ballots ++ b ∷ [])
votes_more ballots b v is =
    ap (λ w. map ballot_vote ballots ++ w ∷ []) (sym is) ∙ sym (map_more ballot_vote ballots b)

-- and the proposals
pub proposals_more : (ballots : List Ballot) (b : Ballot) (v : Vote) (o : Option Proposal)
    → ballot_vote b ≡ v → proposal_of v ≡ o
    → came_proposals ballots ++ cons_option o [] ≡ came_proposals (ballots ++ b ∷ [])
proposals_more ballots b v o is names =
    ap (λ p. came_proposals ballots ++ cons_option p [])
    (sym names ∙ ap proposal_of (sym is))
    ∙ sym (filter_map-append (λ a. proposal_of (ballot_vote a)) ballots (b ∷ []))

-- tests that say the same
pub lines_same : {X : Type 0} (key : X → VoteKey) (same : X → X → Bool) (was now : X → Bool)
    (came noted : List X) (l : Lines X) → ((x : X) → was x ≡ now x)
    → AreLines key same was came noted l → AreLines key same now came noted l
lines_same key same was now came noted l e are = record {
  of_came =
      lineup_same same_key key same was now came l.came.places.entries l.came.count
      l.came.waiting.items e are.of_came;
  of_notes =
      lineup_same same_key key same was now noted l.noted.places.entries l.noted.count
      l.noted.waiting.items e are.of_notes;
}

-- a note that names no vote
pub votes_unnamed : (t : Known) (note : Note) (came noted : List Vote) (l : Lines Vote)
    → note_vote note ≡ None → AreLines key_of same_vote (can_certify t) came noted l
    → AreLines key_of same_vote (can_certify (with_note t note)) came
    (noted ++ cons_option (note_vote note) []) l
votes_unnamed t note came noted l none are =
    subst (λ ns. AreLines key_of same_vote (can_certify (with_note t note)) came ns l)
    (sym (append_nil noted) ∙ ap (λ o. noted ++ cons_option o []) (sym none))
    (lines_same key_of same_vote (can_certify t) (can_certify (with_note t note)) came noted l
    (λ v. certify_noted t note v
    (λ w k. let f : ◌≡◌ {A = Option Vote} None (Some w) = sym none ∙ k in cc))
    are)
  where
    append_nil : {X : Type 0} (xs : List X) → xs ++ [] ≡ xs
    append_nil [] = refl
    append_nil (x ∷ xs) = ap (λ zs. x ∷ zs) (append_nil xs)

pub append_none : {X : Type 0} (xs : List X) → xs ++ [] ≡ xs
append_none [] = refl
append_none (x ∷ xs) = ap (λ zs. x ∷ zs) (append_none xs)

-- the notes' votes and proposals, with one note more
pub note_votes_more : (notes : List Note) (note : Note)
    → filter_map note_vote notes ++ cons_option (note_vote note) []
    ≡ filter_map note_vote (notes ++ note ∷ [])
note_votes_more notes note = sym (filter_map-append note_vote notes (note ∷ []))

pub note_proposals_more : (notes : List Note) (note : Note)
    → filter_map note_proposal notes ++ cons_option (note_proposal note) []
    ≡ filter_map note_proposal (notes ++ note ∷ [])
note_proposals_more notes note = sym (filter_map-append note_proposal notes (note ∷ []))

-- the test of the one that is named, and of another
pub but_itself : (was now : Proposal → Bool) (p : Proposal) → now p ≡ was_but was now (Some p) p
but_itself was now p = ap (λ b. if b then now p else was p) (sym (same_proposal_self p))

pub but_others : (was now : Proposal → Bool) (p q : Proposal) → same_proposal p q ≡ false
    → was q ≡ was_but was now (Some p) q
but_others was now p q e = ap (λ b. if b then now q else was q) (sym e)

-- own chunks change nothing of what waits
pub waits_apart : (x : Epochs) (id : ℕ) (notes : List Note) (ballots : List Ballot)
    (own other : List OwnChunk) (w : Waiting)
    → AreWaiting
    (record { epochs = x; id = id; notes = notes; ballots = ballots; own = own }) w
    → AreWaiting
    (record { epochs = x; id = id; notes = notes; ballots = ballots; own = other }) w
waits_apart x id notes ballots own other w are =
    record { votes = are.votes; proposals = are.proposals; in_views = are.in_views }

-- ---- those that wait, without their places

item_at : {X : Type 0} (xs : List (ℕ × X)) (i : ℕ)
    → option_map (λ (at : ℕ × X). at.1) (slice_get xs i)
    ≡ slice_get (map (λ (at : ℕ × X). at.1) xs) i
item_at [] i = refl
item_at (x ∷ xs) zero = refl
item_at (x ∷ xs) (suc i) = item_at xs i

items_filter : {X : Type 0} (p : X → Bool) (xs : List (ℕ × X))
    → map (λ (at : ℕ × X). at.1) (filter (λ (at : ℕ × X). p at.1) xs)
    ≡ filter p (map (λ (at : ℕ × X). at.1) xs)
items_filter p [] = refl
items_filter p (x ∷ xs) = go (p x.1) (items_filter p xs)
  where
    go : (b : Bool)
        → map (λ at. at.1) (filter (λ at. p at.1) xs) ≡ filter p (map (λ at. at.1) xs)
        → map (λ at. at.1) (cond b (x ∷ filter (λ at. p at.1) xs) (filter (λ at. p at.1) xs))
        ≡ cond b (x.1 ∷ filter p (map (λ at. at.1) xs)) (filter p (map (λ at. at.1) xs))
    go true more = ap (λ l. x.1 ∷ l) more
    go false more = more

items_append : {X : Type 0} (xs ys : List (ℕ × X))
    → map (λ (at : ℕ × X). at.1) (xs ++ ys)
    ≡ map (λ (at : ℕ × X). at.1) xs ++ map (λ (at : ℕ × X). at.1) ys
items_append [] ys = refl
items_append (x ∷ xs) ys = ap (λ l. x.1 ∷ l) (items_append xs ys)

items_any : {X : Type 0} (p : X → Bool) (xs : List (ℕ × X))
    → list_any (λ (at : ℕ × X). p at.1) xs ≡ list_any p (map (λ (at : ℕ × X). at.1) xs)
items_any p [] = refl
items_any p (x ∷ xs) = ap (λ b. p x.1 || b) (items_any p xs)

-- the one at a place of those that pass
item_found_in : {X : Type 0} (same : X → X → Bool) (u : X → Bool) (ws us : List (ℕ × X)) (i : ℕ)
    (found : Option X)
    → found
    ≡ option_map (λ (at : ℕ × X). at.1)
    (slice_get
    (filter (λ (at : ℕ × X). u at.1)
    (ws ++ filter (λ (at : ℕ × X). not (list_any (λ (w : ℕ × X). same at.1 w.1) ws)) us))
    i)
    → found
    ≡ slice_get
    (filter u
    (map (λ (at : ℕ × X). at.1) ws
    ++ filter (λ p. not (list_any (same p) (map (λ (at : ℕ × X). at.1) ws)))
    (map (λ (at : ℕ × X). at.1) us)))
    i
item_found_in same u ws us i found e =
    e
    ∙ (item_at
    (filter (λ at. u at.1) (ws ++ filter (λ at. not (list_any (λ w. same at.1 w.1) ws)) us)) i
    ∙ ap (λ l. slice_get l i)
    (items_filter u (ws ++ filter (λ at. not (list_any (λ w. same at.1 w.1) ws)) us)
    ∙ ap (filter u)
    (items_append ws (filter (λ at. not (list_any (λ w. same at.1 w.1) ws)) us)
    ∙ ap (λ l. map (λ at. at.1) ws ++ l)
    (items_filter (λ p. not (list_any (λ w. same p w.1) ws)) us
    ∙ filter_same_test (λ p. not (list_any (λ w. same p w.1) ws))
    (λ p. not (list_any (same p) (map (λ at. at.1) ws)))
    (λ p. ap not (items_any (same p) ws)) (map (λ at. at.1) us)))))

-- the same of lists that are those
pub item_found : {X : Type 0} (same : X → X → Bool) (u : X → Bool) (ws us xs ys : List (ℕ × X))
    (i : ℕ) (found : Option X) → ws ≡ xs → us ≡ ys
    → found
    ≡ option_map (λ (at : ℕ × X). at.1)
    (slice_get
    (filter (λ (at : ℕ × X). u at.1)
    (ws ++ filter (λ (at : ℕ × X). not (list_any (λ (w : ℕ × X). same at.1 w.1) ws)) us))
    i)
    → found
    ≡ slice_get
    (filter u
    (map (λ (at : ℕ × X). at.1) xs
    ++ filter (λ p. not (list_any (same p) (map (λ (at : ℕ × X). at.1) xs)))
    (map (λ (at : ℕ × X). at.1) ys)))
    i
item_found same u ws us xs ys i found e f h =
    item_found_in same u ws us i found h
    ∙ (ap
    (λ zs. slice_get
    (filter u
    (map (λ at. at.1) zs
    ++ filter (λ p. not (list_any (same p) (map (λ at. at.1) zs))) (map (λ at. at.1) us)))
    i)
    e
    ∙ ap
    (λ zs. slice_get
    (filter u
    (map (λ at. at.1) xs
    ++ filter (λ p. not (list_any (same p) (map (λ at. at.1) xs))) (map (λ at. at.1) zs)))
    i)
    f)
