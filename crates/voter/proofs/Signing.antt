-- Who signed what, with one vote or note more.
use Rattle.std.proofs.Common.{◌≡◌, ℕ, ◌&&◌, ◌||◌, ◌==◌, Bool, true, false, not, refl, sym, subst, ◌∙◌, ap, eqb-true, if◌then◌else◌, List, [], ◌∷◌, ◌++◌, Some, None}
use Rattle.std.specs.List.{list_any}
use Rattle.std.proofs.lemmas.Bool.{false≢true}
use Rattle.std.proofs.lemmas.List.Folds.{list_any-append}
use Rattle.std.proofs.lemmas.Option.{same_Some}
use Rattle.cw_types.specs.Epochs.{Epochs, is_member}
use Rattle.cw_types.specs.Same.{same_vote}
use Rattle.cw_types.specs.Votes.{vote_epoch}
use Rattle.cw_types.specs.declared.note.Note.{Note}
use Rattle.cw_types.specs.declared.vote.Cert.{Cert}
use Rattle.cw_types.specs.declared.vote.Vote.{Vote}
use Rattle.cw_types.proofs.Same.{same_vote-true}
use Rattle.cw_rules.specs.Accepted.{Ballot, Many, Single, same_ballot}
use Rattle.cw_rules.specs.Notes.{has_vote, is_vote}
use Rattle.cw_rules.specs.Owed.{is_single}
use Rattle.voter.specs.Sets.{AreSameSets, HaveAdded, HaveRemoved, NoneEmpty, is_in_set}
use Rattle.voter.specs.Signing.{HaveSigners, counted_vote}
use Rattle.voter.proofs.InSets.{Entries}

or_false : (b : Bool) → (b || false) ≡ b
or_false true = refl
or_false false = refl

and_false : (b : Bool) → (b && false) ≡ false
and_false true = refl
and_false false = refl

-- ---- one more of each

single_more : (ballots : List Ballot) (x : Ballot) (v : Vote) (i : ℕ)
    → list_any (is_single i v) (ballots ++ x ∷ [])
    ≡ (list_any (is_single i v) ballots || is_single i v x)
single_more ballots x v i =
    list_any-append (is_single i v) ballots (x ∷ [])
    ∙ ap (λ b. list_any (is_single i v) ballots || b) (or_false (is_single i v x))

vote_more : (notes : List Note) (note : Note) (v : Vote)
    → has_vote (notes ++ note ∷ []) v ≡ (has_vote notes v || is_vote v note)
vote_more notes note v =
    list_any-append (is_vote v) notes (note ∷ [])
    ∙ ap (λ b. has_vote notes v || b) (or_false (is_vote v note))

-- whom the rules ask about is whom the ballots are told apart by
pub single_same : (i : ℕ) (v : Vote) (ballots : List Ballot)
    → list_any (is_single i v) ballots ≡ list_any (same_ballot (Single i v)) ballots
single_same i v [] = refl
single_same i v (Single j w ∷ xs) = ap (λ b. ((i == j) && same_vote v w) || b) (single_same i v xs)
single_same i v (Many s ∷ xs) = single_same i v xs

-- ---- tests put together

member_bools : (m a b s e : Bool) → (s ≡ true → e ≡ true → m ≡ true)
    → ((m && (a || b)) || (s && e)) ≡ (m && ((a || (e && s)) || b))
member_bools true true b s e h = refl
member_bools true false true true true h = refl
member_bools true false true true false h = refl
member_bools true false true false true h = refl
member_bools true false true false false h = refl
member_bools true false false true true h = refl
member_bools true false false true false h = refl
member_bools true false false false true h = refl
member_bools true false false false false h = refl
member_bools false a b true true h = absurd (false≢true (h refl refl))
member_bools false a b true false h = refl
member_bools false a b false e h = refl

stranger_bools : (m a b s e : Bool) → (s ≡ true → e ≡ true → m ≡ false)
    → (m && (a || b)) ≡ (m && ((a || (e && s)) || b))
stranger_bools true true b s e h = refl
stranger_bools true false b true true h = absurd (false≢true (sym (h refl refl)))
stranger_bools true false b false true h = refl
stranger_bools true false b s false h = refl
stranger_bools false a b s e h = refl

own_bools : (m a b s e : Bool) → (s ≡ true → e ≡ true → m ≡ true)
    → ((m && (a || (e && b))) || (s && e)) ≡ (m && (a || (e && (b || s))))
own_bools true true b s e h = refl
own_bools true false true s true h = refl
own_bools true false false true true h = refl
own_bools true false false false true h = refl
own_bools true false b true false h = refl
own_bools true false b false false h = refl
own_bools false a b true true h = absurd (false≢true (h refl refl))
own_bools false a b true false h = refl
own_bools false a b false e h = refl

other_bools : (m a b s e : Bool) → (s ≡ true → e ≡ true → m ≡ false)
    → (m && (a || (e && b))) ≡ (m && (a || (e && (b || s))))
other_bools true true b s e h = refl
other_bools true false b s false h = refl
other_bools true false b true true h = absurd (false≢true (sym (h refl refl)))
other_bools true false true false true h = refl
other_bools true false false false true h = refl
other_bools false a b s e h = refl

undone_bools : (a s e : Bool) → (s ≡ true → e ≡ true → a ≡ false)
    → ((a || (s && e)) && not (s && e)) ≡ a
undone_bools true true true h = absurd (false≢true (sym (h refl refl)))
undone_bools false true true h = refl
undone_bools true true false h = refl
undone_bools true false e h = refl
undone_bools false true false h = refl
undone_bools false false e h = refl

turned : (a b : Bool) → (a && b) ≡ (b && a)
turned true true = refl
turned true false = refl
turned false true = refl
turned false false = refl

none_false : {X : Type 0} (b : Bool) (v : X) → (if b then Some v else None) ≡ None → b ≡ false
none_false true v h = cc
none_false false v h = refl

pub not_false : (b : Bool) → not b ≡ false → b ≡ true
not_false true h = refl
not_false false h = absurd (false≢true (sym h))

-- ---- the sets

module _ (x : Epochs) (id : ℕ) where
  -- of a tally that knows nothing
  pub none_signed : (came known : Entries) → came ≡ [] → known ≡ []
      → HaveSigners x id [] [] came known
  none_signed came known e f = record {
    arrived = λ v i. ap (λ (es : Entries). is_in_set es v i) e;
    counted =
        λ v i.
        ap (λ (es : Entries). is_in_set es v i) f
        ∙ (sym (and_false (is_member x (vote_epoch v) i))
        ∙ ap (λ b. is_member x (vote_epoch v) i && b) (sym (and_false (i == id))));
    some = subst (λ (es : Entries). NoneEmpty es) (sym f) (λ v s h. cc);
  }

  module _ (notes : List Note) (ballots : List Ballot) (came known : Entries)
      (are : HaveSigners x id notes ballots came known) where
    -- who signed each vote that came, with one vote more
    arrived_more : (came' : Entries) (j : ℕ) (w : Vote) → HaveAdded came came' w j → (v : Vote)
        → (i : ℕ)
        → is_in_set came' v i ≡ list_any (is_single i v) (ballots ++ Single j w ∷ [])
    arrived_more came' j w added v i =
        added v i
        ∙ (ap (λ b. b || (same_vote v w && (i == j))) (are.arrived v i)
        ∙ (ap (λ b. list_any (is_single i v) ballots || b) (turned (same_vote v w) (i == j))
        ∙ sym (single_more ballots (Single j w) v i)))

    -- a member's vote came
    pub member_signed : (came' known' : Entries) (j : ℕ) (w : Vote) → HaveAdded came came' w j
        → HaveAdded known known' w j → NoneEmpty known' → is_member x (vote_epoch w) j ≡ true
        → HaveSigners x id notes (ballots ++ Single j w ∷ []) came' known'
    member_signed came' known' j w added known_added some is = record {
      arrived = arrived_more came' j w added;
      counted =
          λ v i.
          known_added v i
          ∙ (ap (λ b. b || (same_vote v w && (i == j))) (are.counted v i)
          ∙ (member_bools (is_member x (vote_epoch v) i) (list_any (is_single i v) ballots)
          ((i == id) && has_vote notes v) (same_vote v w) (i == j)
          (λ s e. ap (λ (u : Vote). is_member x (vote_epoch u) i) (same_vote-true v w s)
          ∙ (ap (λ (k : ℕ). is_member x (vote_epoch w) k) (eqb-true i j e) ∙ is))
          ∙ ap (λ b. is_member x (vote_epoch v) i && (b || ((i == id) && has_vote notes v)))
          (sym (single_more ballots (Single j w) v i))));
      some = some;
    }

    -- a stranger's vote came
    pub stranger_signed : (came' : Entries) (j : ℕ) (w : Vote) → HaveAdded came came' w j
        → is_member x (vote_epoch w) j ≡ false
        → HaveSigners x id notes (ballots ++ Single j w ∷ []) came' known
    stranger_signed came' j w added isnt = record {
      arrived = arrived_more came' j w added;
      counted =
          λ v i.
          are.counted v i
          ∙ (stranger_bools (is_member x (vote_epoch v) i) (list_any (is_single i v) ballots)
          ((i == id) && has_vote notes v) (same_vote v w) (i == j)
          (λ s e. ap (λ (u : Vote). is_member x (vote_epoch u) i) (same_vote-true v w s)
          ∙ (ap (λ (k : ℕ). is_member x (vote_epoch w) k) (eqb-true i j e) ∙ isnt))
          ∙ ap (λ b. is_member x (vote_epoch v) i && (b || ((i == id) && has_vote notes v)))
          (sym (single_more ballots (Single j w) v i)));
      some = are.some;
    }

    -- a vote that came was taken back
    pub undone_signed : (mid came' known' : Entries) (j : ℕ) (w : Vote) → HaveAdded came mid w j
        → HaveRemoved mid came' w j → AreSameSets known known' → NoneEmpty known'
        → list_any (is_single j w) ballots ≡ false
        → HaveSigners x id notes ballots came' known'
    undone_signed mid came' known' j w added removed same some new = record {
      arrived =
          λ v i.
          removed v i
          ∙ (ap (λ b. b && not (same_vote v w && (i == j)))
          (added v i ∙ ap (λ b. b || (same_vote v w && (i == j))) (are.arrived v i))
          ∙ undone_bools (list_any (is_single i v) ballots) (same_vote v w) (i == j)
          (λ s e. ap (λ (u : Vote). list_any (is_single i u) ballots) (same_vote-true v w s)
          ∙ (ap (λ (k : ℕ). list_any (is_single k w) ballots) (eqb-true i j e) ∙ new)));
      counted = λ v i. same v i ∙ are.counted v i;
      some = some;
    }

    -- no set changed
    pub same_signed : (came' known' : Entries) → AreSameSets came came' → AreSameSets known known'
        → NoneEmpty known' → HaveSigners x id notes ballots came' known'
    same_signed came' known' same known_same some = record {
      arrived = λ v i. same v i ∙ are.arrived v i;
      counted = λ v i. known_same v i ∙ are.counted v i;
      some = some;
    }

    -- a certificate came
    pub cert_signed : (s : Cert) → HaveSigners x id notes (ballots ++ Many s ∷ []) came known
    cert_signed s = record {
      arrived = λ v i. are.arrived v i ∙ sym (same v i);
      counted =
          λ v i.
          are.counted v i
          ∙ ap (λ b. is_member x (vote_epoch v) i && (b || ((i == id) && has_vote notes v)))
          (sym (same v i));
      some = are.some;
    }
      where
        same : (v : Vote) (i : ℕ)
            → list_any (is_single i v) (ballots ++ Many s ∷ []) ≡ list_any (is_single i v) ballots
        same v i =
            single_more ballots (Many s) v i ∙ or_false (list_any (is_single i v) ballots)

    -- the member noted a vote of an epoch of its own
    own_signed : (known' : Entries) (w : Vote) → HaveAdded known known' w id
        → NoneEmpty known' → is_member x (vote_epoch w) id ≡ true
        → HaveSigners x id (notes ++ Note.Vote w ∷ []) ballots came known'
    own_signed known' w added some is = record {
      arrived = are.arrived;
      counted =
          λ v i.
          added v i
          ∙ (ap (λ b. b || (same_vote v w && (i == id))) (are.counted v i)
          ∙ (own_bools (is_member x (vote_epoch v) i) (list_any (is_single i v) ballots)
          (has_vote notes v) (same_vote v w) (i == id)
          (λ s e. ap (λ (u : Vote). is_member x (vote_epoch u) i) (same_vote-true v w s)
          ∙ (ap (λ (k : ℕ). is_member x (vote_epoch w) k) (eqb-true i id e) ∙ is))
          ∙ ap
          (λ b. is_member x (vote_epoch v) i
          && (list_any (is_single i v) ballots || ((i == id) && b)))
          (sym (vote_more notes (Note.Vote w) v))));
      some = some;
    }

    pub note_signed : (note : Note) (w : Vote) (known' : Entries)
        → counted_vote x id note ≡ Some w → HaveAdded known known' w id → NoneEmpty known'
        → HaveSigners x id (notes ++ note ∷ []) ballots came known'
    note_signed (Note.Vote u) w known' e added some = go (is_member x (vote_epoch u) id) refl e
      where
        go : (b : Bool) → is_member x (vote_epoch u) id ≡ b → (if b then Some u else None) ≡ Some w
            → HaveSigners x id (notes ++ Note.Vote u ∷ []) ballots came known'
        go true is f =
            let same : w ≡ u = sym (same_Some u w f) in
            subst (λ (v : Vote). HaveSigners x id (notes ++ Note.Vote v ∷ []) ballots came known')
            same
            (own_signed known' w added some
            (ap (λ (v : Vote). is_member x (vote_epoch v) id) same ∙ is))
        go false is f = cc
    note_signed (Note.Block c b) w known' e added some = cc
    note_signed (Note.Verified d v c) w known' e added some = cc
    note_signed (Note.Certified p) w known' e added some = cc
    note_signed (Note.Cert s) w known' e added some = cc
    note_signed (Note.Ack h) w known' e added some = cc
    note_signed (Note.Floor h) w known' e added some = cc
    note_signed (Note.Prune h) w known' e added some = cc
    note_signed (Note.Epoch d c) w known' e added some = cc

    -- a note that doesn't count
    pub plain_signed : (note : Note) → counted_vote x id note ≡ None
        → HaveSigners x id (notes ++ note ∷ []) ballots came known
    plain_signed note none = record {
      arrived = are.arrived;
      counted =
          λ v i.
          are.counted v i
          ∙ (go note none v i
          ∙ ap
          (λ b. is_member x (vote_epoch v) i
          && (list_any (is_single i v) ballots || ((i == id) && b)))
          (sym (vote_more notes note v)));
      some = are.some;
    }
      where
        same : (v : Vote) (i : ℕ)
            → (is_member x (vote_epoch v) i
            && (list_any (is_single i v) ballots || ((i == id) && has_vote notes v)))
            ≡ (is_member x (vote_epoch v) i
            && (list_any (is_single i v) ballots || ((i == id) && (has_vote notes v || false))))
        same v i =
            ap
            (λ b. is_member x (vote_epoch v) i
            && (list_any (is_single i v) ballots || ((i == id) && b)))
            (sym (or_false (has_vote notes v)))

        go : (note : Note) → counted_vote x id note ≡ None → (v : Vote) (i : ℕ)
            → (is_member x (vote_epoch v) i
            && (list_any (is_single i v) ballots || ((i == id) && has_vote notes v)))
            ≡ (is_member x (vote_epoch v) i
            && (list_any (is_single i v) ballots
            || ((i == id) && (has_vote notes v || is_vote v note))))
        go (Note.Vote w) n v i =
            other_bools (is_member x (vote_epoch v) i) (list_any (is_single i v) ballots)
            (has_vote notes v) (same_vote v w) (i == id)
            (λ s e. ap (λ (u : Vote). is_member x (vote_epoch u) i) (same_vote-true v w s)
            ∙ (ap (λ (k : ℕ). is_member x (vote_epoch w) k) (eqb-true i id e)
            ∙ none_false (is_member x (vote_epoch w) id) w n))
        go (Note.Block c b) n v i = same v i
        go (Note.Verified d w c) n v i = same v i
        go (Note.Certified p) n v i = same v i
        go (Note.Cert s) n v i = same v i
        go (Note.Ack h) n v i = same v i
        go (Note.Floor h) n v i = same v i
        go (Note.Prune h) n v i = same v i
        go (Note.Epoch d c) n v i = same v i
