-- Of which votes a certificate can be noted changes of the one that is named alone.
use Rattle.std.proofs.Common.{◌≡◌, ◌&&◌, ◌||◌, ◌==◌, ℕ, Bool, true, false, not, refl, sym, ◌∙◌, ap, if◌then◌else◌, List, [], ◌∷◌, ◌++◌, Option, Some, None, filter, length}
use Rattle.std.specs.List.{find, list_any}
use Rattle.std.specs.Option.{is_some, option_or}
use Rattle.std.proofs.lemmas.List.Folds.{find-append, list_any-append}
use Rattle.cw_types.specs.Epochs.{is_enough, members_in}
use Rattle.cw_types.specs.Same.{same_vote}
use Rattle.cw_types.specs.Votes.{vote_epoch}
use Rattle.cw_types.specs.declared.note.Note.{Note}
use Rattle.cw_types.specs.declared.vote.Vote.{Vote}
use Rattle.cw_rules.specs.Accepted.{Ballot, Many, Single}
use Rattle.cw_rules.specs.Notes.{has_cert, has_vote, is_cert, is_vote}
use Rattle.cw_rules.specs.Owed.{ballot_vote, is_single, knows, note_vote}
use Rattle.note_scans.specs.Keys.{key_of}
use Rattle.note_scans.proofs.Keys.{keys_of_same, same_key_symm}
use Rattle.voter.specs.Known.{Known, is_cert_for, known_state, with_note}
use Rattle.voter.specs.Waiting.{also_came, can_certify}
use Rattle.voter.proofs.Once.{filter_same_test}

vote_symm : (v w : Vote) → same_vote v w ≡ same_vote w v
vote_symm v w =
    sym (keys_of_same v w) ∙ (same_key_symm (key_of v) (key_of w) ∙ keys_of_same w v)

pub none_more : {X : Type 0} (p : X → Bool) (xs : List X) (x : X) → p x ≡ false
    → list_any p (xs ++ x ∷ []) ≡ list_any p xs
none_more p xs x e =
    list_any-append p xs (x ∷ [])
    ∙ (ap (λ b. list_any p xs || (b || false)) e ∙ or_false (list_any p xs))
  where
    or_false : (b : Bool) → (b || false) ≡ b
    or_false true = refl
    or_false false = refl

none_found : {X : Type 0} (p : X → Bool) (xs : List X) (x : X) → p x ≡ false
    → is_some (find p (xs ++ x ∷ [])) ≡ is_some (find p xs)
none_found {X = X} p xs x e =
    ap is_some (find-append p xs (x ∷ []))
    ∙ (ap (λ b. is_some (option_or (find p xs) (if b then Some x else None))) e ∙ go (find p xs))
  where
    go : (o : Option X) → is_some (option_or o None) ≡ is_some o
    go None = refl
    go (Some y) = refl

-- tests of what is known say the same of each member
same_count : (t u : Known) (v : Vote) → t.epochs ≡ u.epochs
    → ((i : ℕ) → knows t.id (known_state t) v i ≡ knows u.id (known_state u) v i)
    → is_enough t.epochs (vote_epoch v)
    (length (filter (knows t.id (known_state t) v) (members_in t.epochs (vote_epoch v))))
    ≡ is_enough u.epochs (vote_epoch v)
    (length (filter (knows u.id (known_state u) v) (members_in u.epochs (vote_epoch v))))
same_count t u v e same =
    ap (λ l. is_enough t.epochs (vote_epoch v) (length l))
    (filter_same_test (knows t.id (known_state t) v) (knows u.id (known_state u) v) same
    (members_in t.epochs (vote_epoch v)))
    ∙ ap
    (λ x. is_enough x (vote_epoch v)
    (length (filter (knows u.id (known_state u) v) (members_in x (vote_epoch v)))))
    e

pub certify_came : (t : Known) (b : Ballot) (w : Vote) → same_vote (ballot_vote b) w ≡ false
    → can_certify t w ≡ can_certify (also_came t b) w
certify_came t b w e =
    ap
    (λ c. not (has_cert t.notes w)
    && (c
    || is_enough t.epochs (vote_epoch w)
    (length (filter (knows t.id (known_state t) w) (members_in t.epochs (vote_epoch w))))))
    (sym (none_found (is_cert_for w) t.ballots b (no_cert b e)))
    ∙ ap
    (λ c. not (has_cert t.notes w) && (is_some (find (is_cert_for w) (t.ballots ++ b ∷ [])) || c))
    (same_count t (also_came t b) w refl
    (λ i. ap (λ c. c || ((i == t.id) && has_vote t.notes w))
    (sym (none_more (is_single i w) t.ballots b (no_single i b e)))))
  where
    no_cert : (b : Ballot) → same_vote (ballot_vote b) w ≡ false → is_cert_for w b ≡ false
    no_cert (Single j v) k = refl
    no_cert (Many s) k = vote_symm w s.vote ∙ k

    no_single : (i : ℕ) (b : Ballot) → same_vote (ballot_vote b) w ≡ false
        → is_single i w b ≡ false
    no_single i (Many s) k = refl
    no_single i (Single j v) k = ap (λ c. (i == j) && c) (vote_symm w v ∙ k) ∙ and_false (i == j)
      where
        and_false : (c : Bool) → (c && false) ≡ false
        and_false true = refl
        and_false false = refl

pub certify_noted : (t : Known) (note : Note) (w : Vote)
    → ((v : Vote) → note_vote note ≡ Some v → same_vote v w ≡ false)
    → can_certify t w ≡ can_certify (with_note t note) w
certify_noted t note w e =
    ap
    (λ c. not c
    && (is_some (find (is_cert_for w) t.ballots)
    || is_enough t.epochs (vote_epoch w)
    (length (filter (knows t.id (known_state t) w) (members_in t.epochs (vote_epoch w))))))
    (sym (none_more (is_cert w) t.notes note (no_cert note e)))
    ∙ ap
    (λ c. not (has_cert (t.notes ++ note ∷ []) w) && (is_some (find (is_cert_for w) t.ballots) || c))
    (same_count t (with_note t note) w refl
    (λ i. ap (λ c. list_any (is_single i w) t.ballots || ((i == t.id) && c))
    (sym (none_more (is_vote w) t.notes note (no_vote note e)))))
  where
    no_cert : (n : Note) → ((v : Vote) → note_vote n ≡ Some v → same_vote v w ≡ false)
        → is_cert w n ≡ false
    no_cert (Note.Cert s) k = vote_symm w s.vote ∙ k s.vote refl
    no_cert _ k = refl

    no_vote : (n : Note) → ((v : Vote) → note_vote n ≡ Some v → same_vote v w ≡ false)
        → is_vote w n ≡ false
    no_vote (Note.Vote v) k = vote_symm w v ∙ k v refl
    no_vote _ k = refl
