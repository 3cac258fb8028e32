-- What notes say by key, with one note more, and in the words of the rules.
use Rattle.std.proofs.Common.{◌≡◌, ℕ, ◌&&◌, ◌||◌, ◌==◌, Bool, true, false, refl, rules, sym, subst, ◌∙◌, ap, List, [], ◌∷◌, ◌++◌, Option, Some, None, unwrap_or, if◌then◌else◌}
use Rattle.std.specs.List.{list_any}
use Rattle.std.specs.Map.{lookup}
use Rattle.std.specs.Option.{is_some, option_map_or, option_or}
use Rattle.std.specs.Ordering.{is_eq}
use Rattle.std.specs.Prelude.{IsSome}
use Rattle.std.proofs.lemmas.Cmp.{nat_eq_equiv}
use Rattle.std.proofs.lemmas.List.Folds.{list_any-append}
use Rattle.cw_types.specs.Same.{same_commitment, same_proposal}
use Rattle.cw_types.specs.declared.note.Note.{Note}
use Rattle.cw_types.specs.declared.vote.Proposal.{Proposal}
use Rattle.cw_types.specs.declared.vote.Vote.{Vote}
use Rattle.cw_types.specs.declared.vote.Vote.TheVariants.{Finalize, Notarize, Nullify}
use Rattle.cw_types.proofs.Same.{same_commitment_self}
use Rattle.cw_rules.specs.Notes.{has_cert, has_certified, is_cert, is_certified}
use Rattle.cw_rules.specs.Owed.{closes, has_closed, has_voted, votes_in}
use Rattle.voter.specs.Facts.{HasSaid, IsThere, fact_of, note_says, own_fact}
use Rattle.note_scans.specs.Keys.{in_view, key_of, keyed, no_payload, same_key}
use Rattle.note_scans.specs.declared.key.VoteKey.{VoteKey}
use Rattle.note_scans.proofs.Keys.{found_key, key_cmp, keys_of_same, keys_tie, same_key_self, same_key_symm}

or_false : (b : Bool) → (b || false) ≡ b
or_false true = refl
or_false false = refl

or_true : (b : Bool) → (b || true) ≡ true
or_true true = refl
or_true false = refl

and_true : (b : Bool) → (b && true) ≡ b
and_true true = refl
and_true false = refl

abbrev pub Said : Type 0
Said = List (VoteKey × Bool)

-- what a map has at each key, after a value was put where there was none
abbrev pub PutFirst : {X : Type 0} → List (VoteKey × X) → List (VoteKey × X) → VoteKey → X → Type 0
PutFirst old new k x =
    (q : VoteKey) → lookup (λ (j : VoteKey). is_eq (key_cmp q j)) new
    ≡ option_or (lookup (λ (j : VoteKey). is_eq (key_cmp q j)) old)
    (if is_eq (key_cmp q k) then Some x else None)

pub first_put : {X : Type 0} (old new : List (VoteKey × X)) (k : VoteKey) (x : X)
    → PutFirst old new k x → (q : VoteKey)
    → lookup (same_key q) new
    ≡ option_or (lookup (same_key q) old) (if same_key q k then Some x else None)
first_put {X = X} old new k x puts q =
    sym (found_key new q)
    ∙ (puts q
    ∙ (ap (λ (o : Option X). option_or o (if is_eq (key_cmp q k) then Some x else None))
    (found_key old q)
    ∙ ap (λ b. option_or (lookup (same_key q) old) (if b then Some x else None))
    (sym (keys_tie q k))))

-- a key that says nothing
pub said_prepared : (old new : Said) (k : VoteKey) → PutFirst old new k false → (notes : List Note)
    → HasSaid notes old → HasSaid notes new
said_prepared old new k puts notes has q =
    ap (λ (o : Option Bool). unwrap_or o false) (first_put old new k false puts q)
    ∙ (go (lookup (same_key q) old) (same_key q k) ∙ has q)
  where
    go : (o : Option Bool) (b : Bool)
        → unwrap_or (option_or o (if b then Some false else None)) false ≡ unwrap_or o false
    go None true = refl
    go None false = refl
    go (Some x) b = refl

-- it is there then
pub said_there : (old new : Said) (k : VoteKey) → PutFirst old new k false → (note : Note)
    → fact_of note ≡ Some k → IsThere note new
said_there old new k puts note is q e =
    ap (λ (o : Option Bool). is_some o) (first_put old new q false moved q)
    ∙ (ap
    (λ b. is_some (option_or (lookup (same_key q) old) (if b then Some false else None)))
    (same_key_self q)
    ∙ go (lookup (same_key q) old))
  where
    same : k ≡ q
    same = let h : ◌≡◌ {A = Option VoteKey} (Some k) (Some q) = sym is ∙ e in cc

    moved : PutFirst old new q false
    moved = subst (λ (j : VoteKey). PutFirst old new j false) same puts

    go : (o : Option Bool) → is_some (option_or o (Some false)) ≡ true
    go None = refl
    go (Some x) = refl

says_more : (q : VoteKey) (notes : List Note) (note : Note)
    → list_any (note_says q) (notes ++ note ∷ [])
    ≡ (list_any (note_says q) notes || note_says q note)
says_more q notes note =
    list_any-append (note_says q) notes (note ∷ [])
    ∙ ap (λ b. list_any (note_says q) notes || b) (or_false (note_says q note))

-- a note that says something
pub said_with : (old new : Said) (notes : List Note) (note : Note) (k : VoteKey)
    → HasSaid notes old → fact_of note ≡ Some k
    → ((q : VoteKey) → lookup (λ (j : VoteKey). is_eq (key_cmp q j)) new
    ≡ (if is_eq (key_cmp k q) then Some true
    else lookup (λ (j : VoteKey). is_eq (key_cmp q j)) old))
    → HasSaid (notes ++ note ∷ []) new
said_with old new notes note k has is sets q =
    ap (λ (o : Option Bool). unwrap_or o false)
    (sym (found_key new q)
    ∙ (sets q
    ∙ (ap (λ b. if b then Some true else lookup (λ (j : VoteKey). is_eq (key_cmp q j)) old)
    (sym (keys_tie k q) ∙ same_key_symm k q)
    ∙ ap (λ (o : Option Bool). if same_key q k then Some true else o) (found_key old q))))
    ∙ (go (same_key q k)
    ∙ (ap (λ (o : Option VoteKey). list_any (note_says q) notes
    || option_map_or (same_key q) o false)
    (sym is)
    ∙ sym (says_more q notes note)))
  where
    go : (b : Bool)
        → unwrap_or (if b then Some true else lookup (same_key q) old) false
        ≡ (list_any (note_says q) notes || b)
    go true = sym (or_true (list_any (note_says q) notes))
    go false = has q ∙ sym (or_false (list_any (note_says q) notes))

-- ---- in the words of the rules

pub any_same : {X : Type 0} (p q : X → Bool) → ((x : X) → p x ≡ q x) → (xs : List X)
    → list_any p xs ≡ list_any q xs
any_same p q e [] = refl
any_same p q e (x ∷ xs) =
    ap (λ b. b || list_any p xs) (e x) ∙ ap (λ b. q x || b) (any_same p q e xs)

any_or : {X : Type 0} (p q r : X → Bool) → ((x : X) → (p x || q x) ≡ r x) → (xs : List X)
    → (list_any p xs || list_any q xs) ≡ list_any r xs
any_or p q r e [] = refl
any_or p q r e (x ∷ xs) =
    go (p x) (q x) (list_any p xs) (list_any q xs)
    ∙ (ap (λ b. b || (list_any p xs || list_any q xs)) (e x)
    ∙ ap (λ b. r x || b) (any_or p q r e xs))
  where
    go : (a b c d : Bool) → ((a || c) || (b || d)) ≡ ((a || b) || (c || d))
    go true b c d = refl
    go false true true d = refl
    go false true false d = refl
    go false false c d = refl

-- keys of two kinds
own_other : (v w : Vote) → same_key (key_of v) (own_fact w) ≡ false
own_other (Notarize p) (Notarize q) = refl
own_other (Notarize p) (Nullify e w) = refl
own_other (Notarize p) (Finalize q) = refl
own_other (Nullify d v) (Notarize q) = refl
own_other (Nullify d v) (Nullify e w) = refl
own_other (Nullify d v) (Finalize q) = refl
own_other (Finalize p) (Notarize q) = refl
own_other (Finalize p) (Nullify e w) = refl
own_other (Finalize p) (Finalize q) = refl

proposal_other : (v : Vote) (p : Proposal) → same_key (key_of v) (keyed 3 p) ≡ false
proposal_other (Notarize q) p = refl
proposal_other (Nullify e w) p = refl
proposal_other (Finalize q) p = refl

pub said_cert : (v : Vote) (notes : List Note)
    → list_any (note_says (key_of v)) notes ≡ has_cert notes v
said_cert v notes = any_same (note_says (key_of v)) (is_cert v) here notes
  where
    here : (n : Note) → note_says (key_of v) n ≡ is_cert v n
    here (Note.Block c b) = refl
    here (Note.Verified e w c) = refl
    here (Note.Certified p) = proposal_other v p
    here (Note.Vote w) = own_other v w
    here (Note.Cert s) = keys_of_same v s.vote
    here (Note.Ack h) = refl
    here (Note.Floor h) = refl
    here (Note.Prune h) = refl
    here (Note.Epoch e c) = refl

same_on : (p q : Proposal) → same_key (keyed 3 p) (keyed 3 q) ≡ same_proposal p q
unfolding same_proposal
same_on p q = refl

pub said_certified : (p : Proposal) (notes : List Note)
    → list_any (note_says (keyed 3 p)) notes ≡ has_certified notes p
said_certified p notes = any_same (note_says (keyed 3 p)) (is_certified p) here notes
  where
    own : (w : Vote) → same_key (keyed 3 p) (own_fact w) ≡ false
    own (Notarize q) = refl
    own (Nullify e v) = refl
    own (Finalize q) = refl

    cert : (w : Vote) → same_key (keyed 3 p) (key_of w) ≡ false
    cert (Notarize q) = refl
    cert (Nullify e v) = refl
    cert (Finalize q) = refl

    here : (n : Note) → note_says (keyed 3 p) n ≡ is_certified p n
    here (Note.Block c b) = refl
    here (Note.Verified e w c) = refl
    here (Note.Certified q) = same_on p q
    here (Note.Vote w) = own w
    here (Note.Cert s) = cert s.vote
    here (Note.Ack h) = refl
    here (Note.Floor h) = refl
    here (Note.Prune h) = refl
    here (Note.Epoch e c) = refl

-- keys of one kind, of two views
pub same_view : (kind epoch view e v : ℕ)
    → same_key (in_view kind epoch view) (in_view kind e v) ≡ ((e == epoch) && (v == view))
same_view kind epoch view e v =
    ap (λ b. b && ((epoch == e) && ((view == v) && same_commitment_of))) (self kind)
    ∙ (ap (λ b. (epoch == e) && ((view == v) && b)) (same_commitment_self no_payload)
    ∙ (ap (λ b. (epoch == e) && b) (and_true (view == v))
    ∙ (ap (λ b. b && (view == v)) (nat_eq_equiv.symm epoch e)
    ∙ ap (λ b. (e == epoch) && b) (nat_eq_equiv.symm view v))))
  where
    same_commitment_of : Bool
    same_commitment_of = same_commitment no_payload no_payload

    self : (n : ℕ) → (n == n) ≡ true
    self n = nat_eq_equiv.refl n

closed_in : (epoch view : ℕ) (n : Note) → note_says (in_view 5 epoch view) n ≡ closes epoch view n
closed_in epoch view (Note.Block c b) = refl
closed_in epoch view (Note.Verified e w c) = refl
closed_in epoch view (Note.Certified q) = refl
closed_in epoch view (Note.Vote (Notarize p)) = refl
closed_in epoch view (Note.Vote (Nullify e v)) = same_view 5 epoch view e v
closed_in epoch view (Note.Vote (Finalize p)) = same_view 5 epoch view p.epoch p.view
closed_in epoch view (Note.Cert s) = cert s.vote
  where
    cert : (w : Vote) → same_key (in_view 5 epoch view) (key_of w) ≡ false
    cert (Notarize q) = refl
    cert (Nullify e v) = refl
    cert (Finalize q) = refl
closed_in epoch view (Note.Ack h) = refl
closed_in epoch view (Note.Floor h) = refl
closed_in epoch view (Note.Prune h) = refl
closed_in epoch view (Note.Epoch e c) = refl

voted_in : (epoch view : ℕ) (n : Note)
    → (note_says (in_view 4 epoch view) n || note_says (in_view 5 epoch view) n)
    ≡ votes_in epoch view n
voted_in epoch view (Note.Block c b) = refl
voted_in epoch view (Note.Verified e w c) = refl
voted_in epoch view (Note.Certified q) = refl
voted_in epoch view (Note.Vote (Notarize p)) =
    or_false (same_key (in_view 4 epoch view) (in_view 4 p.epoch p.view))
    ∙ same_view 4 epoch view p.epoch p.view
voted_in epoch view (Note.Vote (Nullify e v)) = same_view 5 epoch view e v
voted_in epoch view (Note.Vote (Finalize p)) = same_view 5 epoch view p.epoch p.view
voted_in epoch view (Note.Cert s) = cert s.vote
  where
    cert : (w : Vote)
        → (same_key (in_view 4 epoch view) (key_of w) || same_key (in_view 5 epoch view) (key_of w))
        ≡ false
    cert (Notarize q) = refl
    cert (Nullify e v) = refl
    cert (Finalize q) = refl
voted_in epoch view (Note.Ack h) = refl
voted_in epoch view (Note.Floor h) = refl
voted_in epoch view (Note.Prune h) = refl
voted_in epoch view (Note.Epoch e c) = refl

pub said_closed : (epoch view : ℕ) (notes : List Note)
    → list_any (note_says (in_view 5 epoch view)) notes ≡ has_closed notes epoch view
said_closed epoch view notes =
    any_same (note_says (in_view 5 epoch view)) (closes epoch view) (closed_in epoch view) notes

pub said_voted : (epoch view : ℕ) (notes : List Note)
    → (list_any (note_says (in_view 4 epoch view)) notes
    || list_any (note_says (in_view 5 epoch view)) notes)
    ≡ has_voted notes epoch view
said_voted epoch view notes =
    any_or (note_says (in_view 4 epoch view)) (note_says (in_view 5 epoch view))
    (votes_in epoch view)
    (voted_in epoch view) notes

-- a key that is there, by the order of keys
pub some_there : {X : Type 0} (o : Option X) → is_some o ≡ true → IsSome o
some_there (Some x) h = search rules
some_there None h = cc

pub said_is_there : (es : Said) (note : Note) (k : VoteKey) → IsThere note es
    → fact_of note ≡ Some k → IsSome (lookup (λ (j : VoteKey). is_eq (key_cmp k j)) es)
said_is_there es note k there is =
    subst (λ (o : Option Bool). IsSome o) (sym (found_key es k))
    (some_there (lookup (same_key k) es) (there k is))
