-- A tally goes on standing for a member when both are told the same.
use Rattle.std.proofs.Common.{◌≡◌, ◌&&◌, ◌||◌, ◌==◌, ◌⊎◌, inl, inr, ℕ, Bool, true, false, not, if◌then◌else◌, List, [], ◌∷◌, ◌++◌, Some, refl, sym, ◌∙◌, ap, subst, eqb-true, eq-eqb}
use Rattle.std.specs.List.{list_any}
use Rattle.std.proofs.lemmas.Bool.{and_from, and_parts, cases_Bool, or_left, or_right}
use Rattle.std.proofs.lemmas.List.Folds.{list_any-append}
use Rattle.cw_base.specs.declared.hash.Digest32.{Digest32}
use Rattle.cw_types.specs.Block.{Block}
use Rattle.cw_types.specs.Encoding.{block_bytes, context_bytes}
use Rattle.cw_types.specs.Epochs.{place}
use Rattle.cw_types.specs.Same.{same_commitment}
use Rattle.cw_types.specs.declared.commitment.Commitment.{Commitment}
use Rattle.cw_types.specs.declared.event.Handed.{Handed}
use Rattle.cw_types.specs.declared.note.Note.{Note}
use Rattle.cw_rules.specs.Accepted.{Ballot, Came, Part, Row, State, Whole, add_wish, same_ballot, same_part, take_ballot, take_part}
use Rattle.cw_rules.specs.Owed.{is_row_at}
use Rattle.cw_rules.specs.Rules.{Chunk, Rules}
use Rattle.cw_rules.specs.Step.{nothing_came, with_handed, with_notes}
use Rattle.cw_types.proofs.Same.{same_commitment-true}
use Rattle.voter.specs.Known.{Known, is_own_at, known_came, with_note, unknowing, with_ballot, with_own}
use Rattle.voter.specs.Standing.{IsTallyOf, with_came}

or_false : (b : Bool) → (b || false) ≡ b
or_false true = refl
or_false false = refl

or_known : (b c : Bool) → (c ≡ true → b ≡ true) → b ≡ (b || c)
or_known true c f = refl
or_known false true f = f refl
or_known false false f = refl

-- what came with one more ballot, unless it is there
abbrev ballot_if : Came → Ballot → Bool → Came
ballot_if came x there =
    if true && not there then record {
      ballots = came.ballots ++ x ∷ [];
      parts = came.parts;
      wishes = came.wishes;
    } else came

-- with one more part, unless it is there
abbrev part_if : Came → Part → Bool → Came
part_if came x there =
    if true && not there then record {
      ballots = came.ballots;
      parts = came.parts ++ x ∷ [];
      wishes = came.wishes;
    } else came

-- the ballots depend on the ballots alone, and the parts stay
same_ballots : (a b : Came) (x : Ballot) → a.ballots ≡ b.ballots
    → (take_ballot a true x).ballots ≡ (take_ballot b true x).ballots
same_ballots a b x e =
    of a ∙ (ap (λ xs. if list_any (same_ballot x) xs then xs else xs ++ x ∷ []) e ∙ sym (of b))
  where
    go : (came : Came) (there : Bool)
        → (ballot_if came x there).ballots
        ≡ (if there then came.ballots else came.ballots ++ x ∷ [])
    go came true = refl
    go came false = refl

    of : (came : Came)
        → (take_ballot came true x).ballots
        ≡ (if list_any (same_ballot x) came.ballots then came.ballots
        else came.ballots ++ x ∷ [])
    of came = go came (list_any (same_ballot x) came.ballots)

ballot_parts : (came : Came) (x : Ballot) → (take_ballot came true x).parts ≡ came.parts
ballot_parts came x = go (list_any (same_ballot x) came.ballots)
  where
    go : (there : Bool) → (ballot_if came x there).parts ≡ came.parts
    go true = refl
    go false = refl

part_ballots : (came : Came) (x : Part) → (take_part came true x).ballots ≡ came.ballots
part_ballots came x = go (list_any (same_part x) came.parts)
  where
    go : (there : Bool) → (part_if came x there).ballots ≡ came.ballots
    go true = refl
    go false = refl

-- a chunk that came before, at its place
row_seen : (c : Commitment) (x : Chunk) (parts : List Part)
    → list_any (same_part (Row c x)) parts ≡ true → list_any (is_row_at x.index c) parts ≡ true
row_seen c x [] h = cc
row_seen c x (Whole b ∷ parts) h = row_seen c x parts h
row_seen c x (Row d y ∷ parts) h =
    go (cases_Bool (same_part (Row c x) (Row d y))) (row_seen c x parts)
  where
    go : (same_part (Row c x) (Row d y) ≡ true) ⊎ (same_part (Row c x) (Row d y) ≡ false)
        → (list_any (same_part (Row c x)) parts ≡ true
        → list_any (is_row_at x.index c) parts ≡ true)
        → list_any (is_row_at x.index c) (Row d y ∷ parts) ≡ true
    go (inl e) more =
        let p = and_parts (same_commitment c d) (x.index == y.index) e in
        let at : (y.index == x.index) ≡ true =
        eq-eqb y.index x.index (sym (eqb-true x.index y.index p.1)) in
        or_left (is_row_at x.index c (Row d y)) (list_any (is_row_at x.index c) parts)
        (and_from (same_commitment c d) (y.index == x.index) p.0 at)
    go (inr e) more =
        or_right (is_row_at x.index c (Row d y)) (list_any (is_row_at x.index c) parts)
        (more (rw e at h))

-- a part that is taken, at a place that those before it have where they have the part
taken_at : (came : Came) (x : Part) (at : ℕ) (c : Commitment)
    → (list_any (same_part x) came.parts ≡ true → is_row_at at c x ≡ true
    → list_any (is_row_at at c) came.parts ≡ true)
    → list_any (is_row_at at c) (take_part came true x).parts
    ≡ (list_any (is_row_at at c) came.parts || is_row_at at c x)
taken_at came x at c seen = go (list_any (same_part x) came.parts) seen
  where
    go : (there : Bool)
        → (there ≡ true → is_row_at at c x ≡ true → list_any (is_row_at at c) came.parts ≡ true)
        → list_any (is_row_at at c) (part_if came x there).parts
        ≡ (list_any (is_row_at at c) came.parts || is_row_at at c x)
    go true known = or_known (list_any (is_row_at at c) came.parts) (is_row_at at c x) (known refl)
    go false known =
        list_any-append (is_row_at at c) came.parts (x ∷ [])
        ∙ ap (λ b. list_any (is_row_at at c) came.parts || b) (or_false (is_row_at at c x))

row_taken : (came : Came) (d : Commitment) (x : Chunk) (at : ℕ) (c : Commitment)
    → list_any (is_row_at at c) (take_part came true (Row d x)).parts
    ≡ (list_any (is_row_at at c) came.parts || is_row_at at c (Row d x))
row_taken came d x at c = taken_at came (Row d x) at c (λ there own.
    let p = and_parts (same_commitment c d) (x.index == at) own in
    let of : d ≡ c = sym (same_commitment-true c d p.0) in
    subst (λ e. list_any (is_row_at at e) came.parts ≡ true) of
    (subst (λ i. list_any (is_row_at i d) came.parts ≡ true) (eqb-true x.index at p.1)
    (row_seen d x came.parts there)))

pub start_stands : (hash : List ℕ → Digest32) (r : Rules) (id : ℕ) (given : List ℕ) → r.hash ≡ hash
    → r.block_bytes ≡ block_bytes → r.context_bytes ≡ context_bytes
    → IsTallyOf hash (unknowing r.epochs id) r (record {
      notes = [];
      came = nothing_came;
      given = given;
    })
start_stands hash r id given h b c =
    record {
      epochs = refl;
      hash_same = h;
      blocks = b;
      contexts = c;
      notes = refl;
      ballots = refl;
      own = λ epoch at c p. refl;
    }

module _ (hash : List ℕ → Digest32) (t : Known) (r : Rules) (s : State)
    (stands : IsTallyOf hash t r s) where
  pub note_kept : (note : Note) → IsTallyOf hash (with_note t note) r (with_notes s (note ∷ []))
  note_kept note = record {
    epochs = stands.epochs;
    hash_same = stands.hash_same;
    blocks = stands.blocks;
    contexts = stands.contexts;
    notes = ap (λ notes. notes ++ note ∷ []) stands.notes;
    ballots = stands.ballots;
    own = stands.own;
  }

  pub ballot_kept : (x : Ballot)
      → IsTallyOf hash (with_ballot t x) r (with_came s (take_ballot s.came true x))
  ballot_kept x = record {
    epochs = stands.epochs;
    hash_same = stands.hash_same;
    blocks = stands.blocks;
    contexts = stands.contexts;
    notes = stands.notes;
    ballots = same_ballots s.came (known_came t) x stands.ballots;
    own =
        λ epoch at c p. ap (list_any (is_row_at at c)) (ballot_parts s.came x)
        ∙ stands.own epoch at c p;
  }

  -- a part that came to the member, where the tally was told the like
  part_kept : (u : Known) (x : Part) → u.epochs ≡ t.epochs → u.id ≡ t.id → u.notes ≡ t.notes
      → u.ballots ≡ t.ballots
      → ((epoch at : ℕ) (c : Commitment) → place u.epochs epoch u.id ≡ Some at
      → list_any (is_row_at at c) (take_part s.came true x).parts
      ≡ list_any (is_own_at at c) u.own)
      → IsTallyOf hash u r (with_came s (take_part s.came true x))
  part_kept u x e i n b own = record {
    epochs = stands.epochs ∙ sym e;
    hash_same = stands.hash_same;
    blocks = stands.blocks;
    contexts = stands.contexts;
    notes = stands.notes ∙ sym n;
    ballots = part_ballots s.came x ∙ (stands.ballots ∙ sym b);
    own = own;
  }

  pub own_kept : (d : Commitment) (x : Chunk)
      → IsTallyOf hash (with_own t d x.index) r (with_came s (take_part s.came true (Row d x)))
  own_kept d x = part_kept (with_own t d x.index) (Row d x) refl refl refl refl (λ epoch at c p.
      row_taken s.came d x at c
      ∙ (ap (λ b. b || is_row_at at c (Row d x)) (stands.own epoch at c p)
      ∙ sym
      (list_any-append (is_own_at at c) t.own (record { commitment = d; index = x.index } ∷ [])
      ∙ ap (λ b. list_any (is_own_at at c) t.own || b)
      (or_false (is_own_at at c (record { commitment = d; index = x.index }))))))

  pub other_kept : (d : Commitment) (x : Chunk)
      → ((epoch : ℕ) → place t.epochs epoch t.id ≡ Some x.index → ⊥)
      → IsTallyOf hash t r (with_came s (take_part s.came true (Row d x)))
  other_kept d x other = part_kept t (Row d x) refl refl refl refl (λ epoch at c p.
      row_taken s.came d x at c
      ∙ (ap (λ b. list_any (is_row_at at c) s.came.parts || b)
      (elsewhere epoch at c p (cases_Bool (is_row_at at c (Row d x))))
      ∙ (or_false (list_any (is_row_at at c) s.came.parts) ∙ stands.own epoch at c p)))
    where
      elsewhere : (epoch at : ℕ) (c : Commitment) → place t.epochs epoch t.id ≡ Some at
          → (is_row_at at c (Row d x) ≡ true) ⊎ (is_row_at at c (Row d x) ≡ false)
          → is_row_at at c (Row d x) ≡ false
      elsewhere epoch at c p (inl e) =
          absurd
          (other epoch
          (p
          ∙ ap Some
          (sym
          (eqb-true x.index at
          (and_parts (same_commitment c d) (x.index == at) e).1))))
      elsewhere epoch at c p (inr e) = e

  pub block_kept : (b : Block) → IsTallyOf hash t r (with_came s (take_part s.came true (Whole b)))
  block_kept b = part_kept t (Whole b) refl refl refl refl (λ epoch at c p.
      taken_at s.came (Whole b) at c (λ there own. cc)
      ∙ (or_false (list_any (is_row_at at c) s.came.parts) ∙ stands.own epoch at c p))

  pub wish_kept : (c : Commitment) → IsTallyOf hash t r (with_came s (add_wish s.came c))
  wish_kept c = record {
    epochs = stands.epochs;
    hash_same = stands.hash_same;
    blocks = stands.blocks;
    contexts = stands.contexts;
    notes = stands.notes;
    ballots = stands.ballots;
    own = stands.own;
  }

  pub handed_kept : (out : List Handed) → IsTallyOf hash t r (with_handed s out)
  handed_kept out = record {
    epochs = stands.epochs;
    hash_same = stands.hash_same;
    blocks = stands.blocks;
    contexts = stands.contexts;
    notes = stands.notes;
    ballots = stands.ballots;
    own = stands.own;
  }
