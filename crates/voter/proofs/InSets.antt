-- Sets of members by vote, where one of them changes.
use Rattle.std.proofs.Common.{◌≡◌, ℕ, ◌<◌, ◌&&◌, ◌||◌, ◌==◌, Bool, true, false, not, cond, refl, sym, ◌∙◌, ap, subst, List, Option, Some, None, length}
use Rattle.std.specs.BTreeSet.{BTreeSet, contains}
use Rattle.std.specs.Cmp.{unsigned_ties}
use Rattle.std.specs.Map.{lookup}
use Rattle.std.specs.Option.{option_map_or}
use Rattle.std.specs.Ordering.{is_eq, nat_cmp}
use Rattle.std.specs.Prelude.{Err, Ok, OnErr, OnOk, Result}
use Rattle.std.proofs.lemmas.Cmp.{nat_eq_equiv}
use Rattle.std.proofs.lemmas.Option.{same_Some}
use Rattle.note_scans.specs.Keys.{key_of, same_key}
use Rattle.voter.specs.Sets.{NoneEmpty, is_in_set}
use Rattle.cw_types.specs.Same.{same_vote}
use Rattle.note_scans.specs.declared.key.VoteKey.{VoteKey}
use Rattle.cw_types.specs.declared.vote.Vote.{Vote}
use Rattle.note_scans.proofs.Keys.{found_key, key_cmp, keys_of_same, keys_tie, same_key-true, same_key_symm}

abbrev pub Entries : Type 0
Entries = List (VoteKey × BTreeSet ℕ)

-- an update of the map at a key
abbrev pub Sets : VoteKey → Option (BTreeSet ℕ) → Entries → Entries → Type 0
Sets k w old new =
    (q : VoteKey) → lookup (λ (j : VoteKey). is_eq (key_cmp q j)) new
    ≡ cond (is_eq (key_cmp k q)) w (lookup (λ (j : VoteKey). is_eq (key_cmp q j)) old)

set_at : (k : VoteKey) (w : Option (BTreeSet ℕ)) (old new : Entries) → Sets k w old new
    → (q : VoteKey) → lookup (same_key q) new ≡ cond (same_key q k) w (lookup (same_key q) old)
set_at k w old new sets q =
    sym (found_key new q)
    ∙ (sets q
    ∙ (ap (λ b. cond b w (lookup (λ (j : VoteKey). is_eq (key_cmp q j)) old))
    (sym (keys_tie k q) ∙ same_key_symm k q)
    ∙ ap (λ (o : Option (BTreeSet ℕ)). cond (same_key q k) w o) (found_key old q)))

or_false : (b : Bool) → b ≡ (b || false)
or_false true = refl
or_false false = refl

and_true : (b : Bool) → b ≡ (b && true)
and_true true = refl
and_true false = refl

-- a set with one member more
pub one_more : (old new : BTreeSet ℕ) (member : ℕ)
    → ((i : ℕ) → contains nat_cmp new i
    ≡ cond (is_eq (nat_cmp member i)) true (contains nat_cmp old i))
    → (i : ℕ) → contains nat_cmp new i ≡ (contains nat_cmp old i || (i == member))
one_more old new member h i =
    h i
    ∙ (ap (λ b. cond b true (contains nat_cmp old i))
    (sym (unsigned_ties member i) ∙ nat_eq_equiv.symm member i)
    ∙ go (i == member) (contains nat_cmp old i))
  where
    go : (a b : Bool) → cond a true b ≡ (b || a)
    go true true = refl
    go true false = refl
    go false b = or_false b

-- a set with one member less
pub one_less : (old new : BTreeSet ℕ) (member : ℕ)
    → ((i : ℕ) → contains nat_cmp new i
    ≡ cond (is_eq (nat_cmp member i)) false (contains nat_cmp old i))
    → (i : ℕ) → contains nat_cmp new i ≡ (contains nat_cmp old i && not (i == member))
one_less old new member h i =
    h i
    ∙ (ap (λ b. cond b false (contains nat_cmp old i))
    (sym (unsigned_ties member i) ∙ nat_eq_equiv.symm member i)
    ∙ go (i == member) (contains nat_cmp old i))
  where
    go : (a b : Bool) → cond a false b ≡ (b && not a)
    go true true = refl
    go true false = refl
    go false b = and_true b

-- who is in the set of a vote
pub in_there : (es : Entries) (w : Vote) (members : BTreeSet ℕ)
    → lookup (same_key (key_of w)) es ≡ Some members → (i : ℕ)
    → contains nat_cmp members i ≡ is_in_set es w i
in_there es w members at i =
    sym
    (ap (λ (o : Option (BTreeSet ℕ)). option_map_or (λ s. contains nat_cmp s i) o false) at)

-- nobody is, where there is none
pub in_none : (es : Entries) (w : Vote) → lookup (same_key (key_of w)) es ≡ None → (i : ℕ)
    → is_in_set es w i ≡ false
in_none es w at i =
    ap (λ (o : Option (BTreeSet ℕ)). option_map_or (λ s. contains nat_cmp s i) o false) at

-- same votes have the same set
in_same : (es : Entries) (v w : Vote) (i : ℕ) → same_key (key_of v) (key_of w) ≡ true
    → is_in_set es v i ≡ is_in_set es w i
in_same es v w i e =
    ap
    (λ (q : VoteKey). option_map_or (λ s. contains nat_cmp s i) (lookup (same_key q) es) false)
    (same_key-true (key_of v) (key_of w) e)

-- the set of one vote changes, in whom it has by that function
pub set_changed : (old new : Entries) (w : Vote) (members : BTreeSet ℕ) (f : Bool → ℕ → Bool → Bool)
    → Sets (key_of w) (Some members) old new
    → ((i : ℕ) → contains nat_cmp members i ≡ f (is_in_set old w i) i true)
    → ((b : Bool) (i : ℕ) → b ≡ f b i false)
    → (v : Vote) (i : ℕ) → is_in_set new v i ≡ f (is_in_set old v i) i (same_vote v w)
set_changed old new w members f sets has apart v i =
    ap (λ (o : Option (BTreeSet ℕ)). option_map_or (λ s. contains nat_cmp s i) o false)
    (set_at (key_of w) (Some members) old new sets (key_of v))
    ∙ go (same_key (key_of v) (key_of w)) refl
  where
    go : (b : Bool) → same_key (key_of v) (key_of w) ≡ b
        → option_map_or (λ s. contains nat_cmp s i)
        (cond b (Some members) (lookup (same_key (key_of v)) old)) false
        ≡ f (is_in_set old v i) i (same_vote v w)
    go true e =
        has i
        ∙ (ap (λ b. f b i true) (sym (in_same old v w i e))
        ∙ ap (f (is_in_set old v i) i) (sym e ∙ keys_of_same v w))
    go false e =
        apart (is_in_set old v i) i
        ∙ ap (f (is_in_set old v i) i) (sym e ∙ keys_of_same v w)

-- a set that isn't empty is put at one vote
pub none_empty : (old new : Entries) (w : Vote) (members : BTreeSet ℕ)
    → Sets (key_of w) (Some members) old new → 0 < length members.keys
    → NoneEmpty old → NoneEmpty new
none_empty old new w members sets some are v s e =
    go (same_key (key_of v) (key_of w))
    (sym (set_at (key_of w) (Some members) old new sets (key_of v)) ∙ e)
  where
    go : (b : Bool) → cond b (Some members) (lookup (same_key (key_of v)) old) ≡ Some s
        → 0 < length s.keys
    go true h = subst (λ (x : BTreeSet ℕ). 0 < length x.keys) (same_Some members s h) some
    go false h = are v s h

-- how a set changes with one member more, and with one less
abbrev pub more_by : ℕ → Bool → ℕ → Bool → Bool
more_by member was i here = was || (here && (i == member))

abbrev pub less_by : ℕ → Bool → ℕ → Bool → Bool
less_by member was i here = was && not (here && (i == member))

pub more_apart : (member : ℕ) (b : Bool) (i : ℕ) → b ≡ more_by member b i false
more_apart member b i = or_false b

pub less_apart : (member : ℕ) (b : Bool) (i : ℕ) → b ≡ less_by member b i false
less_apart member b i = and_true b

-- out of no set nobody is taken
pub less_none : (es : Entries) (w : Vote) (member : ℕ) → lookup (same_key (key_of w)) es ≡ None
    → (v : Vote) (i : ℕ)
    → is_in_set es v i ≡ (is_in_set es v i && not (same_vote v w && (i == member)))
less_none es w member none v i = go (same_key (key_of v) (key_of w)) refl
  where
    go : (b : Bool) → same_key (key_of v) (key_of w) ≡ b
        → is_in_set es v i ≡ (is_in_set es v i && not (same_vote v w && (i == member)))
    go true e =
        let no : is_in_set es v i ≡ false = in_same es v w i e ∙ in_none es w none i in
        no ∙ ap (λ b. b && not (same_vote v w && (i == member))) (sym no)
    go false e =
        and_true (is_in_set es v i)
        ∙ ap (λ b. is_in_set es v i && not (b && (i == member))) (sym e ∙ keys_of_same v w)

pub on_err : {T E : Type 0} {P : Type 0} (r : Result T E) → P → OnErr r P
on_err (Ok x) p = tt
on_err (Err e) p = p

pub on_ok : {T E : Type 0} {P : Type 0} (r : Result T E) → P → OnOk r P
on_ok (Ok x) p = p
on_ok (Err e) p = tt
