-- Lists of signers by vote, where those of one vote change.
use Rattle.std.proofs.Common.{◌≡◌, ℕ, ◌&&◌, ◌||◌, Bool, true, false, not, cond, refl, sym, ◌∙◌, ap, List, [], ◌∷◌, ◌++◌, Option, Some, None, Vec}
use Rattle.std.specs.BTreeSet.{BTreeSet, insert_key}
use Rattle.std.specs.Cmp.Lexicographic.{slice_cmp, texts_ties}
use Rattle.std.specs.List.{list_any}
use Rattle.std.specs.Map.{lookup}
use Rattle.std.specs.Option.{option_map_or}
use Rattle.std.specs.Ordering.{is_eq, match_ordering, nat_cmp}
use Rattle.std.specs.Set.{remove_key}
use Rattle.std.specs.Str.{bytes_eq}
use Rattle.std.specs.declared.alloc.Global.{Global}
use Rattle.std.specs.declared.cmp.Ordering.{Ordering}
use Rattle.std.specs.declared.cmp.Ordering.TheVariants.{Less, Equal, Greater}
use Rattle.std.proofs.lemmas.Slice.Eq.{bytes_eq-Decides}
use Rattle.std.proofs.lemmas.List.Folds.{list_any-append}
use Rattle.cw_types.specs.Same.{same_cert, same_vote}
use Rattle.cw_types.specs.declared.vote.Cert.{Cert}
use Rattle.cw_types.specs.declared.vote.Vote.{Vote}
use Rattle.cw_types.proofs.Same.{same_cert-true}
use Rattle.cw_rules.specs.Accepted.{Ballot, Many, Single, same_ballot}
use Rattle.note_scans.specs.Keys.{key_of, same_key}
use Rattle.note_scans.specs.declared.key.VoteKey.{VoteKey}
use Rattle.note_scans.proofs.Keys.{found_key, key_cmp, keys_of_same, keys_tie, same_key-true, same_key_symm}
use Rattle.voter.specs.Lists.{AreSameLists, HasLists, HaveListed, HaveUnlisted, has_signers_list}
use Rattle.voter.proofs.Saying.{any_same}

abbrev pub Signers : Type 0
Signers = Vec ℕ Global

abbrev pub Entries : Type 0
Entries = List (VoteKey × BTreeSet Signers)

-- the list is among those
abbrev pub has_list : List ℕ → List Signers → Bool
has_list l xs = list_any (λ x. bytes_eq l x.items) xs

or_false : (b : Bool) → b ≡ (b || false)
or_false true = refl
or_false false = refl

and_true : (b : Bool) → b ≡ (b && true)
and_true true = refl
and_true false = refl

same_bytes : (a b : List ℕ) → bytes_eq a b ≡ true → a ≡ b
same_bytes a b h = (bytes_eq-Decides a b).0 h

bytes_self : (a : List ℕ) → bytes_eq a a ≡ true
bytes_self a = (bytes_eq-Decides a a).1 refl

-- one list more
pub list_more : (l : List ℕ) (xs : List Signers) (k : Signers)
    → has_list l (insert_key (λ (a b : Signers). slice_cmp nat_cmp a.items b.items) xs k)
    ≡ (has_list l xs || bytes_eq l k.items)
list_more l [] k = swap (bytes_eq l k.items) false
  where
    swap : (a b : Bool) → (a || b) ≡ (b || a)
    swap true true = refl
    swap true false = refl
    swap false true = refl
    swap false false = refl
list_more l (x ∷ xs) k =
    go (slice_cmp nat_cmp k.items x.items) refl (list_more l xs k)
  where
    cmp : Signers → Signers → Ordering
    cmp = λ (a b : Signers). slice_cmp nat_cmp a.items b.items

    swap : (a b c : Bool) → (a || (b || c)) ≡ ((b || c) || a)
    swap true true c = refl
    swap true false true = refl
    swap true false false = refl
    swap false b c = or_false (b || c)

    regroup : (a b c : Bool) → (a || (b || c)) ≡ ((a || b) || c)
    regroup true b c = refl
    regroup false b c = refl

    same : (a b : Bool) → (a || b) ≡ ((a || b) || a)
    same true b = refl
    same false b = or_false b

    go : (o : Ordering) → slice_cmp nat_cmp k.items x.items ≡ o
        → has_list l (insert_key (λ (a b : Signers). slice_cmp nat_cmp a.items b.items) xs k)
        ≡ (has_list l xs || bytes_eq l k.items)
        → has_list l
        (match_ordering o (k ∷ x ∷ xs) (x ∷ xs)
        (x ∷ insert_key (λ (a b : Signers). slice_cmp nat_cmp a.items b.items) xs k))
        ≡ ((bytes_eq l x.items || has_list l xs) || bytes_eq l k.items)
    go Less e more = swap (bytes_eq l k.items) (bytes_eq l x.items) (has_list l xs)
    go Equal e more =
        let one : k.items ≡ x.items =
        same_bytes k.items x.items (texts_ties k.items x.items ∙ ap is_eq e) in
        same (bytes_eq l x.items) (has_list l xs)
        ∙ ap (λ (m : List ℕ). (bytes_eq l x.items || has_list l xs) || bytes_eq l m) (sym one)
    go Greater e more =
        ap (λ b. bytes_eq l x.items || b) more
        ∙ regroup (bytes_eq l x.items) (has_list l xs) (bytes_eq l k.items)

-- one list less, which isn't there twice
pub list_less : (l k : List ℕ) (xs ys : List Signers)
    → ys ≡ remove_key (λ (x : Signers). is_eq (slice_cmp nat_cmp k x.items)) xs
    → list_any (λ (x : Signers). is_eq (slice_cmp nat_cmp k x.items)) ys ≡ false
    → has_list l ys ≡ (has_list l xs && not (bytes_eq l k))
list_less l k xs ys less gone = at (bytes_eq l k) refl
  where
    at : (b : Bool) → bytes_eq l k ≡ b → has_list l ys ≡ (has_list l xs && not b)
    at true e =
        any_same (λ (x : Signers). bytes_eq l x.items)
        (λ (x : Signers). is_eq (slice_cmp nat_cmp k x.items))
        (λ x. ap (λ (m : List ℕ). bytes_eq m x.items) (same_bytes l k e) ∙ texts_ties k x.items) ys
        ∙ (gone ∙ none (has_list l xs))
      where
        none : (b : Bool) → false ≡ (b && false)
        none true = refl
        none false = refl
    at false e = ap (has_list l) less ∙ (stays xs ∙ and_true (has_list l xs))
      where
        stays : (zs : List Signers)
            → has_list l (remove_key (λ (x : Signers). is_eq (slice_cmp nat_cmp k x.items)) zs)
            ≡ has_list l zs
        stays [] = refl
        stays (z ∷ zs) = go (is_eq (slice_cmp nat_cmp k z.items)) refl (stays zs)
          where
            go : (b : Bool) → is_eq (slice_cmp nat_cmp k z.items) ≡ b
                → has_list l
                (remove_key (λ (x : Signers). is_eq (slice_cmp nat_cmp k x.items)) zs)
                ≡ has_list l zs
                → has_list l
                (cond b zs
                (z ∷ remove_key (λ (x : Signers). is_eq (slice_cmp nat_cmp k x.items)) zs))
                ≡ (bytes_eq l z.items || has_list l zs)
            go true f more =
                let one : k ≡ z.items = same_bytes k z.items (texts_ties k z.items ∙ f) in
                ap (λ b. b || has_list l zs) (sym e ∙ ap (bytes_eq l) one)
            go false f more = ap (λ b. bytes_eq l z.items || b) more

-- whether a list is there
pub list_there : (l : List ℕ) (xs : List Signers)
    → list_any (λ (x : Signers). is_eq (slice_cmp nat_cmp l x.items)) xs ≡ has_list l xs
list_there l xs =
    any_same (λ (x : Signers). is_eq (slice_cmp nat_cmp l x.items))
    (λ (x : Signers). bytes_eq l x.items) (λ x. sym (texts_ties l x.items)) xs

-- ---- the map

-- an update of the map at a key
abbrev pub Sets : VoteKey → Option (BTreeSet Signers) → Entries → Entries → Type 0
Sets k w old new =
    (q : VoteKey) → lookup (λ (j : VoteKey). is_eq (key_cmp q j)) new
    ≡ cond (is_eq (key_cmp k q)) w (lookup (λ (j : VoteKey). is_eq (key_cmp q j)) old)

set_at : (k : VoteKey) (w : Option (BTreeSet Signers)) (old new : Entries) → Sets k w old new
    → (q : VoteKey) → lookup (same_key q) new ≡ cond (same_key q k) w (lookup (same_key q) old)
set_at k w old new sets q =
    sym (found_key new q)
    ∙ (sets q
    ∙ (ap (λ b. cond b w (lookup (λ (j : VoteKey). is_eq (key_cmp q j)) old))
    (sym (keys_tie k q) ∙ same_key_symm k q)
    ∙ ap (λ (o : Option (BTreeSet Signers)). cond (same_key q k) w o) (found_key old q)))

-- the lists of a vote
pub listed_there : (es : Entries) (w : Vote) (lists : BTreeSet Signers)
    → lookup (same_key (key_of w)) es ≡ Some lists → (l : List ℕ)
    → has_list l lists.keys ≡ has_signers_list es w l
listed_there es w lists at l =
    sym (ap (λ (o : Option (BTreeSet Signers)). option_map_or (λ s. has_list l s.keys) o false) at)

pub listed_none : (es : Entries) (w : Vote) → lookup (same_key (key_of w)) es ≡ None
    → (l : List ℕ) → has_signers_list es w l ≡ false
listed_none es w at l =
    ap (λ (o : Option (BTreeSet Signers)). option_map_or (λ s. has_list l s.keys) o false) at

listed_same : (es : Entries) (v w : Vote) (l : List ℕ) → same_key (key_of v) (key_of w) ≡ true
    → has_signers_list es v l ≡ has_signers_list es w l
listed_same es v w l e =
    ap
    (λ (q : VoteKey). option_map_or (λ s. has_list l s.keys) (lookup (same_key q) es) false)
    (same_key-true (key_of v) (key_of w) e)

-- the lists of one vote change, in which they are by that function
pub lists_changed : (old new : Entries) (w : Vote) (lists : BTreeSet Signers)
    (f : Bool → List ℕ → Bool → Bool) → Sets (key_of w) (Some lists) old new
    → ((l : List ℕ) → has_list l lists.keys ≡ f (has_signers_list old w l) l true)
    → ((b : Bool) (l : List ℕ) → b ≡ f b l false)
    → (v : Vote) (l : List ℕ) → has_signers_list new v l
    ≡ f (has_signers_list old v l) l (same_vote v w)
lists_changed old new w lists f sets has apart v l =
    ap (λ (o : Option (BTreeSet Signers)). option_map_or (λ s. has_list l s.keys) o false)
    (set_at (key_of w) (Some lists) old new sets (key_of v))
    ∙ go (same_key (key_of v) (key_of w)) refl
  where
    go : (b : Bool) → same_key (key_of v) (key_of w) ≡ b
        → option_map_or (λ s. has_list l s.keys)
        (cond b (Some lists) (lookup (same_key (key_of v)) old)) false
        ≡ f (has_signers_list old v l) l (same_vote v w)
    go true e =
        has l
        ∙ (ap (λ b. f b l true) (sym (listed_same old v w l e))
        ∙ ap (f (has_signers_list old v l) l) (sym e ∙ keys_of_same v w))
    go false e =
        apart (has_signers_list old v l) l
        ∙ ap (f (has_signers_list old v l) l) (sym e ∙ keys_of_same v w)

-- how lists change with one more, and with one less
abbrev pub more_by : List ℕ → Bool → List ℕ → Bool → Bool
more_by k was l here = was || (here && bytes_eq l k)

abbrev pub less_by : List ℕ → Bool → List ℕ → Bool → Bool
less_by k was l here = was && not (here && bytes_eq l k)

pub more_apart : (k : List ℕ) (b : Bool) (l : List ℕ) → b ≡ more_by k b l false
more_apart k b l = or_false b

pub less_apart : (k : List ℕ) (b : Bool) (l : List ℕ) → b ≡ less_by k b l false
less_apart k b l = and_true b

-- out of no lists none is taken
pub less_none : (es : Entries) (w : Vote) (k : List ℕ) → lookup (same_key (key_of w)) es ≡ None
    → (v : Vote) (l : List ℕ)
    → has_signers_list es v l ≡ (has_signers_list es v l && not (same_vote v w && bytes_eq l k))
less_none es w k none v l = go (same_key (key_of v) (key_of w)) refl
  where
    go : (b : Bool) → same_key (key_of v) (key_of w) ≡ b
        → has_signers_list es v l ≡ (has_signers_list es v l && not (same_vote v w && bytes_eq l k))
    go true e =
        let no : has_signers_list es v l ≡ false = listed_same es v w l e
        ∙ listed_none es w none l in
        no ∙ ap (λ b. b && not (same_vote v w && bytes_eq l k)) (sym no)
    go false e =
        and_true (has_signers_list es v l)
        ∙ ap (λ b. has_signers_list es v l && not (b && bytes_eq l k)) (sym e ∙ keys_of_same v w)

-- ---- what came

one_cert : (s : Cert) (v : Vote) (l : List ℕ)
    → same_ballot (Many (record { vote = v; signers = l })) (Many s)
    ≡ (same_vote v s.vote && bytes_eq l s.signers)
unfolding same_cert
one_cert s v l = refl

-- a vote came, which is no certificate
pub single_listed : (ballots : List Ballot) (i : ℕ) (w : Vote) (es : Entries)
    → HasLists ballots es → HasLists (ballots ++ Single i w ∷ []) es
single_listed ballots i w es has v l =
    has v l
    ∙ (or_false (list_any (same_ballot (Many (record { vote = v; signers = l }))) ballots)
    ∙ sym
    (list_any-append (same_ballot (Many (record { vote = v; signers = l }))) ballots
    (Single i w ∷ [])))

-- a certificate came
pub many_listed : (ballots : List Ballot) (s : Cert) (old new : Entries) → HasLists ballots old
    → HaveListed old new s.vote s.signers → HasLists (ballots ++ Many s ∷ []) new
many_listed ballots s old new has more v l =
    more v l
    ∙ (ap (λ b. b || (same_vote v s.vote && bytes_eq l s.signers)) (has v l)
    ∙ sym
    (list_any-append (same_ballot (Many (record { vote = v; signers = l }))) ballots
    (Many s ∷ [])
    ∙ ap (λ b. list_any (same_ballot (Many (record { vote = v; signers = l }))) ballots || b)
    (sym (or_false (same_ballot (Many (record { vote = v; signers = l })) (Many s)))
    ∙ one_cert s v l)))

pub same_listed : (ballots : List Ballot) (old new : Entries) → HasLists ballots old
    → AreSameLists old new → HasLists ballots new
same_listed ballots old new has same v l = same v l ∙ has v l

-- one list more is taken back, which wasn't there
pub undone_listed : (ballots : List Ballot) (s : Cert) (old mid new : Entries)
    → HasLists ballots old → list_any (same_ballot (Many s)) ballots ≡ false
    → HaveListed old mid s.vote s.signers → HaveUnlisted mid new s.vote s.signers
    → HasLists ballots new
undone_listed ballots s old mid new has none more less v l =
    less v l
    ∙ (ap (λ b. b && not (same_vote v s.vote && bytes_eq l s.signers)) (more v l)
    ∙ (go (has_signers_list old v l) (same_vote v s.vote && bytes_eq l s.signers) here ∙ has v l))
  where
    here : (same_vote v s.vote && bytes_eq l s.signers) ≡ true → has_signers_list old v l ≡ false
    here t =
        has v l
        ∙ (ap (λ (c : Cert). list_any (same_ballot (Many c)) ballots)
        (same_cert-true (record { vote = v; signers = l }) s (one_cert s v l ∙ t))
        ∙ none)

    go : (a b : Bool) → (b ≡ true → a ≡ false) → ((a || b) && not b) ≡ a
    go true true h = sym (h refl)
    go true false h = refl
    go false true h = refl
    go false false h = refl
