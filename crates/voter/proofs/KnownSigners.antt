-- The set of a vote has the members that are known to have signed it.
use Rattle.std.proofs.Common.{◌≡◌, ℕ, ◌&&◌, ◌||◌, ◌==◌, ◌<◌, Bool, true, false, cond, refl, sym, ◌∙◌, ap, arith, eqb-true, List, [], ◌∷◌, Some, None, filter, length}
use Rattle.std.specs.BTreeSet.{BTreeSet}
use Rattle.std.specs.List.Sorted.{IsStrictlySortedBy}
use Rattle.std.specs.Map.{lookup}
use Rattle.std.specs.Ordering.{nat_cmp}
use Rattle.std.proofs.lemmas.Bool.{false≢true}
use Rattle.std.proofs.lemmas.Option.{same_Some}
use Rattle.cw_types.specs.Epochs.{is_committee, members_in}
use Rattle.cw_types.specs.Votes.{vote_epoch}
use Rattle.cw_types.specs.declared.vote.Vote.{Vote}
use Rattle.cw_rules.specs.Owed.{knows}
use Rattle.cw_rules.proofs.Lists.{filter_rises}
use Rattle.note_scans.specs.Keys.{key_of, same_key}
use Rattle.voter.specs.Known.{Known, known_signers, known_state, unless_empty}
use Rattle.voter.specs.Sets.{is_in_set}
use Rattle.voter.specs.Signing.{HaveSigners}
use Rattle.voter.proofs.InSets.{Entries, in_none, in_there}
use Rattle.voter.proofs.Rising.{all_high, among_keys, is_among, same_rising, self_in, sorted_rises}
use Rattle.voter.proofs.Signers.{committee_rises}

and_false : (b : Bool) → (b && false) ≡ false
and_false true = refl
and_false false = refl

-- those that pass a test
filter_among : (p : ℕ → Bool) (xs : List ℕ) (i : ℕ)
    → (is_among i xs && p i) ≡ is_among i (filter p xs)
filter_among p [] i = refl
filter_among p (x ∷ xs) i = go (x == i) (p x) refl refl (filter_among p xs i)
  where
    go : (e b : Bool) → (x == i) ≡ e → p x ≡ b → (is_among i xs && p i) ≡ is_among i (filter p xs)
        → ((e || is_among i xs) && p i) ≡ is_among i (cond b (x ∷ filter p xs) (filter p xs))
    go true true f g more =
        sym (ap p (eqb-true x i f)) ∙ (g ∙ sym (ap (λ c. c || is_among i (filter p xs)) f))
    go true false f g more =
        let no : p i ≡ false = sym (ap p (eqb-true x i f)) ∙ g in
        no ∙ (sym (ap (λ c. is_among i xs && c) no ∙ and_false (is_among i xs)) ∙ more)
    go false true f g more = more ∙ sym (ap (λ c. c || is_among i (filter p xs)) f)
    go false false f g more = more

none_among : (xs : List ℕ) → ((i : ℕ) → is_among i xs ≡ false) → xs ≡ []
none_among [] none = refl
none_among (x ∷ xs) none = absurd (false≢true (sym (none x) ∙ self_in x xs))

unless_there : (xs : List ℕ) → 0 < length xs → Some xs ≡ unless_empty xs
unless_there [] some = absurd (omega arith)
unless_there (x ∷ xs) some = refl

pub unless_some : (xs ys : List ℕ) → unless_empty xs ≡ Some ys → xs ≡ ys
unless_some [] ys h = cc
unless_some (x ∷ xs) ys h = same_Some (x ∷ xs) ys h

pub unless_none : (xs : List ℕ) → unless_empty xs ≡ None → xs ≡ []
unless_none [] h = refl
unless_none (x ∷ xs) h = cc

module _ (t : Known) (v : Vote) (came known : Entries)
    (are : HaveSigners t.epochs t.id t.notes t.ballots came known) where
  among : (i : ℕ) → is_in_set known v i
      ≡ is_among i (filter (knows t.id (known_state t) v) (members_in t.epochs (vote_epoch v)))
  among i =
      are.counted v i
      ∙ filter_among (knows t.id (known_state t) v) (members_in t.epochs (vote_epoch v)) i

  pub known_found : (total : ℕ) (members : BTreeSet ℕ)
      → lookup (same_key (key_of v)) known ≡ Some members
      → IsStrictlySortedBy nat_cmp members.keys
      → is_committee total (members_in t.epochs (vote_epoch v)) ≡ true
      → Some members.keys ≡ known_signers t v
  known_found total members at sorted committee =
      let same : members.keys
      ≡ filter (knows t.id (known_state t) v) (members_in t.epochs (vote_epoch v)) =
      same_rising 0 members.keys
      (filter (knows t.id (known_state t) v) (members_in t.epochs (vote_epoch v)))
      (sorted_rises 0 members.keys (all_high members.keys) sorted)
      (filter_rises (knows t.id (known_state t) v) 0 (members_in t.epochs (vote_epoch v))
      (committee_rises total (members_in t.epochs (vote_epoch v)) committee).0)
      (λ i. sym (among_keys members.keys i) ∙ (in_there known v members at i ∙ among i)) in
      unless_there members.keys (are.some v members at) ∙ ap unless_empty same

  pub known_missing : lookup (same_key (key_of v)) known ≡ None → None ≡ known_signers t v
  known_missing at =
      sym
      (ap unless_empty
      (none_among (filter (knows t.id (known_state t) v) (members_in t.epochs (vote_epoch v)))
      (λ i. sym (among i) ∙ in_none known v at i)))
