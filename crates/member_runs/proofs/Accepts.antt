-- What a member accepts by fewer signatures it accepts by more, or it accepts nothing.
use Rattle.std.proofs.Common.{◌≡◌, ℕ, Bool, true, false, ◌&&◌, if◌then◌else◌, List, [], ◌∷◌, Option, Some, None, length, refl, sym, ap, inl, inr, ◌⊎◌}
use Rattle.std.specs.List.{list_all}
use Rattle.std.specs.Option.{option_map_or}
use Rattle.std.proofs.lemmas.Bool.{and_from, and_parts}
use Rattle.cw_types.specs.Epochs.{is_enough, is_member, rises_from}
use Rattle.cw_types.specs.Votes.{finalized, vote_epoch, well_formed}
use Rattle.cw_types.specs.declared.message.Message.{Message}
use Rattle.cw_types.specs.declared.vote.Cert.{Cert}
use Rattle.cw_types.specs.declared.vote.Proposal.{Proposal}
use Rattle.cw_types.specs.declared.vote.Vote.{Vote}
use Rattle.cw_rules.specs.Accepted.{Ballot, Came, Many, Single, accepted, is_valid, take_ballot, wish_for, wished}
use Rattle.cw_rules.specs.Rules.{Rules}

-- who signed by one account signed by the other
abbrev pub IsWithin : (ℕ → Vote → Bool) → (ℕ → Vote → Bool) → Type 0
IsWithin few more = (j : ℕ) (v : Vote) → few j v ≡ true → more j v ≡ true

-- it accepts the same by both, or nothing by the first
abbrev Alike : Came → Came → Came → Type 0
Alike one two came = (one ≡ two) ⊎ (one ≡ came)

either : (a b : Bool) (some none : Came) → (a ≡ true → b ≡ true)
    → Alike (if a then some else none) (if b then some else none) none
either true b some none so = inl (sym (ap (λ (x : Bool). if x then some else none) (so refl)))
either false b some none so = inr refl

ballots : (came : Came) (a b : Bool) (x : Ballot) → (a ≡ true → b ≡ true)
    → Alike (take_ballot came a x) (take_ballot came b x) came
ballots came true b x so = inl (sym (ap (λ (y : Bool). take_ballot came y x) (so refl)))
ballots came false b x so = inr refl

signers : (few more : ℕ → Vote → Bool) → IsWithin few more → (test : ℕ → Bool) (v : Vote)
    → (is : List ℕ) → list_all (λ i. test i && few i v) is ≡ true
    → list_all (λ i. test i && more i v) is ≡ true
signers few more within test v [] h = refl
signers few more within test v (i ∷ is) h =
    let both = and_parts (test i && few i v) (list_all (λ i. test i && few i v) is) h in
    let first = and_parts (test i) (few i v) both.0 in
    and_from (test i && more i v) (list_all (λ i. test i && more i v) is)
    (and_from (test i) (more i v) first.0 (within i v first.1))
    (signers few more within test v is both.1)

pub valid : (r : Rules) (few more : ℕ → Vote → Bool) → IsWithin few more → (s : Cert)
    → is_valid r few s ≡ true → is_valid r more s ≡ true
valid r few more within s h =
    let test : ℕ → Bool = λ i. is_member r.epochs (vote_epoch s.vote) i in
    let all : Bool = list_all (λ i. test i && few i s.vote) s.signers in
    let also : Bool = list_all (λ i. test i && more i s.vote) s.signers in
    let first : Bool = well_formed s.vote && rises_from 0 s.signers in
    let enough : Bool = is_enough r.epochs (vote_epoch s.vote) (length s.signers) in
    let one = and_parts (first && all) enough h in
    let two = and_parts first all one.0 in
    and_from (first && also) enough
    (and_from first also two.0 (signers few more within test s.vote s.signers two.1)) one.1

fits : (a b : Bool) (few more : Bool) → (few ≡ true → more ≡ true) → (a && b && few) ≡ true
    → (a && b && more) ≡ true
fits true true few more so h = so h
fits true false few more so h = h
fits false true few more so h = h
fits false false few more so h = h

pub vote_alike : (r : Rules) (few more : ℕ → Vote → Bool) → IsWithin few more → (came : Came)
    (i : ℕ) (v : Vote)
    → (accepted r few came (Message.Vote i v) ≡ accepted r more came (Message.Vote i v))
    ⊎ (accepted r few came (Message.Vote i v) ≡ came)
vote_alike r few more within came i v =
    ballots came (is_member r.epochs (vote_epoch v) i && well_formed v && few i v)
    (is_member r.epochs (vote_epoch v) i && well_formed v && more i v) (Single i v)
    (fits (is_member r.epochs (vote_epoch v) i) (well_formed v) (few i v) (more i v) (within i v))

pub cert_alike : (r : Rules) (few more : ℕ → Vote → Bool) → IsWithin few more → (came : Came)
    (s : Cert)
    → (accepted r few came (Message.Cert s) ≡ accepted r more came (Message.Cert s))
    ⊎ (accepted r few came (Message.Cert s) ≡ came)
cert_alike r few more within came s =
    ballots came (is_valid r few s) (is_valid r more s) (Many s) (valid r few more within s)

pub wish_alike : (r : Rules) (few more : ℕ → Vote → Bool) → IsWithin few more → (came : Came)
    (s : Cert)
    → (wished r few came s ≡ wished r more came s) ⊎ (wished r few came s ≡ came)
wish_alike r few more within came s = go (finalized s.vote)
  where
    go : (o : Option Proposal)
        → (option_map_or (wish_for r few came s) o came ≡ option_map_or (wish_for r more came s) o came)
        ⊎ (option_map_or (wish_for r few came s) o came ≡ came)
    go None = inl refl
    go (Some p) =
        either (is_valid r few s) (is_valid r more s) _ came (valid r few more within s)
