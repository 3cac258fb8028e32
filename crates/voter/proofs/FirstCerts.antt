-- Where the first certificate of a vote stands, and what it tells.
use Rattle.std.proofs.Common.{◌≡◌, ℕ, suc, ◌+◌, ◌-◌, ◌<◌, ◌≤◌, Bool, true, false, cond, if◌then◌else◌, refl, sym, ◌∙◌, ap, arith, List, [], ◌∷◌, ◌++◌, length, Some, None, slice_get}
use Rattle.std.specs.List.{find, position_from}
use Rattle.std.specs.Map.{lookup}
use Rattle.std.specs.Option.{is_some, option_or}
use Rattle.cw_types.specs.declared.vote.Cert.{Cert}
use Rattle.cw_types.specs.declared.vote.Vote.{Vote}
use Rattle.cw_rules.specs.Accepted.{Ballot, Many, Single}
use Rattle.voter.specs.Certs.{HasFirst, first_place, has_key}
use Rattle.note_scans.specs.Keys.{key_of, same_key}
use Rattle.voter.specs.Known.{is_cert_for}
use Rattle.note_scans.specs.declared.key.VoteKey.{VoteKey}
use Rattle.note_scans.proofs.Keys.{keys_of_same}
use Rattle.voter.proofs.Saying.{PutFirst, first_put}
use Rattle.voter.proofs.Settling.{or_none}

module _ {X : Type 0} (p : X → Bool) where
  -- one more at the end
  place_more : (i : ℕ) (xs : List X) (x : X)
      → position_from p i (xs ++ x ∷ [])
      ≡ option_or (position_from p i xs) (if p x then Some (i + length xs) else None)
  place_more i [] x = ap (λ n. if p x then Some n else None) (omega arith)
  place_more i (y ∷ ys) x = go (p y) (place_more (i + 1) ys x)
    where
      go : (b : Bool)
          → position_from p (i + 1) (ys ++ x ∷ [])
          ≡ option_or (position_from p (i + 1) ys)
          (if p x then Some ((i + 1) + length ys) else None)
          → cond b (Some i) (position_from p (i + 1) (ys ++ x ∷ []))
          ≡ option_or (cond b (Some i) (position_from p (i + 1) ys))
          (if p x then Some (i + length (y ∷ ys)) else None)
      go true more = refl
      go false more =
          more
          ∙ ap
          (λ n. option_or (position_from p (i + 1) ys) (if p x then Some n else None))
          (omega arith)

  place_end : (xs : List X) (x : X)
      → position_from p 0 (xs ++ x ∷ [])
      ≡ option_or (position_from p 0 xs) (if p x then Some (length xs) else None)
  place_end xs x =
      place_more 0 xs x
      ∙ ap (λ n. option_or (position_from p 0 xs) (if p x then Some n else None)) (omega arith)

  -- none is found where there is no place
  place_none : (i : ℕ) (xs : List X) → position_from p i xs ≡ None → find p xs ≡ None
  place_none i [] e = refl
  place_none i (x ∷ xs) e = go (p x) e (place_none (i + 1) xs)
    where
      go : (b : Bool) → cond b (Some i) (position_from p (i + 1) xs) ≡ None
          → (position_from p (i + 1) xs ≡ None → find p xs ≡ None)
          → cond b (Some x) (find p xs) ≡ None
      go true k more = cc
      go false k more = more k

  -- there is a place where one is found
  place_there : (i : ℕ) (xs : List X) → is_some (position_from p i xs) ≡ is_some (find p xs)
  place_there i [] = refl
  place_there i (x ∷ xs) = go (p x) (place_there (i + 1) xs)
    where
      go : (b : Bool) → is_some (position_from p (i + 1) xs) ≡ is_some (find p xs)
          → is_some (cond b (Some i) (position_from p (i + 1) xs))
          ≡ is_some (cond b (Some x) (find p xs))
      go true more = refl
      go false more = more

  -- what stands at the place is what is found
  place_some : (i : ℕ) (xs : List X) (n : ℕ) → position_from p i xs ≡ Some n
      → (i ≤ n) × (n < i + length xs) × (slice_get xs (n - i) ≡ find p xs)
  place_some i [] n e = cc
  place_some i (x ∷ xs) n e = go (p x) e (place_some (i + 1) xs n)
    where
      go : (b : Bool) → cond b (Some i) (position_from p (i + 1) xs) ≡ Some n
          → (position_from p (i + 1) xs ≡ Some n
          → (i + 1 ≤ n) × (n < (i + 1) + length xs) × (slice_get xs (n - (i + 1)) ≡ find p xs))
          → (i ≤ n) × (n < i + length (x ∷ xs))
          × (slice_get (x ∷ xs) (n - i) ≡ cond b (Some x) (find p xs))
      go true k more =
          let same : i ≡ n = cc in
          let zeroth : n - i ≡ 0 = omega arith in
          (omega arith, omega arith, ap (slice_get (x ∷ xs)) zeroth)
      go false k more =
          let rest = more k in
          let low = rest.0 in
          let high = rest.1 in
          let next : n - i ≡ suc (n - (i + 1)) = omega arith in
          (omega arith, omega arith, ap (slice_get (x ∷ xs)) next ∙ rest.2)

same_places : {X : Type 0} (p q : X → Bool) → ((x : X) → p x ≡ q x) → (i : ℕ) (xs : List X)
    → position_from p i xs ≡ position_from q i xs
same_places p q e i [] = refl
same_places p q e i (x ∷ xs) =
    ap (λ b. cond b (Some i) (position_from p (i + 1) xs)) (e x)
    ∙ ap (cond (q x) (Some i)) (same_places p q e (i + 1) xs)

key_is : (v : Vote) (b : Ballot) → has_key (key_of v) b ≡ is_cert_for v b
key_is v (Single i w) = refl
key_is v (Many s) = keys_of_same v s.vote

-- ---- the map

-- a vote came, which is no certificate
pub single_first : (ballots : List Ballot) (i : ℕ) (v : Vote) (es : List (VoteKey × ℕ))
    → HasFirst ballots es → HasFirst (ballots ++ Single i v ∷ []) es
single_first ballots i v es has q =
    has q
    ∙ (sym (or_none (position_from (has_key q) 0 ballots))
    ∙ sym (place_end (has_key q) ballots (Single i v)))

-- a certificate came
pub many_first : (ballots : List Ballot) (s : Cert) (v : Vote) (k : VoteKey) (n : ℕ)
    (old new : List (VoteKey × ℕ)) → HasFirst ballots old → n ≡ length ballots → s.vote ≡ v
    → k ≡ key_of v → PutFirst old new k n → HasFirst (ballots ++ Many s ∷ []) new
many_first ballots s v k n old new has len is key puts q =
    first_put old new k n puts q
    ∙ (ap (λ o. option_or o (if same_key q k then Some n else None)) (has q)
    ∙ (ap
    (λ (j : VoteKey). option_or (position_from (has_key q) 0 ballots)
    (if same_key q j then Some n else None))
    (key ∙ ap key_of (sym is))
    ∙ (ap
    (λ m. option_or (position_from (has_key q) 0 ballots)
    (if same_key q (key_of s.vote) then Some m else None))
    len
    ∙ sym (place_end (has_key q) ballots (Many s)))))

-- ---- what it tells

pub first_told : (ballots : List Ballot) (v : Vote) (es : List (VoteKey × ℕ))
    → HasFirst ballots es → lookup (same_key (key_of v)) es ≡ first_place v ballots
first_told ballots v es has =
    has (key_of v) ∙ same_places (has_key (key_of v)) (is_cert_for v) (key_is v) 0 ballots

pub first_there : (ballots : List Ballot) (v : Vote)
    → is_some (first_place v ballots) ≡ is_some (find (is_cert_for v) ballots)
first_there ballots v = place_there (is_cert_for v) 0 ballots

pub first_none : (ballots : List Ballot) (v : Vote) → first_place v ballots ≡ None
    → None ≡ find (is_cert_for v) ballots
first_none ballots v e = sym (place_none (is_cert_for v) 0 ballots e)

pub first_some_at : (ballots : List Ballot) (v : Vote) (n : ℕ) → first_place v ballots ≡ Some n
    → slice_get ballots n ≡ find (is_cert_for v) ballots
first_some_at ballots v n e =
    let same : n ≡ n - 0 = omega arith in
    ap (slice_get ballots) same ∙ (place_some (is_cert_for v) 0 ballots n e).2
