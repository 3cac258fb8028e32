-- The steps along a path, and what is told about a certificate.
use Rattle.std.proofs.Common.{◌≡◌, ℕ, Bool, if◌then◌else◌, zero, suc, ◌+◌, ◌-◌, ◌<◌, ◌≤◌, true, false, List, [], ◌∷◌, Option, Some, None, drop, length, slice_get, refl, sym, ◌∙◌, ap, subst, arith}
use Rattle.std.specs.List.{last_or}
use Rattle.std.specs.Option.{option_map_or}
use Rattle.std.proofs.lemmas.Bool.{cond-false, cond-true}
use Rattle.cw_base.specs.declared.hash.Digest32.{Digest32}
use Rattle.cw_types.specs.declared.commitment.Commitment.{Commitment}
use Rattle.cw_types.specs.Block.{Block}
use Rattle.cw_types.specs.Votes.{finalized, well_formed}
use Rattle.cw_types.specs.declared.vote.Cert.{Cert}
use Rattle.cw_types.specs.declared.vote.Proposal.{Proposal}
use Rattle.cw_types.specs.declared.vote.Vote.{Vote}
use Rattle.cw_rules.specs.Accepted.{is_valid}
use Rattle.cw_rules.specs.Rules.{Rules, digest}
use Rattle.cw_light.specs.Checking.{broken_at, broken_below, is_named_by, is_parent_of, light_answer, path_answer}
use Rattle.cw_light.specs.declared.check.Answer.TheVariants.{BadSigners, Broken, EmptyPath, NotFinal, Yes}

drop_get : (xs : List Block) (i : ℕ) (x : Block) → slice_get xs i ≡ Some x
    → drop i xs ≡ x ∷ drop (i + 1) xs
drop_get [] i x h = cc
drop_get (y ∷ ys) zero x h = let e : y ≡ x = cc in ap (λ z. z ∷ ys) e
drop_get (y ∷ ys) (suc i) x h =
    let e : suc i + 1 ≡ suc (i + 1) = omega arith in
    drop_get ys i x h ∙ ap (λ n. x ∷ drop n (y ∷ ys)) (sym e)

drop_all : (xs : List Block) (i : ℕ) → length xs ≤ i → drop i xs ≡ []
drop_all [] zero h = refl
drop_all [] (suc i) h = refl
drop_all (x ∷ xs) zero h = absurd (omega arith)
drop_all (x ∷ xs) (suc i) h = drop_all xs i (omega arith)

-- a parent at a place: the rest decides
pub goes_on : (r : Rules) (path : List Block) (place : ℕ) (above b : Block)
    → slice_get path place ≡ Some b → is_parent_of r above b ≡ true
    → broken_below r place above (drop place path)
    ≡ broken_below r (place + 1) b (drop (place + 1) path)
goes_on r path place above b h t =
    ap (broken_below r place above) (drop_get path place b h)
    ∙ cond-true (is_parent_of r above b) (broken_below r (place + 1) b (drop (place + 1) path))
    (Some place) t

-- another block at a place: it is broken there
pub breaks : (r : Rules) (path : List Block) (place : ℕ) (above b : Block)
    → slice_get path place ≡ Some b → is_parent_of r above b ≡ false
    → broken_below r place above (drop place path) ≡ Some place
breaks r path place above b h f =
    ap (broken_below r place above) (drop_get path place b h)
    ∙ cond-false (is_parent_of r above b) (broken_below r (place + 1) b (drop (place + 1) path))
    (Some place) f

pub some_at : (xs : List Block) (i : ℕ) → i < length xs → (x : Block) × (slice_get xs i ≡ Some x)
some_at [] i h = absurd (omega arith)
some_at (x ∷ xs) zero h = (x, refl)
some_at (x ∷ xs) (suc i) h = some_at xs i (omega arith)

-- nothing is left
pub ends : (r : Rules) (path : List Block) (place : ℕ) (above : Block) → length path ≤ place
    → broken_below r place above (drop place path) ≡ None
ends r path place above h = ap (broken_below r place above) (drop_all path place h)

-- ---- a whole path

pub head_of : (path : List Block) (b : Block) → slice_get path 0 ≡ Some b
    → (below : List Block) × (path ≡ b ∷ below)
head_of [] b h = cc
head_of (x ∷ xs) b h = let e : x ≡ b = cc in (xs, ap (λ z. z ∷ xs) e)

-- the first block isn't the one that is named: it is broken there
pub first_breaks : (r : Rules) (c : Commitment) (path : List Block) (b : Block)
    → slice_get path 0 ≡ Some b → is_named_by r c b ≡ false → broken_at r c path ≡ Some 0
first_breaks r c path b h f =
    let (below, e) = head_of path b h in
    ap (broken_at r c) e ∙ cond-false (is_named_by r c b) (broken_below r 1 b below) (Some 0) f

-- the first block is: those below decide
pub first_goes : (r : Rules) (c : Commitment) (path : List Block) (b : Block) (below : List Block)
    → path ≡ b ∷ below → is_named_by r c b ≡ true → broken_at r c path ≡ broken_below r 1 b below
first_goes r c path b below e t =
    ap (broken_at r c) e ∙ cond-true (is_named_by r c b) (broken_below r 1 b below) (Some 0) t

last_from : (o : Option Block) (x : Block) (xs : List Block) (b : Block)
    → slice_get (x ∷ xs) (length xs) ≡ Some b → last_or o (x ∷ xs) ≡ Some b
last_from o x [] b h = h
last_from o x (y ∷ ys) b h = last_from (Some x) y ys b h

pub last_is : (path : List Block) (b : Block) → slice_get path (length path - 1) ≡ Some b
    → last_or None path ≡ Some b
last_is [] b h = cc
last_is (x ∷ xs) b h =
    let e : length (x ∷ xs) - 1 ≡ length xs = omega arith in
    last_from None x xs b (subst (λ n. slice_get (x ∷ xs) n ≡ Some b) e h)

-- what is told about a path with that last block, which is broken there
pub told_broken : (r : Rules) (c : Commitment) (path : List Block) (last : Block) (place : ℕ)
    → slice_get path (length path - 1) ≡ Some last → broken_at r c path ≡ Some place
    → Broken place ≡ path_answer r c path
told_broken r c path last place h b =
    sym
    (ap
    (λ o. option_map_or
    (λ (x : Block). option_map_or Broken (broken_at r c path)
    (Yes x.height (digest r x)))
    o EmptyPath)
    (last_is path last h)
    ∙ ap (λ o. option_map_or Broken o (Yes last.height (digest r last))) b)

-- or which is whole
pub told_yes : (r : Rules) (c : Commitment) (path : List Block) (last : Block) (height : ℕ)
    (d : Digest32)
    → slice_get path (length path - 1) ≡ Some last → broken_at r c path ≡ None
    → height ≡ last.height → d ≡ digest r last → Yes height d ≡ path_answer r c path
told_yes r c path last height d h b high is =
    (λ i. Yes (high i) (is i))
    ∙ sym
    (ap
    (λ o. option_map_or
    (λ (x : Block). option_map_or Broken (broken_at r c path)
    (Yes x.height (digest r x)))
    o EmptyPath)
    (last_is path last h)
    ∙ ap (λ o. option_map_or Broken o (Yes last.height (digest r last))) b)

-- ---- what is told about a certificate

-- of a vote to finalize a proposal, by whether the certificate is valid
pub answered : (r : Rules) (signed : ℕ → Vote → Bool) (s : Cert) (path : List Block) (p : Proposal)
    (valid : Bool) → (if well_formed s.vote then finalized s.vote else None) ≡ Some p
    → is_valid r signed s ≡ valid
    → light_answer r signed s path ≡ (if valid then path_answer r p.payload path else BadSigners)
answered r signed s path p valid final is =
    ap
    (λ o. option_map_or
    (λ q. if is_valid r signed s then path_answer r q.payload path else BadSigners) o NotFinal)
    final
    ∙ ap (λ b. if b then path_answer r p.payload path else BadSigners) is
