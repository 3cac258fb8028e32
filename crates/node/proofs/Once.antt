-- Commitments that are kept once.
use Rattle.std.proofs.Common.{◌≡◌, Bool, true, false, cond, not, ◌||◌, List, [], ◌∷◌, ◌++◌, refl, sym, ◌∙◌, ap, append_assoc, ℕ, suc, ◌+◌, ◌<◌, length, get_or, drop, drop-cons, add-one}
use Rattle.std.specs.Bool.{OnFalse}
use Rattle.std.specs.List.{list_any}
use Rattle.std.specs.Ordering.{is_eq}
use Rattle.std.proofs.lemmas.Bool.{false≢true}
use Rattle.cw_types.specs.Order.{commitment_cmp}
use Rattle.cw_types.specs.OrderLaws.{commitments_are_told, commitments_tie}
use Rattle.cw_types.specs.Same.{same_commitment}
use Rattle.cw_types.specs.declared.commitment.Commitment.{Commitment}
use Rattle.cw_rules.specs.Sends.{once}

-- a commitment is among the keys of a set
abbrev pub is_seen : List Commitment → Commitment → Bool
is_seen keys c = list_any (λ k. is_eq (commitment_cmp c k)) keys

-- it is where one of them is the same
seen_same : (keys : List Commitment) (c : Commitment)
    → is_seen keys c ≡ list_any (same_commitment c) keys
seen_same [] c = refl
seen_same (k ∷ keys) c = λ i. sym (commitments_tie c k) i || seen_same keys c i

-- what is kept once asks only whether a commitment was seen
once_same : (s t : List Commitment)
    → ((c : Commitment) → list_any (same_commitment c) s ≡ list_any (same_commitment c) t)
    → (cs : List Commitment) → once s cs ≡ once t cs
once_same s t h [] = refl
once_same s t h (c ∷ cs) =
    go (list_any (same_commitment c) s) refl (once_same s t h cs)
    (once_same (c ∷ s) (c ∷ t) (λ d. ap (λ b. same_commitment d c || b) (h d)) cs)
  where
    go : (b : Bool) → list_any (same_commitment c) s ≡ b → once s cs ≡ once t cs
        → once (c ∷ s) cs ≡ once (c ∷ t) cs → once s (c ∷ cs) ≡ once t (c ∷ cs)
    go true e rest more = rw (e, sym (h c) ∙ e) rest
    go false e rest more = rw (e, sym (h c) ∙ e) (ap (λ l. c ∷ l) more)

-- a set with one key more
abbrev pub SeesMore : List Commitment → List Commitment → Commitment → Type 0
SeesMore old new x = (q : Commitment) → is_seen new q ≡ cond (is_eq (commitment_cmp x q)) true
    (is_seen old q)

seen_more : (old new : List Commitment) (x : Commitment) → SeesMore old new x → (c : Commitment)
    → list_any (same_commitment c) (x ∷ old) ≡ list_any (same_commitment c) new
seen_more old new x sees c =
    sym
    (sym (seen_same new c)
    ∙ (sees c
    ∙ ((λ i. cond ((sym (commitments_tie x c) ∙ commitments_are_told.symm x c) i) true
    (seen_same old c i))
    ∙ go (same_commitment c x) (list_any (same_commitment c) old))))
  where
    go : (a b : Bool) → cond a true b ≡ (a || b)
    go true b = refl
    go false b = refl

drop_item : {X : Type 0} (xs : List X) (i : ℕ) (x : X) → i < length xs → x ≡ get_or xs i x
    → drop i xs ≡ x ∷ drop (i + 1) xs
drop_item xs i x l e = rw (add-one, drop-cons xs i x) (ap (λ z. z ∷ drop (suc i) xs) (sym e))

-- one that was seen is passed over
once_skips : (keys : List Commitment) (cs : List Commitment) (i : ℕ) (x : Commitment)
    → i < length cs → x ≡ get_or cs i x → is_seen keys x ≡ true
    → once keys (drop i cs) ≡ once keys (drop (i + 1) cs)
once_skips keys cs i x l e seen =
    ap (once keys) (drop_item cs i x l e) ∙ rw (sym (seen_same keys x) ∙ seen) refl

-- one that wasn't is kept, and is seen from then on
once_adds : (keys new : List Commitment) (cs : List Commitment) (i : ℕ) (x : Commitment)
    → i < length cs → x ≡ get_or cs i x → is_seen keys x ≡ false → SeesMore keys new x
    → once keys (drop i cs) ≡ x ∷ once new (drop (i + 1) cs)
once_adds keys new cs i x l e seen sees =
    ap (once keys) (drop_item cs i x l e)
    ∙ rw (sym (seen_same keys x) ∙ seen)
    (ap (λ r. x ∷ r) (once_same (x ∷ keys) new (seen_more keys new x sees) (drop (i + 1) cs)))

pub not_false : (b : Bool) → not b ≡ false → b ≡ true
not_false true e = refl
not_false false e = sym e

pub on_false : {P : Type 0} (b : Bool) → OnFalse b P → b ≡ false → P
on_false false p e = p
on_false true p e = absurd (false≢true (sym e))

module _ (old new cs : List Commitment) (i : ℕ) (x : Commitment) (less : i < length cs)
    (at : x ≡ get_or cs i x) (each all : List Commitment)
    (before : each ++ once old (drop i cs) ≡ all) where
  pub kept_once : is_seen old x ≡ false → SeesMore old new x → (kept : List Commitment)
      → kept ≡ each ++ x ∷ [] → kept ++ once new (drop (i + 1) cs) ≡ all
  kept_once seen sees kept is =
      ap (λ l. l ++ once new (drop (i + 1) cs)) is
      ∙ (append_assoc each (x ∷ []) (once new (drop (i + 1) cs))
      ∙ (ap (λ l. each ++ l) (sym (once_adds old new cs i x less at seen sees)) ∙ before))

  pub passed_over : is_seen old x ≡ true → new ≡ old → (kept : List Commitment) → kept ≡ each
      → kept ++ once new (drop (i + 1) cs) ≡ all
  passed_over seen same kept is =
      (λ k. is k ++ once (same k) (drop (i + 1) cs))
      ∙ (ap (λ l. each ++ l) (sym (once_skips old cs i x less at seen)) ∙ before)
