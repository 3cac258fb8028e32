-- Which chunks of a member's own came, with one more.
use Rattle.std.proofs.Common.{◌≡◌, ℕ, ◌&&◌, ◌||◌, ◌==◌, Bool, true, false, refl, sym, ◌∙◌, ap, if◌then◌else◌, List, [], ◌∷◌, ◌++◌, Option, Some, None}
use Rattle.std.specs.List.{list_any}
use Rattle.std.specs.Map.{lookup}
use Rattle.std.specs.Option.{is_some, option_or}
use Rattle.std.specs.Ordering.{is_eq}
use Rattle.std.proofs.lemmas.Cmp.{nat_eq_equiv}
use Rattle.std.proofs.lemmas.List.Folds.{list_any-append}
use Rattle.cw_types.specs.Same.{same_commitment}
use Rattle.cw_types.specs.declared.commitment.Commitment.{Commitment}
use Rattle.note_scans.specs.Keys.{same_key}
use Rattle.voter.specs.Known.{is_own_at}
use Rattle.voter.specs.Own.{HasOwn, is_own_keyed, own_key}
use Rattle.note_scans.specs.declared.key.VoteKey.{VoteKey}
use Rattle.voter.specs.declared.own.OwnChunk.{OwnChunk}
use Rattle.note_scans.proofs.Keys.{found_key, key_cmp}
use Rattle.voter.proofs.Saying.{PutFirst, any_same, first_put}

or_false : (b : Bool) → (b || false) ≡ b
or_false true = refl
or_false false = refl

-- one more
pub own_with : (own : List OwnChunk) (x : OwnChunk) (c : Commitment) (at : ℕ) (k : VoteKey)
    (old new : List (VoteKey × Bool)) → HasOwn own old → x.commitment ≡ c → x.index ≡ at
    → k ≡ own_key c at → PutFirst old new k true → HasOwn (own ++ x ∷ []) new
own_with own x c at k old new has e f key puts q =
    ap (λ (o : Option Bool). is_some o) (first_put old new k true puts q)
    ∙ (go (lookup (same_key q) old) (same_key q k)
    ∙ (ap (λ b. b || same_key q k) (has q)
    ∙ (ap (λ (j : VoteKey). list_any (is_own_keyed q) own || same_key q j)
    (key
    ∙ (ap (λ (d : Commitment). own_key d at) (sym e)
    ∙ ap (λ (n : ℕ). own_key x.commitment n) (sym f)))
    ∙ sym
    (list_any-append (is_own_keyed q) own (x ∷ [])
    ∙ ap (λ b. list_any (is_own_keyed q) own || b) (or_false (is_own_keyed q x))))))
  where
    go : (o : Option Bool) (b : Bool)
        → is_some (option_or o (if b then Some true else None)) ≡ (is_some o || b)
    go None true = refl
    go None false = refl
    go (Some v) b = refl

-- in the words of what is asked
pub own_told : (own : List OwnChunk) (c : Commitment) (at : ℕ) (k : VoteKey)
    (es : List (VoteKey × Bool)) → HasOwn own es → k ≡ own_key c at
    → is_some (lookup (λ (j : VoteKey). is_eq (key_cmp k j)) es) ≡ list_any (is_own_at at c) own
own_told own c at k es has key =
    ap (λ (o : Option Bool). is_some o) (found_key es k)
    ∙ (ap (λ (j : VoteKey). is_some (lookup (same_key j) es)) key
    ∙ (has (own_key c at) ∙ any_same (is_own_keyed (own_key c at)) (is_own_at at c) here own))
  where
    turned : (a b : Bool) → (a && b) ≡ (b && a)
    turned true true = refl
    turned true false = refl
    turned false true = refl
    turned false false = refl

    here : (x : OwnChunk) → is_own_keyed (own_key c at) x ≡ is_own_at at c x
    here x =
        turned (at == x.index) (same_commitment c x.commitment)
        ∙ ap (λ b. same_commitment c x.commitment && b) (nat_eq_equiv.symm at x.index)
