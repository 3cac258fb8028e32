-- Keys of votes: when two are the same, and how they are ordered.
use Rattle.std.proofs.Common.{◌≡◌, ◌&&◌, ◌==◌, Bool, true, false, cond, refl, sym, ◌∙◌, ap, eqb-true, List, [], ◌∷◌, Option, Some}
use Rattle.std.specs.Cmp.{IsTotalOrder, nat_cmp_total, on_total, then_total, unsigned_ties}
use Rattle.std.specs.Map.{lookup}
use Rattle.std.specs.Ordering.{is_eq, nat_cmp, on, ordering_then, then_cmp}
use Rattle.std.proofs.lemmas.Cmp.{eq_by_cmp_equiv}
use Rattle.std.specs.declared.cmp.Ordering.{Ordering}
use Rattle.std.specs.declared.cmp.Ordering.TheVariants.{Less, Equal, Greater}
use Rattle.std.proofs.lemmas.Bool.{and_parts}
use Rattle.cw_types.specs.Order.{commitment_cmp}
use Rattle.cw_types.specs.OrderLaws.{commitments_are_ordered, commitments_tie}
use Rattle.cw_types.specs.Same.{same_commitment}
use Rattle.cw_types.proofs.Same.{same_commitment-true, same_commitment_self}
use Rattle.note_scans.specs.Keys.{key_of, keyed, no_payload, same_key}
use Rattle.cw_types.specs.Same.{same_proposal, same_vote}
use Rattle.note_scans.specs.declared.key.VoteKey.{VoteKey}
use Rattle.cw_types.specs.declared.vote.Proposal.{Proposal}
use Rattle.cw_types.specs.declared.vote.Vote.{Vote}
use Rattle.cw_types.specs.declared.vote.Vote.TheVariants.{Finalize, Notarize, Nullify}

-- the order that is derived: kind, epoch, view, parent, payload
abbrev pub key_cmp : VoteKey → VoteKey → Ordering
key_cmp =
    then_cmp (on (λ k. k.kind) nat_cmp)
    (then_cmp (on (λ k. k.epoch) nat_cmp)
    (then_cmp (on (λ k. k.view) nat_cmp)
    (then_cmp (on (λ k. k.parent) nat_cmp) (on (λ k. k.payload) commitment_cmp))))

key_total : IsTotalOrder key_cmp
key_total =
    then_total (on_total (λ (k : VoteKey). k.kind) nat_cmp_total)
    (then_total (on_total (λ (k : VoteKey). k.epoch) nat_cmp_total)
    (then_total (on_total (λ (k : VoteKey). k.view) nat_cmp_total)
    (then_total (on_total (λ (k : VoteKey). k.parent) nat_cmp_total)
    (on_total (λ (k : VoteKey). k.payload) commitments_are_ordered))))

both_equal : (p q : Ordering) → is_eq (ordering_then p q) ≡ (is_eq p && is_eq q)
both_equal Less q = refl
both_equal Equal q = refl
both_equal Greater q = refl

parts : (a b : Bool) (p q : Ordering) → a ≡ is_eq p → b ≡ is_eq q
    → (a && b) ≡ is_eq (ordering_then p q)
parts a b p q e f =
    ap (λ (x : Bool). x && b) e ∙ (ap (λ (y : Bool). is_eq p && y) f ∙ sym (both_equal p q))

-- keys are compared equal where they are the same
pub keys_tie : (a b : VoteKey) → same_key a b ≡ is_eq (key_cmp a b)
keys_tie a b =
    parts _ _ _ _ (unsigned_ties a.kind b.kind)
    (parts _ _ _ _ (unsigned_ties a.epoch b.epoch)
    (parts _ _ _ _ (unsigned_ties a.view b.view)
    (parts _ _ _ _ (unsigned_ties a.parent b.parent) (commitments_tie a.payload b.payload))))

pub same_key_symm : (a b : VoteKey) → same_key a b ≡ same_key b a
same_key_symm a b = keys_tie a b ∙ ((eq_by_cmp_equiv key_total).symm a b ∙ sym (keys_tie b a))

pub same_key_self : (k : VoteKey) → same_key k k ≡ true
same_key_self k = keys_tie k k ∙ (eq_by_cmp_equiv key_total).refl k

pub same_key-true : (a b : VoteKey) → same_key a b ≡ true → a ≡ b
same_key-true a b h =
    let p = and_parts (a.kind == b.kind) _ h in
    let q = and_parts (a.epoch == b.epoch) _ p.1 in
    let r = and_parts (a.view == b.view) _ q.1 in
    let s = and_parts (a.parent == b.parent) (same_commitment a.payload b.payload) r.1 in
    let e0 = eqb-true a.kind b.kind p.0 in
    let e1 = eqb-true a.epoch b.epoch q.0 in
    let e2 = eqb-true a.view b.view r.0 in
    let e3 = eqb-true a.parent b.parent s.0 in
    let e4 = same_commitment-true a.payload b.payload s.1 in
    λ i. record { kind = e0 i; epoch = e1 i; view = e2 i; parent = e3 i; payload = e4 i }

-- votes have one key where they are the same
pub keys_of_same : (v w : Vote) → same_key (key_of v) (key_of w) ≡ same_vote v w
unfolding same_vote same_proposal
keys_of_same (Notarize p) (Notarize q) = same_on p q
  where
    same_on : (p q : Proposal) → same_key (keyed 0 p) (keyed 0 q) ≡ same_proposal p q
    same_on p q = refl
keys_of_same (Notarize p) (Nullify e w) = refl
keys_of_same (Notarize p) (Finalize q) = refl
keys_of_same (Nullify d v) (Notarize q) = refl
keys_of_same (Nullify d v) (Nullify e w) =
    ap (λ b. (d == e) && ((v == w) && b)) (same_commitment_self no_payload)
    ∙ ap (λ b. (d == e) && b) (and_true (v == w))
  where
    and_true : (b : Bool) → (b && true) ≡ b
    and_true true = refl
    and_true false = refl
keys_of_same (Nullify d v) (Finalize q) = refl
keys_of_same (Finalize p) (Notarize q) = refl
keys_of_same (Finalize p) (Nullify e w) = refl
keys_of_same (Finalize p) (Finalize q) = same_on p q
  where
    same_on : (p q : Proposal) → same_key (keyed 2 p) (keyed 2 q) ≡ same_proposal p q
    same_on p q = refl

-- what a look-up by the order finds
pub found_key : {X : Type 0} (es : List (VoteKey × X)) (q : VoteKey)
    → lookup (λ (k : VoteKey). is_eq (key_cmp q k)) es ≡ lookup (same_key q) es
found_key [] q = refl
found_key {X = X} (e ∷ es) q =
    ap (λ b. cond b (Some e.1) (lookup (λ (k : VoteKey). is_eq (key_cmp q k)) es))
    (sym (keys_tie q e.0))
    ∙ ap (λ (o : Option X). cond (same_key q e.0) (Some e.1) o) (found_key es q)
