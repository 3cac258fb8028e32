-- The report's chain is one, on which all lies that was handed out.
use Rattle.std.proofs.Common.{◌≡◌, ℕ, zero, suc, ◌+◌, ◌<◌, ◌≤◌, Bool, true, false, cond, nat_lt, List, [], ◌∷◌, ◌++◌, Option, Some, None, length, count_by, flat_map, option_map, option_and_then, refl, sym, ◌∙◌, ap, subst, inl, inr, ◌⊎◌, arith, length-append, ltb-true, slice_get}
use Rattle.std.specs.List.{AllByRecursion, list_any, range_with_len}
use Rattle.std.specs.Option.{option_map_or}
use Rattle.std.proofs.lemmas.Bool.{cases_Bool, cond-true, cond-false, lt-ltb, ltb-false}
use Rattle.std.proofs.lemmas.Option.{same_Some}
use Rattle.cw_types.specs.declared.commitment.Commitment.{Commitment}
use Rattle.cw_types.specs.declared.event.Handed.{Handed}
use Rattle.cw_types.specs.Block.{Block}
use Rattle.cw_types.specs.Epochs.{members_in}
use Rattle.cw_rules.specs.Accepted.{State}
use Rattle.cw_rules.specs.Chains.{Ends, Follow, IsChain, block_under, chain_to, links_to, outcome}
use Rattle.cw_rules.specs.Held.{held}
use Rattle.cw_rules.specs.Reached.{In, IsCluster, IsLinkOf, IsReported}
use Rattle.cw_rules.specs.Report.{chain_of, handed_in, highest, report_of}
use Rattle.cw_rules.specs.Rules.{Rules, commit, genesis, genesis_commitment}
use Rattle.cw_rules.specs.Step.{deliveries_within, delivery, handing, most_delivered, nothing_came, start, with_given}
use Rattle.cw_rules.specs.World.{Line, World, faults, opening}
use Rattle.cw_rules.proofs.Lists.{count-cons, counts_as, in_left, in_right}
use Rattle.cw_rules.proofs.Deliveries.{holds_genesis}
use Rattle.cw_rules.proofs.Runs.{handed_by, handed_parts, opening_handed, script_chain}

-- ---- the highest

none_empty : (xs : List Handed) → highest xs ≡ None → (y : Handed) → In y xs → ⊥
none_empty [] h y i = i
none_empty (x ∷ xs) h y i = cc

some_highest : (xs : List Handed) (y : Handed) → In y xs → (x : Handed) × (highest xs ≡ Some x)
some_highest [] y i = absurd i
some_highest (x ∷ xs) y i =
    (option_map_or (λ t. cond (nat_lt x.height t.height) t x) (highest xs) x, refl)

record IsHighest (xs : List Handed) (x : Handed) : Type 0 where
  pub there : In x xs
  pub above : (y : Handed) → In y xs → y.height ≤ x.height

highest_is : (xs : List Handed) (x : Handed) → highest xs ≡ Some x → IsHighest xs x
highest_is [] x h = cc
highest_is (z ∷ zs) x h = go (highest zs) refl (highest_is zs)
  where
    go : (o : Option Handed) → highest zs ≡ o
        → ((t : Handed) → highest zs ≡ Some t → IsHighest zs t) → IsHighest (z ∷ zs) x
    go None e later =
        let s : z ≡ x =
        same_Some z x
        (sym
        (ap
        (λ o. Some
        (option_map_or (λ (t : Handed). cond (nat_lt z.height t.height) t z) o
        z))
        e)
        ∙ h) in
        record { there = inl (sym s); above = above s }
      where
        above : z ≡ x → (y : Handed) → In y (z ∷ zs) → y.height ≤ x.height
        above s y (inl a) =
            subst (λ (k : Handed). y.height ≤ k.height) s
            (subst (λ (k : Handed). k.height ≤ z.height) (sym a) (omega arith))
        above s y (inr a) = absurd (none_empty zs e y a)
    go (Some t) e later = by_height (cases_Bool (nat_lt z.height t.height)) (later t e)
      where
        is : cond (nat_lt z.height t.height) t z ≡ x
        is =
            same_Some _ x
            (sym
            (ap
            (λ o. Some
            (option_map_or (λ (t : Handed). cond (nat_lt z.height t.height) t z) o
            z))
            e)
            ∙ h)

        by_height : (nat_lt z.height t.height ≡ true) ⊎ (nat_lt z.height t.height ≡ false)
            → IsHighest zs t → IsHighest (z ∷ zs) x
        by_height (inl less) k =
            let s : t ≡ x = sym (cond-true (nat_lt z.height t.height) t z less) ∙ is in
            subst (IsHighest (z ∷ zs)) s (record { there = inr k.there; above = above })
          where
            above : (y : Handed) → In y (z ∷ zs) → y.height ≤ t.height
            above y (inl a) =
                subst (λ (u : Handed). u.height ≤ t.height) (sym a)
                (omega (arith, ltb-true z.height t.height less))
            above y (inr a) = k.above y a
        by_height (inr more) k =
            let s : z ≡ x = sym (cond-false (nat_lt z.height t.height) t z more) ∙ is in
            subst (IsHighest (z ∷ zs)) s (record { there = inl refl; above = above })
          where
            above : (y : Handed) → In y (z ∷ zs) → y.height ≤ z.height
            above y (inl a) = subst (λ (u : Handed). u.height ≤ z.height) (sym a) (omega arith)
            above y (inr a) = omega (arith, k.above y a, ltb-false z.height t.height more)

-- ---- something is handed out

-- where fewer than all pass, one fails
one_fails : (p : ℕ → Bool) (total : ℕ) (is : List ℕ) → AllByRecursion (λ i. i < total) is
    → count_by p is < length is → (i : ℕ) × (i < total) × (p i ≡ false)
unfolding counts_as
one_fails p total [] a h = absurd (omega arith)
one_fails p total (i ∷ is) a h = go (cases_Bool (p i)) (one_fails p total is a.1)
  where
    go : (p i ≡ true) ⊎ (p i ≡ false)
        → (count_by p is < length is → (j : ℕ) × (j < total) × (p j ≡ false))
        → (j : ℕ) × (j < total) × (p j ≡ false)
    go (inl t) later = later (omega (arith, count-cons p i is, ap counts_as t))
    go (inr f) later = (i, a.0, f)

in_flat_at : (f : ℕ → List Handed) (x : Handed) (i low len : ℕ) → low ≤ i → i < low + len
    → In x (f i) → In x (flat_map f (range_with_len low len))
in_flat_at f x i low zero le lt h = absurd (omega arith)
in_flat_at f x i low (suc len) le lt h =
    go (cases_Bool (nat_lt low i)) (in_flat_at f x i (low + 1) len)
  where
    go : (nat_lt low i ≡ true) ⊎ (nat_lt low i ≡ false)
        → (low + 1 ≤ i → i < low + 1 + len → In x (f i)
        → In x (flat_map f (range_with_len (low + 1) len)))
        → In x (f low ++ flat_map f (range_with_len (low + 1) len))
    go (inl t) later =
        in_right x (f low) (flat_map f (range_with_len (low + 1) len))
        (later (omega (arith, ltb-true low i t)) (omega arith) h)
    go (inr n) later =
        let e : i ≡ low = omega (arith, ltb-false low i n) in
        in_left x (f low) (flat_map f (range_with_len (low + 1) len)) (subst (λ j. In x (f j)) e h)

-- ---- how long a chain is

-- each link's height is its place
pub follow_height : (r : Rules) (w : World) (c : Commitment) (a : Block) (bs : List Block)
    → Follow r w c a bs → (i : ℕ) (x : Block) → slice_get (a ∷ bs) i ≡ Some x
    → x.height ≡ a.height + i
follow_height r w c a bs f zero x h =
    let e : a ≡ x = same_Some a x h in omega (arith, ap (λ (b : Block). b.height) e)
follow_height r w c a [] f (suc i) x h = cc
follow_height r w c a (b ∷ bs) f (suc i) x h =
    omega (arith, f.0, follow_height r w (commit r b) b bs f.4 i x h)

pub chain_height : (r : Rules) (w : World) (links : List Block) → IsChain r w links
    → (i : ℕ) (x : Block) → slice_get links i ≡ Some x → x.height ≡ i
chain_height r w [] k i x h = absurd k
chain_height r w (b ∷ bs) k i x h =
    omega (
      arith,
      ap (λ (y : Block). y.height) k.0,
      follow_height r w (genesis_commitment r) b bs k.1 i x h,
    )

last_at : (xs : List Block) (b : Block) → slice_get (xs ++ b ∷ []) (length xs) ≡ Some b
last_at [] b = refl
last_at (x ∷ xs) b = last_at xs b

-- a list that ends in b is as long as b is high, and genesis
ends_high : (r : Rules) (w : World) (xs : List Block) (b : Block) → IsChain r w (xs ++ b ∷ [])
    → length (xs ++ b ∷ []) ≡ b.height + 1
ends_high r w xs b k =
    omega (
      arith,
      chain_height r w (xs ++ b ∷ []) k (length xs) b (last_at xs b),
      length-append xs (b ∷ []),
    )

pub links_end : (r : Rules) (w : World) (steps : ℕ) (b : Block)
    → (xs : List Block) × (links_to r w steps b ≡ xs ++ b ∷ [])
links_end r w zero b = ([], refl)
links_end r w (suc steps) b =
    (option_map_or (links_to r w steps) (block_under r w b.context.parent) [], refl)

chain_long : (r : Rules) (w : World) (b : Block) → IsChain r w (chain_to r w b)
    → length (chain_to r w b) ≡ b.height + 1
chain_long r w b k =
    let (xs, e) = links_end r w b.height b in
    ap length e ∙ ends_high r w xs b (subst (IsChain r w) e k)

module _ (r : Rules) (pos : 0 < r.backlog) where
  abbrev pub fresh : State
  fresh = record { notes = []; came = nothing_came; given = [] }

  abbrev pub first : Handed
  first = handing r 0 (genesis_commitment r) (genesis r)

  first_delivery : delivery r fresh ≡ Some first
  first_delivery =
      cond-true (nat_lt 0 r.backlog)
      (option_map (handing r 0 (genesis_commitment r)) (held r [] (genesis_commitment r))) None
      (lt-ltb 0 r.backlog pos)
      ∙ ap (option_map (handing r 0 (genesis_commitment r))) (holds_genesis r [])

  first_within : (steps : ℕ) → 0 < steps → In first (deliveries_within r steps fresh)
  first_within zero h = absurd (omega arith)
  first_within (suc steps) h =
      subst
      (λ o. In first
      (option_map_or
      (λ (x : Handed). x ∷ deliveries_within r steps (with_given fresh x.height)) o []))
      (sym first_delivery) (inl refl)

  -- a start on an empty disk hands out genesis
  start_gives : (i : ℕ) → In first (start r i []).handed
  start_gives i = first_within (most_delivered r fresh) (omega (arith, pos))

  pub something_given : (script : List Line) → IsCluster r script → In first (handed_in r script)
  something_given script c =
      let (i, there, honest) =
      one_fails (λ i. list_any (faults i) script) r.epochs.total (members_in r.epochs 0)
      (c.there 0) (omega (arith, c.few 0, c.enough 0)) in
      subst (In first) (sym (handed_parts r script))
      (in_left first (opening_handed r script) (handed_by r (opening r script) script)
      (in_flat_at (λ i. cond (list_any (faults i) script) [] (start r i []).handed) first i 0
      r.epochs.total (omega arith) (omega arith)
      (subst (λ b. In first (cond b [] (start r i []).handed)) (sym honest) (start_gives i))))

  -- the chain of the report
  pub report_chain : (script : List Line) (w : World) → IsCluster r script
      → outcome r (opening r script) script ≡ Ends w
      → IsReported r w (handed_in r script) (report_of r script w).chain
  report_chain script w c h =
      let (x, top) = some_highest (handed_in r script) first (something_given script c) in
      let k = highest_is (handed_in r script) x top in
      let one = script_chain r script w c h x k.there in
      let e : chain_of r script w ≡ chain_to r w one.block =
      ap
      (λ o. option_map_or (chain_to r w)
      (option_and_then (λ (y : Handed). block_under r w y.commitment) o) [])
      top
      ∙ ap (λ o. option_map_or (chain_to r w) o []) one.under in
      record {
        chain = subst (IsChain r w) (sym e) one.chain;
        each = λ y i. subst (λ links. IsLinkOf r links y) (sym e) (one.links y i (k.above y i));
        top = (
          x,
          k.there,
          ap length e ∙ (chain_long r w one.block one.chain ∙ ap (λ n. n + 1) one.height),
        );
      }
