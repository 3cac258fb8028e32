-- Heights of noted blocks, with one note more, and in the words of the rules.
use Rattle.std.proofs.Common.{◌≡◌, ℕ, ◌+◌, ◌-◌, ◌==◌, ◌⊎◌, inl, inr, Bool, true, false, if◌then◌else◌, refl, sym, subst, ◌∙◌, ap, arith, eqb-true, List, [], ◌∷◌, ◌++◌, Option, Some, None, option_map, unwrap_or}
use Rattle.std.specs.Map.{lookup}
use Rattle.std.specs.Option.{is_some, option_map_or, option_or}
use Rattle.std.specs.Ordering.{is_eq}
use Rattle.std.specs.Prelude.{IsSome}
use Rattle.std.proofs.lemmas.Bool.{cases_Bool, ne_eqb}
use Rattle.cw_types.specs.Block.{Block}
use Rattle.cw_types.specs.Order.{commitment_cmp}
use Rattle.cw_types.specs.OrderLaws.{commitments_are_told, commitments_tie}
use Rattle.cw_types.specs.Same.{same_commitment}
use Rattle.cw_types.specs.declared.commitment.Commitment.{Commitment}
use Rattle.cw_types.specs.declared.note.Note.{Note}
use Rattle.cw_types.proofs.Ordered.{found_same}
use Rattle.cw_types.proofs.Same.{same_commitment-true, same_commitment_self}
use Rattle.cw_rules.specs.Accepted.{first_some}
use Rattle.cw_rules.specs.Held.{noted_block_of}
use Rattle.voter.specs.Heights.{HasBlockHeights, IsBlockThere, above_at, noted_above}
use Rattle.voter.proofs.Saying.{some_there}
use Rattle.voter.proofs.Settling.{first_more}

abbrev pub Entries : Type 0
Entries = List (Commitment × ℕ)

-- one above the height of a block, else 0
abbrev above_of : Option Block → ℕ
above_of o = option_map_or (λ b. b.height + 1) o 0

-- that of the first noted block
abbrev first_above : List Note → Commitment → ℕ
first_above notes c = above_of (first_some (noted_block_of c) notes)

-- ---- a key for a block

-- what a map has at each key, after 0 was put where there was none
abbrev pub PutBlock : Entries → Entries → Commitment → Type 0
PutBlock old new k =
    (q : Commitment) → lookup (λ (j : Commitment). is_eq (commitment_cmp q j)) new
    ≡ option_or (lookup (λ (j : Commitment). is_eq (commitment_cmp q j)) old)
    (if is_eq (commitment_cmp q k) then Some 0 else None)

block_put : (old new : Entries) (k : Commitment) → PutBlock old new k → (q : Commitment)
    → lookup (same_commitment q) new
    ≡ option_or (lookup (same_commitment q) old) (if same_commitment q k then Some 0 else None)
block_put old new k puts q =
    sym (found_same new q)
    ∙ (puts q
    ∙ (ap (λ (o : Option ℕ). option_or o (if is_eq (commitment_cmp q k) then Some 0 else None))
    (found_same old q)
    ∙ ap (λ b. option_or (lookup (same_commitment q) old) (if b then Some 0 else None))
    (sym (commitments_tie q k))))

-- a block that has no height yet
pub heights_prepared : (old new : Entries) (k : Commitment) → PutBlock old new k
    → (notes : List Note) → HasBlockHeights notes old → HasBlockHeights notes new
heights_prepared old new k puts notes has q =
    ap (λ (o : Option ℕ). unwrap_or o 0) (block_put old new k puts q)
    ∙ (go (lookup (same_commitment q) old) (same_commitment q k) ∙ has q)
  where
    go : (o : Option ℕ) (b : Bool)
        → unwrap_or (option_or o (if b then Some 0 else None)) 0 ≡ unwrap_or o 0
    go None true = refl
    go None false = refl
    go (Some x) b = refl

-- it is there then
pub block_there : (old new : Entries) (k : Commitment) (above : ℕ) → PutBlock old new k
    → (note : Note) → noted_above note ≡ Some (k, above) → IsBlockThere note new
block_there old new k above puts note is e at =
    ap (λ (o : Option ℕ). is_some o) (block_put old new k puts e.0)
    ∙ (ap (λ b. is_some (option_or (lookup (same_commitment e.0) old) (if b then Some 0 else None)))
    (ap (λ (x : Commitment). same_commitment x k) (sym same) ∙ same_commitment_self k)
    ∙ go (lookup (same_commitment e.0) old))
  where
    pair : ◌≡◌ {A = Commitment × ℕ} (k, above) e
    pair =
        let h : ◌≡◌ {A = Option (Commitment × ℕ)} (Some (k, above)) (Some e) = sym is ∙ at in cc

    same : k ≡ e.0
    same = ap (λ (x : Commitment × ℕ). x.0) pair

    go : (o : Option ℕ) → is_some (option_or o (Some 0)) ≡ true
    go None = refl
    go (Some x) = refl

-- a commitment that is there, by the order of commitments
pub is_block_there : (es : Entries) (note : Note) (k : Commitment) (above : ℕ)
    → IsBlockThere note es → noted_above note ≡ Some (k, above)
    → IsSome (lookup (λ (j : Commitment). is_eq (commitment_cmp k j)) es)
is_block_there es note k above there is =
    subst (λ (o : Option ℕ). IsSome o) (sym (found_same es k))
    (some_there (lookup (same_commitment k) es) (there (k, above) is))

-- ---- one note more

-- what a note adds to a commitment that has no block
abbrev adds : Commitment → Option (Commitment × ℕ) → ℕ
adds q o = option_map_or (λ e. if same_commitment q e.0 then e.1 else 0) o 0

adds_is : (q : Commitment) (note : Note)
    → above_of (noted_block_of q note) ≡ adds q (noted_above note)
adds_is q (Note.Block c b) = go (same_commitment q c)
  where
    go : (s : Bool) → above_of (if s then Some b else None) ≡ (if s then b.height + 1 else 0)
    go true = refl
    go false = refl
adds_is q (Note.Verified e w c) = refl
adds_is q (Note.Certified p) = refl
adds_is q (Note.Vote v) = refl
adds_is q (Note.Cert s) = refl
adds_is q (Note.Ack h) = refl
adds_is q (Note.Floor h) = refl
adds_is q (Note.Prune h) = refl
adds_is q (Note.Epoch e c) = refl

first_or : (x y : Option Block)
    → above_of (option_or x y) ≡ (if above_of x == 0 then above_of y else above_of x)
first_or None y = refl
first_or (Some b) y = go (b.height + 1) (ne_eqb (b.height + 1) 0 (λ h. omega (arith, h)))
  where
    go : (n : ℕ) → (n == 0) ≡ false → n ≡ (if n == 0 then above_of y else n)
    go n e = rw e refl

above_more : (q : Commitment) (notes : List Note) (note : Note)
    → first_above (notes ++ note ∷ []) q
    ≡ (if first_above notes q == 0 then adds q (noted_above note) else first_above notes q)
above_more q notes note =
    ap above_of (first_more (noted_block_of q) notes note)
    ∙ (first_or (first_some (noted_block_of q) notes) (noted_block_of q note)
    ∙ ap (λ (n : ℕ). if first_above notes q == 0 then n else first_above notes q)
    (adds_is q note))

-- by what a map has
map_more : (es : Entries) (notes : List Note) (note : Note) → HasBlockHeights notes es
    → (q : Commitment) → first_above (notes ++ note ∷ []) q
    ≡ (if above_at q es == 0 then adds q (noted_above note) else above_at q es)
map_more es notes note has q =
    above_more q notes note
    ∙ ap (λ (n : ℕ). if n == 0 then adds q (noted_above note) else n) (sym (has q))

or_zero : (n : ℕ) → n ≡ (if n == 0 then 0 else n)
or_zero n = by (cases_Bool (n == 0))
  where
    by : ((n == 0) ≡ true) ⊎ ((n == 0) ≡ false) → n ≡ (if n == 0 then 0 else n)
    by (inl e) = rw e (eqb-true n 0 e)
    by (inr e) = rw e refl

-- the first block of its commitment
pub heights_with : (old new : Entries) (notes : List Note) (note : Note) (k : Commitment)
    (above : ℕ) → HasBlockHeights notes old → noted_above note ≡ Some (k, above)
    → above_at k old ≡ 0
    → ((q : Commitment) → lookup (λ (j : Commitment). is_eq (commitment_cmp q j)) new
    ≡ (if is_eq (commitment_cmp k q) then Some above
    else lookup (λ (j : Commitment). is_eq (commitment_cmp q j)) old))
    → HasBlockHeights (notes ++ note ∷ []) new
heights_with old new notes note k above has is none sets q =
    ap (λ (o : Option ℕ). unwrap_or o 0)
    (sym (found_same new q)
    ∙ (sets q
    ∙ (ap
    (λ b. if b then Some above
    else lookup (λ (j : Commitment). is_eq (commitment_cmp q j)) old)
    (sym (commitments_tie k q) ∙ commitments_are_told.symm k q)
    ∙ ap (λ (o : Option ℕ). if same_commitment q k then Some above else o) (found_same old q))))
    ∙ (go (same_commitment q k) refl
    ∙ (ap
    (λ (o : Option (Commitment × ℕ)). if above_at q old == 0 then adds q o else above_at q old)
    (sym is)
    ∙ sym (map_more old notes note has q)))
  where
    go : (s : Bool) → same_commitment q k ≡ s
        → unwrap_or (if s then Some above else lookup (same_commitment q) old) 0
        ≡ (if above_at q old == 0 then (if s then above else 0) else above_at q old)
    go true e =
        let zero : above_at q old ≡ 0 =
        ap (λ (c : Commitment). above_at c old) (same_commitment-true q k e) ∙ none in
        rw zero refl
    go false e = or_zero (above_at q old)

-- a later block of its commitment
pub heights_kept : (es : Entries) (notes : List Note) (note : Note) (k : Commitment)
    (above : ℕ) → HasBlockHeights notes es → noted_above note ≡ Some (k, above)
    → (above_at k es ≡ 0 → ⊥) → HasBlockHeights (notes ++ note ∷ []) es
heights_kept es notes note k above has is some q =
    go (same_commitment q k) refl
    ∙ (ap (λ (o : Option (Commitment × ℕ)). if above_at q es == 0 then adds q o else above_at q es)
    (sym is)
    ∙ sym (map_more es notes note has q))
  where
    go : (s : Bool) → same_commitment q k ≡ s
        → above_at q es
        ≡ (if above_at q es == 0 then (if s then above else 0) else above_at q es)
    go true e =
        let there : (above_at q es == 0) ≡ false =
        ne_eqb (above_at q es) 0
        (λ zero. some
        (ap (λ (c : Commitment). above_at c es) (sym (same_commitment-true q k e)) ∙ zero)) in
        rw there refl
    go false e = or_zero (above_at q es)

-- a note that is no block
pub heights_same : (es : Entries) (notes : List Note) (note : Note) → HasBlockHeights notes es
    → noted_above note ≡ None → HasBlockHeights (notes ++ note ∷ []) es
heights_same es notes note has none q =
    or_zero (above_at q es)
    ∙ (ap (λ (o : Option (Commitment × ℕ)). if above_at q es == 0 then adds q o else above_at q es)
    (sym none)
    ∙ sym (map_more es notes note has q))

-- ---- in the words of the rules

pub none_above : (o : Option Block) (n : ℕ) → n ≡ above_of o → n ≡ 0
    → None ≡ option_map (λ b. b.height) o
none_above None n is e = refl
none_above (Some b) n is e =
    let above : n ≡ b.height + 1 = is in absurd (omega (arith, above, e))

pub some_above : (o : Option Block) (n : ℕ) → n ≡ above_of o → (n ≡ 0 → ⊥)
    → Some (n - 1) ≡ option_map (λ b. b.height) o
some_above None n is e = absurd (e is)
some_above (Some b) n is e =
    let above : n ≡ b.height + 1 = is in ap Some (omega (arith, above))
