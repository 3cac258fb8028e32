-- What a block of each height does.
use Rattle.std.proofs.Common.{◌≡◌, ℕ, ◌<◌, ◌==◌, Bool, true, false, cond, nat_lt, List, [], ◌∷◌, ◌++◌, length, Result, Err, refl, sym, ap, ◌∙◌, arith}
use Rattle.std.proofs.lemmas.Bool.{ltb-true, lt-ltb, ne_eqb}
use Rattle.cw_types.specs.Block.{Block}
use Rattle.node_disk.specs.declared.log.StoreError.{StoreError}
use Rattle.cw_ledger.specs.Ledger.{answer_to, applied, frame_of, written_for}
use Rattle.cw_ledger.specs.declared.replica.Applied.{Applied}
use Rattle.cw_ledger.specs.declared.replica.Applied.TheVariants.{Done, Gap, Known}

not_less : (n m : ℕ) → (n < m → ⊥) → nat_lt n m ≡ false
not_less n m other = go (nat_lt n m) refl
  where
    go : (b : Bool) → nat_lt n m ≡ b → b ≡ false
    go true is = absurd (other (ltb-true n m is))
    go false is = refl

-- what a block does: its answer, the payloads after it, and the frame that is written
pub record Does (payloads : List (List ℕ)) (block : Block) (answer : Applied)
    (after : List (List ℕ)) (frame : List ℕ) : Type 0 where
  pub answers : answer ≡ answer_to (length payloads) block.height
  pub leaves : after ≡ applied payloads block
  pub writes : frame ≡ written_for payloads block

module _ (payloads : List (List ℕ)) (block : Block) (next height : ℕ)
    (counted : next ≡ length payloads) (is : height ≡ block.height) where
  stays : (block.height ≡ length payloads → ⊥)
      → (payloads ≡ applied payloads block) × ([] ≡ written_for payloads block)
  stays other = (
    ap (λ b. cond b (payloads ++ block.payload ∷ []) payloads)
        (sym (ne_eqb block.height (length payloads) other)),
    ap (λ b. cond b (frame_of (length payloads, block.payload)) [])
        (sym (ne_eqb block.height (length payloads) other)),
  )

  pub is_known : height < next → Does payloads block Known payloads []
  is_known below =
      let kept = stays (λ e. omega (arith, counted, is)) in
      let less : block.height < length payloads = omega (arith, counted, is) in
      record {
        answers =
            ap
            (λ b. cond b Known
            (cond (nat_lt (length payloads) block.height) (Gap (length payloads)) Done))
            (sym (lt-ltb block.height (length payloads) less));
        leaves = kept.0;
        writes = kept.1;
      }

  pub is_gap : next < height → Does payloads block (Gap next) payloads []
  is_gap above =
      let kept = stays (λ e. omega (arith, counted, is)) in
      let more : length payloads < block.height = omega (arith, counted, is) in
      record {
        answers =
            ap (λ n. Gap n) counted
            ∙ ap (λ b. cond b (Gap (length payloads)) Done)
            (sym (lt-ltb (length payloads) block.height more))
            ∙ ap
            (λ b. cond b Known
            (cond (nat_lt (length payloads) block.height) (Gap (length payloads)) Done))
            (sym (not_less block.height (length payloads) (λ lt. omega arith)));
        leaves = kept.0;
        writes = kept.1;
      }

  pub is_next : (payload : List ℕ) → payload ≡ block.payload → (height < next → ⊥)
      → (next < height → ⊥)
      → Does payloads block Done (payloads ++ payload ∷ []) (frame_of (length payloads, payload))
  is_next payload same below above =
      let at : block.height ≡ length payloads = omega (arith, counted, is, below, above) in
      let test : (block.height == length payloads) ≡ true = rw at (grind arith) in
      record {
        answers =
            ap (λ b. cond b (Gap (length payloads)) Done)
            (sym (not_less (length payloads) block.height (λ lt. omega arith)))
            ∙ ap
            (λ b. cond b Known
            (cond (nat_lt (length payloads) block.height) (Gap (length payloads)) Done))
            (sym (not_less block.height (length payloads) (λ lt. omega arith)));
        leaves =
            ap (λ p. payloads ++ p ∷ []) same
            ∙ ap (λ b. cond b (payloads ++ block.payload ∷ []) payloads) (sym test);
        writes =
            ap (λ p. frame_of (length payloads, p)) same
            ∙ ap (λ b. cond b (frame_of (length payloads, block.payload)) []) (sym test);
      }

-- an error in place of another answer is the same error
pub same_error : {X Y : Type 0} (e f : StoreError) → ◌≡◌ {A = Result X StoreError} (Err e) (Err f)
    → ◌≡◌ {A = Result Y StoreError} (Err e) (Err f)
same_error e f is = ap (λ h. Err h) (let same : e ≡ f = cc in same)
