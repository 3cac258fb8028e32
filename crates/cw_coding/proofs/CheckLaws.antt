-- Many chunks that are checked, one by one.
use Rattle.std.proofs.Common.{◌≡◌, ◌≢◌, ℕ, suc, zero, ◌+◌, ◌<◌, ◌≤◌, List, [], ◌∷◌, ◌++◌, length, take, get_or, map, Result, Err, refl, sym, ap, subst, ◌∙◌, arith, Bor}
use Rattle.std.proofs.lemmas.List.{take_more, take_all}
use denote.Param.Members.{Shared}
use Rattle.std.specs.Fn.{FnReturnsAt}
use Rattle.cw_base.specs.Counts.{Counts}
use Rattle.cw_base.specs.Mapping.{GivesItems}
use Rattle.cw_tree.specs.Chunks.{Piece}
use Rattle.cw_coding.specs.declared.error.ReedSolomonError.{ReedSolomonError}
use Rattle.cw_coding.specs.declared.error.ReedSolomonError.TheVariants.{NoMemory}
use Rattle.cw_coding.specs.Checked.{Checked}
use Rattle.cw_coding.specs.Checking.{AllCheck, AllStand, Checks, IsVerdictOn}

module _ {D : Type 0} (hash : List ℕ → D) (content : D → List ℕ) (c : Counts) (root : D) where
  -- what a map answers to chunks at their indices
  pub stood : {F : Type 0}
      (g : Shared F (Bor (ℕ × Bor (Piece D)) × Unit {0}) (Result D ReedSolomonError)) (f : F)
      →
      ((x : ℕ × Bor (Piece D)) (r : Result D ReedSolomonError) → FnReturnsAt g f x r
      → IsVerdictOn hash content c root x.0 x.1.now r)
      →
      (xs : List (ℕ × Bor (Piece D))) (rs : List (Result D ReedSolomonError)) → GivesItems g f xs rs
      →
      AllStand hash content c root (map (λ x. x.0) xs) (map (λ x. x.1.now) xs) rs
  stood g f each [] [] given = tt
  stood g f each [] (r ∷ rs) given = absurd given
  stood g f each (x ∷ xs) [] given = absurd given
  stood g f each (x ∷ xs) (r ∷ rs) given = (each x r given.0, stood g f each xs rs given.1)

  pub shown_stands : (x y : ℕ × Bor (Piece D)) (r : Result D ReedSolomonError) → y ≡ x
      → IsVerdictOn hash content c root y.0 y.1.now r
      → IsVerdictOn hash content c root x.0 x.1.now r
  shown_stands x y r e h =
      subst (λ (z : ℕ × Bor (Piece D)). IsVerdictOn hash content c root z.0 z.1.now r) e h

  -- the answer at a place
  pub stands_at : (is : List ℕ) (ps : List (Piece D)) (rs : List (Result D ReedSolomonError))
      (k : ℕ) (p : Piece D) (r : Result D ReedSolomonError)
      →
      AllStand hash content c root is ps rs → k < length ps → p ≡ get_or ps k p → r ≡ get_or rs k r
      → IsVerdictOn hash content c root (get_or is k 0) p r
  stands_at [] [] rs k p r all l isp isr = absurd (omega arith)
  stands_at [] (q ∷ ps) rs k p r all l isp isr = absurd (none rs all)
    where
      none : (rs : List (Result D ReedSolomonError)) → AllStand hash content c root [] (q ∷ ps) rs
          → ⊥
      none [] a = a
      none (x ∷ xs) a = a
  stands_at (i ∷ is) [] rs k p r all l isp isr = absurd (omega arith)
  stands_at (i ∷ is) (q ∷ ps) [] k p r all l isp isr = absurd all
  stands_at (i ∷ is) (q ∷ ps) (x ∷ rs) zero p r all l isp isr =
      subst (λ (y : Piece D). IsVerdictOn hash content c root i y r) (sym isp)
      (subst (λ (y : Result D ReedSolomonError). IsVerdictOn hash content c root i q y) (sym isr)
      all.0)
  stands_at (i ∷ is) (q ∷ ps) (x ∷ rs) (suc k) p r all l isp isr =
      stands_at is ps rs k p r all.1 (omega arith) isp isr

  -- as many answers as chunks
  pub stood_long : (is : List ℕ) (ps : List (Piece D)) (rs : List (Result D ReedSolomonError))
      → AllStand hash content c root is ps rs → length rs ≡ length ps
  stood_long [] [] [] all = refl
  stood_long [] [] (r ∷ rs) all = absurd all
  stood_long [] (q ∷ ps) [] all = absurd all
  stood_long [] (q ∷ ps) (r ∷ rs) all = absurd all
  stood_long (i ∷ is) [] [] all = absurd all
  stood_long (i ∷ is) [] (r ∷ rs) all = absurd all
  stood_long (i ∷ is) (q ∷ ps) [] all = absurd all
  stood_long (i ∷ is) (q ∷ ps) (r ∷ rs) all = ap suc (stood_long is ps rs all.1)

  -- one more answer
  pub all_push : (is : List ℕ) (ps : List (Piece D))
      (rs : List (Result (Checked D) ReedSolomonError)) (i : ℕ) (p : Piece D)
      (r : Result (Checked D) ReedSolomonError)
      →
      AllCheck hash content c root is ps rs → Checks hash content c root i p r → r ≢ Err NoMemory
      → AllCheck hash content c root (is ++ i ∷ []) (ps ++ p ∷ []) (rs ++ r ∷ [])
  all_push [] [] [] i p r all one memory = (one, memory, tt)
  all_push [] [] (x ∷ rs) i p r all one memory = absurd all
  all_push [] (q ∷ ps) [] i p r all one memory = absurd all
  all_push [] (q ∷ ps) (x ∷ rs) i p r all one memory = absurd all
  all_push (j ∷ is) [] [] i p r all one memory = absurd all
  all_push (j ∷ is) [] (x ∷ rs) i p r all one memory = absurd all
  all_push (j ∷ is) (q ∷ ps) [] i p r all one memory = absurd all
  all_push (j ∷ is) (q ∷ ps) (x ∷ rs) i p r all one memory =
      (all.0, all.1, all_push is ps rs i p r all.2 one memory)

  pub all_more : (is : List ℕ) (ps : List (Piece D))
      (before after : List (Result (Checked D) ReedSolomonError)) (k : ℕ) (p : Piece D)
      (r : Result (Checked D) ReedSolomonError)
      →
      k < length is → k < length ps → p ≡ get_or ps k p → after ≡ before ++ r ∷ [] →
      AllCheck hash content c root (take k is) (take k ps) before
      → Checks hash content c root (get_or is k 0) p r → r ≢ Err NoMemory →
      AllCheck hash content c root (take (k + 1) is) (take (k + 1) ps) after
  all_more is ps before after k p r li lp isp more all one memory =
      let index : take (k + 1) is ≡ take k is ++ get_or is k 0 ∷ [] = take_more is k 0 li in
      let piece : take (k + 1) ps ≡ take k ps ++ p ∷ [] =
      take_more ps k p lp ∙ ap (λ y. take k ps ++ y ∷ []) (sym isp) in
      rw (index, piece, more)
      (all_push (take k is) (take k ps) before (get_or is k 0) p r all one memory)

  -- the answers to all chunks
  pub all_stood : (is is' : List ℕ) (ps ps' : List (Piece D))
      (rs : List (Result D ReedSolomonError)) (n : ℕ)
      → length is ≤ n → length ps ≤ n →
      is' ≡ take n is → ps' ≡ take n ps → AllStand hash content c root is' ps' rs
      → AllStand hash content c root is ps rs
  all_stood is is' ps ps' rs n li lp i p all =
      let indices : is' ≡ is = i ∙ take_all n is li in
      let shards : ps' ≡ ps = p ∙ take_all n ps lp in
      rw (indices, shards) at all

  pub all_checked : (is : List ℕ) (ps : List (Piece D))
      (rs : List (Result (Checked D) ReedSolomonError)) (n : ℕ)
      → length is ≤ n → length ps ≤ n →
      AllCheck hash content c root (take n is) (take n ps) rs
      → AllCheck hash content c root is ps rs
  all_checked is ps rs n li lp all =
      let indices : take n is ≡ is = take_all n is li in
      let shards : take n ps ≡ ps = take_all n ps lp in
      rw (indices, shards) at all
