-- Two encodings under one root: where their shards differ first, and what that gives.
use Rattle.std.proofs.Common.{◌≡◌, ◌≢◌, ℕ, ◌<◌, ◌≤◌, List, length, get_or, slice_get, Some, refl, sym, ap, subst, ◌∙◌, arith}
use Rattle.std.proofs.lemmas.Option.{slice_get_read}
use Rattle.cw_base.specs.Counts.{Counts}
use Rattle.cw_base.specs.Rows.{listed}
use Rattle.cw_base.proofs.Listed.{length-listed}
use Rattle.rs_code.specs.Codeword.{ArePoints}
use Rattle.rs_code.specs.Rows.{OriginalsComeFirst, RowsFixCodeword}
use Rattle.cw_tree.specs.Chunks.{Piece}
use Rattle.cw_tree.specs.Tree.{root_by}
use Rattle.cw_coding.specs.Clash.{AreAlike, AreRivals, AreClash, IsFirstClash, IsFirstDifference, Leads}
use Rattle.cw_coding.specs.Encoding.{IsEncoding, piece_of}
use Rattle.cw_coding.specs.Totals.{total_of}
use Rattle.cw_coding.proofs.AnyLaws.{same_by_rows}
use Rattle.cw_coding.proofs.CheckingLaws.{checks, listed_at, listed_get}

module _ {D : Type 0} (hash : List ℕ → D) (content : D → List ℕ) (c : Counts) where
  pub length-encoding : (text : List ℕ) (root : D) (pieces : List (Piece D))
      → IsEncoding hash content c text root pieces → length pieces ≡ total_of c
  length-encoding text root pieces e =
      ap length e.each ∙ length-listed (total_of c) (piece_of hash content c text)

  -- the chunk of each index
  piece_there : (text : List ℕ) (root : D) (pieces : List (Piece D))
      → IsEncoding hash content c text root pieces → (i : ℕ) → i < total_of c →
      slice_get pieces i ≡ Some (piece_of hash content c text i)
  piece_there text root pieces e i l =
      let f : ℕ → Piece D = piece_of hash content c text in
      ap (λ (ps : List (Piece D)). slice_get ps i) e.each
      ∙ slice_get_read (listed (total_of c) f) (total_of c) i (f i)
      (sym (length-listed (total_of c) f)) l (sym (listed_at (total_of c) f i (f i) l))

  module _ (first second : List ℕ) (root other : D) (ours theirs : List (Piece D))
      (some : 1 ≤ c.minimum)
      (e : IsEncoding hash content c first root ours)
      (f : IsEncoding hash content c second other theirs) where
    pub lengths : length ours ≡ length theirs
    lengths = length-encoding first root ours e ∙ sym (length-encoding second other theirs f)

    -- texts of the same shards are one text
    pub alike_texts : OriginalsComeFirst → RowsFixCodeword → ((i : ℕ) → get_or first i 0 < 256)
        → ((i : ℕ) → get_or second i 0 < 256) →
        (n : ℕ) → length ours ≤ n → AreAlike n ours theirs → first ≡ second
    alike_texts law fix fb sb n many alike =
        let k = c.minimum in
        let total = e.total in
        let long = length-encoding first root ours e in
        let points : ArePoints k (λ s. s) =
        record { fit = λ s l. omega arith; distinct = λ s u ls lu same. same } in
        same_by_rows law fix k first second (λ s. s) some (omega arith) e.codable.short
        f.codable.short fb sb points
        (λ s l. alike s (piece_of hash content c first s) (piece_of hash content c second s)
        (omega (arith, long, many, l))
        (piece_there first root ours e s (omega arith))
        (piece_there second other theirs f s (omega arith)))

    module _ (s t : List (Piece D)) (es : s ≡ ours) (et : t ≡ theirs) (same : other ≡ root) (i : ℕ)
        (x y : Piece D) (within : i < length s)
        (isx : x ≡ get_or ours i x) (isy : y ≡ get_or theirs i y)
        (differ : (p q : Piece D) → slice_get s i ≡ Some p → slice_get t i ≡ Some q
        → p.shard ≢ q.shard) where
      atx : slice_get ours i ≡ Some x
      atx = slice_get_read ours (length ours) i x refl (omega (arith, ap length es)) isx

      aty : slice_get theirs i ≡ Some y
      aty =
          slice_get_read theirs (length theirs) i y refl (omega (arith, ap length es, lengths)) isy

      leads : (text : List ℕ) (r : D) (pieces : List (Piece D)) (p : Piece D)
          → IsEncoding hash content c text r pieces → slice_get pieces i ≡ Some p →
          (p.leaf_count ≡ total_of c) × (p.index ≡ i) × Leads hash content p r
      leads text r pieces p g at =
          let under = checks hash content c text r pieces some g i p at in (
            under.leaves,
            under.same,
            subst
                (λ (j : ℕ). root_by hash content p.leaf_count p.siblings j (hash p.shard)
                ≡ Some r)
                (sym under.same) under.path,
          )

      pub rivals : AreRivals hash content x y
      rivals =
          let one = leads first root ours x e atx in
          let two = leads second other theirs y f aty in
          record {
            leaves = one.0 ∙ sym two.0;
            index = one.1 ∙ sym two.1;
            shards =
                differ x y (ap (λ (ps : List (Piece D)). slice_get ps i) es ∙ atx)
                (ap (λ (ps : List (Piece D)). slice_get ps i) et ∙ aty);
            root = root;
            ours = one.2;
            theirs = two.2 ∙ ap Some same;
          }

      -- the first chunks of different shards are those of the lowest index of different shards
      lowest : AreAlike i s t → IsFirstDifference c first second i
      lowest before =
          let long : length s ≡ total_of c = ap length es ∙ length-encoding first root ours e in
          let ps : ℕ → Piece D = piece_of hash content c first in
          let qs : ℕ → Piece D = piece_of hash content c second in
          let in_s : (j : ℕ) → j < total_of c → slice_get s j ≡ Some (ps j) =
          λ j l. ap (λ (xs : List (Piece D)). slice_get xs j) es
          ∙ piece_there first root ours e j l in
          let in_t : (j : ℕ) → j < total_of c → slice_get t j ≡ Some (qs j) =
          λ j l. ap (λ (xs : List (Piece D)). slice_get xs j) et
          ∙ piece_there second other theirs f j l in
          record {
            within = omega arith;
            differ = differ (ps i) (qs i) (in_s i (omega arith)) (in_t i (omega arith));
            before =
                λ j lt. before j (ps j) (qs j) lt (in_s j (omega arith)) (in_t j (omega arith));
          }

      pub clash_is : first ≢ second → AreAlike i s t → (a b : List ℕ) →
          IsFirstClash hash content x y a b → AreClash hash content c first second a b
      clash_is texts before a b clash =
          let one =
          listed_get (total_of c) (piece_of hash content c first) i x
          (ap (λ (ps : List (Piece D)). slice_get ps i) (sym e.each) ∙ atx) in
          let two =
          listed_get (total_of c) (piece_of hash content c second) i y
          (ap (λ (ps : List (Piece D)). slice_get ps i) (sym f.each) ∙ aty) in
          record {
            texts = texts;
            one_root = e.rooted ∙ ap Some (sym same) ∙ sym f.rooted;
            index = i;
            lowest = lowest before;
            clash =
                subst
                (λ (p : Piece D). IsFirstClash hash content p (piece_of hash content c second i)
                a b)
                one.1
                (subst (λ (q : Piece D). IsFirstClash hash content x q a b) two.1 clash);
          }
