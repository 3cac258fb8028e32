-- The chunks of an encoding check, are no larger than they may be, and are in their format.
use Rattle.std.proofs.Common.{◌≡◌, ℕ, suc, zero, ◌+◌, ◌-◌, ◌*◌, ◌%◌, ◌^◌, ◌<◌, ◌≤◌, List, [], ◌∷◌, length, map, min, get_or, slice_get, inl, inr, Some, refl, sym, ap, subst, ◌∙◌, arith}
use Rattle.std.proofs.lemmas.Option.{slice_get_within, get_or_from_slice_get}
use Rattle.cw_base.specs.Counts.{Counts}
use Rattle.std.proofs.lemmas.Bool.{cases_lt}
use Rattle.std.proofs.lemmas.List.{get_or_append_left, get_or_push, length-map}
use Rattle.std.proofs.Math.Nat.{le-min}
use Rattle.cw_base.specs.Rows.{listed}
use Rattle.cw_base.proofs.Listed.{length-listed}
use Rattle.cw_tree.specs.Chunks.{Piece}
use Rattle.cw_tree.specs.Formats.{chunk_bytes, widest, piece_of_bytes}
use Rattle.cw_tree.specs.Fits.{FitsChunk}
use Rattle.cw_tree.specs.Sizes.{AreSized}
use Rattle.cw_tree.proofs.Bounds.{chunk_bytes-le, sized_path}
use Rattle.cw_tree.specs.Tree.{root_of, root_by, path_of}
use Rattle.cw_tree.specs.Sizes.{IsHeight}
use Rattle.cw_tree.proofs.TreeRoots.{root_by-path_of, path_of-le}
use Rattle.cw_tree.specs.Widths.{shard_len}
use Rattle.cw_tree.proofs.WidthLaws.{shard_len-even, shard_len-some, shard_len-mono}
use Rattle.cw_coding.specs.Checking.{IsUnder}
use Rattle.cw_coding.specs.Encoding.{IsEncoding, piece_of}
use Rattle.cw_coding.specs.Layout.{row_at, row_digests}
use Rattle.cw_coding.specs.Totals.{total_of}
use Rattle.cw_coding.proofs.LayoutLaws.{length-row_at}
use Rattle.cw_coding.proofs.Heights.{height_within}

pub listed_at : {A : Type 0} (n : ℕ) (f : ℕ → A) (i : ℕ) (d : A) → i < n
    → get_or (listed n f) i d ≡ f i
unfolding listed
listed_at zero f i d l = absurd (omega arith)
listed_at (suc n) f i d l =
    elim (cases_lt i n) [
      | inl lt ↦ get_or_append_left (listed n f) (f n ∷ []) d i
          (omega (arith, length-listed n f, lt))
          ∙ listed_at n f i d lt
      | inr ge ↦
          let same : n ≡ i = omega arith in
          get_or_push (listed n f) (f n) d i (omega (arith, length-listed n f, same)) ∙ ap f same
    ]

pub listed_get : {A : Type 0} (n : ℕ) (f : ℕ → A) (i : ℕ) (x : A)
    → slice_get (listed n f) i ≡ Some x → (i < n) × (x ≡ f i)
listed_get n f i x e =
    let within = slice_get_within (listed n f) i x e in
    let less : i < n = omega (arith, length-listed n f) in
    (less, sym (get_or_from_slice_get (listed n f) i x x e) ∙ listed_at n f i x less)

-- the bytes of digests that have so many bytes each
digests_of : {D : Type 0} (content : D → List ℕ) (size : ℕ) (ds : List D) → AreSized content size ds
    → AreSized (λ digest. digest) size (map content ds)
digests_of content size [] sized = tt
digests_of content size (d ∷ ds) sized = (sized.0, digests_of content size ds sized.1)

module _ {D : Type 0} (hash : List ℕ → D) (content : D → List ℕ) (c : Counts) (text : List ℕ)
    (root : D) (pieces : List (Piece D))
    (some : 1 ≤ c.minimum) (e : IsEncoding hash content c text root pieces) (i : ℕ) (p : Piece D)
    (at : slice_get pieces i ≡ Some p) where
  place : (i < total_of c) × (p ≡ piece_of hash content c text i)
  place = listed_get (total_of c) (piece_of hash content c text) i p (rw e.each at at)

  pub checks : IsUnder hash content c root i p
  checks =
      let k = c.minimum in
      let ds : List D = row_digests hash k c.extra text in
      let long : length ds ≡ total_of c =
      length-listed (total_of c) (λ j. hash (row_at k text j)) in
      let width : length (row_at k text i) ≡ shard_len (length text) k = length-row_at k text i in
      let digest : hash (row_at k text i) ≡ get_or ds i (hash (row_at k text i)) =
      sym
      (listed_at (total_of c) (λ j. hash (row_at k text j)) i (hash (row_at k text i))
      place.0) in
      let leads : root_by hash content (length ds) (path_of hash content i ds) i
      (hash (row_at k text i))
      ≡ root_of hash content ds =
      root_by-path_of hash content ds i (hash (row_at k text i)) (omega (arith, place.0)) digest in
      let path : root_by hash content (total_of c) (path_of hash content i ds) i
      (hash (row_at k text i))
      ≡ Some root =
      ap (λ (n : ℕ). root_by hash content n (path_of hash content i ds) i (hash (row_at k text i)))
      (sym long)
      ∙ leads ∙ e.rooted in
      let under : IsUnder hash content c root i (piece_of hash content c text i) = record {
        total = e.total;
        within = place.0;
        some = λ none. absurd (omega (arith, shard_len-some (length text) k some, width, none));
        even = ap (λ (w : ℕ). w % 2) width ∙ shard_len-even (length text) k;
        leaves = refl;
        same = refl;
        path = path;
      } in
      subst (λ (q : Piece D). IsUnder hash content c root i q) (sym place.1) under

  pub fits : (size most levels : ℕ) → ((bytes : List ℕ) → length (content (hash bytes)) ≡ size)
      → length text ≤ most → IsHeight (total_of c) levels →
      length (chunk_bytes content p) ≤ 12 + shard_len most c.minimum + size * levels
  fits size most levels sized short height =
      let k = c.minimum in
      let ds : List D = row_digests hash k c.extra text in
      let long : length ds ≡ total_of c =
      length-listed (total_of c) (λ j. hash (row_at k text j)) in
      let q : Piece D = piece_of hash content c text i in
      let few : length (path_of hash content i ds) ≤ levels =
      path_of-le hash content ds i levels (omega (arith, place.0))
      (subst (λ (n : ℕ). IsHeight n levels) (sym long) height) in
      let size_of =
      chunk_bytes-le content size levels q (sized_path hash content size sized i ds) few in
      let width : length (row_at k text i) ≡ shard_len (length text) k = length-row_at k text i in
      let narrow = shard_len-mono (length text) most k some short in
      let bound : length (chunk_bytes content q) ≤ 12 + shard_len most k + size * levels =
      omega (arith, size_of, width, narrow) in
      subst
      (λ (x : Piece D). length (chunk_bytes content x) ≤ 12 + shard_len most k + size * levels)
      (sym place.1) bound

  pub in_format : (size most : ℕ) → ((bytes : List ℕ) → length (content (hash bytes)) ≡ size)
      → length text ≤ most →
      FitsChunk size (widest c.minimum most) (piece_of_bytes content p)
  in_format size most sized short =
      let k = c.minimum in
      let total = e.total in
      let narrow = e.codable.narrow in
      let ds : List D = row_digests hash k c.extra text in
      let long : length ds ≡ total_of c =
      length-listed (total_of c) (λ j. hash (row_at k text j)) in
      let way : List D = path_of hash content i ds in
      let height = height_within (length ds) (omega (arith, e.total)) in
      let few : length way ≤ height.0 =
      path_of-le hash content ds i height.0 (omega (arith, place.0)) height.1 in
      let width : length (row_at k text i) ≡ shard_len (length text) k = length-row_at k text i in
      let within =
      shard_len-mono (length text) (min most (2 ^ 32 - 1)) k some
      (le-min short e.codable.short) in
      let fits : FitsChunk size (widest k most)
      (piece_of_bytes content (piece_of hash content c text i)) =
      record {
        narrow = omega (arith, width, within);
        short = omega (arith, width, narrow);
        index = omega (arith, place.0);
        proof = record {
          leaf_count = omega arith;
          few = omega (arith, few, height.2, length-map way content);
          digests = digests_of content size way (sized_path hash content size sized i ds);
        };
      } in
      subst (λ (x : Piece D). FitsChunk size (widest k most) (piece_of_bytes content x))
      (sym place.1) fits
