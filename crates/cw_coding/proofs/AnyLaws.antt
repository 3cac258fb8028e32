-- Any chunks of an encoding give its text.
use Rattle.std.proofs.Common.{◌≡◌, ℕ, ◌-◌, ◌*◌, ◌%◌, ◌^◌, ◌<◌, ◌≤◌, List, [], ◌∷◌, length, take, get_or, Contains, All, refl, sym, ap, subst, ◌∙◌, arith, ⊎_elim}
use Rattle.std.proofs.lemmas.List.{get_or-take, length-take-le, length-map, take-map, get_or_default}
use Rattle.std.proofs.lemmas.List.Elements.{All-take}
use Rattle.std.proofs.lemmas.Option.{slice_get_within, get_or_from_slice_get}
use Rattle.cw_base.specs.Counts.{Counts}
use Rattle.rs_code.specs.Codeword.{ArePoints}
use Rattle.rs_code.specs.Indices.{AreSound}
use Rattle.rs_code.specs.Rows.{joined, code_row, OriginalsComeFirst, RowsFixCodeword}
use Rattle.cw_tree.specs.Chunks.{Piece}
use Rattle.cw_tree.specs.Widths.{shard_len}
use Rattle.cw_tree.proofs.WidthLaws.{shard_len-even}
use Rattle.cw_coding.specs.declared.error.RsError.TheVariants.{InvalidShardSize}
use Rattle.cw_coding.specs.declared.error.ReedSolomonError.{ReedSolomonError}
use Rattle.cw_coding.specs.declared.error.ReedSolomonError.TheVariants.{ReedSolomon, Inconsistent, InvalidProof, NotEnoughChunks, DuplicateIndex, InvalidDataLength, InvalidIndex, TooManyTotalShards, CommitmentMismatch, NoMemory}
use Rattle.cw_coding.specs.Checked.{Checked}
use Rattle.cw_coding.specs.Decoding.{IsDecoding, IsDecodeRefusal, IsMisfit, IsFirstMisfit, AreDecodable, indices_of, in_order, compared, width_of}
use Rattle.cw_coding.specs.Encoding.{IsEncoding}
use Rattle.cw_coding.specs.Layout.{layout, row_at}
use Rattle.cw_coding.specs.Laws.{IsChunkOf, AreDecodedTo}
use Rattle.cw_coding.specs.Totals.{total_of, IsWidth}
use Rattle.rs_code.proofs.IndexLaws.{AreSound-in_range, AreSound-distinct}
use Rattle.rs_code.proofs.RowBytes.{joined_same}
use Rattle.cw_coding.proofs.LayoutLaws.{length-row_at, length-layout, bytes_layout}
use Rattle.cw_coding.proofs.DecodingLaws.{same_text}
use Rattle.cw_coding.proofs.OrderLaws.{all_in_order, sound_in_order, length-in_order, length-indices, compared-ge, compared-le, index_at}

-- a number that stands before a place of different indices isn't the one there
pub before_other : (total : ℕ) (xs : List ℕ) (p y : ℕ) → AreSound total xs → p < length xs
    → get_or xs p 0 ≡ y → Contains (take p xs) y → ⊥
before_other total xs p y sound l is h =
    let less : h.0 < p = omega (arith, h.1, length-take-le p xs (omega arith)) in
    let there : get_or xs h.0 0 ≡ y =
    sym (get_or-take p xs h.0 0 less) ∙ get_or_default (take p xs) h.0 0 y h.1 ∙ h.2 in
    absurd
    (let same = AreSound-distinct total xs sound h.0 p (omega arith) l (there ∙ sym is) in
    omega arith)

-- a text whose rows at k different places are those of another is that text
pub same_by_rows : OriginalsComeFirst → RowsFixCodeword
    → (k : ℕ) (first second : List ℕ) (P : ℕ → ℕ) → 1 ≤ k → k ≤ 65535 →
    length first ≤ 2 ^ 32 - 1 → length second ≤ 2 ^ 32 - 1 → ((i : ℕ) → get_or first i 0 < 256)
    → ((i : ℕ) → get_or second i 0 < 256) →
    ArePoints k P → ((s : ℕ) → s < k → row_at k first (P s) ≡ row_at k second (P s))
    → first ≡ second
unfolding row_at
same_by_rows law fix k first second P some small a b fb sb points agree =
    let w : shard_len (length first) k ≡ shard_len (length second) k =
    sym (length-row_at k first (P 0)) ∙ ap length (agree 0 some) ∙ length-row_at k second (P 0) in
    let width : ℕ = shard_len (length second) k in
    let even : width % 2 ≡ 0 = shard_len-even (length second) k in
    let same : (s : ℕ) → s < k
    → code_row k (layout k first) width (P s) ≡ code_row k (layout k second) width (P s) =
    λ s l. ap (λ (v : ℕ). code_row k (layout k first) v (P s)) (sym w) ∙ agree s l in
    let all = fix k width (layout k first) (layout k second) P (omega arith) even points same in
    let one : joined k (λ s. code_row k (layout k first) width s) ≡ layout k first =
    law k width (layout k first) (omega arith) (record {
      even = even;
      long = length-layout k first some ∙ ap (λ (v : ℕ). k * v) w;
      bytes = bytes_layout k first fb;
    }) in
    let two : joined k (λ s. code_row k (layout k second) width s) ≡ layout k second =
    law k width (layout k second) (omega arith) (record {
      even = even;
      long = length-layout k second some;
      bytes = bytes_layout k second sb;
    }) in
    same_text k first second (layout k second) a b
    (sym one ∙ joined_same k _ _ (λ s l. all s) ∙ two) refl

module _ {D : Type 0} (hash : List ℕ → D) (content : D → List ℕ) (c : Counts) (text : List ℕ)
    (root : D) where
  -- the place of a chunk that is refused, beside what is known of it
  misfits : (chunks : List (Checked D)) (w : ℕ) (e : ReedSolomonError)
      → All (IsChunkOf c text root) chunks → All (λ x. length x.shard ≡ w) chunks →
      AreSound (total_of c) (indices_of chunks) → IsFirstMisfit (total_of c) root w chunks e → ⊥
  misfits chunks w e of widths sound m = go e m.misfit
    where
      within : m.place < length chunks
      within = slice_get_within chunks m.place m.chunk m.at

      here : get_or chunks m.place m.chunk ≡ m.chunk
      here = get_or_from_slice_get chunks m.place m.chunk m.chunk m.at

      is : IsChunkOf c text root m.chunk
      is = subst (λ (x : Checked D). IsChunkOf c text root x) here (of m.place m.chunk within)

      wide : length m.chunk.shard ≡ w
      wide = subst (λ (x : Checked D). length x.shard ≡ w) here (widths m.place m.chunk within)

      index : get_or (indices_of chunks) m.place 0 ≡ m.chunk.index
      index = index_at chunks m.place m.chunk within ∙ ap (λ (x : Checked D). x.index) here

      go : (e : ReedSolomonError) → IsMisfit (total_of c) root w (take m.place chunks) m.chunk e → ⊥
      go CommitmentMismatch h = h is.rooted
      go Inconsistent h = h.1 wide
      go (InvalidIndex i) h = let l = is.within in absurd (omega (arith, h.3))
      go (DuplicateIndex i) h =
          before_other (total_of c) (indices_of chunks) m.place m.chunk.index sound
          (omega (arith, length-map chunks (λ (x : Checked D). x.index), within)) index
          (subst (λ (xs : List ℕ). Contains xs m.chunk.index)
          (sym (take-map (λ (x : Checked D). x.index) m.place chunks)) h.4)
      go (ReedSolomon x) h = h
      go InvalidProof h = h
      go NotEnoughChunks h = h
      go (InvalidDataLength n) h = h
      go (TooManyTotalShards n) h = h
      go NoMemory h = h

  module _ (pieces : List (Piece D)) (chunks : List (Checked D)) (some : 1 ≤ c.minimum)
      (bytes : (i : ℕ) → get_or text i 0 < 256) (e : IsEncoding hash content c text root pieces)
      (of : All (IsChunkOf c text root) chunks) (sound : AreSound (total_of c) (indices_of chunks))
      (enough : c.minimum ≤ length chunks) where
    wide : All (λ x. length x.shard ≡ shard_len (length text) c.minimum) chunks
    wide k d l = ap length ((of k d l).row) ∙ length-row_at c.minimum text (get_or chunks k d).index

    first_wide : width_of chunks ≡ shard_len (length text) c.minimum
    first_wide = go chunks enough wide
      where
        go : (xs : List (Checked D)) → c.minimum ≤ length xs
            → All (λ x. length x.shard ≡ shard_len (length text) c.minimum) xs
            → width_of xs ≡ shard_len (length text) c.minimum
        go [] l a = absurd (omega arith)
        go (x ∷ xs) l a = a 0 x (omega arith)

    decodable : AreDecodable c root chunks
    decodable =
        let codable = e.codable in
        let total = e.total in
        record {
          total = total;
          some = omega (arith, some, enough);
          width =
              subst (λ (w : ℕ). IsWidth (total_of c) w) (sym first_wide) (record {
                narrow = codable.narrow;
                room = codable.room;
              });
          fit = record {
            roots = λ k d l. (of k d l).rooted;
            widths = λ k d l. wide k d l ∙ sym first_wide;
            indices = sound;
          };
          enough = enough;
        }

    decodes : IsDecoding hash content c root chunks text
    decodes = record {
      short = e.codable.short;
      bytes = bytes;
      rows =
          All-take (λ x. x.shard ≡ row_at c.minimum text x.index) (compared c.minimum chunks)
          (in_order c.minimum chunks)
          (all_in_order (λ x. x.shard ≡ row_at c.minimum text x.index) c.minimum chunks
          (λ k d l. (of k d l).row));
      rooted = e.rooted;
    }

    alone : OriginalsComeFirst → RowsFixCodeword → (other : List ℕ)
        → IsDecoding hash content c root chunks other → other ≡ text
    alone law fix other d = go chunks refl
      where
        go : (xs : List (Checked D)) → xs ≡ chunks → other ≡ text
        go [] is = absurd (omega (arith, ap length is, some, enough))
        go (y ∷ ys) is =
            let k = c.minimum in
            let ordered : List (Checked D) = in_order k chunks in
            let P : ℕ → ℕ = λ s. get_or (indices_of ordered) s 0 in
            let sorted : AreSound (total_of c) (indices_of ordered) =
            sound_in_order k (total_of c) chunks sound in
            let long : length (indices_of ordered) ≡ length chunks = length-indices k chunks in
            let used : k ≤ compared k chunks = compared-ge k chunks enough in
            let few : compared k chunks ≤ length ordered =
            omega (arith, compared-le k chunks enough, length-in_order k chunks) in
            let total = e.total in
            let points : ArePoints k P = record {
              fit =
                  λ s l.
                  omega (
                    arith,
                    AreSound-in_range (total_of c) (indices_of ordered) sorted s
                        (omega (arith, long, enough, l)),
                  );
              distinct =
                  λ s u ls lu same. AreSound-distinct (total_of c) (indices_of ordered) sorted s u
                  (omega (arith, long, enough, ls)) (omega (arith, long, enough, lu)) same;
            } in
            let row : (t : List ℕ) → IsDecoding hash content c root chunks t → (s : ℕ) → s < k
            → (get_or ordered s y).shard ≡ row_at k t (P s) =
            λ t dt s l.
            let taken : get_or (take (compared k chunks) ordered) s y ≡ get_or ordered s y =
            get_or-take (compared k chunks) ordered s y (omega (arith, used, l)) in
            let inside : s < length (take (compared k chunks) ordered) =
            omega (arith, length-take-le (compared k chunks) ordered few, used, l) in
            let said = dt.rows s y inside in
            ap (λ (x : Checked D). x.shard) (sym taken) ∙ said
            ∙ ap (λ (x : Checked D). row_at k t x.index) taken
            ∙ ap (row_at k t) (sym (index_at ordered s y (omega (arith, few, used, l)))) in
            same_by_rows law fix k other text P some (omega arith) d.short e.codable.short d.bytes
            bytes points
            (λ s l. sym (row other d s l) ∙ row text decodes s l)

    taken : (x : ReedSolomonError) → IsDecodeRefusal hash content c root chunks x → x ≡ NoMemory
    taken (TooManyTotalShards n) h = absurd (let total = e.total in omega (arith, h.1))
    taken NotEnoughChunks h =
        absurd
        (⊎_elim {C = ⊥} (λ none. omega (arith, none, some, enough))
        (λ few. omega (arith, few.few, enough)) h.1)
    taken (ReedSolomon (InvalidShardSize n)) h = absurd (h.3 decodable.width)
    taken NoMemory h = refl
    taken Inconsistent h =
        absurd
        (⊎_elim {C = ⊥}
        (λ first. misfits chunks (width_of chunks) Inconsistent of decodable.fit.widths
        sound first.2)
        (λ last. last.1 text decodes) h)
    taken CommitmentMismatch h =
        absurd
        (misfits chunks (width_of chunks) CommitmentMismatch of decodable.fit.widths sound h.2)
    taken (InvalidIndex i) h =
        absurd (misfits chunks (width_of chunks) (InvalidIndex i) of decodable.fit.widths sound h.2)
    taken (DuplicateIndex i) h =
        absurd
        (misfits chunks (width_of chunks) (DuplicateIndex i) of decodable.fit.widths sound h.2)
    taken InvalidProof h =
        absurd (misfits chunks (width_of chunks) InvalidProof of decodable.fit.widths sound h.2)
    taken (InvalidDataLength n) h =
        absurd
        (misfits chunks (width_of chunks) (InvalidDataLength n) of decodable.fit.widths sound
        h.2)

    pub decoded_to : OriginalsComeFirst → RowsFixCodeword
        → AreDecodedTo hash content c root chunks text
    decoded_to law fix = record { decodes = decodes; alone = alone law fix; taken = taken }
