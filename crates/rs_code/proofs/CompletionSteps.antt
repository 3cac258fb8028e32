-- The steps by which a completion rebuilds rows, over the parts that it has.
use Rattle.std.proofs.Common.{◌≡◌, ◌≢◌, ℕ, suc, ◌+◌, ◌*◌, ◌/◌, ◌%◌, ◌<◌, ◌≤◌, bit_xor, List, ◌++◌, length, get_or, replicate, All, refl, sym, ap, ap₂, ◌∙◌, subst₂, arith, length-append, mul-div_cancel, mul-le-mul_right, ⊎_elim, div-add-mod'}
use Rattle.std.proofs.lemmas.List.{get_or-replicate, length-replicate}
use Rattle.std.proofs.Math.ListN.{get_or-eq_default}
use Rattle.std.proofs.Math.Nat.{mul-mod_left}
use Rattle.std.proofs.lemmas.Bool.{cases_lt}
use Rattle.cw_base.specs.Rows.{row_of}
use Rattle.rs_code.specs.Coefficients.{distance, symbol_through}
use Rattle.rs_code.specs.Completions.{given_originals, given_recoveries, apart, AreCompletable, ArePartsOf}
use Rattle.rs_code.specs.Field.{times, inverse}
use Rattle.rs_code.specs.Plans.{Shape}
use Rattle.rs_code.specs.Rows.{symbol, symbol_bytes, joined, row_through, code_row, AreRows}
use Rattle.rs_code.specs.declared.completion.Parts.{Parts}
use Rattle.rs_code.proofs.CompletedRows.{apart_nonzero, recovery_below, completed_row}
use Rattle.rs_code.proofs.RowBytes.{length-symbol_bytes, length-joined, joined_same, symbol_bytes_same}
use Rattle.rs_code.proofs.RowPicks.{row_before, row_fits, symbol_picked}

-- ---- how many rows there are

pub rows_many : (xs : List ℕ) (n w : ℕ) → 0 < w → length xs ≡ n * w → length xs / w ≡ n
rows_many xs n w some h = ap (λ (l : ℕ). l / w) h ∙ mul-div_cancel n some

pub rows_whole : (xs : List ℕ) (n w : ℕ) → length xs ≡ n * w → length xs % w ≡ 0
rows_whole xs n w h = ap (λ (l : ℕ). l % w) h ∙ mul-mod_left n w

-- a codeword has its originals and its recoveries
pub codeword_long : (k m w : ℕ) (old new : List ℕ) → w % 2 ≡ 0 → length old ≡ k * w
    → new ≡ old ++ joined m (λ i. code_row k old w (k + i)) → length new ≡ (k + m) * w
unfolding code_row
codeword_long k m w old new even long h =
    let behind : length (joined m (λ i. code_row k old w (k + i))) ≡ m * w =
    length-joined m w _ (λ i _. length-symbol_bytes (w / 2) _ ∙ omega (arith, even)) in
    let sum : k * w + m * w ≡ (k + m) * w = omega arith in
    ap length h ∙ length-append old _ ∙ ap₂ ◌+◌ long behind ∙ sum

-- ---- how the parts are made

pub scales_made : (k m : ℕ) (points originals recoveries scales : List ℕ)
    (F : AreCompletable k m points) →
    originals ≡ given_originals k points → recoveries ≡ given_recoveries k points →
    ((i : ℕ) → i < length recoveries
    → distance (length originals) (λ u. get_or originals u 0) (get_or recoveries i 0) ≢ 0
    → get_or scales i 0
    ≡ inverse (distance (length originals) (λ u. get_or originals u 0) (get_or recoveries i 0))) →
    (j : ℕ) → j < length (given_recoveries k points)
    → get_or scales j 0 ≡ inverse (apart k points (get_or (given_recoveries k points) j 0))
unfolding apart
scales_made k m points originals recoveries scales F own others each j h =
    let made : (i : ℕ) → i < length (given_recoveries k points)
    → distance (length (given_originals k points))
    (λ u. get_or (given_originals k points) u 0) (get_or (given_recoveries k points) i 0) ≢ 0
    → get_or scales i 0
    ≡ inverse (distance (length (given_originals k points))
    (λ u. get_or (given_originals k points) u 0) (get_or (given_recoveries k points) i 0)) =
    subst₂
    (λ (os rs : List ℕ). (i : ℕ) → i < length rs
    → distance (length os) (λ u. get_or os u 0) (get_or rs i 0) ≢ 0
    → get_or scales i 0 ≡ inverse (distance (length os) (λ u. get_or os u 0) (get_or rs i 0)))
    own others each in
    made j h (apart_nonzero k m points F j h)

pub distances_made : (k : ℕ) (points originals missing distances : List ℕ) →
    originals ≡ given_originals k points →
    ((i : ℕ) → i < length missing → get_or distances i 0
    ≡ distance (length originals) (λ u. get_or originals u 0) (get_or missing i 0)) →
    (i : ℕ) → i < length missing → get_or distances i 0 ≡ apart k points (get_or missing i 0)
unfolding apart
distances_made k points originals missing distances own each i h =
    each i h
    ∙ ap (λ (os : List ℕ). distance (length os) (λ u. get_or os u 0) (get_or missing i 0)) own

-- ---- what the steps give

module _ (k m w : ℕ) (points rows basis : List ℕ) (parts : Parts) (F : AreCompletable k m points)
    (B : basis ≡ given_recoveries k points) (A : ArePartsOf k points parts)
    (some : 0 < w) (R : AreRows k w rows) where
  abbrev places : List ℕ
  places = parts.sources.items

  abbrev missing : List ℕ
  missing = parts.missing.items

  abbrev spots : List ℕ
  spots = parts.spots.items

  abbrev recoveries : List ℕ
  recoveries = parts.recoveries.items

  abbrev scales : List ℕ
  scales = parts.scales.items

  abbrev distances : List ℕ
  distances = parts.distances.items

  -- the places of the originals are among the rows
  pub sources_within : (i : ℕ) → i < length places
      → get_or places i 0 < length rows / w + length missing
  sources_within i h =
      omega (
        arith,
        A.sources.within i (omega (arith, h, A.sources.count)),
        F.count,
        rows_many rows k w some R.long,
      )

  pub missing_room : length missing * w ≤ length rows
  missing_room =
      let fewer : length missing * w ≤ k * w = mul-le-mul_right w A.sources.few in
      omega (arith, fewer, R.long)

  pub spots_within : (j : ℕ) → j < length spots → get_or spots j 0 < length rows / w
  spots_within j h =
      omega (arith, A.spots.within j h, F.count, rows_many rows k w some R.long)

  pub recoveries_within : (near : List ℕ) → length near ≡ (k + m) * w → (j : ℕ)
      → j < length recoveries → get_or recoveries j 0 < length near / w
  recoveries_within near long j h =
      omega (
        arith,
        ap (λ (xs : List ℕ). get_or xs j 0) A.recoveries,
        recovery_below k m points F j (omega (arith, h, ap length A.recoveries)),
        rows_many near (k + m) w some long,
      )

  pub rebuilt_row : (near' near quotients factors whole' whole : List ℕ) →
      near' ≡ joined (length places)
      (λ i. row_of (rows ++ replicate (length missing * w) 0) w (get_or places i 0)) →
      near ≡ near' ++ joined m (λ i. code_row k near' w (k + i)) →
      quotients ≡ joined (length scales) (λ j. symbol_bytes (w / 2) (λ t.
      times (bit_xor (symbol rows w (get_or spots j 0) t) (symbol near w (get_or recoveries j 0) t))
      (get_or scales j 0))) →
      factors ≡ joined (length missing) (λ i. symbol_bytes (w / 2)
      (λ t. symbol_through basis quotients w (get_or missing i 0) t)) →
      whole' ≡ joined (length places) (λ i. row_of (rows ++ joined (length distances)
      (λ j. symbol_bytes (w / 2) (λ t. times (symbol factors w j t) (get_or distances j 0)))) w
      (get_or places i 0)) →
      whole ≡ whole' ++ joined m (λ i. code_row k whole' w (k + i)) →
      (x : ℕ) → x < k + m → row_of whole w x ≡ row_through k (λ s. get_or points s 0) rows w x
  rebuilt_row near' near quotients factors whole' whole e1 e2 e3 e4 e5 e6 x h =
      let zeros : List ℕ = replicate (length missing * w) 0 in
      let found : List ℕ = joined (length missing) (λ i. symbol_bytes (w / 2)
      (λ t. times (symbol factors w i t) (get_or distances i 0))) in
      let front : near' ≡ joined k (λ i. row_of (rows ++ zeros) w (get_or places i 0)) =
      e1 ∙ ap (λ (n : ℕ). joined n (λ i. row_of (rows ++ zeros) w (get_or places i 0)))
      A.sources.count in
      let last : whole' ≡ joined k (λ i. row_of (rows ++ found) w (get_or places i 0)) =
      e5
      ∙ ap₂ (λ (n n' : ℕ). joined n (λ i. row_of (rows ++ joined n'
      (λ j. symbol_bytes (w / 2) (λ t. times (symbol factors w j t) (get_or distances j 0)))) w
      (get_or places i 0)))
      A.sources.count A.distance_count in
      completed_row k m points F w rows places missing spots some R A.sources A.spots
      zeros near (length-replicate {A = ℕ} (length missing * w) 0) (zero_at (length missing * w))
      (e2 ∙ ap (λ (xs : List ℕ). xs ++ joined m (λ i. code_row k xs w (k + i))) front)
      scales quotients A.scales
      (e3
      ∙ ap₂ (λ (n : ℕ) (rs : List ℕ). joined n (λ j. symbol_bytes (w / 2) (λ t.
      times (bit_xor (symbol rows w (get_or spots j 0) t) (symbol near w (get_or rs j 0) t))
      (get_or scales j 0))))
      A.scale_count A.recoveries)
      distances factors found A.distances
      (e4 ∙ ap (λ (bs : List ℕ). joined (length missing) (λ i. symbol_bytes (w / 2)
      (λ t. symbol_through bs quotients w (get_or missing i 0) t))) B)
      refl whole
      (e6 ∙ ap (λ (xs : List ℕ). xs ++ joined m (λ i. code_row k xs w (k + i))) last)
      x h
    where
      zero_at : (n i : ℕ) → ◌≡◌ {A = ℕ} (get_or (replicate n 0) i 0) 0
      zero_at n i =
          let zeros : List ℕ = replicate n 0 in
          let zero : ℕ = 0 in
          ⊎_elim {C = get_or zeros i 0 ≡ zero}
          (λ low. get_or-replicate n i zero zero low)
          (λ high. get_or-eq_default zeros zero (omega (arith, high, length-replicate n zero)))
          (cases_lt i n)

-- ---- how rows are added and compared

pub rows_added : (xs ys : List ℕ) (w n : ℕ) → 0 < w → length xs % w ≡ 0 → length ys ≡ n * w
    → (length xs + length ys) / w ≡ length xs / w + n
rows_added xs ys w n some whole h =
    let sum : length xs + length ys ≡ (length xs / w + n) * w =
    omega (arith, div-add-mod' (length xs) w, whole, h) in
    ap (λ (l : ℕ). l / w) sum ∙ mul-div_cancel (length xs / w + n) some

-- the quotients of rows that were picked
pub quotient_rows : (w d : ℕ) (rows near given others sums scales spots recoveries : List ℕ) →
    length spots ≡ d → length recoveries ≡ d →
    ((j : ℕ) → j < length spots → get_or spots j 0 < length rows / w) →
    ((j : ℕ) → j < length recoveries → get_or recoveries j 0 < length near / w) →
    given ≡ joined (length spots) (λ j. row_of rows w (get_or spots j 0)) →
    others ≡ joined (length recoveries) (λ j. row_of near w (get_or recoveries j 0)) →
    length given ≡ length spots * w →
    ((j t : ℕ) → j * w + w ≤ length given → 2 * t + 1 < w
    → symbol sums w j t ≡ bit_xor (symbol given w j t) (symbol others w j t)) →
    joined d (λ j. symbol_bytes (w / 2) (λ t. times (symbol sums w j t) (get_or scales j 0)))
    ≡ joined d (λ j. symbol_bytes (w / 2) (λ t.
    times (bit_xor (symbol rows w (get_or spots j 0) t) (symbol near w (get_or recoveries j 0) t))
    (get_or scales j 0)))
quotient_rows w d rows near given others sums scales spots recs many many' within within' e f long
    each =
    joined_same d _ _
    (λ j h. symbol_bytes_same (w / 2) _ _
    (λ t l.
    let in_row : 2 * t + 1 < w = omega (arith, l) in
    let whole : suc j * w ≤ length spots * w = mul-le-mul_right w (omega (arith, h, many)) in
    ap (λ (x : ℕ). times x (get_or scales j 0))
    (each j t (omega (arith, whole, long)) in_row
    ∙ ap₂ bit_xor
    (ap (λ (xs : List ℕ). symbol xs w j t) e
    ∙ symbol_picked (length spots) w rows (λ i. get_or spots i 0)
    (λ i m. row_fits rows w (get_or spots i 0) (within i m)) j t (omega (arith, h, many)) in_row)
    (ap (λ (xs : List ℕ). symbol xs w j t) f
    ∙ symbol_picked (length recs) w near (λ i. get_or recs i 0)
    (λ i m. row_fits near w (get_or recs i 0) (within' i m)) j t (omega (arith, h, many'))
    in_row))))

-- the rows given, as many as a shape says
pub rows_given : (shape : Shape) (k m w : ℕ) (points rows : List ℕ) →
    record { k = k; m = m; points = points } ≡ shape → w % 2 ≡ 0 → length rows ≡ shape.k * w →
    ((i : ℕ) → get_or rows i 0 < 256) → AreRows k w rows
rows_given shape k m w points rows view even long bytes = record {
  even = even;
  long = long ∙ ap (λ (v : Shape). v.k * w) (sym view);
  bytes = bytes;
}

-- the rows that are picked of a whole codeword, at targets of a shape
pub rows_picked : (shape : Shape) (k m w : ℕ) (points rows whole targets places out : List ℕ) →
    record { k = k; m = m; points = points } ≡ shape → places ≡ targets →
    All (λ (target : ℕ). target < shape.k + shape.m) targets →
    out ≡ joined (length places) (λ i. row_of whole w (get_or places i 0)) →
    ((x : ℕ) → x < k + m → row_of whole w x ≡ row_through k (λ s. get_or points s 0) rows w x) →
    out ≡ joined (length targets)
    (λ i. row_through shape.k (λ s. get_or shape.points s 0) rows w (get_or targets i 0))
rows_picked shape k m w points rows whole targets places out view same below made each =
    made
    ∙ ap (λ (ps : List ℕ). joined (length ps) (λ i. row_of whole w (get_or ps i 0))) same
    ∙ joined_same (length targets) _ _
    (λ i h. each (get_or targets i 0)
    (omega (
      arith,
      below i 0 h,
      ap (λ (v : Shape). v.k + v.m) view,
    ))
    ∙ ap (λ (v : Shape). row_through v.k (λ s. get_or v.points s 0) rows w (get_or targets i 0))
    view)

-- ---- the rows of targets behind originals

-- places of targets are among the first n rows
pub targets_within : (n w : ℕ) (rows targets places : List ℕ) → 0 < w → length rows ≡ n * w
    → places ≡ targets → All (λ (target : ℕ). target < n) targets → (i : ℕ) → i < length places
    → get_or places i 0 < length rows / w
targets_within n w rows targets places some long same below i h =
    omega (
      arith,
      ap (λ (ps : List ℕ). get_or ps i 0) same,
      below i 0 (omega (arith, h, ap length same)),
      rows_many rows n w some long,
    )

-- of originals alone
pub originals_picked : (k w : ℕ) (originals more targets places out : List ℕ)
    → length originals ≡ k * w → places ≡ targets → All (λ (target : ℕ). target < k) targets
    → out ≡ joined (length places) (λ i. row_of originals w (get_or places i 0))
    → out ≡ joined (length targets) (λ i. row_of (originals ++ more) w (get_or targets i 0))
originals_picked k w originals more targets places out long same below made =
    made
    ∙ ap (λ (ps : List ℕ). joined (length ps) (λ i. row_of originals w (get_or ps i 0))) same
    ∙ joined_same (length targets) _ _
    (λ i h.
    (let whole : suc (get_or targets i 0) * w ≤ k * w = mul-le-mul_right w (below i 0 h) in
    sym (row_before originals more w (get_or targets i 0) (omega (arith, whole, long)))))
