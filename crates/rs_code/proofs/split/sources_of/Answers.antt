use Rattle.std.proofs.Common.{◌≡◌, ◌≢◌, ℕ, ◌+◌, ◌-◌, ◌<◌, ◌≤◌, List, [], ◌∷◌, ◌++◌, length, get_or, refl, sym, ap, ◌∙◌, arith, ⊎_elim, append_assoc, length-append}
use Rattle.std.proofs.lemmas.Bool.{cases_eq}
use Rattle.std.proofs.lemmas.List.{get_or_push, get_or_append_left, get_or-append_right, get_or_default}
use Rattle.rs_code.proofs.RowFronts.{one_longer}
use Rattle.rs_code.proofs.split.sources_of.Goals as goal

-- a list with one more number: what stands at its end, and before
at_end : (xs ys : List ℕ) (v n : ℕ) → length xs ≡ n → ys ≡ xs ++ v ∷ [] → get_or ys n 0 ≡ v
at_end xs ys v n long e = ap (λ (zs : List ℕ). get_or zs n 0) e ∙ get_or_push xs v 0 n long

at_front : (xs ys : List ℕ) (v i : ℕ) → i < length xs → ys ≡ xs ++ v ∷ []
    → get_or ys i 0 ≡ get_or xs i 0
at_front xs ys v i h e =
    ap (λ (zs : List ℕ). get_or zs i 0) e ∙ get_or_append_left xs (v ∷ []) 0 i h

-- the places of one more target
module _ (points targets places places' : List ℕ) (i v : ℕ) (count : length places ≡ i)
    (more : places' ≡ places ++ v ∷ []) where
  last : get_or places' i 0 ≡ v
  last = at_end places places' v i count more

  before : (y : ℕ) → y < i + 1 → y ≢ i → get_or places' y 0 ≡ get_or places y 0
  before y h other = at_front places places' v y (omega (arith, h, other, count)) more

  all_within : (n n' : ℕ) → n ≤ n' → v < n' → ((y : ℕ) → y < i → get_or places y 0 < n) → (y : ℕ)
      → y < i + 1 → get_or places' y 0 < n'
  all_within n n' less new old y h =
      ⊎_elim {C = get_or places' y 0 < n'}
      (λ here. omega (arith, ap (λ (p : ℕ). get_or places' p 0) here, last, new))
      (λ other. omega (arith, before y h other, old y (omega (arith, h, other)), less))
      (cases_eq y i)

  all_each : (xs : List ℕ) → get_or xs v 0 ≡ get_or targets i 0
      → ((y : ℕ) → y < i → get_or xs (get_or places y 0) 0 ≡ get_or targets y 0) → (y : ℕ)
      → y < i + 1 → get_or xs (get_or places' y 0) 0 ≡ get_or targets y 0
  all_each xs new old y h =
      ⊎_elim
      (λ here.
      ap (λ (p : ℕ). get_or xs p 0) (ap (λ (p : ℕ). get_or places' p 0) here ∙ last)
      ∙ new ∙ ap (λ (p : ℕ). get_or targets p 0) (sym here))
      (λ other. ap (λ (p : ℕ). get_or xs p 0) (before y h other)
      ∙ old y (omega (arith, h, other)))
      (cases_eq y i)

  all_given : ((s : ℕ) → s < length points → get_or points s 0 ≡ get_or targets i 0 → v ≡ s)
      → ((s y : ℕ) → s < length points → y < i → get_or points s 0 ≡ get_or targets y 0
      → get_or places y 0 ≡ s)
      → (s y : ℕ) → s < length points → y < i + 1 → get_or points s 0 ≡ get_or targets y 0
      → get_or places' y 0 ≡ s
  all_given new old s y h l e =
      ⊎_elim
      (λ here. ap (λ (p : ℕ). get_or places' p 0) here ∙ last
      ∙ new s h (e ∙ ap (λ (p : ℕ). get_or targets p 0) here))
      (λ other. before y l other ∙ old s y h (omega (arith, l, other)) e)
      (cases_eq y i)

-- all numbers are below another, with one more
all_below : (total t : ℕ) (missing missing' : List ℕ) → missing' ≡ missing ++ t ∷ [] → t < total
    → ((j d : ℕ) → j < length missing → get_or missing j d < total) → (j d : ℕ)
    → j < length missing' → get_or missing' j d < total
all_below total t missing missing' others new old j d h =
    let long : length missing' ≡ length missing + 1 =
    one_longer missing t missing' (length missing) refl others in
    let at : get_or missing' j d ≡ get_or (missing ++ t ∷ []) j d =
    ap (λ (xs : List ℕ). get_or xs j d) others in
    ⊎_elim {C = get_or missing' j d < total}
    (λ here. (let n : ℕ = length missing in
    let own : get_or (missing ++ t ∷ []) j d ≡ t =
    ap (λ (p : ℕ). get_or (missing ++ t ∷ []) p d) here ∙ get_or_push missing t d n refl in
    omega (arith, at, own, new)))
    (λ other. (let less : j < length missing = omega (arith, h, long, other) in
    omega (arith, at, get_or_append_left missing (t ∷ []) d j less, old j d less)))
    (cases_eq j (length missing))

pub loop-i-preserved-then-place-points : goal.loop-i-preserved-then-place-points
loop-i-preserved-then-place-points c =
    let points : List ℕ = c.args.points.now in
    let targets : List ℕ = c.args.targets.now in
    let n : ℕ = length points in
    let i : ℕ = c.loop-i.i in
    let t : ℕ = get_or targets i 0 in
    let places : List ℕ = c.loop-i.places.items in
    let missing : List ℕ = c.loop-i.missing.items in
    let places' : List ℕ = c.push.new.self.items in
    let given : List ℕ = c.in_ok-given.given.items in
    let place : ℕ = c.index-place.result.now in
    let less : t < c.args.total = c.requires.targets i 0 (omega arith) in
    let more : places' ≡ places ++ place ∷ [] = c.in_ok-push.ensures.items in
    let own : place ≡ get_or given t 0 =
    c.index-place.ensures
    ∙ get_or_default given c.from.result place 0
    (omega (arith, c.from.ensures, less, c.in_ok-given.ensures.count))
    ∙ ap (λ (p : ℕ). get_or given p 0) c.from.ensures in
    let within : place < n = omega (arith, c.if-place-points.true) in
    let here : get_or points place 0 ≡ t =
    ap (λ (p : ℕ). get_or points p 0) own
    ∙ c.in_ok-given.ensures.here t less (omega (arith, own, within)) in
    record {
      few = omega (arith, c.loop-i.invariant.few);
      count = one_longer places place places' i c.loop-i.invariant.count more;
      below = c.loop-i.invariant.below;
      within =
          all_within points targets places places' i place c.loop-i.invariant.count more
          (n + length missing) (n + length missing) (omega arith) (omega (arith, within))
          c.loop-i.invariant.within;
      each =
          all_each points targets places places' i place c.loop-i.invariant.count more
          (points ++ missing) (get_or_append_left points missing 0 place within ∙ here)
          c.loop-i.invariant.each;
      given =
          all_given points targets places places' i place c.loop-i.invariant.count more
          (λ s h e. own ∙ ap (λ (p : ℕ). get_or given p 0) (sym e)
          ∙ c.in_ok-given.ensures.each s h (omega (arith, e, less)))
          c.loop-i.invariant.given;
    }

pub loop-i-preserved : goal.loop-i-preserved
loop-i-preserved c =
    let points : List ℕ = c.args.points.now in
    let targets : List ℕ = c.args.targets.now in
    let n : ℕ = length points in
    let i : ℕ = c.loop-i.i in
    let t : ℕ = get_or targets i 0 in
    let places : List ℕ = c.loop-i.places.items in
    let missing : List ℕ = c.loop-i.missing.items in
    let places' : List ℕ = c.push-in-loop-i.new.self.items in
    let missing' : List ℕ = c.push-in-loop-i-2.new.self.items in
    let given : List ℕ = c.in_ok-given.given.items in
    let place : ℕ = c.index-place.result.now in
    let v : ℕ = n + length missing in
    let less : t < c.args.total = c.requires.targets i 0 (omega arith) in
    let value : n + c.len.result ≡ v = omega (arith, c.len.ensures, c.loop-i.missing.ok.0) in
    let more : places' ≡ places ++ v ∷ [] =
    c.in_ok-push-2.ensures.items ∙ ap (λ (y : ℕ). places ++ y ∷ []) value in
    let others : missing' ≡ missing ++ t ∷ [] = c.in_ok-push-3.ensures.items in
    let many : length missing' ≡ length missing + 1 =
    one_longer missing t missing' (length missing) refl others in
    let own : place ≡ get_or given t 0 =
    c.index-place.ensures
    ∙ get_or_default given c.from.result place 0
    (omega (arith, c.from.ensures, less, c.in_ok-given.ensures.count))
    ∙ ap (λ (p : ℕ). get_or given p 0) c.from.ensures in
    let behind : n ≤ place = omega (arith, c.if-place-points.false) in
    let none : (s : ℕ) → s < n → get_or points s 0 ≡ t → v ≡ s =
    λ s h e. absurd (omega (
      arith,
      behind,
      h,
      own
          ∙ ap (λ (p : ℕ). get_or given p 0) (sym e)
          ∙ c.in_ok-given.ensures.each s h (omega (arith, e, less)),
    )) in
    record {
      few = omega (arith, many, c.loop-i.invariant.few);
      count = one_longer places v places' i c.loop-i.invariant.count more;
      below =
          all_below c.args.total t missing missing' others less c.loop-i.invariant.below;
      within =
          all_within points targets places places' i v c.loop-i.invariant.count more
          (n + length missing) (n + length missing') (omega (arith, many)) (omega (arith, many))
          c.loop-i.invariant.within;
      each =
          all_each points targets places places' i v c.loop-i.invariant.count more
          (points ++ missing')
          (get_or-append_right points missing' n v 0 refl (omega arith)
          ∙ ap (λ (p : ℕ). get_or missing' p 0)
          (let rest : n + length missing - n ≡ length missing = omega arith in rest)
          ∙ at_end missing missing' t (length missing) refl others)
          (λ y h.
          ap (λ (xs : List ℕ). get_or (points ++ xs) (get_or places y 0) 0) others
          ∙ ap (λ (xs : List ℕ). get_or xs (get_or places y 0) 0)
          (sym (append_assoc points missing (t ∷ [])))
          ∙ get_or_append_left (points ++ missing) (t ∷ []) 0 (get_or places y 0)
          (omega (arith, c.loop-i.invariant.within y h, length-append points missing))
          ∙ c.loop-i.invariant.each y h);
      given =
          all_given points targets places places' i v c.loop-i.invariant.count more none
          c.loop-i.invariant.given;
    }
