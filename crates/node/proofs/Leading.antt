-- Where notes lead, and how it stays so while notes are added.
use Rattle.std.proofs.Common.{◌≡◌, ◌⊎◌, inl, inr, ℕ, zero, suc, ◌+◌, ◌-◌, ◌<◌, ◌≤◌, ◌&&◌, ◌||◌, Bool, true, false, cond, if◌then◌else◌, not, max, nat_lt, List, [], ◌∷◌, ◌++◌, Option, Some, None, add-one, append-nil, drop, filter, get_or, length, option_and_then, take, unwrap_or, refl, sym, ◌∙◌, ap, subst, arith, ltb-true}
use Rattle.std.specs.List.{AllByRecursion, cons_option, filter_map, list_any}
use Rattle.std.specs.Map.{lookup}
use Rattle.std.specs.Option.{option_or}
use Rattle.std.specs.Ordering.{is_eq}
use Rattle.std.proofs.lemmas.Bool.{and_parts, cases_Bool, cond-false, cond-true, le-ltb, or_left, or_right}
use Rattle.std.proofs.lemmas.List.{drop_at}
use Rattle.std.proofs.lemmas.List.Folds.{list_any-append}
use Rattle.std.proofs.lemmas.Option.{none-some}
use Rattle.cw_types.specs.Block.{Block}
use Rattle.cw_types.specs.Order.{commitment_cmp}
use Rattle.cw_types.specs.OrderLaws.{commitments_are_told, commitments_tie}
use Rattle.cw_types.specs.Same.{same_commitment}
use Rattle.cw_types.specs.declared.commitment.Commitment.{Commitment}
use Rattle.cw_types.specs.declared.note.Note.{Note}
use Rattle.cw_types.proofs.Ordered.{found_same}
use Rattle.cw_types.proofs.Same.{same_commitment-true, same_commitment_self}
use Rattle.cw_rules.specs.Accepted.{State, first_some}
use Rattle.cw_rules.specs.Held.{greatest_prune, held, next, noted_block_of}
use Rattle.cw_rules.specs.Notes.{has_block, is_block}
use Rattle.cw_rules.specs.Reached.{In}
use Rattle.cw_rules.specs.Rules.{Rules, genesis, genesis_commitment}
use Rattle.cw_rules.specs.Sends.{leads, missing, once}
use Rattle.cw_rules.proofs.Lists.{and_then_some}
use Rattle.marshal.proofs.Growing.{filter_map_both, first_front}
use Rattle.node.specs.Leading.{GoesOnFrom, IsLedBy, is_above, is_led, is_new, lead_at, lead_height, led_to, merge, no_lead, with_lead}
use Rattle.node.specs.declared.leads.Lead.{Lead}
use Rattle.node.specs.declared.leads.Led.{Led}
use Rattle.node.proofs.Asking.{asks_are_new, filter_alike, filter_joined}

-- ---- lists

-- what is kept by tests that say the same
same_kept : {X Y : Type 0} (f g : X → Option Y) (xs : List X)
    → ((x : X) → In x xs → f x ≡ g x) → filter_map f xs ≡ filter_map g xs
same_kept f g [] same = refl
same_kept f g (x ∷ xs) same =
    λ i. cons_option (same x (inl refl) i) (same_kept f g xs (λ z h. same z (inr h)) i)

-- what holds of each that is kept
all_kept : {X Y : Type 0} (P : Y → Type 0) (f : X → Option Y) (xs : List X)
    → ((x : X) (y : Y) → In x xs → f x ≡ Some y → P y) → AllByRecursion P (filter_map f xs)
all_kept P f [] h = tt
all_kept {Y = Y} P f (x ∷ xs) h = go (f x) refl (all_kept P f xs (λ z y i. h z y (inr i)))
  where
    go : (o : Option Y) → f x ≡ o → AllByRecursion P (filter_map f xs)
        → AllByRecursion P (cons_option o (filter_map f xs))
    go None e rest = rest
    go (Some y) e rest = (h x y (inl refl) e, rest)

-- what an element gives is among what is kept
among_kept : {X : Type 0} (f : X → Option Commitment) (xs : List X) (x : X) (c : Commitment)
    → In x xs → f x ≡ Some c → list_any (same_commitment c) (filter_map f xs) ≡ true
among_kept f [] x c i e = absurd i
among_kept f (y ∷ ys) x c (inl same) e =
    ap (λ o. list_any (same_commitment c) (cons_option o (filter_map f ys)))
    (ap f (sym same) ∙ e)
    ∙ or_left (same_commitment c c) (list_any (same_commitment c) (filter_map f ys))
    (same_commitment_self c)
among_kept f (y ∷ ys) x c (inr i) e = go (f y) (among_kept f ys x c i e)
  where
    go : (o : Option Commitment) → list_any (same_commitment c) (filter_map f ys) ≡ true
        → list_any (same_commitment c) (cons_option o (filter_map f ys)) ≡ true
    go None h = h
    go (Some d) h =
        or_right (same_commitment c d) (list_any (same_commitment c) (filter_map f ys)) h

pub taken_whole : {X : Type 0} (xs : List X) (n : ℕ) → length xs ≤ n → take n xs ≡ xs
taken_whole [] zero past = refl
taken_whole [] (suc n) past = refl
taken_whole (x ∷ xs) zero past = absurd (omega arith)
taken_whole (x ∷ xs) (suc n) past = ap (λ l. x ∷ l) (taken_whole xs n (omega arith))

-- what a slice from a place on has
pub rest_is : {X : Type 0} (xs : List X) (n : ℕ) → take (length xs - n) (drop n xs) ≡ drop n xs
rest_is [] zero = refl
rest_is [] (suc n) = ap (λ k. take k []) (let e : 0 - suc n ≡ 0 = omega arith in e)
rest_is {X} (x ∷ xs) zero =
    let e : length (x ∷ xs) - 0 ≡ length (x ∷ xs) = omega arith in
    ap (λ k. take k (x ∷ xs)) e ∙ whole (x ∷ xs)
  where
    whole : (ys : List X) → take (length ys) ys ≡ ys
    whole [] = refl
    whole (y ∷ ys) = ap (λ l. y ∷ l) (whole ys)
rest_is (x ∷ xs) (suc n) =
    let e : length (x ∷ xs) - suc n ≡ length xs - n = omega arith in
    ap (λ k. take k (drop n xs)) e ∙ rest_is xs n

-- ---- what leads to a commitment

-- above a height the greater of two is where one of them is
above_both : (height : ℕ) (a b : Led)
    → is_above height (merge a b) ≡ (is_above height a || is_above height b)
above_both height a b =
    ap (λ t. (a.by_cert || b.by_cert) || t) (greater a.above b.above)
    ∙ turned a.by_cert b.by_cert (nat_lt height a.above) (nat_lt height b.above)
  where
    greater : (m n : ℕ) → nat_lt height (max m n) ≡ (nat_lt height m || nat_lt height n)
    greater m n = grind arith

    turned : (p q s t : Bool) → ((p || q) || (s || t)) ≡ ((p || s) || (q || t))
    turned true q s t = refl
    turned false true true t = refl
    turned false true false t = refl
    turned false false true t = refl
    turned false false false t = refl

-- a map with what leads to one commitment more
pub led_more : (old new : List (Commitment × Led)) (l : Lead) (led : Led)
    → led ≡ merge (led_to old l.to) l.by
    → ((q : Commitment) → lookup (λ (k : Commitment). is_eq (commitment_cmp q k)) new
    ≡ cond (is_eq (commitment_cmp l.to q)) (Some led)
    (lookup (λ (k : Commitment). is_eq (commitment_cmp q k)) old))
    → (c : Commitment) → led_to new c ≡ with_lead (led_to old c) l c
led_more old new l led is sets c =
    ap (λ (o : Option Led). unwrap_or o no_lead)
    (sym (found_same new c)
    ∙ (sets c
    ∙ (ap (λ b. cond b (Some led) (lookup (λ (k : Commitment). is_eq (commitment_cmp c k)) old))
    (sym (commitments_tie l.to c) ∙ commitments_are_told.symm l.to c)
    ∙ ap (λ (o : Option Led). cond (same_commitment c l.to) (Some led) o) (found_same old c))))
    ∙ go (same_commitment c l.to) refl
  where
    go : (b : Bool) → same_commitment c l.to ≡ b
        → unwrap_or (cond b (Some led) (lookup (same_commitment c) old)) no_lead
        ≡ cond b (merge (led_to old c) l.by) (led_to old c)
    go true e =
        is ∙ ap (λ (k : Commitment). merge (led_to old k) l.by) (sym (same_commitment-true c l.to e))
    go false e = refl

-- so the commitment is led to where it was, or this one leads there
pub one_leads : (old : Led) (l : Lead) (height : ℕ) (c : Commitment)
    → is_above height (with_lead old l c)
    ≡ (is_above height old
    || list_any (same_commitment c) (cons_option (lead_at height l) []))
one_leads old l height c = go (same_commitment c l.to) (is_above height l.by) refl refl
  where
    or_false : (x : Bool) → x ≡ (x || false)
    or_false true = refl
    or_false false = refl

    go : (s a : Bool) → same_commitment c l.to ≡ s → is_above height l.by ≡ a
        → is_above height (cond s (merge old l.by) old)
        ≡ (is_above height old
        || list_any (same_commitment c) (cons_option (cond a (Some l.to) None) []))
    go true true e f = above_both height old l.by ∙ rw (e, f) refl
    go true false e f = above_both height old l.by ∙ rw f refl
    go false true e f = rw e (or_false (is_above height old))
    go false false e f = or_false (is_above height old)

-- what is kept of the first so many and one
pub taken_more : {X Y : Type 0} (f : X → Option Y) (xs : List X) (i : ℕ) (x : X) → i < length xs
    → x ≡ get_or xs i x
    → filter_map f (take (i + 1) xs) ≡ filter_map f (take i xs) ++ cons_option (f x) []
taken_more f xs i x l e =
    ap (filter_map f) (ap (λ n. take n xs) (add-one i) ∙ one xs i x l e)
    ∙ filter_map_both f (take i xs) (x ∷ [])
  where
    one : {Z : Type 0} (zs : List Z) (j : ℕ) (z : Z) → j < length zs → z ≡ get_or zs j z
        → take (suc j) zs ≡ take j zs ++ z ∷ []
    one [] j z l e = absurd (omega arith)
    one (y ∷ ys) zero z l e = ap (λ w. w ∷ []) (sym e)
    one (y ∷ ys) (suc j) z l e = ap (λ w. y ∷ w) (one ys j z (omega arith) e)

-- what notes lead to, with one note more
pub lead_found : {X Y Z : Type 0} (f : X → Option Z) (g : Y → Option Z) (xs : List X) (ys : List Y)
    (i : ℕ) (x : X) (y : Y)
    → i < length ys → y ≡ get_or ys i y → f x ≡ g y → filter_map f xs ≡ filter_map g (take i ys)
    → filter_map f (xs ++ x ∷ []) ≡ filter_map g (take (i + 1) ys)
lead_found f g xs ys i x y less at same has =
    filter_map_both f xs (x ∷ [])
    ∙ ((λ k. has k ++ cons_option (same k) []) ∙ sym (taken_more g ys i y less at))

pub none_found : {X Y Z : Type 0} (f : X → Option Z) (g : Y → Option Z) (xs : List X) (ys : List Y)
    (i : ℕ) (y : Y)
    → i < length ys → y ≡ get_or ys i y → None ≡ g y → filter_map f xs ≡ filter_map g (take i ys)
    → filter_map f xs ≡ filter_map g (take (i + 1) ys)
none_found f g xs ys i y less at none has =
    sym (append-nil (filter_map f xs))
    ∙ ((λ k. has k ++ cons_option (none k) []) ∙ sym (taken_more g ys i y less at))

-- those to which notes newly lead, with one more
module _ (p : Commitment → Bool) (height : ℕ) (leads : List Lead) (i : ℕ) (l : Lead)
    (less : i < length leads) (at : l ≡ get_or leads i l) (new : List Commitment)
    (has : new ≡ filter p (filter_map (lead_at height) (take i leads))) where
  and_one : filter p (filter_map (lead_at height) (take (i + 1) leads))
      ≡ new ++ filter p (cons_option (lead_at height l) [])
  and_one =
      ap (filter p) (taken_more (lead_at height) leads i l less at)
      ∙ (filter_joined p (filter_map (lead_at height) (take i leads))
      (cons_option (lead_at height l) [])
      ∙ ap (λ n. n ++ filter p (cons_option (lead_at height l) [])) (sym has))

  pub newly_more : is_above height l.by ≡ true → p l.to ≡ true
      → new ++ l.to ∷ [] ≡ filter p (filter_map (lead_at height) (take (i + 1) leads))
  newly_more above is = sym (and_one ∙ ap (λ n. new ++ n) (rw (above, is) refl))

  pub newly_low : is_above height l.by ≡ false
      → new ≡ filter p (filter_map (lead_at height) (take (i + 1) leads))
  newly_low low = sym (and_one ∙ (ap (λ n. new ++ n) (rw low refl) ∙ append-nil new))

  pub newly_old : is_above height l.by ≡ true → p l.to ≡ false
      → new ≡ filter p (filter_map (lead_at height) (take (i + 1) leads))
  newly_old above old =
      sym (and_one ∙ (ap (λ n. new ++ n) (rw (above, old) refl) ∙ append-nil new))

-- a map that has what some lead to, with one more
pub all_more : (first old new : List (Commitment × Led)) (leads : List Lead) (i : ℕ) (l : Lead)
    → i < length leads → l ≡ get_or leads i l
    → ((c : Commitment) → led_to new c ≡ with_lead (led_to old c) l c)
    → ((c : Commitment) (height : ℕ) → is_led old height c
    ≡ (is_led first height c
    || list_any (same_commitment c) (filter_map (lead_at height) (take i leads))))
    → (c : Commitment) (height : ℕ) → is_led new height c
    ≡ (is_led first height c
    || list_any (same_commitment c) (filter_map (lead_at height) (take (i + 1) leads)))
all_more first old new leads i l less at adds has c height =
    let taken = filter_map (lead_at height) (take i leads) in
    let more = cons_option (lead_at height l) [] in
    ap (is_above height) (adds c)
    ∙ (one_leads (led_to old c) l height c
    ∙ (ap (λ b. b || list_any (same_commitment c) more) (has c height)
    ∙ (or_assoc (is_led first height c) (list_any (same_commitment c) taken)
    (list_any (same_commitment c) more)
    ∙ ap (λ b. is_led first height c || b)
    (sym
    (ap (list_any (same_commitment c)) (taken_more (lead_at height) leads i l less at)
    ∙ list_any-append (same_commitment c) taken more)))))
  where
    or_assoc : (x y z : Bool) → ((x || y) || z) ≡ (x || (y || z))
    or_assoc true y z = refl
    or_assoc false y z = refl

-- ---- where notes lead

-- the parent of a block above a height
abbrev over : ℕ → Block → Option Commitment
over height b = if nat_lt height b.height then Some b.context.parent else None

-- a noted block, unless it is below what was let go
abbrev unless_gone : ℕ → Block → Option Block
unless_gone prune b = if nat_lt 0 b.height && nat_lt b.height prune then None else Some b

-- no block that was let go is above the height
gone_low : (prune height : ℕ) (b : Block) → prune ≤ height + 1
    → option_and_then (over height) (unless_gone prune b) ≡ over height b
gone_low prune height b low = go (nat_lt 0 b.height && nat_lt b.height prune) refl
  where
    go : (g : Bool) → (nat_lt 0 b.height && nat_lt b.height prune) ≡ g
        → option_and_then (over height) (cond g None (Some b)) ≡ over height b
    go false e = refl
    go true e =
        let parts = and_parts (nat_lt 0 b.height) (nat_lt b.height prune) e in
        let no = le-ltb height b.height (omega (arith, ltb-true b.height prune parts.1)) in
        rw no refl

-- a block that isn't gone is above a height where it is above that and what was let go
kept_over : (prune height h : ℕ) → (nat_lt 0 h && nat_lt h prune) ≡ false
    → nat_lt height h ≡ nat_lt (max height (prune - 1)) h
kept_over prune height h kept = grind arith

over_lower : (low high : ℕ) (b : Block) (c : Commitment) → low ≤ high → over high b ≡ Some c
    → over low b ≡ Some c
over_lower low high b c le e = go (nat_lt high b.height) refl e
  where
    go : (g : Bool) → nat_lt high b.height ≡ g → cond g (Some b.context.parent) None ≡ Some c
        → over low b ≡ Some c
    go true f h =
        let yes : nat_lt low b.height ≡ true = grind arith in rw yes h
    go false f h = absurd (none-some c h)

-- no fewer are let go with more notes
pub prune_grows : (xs ys : List Note) → greatest_prune xs ≤ greatest_prune (xs ++ ys)
prune_grows [] ys = omega arith
prune_grows (Note.Prune h ∷ xs) ys = omega (arith, prune_grows xs ys)
prune_grows (_ ∷ xs) ys = prune_grows xs ys

-- a block is found under the commitment of a noted one
is_found : (c : Commitment) (b : Block) (notes : List Note) → In (Note.Block c b) notes
    → (x : Block) × (first_some (noted_block_of c) notes ≡ Some x)
is_found c b [] i = absurd i
is_found c b (y ∷ ys) i = go (noted_block_of c y) refl i (is_found c b ys)
  where
    go : (o : Option Block) → noted_block_of c y ≡ o → In (Note.Block c b) (y ∷ ys)
        → (In (Note.Block c b) ys → (x : Block) × (first_some (noted_block_of c) ys ≡ Some x))
        → (x : Block) × (option_or o (first_some (noted_block_of c) ys) ≡ Some x)
    go (Some x) e i later = (x, refl)
    go None e (inr i) later = later i
    go None e (inl same) later =
        absurd
        (none-some b
        (sym e
        ∙ (ap (noted_block_of c) (sym same)
        ∙ cond-true (same_commitment c c) (Some b) None (same_commitment_self c))))

module _ (r : Rules) where
  -- genesis leads nowhere
  root_leads : (notes : List Note) (height : ℕ) (c : Commitment)
      → same_commitment c (genesis_commitment r) ≡ true
      → option_and_then (over height) (held r notes c) ≡ None
  root_leads notes height c t = rw t (rw (le-ltb height 0 (omega arith)) refl)

  -- what is held, but for genesis
  noted_held : (notes : List Note) (c : Commitment)
      → same_commitment c (genesis_commitment r) ≡ false
      → held r notes c
      ≡ option_and_then (unless_gone (greatest_prune notes))
      (first_some (noted_block_of c) notes)
  noted_held notes c f =
      cond-false (same_commitment c (genesis_commitment r)) (Some (genesis r))
      (option_and_then (unless_gone (greatest_prune notes)) (first_some (noted_block_of c) notes))
      f

  noted_leads : (notes : List Note) (height : ℕ) (c : Commitment) (x : Block)
      → same_commitment c (genesis_commitment r) ≡ false
      → first_some (noted_block_of c) notes ≡ Some x → greatest_prune notes ≤ height + 1
      → option_and_then (over height) (held r notes c) ≡ over height x
  noted_leads notes height c x f e low =
      ap (option_and_then (over height))
      (noted_held notes c f ∙ ap (option_and_then (unless_gone (greatest_prune notes))) e)
      ∙ gone_low (greatest_prune notes) height x low

  -- a note leads where it did, at heights from the last that is let go on
  leads_stay : (notes more : List Note) (height : ℕ) (n : Note) → In n notes
      → greatest_prune (notes ++ more) ≤ height + 1
      → leads r (notes ++ more) height n ≡ leads r notes height n
  leads_stay notes more height (Note.Block c b) i low =
      go (cases_Bool (same_commitment c (genesis_commitment r))) (is_found c b notes i)
    where
      go : (same_commitment c (genesis_commitment r) ≡ true)
          ⊎ (same_commitment c (genesis_commitment r) ≡ false)
          → (x : Block) × (first_some (noted_block_of c) notes ≡ Some x)
          → leads r (notes ++ more) height (Note.Block c b) ≡ leads r notes height (Note.Block c b)
      go (inl t) found =
          root_leads (notes ++ more) height c t ∙ sym (root_leads notes height c t)
      go (inr f) (x, e) =
          noted_leads (notes ++ more) height c x f
          (first_front (noted_block_of c) notes more x e) low
          ∙ sym
          (noted_leads notes height c x f e (omega (arith, prune_grows notes more, low)))
  leads_stay notes more height (Note.Verified x v d) i low = refl
  leads_stay notes more height (Note.Certified p) i low = refl
  leads_stay notes more height (Note.Vote v) i low = refl
  leads_stay notes more height (Note.Cert s) i low = refl
  leads_stay notes more height (Note.Ack h) i low = refl
  leads_stay notes more height (Note.Floor h) i low = refl
  leads_stay notes more height (Note.Prune h) i low = refl
  leads_stay notes more height (Note.Epoch x d) i low = refl

  -- what is let go leads nowhere, so heights below it ask for no more
  leads_kept : (notes : List Note) (height : ℕ) (n : Note)
      → leads r notes height n ≡ leads r notes (max height (greatest_prune notes - 1)) n
  leads_kept notes height (Note.Block c b) =
      go (cases_Bool (same_commitment c (genesis_commitment r)))
    where
      top : ℕ
      top = max height (greatest_prune notes - 1)

      by : (x : Block) (g : Bool)
          → (nat_lt 0 x.height && nat_lt x.height (greatest_prune notes)) ≡ g
          → option_and_then (over height) (cond g None (Some x))
          ≡ option_and_then (over top) (cond g None (Some x))
      by x true e = refl
      by x false e =
          ap (λ t. cond t (Some x.context.parent) None)
          (kept_over (greatest_prune notes) height x.height e)

      found : (o : Option Block)
          → option_and_then (over height)
          (option_and_then (unless_gone (greatest_prune notes)) o)
          ≡ option_and_then (over top) (option_and_then (unless_gone (greatest_prune notes)) o)
      found None = refl
      found (Some x) =
          by x (nat_lt 0 x.height && nat_lt x.height (greatest_prune notes)) refl

      go : (same_commitment c (genesis_commitment r) ≡ true)
          ⊎ (same_commitment c (genesis_commitment r) ≡ false)
          → leads r notes height (Note.Block c b) ≡ leads r notes top (Note.Block c b)
      go (inl t) = root_leads notes height c t ∙ sym (root_leads notes top c t)
      go (inr f) =
          ap (option_and_then (over height)) (noted_held notes c f)
          ∙ (found (first_some (noted_block_of c) notes)
          ∙ sym (ap (option_and_then (over top)) (noted_held notes c f)))
  leads_kept notes height (Note.Verified x v d) = refl
  leads_kept notes height (Note.Certified p) = refl
  leads_kept notes height (Note.Vote v) = refl
  leads_kept notes height (Note.Cert s) = refl
  leads_kept notes height (Note.Ack h) = refl
  leads_kept notes height (Note.Floor h) = refl
  leads_kept notes height (Note.Prune h) = refl
  leads_kept notes height (Note.Epoch x d) = refl

  -- a note that leads somewhere leads there at lower heights
  leads_lower : (notes : List Note) (low high : ℕ) (n : Note) (c : Commitment) → low ≤ high
      → leads r notes high n ≡ Some c → leads r notes low n ≡ Some c
  leads_lower notes low high (Note.Block d b) c le e =
      let (x, p, u) = and_then_some (over high) (held r notes d) c e in
      ap (option_and_then (over low)) p ∙ over_lower low high x c le u
  leads_lower notes low high (Note.Cert s) c le e = e
  leads_lower notes low high (Note.Verified x v d) c le e = e
  leads_lower notes low high (Note.Certified p) c le e = e
  leads_lower notes low high (Note.Vote v) c le e = e
  leads_lower notes low high (Note.Ack h) c le e = e
  leads_lower notes low high (Note.Floor h) c le e = e
  leads_lower notes low high (Note.Prune h) c le e = e
  leads_lower notes low high (Note.Epoch x d) c le e = e

  -- ---- a step

  module _ (old : State) (more : List Note) (entries : List (Commitment × Led))
      (led : IsLedBy r old.notes entries) where
    abbrev all : List Note
    all = old.notes ++ more

    -- a note from before leads nowhere new, where the height to hand out doesn't fall
    led_before : (height : ℕ) (n : Note) (c : Commitment) → next old ≤ height → In n old.notes
        → leads r all height n ≡ Some c → leads r old.notes (next old) n ≡ Some c
    led_before height n c le i e =
        let top = max height (greatest_prune all - 1) in
        leads_lower old.notes (next old) top n c (omega arith)
        (sym (leads_stay old.notes more top n i (omega arith)) ∙ (sym (leads_kept all height n) ∙ e))

    -- the map tells what was led to
    was_led : (c : Commitment)
        → is_led entries (lead_height old) c
        ≡ list_any (same_commitment c)
        (filter_map (leads r old.notes (next old)) old.notes)
    was_led c =
        led c (lead_height old) (omega arith)
        ∙ ap (list_any (same_commitment c))
        (same_kept (leads r old.notes (lead_height old)) (leads r old.notes (next old)) old.notes
        (λ n i. sym (leads_kept old.notes (next old) n)))

    asked : (height : ℕ) → next old ≤ height
        → filter (λ c. not (list_any (same_commitment c) (missing r old)))
        (filter (λ c. not (has_block all c))
        (once (genesis_commitment r ∷ []) (filter_map (leads r all height) all)))
        ≡ once (genesis_commitment r ∷ [])
        (filter (is_new all entries (lead_height old)) (filter_map (leads r all height) more))
    asked height le =
        let before = filter_map (leads r old.notes (next old)) old.notes in
        let still = filter_map (leads r all height) old.notes in
        let new = filter_map (leads r all height) more in
        ap
        (λ (l : List Commitment). filter
        (λ c. not (list_any (same_commitment c) (missing r old)))
        (filter (λ c. not (has_block all c)) (once (genesis_commitment r ∷ []) l)))
        (filter_map_both (leads r all height) old.notes more)
        ∙ (asks_are_new (genesis_commitment r) (has_block old.notes) (has_block all) before still new
        (λ c h. list_any-append (is_block c) old.notes more
        ∙ or_left (has_block old.notes c) (has_block more c) h)
        (all_kept (λ c. list_any (same_commitment c) before ≡ true) (leads r all height) old.notes
        (λ n c i e. among_kept (leads r old.notes (next old)) old.notes n c i
        (led_before height n c le i e)))
        ∙ ap (once (genesis_commitment r ∷ []))
        (filter_alike
        (λ c. not (has_block all c) && not (list_any (same_commitment c) before))
        (is_new all entries (lead_height old)) new
        (λ c. ap (λ b. not (has_block all c) && not b) (sym (was_led c)))))

    -- with what the notes since then lead to it stands for all
    led_on : (new : List (Commitment × Led))
        → ((c : Commitment) (height : ℕ) → is_led new height c
        ≡ (is_led entries height c
        || list_any (same_commitment c) (filter_map (leads r all height) more)))
        → IsLedBy r all new
    led_on new added c height low =
        let f = leads r all height in
        added c height
        ∙ (ap (λ b. b || list_any (same_commitment c) (filter_map f more))
        (led c height (omega (arith, prune_grows old.notes more, low))
        ∙ ap (list_any (same_commitment c))
        (sym
        (same_kept f (leads r old.notes height) old.notes
        (λ n i. leads_stay old.notes more height n i low))))
        ∙ sym
        (ap (list_any (same_commitment c)) (filter_map_both f old.notes more)
        ∙ list_any-append (same_commitment c) (filter_map f old.notes) (filter_map f more)))

  module _ (old now : State) (entries : List (Commitment × Led))
      (on : GoesOnFrom r old now entries) where
    since : drop (length old.notes) now.notes ≡ on.more
    since =
        ap (drop (length old.notes)) on.notes
        ∙ drop_at old.notes on.more (length old.notes) refl

    -- what is missing now and wasn't before
    pub newly_missing : filter (λ c. not (list_any (same_commitment c) (missing r old)))
        (missing r now)
        ≡ once (genesis_commitment r ∷ [])
        (filter (is_new now.notes entries (lead_height old))
        (filter_map (leads r now.notes (next now)) (drop (length old.notes) now.notes)))
    newly_missing =
        ap
        (λ (l : List Note). filter (λ c. not (list_any (same_commitment c) (missing r old)))
        (filter (λ c. not (has_block l c))
        (once (genesis_commitment r ∷ []) (filter_map (leads r l (next now)) l))))
        on.notes
        ∙ (asked old on.more entries on.led (next now) on.rises
        ∙ (λ i. once (genesis_commitment r ∷ [])
        (filter (is_new (sym on.notes i) entries (lead_height old))
        (filter_map (leads r (sym on.notes i) (next now)) (sym since i)))))

    -- the map stands for all notes
    pub newly_led : (new : List (Commitment × Led))
        → ((c : Commitment) (height : ℕ) → is_led new height c
        ≡ (is_led entries height c
        || list_any (same_commitment c)
        (filter_map (leads r now.notes height) (drop (length old.notes) now.notes))))
        → IsLedBy r now.notes new
    newly_led new added =
        subst (λ (l : List Note). IsLedBy r l new) (sym on.notes)
        (led_on old on.more entries on.led new
        (λ c height. added c height
        ∙ (λ i. is_led entries height c
        || list_any (same_commitment c)
        (filter_map (leads r (on.notes i) height) (since i)))))

    module _ (place : ℕ) (found : List Lead) (at : place ≡ length old.notes)
        (led : (h : ℕ) → filter_map (lead_at h) found
        ≡ filter_map (leads r now.notes h) (drop place now.notes)) where
      led_since : (h : ℕ)
          → filter_map (lead_at h) found
          ≡ filter_map (leads r now.notes h) (drop (length old.notes) now.notes)
      led_since h =
          led h ∙ ap (λ n. filter_map (leads r now.notes h) (drop n now.notes)) at

      -- so a step asks for each of these once
      pub asked_once : (height : ℕ) (new : List Commitment) → height ≡ lead_height old
          → new ≡ filter (is_new now.notes entries height) (filter_map (lead_at (next now)) found)
          → once (genesis_commitment r ∷ []) new
          ≡ filter (λ c. not (list_any (same_commitment c) (missing r old))) (missing r now)
      asked_once height new from is =
          ap (once (genesis_commitment r ∷ []))
          (is ∙ (λ i. filter (is_new now.notes entries (from i)) (led_since (next now) i)))
          ∙ sym newly_missing

      pub led_since_all : (new : List (Commitment × Led))
          → ((c : Commitment) (height : ℕ) → is_led new height c
          ≡ (is_led entries height c
          || list_any (same_commitment c) (filter_map (lead_at height) found)))
          → IsLedBy r now.notes new
      led_since_all new added =
          newly_led new
          (λ c height. added c height
          ∙ ap (λ l. is_led entries height c || list_any (same_commitment c) l)
          (led_since height))
