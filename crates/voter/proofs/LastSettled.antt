-- The last settled view below a view, by the last of a range of keys.
use Rattle.std.proofs.Common.{◌≡◌, ◌⊎◌, inl, inr, ℕ, zero, suc, ◌<◌, ◌≤◌, Bool, true, false, if◌then◌else◌, refl, sym, subst, ◌∙◌, ap, arith, ne_eqb, List, [], ◌∷◌, ◌++◌, Option, Some, None, option_map, option_and_then}
use Rattle.std.specs.BTreeMap.{BTreeMap}
use Rattle.std.specs.BTreeMap.Range.{IsRangeOf}
use Rattle.std.specs.Map.{lookup}
use Rattle.std.specs.Option.{option_or}
use Rattle.std.specs.Ordering.{is_eq, is_gt, is_lt, nat_cmp, ordering_then}
use Rattle.std.specs.Prelude.{IsSome}
use Rattle.std.specs.declared.cmp.Ordering.{Ordering}
use Rattle.std.specs.declared.cmp.Ordering.TheVariants.{Less, Equal, Greater}
use Rattle.std.specs.declared.ops.Bound.TheVariants.{Included, Excluded}
use Rattle.std.proofs.lemmas.Bool.{cases_eq, cases_lt}
use Rattle.std.proofs.lemmas.Bool.Decides.{nat_tests}
use Rattle.cw_types.specs.Order.{commitment_cmp}
use Rattle.cw_types.specs.OrderLaws.{commitments_tie}
use Rattle.cw_types.specs.Votes.{finalized}
use Rattle.cw_types.specs.declared.commitment.Commitment.{Commitment}
use Rattle.cw_types.specs.declared.note.Note.{Note}
use Rattle.cw_types.specs.declared.vote.Proposal.{Proposal}
use Rattle.cw_types.specs.declared.vote.Vote.{Vote}
use Rattle.cw_types.specs.declared.vote.Vote.TheVariants.{Finalize, Notarize, Nullify}
use Rattle.cw_types.proofs.Same.{same_commitment_self}
use Rattle.cw_rules.specs.Accepted.{first_some}
use Rattle.cw_rules.specs.Notes.{settler}
use Rattle.note_scans.specs.Keys.{in_view, no_payload, same_key}
use Rattle.note_scans.specs.declared.key.VoteKey.{VoteKey}
use Rattle.note_scans.proofs.Keys.{found_key, key_cmp, same_key-true}
use Rattle.voter.specs.Facts.{HasFirstSettled, settled_at, settled_by}
use Rattle.voter.specs.Settled.{last_some, later_settled}
use Rattle.voter.proofs.Saying.{some_there}
use Rattle.voter.proofs.Settling.{settled_view}

-- ---- the last of some

pub last_none : {X : Type 0} (f : ℕ → Option X) (top : ℕ) → ((w : ℕ) → w < top → f w ≡ None)
    → last_some f top ≡ None
last_none f zero h = refl
last_none {X = X} f (suc n) h =
    ap (λ (o : Option X). option_or (option_map (λ x. (n, x)) o) (last_some f n))
    (h n (omega arith))
    ∙ last_none f n (λ w l. h w (omega arith))

pub last_is : {X : Type 0} (f : ℕ → Option X) (top v : ℕ) (x : X) → v < top → f v ≡ Some x
    → ((w : ℕ) → v < w → w < top → f w ≡ None) → last_some f top ≡ Some (v, x)
last_is f zero v x low is none = absurd (omega arith)
last_is {X = X} f (suc n) v x low is none = go (cases_eq v n) (last_is f n v x)
  where
    go : (v ≡ n) ⊎ (v ≡ n → ⊥)
        → (v < n → f v ≡ Some x → ((w : ℕ) → v < w → w < n → f w ≡ None)
        → last_some f n ≡ Some (v, x))
        → last_some f (suc n) ≡ Some (v, x)
    go (inl s) more =
        ap (λ (o : Option X). option_or (option_map (λ y. (n, y)) o) (last_some f n))
        (ap f (sym s) ∙ is)
        ∙ ap (λ (m : ℕ). Some (m, x)) (sym s)
    go (inr s) more =
        ap (λ (o : Option X). option_or (option_map (λ y. (n, y)) o) (last_some f n))
        (none n (omega arith) (omega arith))
        ∙ more (omega arith) is (λ w a b. none w a (omega arith))

-- ---- the order of the keys of views

nat_self : (n : ℕ) → nat_cmp n n ≡ Equal
nat_self n = grind (arith, nat_tests)

is_equal : (o : Ordering) → is_eq o ≡ true → o ≡ Equal
is_equal Less h = cc
is_equal Equal h = refl
is_equal Greater h = cc

payload_self : commitment_cmp no_payload no_payload ≡ Equal
payload_self =
    is_equal (commitment_cmp no_payload no_payload)
    (sym (commitments_tie no_payload no_payload) ∙ same_commitment_self no_payload)

then_equal : (o : Ordering) → ordering_then o Equal ≡ o
then_equal Less = refl
then_equal Equal = refl
then_equal Greater = refl

-- of one epoch
pub views_cmp : (epoch v w : ℕ) → key_cmp (in_view 6 epoch v) (in_view 6 epoch w) ≡ nat_cmp v w
views_cmp epoch v w =
    ap
    (λ (o : Ordering). ordering_then o
    (ordering_then (nat_cmp v w) (commitment_cmp no_payload no_payload)))
    (nat_self epoch)
    ∙ (ap (λ (o : Ordering). ordering_then (nat_cmp v w) o) payload_self ∙ then_equal (nat_cmp v w))

-- a key between two of an epoch is of the epoch
epoch_between : (epoch e v top : ℕ)
    → is_gt (key_cmp (in_view 6 epoch 1) (in_view 6 e v)) ≡ false
    → key_cmp (in_view 6 e v) (in_view 6 epoch top) ≡ Less → e ≡ epoch
epoch_between epoch e v top low high = go (cases_lt e epoch) (cases_lt epoch e)
  where
    greater : e < epoch → nat_cmp epoch e ≡ Greater
    greater l = grind (arith, nat_tests)

    over : epoch < e → nat_cmp e epoch ≡ Greater
    over l = grind (arith, nat_tests)

    go : (e < epoch) ⊎ (epoch ≤ e) → (epoch < e) ⊎ (e ≤ epoch) → e ≡ epoch
    go (inl a) b =
        let no : true ≡ false =
        sym
        (ap
        (λ (o : Ordering). is_gt (ordering_then o
        (ordering_then (nat_cmp 1 v) (commitment_cmp no_payload no_payload))))
        (greater a))
        ∙ low in
        cc
    go (inr a) (inl b) =
        let no : ◌≡◌ {A = Ordering} Greater Less =
        sym
        (ap
        (λ (o : Ordering). ordering_then o
        (ordering_then (nat_cmp v top) (commitment_cmp no_payload no_payload)))
        (over b))
        ∙ high in
        cc
    go (inr a) (inr b) = omega arith

-- ---- the keys of what is settled

-- a key at which something is settled is of a view, or of what an epoch builds on
pub record Keyed (q : VoteKey) : Type 0 where
  pub epoch : ℕ
  pub view : ℕ
  pub is : (q ≡ in_view 6 epoch view) ⊎ (q ≡ in_view 7 epoch 0)

settled_key : (q : VoteKey) (notes : List Note) (c : Commitment)
    → first_some (settled_at q) notes ≡ Some c → Keyed q
settled_key q [] c h = cc
settled_key q (note ∷ notes) c h = go note h (settled_key q notes c)
  where
    rest : Option Commitment
    rest = first_some (settled_at q) notes

    at_view : (p : Proposal)
        → option_or (if same_key q (in_view 6 p.epoch p.view) then Some p.payload else None)
        (first_some (settled_at q) notes)
        ≡ Some c
        → (first_some (settled_at q) notes ≡ Some c → Keyed q) → Keyed q
    at_view p k more = by (same_key q (in_view 6 p.epoch p.view)) refl k
      where
        by : (b : Bool) → same_key q (in_view 6 p.epoch p.view) ≡ b
            → option_or (if b then Some p.payload else None) (first_some (settled_at q) notes)
            ≡ Some c
            → Keyed q
        by true e l = record {
          epoch = p.epoch;
          view = p.view;
          is = inl (same_key-true q (in_view 6 p.epoch p.view) e);
        }
        by false e l = more l

    cert : (v : Vote)
        → option_or
        (option_and_then
        (λ (e : VoteKey × Commitment). if same_key q e.0 then Some e.1 else None)
        (option_map settled_by (finalized v))) (first_some (settled_at q) notes)
        ≡ Some c
        → (first_some (settled_at q) notes ≡ Some c → Keyed q) → Keyed q
    cert (Notarize p) k more = more k
    cert (Nullify e w) k more = more k
    cert (Finalize p) k more = at_view p k more

    go : (n : Note)
        → option_or (settled_at q n) (first_some (settled_at q) notes) ≡ Some c
        → (first_some (settled_at q) notes ≡ Some c → Keyed q) → Keyed q
    go (Note.Block d b) k more = more k
    go (Note.Verified e w d) k more = more k
    go (Note.Certified p) k more = at_view p k more
    go (Note.Vote w) k more = more k
    go (Note.Cert s) k more = cert s.vote k more
    go (Note.Ack x) k more = more k
    go (Note.Floor x) k more = more k
    go (Note.Prune x) k more = more k
    go (Note.Epoch e d) k more = by (same_key q (in_view 7 e 0)) refl k
      where
        by : (b : Bool) → same_key q (in_view 7 e 0) ≡ b
            → option_or (if b then Some d else None) (first_some (settled_at q) notes) ≡ Some c
            → Keyed q
        by true f l = record {
          epoch = e;
          view = 0;
          is = inr (same_key-true q (in_view 7 e 0) f);
        }
        by false f l = more l

abbrev get_at : BTreeMap VoteKey Commitment → VoteKey → Option Commitment
get_at m q = lookup (λ (j : VoteKey). is_eq (key_cmp q j)) m.entries

module _ (notes : List Note) (m : BTreeMap VoteKey Commitment)
    (has : HasFirstSettled notes m.entries)
    (epoch top : ℕ) (r : List (VoteKey × Commitment))
    (range : IsRangeOf key_cmp (Included (in_view 6 epoch 1)) (Excluded (in_view 6 epoch top)) m r)
  where
    at_root : later_settled notes epoch 0 ≡ None
    at_root = refl

    later_at : (w : ℕ) → 0 < w → later_settled notes epoch w ≡ get_at m (in_view 6 epoch w)
    later_at w pos =
        ap
        (λ b. if b then None else option_map (λ (p : Proposal). p.payload) (settler notes epoch w))
        (ne_eqb w 0 (λ s. omega arith))
        ∙ (sym (settled_view epoch w notes)
        ∙ (sym (has (in_view 6 epoch w)) ∙ sym (found_key m.entries (in_view 6 epoch w))))

    from_low : (w : ℕ) → 0 < w → is_gt (key_cmp (in_view 6 epoch 1) (in_view 6 epoch w)) ≡ false
    from_low w pos = ap is_gt (views_cmp epoch 1 w) ∙ test
      where
        test : is_gt (nat_cmp 1 w) ≡ false
        test = grind (arith, nat_tests)

    to_high : (w : ℕ) → w < top → key_cmp (in_view 6 epoch w) (in_view 6 epoch top) ≡ Less
    to_high w l = views_cmp epoch w top ∙ test
      where
        test : nat_cmp w top ≡ Less
        test = grind (arith, nat_tests)

    found_none : r ≡ [] → last_some (later_settled notes epoch) top ≡ None
    found_none e =
        last_none (later_settled notes epoch) top (λ w l. at w l (cases_eq w 0))
      where
        at : (w : ℕ) → w < top → (w ≡ 0) ⊎ (w ≡ 0 → ⊥) → later_settled notes epoch w ≡ None
        at w l (inl s) = ap (later_settled notes epoch) s ∙ at_root
        at w l (inr s) =
            later_at w (omega arith)
            ∙ range.5 e (in_view 6 epoch w) (from_low w (omega arith), to_high w l)

    module _ (t : List (VoteKey × Commitment)) (k : VoteKey) (c : Commitment)
        (e : r ≡ t ++ (k, c) ∷ []) where
      after_low : is_gt (key_cmp (in_view 6 epoch 1) k) ≡ false
      after_low = (range.3 (k, c) t e).0.0

      before_high : key_cmp k (in_view 6 epoch top) ≡ Less
      before_high = (range.3 (k, c) t e).0.1

      there : get_at m k ≡ Some c
      there = (range.3 (k, c) t e).1

      keyed : Keyed k
      keyed = settled_key k notes c (sym (has k) ∙ (sym (found_key m.entries k) ∙ there))

      -- of which view the last is
      at_view : (v : ℕ) → k ≡ in_view 6 epoch v
          → last_some (later_settled notes epoch) top ≡ Some (k.view, c)
      at_view v is =
          last_is (later_settled notes epoch) top v c under
          (later_at v over ∙ (ap (get_at m) (sym is) ∙ there))
          (λ w a b. later_at w (omega arith) ∙ none w a b (get_at m (in_view 6 epoch w)) refl)
          ∙ ap (λ (q : VoteKey). Some (q.view, c)) (sym is)
        where
          over : 0 < v
          over = go (cases_lt 0 v)
            where
              go : (0 < v) ⊎ (v ≤ 0) → 0 < v
              go (inl a) = a
              go (inr a) =
                  let great : is_gt (nat_cmp 1 v) ≡ true = grind (arith, nat_tests) in
                  let no : true ≡ false =
                  sym great
                  ∙ (ap is_gt (sym (views_cmp epoch 1 v))
                  ∙ (ap (λ (q : VoteKey). is_gt (key_cmp (in_view 6 epoch 1) q)) (sym is)
                  ∙ after_low)) in
                  absurd cc

          under : v < top
          under = go (cases_lt v top)
            where
              least : nat_cmp v top ≡ Less
              least =
                  sym (views_cmp epoch v top)
                  ∙ (ap (λ (q : VoteKey). key_cmp q (in_view 6 epoch top)) (sym is) ∙ before_high)

              go : (v < top) ⊎ (top ≤ v) → v < top
              go (inl a) = a
              go (inr a) =
                  let great : is_lt (nat_cmp v top) ≡ false = grind (arith, nat_tests) in
                  let no : true ≡ false = sym (ap is_lt least) ∙ great in
                  absurd cc

          none : (w : ℕ) → v < w → w < top → (o : Option Commitment)
              → get_at m (in_view 6 epoch w) ≡ o → o ≡ None
          none w a b None f = refl
          none w a b (Some d) f =
              let less : is_lt (nat_cmp v w) ≡ true = grind (arith, nat_tests) in
              let most : is_lt (key_cmp k (in_view 6 epoch w)) ≡ false =
              range.4 (k, c) t e (in_view 6 epoch w) (from_low w (omega arith), to_high w b)
              (subst (λ (o : Option Commitment). IsSome o) (sym f) (some_there (Some d) refl)) in
              let no : true ≡ false =
              sym less
              ∙ (ap is_lt (sym (views_cmp epoch v w))
              ∙ (ap (λ (q : VoteKey). is_lt (key_cmp q (in_view 6 epoch w))) (sym is) ∙ most)) in
              absurd cc

      by_key : (k ≡ in_view 6 keyed.epoch keyed.view) ⊎ (k ≡ in_view 7 keyed.epoch 0)
          → last_some (later_settled notes epoch) top ≡ Some (k.view, c)
      by_key (inl is) =
          let same : keyed.epoch ≡ epoch =
          epoch_between epoch keyed.epoch keyed.view top
          (ap (λ (q : VoteKey). is_gt (key_cmp (in_view 6 epoch 1) q)) (sym is) ∙ after_low)
          (ap (λ (q : VoteKey). key_cmp q (in_view 6 epoch top)) (sym is) ∙ before_high) in
          at_view keyed.view (is ∙ ap (λ (n : ℕ). in_view 6 n keyed.view) same)
      by_key (inr is) =
          let no : ◌≡◌ {A = Ordering} Greater Less =
          ap (λ (q : VoteKey). key_cmp q (in_view 6 epoch top)) (sym is) ∙ before_high in
          absurd cc

      found_last : last_some (later_settled notes epoch) top ≡ Some (k.view, c)
      found_last = by_key keyed.is

-- ---- as the code asks

-- a range of keys from the first view on
pub forward : (epoch top : ℕ) (lo hi : VoteKey) → lo ≡ in_view 6 epoch 1
    → hi ≡ in_view 6 epoch top → 1 < top → is_gt (key_cmp lo hi) ≡ false
forward epoch top lo hi low high over =
    ap (λ (q : VoteKey). is_gt (key_cmp q hi)) low
    ∙ (ap (λ (q : VoteKey). is_gt (key_cmp (in_view 6 epoch 1) q)) high
    ∙ (ap is_gt (views_cmp epoch 1 top) ∙ test))
  where
    test : is_gt (nat_cmp 1 top) ≡ false
    test = grind (arith, nat_tests)

-- there is no view above 0 and below 1
pub none_low : (notes : List Note) (epoch top : ℕ) → top ≤ 1
    → None ≡ last_some (later_settled notes epoch) top
none_low notes epoch top low =
    sym
    (last_none (later_settled notes epoch) top
    (λ w l. let zeroth : w ≡ 0 = omega arith in ap (later_settled notes epoch) zeroth))

module _ (notes : List Note) (m : BTreeMap VoteKey Commitment)
    (has : HasFirstSettled notes m.entries)
    (epoch top : ℕ) (lo hi : VoteKey) (low : lo ≡ in_view 6 epoch 1)
    (high : hi ≡ in_view 6 epoch top) (r : List (VoteKey × Commitment))
    (range : IsRangeOf key_cmp (Included lo) (Excluded hi) m r) where
  between : IsRangeOf key_cmp (Included (in_view 6 epoch 1)) (Excluded (in_view 6 epoch top)) m r
  between =
      subst
      (λ (q : VoteKey). IsRangeOf key_cmp (Included q) (Excluded (in_view 6 epoch top)) m r) low
      (subst (λ (q : VoteKey). IsRangeOf key_cmp (Included lo) (Excluded q) m r) high range)

  pub last_of_range : (t : List (VoteKey × Commitment)) (k : VoteKey) (c : Commitment)
      → r ≡ t ++ (k, c) ∷ [] → Some (k.view, c) ≡ last_some (later_settled notes epoch) top
  last_of_range t k c e = sym (found_last notes m has epoch top r between t k c e)

  pub none_of_range : r ≡ [] → None ≡ last_some (later_settled notes epoch) top
  none_of_range e = sym (found_none notes m has epoch top r between e)
