-- What a clash names: two different blocks of one digest that are known.
use Rattle.std.proofs.Common.{◌≡◌, ℕ, zero, suc, ◌+◌, Bool, true, false, not, List, [], ◌∷◌, ◌++◌, Option, Some, None, slice_get, slice_set, filter_map, find, take, drop, length, option_map, refl, sym, ◌∙◌, ap, subst, inl, inr, ◌⊎◌, arith, append_assoc}
use Rattle.std.specs.Option.{option_map_or}
use Rattle.std.proofs.lemmas.Bool.{and_parts, cases_Bool, cond-true, cond-false, false≢true}
use Rattle.std.proofs.lemmas.List.Elements.{filter_map-append}
use Rattle.std.proofs.lemmas.Option.{same_Some}
use Rattle.cw_types.specs.declared.note.Note.{Note}
use Rattle.cw_types.specs.Block.{Block}
use Rattle.cw_types.specs.Same.{same_block, same_digest}
use Rattle.cw_rules.specs.Chains.{Clashes, blocks_of, clash_at, collides, first_clash, noted_block, outcome}
use Rattle.cw_rules.specs.Reached.{In, IsClash, IsKnown, Reaches}
use Rattle.cw_rules.specs.Rules.{Rules, digest, genesis}
use Rattle.cw_rules.specs.Step.{Member, Stepped, member_notes}
use Rattle.cw_rules.specs.World.{Cut, Do, Faulty, Line, Restart, World, done_by, happens, line_member, member_at, opening, run, turned, with_done}
use Rattle.cw_types.proofs.Same.{same_digest-true, same_block_self}
use Rattle.cw_rules.proofs.Lists.{and_then_some, in_cases, in_left, in_right, or_some}
use Rattle.cw_rules.proofs.Worlds.{get-set_same, member_there}
use Rattle.cw_rules.proofs.Blocks.{notes_in}
use Rattle.cw_rules.proofs.Clashes.{block_from, blocks_at, blocks_from, drop_front, flat_drop, flat_take}
use Rattle.cw_rules.proofs.Runs.{turn}

find_found : (p : Block → Bool) (xs : List Block) (a : Block) → find p xs ≡ Some a
    → (p a ≡ true) × In a xs
find_found p [] a h = cc
find_found p (x ∷ xs) a h = go (cases_Bool (p x)) (find_found p xs a)
  where
    go : (p x ≡ true) ⊎ (p x ≡ false) → (find p xs ≡ Some a → (p a ≡ true) × In a xs)
        → (p a ≡ true) × In a (x ∷ xs)
    go (inl t) later =
        let e : x ≡ a = same_Some x a (sym (cond-true (p x) (Some x) (find p xs) t) ∙ h) in
        (subst (λ y. p y ≡ true) e t, inl (sym e))
    go (inr f) later =
        let k = later (sym (cond-false (p x) (Some x) (find p xs) f) ∙ h) in (k.0, inr k.1)

-- the two blocks of the first clash: the later collides with the earlier, and is new
clash_found : (r : Rules) (low own high news : List Block) (both : Block × Block)
    → first_clash r low own high news ≡ Some both
    → (collides r both.1 both.0 ≡ true) × In both.0 (genesis r ∷ low ++ (own ++ news) ++ high)
    × In both.1 news
clash_found r low own high [] both h = cc
clash_found r low own high (b ∷ bs) both h =
    go
    (or_some (option_map (λ a. (a, b)) (find (collides r b) olds))
    (first_clash r low (own ++ b ∷ []) high bs) both h)
    (clash_found r low (own ++ b ∷ []) high bs both)
  where
    olds : List Block
    olds = genesis r ∷ low ++ own ++ high

    wider : (a : Block) → In a (low ++ own ++ high) → In a (low ++ (own ++ b ∷ bs) ++ high)
    wider a h = one (in_cases a (low ++ own) high h)
      where
        two : In a low ⊎ In a own → In a (low ++ (own ++ b ∷ bs) ++ high)
        two (inl k) = in_left a (low ++ (own ++ b ∷ bs)) high (in_left a low (own ++ b ∷ bs) k)
        two (inr k) =
            in_left a (low ++ (own ++ b ∷ bs)) high
            (in_right a low (own ++ b ∷ bs) (in_left a own (b ∷ bs) k))

        one : In a (low ++ own) ⊎ In a high → In a (low ++ (own ++ b ∷ bs) ++ high)
        one (inl k) = two (in_cases a low own k)
        one (inr k) = in_right a (low ++ (own ++ b ∷ bs)) high k

    among : (a : Block) → In a olds → In a (genesis r ∷ low ++ (own ++ b ∷ bs) ++ high)
    among a (inl e) = inl e
    among a (inr k) = inr (wider a k)

    by_find : (o : Option Block) → find (collides r b) olds ≡ o
        → option_map (λ a. (a, b)) o ≡ Some both
        → (collides r both.1 both.0 ≡ true) × In both.0 (genesis r ∷ low ++ (own ++ b ∷ bs) ++ high)
        × In both.1 (b ∷ bs)
    by_find None e f = cc
    by_find (Some a) e f =
        let k = find_found (collides r b) olds a e in
        subst
        (λ (p : Block × Block). (collides r p.1 p.0 ≡ true)
        × In p.0 (genesis r ∷ low ++ (own ++ b ∷ bs) ++ high) × In p.1 (b ∷ bs))
        (same_Some (a, b) both f) (k.0, among a k.1, inl refl)

    go : (option_map (λ a. (a, b)) (find (collides r b) olds) ≡ Some both)
        ⊎ (first_clash r low (own ++ b ∷ []) high bs ≡ Some both)
        → (first_clash r low (own ++ b ∷ []) high bs ≡ Some both
        → (collides r both.1 both.0 ≡ true)
        × In both.0 (genesis r ∷ low ++ ((own ++ b ∷ []) ++ bs) ++ high) × In both.1 bs)
        → (collides r both.1 both.0 ≡ true) × In both.0 (genesis r ∷ low ++ (own ++ b ∷ bs) ++ high)
        × In both.1 (b ∷ bs)
    go (inl e) later = by_find (find (collides r b) olds) refl e
    go (inr e) later =
        let k = later e in (
          k.0,
          subst (λ xs. In both.0 (genesis r ∷ low ++ xs ++ high)) (append_assoc own (b ∷ []) bs)
              k.1,
          inr k.2,
        )

-- a write at a place leaves the places before and behind it
take_set : {X : Type 0} (i : ℕ) (xs : List X) (x : X) → take i (slice_set xs i x) ≡ take i xs
take_set zero xs x = refl
take_set (suc i) [] x = refl
take_set (suc i) (y ∷ ys) x = ap (λ zs. y ∷ zs) (take_set i ys x)

drop_set : {X : Type 0} (i : ℕ) (xs : List X) (x : X)
    → drop (suc i) (slice_set xs i x) ≡ drop (suc i) xs
drop_set i [] x = refl
drop_set zero (y ∷ ys) x = refl
drop_set (suc i) (y ∷ ys) x = drop_set i ys x

-- no block is new where nothing was done
none_new : (r : Rules) (w : World) (i : ℕ) → clash_at r w w i ≡ None
none_new r w i =
    ap (first_clash r (blocks_of (take i w.members)) own (blocks_of (drop (i + 1) w.members)))
    (drop_all own)
  where
    own : List Block
    own = blocks_of (take 1 (drop i w.members))

    drop_all : (xs : List Block) → drop (length xs) xs ≡ []
    drop_all [] = refl
    drop_all (x ∷ xs) = drop_all xs

-- a clash that a turn brings
turn_clash : (r : Rules) (w : World) (i : ℕ) (m : Member) (done : Stepped) (more : List Note)
    (both : Block × Block)
    → slice_get w.members i ≡ Some (Some m) → member_notes done.member ≡ member_notes m ++ more
    → clash_at r w (with_done w i done) i ≡ Some both
    → IsClash r (with_done w i done) (r.block_bytes both.0) (r.block_bytes both.1)
turn_clash r w i m done more both at joined h = made (clash_found r low own high news both found)
  where
    ms : List (Option Member)
    ms = w.members

    after : World
    after = with_done w i done

    low : List Block
    low = blocks_of (take i ms)

    own : List Block
    own = filter_map noted_block (member_notes m)

    news : List Block
    news = filter_map noted_block more

    high : List Block
    high = blocks_of (drop (i + 1) ms)

    after_at : slice_get after.members i ≡ Some (Some done.member)
    after_at = get-set_same ms i (Some done.member) (Some m) at

    all_own : own ++ news ≡ filter_map noted_block (member_notes done.member)
    all_own =
        sym
        (ap (filter_map noted_block) joined
        ∙ filter_map-append noted_block (member_notes m) more)

    found : first_clash r low own high news ≡ Some both
    found =
        let e0 = blocks_at ms i m at in
        let e1 = blocks_at after.members i done.member after_at ∙ sym all_own in
        let e2 : drop (length (blocks_of (take 1 (drop i ms))))
        (blocks_of (take 1 (drop i after.members)))
        ≡ news =
        ap (λ xs. drop (length xs) (blocks_of (take 1 (drop i after.members)))) e0
        ∙ (ap (drop (length own)) e1 ∙ drop_front own news) in
        ap (λ xs. first_clash r low xs high news) (sym e0)
        ∙ (ap (first_clash r low (blocks_of (take 1 (drop i ms))) high) (sym e2) ∙ h)

    from_own : (b : Block) → In b (own ++ news) → IsKnown r after b
    from_own b k =
        let (c, n) = block_from b (member_notes done.member) (subst (In b) all_own k) in
        inr (c, notes_in (Note.Block c b) after.members i done.member after_at n)

    from_low : (b : Block) → In b low → IsKnown r after b
    from_low b k =
        let (c, n) =
        blocks_from b (take i after.members)
        (subst (λ xs. In b (blocks_of xs)) (sym (take_set i ms (Some done.member))) k) in
        inr (c, flat_take (Note.Block c b) i after.members n)

    from_high : (b : Block) → In b high → IsKnown r after b
    from_high b k =
        let back : drop (suc i) after.members ≡ drop (i + 1) ms =
        drop_set i ms (Some done.member) ∙ ap (λ j. drop j ms) (plus_one i) in
        let (c, n) =
        blocks_from b (drop (suc i) after.members)
        (subst (λ xs. In b (blocks_of xs)) (sym back) k) in
        inr (c, flat_drop (Note.Block c b) (suc i) after.members n)
      where
        plus_one : (a : ℕ) → suc a ≡ a + 1
        plus_one a = omega arith

    known : (b : Block) → In b (genesis r ∷ low ++ (own ++ news) ++ high) → IsKnown r after b
    known b (inl e) = inl e
    known b (inr k) = one (in_cases b (low ++ (own ++ news)) high k)
      where
        two : In b low ⊎ In b (own ++ news) → IsKnown r after b
        two (inl j) = from_low b j
        two (inr j) = from_own b j

        one : In b (low ++ (own ++ news)) ⊎ In b high → IsKnown r after b
        one (inl j) = two (in_cases b low (own ++ news) j)
        one (inr j) = from_high b j

    made : (collides r both.1 both.0 ≡ true) × In both.0 (genesis r ∷ low ++ (own ++ news) ++ high)
        × In both.1 news
        → IsClash r after (r.block_bytes both.0) (r.block_bytes both.1)
    made (c, a, b) =
        let p =
        and_parts (same_digest (digest r both.0) (digest r both.1))
        (not (same_block both.0 both.1)) c in
        record {
          first = both.0;
          second = both.1;
          encoded = (refl, refl);
          known = (known both.0 a, from_own both.1 (in_right both.1 own news b));
          one_digest = same_digest-true (digest r both.0) (digest r both.1) p.0;
          different =
              λ e. false≢true
              (sym (ap not (subst (λ x. same_block both.0 x ≡ true) e (same_block_self both.0)))
              ∙ p.1);
        }

-- a clash that a line brings
done_clash : (r : Rules) (w : World) (line : Line) (both : Block × Block) (o : Option Stepped)
    → done_by r w line ≡ o
    → clash_at r w (option_map_or (with_done w (line_member line)) o w) (line_member line)
    ≡ Some both
    → IsClash r (option_map_or (with_done w (line_member line)) o w) (r.block_bytes both.0)
    (r.block_bytes both.1)
done_clash r w line both None e h = cc (none_new r w (line_member line))
done_clash r w line both (Some done) e h =
    let i = line_member line in
    let (m, f, g) = and_then_some (turned r w i line) (member_at w i) done e in
    let t = turn r w i line m done g in
    turn_clash r w i m done t.more both (member_there w i m f) t.joined h

line_clash : (r : Rules) (w : World) (line : Line) (both : Block × Block)
    → clash_at r w (happens r w line) (line_member line) ≡ Some both
    → IsClash r (happens r w line) (r.block_bytes both.0) (r.block_bytes both.1)
line_clash r w (Do i ask) both h = done_clash r w (Do i ask) both (done_by r w (Do i ask)) refl h
line_clash r w (Cut a b x i ask) both h =
    done_clash r w (Cut a b x i ask) both (done_by r w (Cut a b x i ask)) refl h
line_clash r w (Restart i) both h = done_clash r w (Restart i) both (done_by r w (Restart i)) refl h
line_clash r w (Faulty a fault) both h = cc (none_new r w a)

-- a run's clash comes in a world that it reaches
run_clash : (r : Rules) (w : World) (lines : List Line) (earlier later : List ℕ)
    → outcome r w lines ≡ Clashes earlier later
    → (before rest : List Line) × (lines ≡ before ++ rest)
    × IsClash r (run r w before) earlier later
run_clash r w [] earlier later h = cc
run_clash r w (line ∷ lines) earlier later h =
    go (clash_at r w (happens r w line) (line_member line)) refl h
    (run_clash r (happens r w line) lines earlier later)
  where
    go : (o : Option (Block × Block)) → clash_at r w (happens r w line) (line_member line) ≡ o
        → option_map_or (λ both. Clashes (r.block_bytes both.0) (r.block_bytes both.1)) o
        (outcome r (happens r w line) lines)
        ≡ Clashes earlier later
        → (outcome r (happens r w line) lines ≡ Clashes earlier later
        → (before rest : List Line) × (lines ≡ before ++ rest)
        × IsClash r (run r (happens r w line) before) earlier later)
        → (before rest : List Line) × (line ∷ lines ≡ before ++ rest)
        × IsClash r (run r w before) earlier later
    go None e h more =
        let (before, rest, joined, k) = more h in
        (line ∷ before, rest, ap (λ xs. line ∷ xs) joined, k)
    go (Some both) e h more =
        let k = line_clash r w line both e in
        let p : r.block_bytes both.0 ≡ earlier = cc in
        let q : r.block_bytes both.1 ≡ later = cc in (
          line ∷ [],
          lines,
          refl,
          subst (λ x. IsClash r (happens r w line) x later) p
              (subst (IsClash r (happens r w line) (r.block_bytes both.0)) q k),
        )

pub script_clash : (r : Rules) (script : List Line) (earlier later : List ℕ)
    → outcome r (opening r script) script ≡ Clashes earlier later
    → (w : World) × Reaches r script w × IsClash r w earlier later
script_clash r script earlier later h =
    let (before, rest, joined, k) = run_clash r (opening r script) script earlier later h in
    (run r (opening r script) before, (before, rest, joined, refl), k)
