-- The places in which a script begins, one after another.
use Rattle.std.proofs.Common.{◌≡◌, ℕ, zero, suc, ◌+◌, ◌<◌, ◌≤◌, Bool, true, false, List, [], ◌∷◌, ◌++◌, length, map, Option, Some, None, refl, sym, ap, subst, ◌∙◌, arith}
use Rattle.std.specs.Prelude.{filter_map, is_none, slice_get}
use Rattle.std.specs.List.{list_any, range_with_len}
use Rattle.std.specs.Option.{option_map_or}
use Rattle.std.proofs.lemmas.List.Elements.{filter_map-append}
use Rattle.cw_rules.specs.Report.{Entry, opening_entry}
use Rattle.cw_rules.specs.Rules.{Rules}
use Rattle.cw_rules.specs.Step.{Member, start}
use Rattle.cw_rules.specs.World.{Line, faults}
use Rattle.hail_script.specs.Grammar.{faulty_marks, is_faulty_in}
use Rattle.hail_report.proofs.Numbered.{map_joined, range_more}
use Rattle.hail_world.specs.declared.place.Place.{Place}
use Rattle.hail_world.specs.Offers.{some_of}
use Rattle.hail_world.specs.Places.{SitAs, SitsAs, WorkBy, WorksBy, is_faulty_member}
use Rattle.hail_world.specs.Runs.{opening_member}
use Rattle.hail_world.specs.MemoryNodes.{MemoryNode}

-- the places up to a number, and their entries
pub record AreOpened (r : Rules) (lines : List Line) (n : ℕ) (places : List (Place MemoryNode))
    (entries : List Entry) : Type 0 where
  pub members : SitAs places (map (opening_member r lines) (range_with_len 0 n))
  pub sound : WorkBy r 0 places
  pub count : length places ≡ n
  pub told : entries ≡ filter_map (opening_entry r lines) (range_with_len 0 n)

pub opened_none : (r : Rules) (lines : List Line) → AreOpened r lines 0 [] []
opened_none r lines = record { members = tt; sound = tt; count = refl; told = refl }

members_push : (ps : List (Place MemoryNode)) (os : List (Option Member)) (p : Place MemoryNode)
    (o : Option Member)
    → SitAs ps os → SitsAs p o → SitAs (ps ++ p ∷ []) (os ++ o ∷ [])
members_push [] [] p o h m = (m, tt)
members_push [] (x ∷ os) p o h m = absurd h
members_push (q ∷ ps) [] p o h m = absurd h
members_push (q ∷ ps) (x ∷ os) p o h m = (h.0, members_push ps os p o h.1 m)

sound_push : (r : Rules) (k n : ℕ) (ps : List (Place MemoryNode)) (p : Place MemoryNode)
    → WorkBy r k ps
    → k + length ps ≡ n → WorksBy r n p → WorkBy r k (ps ++ p ∷ [])
sound_push r k n [] p h e s =
    let same : n ≡ k = omega (arith, e) in (subst (λ (j : ℕ). WorksBy r j p) same s, tt)
sound_push r k n (q ∷ ps) p h e s = (h.0, sound_push r (k + 1) n ps p h.1 (omega (arith, e)) s)

long_push : {X : Type 0} (xs : List X) (x : X) → length (xs ++ x ∷ []) ≡ length xs + 1
long_push [] x = refl
long_push (y ∷ xs) x = let more = long_push xs x in omega (arith, more)

one_entry : (r : Rules) (lines : List Line) (n : ℕ)
    → filter_map (opening_entry r lines) (n ∷ []) ≡ some_of (opening_entry r lines n)
one_entry r lines n = go (list_any (faults n) lines) refl
  where
    go : (t : Bool) → list_any (faults n) lines ≡ t
        → filter_map (opening_entry r lines) (n ∷ []) ≡ some_of (opening_entry r lines n)
    go true e = rw e refl
    go false e = rw e refl

-- one place more
pub opened_more : (r : Rules) (lines : List Line) (n : ℕ) (old new : List (Place MemoryNode))
    (before after : List Entry) (p : Place MemoryNode) (e : Option Entry)
    → AreOpened r lines n old before
    → SitsAs p (opening_member r lines n) → WorksBy r n p → e ≡ opening_entry r lines n
    → new ≡ old ++ p ∷ [] → after ≡ before ++ some_of e → AreOpened r lines (n + 1) new after
opened_more r lines n old new before after p e h member sound tells places entries =
    let next : n + 1 ≡ suc n = omega arith in
    let none : 0 + n ≡ n = omega arith in
    let range : range_with_len 0 (n + 1) ≡ range_with_len 0 n ++ n ∷ [] =
    ap (λ (k : ℕ). range_with_len 0 k) next ∙ range_more 0 n
    ∙ ap (λ (k : ℕ). range_with_len 0 n ++ k ∷ []) none in
    let whole : map (opening_member r lines) (range_with_len 0 (n + 1))
    ≡ map (opening_member r lines) (range_with_len 0 n) ++ opening_member r lines n ∷ [] =
    ap (λ (l : List ℕ). map (opening_member r lines) l) range
    ∙ map_joined (opening_member r lines) (range_with_len 0 n) n in
    let told : filter_map (opening_entry r lines) (range_with_len 0 (n + 1))
    ≡ filter_map (opening_entry r lines) (range_with_len 0 n)
    ++ some_of (opening_entry r lines n) =
    ap (λ (l : List ℕ). filter_map (opening_entry r lines) l) range
    ∙ filter_map-append (opening_entry r lines) (range_with_len 0 n) (n ∷ [])
    ∙ ap (λ (l : List Entry). filter_map (opening_entry r lines) (range_with_len 0 n) ++ l)
    (one_entry r lines n) in
    let count = h.count in
    record {
      members =
          subst
          (λ (l : List (Place MemoryNode)). SitAs l
          (map (opening_member r lines) (range_with_len 0 (n + 1))))
          (sym places)
          (subst (λ (l : List (Option Member)). SitAs (old ++ p ∷ []) l) (sym whole)
          (members_push old (map (opening_member r lines) (range_with_len 0 n)) p
          (opening_member r lines n)
          h.members member));
      sound =
          subst (λ (l : List (Place MemoryNode)). WorkBy r 0 l) (sym places)
          (sound_push r 0 n old p h.sound (omega (arith, count)) sound);
      count =
          ap (λ (l : List (Place MemoryNode)). length l) places ∙ long_push old p
          ∙ ap (λ (k : ℕ). k + 1) count;
      told =
          entries ∙ ap (λ (o : Option Entry). before ++ some_of o) tells
          ∙ ap (λ (l : List Entry). l ++ some_of (opening_entry r lines n)) h.told ∙ sym told;
    }

-- a mark says whether some line makes the member faulty
pub marked_is : (lines : List Line) (total n : ℕ) (faulty : List Bool) → faulty
    ≡ faulty_marks lines total
    → n < total → is_faulty_member faulty n ≡ list_any (faults n) lines
marked_is lines total n faulty all lt =
    let none : 0 + n ≡ n = omega arith in
    ap (λ (l : List Bool). is_faulty_member l n) all
    ∙ ap (λ (o : Option Bool). option_map_or (λ b. b) o false) (at 0 total n lt)
    ∙ ap (λ (k : ℕ). is_faulty_in lines k) none
  where
    at : (low total n : ℕ) → n < total
        → slice_get (map (is_faulty_in lines) (range_with_len low total)) n
        ≡ Some (is_faulty_in lines (low + n))
    at low zero n lt = absurd (omega arith)
    at low (suc total) zero lt =
        let same : low ≡ low + 0 = omega arith in
        ap (λ (k : ℕ). let o : Option Bool = Some (is_faulty_in lines k) in o) same
    at low (suc total) (suc n) lt =
        let same : low + 1 + n ≡ low + suc n = omega arith in
        at (low + 1) total n (omega arith)
        ∙ ap (λ (k : ℕ). let o : Option Bool = Some (is_faulty_in lines k) in o) same

-- the entry and the live_node of a faulty member, and of another
pub faulty_entry : (r : Rules) (lines : List Line) (n : ℕ) → list_any (faults n) lines ≡ true
    → (opening_entry r lines n ≡ None) × (opening_member r lines n ≡ None)
faulty_entry r lines n e = (rw e refl, rw e refl)

pub honest_entry : (r : Rules) (lines : List Line) (n : ℕ) → list_any (faults n) lines ≡ false
    → (opening_entry r lines n ≡ Some (record {
      line = 0;
      member = Some n;
      found = None;
      sent = [];
      handed = (start r n []).handed;
    }))
    × (opening_member r lines n ≡ Some (start r n []).member)
honest_entry r lines n e = (rw e refl, rw e refl)

-- the marks are those of the memory_nodes
pub flags_open : (r : Rules) (lines : List Line) (total : ℕ)
    → faulty_marks lines total ≡ map is_none (map (opening_member r lines) (range_with_len 0 total))
flags_open r lines total = all (range_with_len 0 total)
  where
    one : (i : ℕ) → is_faulty_in lines i ≡ is_none (opening_member r lines i)
    one i = go (list_any (faults i) lines) refl
      where
        go : (t : Bool) → list_any (faults i) lines ≡ t
            → is_faulty_in lines i ≡ is_none (opening_member r lines i)
        go true e = rw e refl
        go false e = rw e refl

    all : (is : List ℕ)
        → map (is_faulty_in lines) is ≡ map is_none (map (opening_member r lines) is)
    all [] = refl
    all (i ∷ is) =
        ap (λ (b : Bool). b ∷ map (is_faulty_in lines) is) (one i)
        ∙ ap (λ (l : List Bool). is_none (opening_member r lines i) ∷ l) (all is)
