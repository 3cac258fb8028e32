-- Each digest of a tree leads to the root by its path, which is no longer than the tree is high.
use Rattle.std.proofs.Common.{◌≡◌, ℕ, suc, zero, ◌+◌, ◌-◌, ◌*◌, ◌/◌, ◌%◌, ◌^◌, ◌<◌, ◌≤◌, Bool, true, false, cond, eqb, List, [], ◌∷◌, ◌++◌, length, drop, take, get_or, Option, Some, refl, sym, ap, ◌∙◌, arith, inl, inr}
use Rattle.std.proofs.lemmas.Bool.{eq-eqb, ne_eqb, cases_lt}
use Rattle.std.proofs.lemmas.List.{drop_more, drop_all, get_or_default, length-append, length-take}
use Rattle.std.proofs.Math.Nat.{pow-suc}
use Rattle.cw_base.specs.Bytes.{be32}
use Rattle.cw_tree.specs.Sizes.{IsHeight}
use Rattle.cw_tree.specs.Tree.{leaf, above, rooted, rooted_some, leaves_from, paired, top_within, root_of, root_by, beside, partner_of, pair_bytes, path_within, path_of}
use Rattle.cw_tree.proofs.WayLaws.{root_from, root_up, root_home, root_by-from}

one_there : {D : Type 0} (xs : List D) (i : ℕ) (x : D) → i < length xs
    → take 1 (drop i xs) ≡ get_or xs i x ∷ []
one_there xs i x l = ap (take 1) (drop_more xs i x l)

none_there : {D : Type 0} (xs : List D) (i : ℕ) → length xs ≤ i → take 1 (drop i xs) ≡ []
none_there xs i l = ap (take 1) (drop_all i xs l)

module _ {D : Type 0} (hash : List ℕ → D) (content : D → List ℕ) where
  pub length-paired : (xs : List D) → length (paired hash content xs) ≡ (length xs + 1) / 2
  length-paired [] = refl
  length-paired (a ∷ []) = refl
  length-paired (a ∷ (b ∷ rest)) = let e = length-paired rest in omega arith

  -- node j of the level above stands over nodes 2 j and 2 j + 1
  pair_at : (level : List D) (j : ℕ) (a b d : D) → 2 * j + 1 < length level
      → a ≡ get_or level (2 * j) a → b ≡ get_or level (2 * j + 1) b →
      get_or (paired hash content level) j d ≡ above hash content a b
  pair_at [] j a b d l isa isb = absurd (omega arith)
  pair_at (x ∷ []) j a b d l isa isb = absurd (omega arith)
  pair_at (x ∷ (y ∷ rest)) zero a b d l isa isb =
      let first : a ≡ x = isa in
      let second : b ≡ y = isb in
      ap (λ u. above hash content u y) (sym first) ∙ ap (λ u. above hash content a u) (sym second)
  pair_at (x ∷ (y ∷ rest)) (suc j) a b d l isa isb =
      let e : 2 * suc j ≡ suc (suc (2 * j)) = omega arith in
      let f : 2 * suc j + 1 ≡ suc (suc (2 * j + 1)) = omega arith in
      pair_at rest j a b d (omega arith) (isa ∙ ap (λ n. get_or (x ∷ (y ∷ rest)) n a) e)
      (isb ∙ ap (λ n. get_or (x ∷ (y ∷ rest)) n b) f)

  -- and an odd last node stands alone below its node
  last_at : (level : List D) (j : ℕ) (a d : D) → 2 * j + 1 ≡ length level
      → a ≡ get_or level (2 * j) a →
      get_or (paired hash content level) j d ≡ above hash content a a
  last_at [] j a d l isa = absurd (omega arith)
  last_at (x ∷ []) zero a d l isa =
      let first : a ≡ x = isa in ap (λ u. above hash content u u) (sym first)
  last_at (x ∷ []) (suc j) a d l isa = absurd (omega arith)
  last_at (x ∷ (y ∷ rest)) zero a d l isa = absurd (omega arith)
  last_at (x ∷ (y ∷ rest)) (suc j) a d l isa =
      let e : 2 * suc j ≡ suc (suc (2 * j)) = omega arith in
      last_at rest j a d (omega arith) (isa ∙ ap (λ n. get_or (x ∷ (y ∷ rest)) n a) e)

  -- no node stands beside the top
  pub home : (n : ℕ) (x : D) → path_within hash content n 0 (x ∷ []) ≡ []
  home zero x = refl
  home (suc n) x = home n (above hash content x x)

  -- the node above a left node and its partner, and above a right one
  above_left : (i : ℕ) (x y : D) → i % 2 ≡ 0
      → hash (pair_bytes content i x y) ≡ above hash content x y
  unfolding above
  above_left i x y even = rw (eq-eqb (i % 2) 0 even) refl

  above_right : (i : ℕ) (x y : D) → (i % 2 ≡ 0 → ⊥)
      → hash (pair_bytes content i x y) ≡ above hash content y x
  unfolding above
  above_right i x y odd = rw (ne_eqb (i % 2) 0 odd) refl

  -- the rest of the way up from a node of the level above
  abbrev Goes : (leaves n i : ℕ) (level : List D) (root : Option D) → Type 0
  Goes leaves n i level root =
      (y : D) → y ≡ get_or (paired hash content level) (i / 2) y →
      root_from hash content leaves n ((length level + 1) / 2) (i / 2) y
      (path_within hash content n (i / 2) (paired hash content level))
      ≡ root

  -- one step of the way up from node i of a level of several nodes
  climbs : (leaves n i : ℕ) (level : List D) (x : D) (root : Option D) →
      1 < length level → i < length level → x ≡ get_or level i x → Goes leaves n i level root →
      root_from hash content leaves (suc n) (length level) i x
      (path_within hash content (suc n) i level)
      ≡ root
  climbs leaves n i level x root wide within is rest =
      elim (cases_lt (i % 2) 1) [
        | inl even ↦ elim (cases_lt (i + 1) (length level))
            [ inl lt ↦ left even lt | inr ge ↦ last even ge ]
        | inr odd ↦ right odd
      ]
    where
      further : List D
      further = path_within hash content n (i / 2) (paired hash content level)

      -- by a partner, and the node above both
      up : (y node : D) (siblings : List D) → beside i level ++ further ≡ siblings
          → partner_of (length level) i x siblings ≡ Some (y, further) →
          hash (pair_bytes content i x y) ≡ node
          → node ≡ get_or (paired hash content level) (i / 2) node →
          root_from hash content leaves (suc n) (length level) i x (beside i level ++ further)
          ≡ root
      up y node siblings are partner digest there =
          ap (root_from hash content leaves (suc n) (length level) i x) are
          ∙ root_up hash content leaves n (length level) i x siblings y further wide partner
          ∙ ap (λ z. root_from hash content leaves n ((length level + 1) / 2) (i / 2) z further)
          digest
          ∙ rest node there

      last : i % 2 < 1 → length level ≤ i + 1
          → root_from hash content leaves (suc n) (length level) i x (beside i level ++ further)
          ≡ root
      last even ge =
          let e : eqb (i % 2) 0 ≡ true = eq-eqb (i % 2) 0 (omega arith) in
          let l : eqb (i + 1) (length level) ≡ true = eq-eqb (i + 1) (length level) (omega arith) in
          let twice : i ≡ 2 * (i / 2) = omega arith in
          let end : 2 * (i / 2) + 1 ≡ length level = omega arith in
          let node =
          last_at level (i / 2) x (above hash content x x) end
          (is ∙ ap (λ m. get_or level m x) twice) in
          up x (above hash content x x) further (rw (e, none_there level (i + 1) ge) refl)
          (rw (e, l) refl)
          (above_left i x x (omega arith)) (sym node)

      left : i % 2 < 1 → i + 1 < length level
          → root_from hash content leaves (suc n) (length level) i x (beside i level ++ further)
          ≡ root
      left even lt =
          let e : eqb (i % 2) 0 ≡ true = eq-eqb (i % 2) 0 (omega arith) in
          let l : eqb (i + 1) (length level) ≡ false =
          ne_eqb (i + 1) (length level) (λ h. omega arith) in
          let s : D = get_or level (i + 1) x in
          let twice : i ≡ 2 * (i / 2) = omega arith in
          let more : i + 1 ≡ 2 * (i / 2) + 1 = omega arith in
          let sibling : get_or level (i + 1) x ≡ get_or level (2 * (i / 2) + 1) s =
          get_or_default level (i + 1) x s lt ∙ ap (λ m. get_or level m s) more in
          let node =
          pair_at level (i / 2) x s (above hash content x s) (omega arith)
          (is ∙ ap (λ m. get_or level m x) twice) sibling in
          up s (above hash content x s) (s ∷ further) (rw (e, one_there level (i + 1) x lt) refl)
          (rw (e, l) refl)
          (above_left i x s (omega arith)) (sym node)

      right : 1 ≤ i % 2
          → root_from hash content leaves (suc n) (length level) i x (beside i level ++ further)
          ≡ root
      right odd =
          let e : eqb (i % 2) 0 ≡ false = ne_eqb (i % 2) 0 (λ h. omega arith) in
          let lt : i - 1 < length level = omega arith in
          let s : D = get_or level (i - 1) x in
          let twice : i - 1 ≡ 2 * (i / 2) = omega arith in
          let more : i ≡ 2 * (i / 2) + 1 = omega arith in
          let sibling : get_or level (i - 1) x ≡ get_or level (2 * (i / 2)) s =
          get_or_default level (i - 1) x s lt ∙ ap (λ m. get_or level m s) twice in
          let node =
          pair_at level (i / 2) s x (above hash content s x) (omega arith) sibling
          (is ∙ ap (λ m. get_or level m x) more) in
          up s (above hash content s x) (s ∷ further) (rw (e, one_there level (i - 1) x lt) refl)
          (rw e refl)
          (above_right i x s (λ h. omega arith)) (sym node)

  -- a node leads to the root over the top of its level by its path
  climb_path : (leaves n i : ℕ) (level : List D) (x : D) → i < length level → x ≡ get_or level i x
      → length level ≤ n →
      root_from hash content leaves n (length level) i x (path_within hash content n i level)
      ≡ rooted_some hash content leaves (top_within hash content n level)
  unfolding rooted
  climb_path leaves zero i [] x within is enough = absurd (omega arith)
  climb_path leaves zero i (a ∷ rest) x within is enough = absurd (omega arith)
  climb_path leaves (suc n) i [] x within is enough = absurd (omega arith)
  climb_path leaves (suc n) zero (a ∷ []) x within is enough =
      root_home hash content leaves n 1 0 x
      (path_within hash content n 0 (above hash content a a ∷ [])) (omega arith)
      (home n (above hash content a a))
      ∙ ap (λ y. Some (hash (be32 leaves ++ content y))) is
  climb_path leaves (suc n) (suc i) (a ∷ []) x within is enough = absurd (omega arith)
  climb_path leaves (suc n) i (a ∷ (b ∷ rest)) x within is enough =
      let level : List D = a ∷ (b ∷ rest) in
      let long = length-paired level in
      climbs leaves n i level x
      (rooted_some hash content leaves (top_within hash content n (paired hash content level)))
      (omega arith) within is
      (λ y h. ap
      (λ w. root_from hash content leaves n w (i / 2) y
      (path_within hash content n (i / 2) (paired hash content level)))
      (sym long)
      ∙ climb_path leaves n (i / 2) (paired hash content level) y (omega arith) h (omega arith))

  leaf_at : (k : ℕ) (ds : List D) (i : ℕ) (d e : D) → i < length ds → d ≡ get_or ds i d
      → get_or (leaves_from hash content k ds) i e ≡ leaf hash content (k + i) d
  leaf_at k [] i d e within is = absurd (omega arith)
  leaf_at k (x ∷ ds) zero d e within is =
      let same : x ≡ d = sym is in
      let none : k ≡ k + 0 = omega arith in
      ap (leaf hash content k) same ∙ ap (λ m. leaf hash content m d) none
  leaf_at k (x ∷ ds) (suc i) d e within is =
      let more : k + 1 + i ≡ k + suc i = omega arith in
      leaf_at (k + 1) ds i d e (omega arith) is ∙ ap (λ m. leaf hash content m d) more

  pub length-leaves : (i : ℕ) (ds : List D) → length (leaves_from hash content i ds) ≡ length ds
  length-leaves i [] = refl
  length-leaves i (d ∷ ds) = ap suc (length-leaves (i + 1) ds)

  -- each digest leads to the root by the siblings of its proof
  pub root_by-path_of : (ds : List D) (i : ℕ) (d : D) → i < length ds → d ≡ get_or ds i d →
      root_by hash content (length ds) (path_of hash content i ds) i d ≡ root_of hash content ds
  unfolding path_of root_of
  root_by-path_of ds i d within is =
      let leaves : List D = leaves_from hash content 0 ds in
      let long : length leaves ≡ length ds = length-leaves 0 ds in
      let none : 0 + i ≡ i = omega arith in
      let at : leaf hash content i d ≡ get_or leaves i (leaf hash content i d) =
      sym
      (leaf_at 0 ds i d (leaf hash content i d) within is
      ∙ ap (λ m. leaf hash content m d) none) in
      let climbed =
      climb_path (length ds) (length ds) i leaves (leaf hash content i d) (omega arith) at
      (omega arith) in
      root_by-from hash content (length ds) (path_within hash content (length ds) i leaves) i d
      within
      ∙ (rw long at climbed)

  short_path : (n h i : ℕ) (level : List D) → i < length level → length level ≤ 2 ^ h
      → length (path_within hash content n i level) ≤ h
  short_path zero h i level within enough = omega arith
  short_path (suc n) h i [] within enough = absurd (omega arith)
  short_path (suc n) h zero (a ∷ []) within enough =
      rw (home n (above hash content a a)) (omega arith)
  short_path (suc n) h (suc i) (a ∷ []) within enough = absurd (omega arith)
  short_path (suc n) zero i (a ∷ (b ∷ rest)) within enough = absurd (omega arith)
  short_path (suc n) (suc h) i (a ∷ (b ∷ rest)) within enough =
      let level : List D = a ∷ (b ∷ rest) in
      let long = length-paired level in
      let power = pow-suc 2 h in
      let more = short_path n h (i / 2) (paired hash content level) (omega arith) (omega arith) in
      omega (
        arith,
        length-append (beside i level)
            (path_within hash content n (i / 2) (paired hash content level)),
        one_beside i level,
      )
    where
      one_beside : (i : ℕ) (level : List D) → length (beside i level) ≤ 1
      one_beside i level = go (eqb (i % 2) 0)
        where
          go : (t : Bool)
              → length (cond t (take 1 (drop (i + 1) level)) (take 1 (drop (i - 1) level))) ≤ 1
          go true = omega (arith, length-take 1 (drop (i + 1) level))
          go false = omega (arith, length-take 1 (drop (i - 1) level))

  -- a proof holds at most one sibling for each level above the leaves
  pub path_of-le : (ds : List D) (i h : ℕ) → i < length ds → IsHeight (length ds) h
      → length (path_of hash content i ds) ≤ h
  unfolding path_of
  path_of-le ds i h within height =
      let long = length-leaves 0 ds in
      short_path (length ds) h i (leaves_from hash content 0 ds) (omega arith)
      (omega (arith, height.enough))
