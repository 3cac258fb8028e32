-- The way up from a leaf, level by level: the texts that are hashed, and the root.
use Rattle.std.proofs.Common.{◌≡◌, ℕ, suc, zero, ◌+◌, ◌/◌, ◌%◌, ◌<◌, ◌≤◌, ◌++◌, Bool, true, false, cond, nat_lt, List, [], ◌∷◌, length, Option, Some, None, refl, sym, ap, ◌∙◌, arith}
use Rattle.std.specs.Prelude.{option_map, option_and_then}
use Rattle.std.proofs.lemmas.Bool.{lt-ltb, le-ltb, lt-leb, le-leb, ne_eqb}
use Rattle.std.proofs.lemmas.Option.{none-some, same_Some}
use Rattle.cw_base.specs.Bytes.{be32}
use Rattle.cw_tree.specs.Tree.{leaf, rooted, last_digest, partner_of, pair_bytes, way_from, way_by, root_by}

module _ {D : Type 0} (hash : List ℕ → D) (content : D → List ℕ) where
  -- the digest of the last text on the way up from a node
  abbrev pub root_from : (leaves n width i : ℕ) → D → List D → Option D
  root_from leaves n width i x siblings =
      option_map (last_digest hash x) (way_from hash content leaves n width i x siblings)

  -- at the top, where no sibling is left
  pub way_home : (leaves n width i : ℕ) (x : D) (siblings : List D) → width ≤ 1 → siblings ≡ [] →
      way_from hash content leaves (suc n) width i x siblings
      ≡ Some ((be32 leaves ++ content x) ∷ [])
  way_home leaves n width i x siblings low none = rw (le-leb width 1 low, none) refl

  -- at the top, where some are left
  pub way_over : (leaves n width i : ℕ) (x : D) (siblings : List D) → width ≤ 1
      → 0 < length siblings →
      way_from hash content leaves (suc n) width i x siblings ≡ None
  way_over leaves n width i x siblings low some =
      rw (le-leb width 1 low, ne_eqb (length siblings) 0 (λ h. omega arith)) refl

  -- one level up
  pub way_up : (leaves n width i : ℕ) (x : D) (siblings : List D) (y : D) (left : List D)
      → 1 < width → partner_of width i x siblings ≡ Some (y, left) →
      way_from hash content leaves (suc n) width i x siblings
      ≡ option_map (λ texts. pair_bytes content i x y ∷ texts)
      (way_from hash content leaves n ((width + 1) / 2) (i / 2)
      (hash (pair_bytes content i x y)) left)
  way_up leaves n width i x siblings y left wide is =
      rw (lt-leb width 1 wide, is)
      (go
      (way_from hash content leaves n ((width + 1) / 2) (i / 2)
      (hash (pair_bytes content i x y)) left))
    where
      go : (o : Option (List (List ℕ)))
          → option_and_then (λ texts. Some (pair_bytes content i x y ∷ texts)) o
          ≡ option_map (λ texts. pair_bytes content i x y ∷ texts) o
      go None = refl
      go (Some texts) = refl

  -- where a sibling is missing
  pub way_missing : (leaves n width i : ℕ) (x : D) (siblings : List D) → 1 < width
      → partner_of width i x siblings ≡ None →
      way_from hash content leaves (suc n) width i x siblings ≡ None
  way_missing leaves n width i x siblings wide is = rw (lt-leb width 1 wide, is) refl

  pub root_home : (leaves n width i : ℕ) (x : D) (siblings : List D) → width ≤ 1 → siblings ≡ [] →
      root_from leaves (suc n) width i x siblings ≡ Some (hash (be32 leaves ++ content x))
  root_home leaves n width i x siblings low none =
      ap (option_map (last_digest hash x)) (way_home leaves n width i x siblings low none)

  -- a text before others has no part in the digest of the last
  behind : (x : D) (text : List ℕ) (way : Option (List (List ℕ))) →
      option_map (last_digest hash x) (option_map (λ texts. text ∷ texts) way)
      ≡ option_map (last_digest hash (hash text)) way
  behind x text None = refl
  behind x text (Some texts) = refl

  pub root_up : (leaves n width i : ℕ) (x : D) (siblings : List D) (y : D) (left : List D)
      → 1 < width → partner_of width i x siblings ≡ Some (y, left) →
      root_from leaves (suc n) width i x siblings
      ≡ root_from leaves n ((width + 1) / 2) (i / 2) (hash (pair_bytes content i x y)) left
  root_up leaves n width i x siblings y left wide is =
      ap (option_map (last_digest hash x)) (way_up leaves n width i x siblings y left wide is)
      ∙ behind x (pair_bytes content i x y)
      (way_from hash content leaves n ((width + 1) / 2) (i / 2)
      (hash (pair_bytes content i x y)) left)

  -- the root that a digest leads to is the one that its leaf leads to
  pub root_by-from : (count : ℕ) (siblings : List D) (i : ℕ) (digest : D) → i < count →
      root_by hash content count siblings i digest
      ≡ root_from count count count i (leaf hash content i digest) siblings
  unfolding root_by way_by leaf
  root_by-from count siblings i digest within =
      rw (lt-ltb i count within)
      (behind digest (be32 i ++ content digest)
      (way_from hash content count count count i (hash (be32 i ++ content digest))
      siblings))

  pub root_by-none : (count : ℕ) (siblings : List D) (i : ℕ) (digest : D) → count ≤ i
      → root_by hash content count siblings i digest ≡ None
  unfolding root_by way_by
  root_by-none count siblings i digest above = rw (le-ltb i count above) refl

  -- the root over a top is the digest of the last text
  pub root_over_top : (count : ℕ) (top : D)
      → rooted hash content count top ≡ hash (be32 count ++ content top)
  unfolding rooted
  root_over_top count top = refl

  -- how far a loop has come on a way up whose texts give whole: f makes it of those that are left
  pub record OnWay {R : Type 0} (leaves width i : ℕ) (x : D) (siblings : List D)
      (f : List (List ℕ) → R) (whole : Option R) : Type 0 where
    pub fuel : ℕ
    pub enough : width ≤ fuel
    pub some : 1 ≤ width
    pub same : option_map f (way_from hash content leaves fuel width i x siblings) ≡ whole

  module _ {R : Type 0} (leaves width i : ℕ) (x : D) (siblings : List D) (f : List (List ℕ) → R)
      (whole : Option R) where
    -- a level higher
    pub goes_up : (y z : D) (left : List D) (g : List (List ℕ) → R) → 1 < width
        → partner_of width i x siblings ≡ Some (y, left) →
        z ≡ hash (pair_bytes content i x y)
        → ((texts : List (List ℕ)) → f (pair_bytes content i x y ∷ texts) ≡ g texts) →
        OnWay leaves width i x siblings f whole
        → OnWay leaves (width / 2 + width % 2) (i / 2) z left g whole
    goes_up y z left g wide is digest more l = go l.fuel l.enough l.same
      where
        put : (way : Option (List (List ℕ)))
            → option_map f (option_map (λ texts. pair_bytes content i x y ∷ texts) way)
            ≡ option_map g way
        put None = refl
        put (Some texts) = ap Some (more texts)

        go : (n : ℕ) → width ≤ n
            → option_map f (way_from hash content leaves n width i x siblings) ≡ whole
            → OnWay leaves (width / 2 + width % 2) (i / 2) z left g whole
        go zero e same = absurd (omega arith)
        go (suc n) e same =
            let half : width / 2 + width % 2 ≡ (width + 1) / 2 = omega arith in
            let above : option_map g
            (way_from hash content leaves n ((width + 1) / 2) (i / 2)
            (hash (pair_bytes content i x y)) left)
            ≡ whole =
            sym
            (ap (option_map f) (way_up leaves n width i x siblings y left wide is)
            ∙ put
            (way_from hash content leaves n ((width + 1) / 2) (i / 2)
            (hash (pair_bytes content i x y)) left))
            ∙ same in
            record {
              fuel = n;
              enough = omega arith;
              some = omega arith;
              same = rw (half, digest) above;
            }

    stops : (o : Option (List (List ℕ)))
        → ((n : ℕ) → way_from hash content leaves (suc n) width i x siblings ≡ o) →
        OnWay leaves width i x siblings f whole → option_map f o ≡ whole
    stops o is l = go l.fuel l.enough l.same
      where
        go : (n : ℕ) → width ≤ n
            → option_map f (way_from hash content leaves n width i x siblings) ≡ whole
            → option_map f o ≡ whole
        go zero e same = absurd (let s = l.some in omega arith)
        go (suc n) e same = ap (option_map f) (sym (is n)) ∙ same

    -- a sibling is missing
    pub goes_off : 1 < width → partner_of width i x siblings ≡ None
        → OnWay leaves width i x siblings f whole → None ≡ whole
    goes_off wide is l = stops None (λ n. way_missing leaves n width i x siblings wide is) l

    -- at the top with no sibling left
    pub goes_home : width ≤ 1 → siblings ≡ [] → OnWay leaves width i x siblings f whole
        → Some (f ((be32 leaves ++ content x) ∷ [])) ≡ whole
    goes_home low none l =
        stops (Some ((be32 leaves ++ content x) ∷ []))
        (λ n. way_home leaves n width i x siblings low none) l

    -- at the top with some left
    pub goes_over : width ≤ 1 → 0 < length siblings → OnWay leaves width i x siblings f whole
        → None ≡ whole
    goes_over low some l = stops None (λ n. way_over leaves n width i x siblings low some) l

  -- one level of a way that is there
  pub record Rung (leaves n width i : ℕ) (x : D) (siblings : List D)
      (texts : List (List ℕ)) : Type 0 where
    pub partner : D
    pub left : List D
    pub others : List (List ℕ)
    pub above : way_from hash content leaves n ((width + 1) / 2) (i / 2)
        (hash (pair_bytes content i x partner)) left
        ≡ Some others
    pub whole : texts ≡ pair_bytes content i x partner ∷ others

  pub way_more : (leaves n width i : ℕ) (x : D) (siblings : List D) (texts : List (List ℕ))
      → 1 < width →
      way_from hash content leaves (suc n) width i x siblings ≡ Some texts
      → Rung leaves n width i x siblings texts
  way_more leaves n width i x siblings texts wide is = first (partner_of width i x siblings) refl
    where
      rest : (y : D) (left : List D) (way : Option (List (List ℕ))) →
          way_from hash content leaves n ((width + 1) / 2) (i / 2) (hash (pair_bytes content i x y))
          left
          ≡ way
          →
          option_map (λ more. pair_bytes content i x y ∷ more) way ≡ Some texts
          → Rung leaves n width i x siblings texts
      rest y left None above h = absurd (none-some texts h)
      rest y left (Some others) above h =
          record {
            partner = y;
            left = left;
            others = others;
            above = above;
            whole = sym (same_Some (pair_bytes content i x y ∷ others) texts h);
          }

      first : (o : Option (D × List D)) → partner_of width i x siblings ≡ o
          → Rung leaves n width i x siblings texts
      first None e =
          absurd (none-some texts (sym (way_missing leaves n width i x siblings wide e) ∙ is))
      first (Some p) e =
          rest p.0 p.1
          (way_from hash content leaves n ((width + 1) / 2) (i / 2)
          (hash (pair_bytes content i x p.0)) p.1)
          refl
          (sym (way_up leaves n width i x siblings p.0 p.1 wide e) ∙ is)

  -- the text at the top of a way that is there
  pub way_top : (leaves n width i : ℕ) (x : D) (siblings : List D) (texts : List (List ℕ))
      → width ≤ 1 →
      way_from hash content leaves (suc n) width i x siblings ≡ Some texts
      → texts ≡ (be32 leaves ++ content x) ∷ []
  way_top leaves n width i x [] texts low is =
      same_Some texts ((be32 leaves ++ content x) ∷ [])
      (sym is ∙ way_home leaves n width i x [] low refl)
  way_top leaves n width i x (s ∷ siblings) texts low is =
      absurd
      (none-some texts
      (sym (way_over leaves n width i x (s ∷ siblings) low (omega arith)) ∙ is))

  -- the texts behind that of the leaf
  pub way_behind : (count : ℕ) (siblings : List D) (i : ℕ) (digest : D) (texts : List (List ℕ))
      → way_by hash content count siblings i digest ≡ Some texts →
      (above : List (List ℕ))
      × (way_from hash content count count count i (hash (be32 i ++ content digest)) siblings
      ≡ Some above)
      × (texts ≡ (be32 i ++ content digest) ∷ above)
  unfolding way_by leaf
  way_behind count siblings i digest texts is =
      go (nat_lt i count)
      (way_from hash content count count count i (hash (be32 i ++ content digest)) siblings)
      refl is
    where
      go : (b : Bool) (way : Option (List (List ℕ)))
          → way_from hash content count count count i (hash (be32 i ++ content digest)) siblings
          ≡ way
          →
          cond b (option_map (λ above. (be32 i ++ content digest) ∷ above) way) None ≡ Some texts →
          (above : List (List ℕ))
          × (way_from hash content count count count i (hash (be32 i ++ content digest))
          siblings
          ≡ Some above)
          × (texts ≡ (be32 i ++ content digest) ∷ above)
      go true (Some above) e h =
          (above, e, sym (same_Some ((be32 i ++ content digest) ∷ above) texts h))
      go true None e h = absurd (none-some texts h)
      go false way e h = absurd (none-some texts h)

  -- a digest that leads to a root has a way, whose last text's digest it is
  pub way_to_root : (count : ℕ) (siblings : List D) (i : ℕ) (digest root : D)
      → root_by hash content count siblings i digest ≡ Some root →
      (texts : List (List ℕ)) × (way_by hash content count siblings i digest ≡ Some texts)
      × (last_digest hash digest texts ≡ root)
  unfolding root_by
  way_to_root count siblings i digest root is =
      go (way_by hash content count siblings i digest) refl is
    where
      go : (way : Option (List (List ℕ))) → way_by hash content count siblings i digest ≡ way
          → option_map (last_digest hash digest) way ≡ Some root →
          (texts : List (List ℕ)) × (way_by hash content count siblings i digest ≡ Some texts)
          × (last_digest hash digest texts ≡ root)
      go (Some texts) e h = (texts, e, same_Some (last_digest hash digest texts) root h)
      go None e h = absurd (none-some root h)
