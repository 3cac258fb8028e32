-- What is hashed from two chunks under one root.
use Rattle.std.proofs.Common.{◌≡◌, ◌≢◌, ℕ, suc, zero, ◌+◌, ◌/◌, ◌%◌, ◌<◌, ◌≤◌, Bool, true, false, cond, eqb, List, [], ◌∷◌, ◌++◌, length, drop, take, get_or, slice_get, Option, Some, None, refl, sym, ap, subst, ◌∙◌, arith, inl, inr}
use Rattle.std.specs.Prelude.{option_map, IsSome}
use Rattle.std.proofs.lemmas.Bool.{cases_lt}
use Rattle.std.proofs.lemmas.List.{length-append, append_cancel_left, take_at, drop_at}
use Rattle.std.proofs.lemmas.Option.{none-some, same_Some, slice_get_read, slice_get_within, get_or_from_slice_get}
use Rattle.cw_base.specs.Bytes.{be32}
use Rattle.cw_tree.specs.Chunks.{Piece}
use Rattle.cw_tree.specs.Tree.{last_digest, pair_bytes, way_from, way_by}
use Rattle.cw_tree.proofs.WayLaws.{way_more, way_top, way_behind, way_to_root}
use Rattle.cw_coding.specs.Clash.{way_of, Leads, IsFirstClash, AreTold, AreRivals}

-- ---- one digest at the end, and different texts at the start

same_front : (a b c d : List ℕ) → length a ≡ length c → a ++ b ≡ c ++ d → a ≡ c
same_front a b c d l h =
    sym (take_at a b (length c) l) ∙ ap (take (length c)) h ∙ take_at c d (length c) refl

same_back : (a b c d : List ℕ) → length b ≡ length d → a ++ b ≡ c ++ d → b ≡ d
same_back a b c d l h =
    let front : length a ≡ length c =
    omega (arith, length-append a b, length-append c d, ap length h) in
    sym (drop_at a b (length c) front) ∙ ap (drop (length c)) h ∙ drop_at c d (length c) refl

-- a hash function whose digests have one size, and are told by their bytes
pub record TellsDigests {D : Type 0} (hash : List ℕ → D) (content : D → List ℕ) : Type 0 where
  pub size : ℕ
  pub sized : (bytes : List ℕ) → length (content (hash bytes)) ≡ size
  pub told : (a b : D) → content a ≡ content b → a ≡ b

-- the digests x and y, the texts that are hashed on from there, each of which tells the digest
-- before, and one digest at the end
abbrev Chained : {D : Type 0} → (List ℕ → D) → D → D → List (List ℕ) → List (List ℕ) → Type 0
Chained hash x y [] [] = x ≡ y
Chained hash x y (a ∷ xs) (b ∷ ys) = (a ≡ b → x ≡ y) × Chained hash (hash a) (hash b) xs ys
Chained hash x y _ _ = ⊥

-- where texts of one digest are one text all the way, the digests before them are one
told_back : {D : Type 0} (hash : List ℕ → D) (x y : D) (ours theirs : List (List ℕ))
    → Chained hash x y ours theirs →
    ((p : ℕ) (a b : List ℕ) → slice_get ours p ≡ Some a → slice_get theirs p ≡ Some b
    → hash a ≡ hash b → a ≡ b)
    → x ≡ y
told_back hash x y [] [] ch tell = ch
told_back hash x y [] (b ∷ ys) ch tell = absurd ch
told_back hash x y (a ∷ xs) [] ch tell = absurd ch
told_back hash x y (a ∷ xs) (b ∷ ys) ch tell =
    ch.0 (tell 0 a b refl refl (told_back hash (hash a) (hash b) xs ys ch.1 (λ p. tell (suc p))))

-- the bytes of a pair tell the node
pair_tells : {D : Type 0} (content : D → List ℕ) (i : ℕ) (x y p q : D)
    → length (content x) ≡ length (content y) →
    pair_bytes content i x p ≡ pair_bytes content i y q → content x ≡ content y
pair_tells content i x y p q l h = go (eqb (i % 2) 0) h
  where
    go : (e : Bool)
        → cond e (content x ++ content p) (content p ++ content x)
        ≡ cond e (content y ++ content q) (content q ++ content y)
        → content x ≡ content y
    go true h = same_front (content x) (content p) (content y) (content q) l h
    go false h = same_back (content p) (content x) (content q) (content y) l h

-- texts that are chained are as many
chained_long : {D : Type 0} (hash : List ℕ → D) (x y : D) (ours theirs : List (List ℕ))
    → Chained hash x y ours theirs → length ours ≡ length theirs
chained_long hash x y [] [] ch = refl
chained_long hash x y [] (b ∷ ys) ch = absurd ch
chained_long hash x y (a ∷ xs) [] ch = absurd ch
chained_long hash x y (a ∷ xs) (b ∷ ys) ch = ap suc (chained_long hash (hash a) (hash b) xs ys ch.1)

module _ {D : Type 0} (hash : List ℕ → D) (content : D → List ℕ)
    (laws : TellsDigests hash content) where
  -- the ways up from two nodes of one place to one root
  chained_from : (leaves n width i : ℕ) (x y : D) (s r : List D) (ours theirs : List (List ℕ))
      → length (content x) ≡ length (content y) →
      way_from hash content leaves n width i x s ≡ Some ours
      → way_from hash content leaves n width i y r ≡ Some theirs →
      last_digest hash x ours ≡ last_digest hash y theirs → Chained hash x y ours theirs
  chained_from leaves zero width i x y s r ours theirs long a b end = absurd (none-some ours a)
  chained_from leaves (suc n) width i x y s r ours theirs long a b end =
      elim (cases_lt 1 width) [
        | inl wide ↦
            let one = way_more hash content leaves n width i x s ours wide a in
            let other = way_more hash content leaves n width i y r theirs wide b in
            let t : List ℕ = pair_bytes content i x one.partner in
            let u : List ℕ = pair_bytes content i y other.partner in
            let on : last_digest hash (hash t) one.others ≡ last_digest hash (hash u) other.others =
            ap (last_digest hash x) (sym one.whole) ∙ end ∙ ap (last_digest hash y) other.whole in
            let chain =
            chained_from leaves n ((width + 1) / 2) (i / 2) (hash t) (hash u) one.left
            other.left one.others other.others
            (laws.sized t ∙ sym (laws.sized u)) one.above other.above on in
            rw (one.whole, other.whole) (
              λ h. laws.told x y (pair_tells content i x y one.partner other.partner long h),
              chain,
            )
        | inr low ↦
            let one = way_top hash content leaves n width i x s ours low a in
            let other = way_top hash content leaves n width i y r theirs low b in
            let on : hash (be32 leaves ++ content x) ≡ hash (be32 leaves ++ content y) =
            ap (last_digest hash x) (sym one) ∙ end ∙ ap (last_digest hash y) other in
            rw (one, other) (
              λ h. laws.told x y (append_cancel_left (be32 leaves) (content x) (content y) h),
              on,
            )
      ]

  -- the ways from two digests of one place to one root
  chained_by : (count i : ℕ) (d e : D) (s r : List D) (ours theirs : List (List ℕ)) →
      way_by hash content count s i d ≡ Some ours → way_by hash content count r i e ≡ Some theirs →
      last_digest hash d ours ≡ last_digest hash e theirs → Chained hash d e ours theirs
  chained_by count i d e s r ours theirs a b end =
      let one = way_behind hash content count s i d ours a in
      let other = way_behind hash content count r i e theirs b in
      let t : List ℕ = be32 i ++ content d in
      let u : List ℕ = be32 i ++ content e in
      let on : last_digest hash (hash t) one.0 ≡ last_digest hash (hash u) other.0 =
      ap (last_digest hash d) (sym one.2) ∙ end ∙ ap (last_digest hash e) other.2 in
      let chain =
      chained_from count count count i (hash t) (hash u) s r one.0 other.0
      (laws.sized t ∙ sym (laws.sized u)) one.1 other.1 on in
      rw (one.2, other.2)
      (λ h. laws.told d e (append_cancel_left (be32 i) (content d) (content e) h), chain)

  -- what is hashed from rivals
  record AreChained (p q : Piece D) (ours theirs : List (List ℕ)) : Type 0 where
    above : List (List ℕ)
    others : List (List ℕ)
    our_texts : ours ≡ p.shard ∷ above
    their_texts : theirs ≡ q.shard ∷ others
    chained : Chained hash (hash p.shard) (hash q.shard) above others

  rivals_chained : (p q : Piece D) → AreRivals hash content p q → (ours theirs : List (List ℕ)) →
      way_of hash content p ≡ Some ours → way_of hash content q ≡ Some theirs
      → AreChained p q ours theirs
  unfolding way_of
  rivals_chained p q rivals ours theirs a b =
      let one =
      way_to_root hash content p.leaf_count p.siblings p.index (hash p.shard) rivals.root
      rivals.ours in
      let other =
      way_to_root hash content q.leaf_count q.siblings q.index (hash q.shard) rivals.root
      rivals.theirs in
      let moved : way_by hash content p.leaf_count q.siblings p.index (hash q.shard)
      ≡ Some other.0 =
      ap (λ (m : ℕ). way_by hash content m q.siblings p.index (hash q.shard)) rivals.leaves
      ∙ ap (λ (j : ℕ). way_by hash content q.leaf_count q.siblings j (hash q.shard)) rivals.index
      ∙ other.1 in
      record {
        above = one.0;
        others = other.0;
        our_texts =
            same_Some ours (p.shard ∷ one.0)
            (sym a ∙ ap (option_map (λ texts. p.shard ∷ texts)) one.1);
        their_texts =
            same_Some theirs (q.shard ∷ other.0)
            (sym b ∙ ap (option_map (λ texts. q.shard ∷ texts)) other.1);
        chained =
            chained_by p.leaf_count p.index (hash p.shard) (hash q.shard) p.siblings q.siblings
            one.0 other.0 one.1 moved (one.2 ∙ sym other.2);
      }

  pub rivals_long : (p q : Piece D) → AreRivals hash content p q → (ours theirs : List (List ℕ)) →
      way_of hash content p ≡ Some ours → way_of hash content q ≡ Some theirs
      → length ours ≡ length theirs
  rivals_long p q rivals ours theirs a b =
      let r = rivals_chained p q rivals ours theirs a b in
      ap length r.our_texts
      ∙ ap suc (chained_long hash (hash p.shard) (hash q.shard) r.above r.others r.chained)
      ∙ ap length (sym r.their_texts)

  -- among what is hashed from rivals there is a text that doesn't tell itself from another by its
  -- digest
  pub rivals_meet : (p q : Piece D) → AreRivals hash content p q → (ours theirs : List (List ℕ)) →
      way_of hash content p ≡ Some ours → way_of hash content q ≡ Some theirs → (n : ℕ)
      → length ours ≤ n → AreTold hash n ours theirs → ⊥
  rivals_meet p q rivals ours theirs a b n few told =
      rivals.shards (tell 0 p.shard q.shard refl refl digests)
    where
      r : AreChained p q ours theirs
      r = rivals_chained p q rivals ours theirs a b

      tell : (k : ℕ) (one other : List ℕ) → slice_get (p.shard ∷ r.above) k ≡ Some one
          → slice_get (q.shard ∷ r.others) k ≡ Some other → hash one ≡ hash other → one ≡ other
      tell k one other here there =
          let ga : slice_get ours k ≡ Some one =
          ap (λ (ts : List (List ℕ)). slice_get ts k) r.our_texts ∙ here in
          let gb : slice_get theirs k ≡ Some other =
          ap (λ (ts : List (List ℕ)). slice_get ts k) r.their_texts ∙ there in
          let l = slice_get_within ours k one ga in
          told k one other (omega arith) ga gb

      digests : hash p.shard ≡ hash q.shard
      digests =
          told_back hash (hash p.shard) (hash q.shard) r.above r.others r.chained
          (λ k. tell (suc k))

-- a chunk that leads to a root has a way
pub leads_on : {D : Type 0} (hash : List ℕ → D) (content : D → List ℕ) (p : Piece D) (root : D)
    → Leads hash content p root → IsSome (way_of hash content p)
unfolding way_of
leads_on hash content p root leads =
    let way = way_to_root hash content p.leaf_count p.siblings p.index (hash p.shard) root leads in
    rw way.1 refl

-- a way isn't both there and not
pub way_there : (way : Option (List (List ℕ))) → way ≡ None → IsSome way → ⊥
way_there None e h = cc
way_there (Some texts) e h = none-some texts (sym e)

-- the way of a chunk, by the texts behind its shard
pub way_is : {D : Type 0} (hash : List ℕ → D) (content : D → List ℕ) (p : Piece D) (count index : ℕ)
    (siblings : List D) (digest : D) (shard : List ℕ) (texts : Option (List (List ℕ)))
    →
    count ≡ p.leaf_count → index ≡ p.index → siblings ≡ p.siblings → shard ≡ p.shard
    → digest ≡ hash shard →
    texts ≡ way_by hash content count siblings index digest
    → way_of hash content p ≡ option_map (λ above. shard ∷ above) texts
unfolding way_of
way_is hash content p count index siblings digest shard texts n i left s d is =
    rw (is, d, n, i, left, s) refl

-- two texts that were found side by side in what is hashed from two chunks are where it clashes
-- first
pub clash_there : {D : Type 0} (hash : List ℕ → D) (content : D → List ℕ)
    (s t ours theirs : List (List ℕ)) (p q : Piece D) (i : ℕ) (x y a b : List ℕ)
    →
    s ≡ ours → t ≡ theirs → way_of hash content p ≡ Some ours → way_of hash content q ≡ Some theirs
    → length ours ≡ length theirs → i < length s →
    x ≡ get_or ours i x → y ≡ get_or theirs i y → a ≡ x → b ≡ y →
    ((u v : List ℕ) → slice_get s i ≡ Some u → slice_get t i ≡ Some v → (u ≢ v) × (hash u ≡ hash v))
    → AreTold hash i s t →
    IsFirstClash hash content p q a b
clash_there hash content s t ours theirs p q i x y a b es et eo ew long within isx isy ea eb collide
    told =
    let l : i < length ours = omega (arith, ap length es) in
    let m : i < length theirs = omega (arith, ap length es, long) in
    let first : slice_get ours i ≡ Some x = slice_get_read ours (length ours) i x refl l isx in
    let second : slice_get theirs i ≡ Some y =
    slice_get_read theirs (length theirs) i y refl m isy in
    let meet =
    collide x y (ap (λ (xs : List (List ℕ)). slice_get xs i) es ∙ first)
    (ap (λ (xs : List (List ℕ)). slice_get xs i) et ∙ second) in
    record {
      ours = ours;
      theirs = theirs;
      our_way = eo;
      their_way = ew;
      lengths = long;
      place = i;
      ours_there = first ∙ ap Some (sym ea);
      theirs_there = second ∙ ap Some (sym eb);
      differ = λ h. meet.0 (sym ea ∙ h ∙ eb);
      one_digest = ap hash ea ∙ meet.1 ∙ ap hash (sym eb);
      before =
          subst (λ (xs : List (List ℕ)). AreTold hash i xs theirs) es
          (subst (λ (ys : List (List ℕ)). AreTold hash i s ys) et told);
    }

-- one more place at which texts of one digest are one text
pub told_more : {D : Type 0} (hash : List ℕ → D) (n : ℕ) (ours theirs : List (List ℕ))
    (x y : List ℕ)
    → x ≡ get_or ours n x → y ≡ get_or theirs n y → (hash x ≡ hash y → x ≡ y)
    → AreTold hash n ours theirs → AreTold hash (n + 1) ours theirs
told_more hash n ours theirs x y isx isy tell told p a b l ga gb same =
    elim (cases_lt p n) [
      | inl lt ↦ told p a b lt ga gb same
      | inr ge ↦
          let at : p ≡ n = omega arith in
          let one : x ≡ a =
          isx ∙ get_or_from_slice_get ours n a x
          (ap (λ (i : ℕ). slice_get ours i) (sym at) ∙ ga) in
          let other : y ≡ b =
          isy ∙ get_or_from_slice_get theirs n b y
          (ap (λ (i : ℕ). slice_get theirs i) (sym at) ∙ gb) in
          sym one ∙ tell (ap hash one ∙ same ∙ ap hash (sym other)) ∙ other
    ]

-- two different texts of one digest, where they stand
pub told_there : {D : Type 0} (hash : List ℕ → D) (n : ℕ) (ours theirs : List (List ℕ))
    (x y a b : List ℕ)
    → x ≡ get_or ours n x → y ≡ get_or theirs n y → (x ≢ y) × (hash x ≡ hash y)
    → slice_get ours n ≡ Some a → slice_get theirs n ≡ Some b → (a ≢ b) × (hash a ≡ hash b)
told_there hash n ours theirs x y a b isx isy meet ga gb =
    let one : x ≡ a = isx ∙ get_or_from_slice_get ours n a x ga in
    let other : y ≡ b = isy ∙ get_or_from_slice_get theirs n b y gb in
    (λ h. meet.0 (one ∙ h ∙ sym other), ap hash (sym one) ∙ meet.1 ∙ ap hash other)
