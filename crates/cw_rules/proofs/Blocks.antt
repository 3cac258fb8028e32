-- In a world without a clash a commitment has one block, and blocks lead down to genesis.
use Rattle.std.proofs.Common.{◌≡◌, ℕ, zero, suc, ◌+◌, ◌<◌, Bool, true, false, ◌&&◌, ◌==◌, nat_lt, cond, List, [], ◌∷◌, ◌++◌, Option, Some, None, IsTrue, slice_get, refl, sym, ◌∙◌, ap, subst, inl, inr, ◌⊎◌, arith, ne_eqb, length-append, option_and_then, option_map, length, map, flat_map}
use Rattle.std.specs.Option.{option_or, option_map_or}
use Rattle.std.proofs.lemmas.Bool.{cases_Bool, cond-true, cond-false}
use Rattle.cw_types.specs.declared.commitment.Commitment.{Commitment}
use Rattle.cw_types.specs.declared.note.Note.{Note}
use Rattle.cw_types.specs.Block.{Block}
use Rattle.cw_types.specs.Same.{same_commitment}
use Rattle.cw_rules.specs.Accepted.{first_some}
use Rattle.cw_rules.specs.Chains.{Follow, IsChain, all_notes, block_under, is_certified_in, link_commitment, links_to}
use Rattle.cw_rules.specs.Held.{greatest_prune, held, noted_block_of}
use Rattle.cw_rules.specs.Keeps.{AllKeep, Keeps, meaning}
use Rattle.cw_rules.specs.Reached.{In, IsKnown, members_of}
use Rattle.cw_rules.specs.Rules.{Rules, commit, digest, genesis, genesis_commitment}
use Rattle.cw_rules.specs.Stands.{EachAfter}
use Rattle.cw_rules.specs.Step.{Member, member_notes}
use Rattle.cw_rules.specs.World.{World}
use Rattle.cw_types.proofs.Same.{same_commitment-true, same_commitment_self}
use Rattle.cw_rules.proofs.Lists.{and_then_some, in_left, in_right, in_cases, get_front}

-- the notes of one member are among all
pub notes_in : (n : Note) (ms : List (Option Member)) (i : ℕ) (m : Member)
    → slice_get ms i ≡ Some (Some m) → In n (member_notes m)
    → In n (flat_map (λ o. option_map_or member_notes o []) ms)
notes_in n [] i m h a = cc
notes_in n (o ∷ ms) zero m h a =
    let e : o ≡ Some m = cc in
    subst
    (λ x. In n
    (option_map_or member_notes x [] ++ flat_map (λ o. option_map_or member_notes o []) ms))
    (sym e) (in_left n (member_notes m) (flat_map (λ o. option_map_or member_notes o []) ms) a)
notes_in n (o ∷ ms) (suc i) m h a =
    in_right n (option_map_or member_notes o [])
    (flat_map (λ o. option_map_or member_notes o []) ms) (notes_in n ms i m h a)

-- and each is of some member
pub record Noter (n : Note) (ms : List (Option Member)) : Type 0 where
  pub place : ℕ
  pub member : Member
  pub at : slice_get ms place ≡ Some (Some member)
  pub noted : In n (member_notes member)

pub noter : (n : Note) (ms : List (Option Member))
    → In n (flat_map (λ o. option_map_or member_notes o []) ms) → Noter n ms
noter n [] h = absurd h
noter n (None ∷ ms) h =
    let s = noter n ms h in
    record { place = suc s.place; member = s.member; at = s.at; noted = s.noted }
noter n (Some m ∷ ms) h =
    go (in_cases n (member_notes m) (flat_map (λ o. option_map_or member_notes o []) ms) h)
    (noter n ms)
  where
    go : In n (member_notes m) ⊎ In n (flat_map (λ o. option_map_or member_notes o []) ms)
        → (In n (flat_map (λ o. option_map_or member_notes o []) ms) → Noter n ms)
        → Noter n (Some m ∷ ms)
    go (inl a) later = record { place = 0; member = m; at = refl; noted = a }
    go (inr a) later =
        let s = later a in
        record { place = suc s.place; member = s.member; at = s.at; noted = s.noted }

-- what holds of each note holds of one that is there
each_in : (R : List Note → Note → Type 0) (before notes : List Note) (n : Note)
    → EachAfter R before notes → In n notes → (front : List Note) × R front n
each_in R before [] n e h = absurd h
each_in R before (x ∷ xs) n e (inl s) = (before, subst (R before) (sym s) e.0)
each_in R before (x ∷ xs) n e (inr h) = each_in R (before ++ x ∷ []) xs n e.1 h

-- ---- blocks under commitments

pub first_in : (c : Commitment) (notes : List Note) (b : Block)
    → first_some (noted_block_of c) notes ≡ Some b → In (Note.Block c b) notes
first_in c [] b h = cc
first_in c (Note.Block d x ∷ notes) b h = go (cases_Bool (same_commitment c d)) (first_in c notes b)
  where
    go : (same_commitment c d ≡ true) ⊎ (same_commitment c d ≡ false)
        → (first_some (noted_block_of c) notes ≡ Some b → In (Note.Block c b) notes)
        → In (Note.Block c b) (Note.Block d x ∷ notes)
    go (inl t) later =
        let e = same_commitment-true c d t in
        let f : Some x ≡ Some b =
        sym (ap (λ t. option_or (cond t (Some x) None) (first_some (noted_block_of c) notes)) t)
        ∙ h in
        let g : x ≡ b = cc in
        inl (λ i. Note.Block (e i) (sym g i))
    go (inr f) later =
        inr
        (later
        (sym
        (ap
        (λ t. option_or (cond t (Some x) None)
        (first_some (noted_block_of c) notes))
        f)
        ∙ h))
first_in c (_ ∷ notes) b h = inr (first_in c notes b h)

in_first : (c : Commitment) (b : Block) (notes : List Note) → In (Note.Block c b) notes
    → (x : Block) × (first_some (noted_block_of c) notes ≡ Some x)
in_first c b [] h = absurd h
in_first c b (n ∷ notes) (inl e) = (
  b,
  ap (λ k. option_or (noted_block_of c k) (first_some (noted_block_of c) notes)) (sym e)
      ∙ ap (λ t. option_or (cond t (Some b) None) (first_some (noted_block_of c) notes))
      (same_commitment_self c),
)
in_first c b (n ∷ notes) (inr h) = go (noted_block_of c n) refl (in_first c b notes h)
  where
    go : (o : Option Block) → noted_block_of c n ≡ o
        → ((x : Block) × (first_some (noted_block_of c) notes ≡ Some x))
        → (x : Block)
        × (option_or (noted_block_of c n) (first_some (noted_block_of c) notes) ≡ Some x)
    go None e later =
        (later.0, ap (λ o. option_or o (first_some (noted_block_of c) notes)) e ∙ later.1)
    go (Some y) e later = (y, ap (λ o. option_or o (first_some (noted_block_of c) notes)) e)

-- two known blocks of one digest are one
abbrev pub NoClash : Rules → World → Type 0
NoClash r w = (a b : Block) → IsKnown r w a → IsKnown r w b → digest r a ≡ digest r b → a ≡ b

module _ (r : Rules) (w : World) (keep : AllKeep r (members_of w)) (clear : NoClash r w) where
  get_member : (ms : List (Option Member)) (i : ℕ) (m : Member) → slice_get ms i ≡ Some (Some m)
      → slice_get (map (option_map member_notes) ms) i ≡ Some (Some (member_notes m))
  get_member [] i m h = cc
  get_member (o ∷ ms) zero m h =
      let e : o ≡ Some m = cc in ap (λ x. Some (option_map member_notes x)) e
  get_member (o ∷ ms) (suc i) m h = get_member ms i m h

  pub noted_commit : (c : Commitment) (b : Block) → In (Note.Block c b) (all_notes w)
      → commit r b ≡ c
  noted_commit c b h =
      let n = noter (Note.Block c b) w.members h in
      (each_in (Keeps r (meaning r.epochs (members_of w))) [] (member_notes n.member)
      (Note.Block c b)
      (keep n.place (member_notes n.member) (get_member w.members n.place n.member n.at))
      n.noted).1

  -- a noted block is the one under its commitment: under genesis's it is genesis
  pub under_noted : (c : Commitment) (b : Block) → In (Note.Block c b) (all_notes w)
      → block_under r w c ≡ Some b
  under_noted c b h = go (cases_Bool (same_commitment c (genesis_commitment r)))
    where
      named : digest r b ≡ c.block
      named = ap (λ (y : Commitment). y.block) (noted_commit c b h)

      go : (same_commitment c (genesis_commitment r) ≡ true)
          ⊎ (same_commitment c (genesis_commitment r) ≡ false)
          → block_under r w c ≡ Some b
      go (inl t) =
          let e = same_commitment-true c (genesis_commitment r) t in
          let same : genesis r ≡ b =
          clear (genesis r) b (inl refl) (inr (c, h))
          (sym (named ∙ ap (λ (y : Commitment). y.block) e)) in
          cond-true (same_commitment c (genesis_commitment r)) (Some (genesis r))
          (first_some (noted_block_of c) (all_notes w)) t
          ∙ ap Some same
      go (inr n) =
          let (x, f) = in_first c b (all_notes w) h in
          let g = first_in c (all_notes w) x f in
          let same : x ≡ b =
          clear x b (inr (c, g)) (inr (c, h))
          (ap (λ (y : Commitment). y.block) (noted_commit c x g) ∙ sym named) in
          cond-false (same_commitment c (genesis_commitment r)) (Some (genesis r))
          (first_some (noted_block_of c) (all_notes w)) n
          ∙ (f ∙ ap Some same)

  -- what a member held at some time is the one
  pub under_held : (i : ℕ) (m : Member) (before rest : List Note)
      → slice_get w.members i ≡ Some (Some m) → member_notes m ≡ before ++ rest
      → (c : Commitment) (b : Block) → held r before c ≡ Some b → block_under r w c ≡ Some b
  under_held i m before rest at joined c b h =
      go (cases_Bool (same_commitment c (genesis_commitment r)))
    where
      low : Block → Option Block
      low x = cond (nat_lt 0 x.height && nat_lt x.height (greatest_prune before)) None (Some x)

      by_low : (t : Bool) (x : Block) → first_some (noted_block_of c) before ≡ Some x
          → cond t None (Some x) ≡ Some b → first_some (noted_block_of c) before ≡ Some b
      by_low true x e h = cc
      by_low false x e h = e ∙ h

      go : (same_commitment c (genesis_commitment r) ≡ true)
          ⊎ (same_commitment c (genesis_commitment r) ≡ false)
          → block_under r w c ≡ Some b
      go (inl t) =
          cond-true (same_commitment c (genesis_commitment r)) (Some (genesis r))
          (first_some (noted_block_of c) (all_notes w)) t
          ∙ (sym
          (cond-true (same_commitment c (genesis_commitment r)) (Some (genesis r))
          (option_and_then low (first_some (noted_block_of c) before)) t)
          ∙ h)
      go (inr f) =
          let (x, e, g) =
          and_then_some low (first_some (noted_block_of c) before) b
          (sym
          (cond-false (same_commitment c (genesis_commitment r)) (Some (genesis r))
          (option_and_then low (first_some (noted_block_of c) before)) f)
          ∙ h) in
          let found = by_low (nat_lt 0 x.height && nat_lt x.height (greatest_prune before)) x e g in
          under_noted c b
          (notes_in (Note.Block c b) w.members i m at
          (subst (In (Note.Block c b)) (sym joined)
          (in_left (Note.Block c b) before rest (first_in c before b found))))

  -- a block under a commitment other than genesis's is committed to so
  pub under_commit : (c : Commitment) (b : Block) → block_under r w c ≡ Some b → 0 < b.height
      → commit r b ≡ c
  under_commit c b h pos = go (cases_Bool (same_commitment c (genesis_commitment r)))
    where
      go : (same_commitment c (genesis_commitment r) ≡ true)
          ⊎ (same_commitment c (genesis_commitment r) ≡ false)
          → commit r b ≡ c
      go (inl t) =
          let e : Some (genesis r) ≡ Some b =
          sym
          (cond-true (same_commitment c (genesis_commitment r)) (Some (genesis r))
          (first_some (noted_block_of c) (all_notes w)) t)
          ∙ h in
          let f : genesis r ≡ b = cc in
          let g = ap (λ (x : Block). x.height) f in
          absurd (omega arith)
      go (inr f) =
          noted_commit c b
          (first_in c (all_notes w) b
          (sym
          (cond-false (same_commitment c (genesis_commitment r)) (Some (genesis r))
          (first_some (noted_block_of c) (all_notes w)) f)
          ∙ h))

-- ---- down through blocks

-- b leads down to a in so many steps, by the parent commitments
abbrev pub DownTo : Rules → World → ℕ → Block → Block → Type 0
DownTo r w zero b a = b ≡ a
DownTo r w (suc k) b a =
    (x : Block) × (block_under r w b.context.parent ≡ Some x) × (b.height ≡ x.height + 1)
    × DownTo r w k x a

pub down_height : (r : Rules) (w : World) (k : ℕ) (b a : Block) → DownTo r w k b a
    → b.height ≡ a.height + k
down_height r w zero b a d = let e = ap (λ (x : Block). x.height) d in omega arith
down_height r w (suc k) b a (x, u, h, d) = omega (arith, down_height r w k x a d)

pub down_same : (r : Rules) (w : World) (k : ℕ) (b a c : Block) → DownTo r w k b a
    → DownTo r w k b c → a ≡ c
down_same r w zero b a c d e = sym d ∙ e
down_same r w (suc k) b a c (x, u, h, d) (y, v, g, e) =
    let s : y ≡ x = cc in down_same r w k x a c d (subst (λ z. DownTo r w k z c) s e)

pub down_split : (r : Rules) (w : World) (j k : ℕ) (b a : Block) → DownTo r w (j + k) b a
    → (m : Block) × DownTo r w j b m × DownTo r w k m a
down_split r w zero k b a d = (b, refl, subst (λ n. DownTo r w n b a) (omega arith) d)
down_split r w (suc j) k b a d =
    let (x, u, h, e) = subst (λ n. DownTo r w n b a) (suc_front j k) d in
    let (m, f, g) = down_split r w j k x a e in
    (m, (x, u, h, f), g)
  where
    suc_front : (j k : ℕ) → suc j + k ≡ suc (j + k)
    suc_front j k = omega arith

pub down_join : (r : Rules) (w : World) (j k : ℕ) (b m a : Block) → DownTo r w j b m
    → DownTo r w k m a → DownTo r w (j + k) b a
down_join r w zero k b m a d e =
    subst (λ n. DownTo r w n b a) (omega arith) (subst (λ x. DownTo r w k x a) (sym d) e)
down_join r w (suc j) k b m a (x, u, h, d) e =
    subst (λ n. DownTo r w n b a) (front j k) (x, u, h, down_join r w j k x m a d e)
  where
    front : (j k : ℕ) → suc (j + k) ≡ suc j + k
    front j k = omega arith

-- b is one link above x
pub record IsOver (r : Rules) (w : World) (b x : Block) : Type 0 where
  pub under : block_under r w b.context.parent ≡ Some x
  pub height : b.height ≡ x.height + 1
  pub named : b.context.parent ≡ link_commitment r x
  pub digests : b.parent ≡ digest r x
  pub certified : IsTrue (is_certified_in w (commit r b))

-- b stands on links down to genesis
abbrev pub IsRooted : Rules → World → ℕ → Block → Type 0
IsRooted r w zero b = b ≡ genesis r
IsRooted r w (suc k) b = (x : Block) × IsOver r w b x × IsRooted r w k x

pub rooted_height : (r : Rules) (w : World) (k : ℕ) (b : Block) → IsRooted r w k b → b.height ≡ k
rooted_height r w zero b e = ap (λ (x : Block). x.height) e
rooted_height r w (suc k) b (x, o, d) = omega (arith, o.height, rooted_height r w k x d)

-- what a rooted block leads down to is rooted
pub rooted_down : (r : Rules) (w : World) (k j : ℕ) (b a : Block) → IsRooted r w (j + k) b
    → DownTo r w j b a → IsRooted r w k a
rooted_down r w k zero b a h d =
    subst (IsRooted r w k) d (subst (λ n. IsRooted r w n b) (omega arith) h)
rooted_down r w k (suc j) b a h (x, u, g, d) =
    let (y, o, e) = subst (λ n. IsRooted r w n b) (front j k) h in
    let s : y ≡ x = cc (o.under) in
    rooted_down r w k j x a (subst (IsRooted r w (j + k)) s e) d
  where
    front : (j k : ℕ) → suc j + k ≡ suc (j + k)
    front j k = omega arith

-- ---- the chain up to a rooted block

-- the last block of a list that begins behind a
abbrev last_of : Block → List Block → Block
last_of a [] = a
last_of a (b ∷ bs) = last_of b bs

follow_push : (r : Rules) (w : World) (a : Block) (bs : List Block) (b : Block)
    → Follow r w (link_commitment r a) a bs → IsOver r w b (last_of a bs)
    → Follow r w (link_commitment r a) a (bs ++ b ∷ [])
follow_push r w a [] b f o = (o.height, o.named, o.digests, o.certified, tt)
follow_push r w a (x ∷ xs) b f o =
    let e : commit r x ≡ link_commitment r x =
    sym (cond-false (x.height == 0) (genesis_commitment r) (commit r x) (above x a f.0)) in (
      f.0,
      f.1,
      f.2,
      f.3,
      subst (λ c. Follow r w c x (xs ++ b ∷ [])) (sym e)
          (follow_push r w x xs b (subst (λ c. Follow r w c x xs) e f.4) o),
    )
  where
    above : (x a : Block) → x.height ≡ a.height + 1 → (x.height == 0) ≡ false
    above x a h = ne_eqb x.height 0 (λ z. omega arith)

last_push : (a : Block) (bs : List Block) (b : Block) → last_of a (bs ++ b ∷ []) ≡ b
last_push a [] b = refl
last_push a (x ∷ xs) b = last_push x xs b

-- the chain up to a rooted block: genesis and the links behind it
pub record Links (r : Rules) (w : World) (k : ℕ) (b : Block) : Type 0 where
  pub rest : List Block
  pub are : links_to r w k b ≡ genesis r ∷ rest
  pub follow : Follow r w (link_commitment r (genesis r)) (genesis r) rest
  pub last : last_of (genesis r) rest ≡ b
  pub long : length rest ≡ k

pub links_rooted : (r : Rules) (w : World) (k : ℕ) (b : Block) → IsRooted r w k b → Links r w k b
links_rooted r w zero b e =
    record { rest = []; are = ap (λ x. x ∷ []) e; follow = tt; last = sym e; long = refl }
links_rooted r w (suc k) b (x, o, d) =
    let l = links_rooted r w k x d in
    record {
      rest = l.rest ++ b ∷ [];
      are =
          ap (λ y. option_map_or (links_to r w k) y [] ++ b ∷ []) o.under
          ∙ ap (λ y. y ++ b ∷ []) l.are;
      follow = follow_push r w (genesis r) l.rest b l.follow (subst (IsOver r w b) (sym l.last) o);
      last = last_push (genesis r) l.rest b;
      long = length-append l.rest (b ∷ []) ∙ (ap (λ n. n + 1) l.long ∙ omega arith);
    }

pub chain_rooted : (r : Rules) (w : World) (k : ℕ) (b : Block) → IsRooted r w k b
    → IsChain r w (links_to r w k b)
chain_rooted r w k b h =
    let l = links_rooted r w k b h in subst (IsChain r w) (sym l.are) (refl, l.follow)

get_last : {X : Type 0} (xs : List X) (x : X) (i : ℕ) → length xs ≡ i
    → slice_get (xs ++ x ∷ []) i ≡ Some x
get_last [] x i h = subst (λ n. slice_get (x ∷ []) n ≡ Some x) h refl
get_last (z ∷ zs) x zero h = cc
get_last (z ∷ zs) x (suc i) h = get_last zs x i (omega arith)

-- what the rooted block leads down to stands in its place
pub links_down : (r : Rules) (w : World) (k j : ℕ) (b a : Block) → IsRooted r w (j + k) b
    → DownTo r w j b a → slice_get (links_to r w (j + k) b) k ≡ Some a
links_down r w k zero b a h d =
    subst (λ n. slice_get (links_to r w n b) k ≡ Some a) (omega arith)
    (subst (λ x. slice_get (links_to r w k b) k ≡ Some x) d
    (own r w k b (subst (λ n. IsRooted r w n b) (omega arith) h)))
  where
    own : (r : Rules) (w : World) (k : ℕ) (b : Block) → IsRooted r w k b
        → slice_get (links_to r w k b) k ≡ Some b
    own r w zero b e = refl
    own r w (suc k) b (x, o, d) =
        let l = links_rooted r w k x d in
        ap (λ y. slice_get (option_map_or (links_to r w k) y [] ++ b ∷ []) (suc k)) o.under
        ∙ get_last (links_to r w k x) b (suc k) (ap length l.are ∙ ap suc l.long)
links_down r w k (suc j) b a h (x, u, g, d) =
    let (y, o, e) = subst (λ n. IsRooted r w n b) (front j k) h in
    let s : y ≡ x = cc (o.under) in
    subst (λ n. slice_get (links_to r w n b) k ≡ Some a) (sym (front j k))
    (ap (λ z. slice_get (option_map_or (links_to r w (j + k)) z [] ++ b ∷ []) k) u
    ∙ get_front (links_to r w (j + k) x) (b ∷ []) k a
    (links_down r w k j x a (subst (IsRooted r w (j + k)) s e) d))
  where
    front : (j k : ℕ) → suc j + k ≡ suc (j + k)
    front j k = omega arith
