-- The tree, as it is built.
use Rattle.std.proofs.Common.{◌≡◌, ℕ, suc, zero, ◌+◌, ◌/◌, ◌<◌, ◌≤◌, List, [], ◌∷◌, ◌++◌, length, drop, get_or, Option, Some, refl, sym, ap, subst, ◌∙◌, arith, append_assoc}
use Rattle.std.proofs.lemmas.List.{drop_more, drop_all, append-nil}
use Rattle.cw_tree.specs.Tree.{AreLevels, leaf, rooted, leaves_from, paired, top_within, root_of, beside, path_within, path_of}
use Rattle.cw_tree.proofs.TreeRoots.{length-paired, length-leaves, home}

-- one more leaf
pub leaves_more : {D : Type 0} (hash : List ℕ → D) (content : D → List ℕ) (ds : List D) (i : ℕ)
    (d : D) (before after whole : List D)
    →
    i < length ds → d ≡ get_or ds i d → before ++ leaves_from hash content i (drop i ds) ≡ whole →
    after ≡ before ++ leaf hash content i d ∷ [] →
    after ++ leaves_from hash content (i + 1) (drop (i + 1) ds) ≡ whole
leaves_more hash content ds i d before after whole h is so more =
    let split : drop i ds ≡ d ∷ drop (i + 1) ds =
    drop_more ds i d h ∙ ap (λ x. x ∷ drop (i + 1) ds) (sym is) in
    let all : before ++ leaf hash content i d ∷ leaves_from hash content (i + 1) (drop (i + 1) ds)
    ≡ whole =
    rw split at so in
    rw (more, append_assoc) all

-- a level of several nodes leads to the top of the next
pub record LeadsTo {D : Type 0} (hash : List ℕ → D) (content : D → List ℕ) (level : List D)
    (top : Option D) : Type 0 where
  pub fuel : ℕ
  pub enough : length level ≤ fuel
  pub some : 0 < length level
  pub same : top_within hash content fuel level ≡ top

pub leads_up : {D : Type 0} (hash : List ℕ → D) (content : D → List ℕ) (level next : List D)
    (top : Option D)
    →
    1 < length level → next ≡ paired hash content level → LeadsTo hash content level top
    → LeadsTo hash content next top
leads_up {D = D} hash content level next top h is l = rw is (go l.fuel level h l.enough l.same)
  where
    go : (n : ℕ) (xs : List D) → 1 < length xs → length xs ≤ n → top_within hash content n xs ≡ top
        →
        LeadsTo hash content (paired hash content xs) top
    go n [] long enough same = absurd (omega arith)
    go n (a ∷ []) long enough same = absurd (omega arith)
    go zero (a ∷ (b ∷ rest)) long enough same = absurd (omega arith)
    go (suc n) (a ∷ (b ∷ rest)) long enough same =
        let e = length-paired hash content (a ∷ (b ∷ rest)) in
        record { fuel = n; enough = omega arith; some = omega arith; same = same }

-- the root over the top of the leaves
pub root_over : {D : Type 0} (hash : List ℕ → D) (content : D → List ℕ) (ds leaves : List D)
    (top root : D)
    →
    leaves ≡ leaves_from hash content 0 ds
    → top_within hash content (length leaves) leaves ≡ Some top →
    root ≡ rooted hash content (length ds) top → root_of hash content ds ≡ Some root
unfolding root_of
root_over hash content ds leaves top root l t r =
    let same : top_within hash content (length ds) (leaves_from hash content 0 ds) ≡ Some top =
    rw (l, length-leaves hash content 0 ds) at t in
    rw (same, r)

-- how far the nodes beside a way up have been taken
pub record PathTo {D : Type 0} (hash : List ℕ → D) (content : D → List ℕ) (taken : List D) (i : ℕ)
    (level path : List D) : Type 0 where
  pub fuel : ℕ
  pub enough : length level ≤ fuel
  pub within : i < length level
  pub same : taken ++ path_within hash content fuel i level ≡ path

pub path_up : {D : Type 0} (hash : List ℕ → D) (content : D → List ℕ) (before after : List D)
    (i : ℕ) (level next path : List D)
    →
    1 < length level → after ≡ before ++ beside i level → next ≡ paired hash content level →
    PathTo hash content before i level path → PathTo hash content after (i / 2) next path
path_up {D = D} hash content before after i level next path h a e p = go p.fuel p.enough p.same
  where
    long : length next ≡ (length level + 1) / 2
    long = ap length e ∙ length-paired hash content level

    go : (n : ℕ) → length level ≤ n → before ++ path_within hash content n i level ≡ path
        → PathTo hash content after (i / 2) next path
    go zero l s = absurd (omega arith)
    go (suc n) l s =
        let w = p.within in
        record {
          fuel = n;
          enough = omega (arith, long);
          within = omega (arith, long);
          same =
              rw (a, e)
              (append_assoc before (beside i level)
              (path_within hash content n (i / 2) (paired hash content level))
              ∙ s);
        }

pub path_done : {D : Type 0} (hash : List ℕ → D) (content : D → List ℕ) (taken : List D) (i : ℕ)
    (level path : List D)
    →
    length level ≤ 1 → PathTo hash content taken i level path → taken ≡ path
path_done {D = D} hash content taken i level path h p = go i level p.within h p.same
  where
    go : (i : ℕ) (level : List D) → i < length level → length level ≤ 1
        → taken ++ path_within hash content p.fuel i level ≡ path → taken ≡ path
    go i [] w l s = absurd (omega arith)
    go zero (x ∷ []) w l s =
        sym (append-nil taken) ∙ ap (λ xs. taken ++ xs) (sym (home hash content p.fuel x)) ∙ s
    go (suc i) (x ∷ []) w l s = absurd (omega arith)
    go i (x ∷ (y ∷ rest)) w l s = absurd (omega arith)

-- ---- the levels that are kept

-- more levels behind those that were kept
pub levels_more : {D : Type 0} (hash : List ℕ → D) (content : D → List ℕ)
    (leaves level next : List D) (kept after : List (List D))
    →
    1 < length level → next ≡ paired hash content level → after ≡ kept ++ level ∷ [] →
    ((ms : List (List D)) → AreLevels hash content level ms
    → AreLevels hash content leaves (kept ++ ms))
    →
    (ms : List (List D)) → AreLevels hash content next ms
    → AreLevels hash content leaves (after ++ ms)
levels_more {D = D} hash content leaves level next kept after long e more h ms are =
    let whole : after ++ ms ≡ kept ++ level ∷ ms =
    ap (λ xs. xs ++ ms) more ∙ append_assoc kept (level ∷ []) ms in
    let up : AreLevels hash content (paired hash content level) ms =
    subst (λ (xs : List D). AreLevels hash content xs ms) e are in
    subst (λ (xs : List (List D)). AreLevels hash content leaves xs) (sym whole)
    (h (level ∷ ms) (refl, long, up))

pub levels_done : {D : Type 0} (hash : List ℕ → D) (content : D → List ℕ) (leaves level : List D)
    (kept : List (List D))
    →
    length level ≤ 1
    → ((ms : List (List D)) → AreLevels hash content level ms
    → AreLevels hash content leaves (kept ++ ms))
    →
    AreLevels hash content leaves kept
levels_done {D = D} hash content leaves level kept short h =
    subst (λ (xs : List (List D)). AreLevels hash content leaves xs) (append-nil kept) (h [] short)

-- how far a way up has come, and the levels that are left
pub record UpTo {D : Type 0} (hash : List ℕ → D) (content : D → List ℕ) (taken : List D) (at : ℕ)
    (left : List (List D)) (path : List D) : Type 0 where
  pub level : List D
  pub levels : AreLevels hash content level left
  pub way : PathTo hash content taken at level path

pub up_within : {D : Type 0} (hash : List ℕ → D) (content : D → List ℕ) (taken : List D) (at : ℕ)
    (first : List D) (left : List (List D)) (path : List D)
    →
    UpTo hash content taken at (first ∷ left) path → at < length first
up_within hash content taken at first left path u = let w = u.way.within in rw (u.levels.0) w

pub up_more : {D : Type 0} (hash : List ℕ → D) (content : D → List ℕ) (before after : List D)
    (at : ℕ) (first : List D) (left : List (List D)) (path : List D)
    →
    after ≡ before ++ beside at first → UpTo hash content before at (first ∷ left) path
    → UpTo hash content after (at / 2) left path
up_more hash content before after at first left path e u =
    let same : after ≡ before ++ beside at u.level =
    e ∙ ap (λ xs. before ++ beside at xs) u.levels.0 in
    record {
      level = paired hash content u.level;
      levels = u.levels.2;
      way =
          path_up hash content before after at u.level (paired hash content u.level) path u.levels.1
          same refl u.way;
    }

pub up_done : {D : Type 0} (hash : List ℕ → D) (content : D → List ℕ) (taken : List D) (at : ℕ)
    (path : List D)
    → UpTo hash content taken at [] path → taken ≡ path
up_done hash content taken at path u = path_done hash content taken at u.level path u.levels u.way

pub up_start : {D : Type 0} (hash : List ℕ → D) (content : D → List ℕ) (i : ℕ) (ds : List D)
    (left : List (List D))
    →
    i < length ds → AreLevels hash content (leaves_from hash content 0 ds) left
    → UpTo hash content [] i left (path_of hash content i ds)
unfolding path_of
up_start hash content i ds left h are =
    let long = length-leaves hash content 0 ds in
    record {
      level = leaves_from hash content 0 ds;
      levels = are;
      way = record { fuel = length ds; enough = omega arith; within = omega arith; same = refl };
    }

-- the levels that are left, the next one first
pub next_left : {D : Type 0} (hash : List ℕ → D) (content : D → List ℕ) (taken : List D) (at i : ℕ)
    (levels : List (List D)) (first path : List D)
    →
    i < length levels → first ≡ get_or levels i first
    → UpTo hash content taken at (drop i levels) path
    → UpTo hash content taken at (first ∷ drop (i + 1) levels) path
next_left {D = D} hash content taken at i levels first path h is u =
    let split : drop i levels ≡ first ∷ drop (i + 1) levels =
    drop_more levels i first h ∙ ap (λ x. x ∷ drop (i + 1) levels) (sym is) in
    subst (λ (xs : List (List D)). UpTo hash content taken at xs path) split u

pub none_left : {D : Type 0} (hash : List ℕ → D) (content : D → List ℕ) (taken : List D) (at i : ℕ)
    (levels : List (List D)) (path : List D)
    →
    length levels ≤ i → UpTo hash content taken at (drop i levels) path → taken ≡ path
none_left {D = D} hash content taken at i levels path h u =
    up_done hash content taken at path
    (subst (λ (xs : List (List D)). UpTo hash content taken at xs path) (drop_all i levels h) u)
