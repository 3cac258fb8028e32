-- What is searched from the first finalization on that may be high enough.
use Rattle.std.proofs.Common.{◌≡◌, ◌⊎◌, inl, inr, ℕ, zero, suc, ◌+◌, ◌<◌, ◌≤◌, ◌==◌, Bool, true, false, cond, nat_lt, drop, take, refl, sym, ◌∙◌, ap, arith, subst, List, [], ◌∷◌, length, Option, Some, None, IfSome, option_and_then, option_map, slice_get, if◌then◌else◌}
use Rattle.std.specs.List.{AllByRecursion, filter_map, position}
use Rattle.std.specs.Option.{option_or}
use Rattle.std.proofs.lemmas.Bool.{cases_Bool}
use Rattle.std.proofs.lemmas.Bool.Decides.{nat_tests}
use Rattle.std.proofs.lemmas.Option.{none-some, same_Some}
use Rattle.cw_types.specs.Block.{Block}
use Rattle.cw_types.specs.declared.commitment.Commitment.{Commitment}
use Rattle.cw_types.specs.declared.note.Note.{Note}
use Rattle.cw_types.specs.declared.vote.Cert.{Cert}
use Rattle.cw_types.specs.declared.vote.Proposal.{Proposal}
use Rattle.cw_types.proofs.Same.{same_commitment_self}
use Rattle.cw_rules.specs.Accepted.{first_some}
use Rattle.cw_rules.specs.Held.{finalization_of, held, reached}
use Rattle.cw_rules.specs.Rules.{Rules}
use Rattle.cw_rules.specs.Sends.{finalization_at}
use Rattle.marshal.specs.Bare.{reached_by}
use Rattle.marshal.specs.Finding.{final_block, higher_of, highest_block}
use Rattle.marshal.specs.Reach.{HasFinals, is_final}
use Rattle.marshal.proofs.Growing.{reached_low}
use Rattle.marshal.proofs.Placing.{position_cons}

-- ---- searches

pub skip : {X Y : Type 0} (f : X → Option Y) (k : ℕ) (xs : List X)
    → AllByRecursion (λ x. f x ≡ None) (take k xs) → first_some f (drop k xs) ≡ first_some f xs
skip f zero xs none = refl
skip f (suc k) [] none = refl
skip {Y = Y} f (suc k) (x ∷ xs) none =
    skip f k xs none.1
    ∙ ap (λ (o : Option Y). option_or o (first_some f xs)) (sym none.0)

all_so : {X : Type 0} (P Q : X → Type 0) → ((x : X) → P x → Q x) → (xs : List X)
    → AllByRecursion P xs → AllByRecursion Q xs
all_so P Q so [] all = tt
all_so P Q so (x ∷ xs) all = (so x all.0, all_so P Q so xs all.1)

module _ (r : Rules) (notes : List Note) (h k : ℕ)
    (low : AllByRecursion (λ note. IfSome (final_block r notes note) (λ b. b.height < h))
    (take k notes)) where
  pub skip_reached : first_some
      (λ note. option_and_then (reached_by r notes h) (finalization_of note)) (drop k notes)
      ≡ first_some (λ note. option_and_then (reached_by r notes h) (finalization_of note)) notes
  skip_reached =
      skip (λ note. option_and_then (reached_by r notes h) (finalization_of note)) k notes
      (all_so (λ note. IfSome (final_block r notes note) (λ b. b.height < h))
      (λ note. option_and_then (reached_by r notes h) (finalization_of note) ≡ None) none
      (take k notes) low)
    where
      nowhere : (p : Proposal) (b : Block) → b.height < h → (o : Option Commitment)
          → reached r notes b.height h p.payload b ≡ o → o ≡ None
      nowhere p b l None e = refl
      nowhere p b l (Some d) e =
          absurd (omega (arith, l, reached_low r notes b.height h p.payload b d e))

      from : (p : Proposal) (o : Option Block) → IfSome o (λ b. b.height < h)
          → option_and_then (λ b. reached r notes b.height h p.payload b) o ≡ None
      from p None l = refl
      from p (Some b) l = nowhere p b l (reached r notes b.height h p.payload b) refl

      go : (o : Option Proposal)
          → IfSome (option_and_then (λ p. held r notes p.payload) o) (λ b. b.height < h)
          → option_and_then (reached_by r notes h) o ≡ None
      go None l = refl
      go (Some p) l = from p (held r notes p.payload) l

      none : (note : Note) → IfSome (final_block r notes note) (λ b. b.height < h)
          → option_and_then (reached_by r notes h) (finalization_of note) ≡ None
      none note l = go (finalization_of note) l

  pub low_finalized : AllByRecursion (λ note. finalization_at r notes h note ≡ None) (take k notes)
  low_finalized =
      all_so (λ note. IfSome (final_block r notes note) (λ b. b.height < h))
      (λ note. finalization_at r notes h note ≡ None) none (take k notes) low
    where
      other : (s : Cert) (o : Option Block) → IfSome o (λ b. b.height < h)
          → option_and_then (λ (b : Block). if b.height == h then Some s else None) o ≡ None
      other s None l = refl
      other s (Some b) l =
          let no : (b.height == h) ≡ false = grind (arith, nat_tests) in
          ap (λ t. cond t (Some s) None) no

      go : (s : Cert) (o : Option Proposal)
          → IfSome (option_and_then (λ p. held r notes p.payload) o) (λ b. b.height < h)
          → option_and_then
          (λ (p : Proposal). option_and_then
          (λ (b : Block). if b.height == h then Some s else None) (held r notes p.payload))
          o ≡ None
      go s None l = refl
      go s (Some p) l = other s (held r notes p.payload) l

      none : (note : Note) → IfSome (final_block r notes note) (λ b. b.height < h)
          → finalization_at r notes h note ≡ None
      none (Note.Cert s) l = go s (finalization_of (Note.Cert s)) l
      none (Note.Block c b) l = refl
      none (Note.Verified e v c) l = refl
      none (Note.Certified p) l = refl
      none (Note.Vote v) l = refl
      none (Note.Ack x) l = refl
      none (Note.Floor x) l = refl
      none (Note.Prune x) l = refl
      none (Note.Epoch e c) l = refl

-- ---- the highest

highest_low : {X : Type 0} (f : X → Option Block) (top : ℕ) (xs : List X) (b : Block)
    → AllByRecursion (λ x. IfSome (f x) (λ y. y.height ≤ top)) xs → highest_block (filter_map f xs)
    ≡ Some b
    → b.height ≤ top
highest_low f top [] b all e = absurd (none-some b e)
highest_low {X = X} f top (x ∷ xs) b all e =
    go (f x) refl all.0 e (λ d h. highest_low f top xs d all.1 h)
  where
    on : (c : Block) → c.height ≤ top → (o : Option Block)
        → ((d : Block) → o ≡ Some d → d.height ≤ top) → higher_of (Some c) o ≡ Some b
        → b.height ≤ top
    on c l None later is =
        subst (λ (y : Block). y.height ≤ top) (same_Some c b is) l
    on c l (Some d) later is = by (cases_Bool (nat_lt c.height d.height))
      where
        by : (nat_lt c.height d.height ≡ true) ⊎ (nat_lt c.height d.height ≡ false)
            → b.height ≤ top
        by (inl t) =
            subst (λ (y : Block). y.height ≤ top)
            (same_Some d b (sym (ap (λ s. Some (cond s d c)) t) ∙ is)) (later d refl)
        by (inr t) =
            subst (λ (y : Block). y.height ≤ top)
            (same_Some c b (sym (ap (λ s. Some (cond s d c)) t) ∙ is)) l

    go : (o : Option Block) → f x ≡ o → IfSome o (λ y. y.height ≤ top)
        → highest_block (filter_map f (x ∷ xs)) ≡ Some b
        → ((d : Block) → highest_block (filter_map f xs) ≡ Some d → d.height ≤ top) → b.height ≤ top
    go None is l found later = later b (rw is at found)
    go (Some c) is l found later =
        on c l (highest_block (filter_map f xs)) later
        (rw is at found)

-- one that is as high as any, where those before it are lower
pub highest_at : {X : Type 0} (f : X → Option Block) (k : ℕ) (xs : List X) (b : Block)
    → option_and_then f (slice_get xs k) ≡ Some b
    → AllByRecursion (λ x. IfSome (f x) (λ y. y.height < b.height)) (take k xs)
    → AllByRecursion (λ x. IfSome (f x) (λ y. y.height ≤ b.height)) xs
    → highest_block (filter_map f xs) ≡ Some b
highest_at f k [] b e low all = absurd (none-some b e)
highest_at f zero (x ∷ xs) b e low all =
    rw e
    (alone (highest_block (filter_map f xs)) (λ d h. highest_low f b.height xs d all.1 h))
  where
    alone : (o : Option Block) → ((d : Block) → o ≡ Some d → d.height ≤ b.height)
        → higher_of (Some b) o ≡ Some b
    alone None later = refl
    alone (Some d) later =
        let l = later d refl in
        let no : nat_lt b.height d.height ≡ false = grind (arith, nat_tests) in
        ap (λ s. Some (cond s d b)) no
highest_at f (suc k) (x ∷ xs) b e low all =
    go (f x) refl low.0 (highest_at f k xs b e low.1 all.1)
  where
    go : (o : Option Block) → f x ≡ o → IfSome o (λ y. y.height < b.height)
        → highest_block (filter_map f xs) ≡ Some b → highest_block (filter_map f (x ∷ xs)) ≡ Some b
    go None is l later = rw is later
    go (Some c) is l later =
        let yes : nat_lt c.height b.height ≡ true = grind (arith, nat_tests) in
        rw (is, later) (ap (λ s. Some (cond s b c)) yes)

-- where no payload has a finalization, no block of one is held
none_of : (r : Rules) (all notes : List Note) → HasFinals [] notes
    → highest_block (filter_map (final_block r all) notes) ≡ None
none_of r all [] has = refl
none_of r all (x ∷ xs) has = go (finalization_of x) refl (none_of r all xs later)
  where
    tail : (b : Bool) (o : Option ℕ) → None ≡ cond b (Some 0) (option_map (λ i. 1 + i) o)
        → None ≡ o
    tail true o e = absurd (none-some 0 e)
    tail false None e = refl
    tail false (Some n) e = absurd (none-some (1 + n) e)

    later : HasFinals [] xs
    later q =
        tail (is_final q x) (position (is_final q) xs)
        (has q ∙ position_cons (is_final q) x xs)

    here : (p : Proposal) → is_final p.payload x ≡ true → ⊥
    here p e =
        none-some 0
        (has p.payload
        ∙ (position_cons (is_final p.payload) x xs
        ∙ ap
        (λ b. cond b (Some 0) (option_map (λ i. 1 + i) (position (is_final p.payload) xs)))
        e))

    go : (o : Option Proposal) → finalization_of x ≡ o
        → highest_block (filter_map (final_block r all) xs) ≡ None
        → highest_block (filter_map (final_block r all) (x ∷ xs)) ≡ None
    go None e none = rw e none
    go (Some p) e none = absurd (here p (rw e (same_commitment_self p.payload)))

pub none_final : (r : Rules) (all : List Note) (entries : List (Commitment × ℕ)) (notes : List Note)
    → length entries ≡ 0 → HasFinals entries notes
    → highest_block (filter_map (final_block r all) notes) ≡ None
none_final r all [] notes none has = none_of r all notes has
none_final r all (x ∷ xs) notes none has = absurd (omega (arith, none))
