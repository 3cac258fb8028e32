-- What is acknowledged, given up and let go is never above what is known to be final.
use Rattle.std.proofs.Common.{◌≡◌, ℕ, zero, suc, ◌+◌, ◌<◌, ◌≤◌, Bool, true, false, ◌&&◌, ◌==◌, cond, max, nat_lt, List, [], ◌∷◌, ◌++◌, Option, Some, None, filter_map, map, option_map, option_and_then, refl, sym, ◌∙◌, ap, subst, inl, inr, ◌⊎◌, arith, append_assoc, append-nil, eqb-true}
use Rattle.std.specs.List.{last_or}
use Rattle.std.specs.Option.{option_or}
use Rattle.std.proofs.lemmas.Bool.{and_parts, and_from, cases_Bool, cond-true, cond-false, false≢true, lt-ltb, ltb-true, ltb-false}
use Rattle.std.proofs.lemmas.List.Elements.{filter_map-append}
use Rattle.std.proofs.lemmas.Option.{same_Some}
use Rattle.cw_types.specs.declared.commitment.Commitment.{Commitment}
use Rattle.cw_types.specs.declared.event.Event.{Event}
use Rattle.cw_types.specs.declared.event.Handed.{Handed}
use Rattle.cw_types.specs.declared.note.Note.{Note}
use Rattle.cw_types.specs.declared.vote.Cert.{Cert}
use Rattle.cw_types.specs.declared.vote.Proposal.{Proposal}
use Rattle.cw_types.specs.Block.{Block}
use Rattle.cw_types.specs.Same.{same_commitment}
use Rattle.cw_types.specs.Votes.{finalized}
use Rattle.cw_types.proofs.Same.{same_vote_self}
use Rattle.cw_rules.specs.Accepted.{Many, State, first_some}
use Rattle.cw_rules.specs.Held.{acked_height, at_height, finalization_of, floor_height, greatest_floor, greatest_prune, held, is_pending, last_ack, noted_block_of, parent_of, pruned_height, reached}
use Rattle.cw_rules.specs.Notes.{greatest, has_cert}
use Rattle.cw_rules.specs.Owed.{ballot_vote, cert_owed, final_heights, named_votes, note_vote, signers_in, signers_of, when}
use Rattle.cw_rules.specs.Reached.{In, IsCluster, Reaches}
use Rattle.cw_rules.specs.Rules.{Rules, genesis, genesis_commitment}
use Rattle.cw_rules.specs.Stands.{EachAfter}
use Rattle.cw_rules.specs.Step.{Member, member_notes, start, state_of, step, step_notes, stopped, taken}
use Rattle.cw_rules.specs.World.{Line, Restart, World, event_of, member_at, opening, signed, turned, with_done}
use Rattle.cw_rules.specs.World as line
use Rattle.cw_rules.proofs.Lists.{and_then_some, first_of_both, in_cases, in_left, map_some}
use Rattle.cw_rules.proofs.Runs.{Delivered, Turned, turn}
use Rattle.cw_rules.proofs.StepKeeps.{each_append}
use Rattle.cw_rules.proofs.Worlds.{frames_join, member_there}
use Rattle.cw_progress.specs.Tops.{final_top}
use Rattle.cw_progress.proofs.Carries.{AnyLine, Carries, Turning, any_lines, reached_all}
use Rattle.cw_progress.proofs.Ends.{cert_note, greatest_in}
use Rattle.cw_progress.proofs.Outs.{filter_from, in_map, mapped_from, mapped_in}
use Rattle.cw_progress.proofs.Rests.{first_found, first_none, noted_as, or_none, step_each}
use Rattle.cw_progress.proofs.Taken.{ballots_stay, wishes_taken}

-- ---- numbers

pub in_greatest : (xs : List ℕ) (x : ℕ) → In x xs → x ≤ greatest xs
in_greatest [] x h = absurd h
in_greatest (y ∷ ys) x (inl e) = omega (arith, e)
in_greatest (y ∷ ys) x (inr h) = omega (arith, in_greatest ys x h)

greatest_both : (xs ys : List ℕ) → greatest (xs ++ ys) ≡ max (greatest xs) (greatest ys)
greatest_both [] ys = omega arith
greatest_both (x ∷ xs) ys = omega (arith, greatest_both xs ys)

pub greatest_low : (xs : List ℕ) (bound : ℕ) → ((x : ℕ) → In x xs → x ≤ bound)
    → greatest xs ≤ bound
greatest_low [] bound f = omega arith
greatest_low (x ∷ xs) bound f =
    omega (arith, f x (inl refl), greatest_low xs bound (λ y h. f y (inr h)))

pub last_in : (o : Option ℕ) (xs : List ℕ) (x : ℕ) → last_or o xs ≡ Some x → (o ≡ Some x) ⊎ In x xs
last_in o [] x h = inl h
last_in o (y ∷ ys) x h = go (last_in (Some y) ys x h)
  where
    go : (◌≡◌ {A = Option ℕ} (Some y) (Some x)) ⊎ In x ys → (o ≡ Some x) ⊎ In x (y ∷ ys)
    go (inl e) = inr (inl (sym (same_Some y x e)))
    go (inr h) = inr (inr h)

pub from_map : {X Y : Type 0} (f : X → Y) (xs : List X) (y : Y) → In y (map f xs)
    → (x : X) × In x xs × (f x ≡ y)
from_map f [] y h = absurd h
from_map f (x ∷ xs) y (inl e) = (x, inl refl, sym e)
from_map f (x ∷ xs) y (inr h) = let (z, at, e) = from_map f xs y h in (z, inr at, e)

-- ---- what is held

module _ (r : Rules) where
  abbrev unless_low : List Note → Block → Option Block
  unless_low notes b =
      cond (nat_lt 0 b.height && nat_lt b.height (greatest_prune notes)) None (Some b)

  -- what is held under another commitment than genesis's, by its first note
  pub held_first : (notes : List Note) (c : Commitment) (b : Block)
      → same_commitment c (genesis_commitment r) ≡ false → held r notes c ≡ Some b
      → (first_some (noted_block_of c) notes ≡ Some b)
      × ((nat_lt 0 b.height && nat_lt b.height (greatest_prune notes)) ≡ false)
  held_first notes c b other h =
      let (x, e, f) =
      and_then_some (unless_low notes) (first_some (noted_block_of c) notes) b
      (sym
      (cond-false (same_commitment c (genesis_commitment r)) (Some (genesis r))
      (option_and_then (unless_low notes) (first_some (noted_block_of c) notes)) other)
      ∙ h) in
      by_low x e (nat_lt 0 x.height && nat_lt x.height (greatest_prune notes)) refl f
    where
      by_low : (x : Block) → first_some (noted_block_of c) notes ≡ Some x → (t : Bool)
          → (nat_lt 0 x.height && nat_lt x.height (greatest_prune notes)) ≡ t
          → cond t None (Some x) ≡ Some b
          → (first_some (noted_block_of c) notes ≡ Some b)
          × ((nat_lt 0 b.height && nat_lt b.height (greatest_prune notes)) ≡ false)
      by_low x e true is f = cc
      by_low x e false is f =
          let same : x ≡ b = same_Some x b f in (
            e ∙ f,
            ap (λ (y : Block). nat_lt 0 y.height && nat_lt y.height (greatest_prune notes))
                (sym same)
                ∙ is,
          )

  -- the first block that is noted is held, where it isn't let go
  first_kept : (notes : List Note) (c : Commitment) (b : Block)
      → same_commitment c (genesis_commitment r) ≡ false
      → first_some (noted_block_of c) notes ≡ Some b
      → (nat_lt 0 b.height && nat_lt b.height (greatest_prune notes)) ≡ false
      → held r notes c ≡ Some b
  first_kept notes c b other e low =
      cond-false (same_commitment c (genesis_commitment r)) (Some (genesis r))
      (option_and_then (unless_low notes) (first_some (noted_block_of c) notes)) other
      ∙ (ap (option_and_then (unless_low notes)) e
      ∙ cond-false (nat_lt 0 b.height && nat_lt b.height (greatest_prune notes)) None (Some b)
      low)

  -- so where it isn't below what was let go
  pub first_held : (notes : List Note) (c : Commitment) (b : Block)
      → same_commitment c (genesis_commitment r) ≡ false
      → first_some (noted_block_of c) notes ≡ Some b → greatest_prune notes ≤ b.height
      → held r notes c ≡ Some b
  first_held notes c b other e le =
      first_kept notes c b other e
      (by (cases_Bool (nat_lt 0 b.height && nat_lt b.height (greatest_prune notes))))
    where
      by : ((nat_lt 0 b.height && nat_lt b.height (greatest_prune notes)) ≡ true)
          ⊎ ((nat_lt 0 b.height && nat_lt b.height (greatest_prune notes)) ≡ false)
          → (nat_lt 0 b.height && nat_lt b.height (greatest_prune notes)) ≡ false
      by (inl t) =
          let p = and_parts (nat_lt 0 b.height) (nat_lt b.height (greatest_prune notes)) t in
          absurd (omega (arith, le, ltb-true b.height (greatest_prune notes) p.1))
      by (inr f) = f

  -- what is held stays so where nothing more is let go
  pub held_same : (xs ys : List Note) (c : Commitment) (b : Block)
      → same_commitment c (genesis_commitment r) ≡ false → held r xs c ≡ Some b
      → greatest_prune (xs ++ ys) ≡ greatest_prune xs → held r (xs ++ ys) c ≡ Some b
  held_same xs ys c b other h same =
      let p = held_first xs c b other h in
      first_kept (xs ++ ys) c b other
      (first_of_both (noted_block_of c) xs ys
      ∙ ap (λ o. option_or o (first_some (noted_block_of c) ys)) p.0)
      (ap (λ x. nat_lt 0 b.height && nat_lt b.height x) same ∙ p.1)

  -- what is held isn't below what was let go
  held_above : (notes : List Note) (c : Commitment) (b : Block) → held r notes c ≡ Some b
      → 0 < b.height → greatest_prune notes ≤ b.height
  held_above notes c b h pos = go (cases_Bool (same_commitment c (genesis_commitment r)))
    where
      go : (same_commitment c (genesis_commitment r) ≡ true)
          ⊎ (same_commitment c (genesis_commitment r) ≡ false)
          → greatest_prune notes ≤ b.height
      go (inl t) =
          let e : Some (genesis r) ≡ Some b =
          sym
          (cond-true (same_commitment c (genesis_commitment r)) (Some (genesis r))
          (option_and_then (unless_low notes) (first_some (noted_block_of c) notes)) t)
          ∙ h in
          let f : genesis r ≡ b = same_Some (genesis r) b e in
          let g = ap (λ (x : Block). x.height) f in
          absurd (omega (arith, g, pos))
      go (inr n) = by_low (held_first notes c b n h).1
        where
          by_low : (nat_lt 0 b.height && nat_lt b.height (greatest_prune notes)) ≡ false
              → greatest_prune notes ≤ b.height
          by_low f = by (cases_Bool (nat_lt b.height (greatest_prune notes)))
            where
              by : (nat_lt b.height (greatest_prune notes) ≡ true)
                  ⊎ (nat_lt b.height (greatest_prune notes) ≡ false)
                  → greatest_prune notes ≤ b.height
              by (inl t) =
                  absurd
                  (false≢true
                  (sym f
                  ∙ and_from (nat_lt 0 b.height) (nat_lt b.height (greatest_prune notes))
                  (lt-ltb 0 b.height pos) t))
              by (inr g) = ltb-false b.height (greatest_prune notes) g

  -- it stays held where no more notes let it go
  pub held_stays : (xs ys : List Note) (c : Commitment) (b : Block) → held r xs c ≡ Some b
      → greatest_prune (xs ++ ys) ≤ b.height → held r (xs ++ ys) c ≡ Some b
  held_stays xs ys c b h le = go (cases_Bool (same_commitment c (genesis_commitment r)))
    where
      go : (same_commitment c (genesis_commitment r) ≡ true)
          ⊎ (same_commitment c (genesis_commitment r) ≡ false)
          → held r (xs ++ ys) c ≡ Some b
      go (inl t) =
          cond-true (same_commitment c (genesis_commitment r)) (Some (genesis r))
          (option_and_then (unless_low (xs ++ ys)) (first_some (noted_block_of c) (xs ++ ys))) t
          ∙ (sym
          (cond-true (same_commitment c (genesis_commitment r)) (Some (genesis r))
          (option_and_then (unless_low xs) (first_some (noted_block_of c) xs)) t)
          ∙ h)
      go (inr n) =
          first_held (xs ++ ys) c b n
          (first_of_both (noted_block_of c) xs ys
          ∙ ap (λ o. option_or o (first_some (noted_block_of c) ys)) (held_first xs c b n h).0)
          le

  -- ---- what is final

  -- a noted finalization with a held block is no higher than the highest
  pub in_top : (notes : List Note) (p : Proposal) (b : Block)
      → In p (filter_map finalization_of notes) → held r notes p.payload ≡ Some b
      → b.height ≤ final_top r notes
  in_top notes p b at h =
      in_greatest (final_heights r notes) b.height
      (mapped_in (λ (p : Proposal). option_map (λ (b : Block). b.height) (held r notes p.payload))
      (filter_map finalization_of notes) p b.height at
      (ap (option_map (λ (b : Block). b.height)) h))

  -- the highest
  pub top_at : (notes : List Note) → 0 < final_top r notes
      → (p : Proposal) × (b : Block) × In p (filter_map finalization_of notes)
      × (held r notes p.payload ≡ Some b) × (b.height ≡ final_top r notes)
  top_at notes pos =
      let (p, at, e) =
      mapped_from
      (λ (p : Proposal). option_map (λ (b : Block). b.height) (held r notes p.payload))
      (filter_map finalization_of notes) (final_top r notes)
      (greatest_in (final_heights r notes) pos) in
      let (b, f, g) =
      map_some (λ (b : Block). b.height) (held r notes p.payload) (final_top r notes) e in
      (p, b, at, f, g)

  -- a height is no higher than the block from which it is reached
  reached_low : (notes : List Note) (steps h : ℕ) (c d : Commitment) (b : Block)
      → reached r notes steps h c b ≡ Some d → h ≤ b.height
  reached_low notes zero h c d b e = go (cases_Bool (b.height == h))
    where
      go : ((b.height == h) ≡ true) ⊎ ((b.height == h) ≡ false) → h ≤ b.height
      go (inl t) = omega (arith, eqb-true b.height h t)
      go (inr f) = cc (cond-false (b.height == h) (Some c) None f)
  reached_low notes (suc steps) h c d b e =
      go (cases_Bool (b.height == h)) (λ a. reached_low notes steps h b.context.parent d a)
    where
      more : Option Commitment
      more = option_and_then (reached r notes steps h b.context.parent) (parent_of r notes b)

      up : Block → Option Block
      up a = cond (a.height + 1 == b.height) (Some a) None

      higher : (a y : Block)
          → ((a.height + 1 == b.height) ≡ true) ⊎ ((a.height + 1 == b.height) ≡ false)
          → up a ≡ Some y → y.height < b.height
      higher a y (inl t) g =
          let same : a ≡ y =
          same_Some a y (sym (cond-true (a.height + 1 == b.height) (Some a) None t) ∙ g) in
          let f = ap (λ (x : Block). x.height) same in
          omega (arith, f, eqb-true (a.height + 1) b.height t)
      higher a y (inr f) g = cc (cond-false (a.height + 1 == b.height) (Some a) None f)

      go : ((b.height == h) ≡ true) ⊎ ((b.height == h) ≡ false)
          → ((a : Block) → reached r notes steps h b.context.parent a ≡ Some d → h ≤ a.height)
          → h ≤ b.height
      go (inl t) later = omega (arith, eqb-true b.height h t)
      go (inr f) later =
          let (y, p, g) =
          and_then_some (reached r notes steps h b.context.parent) (parent_of r notes b) d
          (sym (cond-false (b.height == h) (Some c) more f) ∙ e) in
          let (a, q, u) = and_then_some up (held r notes b.context.parent) y p in
          omega (arith, later y g, higher a y (cases_Bool (a.height + 1 == b.height)) u)

  -- what stands at a height is final
  at_low : (notes : List Note) (h : ℕ) (c : Commitment) → at_height r notes h ≡ Some c
      → h ≤ final_top r notes
  at_low notes h c e = go (cases_Bool (h == 0))
    where
      from : Proposal → Option Commitment
      from p =
          option_and_then (λ b. reached r notes b.height h p.payload b) (held r notes p.payload)

      go : ((h == 0) ≡ true) ⊎ ((h == 0) ≡ false) → h ≤ final_top r notes
      go (inl t) = omega (arith, eqb-true h 0 t)
      go (inr f) =
          let (p, at, g) =
          first_found from (filter_map finalization_of notes) c
          (sym
          (cond-false (h == 0) (Some (genesis_commitment r))
          (first_some from (filter_map finalization_of notes)) f)
          ∙ e) in
          let (b, k, u) =
          and_then_some (λ (b : Block). reached r notes b.height h p.payload b)
          (held r notes p.payload) c g in
          omega (
            arith,
            reached_low notes b.height h p.payload c b u,
            in_top notes p b at k,
          )

  -- an acknowledged height, one that is given up or one below which blocks are let go is final by
  -- the notes before
  abbrev pub IsLow : List Note → Note → Type 0
  IsLow before (Note.Ack h) = h ≤ final_top r before
  IsLow before (Note.Floor h) = h ≤ final_top r before
  IsLow before (Note.Prune h) = h ≤ final_top r before
  IsLow before _ = Unit {0}

  -- what one more note lets go isn't above what is final
  prune_one : (xs : List Note) (n : Note) (bound : ℕ) → greatest_prune xs ≤ bound → IsLow xs n
      → final_top r xs ≤ bound → greatest_prune (xs ++ n ∷ []) ≤ bound
  prune_one xs n bound le low top =
      subst (λ hs. greatest hs ≤ bound) (sym (filter_map-append pruned_height xs (n ∷ [])))
      (omega (
        arith,
        greatest_both (filter_map pruned_height xs) (filter_map pruned_height (n ∷ [])),
        le,
        by_note n low,
      ))
    where
      by_note : (n : Note) → IsLow xs n → greatest (filter_map pruned_height (n ∷ [])) ≤ bound
      by_note (Note.Prune h) low = omega (arith, low, top)
      by_note (Note.Ack h) low = omega arith
      by_note (Note.Floor h) low = omega arith
      by_note (Note.Vote v) low = omega arith
      by_note (Note.Verified epoch view c) low = omega arith
      by_note (Note.Block c b) low = omega arith
      by_note (Note.Cert s) low = omega arith
      by_note (Note.Certified p) low = omega arith
      by_note (Note.Epoch epoch c) low = omega arith

  -- so what is final stays so
  top_one : (xs : List Note) (n : Note) → IsLow xs n → final_top r xs ≤ final_top r (xs ++ n ∷ [])
  top_one xs n low = go (cases_Bool (nat_lt 0 (final_top r xs)))
    where
      go : (nat_lt 0 (final_top r xs) ≡ true) ⊎ (nat_lt 0 (final_top r xs) ≡ false)
          → final_top r xs ≤ final_top r (xs ++ n ∷ [])
      go (inl t) =
          let pos = ltb-true 0 (final_top r xs) t in
          let (p, b, at, h, is) = top_at xs pos in
          let above = held_above xs p.payload b h (omega (arith, is, pos)) in
          let stays =
          held_stays xs (n ∷ []) p.payload b h
          (prune_one xs n b.height above low (omega (arith, is))) in
          let there : In p (filter_map finalization_of (xs ++ n ∷ [])) =
          subst (In p) (sym (filter_map-append finalization_of xs (n ∷ [])))
          (in_left p (filter_map finalization_of xs) (filter_map finalization_of (n ∷ [])) at) in
          omega (arith, is, in_top (xs ++ n ∷ []) p b there stays)
      go (inr f) = omega (arith, ltb-false 0 (final_top r xs) f)

  pub top_along : (start notes : List Note) → EachAfter IsLow start notes
      → final_top r start ≤ final_top r (start ++ notes)
  top_along start [] e =
      subst (λ ns. final_top r start ≤ final_top r ns) (sym (append-nil start)) (omega arith)
  top_along start (n ∷ ns) e =
      subst (λ xs. final_top r start ≤ final_top r xs) (append_assoc start (n ∷ []) ns)
      (omega (arith, top_one start n e.0, top_along (start ++ n ∷ []) ns e.1))

  -- what is final by some notes is so by others that know as much
  later_low : (xs ys : List Note) (n : Note) → final_top r xs ≤ final_top r ys → IsLow xs n
      → IsLow ys n
  later_low xs ys (Note.Ack h) le low = omega (arith, le, low)
  later_low xs ys (Note.Floor h) le low = omega (arith, le, low)
  later_low xs ys (Note.Prune h) le low = omega (arith, le, low)
  later_low xs ys (Note.Vote v) le low = tt
  later_low xs ys (Note.Verified epoch view c) le low = tt
  later_low xs ys (Note.Block c b) le low = tt
  later_low xs ys (Note.Cert s) le low = tt
  later_low xs ys (Note.Certified p) le low = tt
  later_low xs ys (Note.Epoch epoch c) le low = tt

  pub low_in : (start notes : List Note) (n : Note) → EachAfter IsLow start notes → In n notes
      → IsLow (start ++ notes) n
  low_in start [] n e h = absurd h
  low_in start (x ∷ xs) n e (inl s) =
      subst (IsLow (start ++ x ∷ xs)) (sym s)
      (later_low start (start ++ x ∷ xs) x (top_along start (x ∷ xs) e) e.0)
  low_in start (x ∷ xs) n e (inr h) =
      subst (λ ns. IsLow ns n) (append_assoc start (x ∷ []) xs)
      (low_in (start ++ x ∷ []) xs n e.1 h)

-- ---- certificates that came

-- where no certificate is owed, one that came is noted
pub cert_noted : (r : Rules) (id : ℕ) (s : State) (t : Cert)
    → first_some (cert_owed r id s) (named_votes s) ≡ None → In (Many t) s.came.ballots
    → has_cert s.notes t.vote ≡ true
cert_noted r id s t none at = go (has_cert s.notes t.vote) refl owed
  where
    named : In t.vote (named_votes s)
    named =
        in_left t.vote (map ballot_vote s.came.ballots) (filter_map note_vote s.notes)
        (in_map ballot_vote s.came.ballots (Many t) at)

    owed : cert_owed r id s t.vote ≡ None
    owed = first_none (cert_owed r id s) (named_votes s) t.vote none named

    nothing : signers_of r id s t.vote ≡ None → ⊥
    nothing e =
        let a = or_none (first_some (signers_in t.vote) s.came.ballots) _ e in
        let b = first_none (signers_in t.vote) s.came.ballots (Many t) a.0 at in
        let c : when true t.signers ≡ None =
        ap (λ x. when x t.signers) (sym (same_vote_self t.vote)) ∙ b in
        cc

    by_signers : (o : Option (List ℕ)) → signers_of r id s t.vote ≡ o
        → option_map (λ signers. Note.Cert (record { vote = t.vote; signers = signers })) o ≡ None
        → ⊥
    by_signers None e h = nothing e
    by_signers (Some xs) e h = cc

    go : (b : Bool) → has_cert s.notes t.vote ≡ b
        → cond b None
        (option_map (λ signers. Note.Cert (record { vote = t.vote; signers = signers }))
        (signers_of r id s t.vote))
        ≡ None
        → has_cert s.notes t.vote ≡ true
    go true e h = e
    go false e h = absurd (by_signers (signers_of r id s t.vote) refl h)

-- ---- worlds

-- each wish is for what a finalization that came finalizes
abbrev AreWished : Member → Type 0
AreWished m =
    (c : Commitment) → In c m.came.wishes
    → (s : Cert) × (p : Proposal) × In (Many s) m.came.ballots × (finalized s.vote ≡ Some p)
    × (p.payload ≡ c)

record AreFinal (r : Rules) (w : World) (i : ℕ) (m : Member) : Type 0 where
  pub notes : EachAfter (IsLow r) [] (member_notes m)
  pub given : (h : ℕ) → In h m.given → h ≤ final_top r (member_notes m)
  pub wishes : AreWished m

module _ (r : Rules) (script : List Line) where
  -- what is handed out is final
  handed_final : (notes : List Note) (out : List Handed) (h : ℕ)
      → ((x : Handed) → In x out → Delivered r notes x)
      → In h (map (λ (x : Handed). x.height) out) → h ≤ final_top r notes
  handed_final notes out h gave at =
      let (x, there, e) = from_map (λ (x : Handed). x.height) out h at in
      subst (λ y. y ≤ final_top r notes) e
      (at_low r notes x.height x.commitment (gave x there).high)

  -- the turn of a live member
  stepped_turn : (w : World) (i : ℕ) (m : Member) (e : Event) → Turning r script AnyLine w i m e
      → Turned r m (step r i (signed w) m e)
  stepped_turn w i m e t =
      turn r w i (line.Do i t.ask) m (step r i (signed w) m e)
      (ap (λ b. cond b (option_map (step r i (signed w) m) (event_of w i t.ask)) None) t.live
      ∙ ap (option_map (step r i (signed w) m)) t.event)

  start_turn : (w : World) (i : ℕ) (m : Member) → m.live ≡ false → Turned r m (start r i m.frames)
  start_turn w i m f =
      turn r w i (Restart i) m (start r i m.frames)
      (ap (λ b. cond b None (Some (start r i m.frames))) f)

  -- what came after an event is wished so too
  wished_taken : (w : World) (m : Member) (e : Event) → AreWished m → (c : Commitment)
      → In c (taken r (signed w) (state_of m) e).came.wishes
      → (s : Cert) × (p : Proposal) × In (Many s) (taken r (signed w) (state_of m) e).came.ballots
      × (finalized s.vote ≡ Some p) × (p.payload ≡ c)
  wished_taken w m e all c h = go (wishes_taken r (signed w) m.came e c h)
    where
      go : In c m.came.wishes
          ⊎ ((s : Cert) × (p : Proposal) × (e ≡ Event.Floor s) × (finalized s.vote ≡ Some p)
          × (p.payload ≡ c) × In (Many s) (taken r (signed w) (state_of m) e).came.ballots)
          → (s : Cert) × (p : Proposal)
          × In (Many s) (taken r (signed w) (state_of m) e).came.ballots
          × (finalized s.vote ≡ Some p) × (p.payload ≡ c)
      go (inl a) =
          let (s, p, at, f, g) = all c a in
          (s, p, ballots_stay r (signed w) m.came e (Many s) at, f, g)
      go (inr (s, p, is, f, g, at)) = (s, p, at, f, g)

  -- a floor that is owed is final
  floor_final : (i : ℕ) (s : State) (c : Commitment) (b : Block)
      → ((t : Cert) × (p : Proposal) × In (Many t) s.came.ballots × (finalized t.vote ≡ Some p)
      × (p.payload ≡ c))
      → first_some (cert_owed r i s) (named_votes s) ≡ None → held r s.notes c ≡ Some b
      → b.height ≤ final_top r s.notes
  floor_final i s c b (t, p, at, f, g) none h =
      let (u, there, e) = cert_note t.vote s.notes (cert_noted r i s t none at) in
      in_top r s.notes p b
      (mapped_in finalization_of s.notes (Note.Cert u) p there (ap finalized e ∙ f))
      (ap (held r s.notes) g ∙ h)

  written_low : (w : World) (i : ℕ) (m : Member) (e : Event) → Turning r script AnyLine w i m e
      → AreFinal r w i m
      → EachAfter (IsLow r) (member_notes m) (step_notes r i (taken r (signed w) (state_of m) e) e)
  written_low w i m e t p =
      step_each (IsLow r) r i (taken r (signed w) (state_of m) e) e (record {
        of_block = λ ns c b. tt;
        of_verified = λ ns epoch view c. tt;
        of_notarize = λ ns q o. tt;
        of_finalize = λ ns q. tt;
        of_certified = λ ns q. tt;
        of_epoch = λ ns epoch c. tt;
        of_nullify = λ view is s. tt;
        of_ack =
            λ h at.
            p.given h
            (filter_from
            (is_pending (last_ack (member_notes m)) (greatest_floor (member_notes m))) m.given h
            at).0;
        of_prune = λ h a is last le. pruned h a last le;
        of_cert = λ ns v signers h. tt;
        of_floor =
            λ ns c b at all none h.
            floor_final i (noted_as (taken r (signed w) (state_of m) e) ns) c b
            (wished_taken w m e p.wishes c at) none h;
      })
    where
      acked : (a : ℕ) → (◌≡◌ {A = Option ℕ} None (Some a))
          ⊎ In a (filter_map acked_height (member_notes m))
          → a ≤ final_top r (member_notes m)
      acked a (inl e) = cc
      acked a (inr at) =
          let (n, there, f) = mapped_from acked_height (member_notes m) a at in
          by_note n f (low_in r [] (member_notes m) n p.notes there)
        where
          by_note : (n : Note) → acked_height n ≡ Some a → IsLow r (member_notes m) n
              → a ≤ final_top r (member_notes m)
          by_note (Note.Ack h) f low =
              subst (λ y. y ≤ final_top r (member_notes m)) (same_Some h a f) low
          by_note (Note.Floor h) f low = cc
          by_note (Note.Prune h) f low = cc
          by_note (Note.Vote v) f low = cc
          by_note (Note.Verified epoch view c) f low = cc
          by_note (Note.Block c b) f low = cc
          by_note (Note.Cert s) f low = cc
          by_note (Note.Certified q) f low = cc
          by_note (Note.Epoch epoch c) f low = cc

      pruned : (h a : ℕ) → last_ack (member_notes m) ≡ Some a → h ≤ a
          → h ≤ final_top r (member_notes m)
      pruned h a last le =
          omega (
            arith,
            le,
            acked a (last_in None (filter_map acked_height (member_notes m)) a last),
          )

  joined_low : (w : World) (i : ℕ) (m : Member) (e : Event) → Turning r script AnyLine w i m e
      → AreFinal r w i m
      → EachAfter (IsLow r) [] (member_notes (step r i (signed w) m e).member)
  joined_low w i m e t p =
      let notes = step_notes r i (taken r (signed w) (state_of m) e) e in
      subst (EachAfter (IsLow r) []) (sym (frames_join m.frames notes))
      (each_append (IsLow r) [] (member_notes m) notes p.notes (written_low w i m e t p))

  -- what is final stays so in a step
  step_top : (w : World) (i : ℕ) (m : Member) (e : Event) → Turning r script AnyLine w i m e
      → AreFinal r w i m
      → final_top r (member_notes m) ≤ final_top r (member_notes (step r i (signed w) m e).member)
  step_top w i m e t p =
      let notes = step_notes r i (taken r (signed w) (state_of m) e) e in
      subst (λ ns. final_top r (member_notes m) ≤ final_top r ns)
      (sym (frames_join m.frames notes))
      (top_along r (member_notes m) notes (written_low w i m e t p))

  final_stepped : (w : World) (i : ℕ) (m : Member) (e : Event) → Turning r script AnyLine w i m e
      → AreFinal r w i m
      → AreFinal r (with_done w i (step r i (signed w) m e)) i (step r i (signed w) m e).member
  final_stepped w i m e t p = record {
    notes = joined_low w i m e t p;
    given =
        λ h at.
        by_place h
        (in_cases h m.given
        (map (λ (x : Handed). x.height) (step r i (signed w) m e).handed) at);
    wishes = wished_taken w m e p.wishes;
  }
    where
      by_place : (h : ℕ)
          → In h m.given ⊎ In h (map (λ (x : Handed). x.height) (step r i (signed w) m e).handed)
          → h ≤ final_top r (member_notes (step r i (signed w) m e).member)
      by_place h (inl a) = omega (arith, p.given h a, step_top w i m e t p)
      by_place h (inr b) =
          handed_final (member_notes (step r i (signed w) m e).member)
          (step r i (signed w) m e).handed h (stepped_turn w i m e t).gave b

  final_carries : Carries r script AnyLine (AreFinal r)
  final_carries = record {
    stays =
        λ w v i m e p. record { notes = p.notes; given = p.given; wishes = p.wishes };
    first =
        λ i.
        record {
          notes = tt;
          given =
              λ h at.
              handed_final [] (start r i []).handed h
              (start_turn (opening r script) i (stopped (start r i []).member []) refl).gave at;
          wishes = λ c h. absurd h;
        };
    stepped = final_stepped;
    halts = λ w i m p. record { notes = p.notes; given = p.given; wishes = p.wishes };
    kept =
        λ w i m e t p.
        record {
          notes = joined_low w i m e t p;
          given = λ h a. omega (arith, p.given h a, step_top w i m e t p);
          wishes = p.wishes;
        };
    started =
        λ w i m c at live p.
        record {
          notes = p.notes;
          given =
              λ h b.
              handed_final (member_notes m) (start r i m.frames).handed h
              (start_turn w i m live).gave b;
          wishes = λ d h. absurd h;
        };
  }

  -- each note of an honest member in a world that the script reaches
  pub notes_final : (w : World) → IsCluster r script → Reaches r script w → (i : ℕ) (m : Member)
      → member_at w i ≡ Some m → (n : Note) → In n (member_notes m)
      → IsLow r (member_notes m) n
  notes_final w cluster reach i m at n h =
      low_in r [] (member_notes m) n
      (reached_all r script AnyLine (AreFinal r) final_carries w cluster (any_lines script) reach
      i m (member_there w i m at)).notes
      h

  -- each height that one handed out since its start
  pub given_final : (w : World) → IsCluster r script → Reaches r script w → (i : ℕ) (m : Member)
      → member_at w i ≡ Some m → (h : ℕ) → In h m.given → h ≤ final_top r (member_notes m)
  given_final w cluster reach i m at =
      (reached_all r script AnyLine (AreFinal r) final_carries w cluster (any_lines script) reach i
      m (member_there w i m at)).given

  -- so what was let go is final
  pub prune_final : (w : World) → IsCluster r script → Reaches r script w → (i : ℕ) (m : Member)
      → member_at w i ≡ Some m → greatest_prune (member_notes m) ≤ final_top r (member_notes m)
  prune_final w cluster reach i m at =
      greatest_low (filter_map pruned_height (member_notes m)) (final_top r (member_notes m))
      (λ h a. by_height h (mapped_from pruned_height (member_notes m) h a))
    where
      by_note : (h : ℕ) (n : Note) → pruned_height n ≡ Some h → IsLow r (member_notes m) n
          → h ≤ final_top r (member_notes m)
      by_note h (Note.Prune x) f low =
          subst (λ y. y ≤ final_top r (member_notes m)) (same_Some x h f) low
      by_note h (Note.Ack x) f low = cc
      by_note h (Note.Floor x) f low = cc
      by_note h (Note.Vote v) f low = cc
      by_note h (Note.Verified epoch view c) f low = cc
      by_note h (Note.Block c b) f low = cc
      by_note h (Note.Cert s) f low = cc
      by_note h (Note.Certified q) f low = cc
      by_note h (Note.Epoch epoch c) f low = cc

      by_height : (h : ℕ)
          → ((n : Note) × In n (member_notes m) × (pruned_height n ≡ Some h))
          → h ≤ final_top r (member_notes m)
      by_height h (n, there, f) = by_note h n f (notes_final w cluster reach i m at n there)

  -- and where heights were given up
  pub floor_low : (w : World) → IsCluster r script → Reaches r script w → (i : ℕ) (m : Member)
      → member_at w i ≡ Some m → greatest_floor (member_notes m) ≤ final_top r (member_notes m)
  floor_low w cluster reach i m at =
      greatest_low (filter_map floor_height (member_notes m)) (final_top r (member_notes m))
      (λ h a. by_height h (mapped_from floor_height (member_notes m) h a))
    where
      by_note : (h : ℕ) (n : Note) → floor_height n ≡ Some h → IsLow r (member_notes m) n
          → h ≤ final_top r (member_notes m)
      by_note h (Note.Floor x) f low =
          subst (λ y. y ≤ final_top r (member_notes m)) (same_Some x h f) low
      by_note h (Note.Ack x) f low = cc
      by_note h (Note.Prune x) f low = cc
      by_note h (Note.Vote v) f low = cc
      by_note h (Note.Verified epoch view c) f low = cc
      by_note h (Note.Block c b) f low = cc
      by_note h (Note.Cert s) f low = cc
      by_note h (Note.Certified q) f low = cc
      by_note h (Note.Epoch epoch c) f low = cc

      by_height : (h : ℕ)
          → ((n : Note) × In n (member_notes m) × (floor_height n ≡ Some h))
          → h ≤ final_top r (member_notes m)
      by_height h (n, there, f) = by_note h n f (notes_final w cluster reach i m at n there)
