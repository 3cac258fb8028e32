-- What is finalized is certified by honest members down to genesis, each with its block.
use Rattle.std.proofs.Common.{◌≡◌, ℕ, ◌<◌, Bool, true, false, ◌&&◌, ◌||◌, ◌==◌, nat_lt, cond, List, [], ◌∷◌, ◌++◌, Option, Some, None, slice_get, refl, sym, ◌∙◌, ap, subst, inl, inr, ◌⊎◌, arith, eqb-true, option_and_then, option_map}
use Rattle.std.specs.Option.{option_or, option_map_or}
use Rattle.std.proofs.lemmas.Bool.{cases_Bool, cond-false}
use Rattle.cw_types.specs.declared.commitment.Commitment.{Commitment}
use Rattle.cw_types.specs.declared.note.Note.{Note}
use Rattle.cw_types.specs.declared.vote.Proposal.{Proposal}
use Rattle.cw_types.specs.declared.vote.Vote.TheVariants.{Finalize, Notarize}
use Rattle.cw_types.specs.Block.{Block}
use Rattle.cw_types.specs.Same.{same_commitment}
use Rattle.cw_rules.specs.Accepted.{first_some}
use Rattle.cw_rules.specs.Fits.{block_fits, fits, fits_over}
use Rattle.cw_rules.specs.Held.{greatest_prune, held, noted_block_of}
use Rattle.cw_rules.specs.Keeps.{AllKeep, IsCertifiedIn, Keeps, meaning}
use Rattle.cw_rules.specs.Notes.{has_block, has_cert, has_certified, is_block, is_cert, is_certified, epoch_parent, settled, settler}
use Rattle.cw_rules.specs.Rules.{Rules, genesis, genesis_commitment}
use Rattle.cw_rules.specs.Stands.{AreLawful, Descends, LeadsTo, Members, Stands}
use Rattle.cw_rules.proofs.Lists.{and_then_some, map_some, map_or_true}
use Rattle.cw_rules.proofs.NoteLemmas.{found_after, any_front, certified_note, Settles, settler_tells}
use Rattle.cw_rules.proofs.Quorums.{sharer}
use Rattle.cw_rules.proofs.Fits.{IsSpanned, fit_positive}
use Rattle.cw_rules.proofs.Chain.{one_notarized, certified_rests, finalized_certified, notarized_above}

-- what a fitting block is
pub record Fitting (r : Rules) (notes : List Note) (p : Proposal) : Type 0 where
  pub block : Block
  pub over : Commitment
  pub parent : Block
  pub holds : held r notes p.payload ≡ Some block
  pub settles : settled (genesis_commitment r) notes p.epoch p.parent ≡ Some over
  pub holds_parent : held r notes over ≡ Some parent
  pub fit : fits_over r p block over parent ≡ true

pub fitting : (r : Rules) (notes : List Note) (p : Proposal)
    → option_map_or (fits r notes p) (held r notes p.payload) false ≡ true → Fitting r notes p
fitting r notes p h =
    let (b, at, f) = map_or_true (fits r notes p) (held r notes p.payload) h in
    let (c, s, g) =
    map_or_true (λ c. option_map_or (fits_over r p b c) (held r notes c) false)
    (settled (genesis_commitment r) notes p.epoch p.parent) f in
    let (a, t, e) = map_or_true (fits_over r p b c) (held r notes c) g in
    record { block = b; over = c; parent = a; holds = at; settles = s; holds_parent = t; fit = e }

-- a block that is found among the notes is noted
noted_has : (c : Commitment) (notes : List Note) (b : Block)
    → first_some (noted_block_of c) notes ≡ Some b → has_block notes c ≡ true
noted_has c [] b h = cc
noted_has c (Note.Block d x ∷ notes) b h = go (same_commitment c d) h (noted_has c notes b)
  where
    go : (t : Bool)
        → option_or (cond t (Some x) None) (first_some (noted_block_of c) notes) ≡ Some b
        → (first_some (noted_block_of c) notes ≡ Some b → has_block notes c ≡ true)
        → (t || has_block notes c) ≡ true
    go true h later = refl
    go false h later = later h
noted_has c (_ ∷ notes) b h = noted_has c notes b h

-- what is held and isn't at height 0 is noted
pub held_noted : (r : Rules) (notes : List Note) (c : Commitment) (b : Block)
    → held r notes c ≡ Some b → 0 < b.height → first_some (noted_block_of c) notes ≡ Some b
held_noted r notes c b h pos = go (same_commitment c (genesis_commitment r)) h
  where
    low : Block → Option Block
    low x = cond (nat_lt 0 x.height && nat_lt x.height (greatest_prune notes)) None (Some x)

    by_low : (t : Bool) (x : Block) → first_some (noted_block_of c) notes ≡ Some x
        → cond t None (Some x) ≡ Some b → first_some (noted_block_of c) notes ≡ Some b
    by_low true x e h = cc
    by_low false x e h = e ∙ h

    go : (t : Bool)
        → cond t (Some (genesis r)) (option_and_then low (first_some (noted_block_of c) notes))
        ≡ Some b
        → first_some (noted_block_of c) notes ≡ Some b
    go true h =
        let e : genesis r ≡ b = cc in absurd (let f = ap (λ (x : Block). x.height) e in omega arith)
    go false h =
        let (x, e, f) = and_then_some low (first_some (noted_block_of c) notes) b h in
        by_low (nat_lt 0 x.height && nat_lt x.height (greatest_prune notes)) x e f

module _ (r : Rules) (spans : IsSpanned r.epochs) (members : Members)
    (l : AreLawful r.epochs (block_fits r) members) (keep : AllKeep r members) where
  -- where a member certified a proposal, the notes before that tell its fitting block
  pub certified_at : (i : ℕ) (notes : List Note) → slice_get members i ≡ Some (Some notes)
      → (p : Proposal) → has_certified notes p ≡ true
      → (before rest : List Note) × (notes ≡ before ++ rest) × Fitting r before p
  certified_at i notes at p h =
      let f =
      found_after (Keeps r (meaning r.epochs members)) (is_certified p) [] notes
      (keep i notes at) h in
      let k =
      subst (Keeps r (meaning r.epochs members) f.before) (certified_note p f.note f.passes)
      f.holds in
      (f.before, f.rest, f.joined, fitting r f.before p k.1)

  -- whoever certified a proposal noted a block under its payload
  pub certified_in : (i : ℕ) (notes : List Note) → slice_get members i ≡ Some (Some notes)
      → (p : Proposal) → has_certified notes p ≡ true → IsCertifiedIn members p
  certified_in i notes at p h =
      let (before, rest, joined, f) = certified_at i notes at p h in
      let e =
      held_noted r before p.payload f.block f.holds
      (fit_positive r spans p f.block f.over f.parent f.fit) in
      record {
        place = i;
        notes = notes;
        at = at;
        certified = h;
        noted =
            subst (λ ns. has_block ns p.payload ≡ true) (sym joined)
            (any_front (is_block p.payload) before rest (noted_has p.payload before f.block e));
      }

  -- what stands finalized is certified
  pub finalized_in : (p : Proposal) → Stands r.epochs members (Finalize p) → IsCertifiedIn members p
  finalized_in p a =
      let s = sharer r.epochs members (Finalize p) (Finalize p) l.faults refl a a in
      certified_in s.place s.notes s.at p
      (finalized_certified r.epochs (block_fits r) members s.notes
      (l.honest s.place s.notes s.at) p s.first)

  -- what a certified proposal's parent view is settled by is certified too
  parent_in : (p q : Proposal) → IsCertifiedIn members p → Stands r.epochs members (Notarize q)
      → q.epoch ≡ p.epoch → q.view ≡ p.parent → IsCertifiedIn members q
  parent_in p q c a of same =
      let (before, rest, joined, f) = certified_at c.place c.notes c.at p c.certified in
      by_view before rest joined f (cases_Bool (p.parent == 0))
    where
      by_settler : (before rest : List Note) → c.notes ≡ before ++ rest → (s : Proposal)
          → Settles before p.epoch p.parent s → IsCertifiedIn members q
      by_settler before rest joined s (d0, e, inl x) =
          let h : has_certified c.notes s ≡ true =
          subst (λ ns. has_certified ns s ≡ true) (sym joined)
          (any_front (is_certified s) before rest x) in
          let same_s =
          one_notarized r.epochs (block_fits r) members l s q
          (certified_rests r.epochs (block_fits r) members c.notes
          (l.honest c.place c.notes c.at) s h)
          a (d0 ∙ sym of) (e ∙ sym same) in
          subst (IsCertifiedIn members) same_s (certified_in c.place c.notes c.at s h)
      by_settler before rest joined s (d0, e, inr x) =
          let h : has_cert c.notes (Finalize s) ≡ true =
          subst (λ ns. has_cert ns (Finalize s) ≡ true) (sym joined)
          (any_front (is_cert (Finalize s)) before rest x) in
          let stands = (l.honest c.place c.notes c.at).certs_stand (Finalize s) h in
          let d = finalized_in s stands in
          let same_s =
          one_notarized r.epochs (block_fits r) members l s q
          (certified_rests r.epochs (block_fits r) members d.notes
          (l.honest d.place d.notes d.at) s d.certified)
          a (d0 ∙ sym of) (e ∙ sym same) in
          subst (IsCertifiedIn members) same_s d

      by_view : (before rest : List Note) → c.notes ≡ before ++ rest → Fitting r before p
          → ((p.parent == 0) ≡ true) ⊎ ((p.parent == 0) ≡ false) → IsCertifiedIn members q
      by_view before rest joined f (inl z) =
          absurd
          (omega (
            arith,
            notarized_above r.epochs (block_fits r) members l q a,
            eqb-true p.parent 0 z,
          ))
      by_view before rest joined f (inr n) =
          let (s, e, g) =
          map_some (λ (s : Proposal). s.payload) (settler before p.epoch p.parent) f.over
          (sym
          (cond-false (p.parent == 0) (epoch_parent (genesis_commitment r) before p.epoch)
          (option_map (λ (s : Proposal). s.payload)
          (settler before p.epoch p.parent))
          n)
          ∙ f.settles) in
          by_settler before rest joined s (settler_tells before p.epoch p.parent s e)

  way_in : (way : List Proposal) (p q : Proposal) → IsCertifiedIn members p
      → LeadsTo r.epochs members p way q → IsCertifiedIn members q
  way_in [] p q c e = subst (IsCertifiedIn members) e c
  way_in (s ∷ way) p q c (a, of, same, more) = way_in way s q (parent_in p s c a of same) more

  -- what a finalized proposal descends from is certified by an honest member that noted its block
  pub ancestors_in : (p q : Proposal) → Stands r.epochs members (Finalize p)
      → Descends r.epochs members p q → IsCertifiedIn members q
  ancestors_in p q a (way, leads) = way_in way p q (finalized_in p a) leads
