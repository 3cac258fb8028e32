-- What is known at each height answers as the searches do.
use Rattle.std.proofs.Common.{◌≡◌, ◌⊎◌, inl, inr, ℕ, zero, suc, ◌<◌, ◌≤◌, ◌==◌, ◌&&◌, true, false, nat_lt, take, refl, sym, ◌∙◌, ap, arith, eq-eqb, List, [], ◌∷◌, length, Option, Some, None, slice_get}
use Rattle.std.specs.List.{AllByRecursion, filter_map, position}
use Rattle.std.specs.Option.{option_map_or, option_or}
use Rattle.std.proofs.lemmas.Bool.{cond-false, false≢true}
use Rattle.std.proofs.lemmas.Bool.Decides.{nat_tests}
use Rattle.std.proofs.lemmas.Option.{none-some, same_Some}
use Rattle.cw_types.specs.Same.{same_commitment}
use Rattle.cw_types.specs.declared.commitment.Commitment.{Commitment}
use Rattle.cw_types.specs.declared.note.Note.{Note}
use Rattle.cw_types.specs.declared.vote.Cert.{Cert}
use Rattle.cw_types.specs.declared.vote.Proposal.{Proposal}
use Rattle.cw_types.proofs.Same.{same_commitment_self}
use Rattle.cw_rules.specs.Accepted.{first_some}
use Rattle.cw_rules.specs.Held.{at_height, finalization_of, greatest_prune}
use Rattle.cw_rules.specs.Reached.{In}
use Rattle.cw_rules.specs.Rules.{Rules, genesis_commitment}
use Rattle.cw_rules.specs.Sends.{finalization_at}
use Rattle.marshal.specs.Bare.{reached_by}
use Rattle.marshal.specs.Heights.{HaveReached, there}
use Rattle.marshal.specs.Reach.{is_final}
use Rattle.marshal.proofs.Entering.{Entries}
use Rattle.marshal.proofs.FirstStays.{Finalizes, final_is, in_filter}
use Rattle.marshal.proofs.Growing.{first_in, reaches_itself}
use Rattle.marshal.proofs.Lookups.{by_block}
use Rattle.marshal.proofs.Reaching.{position_upto, taken}

-- where nothing is found, nothing is at any element
found_some : {X Y : Type 0} (f : X → Option Y) (xs : List X) (x : X) (y : Y) → In x xs → f x ≡ Some y
    → first_some f xs ≡ None → ⊥
found_some f [] x y inside e none = absurd inside
found_some {X} {Y} f (z ∷ zs) x y inside e none =
    go (f z) refl inside none (found_some f zs x y)
  where
    go : (o : Option Y) → f z ≡ o → In x (z ∷ zs) → option_or o (first_some f zs) ≡ None
        → (In x zs → f x ≡ Some y → first_some f zs ≡ None → ⊥) → ⊥
    go (Some w) is i h later = none-some w (sym h)
    go None is (inl same) h later = none-some y (sym is ∙ (ap f (sym same) ∙ e))
    go None is (inr i) h later = later i e h

in_at : {X : Type 0} (xs : List X) (i : ℕ) (x : X) → slice_get xs i ≡ Some x → In x xs
in_at [] i x e = absurd (none-some x e)
in_at (y ∷ ys) zero x e = inl (sym (same_Some y x e))
in_at (y ∷ ys) (suc i) x e = inr (in_at ys i x e)

module _ (r : Rules) (notes : List Note) (h : ℕ) (at : Entries)
    (have : HaveReached r notes (filter_map finalization_of notes) at) where
  -- what the first finalization that reaches the height reaches there
  pub first_known : greatest_prune notes ≤ h
      → there h at ≡ first_some (reached_by r notes h) (filter_map finalization_of notes)
  first_known high =
      go (first_some (reached_by r notes h) (filter_map finalization_of notes)) refl
    where
      none : first_some (reached_by r notes h) (filter_map finalization_of notes) ≡ None
          → (o : Option Commitment) → there h at ≡ o → o ≡ None
      none e None is = refl
      none e (Some c) is =
          let (p, inside, by) = have.sound h c high is in
          absurd
          (found_some (reached_by r notes h) (filter_map finalization_of notes) p c inside by e)

      go : (o : Option Commitment)
          → first_some (reached_by r notes h) (filter_map finalization_of notes) ≡ o
          → there h at ≡ o
      go (Some c) e =
          let (p, inside, by) =
          first_in (reached_by r notes h) (filter_map finalization_of notes) c e in
          have.whole h c (p, inside, by)
      go None e = none e (there h at) refl

  unpruned : (h == 0) ≡ false → (nat_lt 0 h && nat_lt h (greatest_prune notes)) ≡ false
      → greatest_prune notes ≤ h
  unpruned up kept = go either
    where
      either : (h ≡ 0) ⊎ (greatest_prune notes ≤ h)
      either = grind (arith, nat_tests)

      go : (h ≡ 0) ⊎ (greatest_prune notes ≤ h) → greatest_prune notes ≤ h
      go (inl z) = absurd (false≢true (sym up ∙ eq-eqb h 0 z))
      go (inr p) = p

  pub known_at_height : (h == 0) ≡ false
      → (nat_lt 0 h && nat_lt h (greatest_prune notes)) ≡ false
      → there h at ≡ at_height r notes h
  known_at_height up kept =
      first_known (unpruned up kept)
      ∙ sym
      (cond-false (h == 0) (Some (genesis_commitment r))
      (first_some (reached_by r notes h) (filter_map finalization_of notes)) up)

  -- a finalization of the height is of what is reached there
  of_what_is : (i : ℕ) (note : Note) (cert : Cert) → slice_get notes i ≡ Some note
      → finalization_at r notes h note ≡ Some cert
      → (c : Commitment) × (there h at ≡ Some c) × (is_final c note ≡ true)
  of_what_is i note cert e is = on (final_is r notes h note cert is)
    where
      on : Finalizes r notes h note cert
          → (c : Commitment) × (there h at ≡ Some c) × (is_final c note ≡ true)
      on w = (
        w.proposal.payload,
        have.whole h w.proposal.payload (
          w.proposal,
          in_filter finalization_of note w.proposal notes (in_at notes i note e) w.finalizes,
          by_block r notes w.proposal w.block w.is_held h
              ∙ reaches_itself r notes w.block.height h w.proposal.payload w.block w.height,
        ),
        ap (λ (o : Option Proposal).
            option_map_or (λ p. same_commitment w.proposal.payload p.payload) o false)
            w.finalizes
            ∙ same_commitment_self w.proposal.payload,
      )

  nowhere : (k : ℕ)
      → ((i : ℕ) (note : Note) (c : Commitment) → i < k → slice_get notes i ≡ Some note
      → there h at ≡ Some c → is_final c note ≡ true → ⊥)
      → AllByRecursion (λ note. finalization_at r notes h note ≡ None) (take k notes)
  nowhere k each =
      taken (λ note. finalization_at r notes h note ≡ None) k notes
      (λ i note l e. go i note l e (finalization_at r notes h note) refl)
    where
      go : (i : ℕ) (note : Note) → i < k → slice_get notes i ≡ Some note → (o : Option Cert)
          → finalization_at r notes h note ≡ o → finalization_at r notes h note ≡ None
      go i note l e None is = is
      go i note l e (Some cert) is =
          let (c, stands, of) = of_what_is i note cert e is in
          absurd (each i note c l e stands of)

  -- so none stands before the first finalization of that
  pub none_before : (c : Commitment) (place : ℕ) → there h at ≡ Some c
      → position (is_final c) notes ≡ Some place
      → AllByRecursion (λ note. finalization_at r notes h note ≡ None) (take place notes)
  none_before c place stands first =
      nowhere place
      (λ i note d l e too of.
      let one : d ≡ c = same_Some d c (sym too ∙ stands) in
      let (j, found, le) =
      position_upto (is_final c) notes i note e
      (ap (λ (k : Commitment). is_final k note) (sym one) ∙ of) in
      let same : j ≡ place = same_Some j place (sym found ∙ first) in
      omega (arith, le, l, same))

  pub none_of_it : (c : Commitment) → there h at ≡ Some c → position (is_final c) notes ≡ None
      → AllByRecursion (λ note. finalization_at r notes h note ≡ None) (take (length notes) notes)
  none_of_it c stands none =
      nowhere (length notes)
      (λ i note d l e too of.
      let one : d ≡ c = same_Some d c (sym too ∙ stands) in
      let (j, found, le) =
      position_upto (is_final c) notes i note e
      (ap (λ (k : Commitment). is_final k note) (sym one) ∙ of) in
      none-some j (sym none ∙ found))

  pub none_there : there h at ≡ None
      → AllByRecursion (λ note. finalization_at r notes h note ≡ None) (take (length notes) notes)
  none_there none = nowhere (length notes) (λ i note d l e too of. none-some d (sym none ∙ too))
