-- Whoever is live stays so while messages are delivered, and keeps what it has.
use Rattle.std.proofs.Common.{◌≡◌, ℕ, true, List, [], ◌∷◌, ◌++◌, Option, Some, None, option_and_then, option_map, refl, sym, ◌∙◌, ap, subst, inl, inr, ◌⊎◌, append_assoc, append-nil}
use Rattle.std.specs.List.{AllByRecursion}
use Rattle.std.specs.Option.{option_map_or}
use Rattle.std.proofs.lemmas.Bool.{cases_eq, cond-true, false≢true}
use Rattle.cw_types.specs.declared.commitment.Commitment.{Commitment}
use Rattle.cw_types.specs.declared.event.Event.{Event}
use Rattle.cw_types.specs.declared.message.Message.{Message}
use Rattle.cw_types.specs.declared.note.Note.{Note}
use Rattle.cw_rules.specs.Accepted.{State}
use Rattle.cw_rules.specs.Held.{greatest_floor, greatest_prune}
use Rattle.cw_rules.specs.Reached.{In}
use Rattle.cw_rules.specs.Rules.{Rules}
use Rattle.cw_rules.specs.Step.{Member, Stepped, member_notes, state_of, step, step_notes, taken}
use Rattle.cw_rules.specs.World.{Ask, Do, Line, World, done_by, happens, member_at, message_for, run, signed, turned, with_done}
use Rattle.cw_rules.proofs.Worlds.{frames_join}
use Rattle.cw_progress.specs.Fresh.{IsKept}
use Rattle.cw_progress.specs.Over.{is_delivery}
use Rattle.cw_progress.proofs.Over.{member_done}
use Rattle.cw_progress.proofs.Stages.{Later, delivered_later, delivery_floors, delivery_wishes}
use Rattle.cw_progress.proofs.Voting.{other_stands}

-- a list that has nothing in it is empty
none_in : {X : Type 0} (xs : List X) → ((x : X) → In x xs → ⊥) → xs ≡ []
none_in [] f = refl
none_in (x ∷ xs) f = absurd (f x (inl refl))

kept_same : (w : World) (i : ℕ) (m : Member) → member_at w i ≡ Some m → m.live ≡ true
    → IsKept w i m
kept_same w i m at live = record {
  member = m;
  there = at;
  live = live;
  more = [];
  notes = sym (append-nil (member_notes m));
  prune = refl;
  floor = λ e. refl;
  wishless = λ e. e;
}

kept_both : (w : World) (i : ℕ) (m n : Member) → (more : List Note)
    → member_notes n ≡ member_notes m ++ more
    → greatest_prune (member_notes n) ≡ greatest_prune (member_notes m)
    → (m.came.wishes ≡ [] → greatest_floor (member_notes n) ≡ greatest_floor (member_notes m))
    → (m.came.wishes ≡ [] → n.came.wishes ≡ []) → IsKept w i n → IsKept w i m
kept_both w i m n more notes prune floor wishless k = record {
  member = k.member;
  there = k.there;
  live = k.live;
  more = more ++ k.more;
  notes =
      k.notes
      ∙ (ap (λ ns. ns ++ k.more) notes ∙ append_assoc (member_notes m) more k.more);
  prune = k.prune ∙ prune;
  floor = λ e. k.floor (wishless e) ∙ floor e;
  wishless = λ e. k.wishless (wishless e);
}

module _ (r : Rules) where
  -- what one delivery leaves of its member
  one_kept : (w : World) (i : ℕ) (m : Member) → member_at w i ≡ Some m → (x : Message)
      → IsKept (with_done w i (step r i (signed w) m (Event.Deliver x))) i m
  one_kept w i m at x = record {
    member = done.member;
    there = member_done w i m done at;
    live = refl;
    more = later.more;
    notes = later.joined;
    prune = later.prune;
    floor =
        λ e.
        ap greatest_floor (frames_join m.frames (step_notes r i during (Event.Deliver x)))
        ∙ delivery_floors r i during x (λ c h. none e c h);
    wishless = λ e. none_in done.member.came.wishes (λ c h. none e c h);
  }
    where
      done : Stepped
      done = step r i (signed w) m (Event.Deliver x)

      during : State
      during = taken r (signed w) (state_of m) (Event.Deliver x)

      later : Later (member_notes m) (member_notes done.member)
      later = delivered_later r i (signed w) m x

      none : m.came.wishes ≡ [] → (c : Commitment) → In c during.came.wishes → ⊥
      none e c h = subst (In c) e (delivery_wishes r (signed w) m.came x c h)

  line_kept : (w : World) (line : Line) → is_delivery line ≡ true → (i : ℕ) (m : Member)
      → member_at w i ≡ Some m → m.live ≡ true → IsKept (happens r w line) i m
  line_kept w (Do j (Ask.Deliver number)) ok i m at live = go (cases_eq j i)
    where
      line : Line
      line = Do j (Ask.Deliver number)

      -- of another member nothing
      by_done : (j ≡ i → ⊥) → (o : Option Stepped)
          → IsKept (option_map_or (with_done w j) o w) i m
      by_done ne None = kept_same w i m at live
      by_done ne (Some done) =
          kept_same (with_done w j done) i m (other_stands w j done i m ne at) live

      by_message : (o : Option Message)
          → IsKept
          (option_map_or (with_done w i)
          (option_map (step r i (signed w) m) (option_map Event.Deliver o)) w)
          i m
      by_message None = kept_same w i m at live
      by_message (Some x) = one_kept w i m at x

      itself : done_by r w (Do i (Ask.Deliver number))
          ≡ option_map (step r i (signed w) m) (option_map Event.Deliver (message_for w i number))
      itself =
          ap (option_and_then (turned r w i (Do i (Ask.Deliver number)))) at
          ∙ cond-true m.live
          (option_map (step r i (signed w) m)
          (option_map Event.Deliver (message_for w i number)))
          None live

      go : (j ≡ i) ⊎ (j ≡ i → ⊥) → IsKept (happens r w (Do j (Ask.Deliver number))) i m
      go (inr ne) = by_done ne (done_by r w line)
      go (inl same) =
          subst (λ k. IsKept (happens r w (Do k (Ask.Deliver number))) i m) (sym same)
          (subst (λ o. IsKept (option_map_or (with_done w i) o w) i m) (sym itself)
          (by_message (message_for w i number)))
  line_kept w _ ok i m at live = absurd (false≢true ok)

  pub all_kept : (w : World) (lines : List Line)
      → AllByRecursion (λ line. is_delivery line ≡ true) lines → (i : ℕ) (m : Member)
      → member_at w i ≡ Some m → m.live ≡ true → IsKept (run r w lines) i m
  all_kept w [] are i m at live = kept_same w i m at live
  all_kept w (line ∷ lines) are i m at live =
      let k = line_kept w line are.0 i m at live in
      kept_both (run r w (line ∷ lines)) i m k.member k.more k.notes k.prune k.floor k.wishless
      (all_kept (happens r w line) lines are.1 i k.member k.there k.live)
