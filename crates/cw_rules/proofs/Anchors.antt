-- Each note of a turn that enters an epoch is anchored, and stays so.
use Rattle.std.proofs.Common.{◌≡◌, ℕ, zero, suc, List, [], ◌∷◌, ◌++◌, Option, Some, None, option_map, slice_get, slice_set, refl, sym, ◌∙◌, ap, subst, inl, inr, ◌⊎◌, append_assoc, append-nil}
use Rattle.std.proofs.lemmas.Bool.{false≢true}
use Rattle.std.proofs.lemmas.Option.{same_Some}
use Rattle.cw_types.specs.declared.commitment.Commitment.{Commitment}
use Rattle.cw_types.specs.declared.note.Note.{Note}
use Rattle.cw_types.specs.declared.vote.Vote.TheVariants.{Finalize}
use Rattle.cw_types.specs.Epochs.{Epochs}
use Rattle.cw_rules.specs.Fits.{block_fits}
use Rattle.cw_rules.specs.Keeps.{AllKeep, KeepsBy}
use Rattle.cw_rules.specs.Reached.{AllAnchored, In, IsAnchored, IsCluster, members_of}
use Rattle.cw_rules.specs.Rules.{Rules}
use Rattle.cw_rules.specs.Stands.{AreLawful, EachAfter, Members}
use Rattle.cw_rules.specs.Step.{Member, Stepped, add_frame, member_notes}
use Rattle.cw_rules.specs.World.{Line, World, with_done}
use Rattle.cw_rules.proofs.Lists.{in_cases}
use Rattle.cw_rules.proofs.StepKeeps.{each_append}
use Rattle.cw_rules.proofs.Grows.{Grows, Grows_sound, Grows_stands}
use Rattle.cw_rules.proofs.Worlds.{get-set, get-set_same, get-map, get-map_from, frames_join, members_done, grows_done, at_notes, means_at, grows_at, at_own, Turns, IsWorldKept, world_done, kept_lawful, kept_keep}
use Rattle.cw_rules.proofs.Blocks.{NoClash}
use Rattle.cw_rules.proofs.Bases.{IsFrontOf, anchored_new}

pub get-set_other : {X : Type 0} (xs : List X) (i j : ℕ) (x y : X) → (i ≡ j → ⊥)
    → slice_get xs j ≡ Some y → slice_get (slice_set xs i x) j ≡ Some y
get-set_other [] i j x y n h = h
get-set_other (z ∷ zs) zero zero x y n h = absurd (n refl)
get-set_other (z ∷ zs) zero (suc j) x y n h = h
get-set_other (z ∷ zs) (suc i) zero x y n h = h
get-set_other (z ∷ zs) (suc i) (suc j) x y n h = get-set_other zs i j x y (λ e. n (ap suc e)) h

anchored_later : (x : Epochs) (xs ys : Members) → Grows xs ys → (epoch : ℕ) (c : Commitment)
    → IsAnchored x xs epoch c → IsAnchored x ys epoch c
anchored_later x xs ys g epoch c a =
    record {
      proposal = a.proposal;
      stands = Grows_stands x (Finalize a.proposal) xs ys g a.stands;
      before = a.before;
      payload = a.payload;
    }

-- a turn up to some of its notes
front_turn : Member → List Note → Stepped
front_turn m front =
    record {
      member = record {
        frames = add_frame m.frames front;
        came = m.came;
        given = m.given;
        tickets = m.tickets;
        live = m.live;
      };
      sent = [];
      handed = [];
      tickets = [];
    }

module _ (r : Rules) (script : List Line) (w : World) (c : IsCluster r script)
    (k : IsWorldKept r script w) (i : ℕ) (m : Member) (at : slice_get w.members i ≡ Some (Some m))
    (done : Stepped) (k' : IsWorldKept r script (with_done w i done))
    (clear : NoClash r (with_done w i done)) where
  abbrev x : Epochs
  x = r.epochs

  -- the world with a part of the turn is kept
  kept_front : (front : List Note) → EachAfter (KeepsBy r (means_at r w i)) (member_notes m) front
      → IsWorldKept r script (with_done w i (front_turn m front))
  unfolding front_turn
  kept_front front e =
      world_done r script w i m (front_turn m front) (record {
        more = front;
        joined = frames_join m.frames front;
        keeps = e;
      }) k at
      (Grows_sound x (members_of w) (members_of (with_done w i (front_turn m front)))
      (grows_done w i m (front_turn m front) front at (frames_join m.frames front))
      m.came.ballots (k.each i m at).came)
      (k.each i m at).signers
      (λ v h. absurd (false≢true h))

  front_members : (front : List Note)
      → members_of (with_done w i (front_turn m front)) ≡ at_notes w i (member_notes m ++ front)
  unfolding front_turn
  front_members front =
      members_done w i (front_turn m front) ∙ ap (at_notes w i) (frames_join m.frames front)

  -- those members' notes are fronts of those after the turn
  fronts : (ns rest : List Note) → member_notes done.member ≡ ns ++ rest
      → (j : ℕ) (notes : List Note) → slice_get (at_notes w i ns) j ≡ Some (Some notes)
      → IsFrontOf (with_done w i done) j notes
  fronts ns rest joined j notes h = go (get-set (members_of w) i j (Some ns) (Some notes) h)
    where
      by_member : (i ≡ j → ⊥)
          → ((o : Option Member) × (slice_get w.members j ≡ Some o)
          × (option_map member_notes o ≡ Some notes))
          → IsFrontOf (with_done w i done) j notes
      by_member ne (None, e, f) = cc
      by_member ne (Some n, e, f) =
          record {
            member = n;
            rest = [];
            at = get-set_other w.members i j (Some done.member) (Some n) ne e;
            joined = same_Some (member_notes n) notes f ∙ sym (append-nil notes);
          }

      go : ((i ≡ j) × (Some ns ≡ Some notes))
          ⊎ ((i ≡ j → ⊥) × (slice_get (members_of w) j ≡ Some (Some notes)))
          → IsFrontOf (with_done w i done) j notes
      go (inl p) = record {
        member = done.member;
        rest = rest;
        at =
            subst (λ n. slice_get (with_done w i done).members n ≡ Some (Some done.member)) p.0
            (get-set_same w.members i (Some done.member) (Some m) at);
        joined = joined ∙ ap (λ ys. ys ++ rest) (same_Some ns notes p.1);
      }
      go (inr p) =
          by_member p.0 (get-map_from (option_map member_notes) w.members j (Some notes) p.1)

  own_at : (ns : List Note) → slice_get (at_notes w i ns) i ≡ Some (Some ns)
  own_at ns =
      get-set_same (members_of w) i (Some ns) (Some (member_notes m))
      (get-map (option_map member_notes) w.members i (Some m) at)

  -- with one more note all are anchored
  anchored_on : (ns rest : List Note) (note : Note) → AreLawful x (block_fits r) (at_notes w i ns)
      → AllKeep r (at_notes w i ns) → member_notes done.member ≡ ns ++ note ∷ rest
      → KeepsBy r (means_at r w i) ns note → AllAnchored x (at_notes w i ns)
      → AllAnchored x (at_notes w i (ns ++ note ∷ []))
  anchored_on ns rest note l keep joined kn a j notes h epoch d there =
      go (get-set (members_of w) i j (Some (ns ++ note ∷ [])) (Some notes) h)
    where
      later : IsAnchored x (at_notes w i ns) epoch d
          → IsAnchored x (at_notes w i (ns ++ note ∷ [])) epoch d
      later =
          anchored_later x (at_notes w i ns) (at_notes w i (ns ++ note ∷ []))
          (grows_at w i m at ns (note ∷ [])) epoch d

      new : Note.Epoch epoch d ≡ note → IsAnchored x (at_notes w i ns) epoch d
      new e =
          anchored_new r (with_done w i done) c.spans
          (kept_keep r script (with_done w i done) k') clear (at_notes w i ns) l keep
          (fronts ns (note ∷ rest) joined) a i ns (own_at ns) (sym (append-nil ns)) epoch d
          (subst (KeepsBy r (means_at r w i) ns) (sym e) kn)

      by_part : In (Note.Epoch epoch d) ns ⊎ In (Note.Epoch epoch d) (note ∷ [])
          → IsAnchored x (at_notes w i (ns ++ note ∷ [])) epoch d
      by_part (inl t) = later (a i ns (own_at ns) epoch d t)
      by_part (inr (inl t)) = later (new t)
      by_part (inr (inr t)) = absurd t

      go : ((i ≡ j) × (Some (ns ++ note ∷ []) ≡ Some notes))
          ⊎ ((i ≡ j → ⊥) × (slice_get (members_of w) j ≡ Some (Some notes)))
          → IsAnchored x (at_notes w i (ns ++ note ∷ [])) epoch d
      go (inl p) =
          by_part
          (in_cases (Note.Epoch epoch d) ns (note ∷ [])
          (subst (In (Note.Epoch epoch d)) (sym (same_Some (ns ++ note ∷ []) notes p.1))
          there))
      go (inr p) =
          later
          (a j notes (get-set_other (members_of w) i j (Some ns) (Some notes) p.0 p.1) epoch d
          there)

  -- with all of them
  anchored_along : (front rest : List Note)
      → member_notes done.member ≡ member_notes m ++ (front ++ rest)
      → EachAfter (KeepsBy r (means_at r w i)) (member_notes m) front
      → EachAfter (KeepsBy r (means_at r w i)) (member_notes m ++ front) rest
      → AllAnchored x (at_notes w i (member_notes m ++ front))
      → AllAnchored x (at_notes w i (member_notes m ++ (front ++ rest)))
  anchored_along front [] joined e f a =
      subst (λ ns. AllAnchored x (at_notes w i (member_notes m ++ ns))) (sym (append-nil front)) a
  anchored_along front (note ∷ rest) joined e f a =
      let kw = kept_front front e in
      let l =
      subst (AreLawful x (block_fits r)) (front_members front)
      (kept_lawful r script (with_done w i (front_turn m front)) c kw) in
      let keep =
      subst (AllKeep r) (front_members front)
      (kept_keep r script (with_done w i (front_turn m front)) kw) in
      let next =
      anchored_on (member_notes m ++ front) rest note l keep
      (joined ∙ sym (append_assoc (member_notes m) front (note ∷ rest))) f.0 a in
      let split : (front ++ note ∷ []) ++ rest ≡ front ++ note ∷ rest =
      append_assoc front (note ∷ []) rest in
      let onto : (member_notes m ++ front) ++ note ∷ [] ≡ member_notes m ++ (front ++ note ∷ []) =
      append_assoc (member_notes m) front (note ∷ []) in
      subst (λ ns. AllAnchored x (at_notes w i (member_notes m ++ ns))) split
      (anchored_along (front ++ note ∷ []) rest
      (joined ∙ ap (λ ns. member_notes m ++ ns) (sym split))
      (each_append (KeepsBy r (means_at r w i)) (member_notes m) front (note ∷ []) e (f.0, tt))
      (subst (λ ns. EachAfter (KeepsBy r (means_at r w i)) ns rest) onto f.1)
      (subst (λ ns. AllAnchored x (at_notes w i ns)) onto next))

  -- after a turn all are anchored
  pub anchored_done : Turns r w i m done → AllAnchored x (members_of w)
      → AllAnchored x (members_of (with_done w i done))
  anchored_done t a =
      let start : AllAnchored x (at_notes w i (member_notes m ++ [])) =
      subst (λ ns. AllAnchored x (at_notes w i ns)) (sym (append-nil (member_notes m)))
      (subst (AllAnchored x) (sym (at_own w i m at)) a) in
      subst (AllAnchored x) (ap (at_notes w i) (sym t.joined) ∙ sym (members_done w i done))
      (anchored_along [] t.more t.joined tt
      (subst (λ ns. EachAfter (KeepsBy r (means_at r w i)) ns t.more)
      (sym (append-nil (member_notes m))) t.keeps)
      start)
