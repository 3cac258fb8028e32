-- Whoever accepted its own chunk passed it on.
use Rattle.std.proofs.Common.{◌≡◌, ℕ, Bool, true, false, ◌&&◌, ◌==◌, not, List, [], ◌∷◌, ◌++◌, Some, None, refl, sym, ◌∙◌, ap, subst, inl, inr, ◌⊎◌, eq-eqb}
use Rattle.std.specs.List.{list_any}
use Rattle.std.specs.Option.{option_map_or}
use Rattle.std.proofs.lemmas.Bool.{and_from, cond-true}
use Rattle.cw_base.specs.Config.{same_counts}
use Rattle.cw_types.specs.declared.commitment.Commitment.{Commitment}
use Rattle.cw_types.specs.declared.event.Event.{Event}
use Rattle.cw_types.specs.declared.message.Message.{Message}
use Rattle.cw_types.specs.declared.note.Note.{Note}
use Rattle.cw_types.specs.Epochs.{place}
use Rattle.cw_rules.specs.Accepted.{Row, State, is_chunk_of, same_part}
use Rattle.cw_rules.specs.Keeps.{Keeps, Meaning, meaning}
use Rattle.cw_rules.specs.Notes.{epoch_of}
use Rattle.cw_rules.specs.Reached.{In, IsCluster, Reaches, members_of}
use Rattle.cw_rules.specs.Rules.{Chunk, Rules, config}
use Rattle.cw_rules.specs.Sends.{own_chunk, to_all}
use Rattle.cw_rules.specs.Stands.{EachAfter}
use Rattle.cw_rules.specs.Step.{Member, member_notes, state_of, step, step_notes, taken, with_notes}
use Rattle.cw_rules.specs.World.{Line, World, member_at, signed, with_done}
use Rattle.cw_rules.proofs.Worlds.{member_there}
use Rattle.cw_progress.specs.Sent.{IsSent}
use Rattle.cw_progress.proofs.Carries.{AnyLine, Carries, Turning, any_lines, extends_done, reached_all}
use Rattle.cw_progress.proofs.Outs.{sends_chunk, sent_done, sent_stays}
use Rattle.cw_progress.proofs.Taken.{chunks_taken}

-- where the first epoch has no end, no note enters another
no_epoch : (r : Rules) → r.epochs.span ≡ None → (m : Meaning) (before notes : List Note)
    → EachAfter (Keeps r m) before notes → epoch_of notes ≡ 0
no_epoch r none m before [] k = refl
no_epoch r none m before (Note.Epoch epoch c ∷ ns) k =
    let e : None ≡ Some k.0.span = sym none ∙ k.0.is_span in cc
no_epoch r none m before (Note.Verified epoch view c ∷ ns) k =
    no_epoch r none m (before ++ Note.Verified epoch view c ∷ []) ns k.1
no_epoch r none m before (Note.Block c b ∷ ns) k =
    no_epoch r none m (before ++ Note.Block c b ∷ []) ns k.1
no_epoch r none m before (Note.Vote v ∷ ns) k =
    no_epoch r none m (before ++ Note.Vote v ∷ []) ns k.1
no_epoch r none m before (Note.Cert s ∷ ns) k =
    no_epoch r none m (before ++ Note.Cert s ∷ []) ns k.1
no_epoch r none m before (Note.Certified p ∷ ns) k =
    no_epoch r none m (before ++ Note.Certified p ∷ []) ns k.1
no_epoch r none m before (Note.Ack h ∷ ns) k =
    no_epoch r none m (before ++ Note.Ack h ∷ []) ns k.1
no_epoch r none m before (Note.Floor h ∷ ns) k =
    no_epoch r none m (before ++ Note.Floor h ∷ []) ns k.1
no_epoch r none m before (Note.Prune h ∷ ns) k =
    no_epoch r none m (before ++ Note.Prune h ∷ []) ns k.1

-- each chunk at its own place that a member accepted was sent by it to all
abbrev ArePassed : Rules → World → ℕ → Member → Type 0
ArePassed r w i m =
    (c : Commitment) (x : Chunk) → In (Row c x) m.came.parts → place r.epochs 0 i ≡ Some x.index
    → same_counts c.config (config r 0) ≡ true → IsSent w i (to_all (Message.Shard c x))

module _ (r : Rules) (script : List Line) (none : r.epochs.span ≡ None) where
  passed_stepped : (w : World) (i : ℕ) (m : Member) (e : Event) → Turning r script AnyLine w i m e
      → ArePassed r w i m
      → ArePassed r (with_done w i (step r i (signed w) m e)) i (step r i (signed w) m e).member
  passed_stepped w i m e t all c x h own cut =
      go (chunks_taken r (signed w) m.came e c x h)
    where
      during : State
      during = taken r (signed w) (state_of m) e

      notes : List Note
      notes = step_notes r i during e

      first : epoch_of (member_notes m) ≡ 0
      first =
          no_epoch r none (meaning r.epochs (members_of w)) [] (member_notes m)
          (t.kept.each i m t.at).notes

      test : Bool
      test =
          option_map_or (λ at. x.index == at) (place r.epochs 0 i) false
          && same_counts c.config (config r 0) && is_chunk_of r c x
          && not (list_any (same_part (Row c x)) m.came.parts)

      passes : is_chunk_of r c x ≡ true → list_any (same_part (Row c x)) m.came.parts ≡ false
          → test ≡ true
      passes is new =
          and_from
          (option_map_or (λ at. x.index == at) (place r.epochs 0 i) false
          && same_counts c.config (config r 0) && is_chunk_of r c x)
          (not (list_any (same_part (Row c x)) m.came.parts))
          (and_from
          (option_map_or (λ at. x.index == at) (place r.epochs 0 i) false
          && same_counts c.config (config r 0))
          (is_chunk_of r c x)
          (and_from (option_map_or (λ at. x.index == at) (place r.epochs 0 i) false)
          (same_counts c.config (config r 0))
          (ap (λ o. option_map_or (λ at. x.index == at) o false) own
          ∙ eq-eqb x.index x.index refl)
          cut)
          is)
          (ap not new)

      chunk_out : is_chunk_of r c x ≡ true → list_any (same_part (Row c x)) m.came.parts ≡ false
          → In (to_all (Message.Shard c x))
          (own_chunk r i 0 m.came (Event.Deliver (Message.Shard c x)))
      chunk_out is new =
          subst (In (to_all (Message.Shard c x)))
          (sym (cond-true test (to_all (Message.Shard c x) ∷ []) [] (passes is new))) (inl refl)

      go : In (Row c x) m.came.parts
          ⊎ ((e ≡ Event.Deliver (Message.Shard c x)) × (is_chunk_of r c x ≡ true)
          × (list_any (same_part (Row c x)) m.came.parts ≡ false))
          → IsSent (with_done w i (step r i (signed w) m e)) i (to_all (Message.Shard c x))
      go (inl a) =
          sent_stays w (with_done w i (step r i (signed w) m e)) i (to_all (Message.Shard c x))
          (extends_done w i m (step r i (signed w) m e) t.at) (all c x a own cut)
      go (inr (is, fits, new)) =
          sent_done w i (step r i (signed w) m e) (to_all (Message.Shard c x))
          (sends_chunk r i (state_of m) (with_notes during notes) e notes
          (to_all (Message.Shard c x))
          (subst
          (λ y. In (to_all (Message.Shard c x))
          (own_chunk r i (epoch_of (member_notes m)) m.came y))
          (sym is)
          (subst
          (λ y. In (to_all (Message.Shard c x))
          (own_chunk r i y m.came (Event.Deliver (Message.Shard c x))))
          (sym first) (chunk_out fits new))))

  passed_carries : Carries r script AnyLine (ArePassed r)
  passed_carries = record {
    stays =
        λ w v i m e all c x h own cut.
        sent_stays w v i (to_all (Message.Shard c x)) e (all c x h own cut);
    first = λ i c x h own cut. absurd h;
    stepped = passed_stepped;
    halts = λ w i m all. all;
    kept = λ w i m e t all. all;
    started = λ w i m c at live all d x h own cut. absurd h;
  }

  pub own_passed : (w : World) → IsCluster r script → Reaches r script w → (i : ℕ) (m : Member)
      → member_at w i ≡ Some m → ArePassed r w i m
  own_passed w cluster reach i m at =
      reached_all r script AnyLine (ArePassed r) passed_carries w cluster (any_lines script) reach
      i m (member_there w i m at)
