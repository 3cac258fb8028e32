-- Where blocks travel whole no chunk is taken or passed on, and what is voted for was seen.
use Rattle.std.proofs.Common.{◌≡◌, ℕ, Bool, true, false, ◌&&◌, cond, not, nat_lt, List, [], ◌∷◌, length, Some, None, ◌==◌, IsTrue, is_some, refl, sym, ◌∙◌, ap, inl, inr, ◌⊎◌}
use Rattle.std.specs.List.{list_any}
use Rattle.std.specs.Option.{option_map_or}
use Rattle.std.proofs.lemmas.Bool.{and_parts, or_cases, or_right, cases_Bool, cond-true, cond-false}
use Rattle.cw_base.specs.Config.{same_counts}
use Rattle.cw_types.specs.Block.{Block}
use Rattle.cw_types.specs.Epochs.{is_last, place}
use Rattle.cw_types.specs.Numbers.{config_for}
use Rattle.cw_types.specs.Same.{same_commitment}
use Rattle.cw_types.specs.declared.commitment.Commitment.{Commitment}
use Rattle.cw_types.specs.declared.event.Event.{Event}
use Rattle.cw_types.specs.declared.event.Out.{Out}
use Rattle.cw_types.specs.declared.message.Message.{Message}
use Rattle.cw_types.specs.declared.note.Note.{Note}
use Rattle.cw_types.specs.declared.vote.Proposal.{Proposal}
use Rattle.cw_types.specs.declared.vote.Vote.{Vote}
use Rattle.cw_types.specs.declared.vote.Vote.TheVariants.{Notarize}
use Rattle.cw_rules.specs.Accepted.{Came, Part, Row, State, Whole, accepted, first_some, is_chunk_of, same_part, take_part}
use Rattle.cw_rules.specs.Held.{held, shown, shown_by, shown_whole, whole_of}
use Rattle.cw_rules.specs.Notes.{settled}
use Rattle.cw_rules.specs.Owed.{all_nullified, can_vote, has_part, has_part_by, is_again, is_known, is_payload_for, is_ready, notarize_owed}
use Rattle.cw_rules.specs.Reached.{In}
use Rattle.cw_rules.specs.Rules.{Chunk, Rules, commit, config, genesis_commitment, is_chunked, is_under}
use Rattle.cw_rules.specs.declared.travel.Travel.TheVariants.{Uncut}
use Rattle.cw_rules.specs.Sends.{own_chunk, to_all}
use Rattle.cw_types.proofs.Same.{same_commitment-true, same_commitment_self}
use Rattle.cw_rules.proofs.Lists.{map_or_true, or_some, when_some}
use Rattle.cw_rules.proofs.OwedKeeps.{shown_under}

-- what came whole under a commitment is among the parts
is_whole : (r : Rules) (c : Commitment) (b : Block) (p : Part) → whole_of r c p ≡ Some b
    → Whole b ≡ p
is_whole r c b (Whole x) h = go (cases_Bool (same_commitment (commit r x) c))
  where
    go : (same_commitment (commit r x) c ≡ true) ⊎ (same_commitment (commit r x) c ≡ false)
        → Whole b ≡ Whole x
    go (inl t) = cc (cond-true (same_commitment (commit r x) c) (Some x) None t)
    go (inr f) = cc (cond-false (same_commitment (commit r x) c) (Some x) None f)
is_whole r c b (Row d x) h = cc

whole_in : (r : Rules) (c : Commitment) (b : Block) (parts : List Part)
    → first_some (whole_of r c) parts ≡ Some b → In (Whole b) parts
whole_in r c b [] h = cc
whole_in r c b (p ∷ ps) h =
    go (or_some (whole_of r c p) (first_some (whole_of r c) ps) b h) (whole_in r c b ps)
  where
    go : (whole_of r c p ≡ Some b) ⊎ (first_some (whole_of r c) ps ≡ Some b)
        → (first_some (whole_of r c) ps ≡ Some b → In (Whole b) ps) → In (Whole b) (p ∷ ps)
    go (inl e) later = inl (is_whole r c b p e)
    go (inr e) later = inr (later e)

module _ (r : Rules) (whole : r.travel ≡ Uncut) where
  no_chunk : (c : Commitment) (x : Chunk) → is_chunk_of r c x ≡ false
  no_chunk c x =
      ap
      (λ t. is_chunked t
      && list_any (λ list. same_counts c.config (config_for (length list))) r.epochs.lists
      && is_under r c x)
      whole

  pub chunk_untaken : (signed : ℕ → Vote → Bool) (came : Came) (c : Commitment) (x : Chunk)
      → accepted r signed came (Message.Shard c x) ≡ came
  chunk_untaken signed came c x = ap (λ b. take_part came b (Row c x)) (no_chunk c x)

  none : (before after : Bool) (sent : List Out) → cond (before && false && after) sent [] ≡ []
  none true after sent = refl
  none false after sent = refl

  pub chunk_unpassed : (id epoch : ℕ) (came : Came) (e : Event) → own_chunk r id epoch came e ≡ []
  chunk_unpassed id epoch came (Event.Deliver m) = by_message m
    where
      by_message : (m : Message) → own_chunk r id epoch came (Event.Deliver m) ≡ []
      by_message (Message.Shard c x) =
          let own : Bool = option_map_or (λ at. x.index == at) (place r.epochs epoch id) false in
          let config_is : Bool = same_counts c.config (config r epoch) in
          let new : Bool = not (list_any (same_part (Row c x)) came.parts) in
          let sent : List Out = to_all (Message.Shard c x) ∷ [] in
          ap (λ b. cond (own && config_is && b && new) sent []) (no_chunk c x)
          ∙ none (own && config_is) new sent
      by_message _ = refl
  chunk_unpassed id epoch came _ = refl

  pub shown_came : (came : Came) (c : Commitment) (b : Block) → shown r came c ≡ Some b
      → In (Whole b) came.parts × (commit r b ≡ c)
  shown_came came c b h = (
    go (same_commitment c (genesis_commitment r))
        (sym (ap (λ t. shown_by t r came c) whole) ∙ h),
    shown_under r came c b h,
  )
    where
      go : (t : Bool) → cond t None (shown_whole r came c) ≡ Some b → In (Whole b) came.parts
      go true e = cc
      go false e = whole_in r c b came.parts e

  pub genesis_unshown : (came : Came) → shown r came (genesis_commitment r) ≡ None
  genesis_unshown came =
      ap (λ t. shown_by t r came (genesis_commitment r)) whole
      ∙ cond-true (same_commitment (genesis_commitment r) (genesis_commitment r)) None
      (shown_whole r came (genesis_commitment r)) (same_commitment_self (genesis_commitment r))

  pub vote_seen : (id : ℕ) (s : State) (p : Proposal) (note : Note)
      → notarize_owed r id s p ≡ Some note → IsTrue (is_known r s p.payload)
  vote_seen id s p note h =
      let w = when_some _ (Note.Vote (Notarize p)) note h in
      let t6 = and_parts _ (all_nullified s.notes p.epoch p.parent p.view) w.0 in
      let t5 = and_parts _ (can_vote r id s p) t6.0 in
      let (c, e, f) =
      map_or_true (is_ready r id s p) (settled (genesis_commitment r) s.notes p.epoch p.parent)
      t5.1 in
      go c (or_cases (has_part r id s p && is_payload_for r p c) (is_again r s.notes p c) f)
    where
      go : (c : Commitment)
          → ((has_part r id s p && is_payload_for r p c) ≡ true) ⊎ (is_again r s.notes p c ≡ true)
          → IsTrue (is_known r s p.payload)
      go c (inl t) =
          sym (ap (λ t. has_part_by t r id s p) whole)
          ∙ (and_parts (has_part r id s p) (is_payload_for r p c) t).0
      go c (inr t) =
          let again =
          and_parts (same_commitment p.payload c && nat_lt 0 p.parent)
          (option_map_or (λ a. is_last r.epochs p.epoch a.height) (held r s.notes c) false) t in
          let same = and_parts (same_commitment p.payload c) (nat_lt 0 p.parent) again.0 in
          let (a, e, f) =
          map_or_true (λ (a : Block). is_last r.epochs p.epoch a.height) (held r s.notes c)
          again.1 in
          or_right (is_some (shown r s.came p.payload)) (is_some (held r s.notes p.payload))
          (ap (λ d. is_some (held r s.notes d)) (same_commitment-true p.payload c same.0)
          ∙ ap is_some e)
