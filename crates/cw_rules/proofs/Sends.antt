-- A vote that a member sends is among its notes.
use Rattle.std.proofs.Common.{◌≡◌, ◌+◌, ℕ, Bool, true, false, ◌&&◌, ◌||◌, ◌==◌, not, cond, nat_lt, List, [], ◌∷◌, ◌++◌, Option, Some, None, map, option_map, slice_get, filter, filter_map, flat_map, refl, sym, ◌∙◌, inl, inr, ◌⊎◌, unwrap_or}
use Rattle.std.specs.List.{list_any, last_or, cons_option}
use Rattle.std.specs.Option.{option_map_or}
use Rattle.std.proofs.lemmas.Bool.{or_cases, or_left, or_right, and_parts, false≢true}
use Rattle.std.proofs.lemmas.List.Folds.{list_any-append}
use Rattle.cw_types.specs.declared.commitment.Commitment.{Commitment}
use Rattle.cw_types.specs.declared.event.Event.{Event}
use Rattle.cw_types.specs.declared.event.Out.{Out}
use Rattle.cw_types.specs.declared.event.To.{To}
use Rattle.cw_types.specs.declared.message.Message.{Message}
use Rattle.cw_types.specs.declared.note.Note.{Note}
use Rattle.cw_types.specs.declared.vote.Cert.{Cert}
use Rattle.cw_types.specs.declared.vote.Vote.{Vote}
use Rattle.cw_types.specs.Block.{Block}
use Rattle.cw_types.specs.Epochs.{members_in, place}
use Rattle.cw_types.specs.Same.{same_commitment, same_vote}
use Rattle.cw_rules.specs.Accepted.{Came, Row, State, first_some, is_chunk_of, same_part}
use Rattle.cw_rules.specs.Held.{held, noted_block_of}
use Rattle.cw_rules.specs.Notes.{epoch_of, has_vote, is_vote}
use Rattle.cw_rules.specs.Rules.{Chunk, Rules, chunks, commit, config, genesis_commitment}
use Rattle.cw_rules.specs.declared.travel.Travel.{Travel}
use Rattle.cw_rules.specs.declared.travel.Travel.TheVariants.{Chunked, Uncut}
use Rattle.cw_rules.specs.Sends.{answer, block_sends, chunk_out, finalization_at, finalization_outs, missing, note_sends, own_chunk, sends, to_all}
use Rattle.cw_rules.specs.Step.{nothing_came, start}
use Rattle.cw_rules.specs.World.{is_sent_vote, is_vote_of, sent_from}
use Rattle.cw_base.specs.Config.{same_counts}

-- one of two lists has it
pub any_cases : {X : Type 0} (t : X → Bool) (xs ys : List X) → list_any t (xs ++ ys) ≡ true
    → (list_any t xs ≡ true) ⊎ (list_any t ys ≡ true)
any_cases t xs ys h = or_cases (list_any t xs) (list_any t ys) (sym (list_any-append t xs ys) ∙ h)

module _ (i : ℕ) (v : Vote) where
  abbrev pub votes : Out → Bool
  votes o = is_vote_of i v o.message

  -- what was sent from a member is among its outs
  pub any_sent : (n j : ℕ) (outs : List Out)
      → list_any (is_sent_vote i v) (sent_from n j outs) ≡ true → list_any votes outs ≡ true
  any_sent n j [] h = h
  any_sent n j (o ∷ os) h =
      go (or_cases ((j == i) && votes o) (list_any (is_sent_vote i v) (sent_from (n + 1) j os)) h)
      (any_sent (n + 1) j os)
    where
      go : (((j == i) && votes o) ≡ true)
          ⊎ (list_any (is_sent_vote i v) (sent_from (n + 1) j os) ≡ true)
          → (list_any (is_sent_vote i v) (sent_from (n + 1) j os) ≡ true → list_any votes os ≡ true)
          → (votes o || list_any votes os) ≡ true
      go (inl e) later = or_left (votes o) (list_any votes os) (and_parts (j == i) (votes o) e).1
      go (inr e) later = or_right (votes o) (list_any votes os) (later e)

  -- lists without votes
  none_mapped : {X : Type 0} (f : X → Out) → ((x : X) → votes (f x) ≡ false) → (xs : List X)
      → list_any votes (map f xs) ≡ true → ⊥
  none_mapped f n [] h = false≢true h
  none_mapped f n (x ∷ xs) h =
      go (or_cases (votes (f x)) (list_any votes (map f xs)) h) (none_mapped f n xs)
    where
      go : (votes (f x) ≡ true) ⊎ (list_any votes (map f xs) ≡ true)
          → (list_any votes (map f xs) ≡ true → ⊥) → ⊥
      go (inl e) later = false≢true (sym (n x) ∙ e)
      go (inr e) later = later e

  none_filtered : {X : Type 0} (f : X → Option Out)
      → ((x : X) → option_map_or votes (f x) false ≡ false) → (xs : List X)
      → list_any votes (filter_map f xs) ≡ true → ⊥
  none_filtered f n [] h = false≢true h
  none_filtered f n (x ∷ xs) h = go (f x) (n x) h (none_filtered f n xs)
    where
      go : (o : Option Out) → option_map_or votes o false ≡ false
          → list_any votes (cons_option o (filter_map f xs)) ≡ true
          → (list_any votes (filter_map f xs) ≡ true → ⊥) → ⊥
      go None e h later = later h
      go (Some y) e h later = or_so (or_cases (votes y) (list_any votes (filter_map f xs)) h)
        where
          or_so : (votes y ≡ true) ⊎ (list_any votes (filter_map f xs) ≡ true) → ⊥
          or_so (inl t) = false≢true (sym e ∙ t)
          or_so (inr t) = later t

  chunk_none : (id : ℕ) (list : List ℕ) (c : Commitment) (x : Chunk)
      → option_map_or votes (chunk_out id list c x) false ≡ false
  chunk_none id list c x = go (slice_get list x.index)
    where
      go : (o : Option ℕ)
          → option_map_or votes (option_map (λ (j : ℕ). record {
            to = cond (j == id) To.All (To.One j);
            message = Message.Shard c x;
          }) o) false
          ≡ false
      go None = refl
      go (Some j) = refl

  none_optional : {X : Type 0} (f : X → List Out) → ((x : X) → list_any votes (f x) ≡ true → ⊥)
      → (o : Option X) → list_any votes (option_map_or f o []) ≡ true → ⊥
  none_optional f n None h = false≢true h
  none_optional f n (Some x) h = n x h

  none_when : (b : Bool) (xs : List Out) → (list_any votes xs ≡ true → ⊥)
      → list_any votes (cond b xs []) ≡ true → ⊥
  none_when true xs n h = n h
  none_when false xs n h = false≢true h

  -- what a block sends holds no vote
  block_none : (t : Travel) (r : Rules) (id epoch : ℕ) (b : Block)
      → list_any votes (block_sends t r id epoch b) ≡ true → ⊥
  block_none Chunked r id epoch b =
      none_filtered (chunk_out id (members_in r.epochs epoch) (commit r b))
      (λ x. chunk_none id (members_in r.epochs epoch) (commit r b) x) (chunks r b)
  block_none Uncut r id epoch b = false≢true

  -- what a note sends
  note_votes : (r : Rules) (id : ℕ) (all : List Note) (notes : List Note)
      → list_any votes (flat_map (note_sends r id all) notes) ≡ true → has_vote notes v ≡ true
  note_votes r id all [] h = h
  note_votes r id all (note ∷ notes) h =
      or_so (any_cases votes (note_sends r id all note) (flat_map (note_sends r id all) notes) h)
      (note_votes r id all notes)
    where
      here : (n : Note) → list_any votes (note_sends r id all n) ≡ true → has_vote (n ∷ []) v ≡ true
      here (Note.Vote w) h = go (or_cases ((id == i) && same_vote v w) false h)
        where
          go : (((id == i) && same_vote v w) ≡ true) ⊎ (false ≡ true)
              → (same_vote v w || false) ≡ true
          go (inl e) = or_left (same_vote v w) false (and_parts (id == i) (same_vote v w) e).1
          go (inr e) = absurd (false≢true e)
      here (Note.Verified epoch view c) h =
          absurd
          (none_optional (block_sends r.travel r id epoch)
          (λ b. block_none r.travel r id epoch b)
          (first_some (noted_block_of c) all) h)
      here _ h = absurd (false≢true h)

      or_so : (list_any votes (note_sends r id all note) ≡ true)
          ⊎ (list_any votes (flat_map (note_sends r id all) notes) ≡ true)
          → (list_any votes (flat_map (note_sends r id all) notes) ≡ true → has_vote notes v ≡ true)
          → has_vote (note ∷ notes) v ≡ true
      or_so (inl e) later =
          list_any-append (is_vote v) (note ∷ []) notes
          ∙ or_left (has_vote (note ∷ []) v) (has_vote notes v) (here note e)
      or_so (inr e) later = or_right (is_vote v note) (has_vote notes v) (later e)

  -- the other sends hold no vote
  own_chunk_none : (r : Rules) (id epoch : ℕ) (came : Came) (e : Event)
      → list_any votes (own_chunk r id epoch came e) ≡ true → ⊥
  own_chunk_none r id epoch came (Event.Deliver m) h = by_message m h
    where
      by_message : (m : Message)
          → list_any votes (own_chunk r id epoch came (Event.Deliver m)) ≡ true → ⊥
      by_message (Message.Shard c x) h =
          none_when
          (option_map_or (λ at. x.index == at) (place r.epochs epoch id) false
          && same_counts c.config (config r epoch) && is_chunk_of r c x
          && not (list_any (same_part (Row c x)) came.parts))
          (to_all (Message.Shard c x) ∷ []) false≢true h
      by_message _ h = false≢true h
  own_chunk_none r id epoch came _ h = false≢true h

  answer_none : (r : Rules) (id : ℕ) (notes : List Note) (e : Event)
      → list_any votes (answer r id notes e) ≡ true → ⊥
  answer_none r id notes (Event.Deliver m) h = by_message m h
    where
      block_out : ℕ → Block → List Out
      block_out j b = record { to = To.One j; message = Message.Block b } ∷ []

      by_message : (m : Message) → list_any votes (answer r id notes (Event.Deliver m)) ≡ true → ⊥
      by_message (Message.Ask j c) h =
          none_when (nat_lt j r.epochs.total && not (same_commitment c (genesis_commitment r)))
          (option_map_or (block_out j) (held r notes c) [])
          (none_optional (block_out j) (λ b. false≢true) (held r notes c)) h
      by_message (Message.AskHeight j height) h =
          none_when (nat_lt j r.epochs.total) _
          (none_optional (finalization_outs r notes j)
          (λ s. none_optional (block_out j) (λ b. false≢true) _)
          (first_some (finalization_at r notes height) notes))
          h
      by_message _ h = false≢true h
  answer_none r id notes (Event.Hint height) h =
      by_found (first_some (finalization_at r notes height) notes) h
    where
      by_found : (o : Option Cert)
          → list_any votes (option_map_or (λ _. []) o (to_all (Message.AskHeight id height) ∷ []))
          ≡ true
          → ⊥
      by_found None h = false≢true h
      by_found (Some s) h = false≢true h
  answer_none r id notes _ h = false≢true h

  -- a vote that a step sends is among the step's notes
  pub sends_voted : (r : Rules) (id : ℕ) (before after : State) (e : Event) (notes : List Note)
      → list_any votes (sends r id before after e notes) ≡ true → has_vote notes v ≡ true
  sends_voted r id before after e notes h = three (any_cases votes (a ++ b ++ c) d h)
    where
      a : List Out
      a = flat_map (note_sends r id after.notes) notes

      b : List Out
      b = own_chunk r id (epoch_of before.notes) before.came e

      asked : Commitment → Out
      asked x = to_all (Message.Ask id x)

      news : List Commitment
      news = filter (λ x. not (list_any (same_commitment x) (missing r before))) (missing r after)

      c : List Out
      c = map asked news

      d : List Out
      d = answer r id after.notes e

      one : (list_any votes a ≡ true) ⊎ (list_any votes b ≡ true) → has_vote notes v ≡ true
      one (inl x) = note_votes r id after.notes notes x
      one (inr x) = absurd (own_chunk_none r id (epoch_of before.notes) before.came e x)

      two : (list_any votes (a ++ b) ≡ true) ⊎ (list_any votes c ≡ true) → has_vote notes v ≡ true
      two (inl x) = one (any_cases votes a b x)
      two (inr x) = absurd (none_mapped asked (λ _. refl) news x)

      three : (list_any votes (a ++ b ++ c) ≡ true) ⊎ (list_any votes d ≡ true)
          → has_vote notes v ≡ true
      three (inl x) = two (any_cases votes (a ++ b) c x)
      three (inr x) = absurd (answer_none r id after.notes e x)

  -- a vote that a start sends is among the notes on the disk
  last_among : (frames : List (List Note)) (o : Option (List Note))
      → has_vote (unwrap_or (last_or o frames) []) v ≡ true
      → (has_vote (unwrap_or o []) v ≡ true)
      ⊎ (has_vote (flat_map (λ frame. frame) frames) v ≡ true)
  last_among [] o h = inl h
  last_among (f ∷ fs) o h = inr (go (last_among fs (Some f) h))
    where
      go : (has_vote f v ≡ true) ⊎ (has_vote (flat_map (λ frame. frame) fs) v ≡ true)
          → has_vote (f ++ flat_map (λ frame. frame) fs) v ≡ true
      go (inl x) =
          list_any-append (is_vote v) f (flat_map (λ frame. frame) fs)
          ∙ or_left (has_vote f v) (has_vote (flat_map (λ frame. frame) fs) v) x
      go (inr x) =
          list_any-append (is_vote v) f (flat_map (λ frame. frame) fs)
          ∙ or_right (has_vote f v) (has_vote (flat_map (λ frame. frame) fs) v) x

  pub start_voted : (r : Rules) (id : ℕ) (frames : List (List Note))
      → list_any votes (start r id frames).sent ≡ true
      → has_vote (flat_map (λ frame. frame) frames) v ≡ true
  start_voted r id frames h = go (any_cases votes again (map asked gone) h)
    where
      asked : Commitment → Out
      asked x = to_all (Message.Ask id x)

      all : List Note
      all = flat_map (λ frame. frame) frames

      gone : List Commitment
      gone = missing r (record { notes = all; came = nothing_came; given = [] })

      again : List Out
      again = flat_map (note_sends r id all) (unwrap_or (last_or None frames) [])

      by_last : (has_vote [] v ≡ true) ⊎ (has_vote all v ≡ true) → has_vote all v ≡ true
      by_last (inl x) = absurd (false≢true x)
      by_last (inr x) = x

      go : (list_any votes again ≡ true) ⊎ (list_any votes (map asked gone) ≡ true)
          → has_vote all v ≡ true
      go (inl x) =
          by_last
          (last_among frames None (note_votes r id all (unwrap_or (last_or None frames) []) x))
      go (inr x) = absurd (none_mapped asked (λ _. refl) gone x)
