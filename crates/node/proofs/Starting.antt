-- A member that starts stands for the notes of its store.
use Rattle.std.proofs.Common.{◌≡◌, ℕ, ◌<◌, Bool, true, false, ◌==◌, List, [], ◌∷◌, ◌++◌, filter, map, take, None, option_and_then, refl, sym, ◌∙◌, ap, subst, append_assoc, append-nil, arith, zero, suc}
use Rattle.cw_base.specs.declared.hash.Digest32.{Digest32}
use Rattle.cw_types.specs.Block.{Block}
use Rattle.cw_types.specs.declared.commitment.Commitment.{Commitment}
use Rattle.cw_types.specs.declared.note.Note.{Note}
use Rattle.cw_rules.specs.Accepted.{State}
use Rattle.cw_rules.specs.Held.{if_committed, shown}
use Rattle.cw_rules.specs.Rules.{Rules, block_of}
use Rattle.std.specs.List.{flat_map, last_or}
use Rattle.std.specs.Prelude.{unwrap_or}
use Rattle.cw_types.specs.Epochs.{Epochs}
use Rattle.cw_types.specs.declared.event.StepOut.{StepOut}
use Rattle.cw_types.specs.declared.message.Message.{Message}
use Rattle.cw_rules.specs.Sends.{missing, note_sends, to_all}
use Rattle.cw_rules.specs.Step.{deliveries, no_tickets, nothing_came, start, with_notes}
use Rattle.cw_rules.specs.declared.travel.Travel.{Travel}
use Rattle.cw_rules_coded.specs.Coded.{coded, ruled}
use Rattle.node_disk.specs.Log.{LogState}
use Rattle.shards.specs.Kept as kept
use Rattle.shards.specs.Standing as shards
use Rattle.node.specs.Asking.{asks}
use Rattle.node.specs.Holding.{Holding, begun, came_of, own_state, member_of, rules_of}
use Rattle.node.specs.Leading.{GoesOnFrom, is_led}
use Rattle.node.specs.Standing.{PartsStand}
use Rattle.node.specs.State.{stepped}
use Rattle.node.specs.Store.{Store, stored_notes}
use Rattle.node.specs.declared.leads.Led.{Led}
use Rattle.voter.specs.Known.{Known, with_note, unknowing}
use Rattle.voter.specs.Standing as voter
use Rattle.std.proofs.lemmas.Bool.{le-ltb}
use Rattle.marshal.proofs.Floors.{no_notes}
use Rattle.node.proofs.Noting.{notes_on}

-- a tally that is told more notes stands for the member with them
pub stands_told : (hash : List ℕ → Digest32) (r : Rules)
    → ((t : Known) (s : State) → voter.IsTallyOf hash t r s → (note : Note)
    → voter.IsTallyOf hash (with_note t note) r (with_notes s (note ∷ [])))
    → (notes : List Note) (t : Known) (s : State) → voter.IsTallyOf hash t r s
    → voter.IsTallyOf hash (record t { notes = t.notes ++ notes }) r (with_notes s notes)
stands_told hash r law [] t s stands =
    subst (λ (u : Known). voter.IsTallyOf hash u r (with_notes s []))
    (λ i. record t { notes = sym (append-nil t.notes) i })
    (subst (λ (u : State). voter.IsTallyOf hash t r u) (sym (no_notes s)) stands)
stands_told hash r law (note ∷ notes) t s stands =
    let more =
    stands_told hash r law notes (with_note t note) (with_notes s (note ∷ []))
    (law t s stands note) in
    subst (λ (u : Known). voter.IsTallyOf hash u r (with_notes s (note ∷ notes)))
    (λ i. record t { notes = append_assoc t.notes (note ∷ []) notes i })
    (subst
    (λ (u : State). voter.IsTallyOf hash
    (record t { notes = (t.notes ++ note ∷ []) ++ notes }) r u)
    (notes_on s (note ∷ []) notes) more)

filter_all : {X : Type 0} (xs : List X) → filter (λ x. true) xs ≡ xs
filter_all [] = refl
filter_all (x ∷ xs) = ap (λ l. x ∷ l) (filter_all xs)

take_none : {X : Type 0} (n : ℕ) → take n (let l : List X = [] in l) ≡ []
take_none zero = refl
take_none (suc n) = refl

-- no chunks show nothing
nothing_shown : (hash : List ℕ → Digest32) (x : Epochs) (c : Commitment) → 0 < c.config.minimum
    → shown (kept.chunk_rules hash x) (kept.kept_came []) c ≡ None
nothing_shown hash x c some =
    let no : (0 == c.config.minimum) ≡ false = grind arith in
    ap
    (λ l. option_and_then (if_committed (kept.chunk_rules hash x) c)
    (block_of (kept.chunk_rules hash x) c.config l))
    (take_none c.config.minimum)
    ∙ rw no refl

-- a member that knows nothing yet
abbrev pub knows_nothing : State
knows_nothing = record { notes = []; came = nothing_came; given = [] }

-- a start goes on from there
pub from_nothing : (r : Rules) (now : State) (entries : List (Commitment × Led)) → entries ≡ []
    → GoesOnFrom r knows_nothing now entries
from_nothing r now entries none = record {
  more = now.notes;
  notes = refl;
  rises = omega arith;
  led = λ c height low.
      ap (λ (l : List (Commitment × Led)). is_led l height c) none
      ∙ le-ltb height 0 (omega arith);
}

module _ {D A : Type 0} (hash : List ℕ → Digest32) (accepts : A → Block → Block → Bool) where
  pub stands_begun : (travel : Travel) (id : ℕ) (x : Epochs) (backlog : ℕ) (app : A) (t : Store)
      (log : LogState D)
      → t.epochs ≡ x → t.backlog ≡ backlog → t.failed ≡ false
      → ((u : Known) (s : State)
      → voter.IsTallyOf hash u (ruled travel hash x backlog (accepts app)) s
      → (note : Note)
      → voter.IsTallyOf hash (with_note u note) (ruled travel hash x backlog (accepts app))
      (with_notes s (note ∷ [])))
      → voter.IsTallyOf hash (unknowing x id) (ruled travel hash x backlog (accepts app))
      (record { notes = []; came = nothing_came; given = t.given })
      → shards.StandsFor hash (record { epochs = x; kept = [] })
      (coded hash x backlog (accepts app)) nothing_came
      → PartsStand hash accepts (begun travel id x backlog app t log)
  stands_begun travel id x backlog app t log epochs same running law first chunks = record {
    epochs = epochs;
    backlog = same;
    running = running;
    id = refl;
    tally =
        stands_told hash (ruled travel hash x backlog (accepts app)) law (stored_notes t)
        (unknowing x id) (record { notes = []; came = nothing_came; given = t.given }) first;
    shards = chunks;
    rows = refl;
    named = refl;
    shown = λ c some. nothing_shown hash x c some;
  }

  -- a start as a whole
  pub opened : (h d : Holding D A) (out : StepOut)
      → h.store.staged ≡ [] → came_of h ≡ nothing_came → h.store.given ≡ []
      → h.store.tickets ≡ no_tickets
      → out.sent
      ≡ flat_map (note_sends (rules_of hash accepts h) h.id (stored_notes h.store))
      (unwrap_or (last_or None h.store.frames) [])
      ++ asks h.id (missing (rules_of hash accepts h) (own_state h)) []
      → out.handed ≡ deliveries (rules_of hash accepts h) (own_state h)
      → out.tickets ≡ []
      → d
      ≡ record h
      { store = record h.store { given = h.store.given ++ map (λ x. x.height) out.handed } }
      → stepped (member_of true d) out ≡ start (rules_of hash accepts h) h.id h.store.frames
  opened h d out quiet fresh given tickets sent handed none left =
      let r = rules_of hash accepts h in
      let frames = flat_map (λ (frame : List Note). frame) h.store.frames in
      let notes = ap (λ l. frames ++ l) quiet ∙ append-nil frames in
      let first : State = record { notes = frames; came = nothing_came; given = [] } in
      let state : own_state h ≡ first =
      λ i. record { notes = notes i; came = fresh i; given = given i } in
      let all =
      sent
      ∙ (λ i. flat_map (note_sends r h.id (notes i))
      (unwrap_or (last_or None h.store.frames) [])
      ++ map (λ c. to_all (Message.Ask h.id c)) (filter_all (missing r (state i)) i)) in
      let out_now = handed ∙ ap (deliveries r) state in
      let given_now =
      ap (λ (k : Holding D A). k.store.given) left
      ∙ (λ i. given i ++ map (λ x. x.height) (out_now i)) in
      λ i. record {
        member =
            record {
              frames = (ap (λ (k : Holding D A). k.store.frames) left) i;
              came = (ap (λ (k : Holding D A). came_of k) left ∙ fresh) i;
              given = given_now i;
              tickets = (ap (λ (k : Holding D A). k.store.tickets) left ∙ tickets) i;
              live = true;
            };
        sent = all i;
        handed = out_now i;
        tickets = none i;
      }
