-- Turns, one behind the other.
use Rattle.std.proofs.Common.{◌≡◌, ℕ, zero, suc, Bool, false, List, [], ◌∷◌, ◌++◌, Option, Some, is_none, map, slice_get, refl, sym, ◌∙◌, ap, subst, ⊎_elim, append_assoc, append-nil}
use Rattle.std.specs.List.{AllByRecursion, list_any}
use Rattle.std.specs.Option.{option_map_or}
use Rattle.std.proofs.lemmas.Bool.{or_cases, or_left, or_right}
use Rattle.cw_types.specs.declared.event.Handed.{Handed}
use Rattle.cw_types.specs.declared.event.Out.{Out}
use Rattle.cw_types.specs.declared.note.Note.{Note}
use Rattle.cw_rules.specs.Rules.{Rules}
use Rattle.cw_rules.specs.Step.{Member, Stepped, Tickets, add_frame}
use Rattle.cw_rules.specs.World.{Line, World, is_faulty, is_sent_vote, run, signed}
use Rattle.marshal.specs.Frames.{FindsNotes}
use Rattle.node.specs.Lives.{Turn, after_turns}
use Rattle.node_disk.specs.Disk.{DeviceCall}
use Rattle.member_session.specs.Told.{turn_calls, turn_notes}
use Rattle.member_runs.specs.Files.{some_frames}
use Rattle.member_runs.specs.Turns.{FindsTurns, IsFromBytes, turn_of, turns_calls, turns_handed, turns_notes, turns_sends}
use Rattle.member_runs.proofs.Accepts.{IsWithin}
use Rattle.member_runs.proofs.Going.{Goes, goes_nowhere, goes_on}
use Rattle.member_runs.proofs.Sharing.{HasFront, each_calls}
use Rattle.member_runs.proofs.Turned.{SameBut, bare, turn_goes}

add_noted : (frames : List (List Note)) (notes : List Note) (more : List (List Note))
    → add_frame frames notes ++ some_frames more ≡ frames ++ some_frames (notes ∷ more)
add_noted frames [] more = refl
add_noted frames (n ∷ ns) more = append_assoc frames ((n ∷ ns) ∷ []) (some_frames more)

module _ (r : Rules) (i : ℕ) where
  -- the frames behind some turns
  pub frames_after : (m : Member) (ts : List Turn)
      → (after_turns r i m ts).frames ≡ m.frames ++ some_frames (turns_notes r i m ts)
  frames_after m [] = sym (append-nil m.frames)
  frames_after m (t ∷ ts) =
      frames_after (turn_of r i m t).member ts
      ∙ add_noted m.frames (turn_notes r i m t) (turns_notes r i (turn_of r i m t).member ts)

  -- their calls are those of appends
  pub calls_are : (m : Member) (ts : List Turn)
      → turns_calls r i m ts ≡ each_calls m.frames (turns_notes r i m ts)
  calls_are m [] = refl
  calls_are m (t ∷ ts) =
      ap (λ (l : List (List DeviceCall)). turn_calls r i m t ∷ l)
      (calls_are (turn_of r i m t).member ts)

  pub split_turns : (m : Member) (ts : List Turn) (first rest : List (List Note))
      → turns_notes r i m ts ≡ first ++ rest
      → (front : List Turn) × (behind : List Turn) × (ts ≡ front ++ behind)
      × (turns_notes r i m front ≡ first)
  split_turns m ts [] rest is = ([], ts, refl, refl)
  split_turns m [] (f ∷ first) rest is = absurd (cc)
  split_turns m (t ∷ ts) (f ∷ first) rest is =
      let same : turn_notes r i m t ≡ f = cc in
      let others : turns_notes r i (turn_of r i m t).member ts ≡ first ++ rest = cc in
      let later = split_turns (turn_of r i m t).member ts first rest others in (
        t ∷ later.0,
        later.1,
        ap (λ (l : List Turn). t ∷ l) later.2,
        ap (λ (l : List (List Note)). turn_notes r i m t ∷ l) later.3
            ∙ ap (λ (x : List Note). x ∷ first) same,
      )

  -- a front of their notes is that of some turns
  pub finds_turns : (m : Member) (ts : List Turn) (image : List ℕ)
      → HasFront m.frames (turns_notes r i m ts) image → FindsTurns r i m ts image
  finds_turns m ts image front =
      let parts = split_turns m ts front.first front.rest front.whole in
      record {
        first = parts.0;
        rest = parts.1;
        whole = parts.2;
        found =
            subst (λ (fs : List (List Note)). FindsNotes fs image)
            (ap (λ (l : List (List Note)). m.frames ++ some_frames l) (sym parts.3)
            ∙ sym (frames_after m parts.0))
            front.found;
      }

-- ---- in a world

-- whether none stands at a place
abbrev none_at : List Bool → ℕ → Bool
none_at bs j = option_map_or (λ b. b) (slice_get bs j) false

none_there : {X : Type 0} (xs : List (Option X)) (j : ℕ)
    → option_map_or is_none (slice_get xs j) false ≡ none_at (map is_none xs) j
none_there [] j = refl
none_there (x ∷ xs) zero = refl
none_there (x ∷ xs) (suc j) = none_there xs j

-- with the same flags the same are there
pub same_flags : {X Y : Type 0} (xs : List (Option X)) (ys : List (Option Y))
    → map is_none xs ≡ map is_none ys → (j : ℕ)
    → option_map_or is_none (slice_get xs j) false ≡ option_map_or is_none (slice_get ys j) false
same_flags xs ys same j =
    none_there xs j ∙ ap (λ (l : List Bool). none_at l j) same ∙ sym (none_there ys j)

-- what was signed stays signed
pub more_signed : (r : Rules) (w : World) (lines : List Line) (i : ℕ) (m : Member)
    (sent : List Out) (handed : List Handed)
    → Goes r w lines i m sent handed → IsWithin (signed w) (signed (run r w lines))
more_signed r w lines i m sent handed goes j v h =
    ⊎_elim
    (λ bad. or_left (is_faulty (run r w lines) j) (list_any (is_sent_vote j v) (run r w lines).pool)
    (same_flags (run r w lines).members w.members goes.flags j ∙ bad))
    (λ said. or_right (is_faulty (run r w lines) j)
    (list_any (is_sent_vote j v) (run r w lines).pool) (goes.pool j v said))
    (or_cases (is_faulty w j) (list_any (is_sent_vote j v) w.pool) h)

-- these turns are of what was signed there
abbrev pub AllWithin : World → List Turn → Type 0
AllWithin w ts = AllByRecursion (λ (t : Turn). IsWithin t.signed (signed w)) ts

abbrev pub AllFromBytes : List Turn → Type 0
AllFromBytes ts = AllByRecursion (λ (t : Turn). IsFromBytes t.event) ts

pub still_within : (w v : World) → IsWithin (signed w) (signed v) → (ts : List Turn)
    → AllWithin w ts → AllWithin v ts
still_within w v more [] all = tt
still_within w v more (t ∷ ts) all =
    (λ j x h. more j x (all.0 j x h), still_within w v more ts all.1)

-- lines by which the member takes these turns
pub record TurnsGo (r : Rules) (w : World) (i : ℕ) (p : Member) (ts : List Turn) : Type 0 where
  pub lines : List Line
  pub member : Member
  pub same : SameBut (after_turns r i p ts) member
  pub goes : Goes r w lines i member (turns_sends r i p ts) (turns_handed r i p ts)

pub turns_go : (r : Rules) (i : ℕ) (p : Member) (tickets : Tickets) (ts : List Turn) (w : World)
    → slice_get w.members i ≡ Some (Some (bare p tickets)) → AllFromBytes ts → AllWithin w ts
    → TurnsGo r w i p ts
turns_go r i p tickets [] w at from within = record {
  lines = [];
  member = bare p tickets;
  same = (tickets, refl);
  goes = goes_nowhere r w i (bare p tickets) at;
}
turns_go r i p tickets (t ∷ ts) w at from within =
    let d : Stepped = turn_of r i p t in
    let one = turn_goes r i p tickets w at t.signed within.0 t.event from.0 in
    let v : World = run r w one.lines in
    let more = more_signed r w one.lines i one.member d.sent d.handed one.goes in
    let later =
    turns_go r i d.member one.same.0 ts v
    (one.goes.at ∙ ap (λ (m : Member). Some (Some m)) one.same.1) from.1
    (still_within w v more ts within.1) in
    record {
      lines = one.lines ++ later.lines;
      member = later.member;
      same = later.same;
      goes =
          goes_on r w one.lines later.lines i one.member later.member d.sent
          (turns_sends r i d.member ts) d.handed (turns_handed r i d.member ts) one.goes
          later.goes;
    }
