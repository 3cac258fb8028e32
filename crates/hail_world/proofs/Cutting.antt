-- A step with a stop, from what the log says of it and from the law of a stop.
use Rattle.std.proofs.Common.{◌≡◌, ℕ, zero, suc, ◌+◌, ◌<◌, ◌≤◌, ◌^◌, ◌==◌, ◌&&◌, ◌||◌, Bool, true, false, nat_lt, nat_le, List, [], ◌∷◌, ◌++◌, length, map, Option, Some, None, Ok, refl, sym, ap, subst, ◌∙◌, arith}
use Rattle.std.specs.Prelude.{if◌then◌else◌}
use Rattle.std.proofs.lemmas.Bool.Decides.{nat_tests}
use Rattle.std.proofs.lemmas.List.{length-append, map-append}
use Rattle.cw_types.specs.Encoding.{epoch_tag_bytes, note_bytes}
use Rattle.cw_types.specs.declared.event.Event.{Event}
use Rattle.cw_types.specs.declared.event.StepOut.{StepOut}
use Rattle.cw_types.specs.declared.note.Note.{Note}
use Rattle.cw_types.specs.declared.vote.Vote.{Vote}
use Rattle.cw_rules.specs.Rules.{Rules}
use Rattle.cw_rules.specs.Step.{Member, Stepped, add_frame, cut_step, state_of, step, step_notes, stopped, taken}
use Rattle.marshal.specs.Frames.{FindsNotes, ReadBack, frame_bytes, note_frames}
use Rattle.node.specs.State.{notes_of_step}
use Rattle.node_disk.specs.Cut.{IsArmed, kept_frames, leaves_it}
use Rattle.node_disk.specs.Disk.{DeviceCall, IsCutShort}
use Rattle.node_disk.specs.Frames.{Finds}
use Rattle.node_disk.specs.Log.{HasAppended, LogState, WasCutShort, calls_of_append}
use Rattle.node_disk.specs.Memory.{Continues, MemoryState, memory_state}
use Rattle.hail_world.specs.MemoryNodes.{HasStepped, MemoryNode, WasStopped, Works, out_of, with_stop}

-- ---- frames that are read

-- the frames that are found are those of notes that read back
pub on_disk : (frames : List (List Note)) (bytes : List ℕ) → Finds (map frame_bytes frames) bytes
    → ReadBack frames → FindsNotes frames bytes
on_disk frames bytes found back = ap note_frames found ∙ back

-- the frames of a node that works are on its disk
pub at_work : (s : MemoryNode) → Works s
    → FindsNotes s.member.frames (memory_state s.log.disk).now.seen
at_work s works =
    on_disk s.member.frames (memory_state s.log.disk).now.seen (rw works.frames at works.found)
    works.readable

tagged : (low high epoch : ℕ) → 0 < length (epoch_tag_bytes low high epoch)
unfolding epoch_tag_bytes
tagged low high epoch = go (epoch == 0) refl
  where
    go : (t : Bool) → (epoch == 0) ≡ t → 0 < length (epoch_tag_bytes low high epoch)
    go true e = rw e (omega arith)
    go false e = rw e (omega arith)

before : (xs ys : List ℕ) → 0 < length xs → 0 < length (xs ++ ys)
before [] ys some = absurd (omega (arith, some))
before (x ∷ xs) ys some = omega arith

-- a note has bytes
some_bytes : (n : Note) → 0 < length (note_bytes n)
unfolding note_bytes
some_bytes (Note.Block c b) = omega arith
some_bytes (Note.Verified e v c) =
    before (epoch_tag_bytes 1 10 e ++ _) _ (before (epoch_tag_bytes 1 10 e) _ (tagged 1 10 e))
some_bytes (Note.Certified p) = before (epoch_tag_bytes 2 9 p.epoch) _ (tagged 2 9 p.epoch)
some_bytes (Note.Vote v) = omega arith
some_bytes (Note.Cert c) = omega arith
some_bytes (Note.Ack h) = omega arith
some_bytes (Note.Floor h) = omega arith
some_bytes (Note.Prune h) = omega arith
some_bytes (Note.Epoch e c) = omega arith

nothing_written : (gate : ℕ) (did rest : List DeviceCall) (next : DeviceCall)
    → calls_of_append gate (frame_bytes []) ≡ did ++ next ∷ rest → ⊥
nothing_written gate [] rest next e = cc
nothing_written gate (d ∷ did) rest next e = cc

-- ---- tests

or_true : (a b : Bool) → b ≡ true → (a || b) ≡ true
or_true true b e = refl
or_true false b e = e

third_or_fourth : (a : ℕ) → 0 < a → a ≤ 4 → (a == 3 || a == 4) ≡ nat_lt 2 a
third_or_fourth a low high = grind (arith, nat_tests)

above_zero : (c : ℕ) → nat_le 1 c ≡ nat_lt 0 c
above_zero c = grind (arith, nat_tests)

kept_as : (a c x : ℕ) → 0 < a → a ≤ 4 → leaves_it a c x ≡ (nat_lt 2 a && (nat_lt 0 c || (x == 1)))
kept_as a c x low high = rw (third_or_fourth a low high, above_zero c) refl

-- ---- a cut step

-- what the disk holds, and what was given out, are those of a step with a stop
abbrev pub IsCut : Stepped → MemoryState → StepOut → Type 0
IsCut cut disk out =
    FindsNotes cut.member.frames (memory_state disk).now.seen × (cut.member.live ≡ false)
    × (out ≡ out_of cut)

-- the step is complete, and the member stops
whole_cut : (r : Rules) (id : ℕ) (signed : ℕ → Vote → Bool) (m : Member) (a c x : ℕ) (e : Event)
    → ((length (step_notes r id (taken r signed (state_of m) e) e) == 0) || nat_lt 4 a) ≡ true
    → cut_step r id signed m a c x e
    ≡ record {
      member = stopped (step r id signed m e).member (step r id signed m e).member.frames;
      sent = (step r id signed m e).sent;
      handed = (step r id signed m e).handed;
      tickets = (step r id signed m e).tickets;
    }
whole_cut r id signed m a c x e t = rw t refl

-- nothing leaves, and the member stops
short_cut : (r : Rules) (id : ℕ) (signed : ℕ → Vote → Bool) (m : Member) (a c x : ℕ) (e : Event)
    → ((length (step_notes r id (taken r signed (state_of m) e) e) == 0) || nat_lt 4 a) ≡ false
    → cut_step r id signed m a c x e
    ≡ record {
      member =
          stopped m
          (if nat_lt 2 a && (nat_lt 0 c || (x == 1)) then (step r id signed m e).member.frames
          else m.frames);
      sent = [];
      handed = [];
      tickets = [];
    }
short_cut r id signed m a c x e t = rw t refl

-- where the step's notes are written behind the stop, or there are none
pub cut_whole : (r : Rules) (signed : ℕ → Vote → Bool) (e : Event) (s new : MemoryNode)
    (out : StepOut)
    (a c x : ℕ)
    → (0 < length (frame_bytes (notes_of_step r signed s e)) → 4 < a)
    → HasStepped r signed e (with_stop a c x s) new out
    → IsCut (cut_step r s.id signed s.member a c x e) new.log.disk out
cut_whole r signed e s new out a c x past h = go (notes_of_step r signed s e) refl
  where
    behind : (ns : List Note) → notes_of_step r signed s e ≡ ns
        → ((length (notes_of_step r signed s e) == 0) || nat_lt 4 a) ≡ true
    behind [] is = rw is refl
    behind (n ∷ ns) is =
        let some : 0 < length (frame_bytes (notes_of_step r signed s e)) =
        rw is (before (note_bytes n) (frame_bytes ns) (some_bytes n)) in
        let far : 4 < a = past some in
        or_true (length (notes_of_step r signed s e) == 0) (nat_lt 4 a) (grind (arith, nat_tests))

    go : (ns : List Note) → notes_of_step r signed s e ≡ ns
        → IsCut (cut_step r s.id signed s.member a c x e) new.log.disk out
    go ns is =
        rw (whole_cut r s.id signed s.member a c x e (behind ns is)) (
          subst (λ (m : Member). FindsNotes m.frames (memory_state new.log.disk).now.seen) h.member
              (at_work new h.works),
          refl,
          h.gives,
        )

-- where the disk cut it short
pub cut_short : (r : Rules) (signed : ℕ → Vote → Bool) (e : Event) (s new : MemoryNode) (a c x : ℕ)
    → Works s → 0 < a
    → (a ≤ 4)
    × Finds (kept_frames a c x s.log.frames (frame_bytes (notes_of_step r signed s e)))
    (memory_state new.log.disk).now.seen
    → WasStopped r signed e (with_stop a c x s) new
    → IsCut (cut_step r s.id signed s.member a c x e) new.log.disk
    (record { sent = []; handed = []; tickets = [] })
cut_short r signed e s new a c x works low law h = go (notes_of_step r signed s e) refl
  where
    test : (n : Note) (ns : List Note) → notes_of_step r signed s e ≡ n ∷ ns
        → ((length (notes_of_step r signed s e) == 0) || nat_lt 4 a) ≡ false
    test n ns is = let high : a ≤ 4 = law.0 in rw is (grind (arith, nat_tests))

    kept : (n : Note) (ns : List Note) → notes_of_step r signed s e ≡ n ∷ ns → (keep : Bool)
        → leaves_it a c x ≡ keep → (nat_lt 2 a && (nat_lt 0 c || (x == 1))) ≡ keep
        → FindsNotes
        (if nat_lt 2 a && (nat_lt 0 c || (x == 1))
        then (step r s.id signed s.member e).member.frames else s.member.frames)
        (memory_state new.log.disk).now.seen
    kept n ns is true p q =
        let back : ReadBack (s.member.frames ++ (n ∷ ns) ∷ []) = rw is at h.readable in
        let found : Finds (s.log.frames ++ frame_bytes (n ∷ ns) ∷ [])
        (memory_state new.log.disk).now.seen =
        rw (p, is) at law.1 in
        let both : s.log.frames ++ frame_bytes (n ∷ ns) ∷ []
        ≡ map frame_bytes (s.member.frames ++ (n ∷ ns) ∷ []) =
        ap (λ (l : List (List ℕ)). l ++ frame_bytes (n ∷ ns) ∷ []) works.frames
        ∙ sym (map-append frame_bytes s.member.frames ((n ∷ ns) ∷ [])) in
        rw (q, is)
        (on_disk (s.member.frames ++ (n ∷ ns) ∷ []) (memory_state new.log.disk).now.seen
        (subst (λ (l : List (List ℕ)). Finds l (memory_state new.log.disk).now.seen) both
        found)
        back)
    kept n ns is false p q =
        let found : Finds s.log.frames (memory_state new.log.disk).now.seen = rw p at law.1 in
        rw q
        (on_disk s.member.frames (memory_state new.log.disk).now.seen
        (subst (λ (l : List (List ℕ)). Finds l (memory_state new.log.disk).now.seen)
        works.frames found)
        works.readable)

    go : (ns : List Note) → notes_of_step r signed s e ≡ ns
        → IsCut (cut_step r s.id signed s.member a c x e) new.log.disk
        (record { sent = []; handed = []; tickets = [] })
    go [] is =
        absurd
        (nothing_written s.log.gate h.cut.calls.did h.cut.calls.rest h.cut.calls.next
        (rw is at h.cut.calls.whole))
    go (n ∷ ns) is =
        rw (short_cut r s.id signed s.member a c x e (test n ns is))
        (kept n ns is (leaves_it a c x) refl (sym (kept_as a c x low law.0)), refl, refl)
