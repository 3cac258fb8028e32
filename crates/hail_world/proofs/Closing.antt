-- The disks and nodes that are handed back, place by place.
use Rattle.std.proofs.Common.{◌≡◌, ℕ, zero, suc, ◌+◌, true, false, List, [], ◌∷◌, ◌++◌, length, map, Option, Some, None, refl, sym, ap, ◌∙◌, arith, subst, append-nil}
use Rattle.std.specs.Prelude.{filter_map}
use Rattle.std.specs.List.{enumerate_from}
use Rattle.std.proofs.lemmas.List.Elements.{filter_map-append}
use Rattle.cw_types.specs.declared.note.Note.{Note}
use Rattle.cw_rules.specs.Rules.{Rules}
use Rattle.cw_rules.specs.Step.{Member}
use Rattle.node_disk.specs.Memory.{memory_state}
use Rattle.hail_world.specs.declared.place.Place.{Place}
use Rattle.hail_world.specs.declared.place.Place.TheVariants as place
use Rattle.marshal.specs.Frames.{FindsNotes}
use Rattle.hail_world.specs.Offers.{some_of}
use Rattle.hail_world.specs.Places.{SitAs, WorkBy, SitsAs, WorksBy}
use Rattle.hail_world.specs.Reports.{AreNodesOf, HoldNotes, IsLiveAs, IsNodeOfMember, numbered}
use Rattle.hail_world.specs.Runs.{HandsBack}
use Rattle.hail_world.specs.MemoryNodes.{MemoryNode}
use Rattle.hail_world.proofs.Cutting.{at_work}

abbrev there : List (Option Member) → List Member
there os = filter_map (λ o. o) os

abbrev there_from : ℕ → List (Option Member) → List (ℕ × Member)
there_from k os = filter_map numbered (enumerate_from k os)

-- what is handed back of places is that of the members who are there
abbrev pub ClosedSo : List (Place MemoryNode) → List (List ℕ) → List (Option MemoryNode) → Type 0
ClosedSo ps disks nodes =
    (r : Rules) (os : List (Option Member)) → WorkBy r 0 ps → SitAs ps os
    → HoldNotes (there os) disks × AreNodesOf r (there_from 0 os) disks nodes

hold_push : (ms : List Member) (ds : List (List ℕ)) (m : Member) (d : List ℕ) → HoldNotes ms ds
    → FindsNotes m.frames d → HoldNotes (ms ++ m ∷ []) (ds ++ d ∷ [])
hold_push [] [] m d h e = (e, tt)
hold_push [] (x ∷ ds) m d h e = absurd h
hold_push (y ∷ ms) [] m d h e = absurd h
hold_push (y ∷ ms) (x ∷ ds) m d h e = (h.0, hold_push ms ds m d h.1 e)

node_push : (r : Rules) (ms : List (ℕ
    × Member)) (ds : List (List ℕ)) (ns : List (Option MemoryNode))
    (m : ℕ × Member) (d : List ℕ) (n : Option MemoryNode)
    → AreNodesOf r ms ds ns → IsLiveAs r m d n
    → AreNodesOf r (ms ++ m ∷ []) (ds ++ d ∷ []) (ns ++ n ∷ [])
node_push r [] [] [] m d n h e = (e, tt)
node_push r [] [] (z ∷ ns) m d n h e = absurd h
node_push r [] (x ∷ ds) ns m d n h e = absurd h
node_push r (y ∷ ms) [] ns m d n h e = absurd h
node_push r (y ∷ ms) (x ∷ ds) [] m d n h e = absurd h
node_push r (y ∷ ms) (x ∷ ds) (z ∷ ns) m d n h e = (h.0, node_push r ms ds ns m d n h.1 e)

-- the last place and the others
record Split (r : Rules) (k : ℕ) (ps : List (Place MemoryNode)) (p : Place MemoryNode)
    (os : List (Option Member)) : Type 0 where
  front : List (Option Member)
  last : Option Member
  whole : os ≡ front ++ last ∷ []
  sounds : WorkBy r k ps
  members : SitAs ps front
  sound : WorksBy r (k + length front) p
  member : SitsAs p last

split : (r : Rules) (k : ℕ) (ps : List (Place MemoryNode)) (p : Place MemoryNode)
    (os : List (Option Member))
    → WorkBy r k (ps ++ p ∷ []) → SitAs (ps ++ p ∷ []) os → Split r k ps p os
split r k [] p [] s h = absurd h
split r k [] p (o ∷ []) s h =
    let same : k ≡ k + 0 = omega arith in
    record {
      front = [];
      last = o;
      whole = refl;
      sounds = tt;
      members = tt;
      sound = subst (λ (i : ℕ). WorksBy r i p) same s.0;
      member = h.0;
    }
split r k [] p (o ∷ x ∷ os) s h = absurd h.1
split r k (q ∷ ps) p [] s h = absurd h
split r k (q ∷ ps) p (o ∷ os) s h =
    let more = split r (k + 1) ps p os s.1 h.1 in
    let same : k + 1 + length more.front ≡ k + length (o ∷ more.front) = omega arith in
    record {
      front = o ∷ more.front;
      last = more.last;
      whole = ap (λ (l : List (Option Member)). o ∷ l) more.whole;
      sounds = (s.0, more.sounds);
      members = (h.0, more.members);
      sound = subst (λ (i : ℕ). WorksBy r i p) same more.sound;
      member = more.member;
    }

-- what is handed back of one place
one : (r : Rules) (i : ℕ) (p : Place MemoryNode) (o : Option Member)
    (closed : Option (List ℕ × Option MemoryNode)) (ms : List Member) (at : List (ℕ × Member))
    (ds : List (List ℕ)) (ns : List (Option MemoryNode))
    → WorksBy r i p → SitsAs p o → HandsBack p closed → HoldNotes ms ds → AreNodesOf r at ds ns
    → HoldNotes (ms ++ there (o ∷ [])) (ds ++ map (λ c. c.0) (some_of closed))
    × AreNodesOf r (at ++ filter_map numbered ((i, o) ∷ []))
    (ds ++ map (λ c. c.0) (some_of closed)) (ns ++ map (λ c. c.1) (some_of closed))
one r i place.Faulty None closed ms at ds ns s m c h n =
    rw (c, append-nil ms, append-nil at, append-nil ds, append-nil ns) (h, n)
one r i place.Faulty (Some x) closed ms at ds ns s m c h n = absurd m
one r i (place.Live q) None closed ms at ds ns s m c h n = absurd m
one r i (place.Live q) (Some x) closed ms at ds ns s m c h n =
    let works = s.2 in
    let held : FindsNotes x.frames (memory_state q.log.disk).now.seen =
    subst (λ (y : Member). FindsNotes y.frames (memory_state q.log.disk).now.seen) m
    (at_work q works) in
    let node : IsNodeOfMember r i x (memory_state q.log.disk).now.seen q =
    record {
      live = ap (λ (y : Member). y.live) (sym m) ∙ works.live;
      id = s.1;
      rules = s.0;
      member = m;
      works = works;
      calm = s.3;
      bytes = refl;
    } in
    rw c (
      hold_push ms ds x (memory_state q.log.disk).now.seen h held,
      node_push r at ds ns (i, x) (memory_state q.log.disk).now.seen (Some q) n node,
    )
one r i (place.Stopped disk notes) None closed ms at ds ns s m c h n = absurd m
one r i (place.Stopped disk notes) (Some x) closed ms at ds ns s m c h n =
    rw c (
      hold_push ms ds x (memory_state disk).now.seen h m.1,
      node_push r at ds ns (i, x) (memory_state disk).now.seen None n m.0,
    )

there_push : (k : ℕ) (os : List (Option Member)) (o : Option Member)
    → there_from k (os ++ o ∷ [])
    ≡ there_from k os ++ filter_map numbered ((k + length os, o) ∷ [])
there_push k [] o =
    let same : k ≡ k + 0 = omega arith in
    ap (λ (i : ℕ). filter_map numbered ((i, o) ∷ [])) same
there_push k (None ∷ os) o =
    let same : k + 1 + length os ≡ k + length (None ∷ os) = omega arith in
    there_push (k + 1) os o
    ∙ ap
    (λ (i : ℕ). there_from (k + 1) os ++ filter_map numbered ((i, o) ∷ []))
    same
there_push k (Some m ∷ os) o =
    let same : k + 1 + length os ≡ k + length (Some m ∷ os) = omega arith in
    ap (λ (l : List (ℕ × Member)). (k, m) ∷ l)
    (there_push (k + 1) os o
    ∙ ap
    (λ (i : ℕ). there_from (k + 1) os ++ filter_map numbered ((i, o) ∷ []))
    same)

pub closed_more : (ps : List (Place MemoryNode)) (p : Place MemoryNode)
    (closed : Option (List ℕ × Option MemoryNode))
    (ds es : List (List ℕ)) (ns ms : List (Option MemoryNode))
    → ClosedSo ps ds ns → HandsBack p closed
    → es ≡ ds ++ map (λ c. c.0) (some_of closed) → ms ≡ ns ++ map (λ c. c.1) (some_of closed)
    → ClosedSo (ps ++ p ∷ []) es ms
closed_more ps p closed ds es ns ms inv c a b r os s h =
    let parts = split r 0 ps p os s h in
    let before = inv r parts.front parts.sounds parts.members in
    let done =
    one r (0 + length parts.front) p parts.last closed (there parts.front)
    (there_from 0 parts.front) ds ns parts.sound parts.member c before.0 before.1 in
    rw (
      a,
      b,
      parts.whole,
      filter_map-append (λ (o : Option Member). o) parts.front (parts.last ∷ []),
      there_push 0 parts.front parts.last,
    )
    done
