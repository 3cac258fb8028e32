-- A line's turn at the place of the member that it names.
use Rattle.std.proofs.Common.{◌≡◌, ℕ, zero, suc, ◌+◌, ◌<◌, ◌++◌, ◌||◌, Bool, true, false, List, [], ◌∷◌, length, map, get_or, Some, None, Option, refl, sym, ap, subst, ◌∙◌, arith, append-nil}
use Rattle.std.specs.Prelude.{option_and_then, option_map, slice_get, slice_set, is_none}
use Rattle.std.specs.Option.{option_map_or}
use Rattle.std.specs.List.{list_any}
use Rattle.std.proofs.lemmas.Option.{slice_get-map}
use Rattle.cw_types.specs.declared.event.Handed.{Handed}
use Rattle.cw_types.specs.declared.event.Out.{Out}
use Rattle.cw_types.specs.declared.event.StepOut.{StepOut}
use Rattle.cw_types.specs.declared.note.Note.{Note}
use Rattle.cw_types.specs.declared.vote.Vote.{Vote}
use Rattle.cw_rules.specs.Report.{Entry, entry_of, found_by}
use Rattle.cw_rules.specs.Rules.{Rules}
use Rattle.cw_rules.specs.Step.{Member, Stepped, cut_step, member_notes, start, step}
use Rattle.cw_rules.specs.World as rule
use Rattle.cw_rules.specs.World.{Sent, World, done_by, happens, member_at, sent_from, signed, turned, with_done}
use Rattle.cw_rules.proofs.Worlds.{set-get, set-set}
use Rattle.hail_script.specs.Events.{line_of}
use Rattle.hail_script.specs.declared.event.LineKind.{LineKind}
use Rattle.hail_script.specs.declared.event.LineKind.TheVariants as kind
use Rattle.hail_world.specs.declared.place.Place.{Place}
use Rattle.hail_world.specs.declared.place.Place.TheVariants as place
use Rattle.hail_world.specs.Honest.{IsHonest, IsPlaced}
use Rattle.hail_world.specs.Places.{IsTurn, Makes, SitAs, SitsAs, WorkBy, WorksBy, found_at, is_faulty_member, notes_at, table, turned_by, world_of_pool}
use Rattle.hail_world.specs.MemoryNodes.{MemoryNode, out_of}
use Rattle.hail_world.specs.Runs.{notes_of_place}

-- ---- places

pub sound_at : (r : Rules) (k : ℕ) (ps : List (Place MemoryNode)) (i : ℕ) (d : Place MemoryNode)
    → WorkBy r k ps
    → i < length ps → WorksBy r (k + i) (get_or ps i d)
sound_at r k [] i d h lt = absurd (omega arith)
sound_at r k (p ∷ ps) zero d h lt =
    let same : k ≡ k + 0 = omega arith in subst (λ (j : ℕ). WorksBy r j p) same h.0
sound_at r k (p ∷ ps) (suc i) d h lt =
    let same : k + 1 + i ≡ k + suc i = omega arith in
    subst (λ (j : ℕ). WorksBy r j (get_or ps i d)) same
    (sound_at r (k + 1) ps i d h.1 (omega arith))

pub sound_set : (r : Rules) (k : ℕ) (ps : List (Place MemoryNode)) (i : ℕ) (p : Place MemoryNode)
    → WorkBy r k ps → WorksBy r (k + i) p → WorkBy r k (slice_set ps i p)
sound_set r k [] i p h s = tt
sound_set r k (x ∷ ps) zero p h s =
    let same : k + 0 ≡ k = omega arith in (subst (λ (j : ℕ). WorksBy r j p) same s, h.1)
sound_set r k (x ∷ ps) (suc i) p h s =
    let same : k + suc i ≡ k + 1 + i = omega arith in
    (h.0, sound_set r (k + 1) ps i p h.1 (subst (λ (j : ℕ). WorksBy r j p) same s))

-- the member in a place
pub record HasMember (os : List (Option Member)) (i : ℕ) (p : Place MemoryNode) : Type 0 where
  pub member : Option Member
  pub there : slice_get os i ≡ Some member
  pub is : SitsAs p member

pub member_in : (ps : List (Place MemoryNode)) (os : List (Option Member)) (i : ℕ)
    (d : Place MemoryNode)
    → SitAs ps os → i < length ps → HasMember os i (get_or ps i d)
member_in [] os i d h lt = absurd (omega arith)
member_in (p ∷ ps) [] i d h lt = absurd h
member_in (p ∷ ps) (o ∷ os) zero d h lt = record { member = o; there = refl; is = h.0 }
member_in (p ∷ ps) (o ∷ os) (suc i) d h lt =
    let more = member_in ps os i d h.1 (omega arith) in
    record { member = more.member; there = more.there; is = more.is }

pub members_set : (ps : List (Place MemoryNode)) (os : List (Option Member)) (i : ℕ)
    (p : Place MemoryNode)
    (o : Option Member)
    → SitAs ps os → SitsAs p o → SitAs (slice_set ps i p) (slice_set os i o)
members_set [] [] i p o h m = tt
members_set [] (x ∷ os) i p o h m = absurd h
members_set (y ∷ ps) [] i p o h m = absurd h
members_set (y ∷ ps) (x ∷ os) zero p o h m = (m, h.1)
members_set (y ∷ ps) (x ∷ os) (suc i) p o h m = (h.0, members_set ps os i p o h.1 m)

-- a place has noted what its member has
pub seated_notes : (p : Place MemoryNode) (o : Option Member) → SitsAs p o → notes_at p
    ≡ notes_of_place o
seated_notes place.Faulty None h = refl
seated_notes place.Faulty (Some x) h = absurd h
seated_notes (place.Live m) None h = absurd h
seated_notes (place.Live m) (Some x) h = ap member_notes h
seated_notes (place.Stopped disk notes) None h = absurd h
seated_notes (place.Stopped disk notes) (Some x) h = h.2

-- there are as many members as places
pub sit_as_many : (ps : List (Place MemoryNode)) (os : List (Option Member)) → SitAs ps os
    → length os ≡ length ps
sit_as_many [] [] h = refl
sit_as_many [] (o ∷ os) h = absurd h
sit_as_many (p ∷ ps) [] h = absurd h
sit_as_many (p ∷ ps) (o ∷ os) h = ap suc (sit_as_many ps os h.1)

-- ---- signatures and events

pub flags_signed : (faulty : List Bool) (w : World) → faulty ≡ map is_none w.members
    → table faulty w.pool ≡ signed w
flags_signed faulty w e = λ k i v. at i k || list_any (rule.is_sent_vote i v) w.pool
  where
    of : (o : Option (Option Member))
        → option_map_or (λ b. b) (option_map is_none o) false ≡ option_map_or is_none o false
    of None = refl
    of (Some x) = refl

    at : (i : ℕ) → is_faulty_member faulty i ≡ rule.is_faulty w i
    at i =
        ap (λ (l : List Bool). is_faulty_member l i) e
        ∙ ap (λ (o : Option Bool). option_map_or (λ b. b) o false)
        (slice_get-map is_none w.members i)
        ∙ of (slice_get w.members i)

-- an event is asked for over the messages alone
event_over : (w : World) (i : ℕ) (ask : rule.Ask)
    → rule.event_of (world_of_pool w.pool) i ask ≡ rule.event_of w i ask
event_over w i (rule.Propose payload) = refl
event_over w i (rule.Timeout view) = refl
event_over w i (rule.Deliver number) = refl
event_over w i rule.Ack = refl
event_over w i (rule.Prune height) = refl
event_over w i (rule.Floor number) = refl
event_over w i (rule.Hint height) = refl

-- ---- a line's turn

turned_is : (r : Rules) (w : World) (i : ℕ) (e : rule.Line) (x : Member)
    → turned r w i e x ≡ turned_by r (signed w) (world_of_pool w.pool) i e x
turned_is r w i (rule.Do m ask) x = rw (event_over w i ask) refl
turned_is r w i (rule.Cut a c s m ask) x = rw (event_over w i ask) refl
turned_is r w i (rule.Restart m) x = refl
turned_is r w i (rule.Faulty m fault) x = refl

done_is : (r : Rules) (w : World) (e : rule.Line) (o : Option Member)
    → slice_get w.members (rule.line_member e) ≡ Some o
    → done_by r w e
    ≡ option_and_then (turned_by r (signed w) (world_of_pool w.pool) (rule.line_member e) e) o
done_is r w e o there = rw there (of o)
  where
    of : (o : Option Member)
        → option_and_then (turned r w (rule.line_member e) e) o
        ≡ option_and_then (turned_by r (signed w) (world_of_pool w.pool) (rule.line_member e) e) o
    of None = refl
    of (Some x) = turned_is r w (rule.line_member e) e x

-- the world after a member's line
after_line : (r : Rules) (w : World) (e : rule.Line) → IsHonest e
    → happens r w e
    ≡ option_map_or (with_done w (rule.line_member e)) (done_by r w e) w
after_line r w (rule.Do m ask) h = refl
after_line r w (rule.Cut a c s m ask) h = refl
after_line r w (rule.Restart m) h = refl
after_line r w (rule.Faulty m fault) h = absurd h

-- the entry that names a member
abbrev entry_with : ℕ → ℕ → Option ℕ → List Sent → List Handed → Entry
entry_with number i found sent handed =
    record { line = number; member = Some i; found = found; sent = sent; handed = handed }

entry_is : (r : Rules) (w : World) (number : ℕ) (e : rule.Line) → IsHonest e
    → entry_of r w number e
    ≡ entry_with number (rule.line_member e)
    (option_and_then (found_by w e) (done_by r w e))
    (sent_from (length w.pool) (rule.line_member e)
    (option_map_or (λ done. done.sent) (done_by r w e) []))
    (option_map_or (λ done. done.handed) (done_by r w e) [])
entry_is r w number (rule.Do m ask) h = refl
entry_is r w number (rule.Cut a c s m ask) h = refl
entry_is r w number (rule.Restart m) h = refl
entry_is r w number (rule.Faulty m fault) h = absurd h

notes_is : (p : Place MemoryNode) (x : Member) → SitsAs p (Some x) → notes_at p ≡ member_notes x
notes_is place.Faulty x h = absurd h
notes_is (place.Live m) x h = ap member_notes h
notes_is (place.Stopped disk notes) x h = h.2

found_is : (w : World) (e : rule.Line) (p : Place MemoryNode) (done : Stepped)
    → SitsAs p (Some done.member) → found_at e p (Some (out_of done)) ≡ found_by w e done
found_is w (rule.Do m ask) p done h = refl
found_is w (rule.Cut a c s m ask) p done h = refl
found_is w (rule.Restart m) p done h =
    ap (λ (n : List Note). let o : Option ℕ = Some (length n) in o) (notes_is p done.member h)
found_is w (rule.Faulty m fault) p done h = refl

found_none : (e : rule.Line) (p : Place MemoryNode) → found_at e p None ≡ None
found_none (rule.Do m ask) p = refl
found_none (rule.Cut a c s m ask) p = refl
found_none (rule.Restart m) p = refl
found_none (rule.Faulty m fault) p = refl

-- a line whose kind is another than a faulty member's
pub is_honest : (k : LineKind) → ((m : ℕ) (f : rule.Fault) → k ≡ kind.Faulty m f → ⊥)
    → IsHonest (line_of k)
is_honest (kind.Do m ask) h = tt
is_honest (kind.Cut stop m ask) h = tt
is_honest (kind.Restart m) h = tt
is_honest (kind.Faulty m f) h = h m f refl

-- a member's line, from what it made of who sits in its place
pub turn_is : (r : Rules) (w : World) (number : ℕ) (e : rule.Line) (ps : List (Place MemoryNode))
    (p : Place MemoryNode) (out : Option StepOut) (o : Option Member) (pool : List Sent)
    (entry : Entry)
    → IsHonest e
    → slice_get w.members (rule.line_member e) ≡ Some o → SitAs ps w.members
    → Makes o
    (option_and_then (turned_by r (signed w) (world_of_pool w.pool) (rule.line_member e) e) o)
    p out
    → entry
    ≡ entry_with number (rule.line_member e) (found_at e p out)
    (sent_from (length w.pool) (rule.line_member e) (option_map_or (λ out. out.sent) out []))
    (option_map_or (λ out. out.handed) out [])
    → pool
    ≡ w.pool
    ++ sent_from (length w.pool) (rule.line_member e) (option_map_or (λ out. out.sent) out [])
    → IsTurn r w number e (slice_set ps (rule.line_member e) p) pool entry
turn_is r w number e ps p out o pool entry honest there members makes gives sends =
    go (option_and_then (turned_by r (signed w) (world_of_pool w.pool) (rule.line_member e) e) o)
    (done_is r w e o there) makes
  where
    go : (d : Option Stepped) → done_by r w e ≡ d → Makes o d p out
        → IsTurn r w number e (slice_set ps (rule.line_member e) p) pool entry
    go None is makes =
        let after : happens r w e ≡ w =
        after_line r w e honest
        ∙ ap (λ (d : Option Stepped). option_map_or (with_done w (rule.line_member e)) d w) is in
        let whole =
        entry_is r w number e honest
        ∙ ap
        (λ (d : Option Stepped). entry_with number (rule.line_member e)
        (option_and_then (found_by w e) d)
        (sent_from (length w.pool) (rule.line_member e)
        (option_map_or (λ done. done.sent) d []))
        (option_map_or (λ done. done.handed) d []))
        is in
        let mine =
        gives
        ∙ ap
        (λ (x : Option StepOut). entry_with number (rule.line_member e) (found_at e p x)
        (sent_from (length w.pool) (rule.line_member e)
        (option_map_or (λ out. out.sent) x []))
        (option_map_or (λ out. out.handed) x []))
        makes.1
        ∙ ap (λ (f : Option ℕ). entry_with number (rule.line_member e) f [] []) (found_none e p) in
        let kept = members_set ps w.members (rule.line_member e) p o members makes.0 in
        let sent =
        sends
        ∙ ap
        (λ (x : Option StepOut). w.pool
        ++ sent_from (length w.pool) (rule.line_member e)
        (option_map_or (λ out. out.sent) x []))
        makes.1 in
        record {
          gives = mine ∙ sym whole;
          members =
              subst (λ (l : List (Option Member)). SitAs (slice_set ps (rule.line_member e) p) l)
              (set-get w.members (rule.line_member e) o there
              ∙ sym (ap (λ (v : World). v.members) after))
              kept;
          sent = sent ∙ append-nil w.pool ∙ sym (ap (λ (v : World). v.pool) after);
        }
    go (Some done) is makes =
        let after : happens r w e ≡ with_done w (rule.line_member e) done =
        after_line r w e honest
        ∙ ap (λ (d : Option Stepped). option_map_or (with_done w (rule.line_member e)) d w) is in
        let whole =
        entry_is r w number e honest
        ∙ ap
        (λ (d : Option Stepped). entry_with number (rule.line_member e)
        (option_and_then (found_by w e) d)
        (sent_from (length w.pool) (rule.line_member e)
        (option_map_or (λ done. done.sent) d []))
        (option_map_or (λ done. done.handed) d []))
        is in
        let mine =
        gives
        ∙ ap
        (λ (x : Option StepOut). entry_with number (rule.line_member e) (found_at e p x)
        (sent_from (length w.pool) (rule.line_member e)
        (option_map_or (λ out. out.sent) x []))
        (option_map_or (λ out. out.handed) x []))
        makes.1
        ∙ ap
        (λ (f : Option ℕ). entry_with number (rule.line_member e) f
        (sent_from (length w.pool) (rule.line_member e) done.sent) done.handed)
        (found_is w e p done makes.0) in
        let kept =
        members_set ps w.members (rule.line_member e) p (Some done.member) members makes.0 in
        let sent =
        sends
        ∙ ap
        (λ (x : Option StepOut). w.pool
        ++ sent_from (length w.pool) (rule.line_member e)
        (option_map_or (λ out. out.sent) x []))
        makes.1 in
        record {
          gives = mine ∙ sym whole;
          members =
              subst (λ (l : List (Option Member)). SitAs (slice_set ps (rule.line_member e) p) l)
              (sym (ap (λ (v : World). v.members) after)) kept;
          sent = sent ∙ sym (ap (λ (v : World). v.pool) after);
        }

get_at : {X : Type 0} (xs : List X) (i : ℕ) (d : X) → i < length xs
    → slice_get xs i ≡ Some (get_or xs i d)
get_at [] i d lt = absurd (omega arith)
get_at (x ∷ xs) zero d lt = refl
get_at (x ∷ xs) (suc i) d lt = get_at xs i d (omega arith)

-- who sits in a place that is taken out
pub taken_sound : (r : Rules) (ps : List (Place MemoryNode)) (i j : ℕ) (d p : Place MemoryNode)
    → WorkBy r 0 ps
    → i < length ps → j ≡ i → p ≡ get_or ps j d → WorksBy r i p
taken_sound r ps i j d p h lt same is =
    let none : 0 + i ≡ i = omega arith in
    rw (is, same) (subst (λ (k : ℕ). WorksBy r k (get_or ps i d)) none (sound_at r 0 ps i d h lt))

pub put_back : (r : Rules) (ps : List (Place MemoryNode)) (i j k : ℕ) (x p : Place MemoryNode)
    → WorkBy r 0 ps
    → j ≡ i → k ≡ i → WorksBy r i p → WorkBy r 0 (slice_set (slice_set ps j x) k p)
put_back r ps i j k x p h a b s =
    let none : i ≡ 0 + i = omega arith in
    rw (a, b, set-set ps i x p) (sound_set r 0 ps i p h (subst (λ (n : ℕ). WorksBy r n p) none s))

pub placed : (r : Rules) (faulty : List Bool) (pool : List Sent) (ps : List (Place MemoryNode))
    (j k : ℕ)
    (d p x new : Place MemoryNode) (e : rule.Line) (found : Option ℕ) (out : Option StepOut)
    → rule.line_member e < length ps → j ≡ rule.line_member e → k ≡ rule.line_member e
    → p ≡ get_or ps j d → found ≡ found_at e new out
    → ((o : Option Member) → SitsAs p o
    → Makes o
    (option_and_then (turned_by r (table faulty pool) (world_of_pool pool) (rule.line_member e) e)
    o)
    new out)
    → IsPlaced r faulty pool e ps (slice_set (slice_set ps j x) k new) found out
placed r faulty pool ps j k d p x new e found out lt a b is finds makes = record {
  before = p;
  after = new;
  was =
      get_at ps (rule.line_member e) d lt
      ∙ ap (λ (q : Place MemoryNode). let o : Option (Place MemoryNode) = Some q in o)
      (sym (is ∙ ap (λ (n : ℕ). get_or ps n d) a));
  becomes = rw (a, b) (set-set ps (rule.line_member e) x new);
  finds = finds;
  makes = makes;
}

-- what stands at a place
pub at_place : (ps : List (Place MemoryNode)) (os : List (Option Member)) (i : ℕ)
    (p : Place MemoryNode)
    → SitAs ps os → slice_get ps i ≡ Some p → HasMember os i p
at_place [] os i p h e = absurd (let no : None ≡ Some p = e in cc)
at_place (q ∷ ps) [] i p h e = absurd h
at_place (q ∷ ps) (o ∷ os) zero p h e =
    let same : q ≡ p = (let s : Some q ≡ Some p = e in cc) in
    record { member = o; there = refl; is = subst (λ (x : Place MemoryNode). SitsAs x o) same h.0 }
at_place (q ∷ ps) (o ∷ os) (suc i) p h e =
    let more = at_place ps os i p h.1 e in
    record { member = more.member; there = more.there; is = more.is }

-- a member's line, from what became of its place
pub member_turn : (r : Rules) (w : World) (number i : ℕ) (e : rule.Line) (faulty : List Bool)
    (old new : List (Place MemoryNode)) (found : Option ℕ) (out : Option StepOut)
    (before pool : List Sent) (entry : Entry)
    → IsHonest e → i ≡ rule.line_member e → IsPlaced r faulty before e old new found out
    → SitAs old w.members → before ≡ w.pool → faulty ≡ map is_none w.members
    → entry
    ≡ entry_with number i found
    (sent_from (length before) i (option_map_or (λ out. out.sent) out []))
    (option_map_or (λ out. out.handed) out [])
    → pool ≡ before ++ sent_from (length before) i (option_map_or (λ out. out.sent) out [])
    → IsTurn r w number e new pool entry
member_turn r w number i e faulty old new found out before pool entry honest named h members pools
    flags gives sends =
    let id : ℕ = rule.line_member e in
    let at = at_place old w.members id h.before members h.was in
    let votes : table faulty before ≡ signed w =
    ap (λ (l : List Sent). table faulty l) pools ∙ flags_signed faulty w flags in
    let raw = h.makes at.member at.is in
    let makes : Makes at.member
    (option_and_then (turned_by r (signed w) (world_of_pool w.pool) id e) at.member) h.after out =
    subst
    (λ (l : List Sent). Makes at.member
    (option_and_then (turned_by r (signed w) (world_of_pool l) id e) at.member) h.after out)
    pools
    (subst
    (λ (v : ℕ → Vote → Bool). Makes at.member
    (option_and_then (turned_by r v (world_of_pool before) id e) at.member) h.after out)
    votes raw) in
    let mine =
    gives
    ∙ ap
    (λ (f : Option ℕ). entry_with number i f
    (sent_from (length before) i (option_map_or (λ out. out.sent) out []))
    (option_map_or (λ out. out.handed) out []))
    h.finds
    ∙ ap
    (λ (k : ℕ). entry_with number k (found_at e h.after out)
    (sent_from (length before) k (option_map_or (λ out. out.sent) out []))
    (option_map_or (λ out. out.handed) out []))
    named
    ∙ ap
    (λ (l : List Sent). entry_with number id (found_at e h.after out)
    (sent_from (length l) id (option_map_or (λ out. out.sent) out []))
    (option_map_or (λ out. out.handed) out []))
    pools in
    let sent =
    sends
    ∙ ap
    (λ (k : ℕ). before
    ++ sent_from (length before) k (option_map_or (λ out. out.sent) out []))
    named
    ∙ ap
    (λ (l : List Sent). l
    ++ sent_from (length l) id (option_map_or (λ out. out.sent) out []))
    pools in
    let done =
    turn_is r w number e old h.after out at.member pool entry honest at.there members makes mine
    sent in
    subst (λ (l : List (Place MemoryNode)). IsTurn r w number e l pool entry) (sym h.becomes) done

-- what a faulty member sends is asked for over the messages alone
sends_over : (r : Rules) (w : World) (a : ℕ) (f : rule.Fault)
    → rule.fault_sends r (world_of_pool w.pool) a f ≡ rule.fault_sends r w a f
sends_over r w a rule.Silent = refl
sends_over r w a (rule.Offer view payload) = refl
sends_over r w a (rule.Notarize_of number) = refl
sends_over r w a (rule.Finalize_of number) = refl
sends_over r w a (rule.Nullify_of view) = refl
sends_over r w a (rule.Raw message) = refl

-- such a line makes nothing of a member
nothing_done : (r : Rules) (w : World) (m : ℕ) (f : rule.Fault)
    → done_by r w (rule.Faulty m f) ≡ None
nothing_done r w m f = of (member_at w m)
  where
    of : (o : Option Member) → option_and_then (turned r w m (rule.Faulty m f)) o ≡ None
    of None = refl
    of (Some x) = refl

abbrev fault_entry : World → ℕ → ℕ → rule.Fault → List Sent → Option Stepped → Entry
fault_entry w number m f sent d =
    record {
      line = number;
      member = None;
      found = option_and_then (found_by w (rule.Faulty m f)) d;
      sent = sent;
      handed = option_map_or (λ done. done.handed) d [];
    }

-- a faulty member's line
pub fault_turn : (r : Rules) (w : World) (number i : ℕ) (m : ℕ) (f : rule.Fault)
    (places : List (Place MemoryNode)) (before pool : List Sent) (entry : Entry)
    → i ≡ m → SitAs places w.members → before ≡ w.pool
    → entry ≡ record {
      line = number;
      member = None;
      found = None;
      sent = sent_from (length before) i (rule.fault_sends r (world_of_pool before) i f);
      handed = [];
    }
    → pool ≡ before ++ sent_from (length before) i (rule.fault_sends r (world_of_pool before) i f)
    → IsTurn r w number (rule.Faulty m f) places pool entry
fault_turn r w number i m f places before pool entry named members pools gives sends =
    let sent : List Sent → List Sent =
    λ (l : List Sent). sent_from (length l) i (rule.fault_sends r (world_of_pool l) i f) in
    let whole : sent before ≡ sent_from (length w.pool) m (rule.fault_sends r w m f) =
    ap sent pools
    ∙ ap (λ (k : ℕ). sent_from (length w.pool) k (rule.fault_sends r (world_of_pool w.pool) k f))
    named
    ∙ ap (λ (l : List Out). sent_from (length w.pool) m l) (sends_over r w m f) in
    record {
      gives =
          gives
          ∙ ap
          (λ (l : List Sent). let e : Entry = record {
            line = number;
            member = None;
            found = None;
            sent = l;
            handed = [];
          } in e)
          whole
          ∙ sym
          (ap
          (fault_entry w number m f
          (sent_from (length w.pool) m (rule.fault_sends r w m f)))
          (nothing_done r w m f));
      members = members;
      sent =
          sends ∙ ap (λ (l : List Sent). l ++ sent l) pools
          ∙ ap (λ (l : List Sent). w.pool ++ l) (sym (ap sent pools) ∙ whole);
    }
