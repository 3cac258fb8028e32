-- Whatever hosts do that may be done, a world mirrors it.
use Rattle.std.proofs.Common.{◌≡◌, ℕ, zero, suc, ◌+◌, Bool, true, false, ◌||◌, ◌==◌, if◌then◌else◌, List, [], ◌∷◌, ◌++◌, Option, Some, None, is_none, map, option_and_then, slice_get, refl, sym, ◌∙◌, ap, subst, ⊎_elim, arith}
use Rattle.std.specs.Prelude.{codes}
use Rattle.std.specs.List.{AllByRecursion, list_any, range_with_len}
use Rattle.std.specs.Option.{option_map_or}
use Rattle.std.proofs.lemmas.Bool.{false≢true}
use Rattle.cw_types.specs.declared.note.Note.{Note}
use Rattle.cw_rules.specs.Rules.{Rules}
use Rattle.cw_rules.specs.Step.{Member, Stepped, no_tickets, start}
use Rattle.cw_rules.specs.World.{Cut, Line, Restart, World, faults, run, signed}
use Rattle.cw_rules.specs.World as world
use Rattle.cw_rules.proofs.Worlds.{get-map, get-map_from, get-range}
use Rattle.marshal.specs.Frames.{frame_bytes}
use Rattle.node.specs.Lives.{Turn, after_turns}
use Rattle.node_disk.specs.Images.{IsImage, Moment}
use Rattle.node_disk.specs.Log.{start_calls}
use Rattle.node_disk.specs.Made.{FindsSome, last_moment}
use Rattle.node_disk.proofs.Starting.{read_short}
use Rattle.member_session.specs.Serving.{Serving}
use Rattle.member_session.specs.Talk.{new_session, session_after}
use Rattle.member_runs.specs.Files.{AreWritable, MayBeLeft, some_frames, shared}
use Rattle.member_runs.specs.Hosts.{AllMay, Breaks, CanBreak, CanGive, CanStart, CanStop, HostCluster, Did, Gives, Host, HostEvent, Hosts, IsVouched, May, Starts, Stops, hosts_after, hosts_after_all, did_by, did_lines, did_nothing, did_start, did_stop, event_member, found_frames, is_signed_in, new_host, new_hosts, cluster_rules, serving_in, silence, with_did}
use Rattle.member_runs.specs.Turns.{in_front, turn_in, turns_calls, turns_handed, turns_in, turns_notes, turns_sends}
use Rattle.member_runs.proofs.Accepts.{IsWithin}
use Rattle.member_runs.proofs.Begins.{goes_again}
use Rattle.member_runs.proofs.Going.{Goes, goes_less, goes_nowhere, goes_on}
use Rattle.member_runs.proofs.Mirrors.{Follows, IsDown, IsMirrored, IsUp, Stands, began, follows_on, serving_as, signed_there}
use Rattle.member_runs.proofs.Sessions.{from_bytes, lines_go, start_goes}
use Rattle.member_runs.proofs.Sharing.{finds_front}
use Rattle.member_runs.proofs.Starts.{start_leaves, start_rests}
use Rattle.member_runs.proofs.TurnFiles.{all_writable, turns_leave, turns_rest}
use Rattle.member_runs.proofs.Turnings.{AllFromBytes, AllWithin, frames_after, split_turns, turns_go}

-- ---- turns of lines

pub lines_from : (texts : List (List ℕ)) → AllFromBytes (turns_in texts)
lines_from [] = tt
lines_from (text ∷ texts) = go (turn_in text) refl (lines_from texts)
  where
    go : (o : Option Turn) → turn_in text ≡ o → AllFromBytes (turns_in texts)
        → AllFromBytes (in_front (turn_in text) (turns_in texts))
    go None is all =
        subst (λ (x : Option Turn). AllFromBytes (in_front x (turns_in texts))) (sym is) all
    go (Some t) is all =
        subst (λ (x : Option Turn). AllFromBytes (in_front x (turns_in texts))) (sym is)
        (from_bytes text t is, all)

vouched_within : (hosts : Hosts) (w : World) → IsWithin (is_signed_in hosts) (signed w)
    → (ts : List Turn) → AllByRecursion (IsVouched hosts) ts → AllWithin w ts
vouched_within hosts w more [] all = tt
vouched_within hosts w more (t ∷ ts) all =
    (λ j v h. more j v (all.0 j v h), vouched_within hosts w more ts all.1)

front_of : {X : Type 0} (P : X → Type 0) (xs ys all : List X) → all ≡ xs ++ ys
    → AllByRecursion P all → AllByRecursion P xs
front_of P [] ys all is each = tt
front_of P (x ∷ xs) ys [] is each = absurd (cc)
front_of P (x ∷ xs) ys (z ∷ all) is each =
    let same : z ≡ x = cc in
    let others : all ≡ xs ++ ys = cc in
    (subst P same each.0, front_of P xs ys all others each.1)

-- lines that lead on to a world that mirrors these hosts
abbrev FollowsOn : HostCluster → Hosts → List Line → World → Type 0
FollowsOn c hosts lines w =
    (more : List Line) × Follows c hosts (lines ++ more) (run (cluster_rules c) w more)

module _ (c : HostCluster) (hosts : Hosts) (lines : List Line) (w : World)
    (follows : Follows c hosts lines w) where
  gives : (i : ℕ) (texts : List (List ℕ)) (h : Host)
      → slice_get hosts.members i ≡ Some (Some h) → CanGive c hosts i texts h
      → FollowsOn c (with_did hosts i (did_by c (Gives i texts) h)) lines w
  gives i texts h there can =
      let r : Rules = cluster_rules c in
      let m = follows.members i h there in
      let up : IsUp c i h.file m.member can.serving =
      subst (λ (o : Option Serving). Stands c w i h.file m.member o) can.up m.stands in
      let p : Member = up.process in
      let ts : List Turn = turns_in texts in
      let s : Serving = serving_as c i p in
      let writable : AreWritable (after_turns r i p ts).frames =
      subst (λ (x : Serving). AreWritable (after_turns r i x.member ts).frames) up.who can.writable in
      let on =
      turns_go r i p up.tickets ts w (m.at ∙ ap (λ (x : Member). Some (Some x)) up.same)
      (lines_from texts)
      (vouched_within hosts w (signed_there c hosts lines w follows) ts can.vouched) in
      let d : Did = did_lines c i texts h.file s in
      let works : did_by c (Gives i texts) h ≡ d =
      ap (λ (o : Option Serving). option_map_or (did_lines c i texts h.file) o (did_nothing h))
      (can.up ∙ ap (λ (x : Serving). Some x) up.who) in
      let serves : d.host.serving ≡ Some (serving_as c i (after_turns r i p ts)) =
      ap serving_in (lines_go c.hash c.travel s texts) in (
        on.lines,
        subst
            (λ (x : Did). Follows c (with_did hosts i x) (lines ++ on.lines) (run r w on.lines))
            (sym works)
            (follows_on c hosts lines w i h d on.lines on.member follows there on.goes
            (subst (λ (o : Option Serving). Stands c (run r w on.lines) i d.host.file on.member o)
            (sym serves)
            (record {
              process = after_turns r i p ts;
              who = refl;
              tickets = on.same.0;
              same = on.same.1;
              settled = turns_rest r i p ts h.file up.settled writable;
            }))),
      )

  stops : (i : ℕ) (texts : List (List ℕ)) (left : Moment) (h : Host)
      → slice_get hosts.members i ≡ Some (Some h) → CanStop c hosts i texts left h
      → FollowsOn c (with_did hosts i (did_stop left)) lines w
  stops i texts left h there can =
      let r : Rules = cluster_rules c in
      let m = follows.members i h there in
      let up : IsUp c i h.file m.member can.gives.serving =
      subst (λ (o : Option Serving). Stands c w i h.file m.member o) can.gives.up m.stands in
      let p : Member = up.process in
      let ts : List Turn = turns_in texts in
      let writable : AreWritable (after_turns r i p ts).frames =
      subst (λ (x : Serving). AreWritable (after_turns r i x.member ts).frames) up.who
      can.gives.writable in
      let leaves : MayBeLeft h.file (shared (turns_calls r i p ts)) left =
      subst (λ (x : Serving). MayBeLeft h.file (shared (turns_calls r i x.member ts)) left) up.who
      can.leaves in (
        [],
        follows_on c hosts lines w i h (did_stop left) [] m.member follows there
            (goes_nowhere r w i m.member m.at)
            (record {
              process = p;
              tickets = up.tickets;
              same = up.same;
              turns = ts;
              from = lines_from texts;
              within =
                  vouched_within hosts w (signed_there c hosts lines w follows) ts can.gives.vouched;
              writable = writable;
              finds =
                  λ image is. turns_leave r i p ts h.file up.settled writable image
                  (leaves.images image is);
              seen = leaves.seen;
              small = leaves.bytes;
            }),
      )

  breaks : (i : ℕ) (left : Moment) (h : Host)
      → slice_get hosts.members i ≡ Some (Some h) → CanBreak left h
      → FollowsOn c (with_did hosts i (did_stop left)) lines w
  breaks i left h there can =
      let r : Rules = cluster_rules c in
      let m = follows.members i h there in
      let down : IsDown c w i h.file m.member =
      subst (λ (o : Option Serving). Stands c w i h.file m.member o) can.down m.stands in
      let p : Member = down.process in
      let some = down.finds h.file.seen down.seen in (
        [],
        follows_on c hosts lines w i h (did_stop left) [] m.member follows there
            (goes_nowhere r w i m.member m.at)
            (record {
              process = p;
              tickets = down.tickets;
              same = down.same;
              turns = down.turns;
              from = down.from;
              within = down.within;
              writable = down.writable;
              finds =
                  λ image is.
                  ⊎_elim (λ before. down.finds image before)
                  (λ found. record {
                    first = some.first;
                    rest = some.rest;
                    whole = some.whole;
                    found = found;
                  })
                  (start_leaves (map frame_bytes p.frames ++ some.first) h.file some.found image
                  (can.leaves.images image is));
              seen = can.leaves.seen;
              small = can.leaves.bytes;
            }),
      )

  starts : (i : ℕ) (opening : List (List ℕ)) (h : Host)
      → slice_get hosts.members i ≡ Some (Some h) → CanStart c i opening h
      → FollowsOn c (with_did hosts i (did_start c i opening h)) lines w
  starts i opening h there can =
      let r : Rules = cluster_rules c in
      let m = follows.members i h there in
      let down : IsDown c w i h.file m.member =
      subst (λ (o : Option Serving). Stands c w i h.file m.member o) can.down m.stands in
      let p : Member = down.process in
      let front =
      finds_front p.frames (turns_notes r i p down.turns) h.file.seen
      (all_writable r i p down.turns down.writable).readable (down.finds h.file.seen down.seen) in
      let parts = split_turns r i p down.turns front.first front.rest front.whole in
      let ts : List Turn = parts.0 in
      let kept : p.frames ++ some_frames front.first ≡ (after_turns r i p ts).frames =
      ap (λ (l : List (List Note)). p.frames ++ some_frames l) (sym parts.3)
      ∙ sym (frames_after r i p ts) in
      let on =
      turns_go r i p down.tickets ts w (m.at ∙ ap (λ (x : Member). Some (Some x)) down.same)
      (front_of _ ts parts.1 down.turns parts.2 down.from)
      (front_of _ ts parts.1 down.turns parts.2 down.within) in
      let v : World = run r w on.lines in
      let again : List Line = Cut 1 0 0 i (world.Timeout 0) ∷ Restart i ∷ [] in
      let frames : List (List Note) = p.frames ++ some_frames front.first in
      let holds : on.member.frames ≡ frames =
      ap (λ (x : Member). x.frames) on.same.1 ∙ sym kept in
      let s : Stepped = start r i frames in
      let begun : Goes r v again i s.member s.sent s.handed =
      subst
      (λ (fs : List (List Note)). Goes r v again i (start r i fs).member (start r i fs).sent
      (start r i fs).handed)
      holds
      (goes_again r i on.member v on.goes.at (ap (λ (x : Member). x.live) on.same.1)) in
      let goes : Goes r w (on.lines ++ again) i s.member s.sent s.handed =
      goes_less r w (on.lines ++ again) i s.member (turns_sends r i p ts) s.sent
      (turns_handed r i p ts) s.handed
      (goes_on r w on.lines again i on.member s.member (turns_sends r i p ts) s.sent
      (turns_handed r i p ts) s.handed on.goes begun) in
      let d : Did =
      record {
        host =
            record {
              file = last_moment h.file (start_calls h.file.seen);
              serving = Some (serving_as c i s.member);
            };
        sent = s.sent;
        handed = s.handed;
      } in
      let serves
      : serving_in
      (session_after c.hash c.travel (new_session i) (opening ++ codes "start" ∷ []))
      ≡ Some (serving_as c i s.member) =
      ap serving_in
      (start_goes c.hash c.travel (new_session i) opening
      (record { id = i; epochs = c.epochs; backlog = c.backlog; file = h.file.seen })
      frames can.opens front.found) in
      let is : did_start c i opening h ≡ d =
      ap
      (λ (fs : List (List Note)). record {
        host =
            record {
              file = last_moment h.file (start_calls h.file.seen);
              serving =
                  serving_in
                  (session_after c.hash c.travel (new_session i) (opening ++ codes "start" ∷ []));
            };
        sent = (start r i fs).sent;
        handed = (start r i fs).handed;
      })
      (ap found_frames front.found)
      ∙ ap
      (λ (o : Option Serving). record {
        host = record { file = last_moment h.file (start_calls h.file.seen); serving = o };
        sent = s.sent;
        handed = s.handed;
      })
      serves in (
        on.lines ++ again,
        subst
            (λ (x : Did). Follows c (with_did hosts i x) (lines ++ (on.lines ++ again))
            (run r w (on.lines ++ again)))
            (sym is)
            (follows_on c hosts lines w i h d (on.lines ++ again) s.member follows there goes
            (record {
              process = s.member;
              who = refl;
              tickets = no_tickets;
              same = refl;
              settled = start_rests (map frame_bytes frames) h.file down.small front.bytes;
            })),
      )

  -- ---- any event

  with_host : (e : HostEvent) (h : Host) → slice_get hosts.members (event_member e) ≡ Some (Some h)
      → hosts_after c hosts e ≡ with_did hosts (event_member e) (did_by c e h)
  with_host e h there =
      ap
      (λ (o : Option (Option Host)). option_map_or
      (λ (x : Host). with_did hosts (event_member e) (did_by c e x))
      (option_and_then (λ (y : Option Host). y) o) hosts)
      there

  by_event : (e : HostEvent) → May c hosts e → FollowsOn c (hosts_after c hosts e) lines w
  by_event (Starts i opening) may =
      subst (λ (x : Hosts). FollowsOn c x lines w)
      (sym (with_host (Starts i opening) may.host may.there))
      (starts i opening may.host may.there may.can)
  by_event (Gives i texts) may =
      subst (λ (x : Hosts). FollowsOn c x lines w)
      (sym (with_host (Gives i texts) may.host may.there))
      (gives i texts may.host may.there may.can)
  by_event (Stops i texts left) may =
      subst (λ (x : Hosts). FollowsOn c x lines w)
      (sym (with_host (Stops i texts left) may.host may.there))
      (stops i texts left may.host may.there may.can)
  by_event (Breaks i left) may =
      subst (λ (x : Hosts). FollowsOn c x lines w)
      (sym (with_host (Breaks i left) may.host may.there))
      (breaks i left may.host may.there may.can)

-- whatever they do, some lines mirror it
pub all_follow : (c : HostCluster) (events : List HostEvent) (hosts : Hosts) (lines : List Line)
    (w : World)
    → Follows c hosts lines w → AllMay c hosts events
    → (all : List Line) × (v : World) × Follows c (hosts_after_all c hosts events) all v
all_follow c [] hosts lines w follows may = (lines, w, follows)
all_follow c (e ∷ events) hosts lines w follows may =
    let on = by_event c hosts lines w follows e may.0 in
    all_follow c events (hosts_after c hosts e) (lines ++ on.0) (run (cluster_rules c) w on.0) on.1 may.1

-- ---- the beginning

silent_faults : (i : ℕ) (faulty : List ℕ)
    → list_any (faults i) (silence faulty) ≡ list_any (λ a. i == a) faulty
silent_faults i [] = refl
silent_faults i (a ∷ faulty) = ap (λ (b : Bool). (i == a) || b) (silent_faults i faulty)

if_none : {X : Type 0} (b : Bool) (x y : X) → (if b then None else Some x) ≡ Some y
    → (b ≡ false) × (x ≡ y)
if_none true x y is = absurd (cc)
if_none false x y is = (refl, cc)

none_if : {X Y : Type 0} (a b : Bool) (x : X) (y : Y) → a ≡ b
    → is_none (if a then None else Some x) ≡ is_none (if b then None else Some y)
none_if true b x y is =
    ap (λ (k : Bool). is_none (if k then None else Some y)) is
none_if false b x y is =
    ap (λ (k : Bool). is_none (if k then None else Some y)) is

module _ (c : HostCluster) where
  abbrev first_member : ℕ → Member
  first_member i = (start (cluster_rules c) i []).member

  same_began : (low len : ℕ)
      → map is_none
      (map (λ i. if list_any (λ a. i == a) c.faulty then None else Some new_host)
      (range_with_len low len))
      ≡ map is_none
      (map (λ i. if list_any (faults i) (silence c.faulty) then None else Some (first_member i))
      (range_with_len low len))
  same_began low zero = refl
  same_began low (suc len) =
      ap
      (λ (b : Bool). b ∷ map is_none
      (map (λ i. if list_any (λ a. i == a) c.faulty then None else Some new_host)
      (range_with_len (low + 1) len)))
      (none_if (list_any (λ a. low == a) c.faulty) (list_any (faults low) (silence c.faulty))
      new_host (first_member low) (sym (silent_faults low c.faulty)))
      ∙ ap
      (λ (l : List Bool). is_none
      (if list_any (faults low) (silence c.faulty) then None else Some (first_member low))
      ∷ l)
      (same_began (low + 1) len)

  empty : Moment
  empty = record { seen = []; synced = []; ranges = [] }

  finds_nothing : (image : List ℕ) → IsImage (record { seen = []; synced = []; ranges = [] }) image
      → FindsSome [] [] image
  finds_nothing image is = record {
    first = [];
    rest = [];
    whole = refl;
    found = read_short image (omega (arith, is.no_longer));
  }

  at_first : (w : World) (i : ℕ) → Stands c w i new_host.file (first_member i) None
  at_first w i = record {
    process = first_member i;
    tickets = no_tickets;
    same = refl;
    turns = [];
    from = tt;
    within = tt;
    writable = record { readable = refl; short = refl };
    finds = finds_nothing;
    seen =
        record {
          no_shorter = omega arith;
          no_longer = omega arith;
          same = λ place below out. refl;
        };
    small = tt;
  }

  first_mirrored : (i : ℕ) (h : Host) → slice_get (new_hosts c).members i ≡ Some (Some h)
      → IsMirrored c (began c) i h
  first_mirrored i h at =
      let host_of : ℕ → Option Host =
      λ k. if list_any (λ a. k == a) c.faulty then None else Some new_host in
      let member_of : ℕ → Option Member =
      λ k. if list_any (faults k) (silence c.faulty) then None else Some (first_member k) in
      let from = get-map_from host_of (range_with_len 0 c.epochs.total) i (Some h) at in
      let k : ℕ = from.0 in
      let parts = if_none (list_any (λ a. k == a) c.faulty) new_host h from.2 in
      let same : k ≡ i =
      let e = get-range 0 c.epochs.total i k from.1 in let x : k ≡ i = omega (arith, e) in x in
      let there : slice_get (began c).members i ≡ Some (Some (first_member k)) =
      get-map member_of (range_with_len 0 c.epochs.total) i k from.1
      ∙ ap (λ (b : Bool). Some (if b then None else Some (first_member k)))
      (silent_faults k c.faulty ∙ parts.0) in
      subst (λ (x : Host). IsMirrored c (began c) i x) parts.1
      (record {
        member = first_member i;
        at = there ∙ ap (λ (j : ℕ). Some (Some (first_member j))) same;
        stands = at_first (began c) i;
      })

  pub first_follows : Follows c (new_hosts c) [] (began c)
  first_follows = record {
    is = refl;
    quiet = tt;
    flags = same_began 0 c.epochs.total;
    members = first_mirrored;
    votes = λ i v h. absurd (false≢true h);
    hands = λ x there. absurd there;
  }
