-- Hosts around the members of a cluster: what they do, and what they may do.
use Rattle.std.specs.Prelude.{[], Bool, Err, IsTrue, List, None, Ok, Option, Result, Some, codes, false, if◌then◌else◌, is_none, map, option_and_then, slice_get, slice_set, ℕ, ◌&&◌, ◌++◌, ◌==◌, ◌||◌, ◌∷◌, ◌≡◌, ◌⊎◌}
use Rattle.std.specs.List.{AllByRecursion, list_any, range_with_len}
use Rattle.std.specs.Option.{option_map_or}
use Rattle.cw_base.specs.declared.hash.Digest32.{Digest32}
use Rattle.cw_types.specs.Epochs.{Epochs}
use Rattle.cw_types.specs.declared.event.Handed.{Handed}
use Rattle.cw_types.specs.declared.event.Out.{Out}
use Rattle.cw_types.specs.declared.message.Message.{Message}
use Rattle.cw_types.specs.declared.note.Note.{Note}
use Rattle.cw_types.specs.declared.vote.Vote.{Vote}
use Rattle.cw_rules.specs.Chains.{Ends, outcome}
use Rattle.cw_rules.specs.Reached.{In, IsChainUpTo, IsClash, IsCluster, Reaches}
use Rattle.cw_rules.specs.Report.{handed_in}
use Rattle.cw_rules.specs.Rules.{Rules}
use Rattle.cw_rules.specs.Step.{Member, start}
use Rattle.cw_rules.specs.World.{Faulty, Line, Silent, World, is_vote_of, member_at, opening, signed, world_of}
use Rattle.cw_rules.specs.declared.travel.Travel.{Travel}
use Rattle.marshal.specs.Frames.{read_frames}
use Rattle.node.specs.Lives.{Turn, after_turns}
use Rattle.node_disk.specs.Images.{Moment}
use Rattle.node_disk.specs.Log.{start_calls}
use Rattle.node_disk.specs.Made.{last_moment}
use Rattle.member_session.specs.Serving.{Serving, accepting}
use Rattle.member_session.specs.Talk.{new_session, session_after}
use Rattle.member_session.specs.declared.session.Session.{Session}
use Rattle.member_session.specs.declared.session.Session.TheVariants as stage
use Rattle.member_runs.specs.Files.{AreWritable, MayBeLeft, shared}
use Rattle.member_runs.specs.Turns.{turns_calls, turns_handed, turns_in, turns_sends}

-- a cluster: the hash, how blocks travel, its committees, its backlog, and its faulty members
pub record HostCluster : Type 0 where
  pub hash : List ℕ → Digest32
  pub travel : Travel
  pub epochs : Epochs
  pub backlog : ℕ
  pub faulty : List ℕ

-- the rules that its processes go by
abbrev pub cluster_rules : HostCluster → Rules
cluster_rules c = accepting c.hash c.travel c.epochs c.backlog

-- ---- what hosts have

-- a host: its file at this moment, and the member of its process, if one is at work
pub record Host : Type 0 where
  pub file : Moment
  pub serving : Option Serving

-- the hosts by number, a faulty member without; each message that went out, with its sender; and
-- all that was handed out
pub record Hosts : Type 0 where
  pub members : List (Option Host)
  pub said : List (ℕ × Message)
  pub handed : List Handed

-- an empty file, and no process
abbrev pub new_host : Host
new_host = record { file = record { seen = []; synced = []; ranges = [] }; serving = None }

-- the hosts of a new cluster
abbrev pub new_hosts : HostCluster → Hosts
new_hosts c =
    record {
      members =
          map (λ i. if list_any (λ a. i == a) c.faulty then None else Some new_host)
          (range_with_len 0 c.epochs.total);
      said = [];
      handed = [];
    }

-- ---- what was signed

-- the vote of this member went out from it
abbrev pub is_said : ℕ → Vote → ℕ × Message → Bool
is_said i v said = (said.0 == i) && is_vote_of i v said.1

-- the member is faulty
abbrev pub is_bad : Hosts → ℕ → Bool
is_bad hosts i = option_map_or is_none (slice_get hosts.members i) false

-- a faulty member signed every vote, another one those of its own that went out
abbrev pub is_signed_in : Hosts → ℕ → Vote → Bool
is_signed_in hosts i v = is_bad hosts i || list_any (is_said i v) hosts.said

-- what a host vouches for in a turn was signed
abbrev pub IsVouched : Hosts → Turn → Type 0
IsVouched hosts turn =
    (i : ℕ) (v : Vote) → IsTrue (turn.signed i v) → IsTrue (is_signed_in hosts i v)

-- ---- what hosts do

pub data HostEvent : Type 0 where
  -- a process is given these lines and then `start`; the calls of its start are made, and then what
  -- it says goes out
  Starts : (member : ℕ) (opening : List (List ℕ)) → HostEvent
  -- the process is given these lines, one behind the other; the calls of its answers are made, with
  -- shared syncs, and then what it says goes out
  Gives : (member : ℕ) (lines : List (List ℕ)) → HostEvent
  -- the process is given these lines, and the host stops somewhere in those calls: nothing of these
  -- answers goes out, and the file is left so
  Stops : (member : ℕ) (lines : List (List ℕ)) (left : Moment) → HostEvent
  -- the host stops somewhere in the calls of a start
  Breaks : (member : ℕ) (left : Moment) → HostEvent

-- whose host it is
abbrev pub event_member : HostEvent → ℕ
event_member (Starts i opening) = i
event_member (Gives i lines) = i
event_member (Stops i lines left) = i
event_member (Breaks i left) = i

-- what a host comes to, and what of its process goes out and is handed out
pub record Did : Type 0 where
  pub host : Host
  pub sent : List Out
  pub handed : List Handed

-- the member of a process that is at work
abbrev pub serving_in : Session Serving → Option Serving
serving_in (stage.Running s) = Some s
serving_in _ = None

-- the frames that a start finds, none where the file isn't a member's
abbrev pub found_frames : Result (List (List Note)) ℕ → List (List Note)
found_frames (Ok frames) = frames
found_frames (Err place) = []

-- a start
abbrev pub did_start : HostCluster → ℕ → List (List ℕ) → Host → Did
did_start c i opening h =
    let s = start (cluster_rules c) i (found_frames (read_frames h.file.seen)) in
    record {
      host =
          record {
            file = last_moment h.file (start_calls h.file.seen);
            serving =
                serving_in
                (session_after c.hash c.travel (new_session i) (opening ++ codes "start" ∷ []));
          };
      sent = s.sent;
      handed = s.handed;
    }

-- lines that a member at work is given
abbrev pub did_lines : HostCluster → ℕ → List (List ℕ) → Moment → Serving → Did
did_lines c i lines file s =
    record {
      host =
          record {
            file = last_moment file (shared (turns_calls (cluster_rules c) i s.member (turns_in lines)));
            serving = serving_in (session_after c.hash c.travel (stage.Running s) lines);
          };
      sent = turns_sends (cluster_rules c) i s.member (turns_in lines);
      handed = turns_handed (cluster_rules c) i s.member (turns_in lines);
    }

-- a stop
abbrev pub did_stop : Moment → Did
did_stop left = record { host = record { file = left; serving = None }; sent = []; handed = [] }

-- nothing
abbrev pub did_nothing : Host → Did
did_nothing h = record { host = h; sent = []; handed = [] }

-- what an event makes of its host
abbrev pub did_by : HostCluster → HostEvent → Host → Did
did_by c (Starts i opening) h = did_start c i opening h
did_by c (Gives i lines) h = option_map_or (did_lines c i lines h.file) h.serving (did_nothing h)
did_by c (Stops i lines left) h = did_stop left
did_by c (Breaks i left) h = did_stop left

-- the hosts once one did that
abbrev pub with_did : Hosts → ℕ → Did → Hosts
with_did hosts i done =
    record {
      members = slice_set hosts.members i (Some done.host);
      said = hosts.said ++ map (λ o. (i, o.message)) done.sent;
      handed = hosts.handed ++ done.handed;
    }

-- the host of a member
abbrev pub host_at : Hosts → ℕ → Option Host
host_at hosts i = option_and_then (λ o. o) (slice_get hosts.members i)

-- the hosts after an event
abbrev pub hosts_after : HostCluster → Hosts → HostEvent → Hosts
hosts_after c hosts e =
    option_map_or (λ h. with_did hosts (event_member e) (did_by c e h)) (host_at hosts (event_member e))
    hosts

-- and after some
abbrev pub hosts_after_all : HostCluster → Hosts → List HostEvent → Hosts
hosts_after_all c hosts [] = hosts
hosts_after_all c hosts (e ∷ events) = hosts_after_all c (hosts_after c hosts e) events

-- ---- what hosts may do

-- No process is at work, and the lines prepare a start of this member, in this cluster, on the bytes
-- of the file.
pub record CanStart (c : HostCluster) (i : ℕ) (opening : List (List ℕ)) (h : Host) : Type 0 where
  pub down : h.serving ≡ None
  pub opens : session_after c.hash c.travel (new_session i) opening ≡ stage.Opening (record {
    id = i;
    epochs = c.epochs;
    backlog = c.backlog;
    file = h.file.seen;
  })

-- A process is at work; what is vouched for was signed; and what it notes can be written.
pub record CanGive (c : HostCluster) (hosts : Hosts) (i : ℕ) (lines : List (List ℕ)) (h : Host)
    : Type 0 where
  pub serving : Serving
  pub up : h.serving ≡ Some serving
  pub vouched : AllByRecursion (IsVouched hosts) (turns_in lines)
  pub writable : AreWritable (after_turns (cluster_rules c) i serving.member (turns_in lines)).frames

-- And the file is left as it may be.
pub record CanStop (c : HostCluster) (hosts : Hosts) (i : ℕ) (lines : List (List ℕ)) (left : Moment)
    (h : Host) : Type 0 where
  pub gives : CanGive c hosts i lines h
  pub leaves : MayBeLeft h.file
      (shared (turns_calls (cluster_rules c) i gives.serving.member (turns_in lines))) left

-- No process is at work, and the file is left as a stop in a start may leave it.
pub record CanBreak (left : Moment) (h : Host) : Type 0 where
  pub down : h.serving ≡ None
  pub leaves : MayBeLeft h.file (start_calls h.file.seen) left

-- this host may do it
abbrev pub Can : HostCluster → Hosts → HostEvent → Host → Type 0
Can c hosts (Starts i opening) h = CanStart c i opening h
Can c hosts (Gives i lines) h = CanGive c hosts i lines h
Can c hosts (Stops i lines left) h = CanStop c hosts i lines left h
Can c hosts (Breaks i left) h = CanBreak left h

-- the member isn't faulty, and its host may do it
pub record May (c : HostCluster) (hosts : Hosts) (e : HostEvent) : Type 0 where
  pub host : Host
  pub there : slice_get hosts.members (event_member e) ≡ Some (Some host)
  pub can : Can c hosts e host

-- one behind the other
abbrev pub AllMay : HostCluster → Hosts → List HostEvent → Type 0
AllMay c hosts [] = Unit {0}
AllMay c hosts (e ∷ events) = May c hosts e × AllMay c (hosts_after c hosts e) events

-- ---- a run of the rules

-- lines by which these members are faulty, and say nothing
abbrev pub silence : List ℕ → List Line
silence faulty = map (λ a. Faulty a Silent) faulty

-- a member of the world holds the notes of this process
abbrev pub HoldsNotes : Rules → List Line → ℕ → Serving → Type 0
HoldsNotes r script i s =
    (m : Member) × (member_at (world_of r script) i ≡ Some m) × (m.frames ≡ s.member.frames)

-- What hosts did is a script of the cluster: who is at work holds the same notes there, each vote
-- that went out was sent there, and what was handed out was handed out there.
pub record RunAs (c : HostCluster) (hosts : Hosts) (script : List Line) : Type 0 where
  pub cluster : IsCluster (cluster_rules c) script
  pub notes : (i : ℕ) (h : Host) (s : Serving) → slice_get hosts.members i ≡ Some (Some h)
      → h.serving ≡ Some s → HoldsNotes (cluster_rules c) script i s
  pub votes : (i : ℕ) (v : Vote) → IsTrue (is_signed_in hosts i v)
      → IsTrue (signed (world_of (cluster_rules c) script) i v)
  pub handed : (x : Handed) → In x hosts.handed → In x (handed_in (cluster_rules c) script)

-- All that was handed out lies on one chain of this world, and is one block at one height.
pub record LieOnOneChain (r : Rules) (w : World) (handed : List Handed) : Type 0 where
  pub chain : (x : Handed) → In x handed → IsChainUpTo r w handed x
  pub one : (x y : Handed) → In x handed → In y handed → x.height ≡ y.height → x ≡ y

-- Where the script ends in a world, all lies on one chain of it; else it comes to a world in which
-- two different blocks of one digest are known.
abbrev pub OneChainOrClash : Rules → List Line → List Handed → Type 0
OneChainOrClash r script handed =
    ((w : World) × (outcome r (opening r script) script ≡ Ends w) × LieOnOneChain r w handed)
    ⊎ ((w : World) × (earlier : List ℕ) × (later : List ℕ) × Reaches r script w
    × IsClash r w earlier later)
