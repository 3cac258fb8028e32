-- Hosts, and a world that mirrors them.
use Rattle.std.proofs.Common.{◌≡◌, ℕ, zero, suc, Bool, true, ◌&&◌, ◌==◌, List, [], ◌∷◌, ◌++◌, Option, Some, None, is_none, map, slice_get, slice_set, refl, sym, ◌∙◌, ap, subst, inl, inr, ◌⊎◌, ⊎_elim, eqb-true}
use Rattle.std.specs.List.{AllByRecursion, list_any}
use Rattle.std.proofs.lemmas.Bool.{and_parts, false≢true, or_cases, or_left, or_right}
use Rattle.cw_types.specs.declared.event.Handed.{Handed}
use Rattle.cw_types.specs.declared.event.Out.{Out}
use Rattle.cw_types.specs.declared.vote.Vote.{Vote}
use Rattle.cw_rules.specs.Coding.{AreBytes}
use Rattle.cw_rules.specs.Reached.{In}
use Rattle.cw_rules.specs.Rules.{Rules}
use Rattle.cw_rules.specs.Step.{Member, Tickets}
use Rattle.cw_rules.specs.World.{Line, World, is_faulty, is_sent_vote, is_vote_of, opening, run, signed}
use Rattle.cw_rules.proofs.Lists.{in_cases, in_left, in_right}
use Rattle.cw_rules.proofs.Runs.{handed_by}
use Rattle.cw_rules.proofs.Sends.{any_cases}
use Rattle.cw_rules.proofs.Worlds.{get-set}
use Rattle.marshal.specs.Frames.{frame_bytes}
use Rattle.node.specs.Lives.{Turn, after_turns}
use Rattle.node_disk.specs.Images.{IsImage, Moment}
use Rattle.node_disk.specs.Log.{HasSettled}
use Rattle.node_disk.specs.Made.{FindsSome}
use Rattle.member_session.specs.Told.{gate_of}
use Rattle.member_session.specs.Serving.{Serving}
use Rattle.member_runs.specs.Files.{AreWritable, some_frames}
use Rattle.member_runs.specs.Hosts.{HostCluster, Did, Host, Hosts, is_bad, is_said, is_signed_in, cluster_rules, silence, with_did}
use Rattle.member_runs.specs.Turns.{turns_notes}
use Rattle.member_runs.proofs.Accepts.{IsWithin}
use Rattle.member_runs.proofs.Going.{Goes, IsQuiet, all_quiet, handed_both, run_both}
use Rattle.member_runs.proofs.Turned.{bare}
use Rattle.member_runs.proofs.Turnings.{AllFromBytes, AllWithin, more_signed, same_flags, still_within}

-- a process of this cluster with this member
abbrev pub serving_as : HostCluster → ℕ → Member → Serving
serving_as c i m = record { id = i; epochs = c.epochs; backlog = c.backlog; member = m }

-- a process is at work: its file is at rest with its notes
pub record IsUp (c : HostCluster) (i : ℕ) (file : Moment) (m : Member) (s : Serving) : Type 0 where
  pub process : Member
  pub who : s ≡ serving_as c i process
  pub tickets : Tickets
  pub same : m ≡ bare process tickets
  pub settled : HasSettled (map frame_bytes process.frames) (gate_of process.frames) file

-- none is: on the file are the notes of some first turns of these
pub record IsDown (c : HostCluster) (w : World) (i : ℕ) (file : Moment) (m : Member) : Type 0 where
  pub process : Member
  pub tickets : Tickets
  pub same : m ≡ bare process tickets
  pub turns : List Turn
  pub from : AllFromBytes turns
  pub within : AllWithin w turns
  pub writable : AreWritable (after_turns (cluster_rules c) i process turns).frames
  pub finds : (image : List ℕ) → IsImage file image
      → FindsSome (map frame_bytes process.frames)
      (map frame_bytes (some_frames (turns_notes (cluster_rules c) i process turns))) image
  pub seen : IsImage file file.seen
  pub small : AreBytes file.seen

abbrev pub Stands : HostCluster → World → ℕ → Moment → Member → Option Serving → Type 0
Stands c w i file m (Some s) = IsUp c i file m s
Stands c w i file m None = IsDown c w i file m

-- the world's member is that of the host
pub record IsMirrored (c : HostCluster) (w : World) (i : ℕ) (h : Host) : Type 0 where
  pub member : Member
  pub at : slice_get w.members i ≡ Some (Some member)
  pub stands : Stands c w i h.file member h.serving

stands_on : (c : HostCluster) (w v : World) (i : ℕ) (file : Moment) (m : Member) (o : Option Serving)
    → IsWithin (signed w) (signed v) → Stands c w i file m o → Stands c v i file m o
stands_on c w v i file m (Some s) more up = up
stands_on c w v i file m None more down = record {
  process = down.process;
  tickets = down.tickets;
  same = down.same;
  turns = down.turns;
  from = down.from;
  within = still_within w v more down.turns down.within;
  writable = down.writable;
  finds = down.finds;
  seen = down.seen;
  small = down.small;
}

-- the world in which all began
abbrev pub began : HostCluster → World
began c = opening (cluster_rules c) (silence c.faulty)

-- these lines lead to a world that mirrors the hosts
pub record Follows (c : HostCluster) (hosts : Hosts) (lines : List Line) (w : World) : Type 0 where
  pub is : run (cluster_rules c) (began c) lines ≡ w
  pub quiet : AllByRecursion (IsQuiet c.epochs.total) lines
  pub flags : map is_none hosts.members ≡ map is_none w.members
  pub members : (i : ℕ) (h : Host) → slice_get hosts.members i ≡ Some (Some h)
      → IsMirrored c w i h
  pub votes : (i : ℕ) (v : Vote) → list_any (is_said i v) hosts.said ≡ true
      → list_any (is_sent_vote i v) w.pool ≡ true
  pub hands : (x : Handed) → In x hosts.handed → In x (handed_by (cluster_rules c) (began c) lines)

-- what was signed among the hosts was signed in the world
pub signed_there : (c : HostCluster) (hosts : Hosts) (lines : List Line) (w : World)
    → Follows c hosts lines w → IsWithin (is_signed_in hosts) (signed w)
signed_there c hosts lines w follows i v h =
    ⊎_elim
    (λ bad. or_left (is_faulty w i) (list_any (is_sent_vote i v) w.pool)
    (sym (same_flags hosts.members w.members follows.flags i) ∙ bad))
    (λ said. or_right (is_faulty w i) (list_any (is_sent_vote i v) w.pool) (follows.votes i v said))
    (or_cases (is_bad hosts i) (list_any (is_said i v) hosts.said) h)

flags_set : {X : Type 0} (xs : List (Option X)) (i : ℕ) (x y : X)
    → slice_get xs i ≡ Some (Some x) → map is_none (slice_set xs i (Some y)) ≡ map is_none xs
flags_set [] i x y at = refl
flags_set (o ∷ xs) zero x y at =
    let e : o ≡ Some x = cc in ap (λ (b : Bool). b ∷ map is_none xs) (sym (ap is_none e))
flags_set (o ∷ xs) (suc i) x y at = ap (λ l. is_none o ∷ l) (flags_set xs i x y at)

-- a vote that goes out is one of what is sent
said_new : (i j : ℕ) (v : Vote) (sent : List Out)
    → list_any (is_said j v) (map (λ o. (i, o.message)) sent) ≡ true
    → (o : Out) × In o sent × (i ≡ j) × (is_vote_of j v o.message ≡ true)
said_new i j v [] h = absurd (false≢true h)
said_new i j v (o ∷ sent) h =
    go
    (or_cases ((i == j) && is_vote_of j v o.message)
    (list_any (is_said j v) (map (λ (x : Out). (i, x.message)) sent)) h)
    (said_new i j v sent)
  where
    go : (((i == j) && is_vote_of j v o.message) ≡ true)
        ⊎ (list_any (is_said j v) (map (λ (x : Out). (i, x.message)) sent) ≡ true)
        → (list_any (is_said j v) (map (λ (x : Out). (i, x.message)) sent) ≡ true
        → (x : Out) × In x sent × (i ≡ j) × (is_vote_of j v x.message ≡ true))
        → (x : Out) × In x (o ∷ sent) × (i ≡ j) × (is_vote_of j v x.message ≡ true)
    go (inl here) later =
        let both = and_parts (i == j) (is_vote_of j v o.message) here in
        (o, inl refl, eqb-true i j both.0, both.1)
    go (inr there) later =
        let x = later there in (x.0, inr x.1, x.2, x.3)

-- one host did something, and the world went on with it
pub follows_on : (c : HostCluster) (hosts : Hosts) (lines : List Line) (w : World)
    (i : ℕ) (h : Host) (done : Did) (more : List Line) (m : Member)
    → Follows c hosts lines w → slice_get hosts.members i ≡ Some (Some h)
    → Goes (cluster_rules c) w more i m done.sent done.handed
    → Stands c (run (cluster_rules c) w more) i done.host.file m done.host.serving
    → Follows c (with_did hosts i done) (lines ++ more) (run (cluster_rules c) w more)
follows_on c hosts lines w i h done more m follows there goes stands =
    record {
      is =
          run_both (cluster_rules c) (began c) lines more
          ∙ ap (λ (v : World). run (cluster_rules c) v more) follows.is;
      quiet = all_quiet c.epochs.total lines more follows.quiet goes.quiet;
      flags = flags_set hosts.members i h done.host there ∙ follows.flags ∙ sym goes.flags;
      members =
          λ j x at. by_member j x (get-set hosts.members i j (Some done.host) (Some x) at);
      votes =
          λ j v said. by_vote j v
          (any_cases (is_said j v) hosts.said (map (λ (o : Out). (i, o.message)) done.sent) said);
      hands =
          λ x at. subst (λ (l : List Handed). In x l)
          (sym (handed_both (cluster_rules c) (began c) lines more))
          (by_hand x (in_cases x hosts.handed done.handed at));
    }
  where
    r : Rules
    r = cluster_rules c

    by_member : (j : ℕ) (x : Host)
        → ((i ≡ j) × (Some done.host ≡ Some x))
        ⊎ ((i ≡ j → ⊥) × (slice_get hosts.members j ≡ Some (Some x)))
        → IsMirrored c (run (cluster_rules c) w more) j x
    by_member j x (inl here) =
        let same : done.host ≡ x = cc in
        subst (λ (y : Host). IsMirrored c (run (cluster_rules c) w more) j y) same
        (subst (λ (k : ℕ). IsMirrored c (run (cluster_rules c) w more) k done.host) here.0
        (record { member = m; at = goes.at; stands = stands }))
    by_member j x (inr other) =
        let old = follows.members j x other.1 in
        record {
          member = old.member;
          at = goes.others j (Some old.member) other.0 old.at;
          stands =
              stands_on c w (run (cluster_rules c) w more) j x.file old.member x.serving
              (more_signed (cluster_rules c) w more i m done.sent done.handed goes) old.stands;
        }

    by_vote : (j : ℕ) (v : Vote)
        → (list_any (is_said j v) hosts.said ≡ true)
        ⊎ (list_any (is_said j v) (map (λ (o : Out). (i, o.message)) done.sent) ≡ true)
        → list_any (is_sent_vote j v) (run (cluster_rules c) w more).pool ≡ true
    by_vote j v (inl before) = goes.pool j v (follows.votes j v before)
    by_vote j v (inr now) =
        let new = said_new i j v done.sent now in
        subst (λ (k : ℕ). list_any (is_sent_vote k v) (run (cluster_rules c) w more).pool ≡ true) new.2
        (goes.goes_out v new.0 new.1
        (subst (λ (k : ℕ). is_vote_of k v new.0.message ≡ true) (sym new.2) new.3))

    by_hand : (x : Handed) → In x hosts.handed ⊎ In x done.handed
        → In x
        (handed_by (cluster_rules c) (began c) lines
        ++ handed_by (cluster_rules c) (run (cluster_rules c) (began c) lines) more)
    by_hand x (inl before) =
        in_left x (handed_by (cluster_rules c) (began c) lines)
        (handed_by (cluster_rules c) (run (cluster_rules c) (began c) lines) more) (follows.hands x before)
    by_hand x (inr now) =
        in_right x (handed_by (cluster_rules c) (began c) lines)
        (handed_by (cluster_rules c) (run (cluster_rules c) (began c) lines) more)
        (subst (λ (v : World). In x (handed_by (cluster_rules c) v more)) (sym follows.is)
        (goes.hands x now))
