-- When a report is that of a text, and why there is none.
use Rattle.std.specs.Prelude.{[], ℕ, ◌<◌, ◌∷◌, ◌≡◌, ◌≢◌, ◌⊎◌, Err, List, None, Ok, Option, Some, false, filter, filter_map, length, map, not, option_map, true}
use Rattle.std.specs.List.{enumerate_from, range_with_len}
use Rattle.cw_base.specs.declared.hash.Digest32.{Digest32}
use Rattle.cw_types.specs.Block.{Block}
use Rattle.cw_rules.specs.Chains.{Clashes, Ends, outcome}
use Rattle.cw_rules.specs.Reached.{IsClash, IsCluster, IsReported, Reaches}
use Rattle.cw_rules.specs.Report.{Entry, Report as Reported, handed_in, report_of}
use Rattle.cw_rules.specs.Rules.{Rules}
use Rattle.cw_rules.specs.Step.{Member}
use Rattle.cw_rules.specs.World.{World, opening}
use Rattle.cw_rules.specs.declared.travel.Travel.{Travel}
use Rattle.hail_script.specs.declared.error.RunError.{RunError}
use Rattle.hail_script.specs.declared.error.RunError.TheVariants as error
use Rattle.hail_script.specs.Grammar.{is_faulty_in, script_by}
use Rattle.hail_script.specs.Scenario.{Scenario}
use Rattle.hail_world.specs.declared.report.Report.{Report}
use Rattle.marshal.specs.Frames.{FindsNotes}
use Rattle.node_disk.specs.Memory.{is_calm, memory_state}
use Rattle.hail_world.specs.Places.{script_rules}
use Rattle.hail_world.specs.MemoryNodes.{MemoryNode, Works, rules_by}

-- what a report tells of the rules
abbrev pub shown_report : {H W : Type 0} → Report H W → Reported
shown_report r = record { opening = r.opening; steps = r.steps; acked = r.acked; chain = r.chain }

-- the honest members of a world, by number
abbrev pub honest : World → List Member
honest w = filter_map (λ o. o) w.members

-- the same, each with its number
abbrev pub numbered : ℕ × Option Member → Option (ℕ × Member)
numbered at = option_map (λ m. (at.0, m)) at.1

abbrev pub honest_at : World → List (ℕ × Member)
honest_at w = filter_map numbered (enumerate_from 0 w.members)

-- each disk holds its member's frames of notes
abbrev pub HoldNotes : List Member → List (List ℕ) → Type 0
HoldNotes [] [] = Unit {0}
HoldNotes (m ∷ ms) (disk ∷ disks) = (FindsNotes m.frames disk) × HoldNotes ms disks
HoldNotes _ _ = ⊥

-- The node of a member that is live at the end of a run: it is that member, under its number, by
-- the rules of the run, it takes events, and its disk doesn't fail and has these bytes.
pub record IsNodeOfMember (r : Rules) (number : ℕ) (m : Member) (disk : List ℕ)
    (node : MemoryNode) : Type 0 where
  pub live : m.live ≡ true
  pub id : node.id ≡ number
  pub rules : rules_by r.hash node ≡ r
  pub member : node.member ≡ m
  pub works : Works node
  pub calm : is_calm node.log.disk ≡ true
  pub bytes : (memory_state node.log.disk).now.seen ≡ disk

-- a member has its node, and there is none exactly for a stopped one
abbrev pub IsLiveAs : Rules → ℕ × Member → List ℕ → Option MemoryNode → Type 0
IsLiveAs r at disk None = at.1.live ≡ false
IsLiveAs r at disk (Some node) = IsNodeOfMember r at.0 at.1 disk node

-- so for each member, with its number, and the disk of each
abbrev pub AreNodesOf : Rules → List (ℕ × Member) → List (List ℕ) → List (Option MemoryNode)
    → Type 0
AreNodesOf r [] [] [] = Unit {0}
AreNodesOf r (m ∷ ms) (disk ∷ disks) (node ∷ nodes) =
    IsLiveAs r m disk node × AreNodesOf r ms disks nodes
AreNodesOf r _ _ _ = ⊥

-- The report of a script's run: the script ends without a clash in this world, and what is told is
-- the rules' report of it. The disks and nodes are those of the honest members as the world leaves
-- them, each node under its number and by the script's rules, on the disk that is told.
pub record IsRun {H W : Type 0} (hash : List ℕ → Digest32) (script : Scenario)
    (report : Report H W) : Type 0 where
  pub world : World
  pub ends : outcome (script_rules hash script) (opening (script_rules hash script) script.lines)
      script.lines
      ≡ Ends world
  pub told : shown_report report ≡ report_of (script_rules hash script) script.lines world
  pub disks : HoldNotes (honest world) report.disks
  pub nodes : AreNodesOf (script_rules hash script) (honest_at world) report.disks report.nodes

-- the members that no line makes faulty, by number
abbrev pub honest_numbers : Scenario → List ℕ
honest_numbers s = filter (λ i. not (is_faulty_in s.lines i)) (range_with_len 0 s.committees.total)

-- The text spells a script that is run, of blocks that travel so, and this is the report of its
-- run. These are the first three fields. The others follow from them, by the laws of scripts and of
-- runs, and are said so that a reader needn't derive them.
pub record IsReport {H W : Type 0} (travel : Travel) (hash : List ℕ → Digest32) (text : List ℕ)
    (report : Report H W) : Type 0 where
  pub script : Scenario
  pub in_grammar : script_by travel text ≡ Ok script
  pub run : IsRun hash script report
  -- the script makes at most f of the n members of each epoch faulty, n above 3f
  pub cluster : IsCluster (script_rules hash script) script.lines
  -- there is an entry for each honest member, by number, and one for each event line
  pub opened : map (λ e. e.member) report.opening ≡ map Some (honest_numbers script)
  pub stepped : length report.steps ≡ length script.lines
  -- the links are one chain of certified blocks, each block that is handed out is the link of its
  -- height, and no link is higher than all of these
  pub chain : IsReported (script_rules hash script) run.world
      (handed_in (script_rules hash script) script.lines) report.chain

-- the run of the script ends in this clash, and these are the encodings of two different blocks of
-- one digest, each genesis or noted by an honest member: two different texts
pub record IsClashOf (hash : List ℕ → Digest32) (script : Scenario)
    (earlier later : List ℕ) : Type 0 where
  pub ends : outcome (script_rules hash script) (opening (script_rules hash script) script.lines)
      script.lines
      ≡ Clashes earlier later
  pub world : World
  pub reached : Reaches (script_rules hash script) script.lines world
  pub shown : IsClash (script_rules hash script) world earlier later
  pub texts : earlier ≢ later

-- the text spells a script that ends in this clash
abbrev pub Clashing : Travel → (List ℕ → Digest32) → List ℕ → List ℕ → List ℕ → Type 0
Clashing travel hash text earlier later =
    (script : Scenario) × (script_by travel text ≡ Ok script)
    × IsClashOf hash script earlier later

-- why there is no report
abbrev pub IsCause : Travel → (List ℕ → Digest32) → List ℕ → RunError → Type 0
IsCause travel hash text error.NoMemory = Unit {0}
IsCause travel hash text (error.HashClash earlier later) = Clashing travel hash text earlier later
IsCause travel hash text e = script_by travel text ≡ Err e
