-- The parts of a run, put together.
use Rattle.std.proofs.Common.{length, take, ◌≡◌, ℕ, ◌+◌, ◌++◌, false, List, [], ◌∷◌, refl, sym, ap, subst, ◌∙◌}
use Rattle.std.specs.Prelude.{filter_map, flat_map}
use Rattle.std.specs.List.{enumerate_from}
use Rattle.cw_base.specs.declared.hash.Digest32.{Digest32}
use Rattle.cw_types.specs.Block.{Block}
use Rattle.cw_rules.specs.Chains.{Ends, outcome}
use Rattle.cw_rules.specs.Report.{Acked, Entry, Report as Reported, acked_at, entries_from, entry_of, highest, opening_entries, report_of}
use Rattle.cw_rules.specs.Rules.{Rules}
use Rattle.cw_rules.specs.World.{Line, World, happens}
use Rattle.hail_script.specs.Grammar.{first_event}
use Rattle.hail_script.specs.Scenario.{Scenario}
use Rattle.hail_world.specs.declared.report.Report.{Report}
use Rattle.hail_world.specs.Clusters.{Cluster, steps_in, world_in}
use Rattle.hail_world.specs.Places.{script_rules}
use Rattle.hail_world.specs.Played.{IsReportOf, entries_of, lines_of}
use Rattle.hail_world.specs.Reports.{IsRun}
use Rattle.hail_world.specs.Runs.{chain_from, opened}
use Rattle.hail_world.proofs.Clusters.{numbered_lines}

pub four : (a a' b b' : List Entry) (c c' : List Acked) (d d' : List Block) → a ≡ a' → b ≡ b'
    → c ≡ c' → d ≡ d'
    → (let r : Reported = record { opening = a; steps = b; acked = c; chain = d } in r)
    ≡ record { opening = a'; steps = b'; acked = c'; chain = d' }
four a a' b b' c c' d d' p q s t =
    ap
    (λ (x : List Entry). let r : Reported = record {
      opening = x;
      steps = b;
      acked = c;
      chain = d;
    } in r)
    p
    ∙ ap
    (λ (x : List Entry). let r : Reported = record {
      opening = a';
      steps = x;
      acked = c;
      chain = d;
    } in r)
    q
    ∙ ap
    (λ (x : List Acked). let r : Reported = record {
      opening = a';
      steps = b';
      acked = x;
      chain = d;
    } in r)
    s
    ∙ ap
    (λ (x : List Block). let r : Reported = record {
      opening = a';
      steps = b';
      acked = c';
      chain = x;
    } in r)
    t

-- the entries of lines under the numbers from one on
numbered_entries : (r : Rules) (w : World) (n : ℕ) (lines : List Line)
    → entries_of r w (enumerate_from n lines) ≡ entries_from r w n lines
numbered_entries r w n [] = refl
numbered_entries r w n (line ∷ lines) =
    ap (λ (l : List Entry). entry_of r w n line ∷ l)
    (numbered_entries r (happens r w line) (n + 1) lines)

-- a run, from a cluster whose lines all had their turns, in order, and the report of these
pub ran : {H W : Type 0} (hash : List ℕ → Digest32) (s : Scenario) (c : Cluster)
    (report : Report H W)
    → c ≡ record {
      script = s;
      rows = enumerate_from (first_event s.committees) s.lines;
      over = false;
    }
    → outcome (script_rules hash c.script) (opened hash c.script) (lines_of c.rows)
    ≡ Ends (world_in hash c)
    → IsReportOf (script_rules hash c.script) (world_in hash c)
    (opening_entries (script_rules hash c.script) c.script.lines) (steps_in hash c) report
    → IsRun hash s report
ran hash s c report is ends told =
    let r = script_rules hash s in
    let w = opened hash s in
    let n : ℕ = first_event s.committees in
    let all : Cluster = record { script = s; rows = enumerate_from n s.lines; over = false } in
    let last : World = world_in hash all in
    let ended : outcome r w (lines_of (enumerate_from n s.lines)) ≡ Ends last =
    subst
    (λ (x : Cluster). outcome (script_rules hash x.script) (opened hash x.script) (lines_of x.rows)
    ≡ Ends (world_in hash x))
    is ends in
    let tells : IsReportOf r last (opening_entries r s.lines)
    (entries_of r w (enumerate_from n s.lines)) report =
    subst
    (λ (x : Cluster). IsReportOf (script_rules hash x.script) (world_in hash x)
    (opening_entries (script_rules hash x.script) x.script.lines) (steps_in hash x) report)
    is told in
    let steps : entries_of r w (enumerate_from n s.lines) ≡ entries_from r w n s.lines =
    numbered_entries r w n s.lines in
    record {
      world = last;
      ends =
          ap (λ (l : List Line). outcome r w l) (sym (numbered_lines n s.lines)) ∙ ended;
      told =
          four report.opening (opening_entries r s.lines) report.steps
          (entries_from r w n s.lines) report.acked
          (filter_map acked_at (enumerate_from 0 last.members)) report.chain
          (report_of r s.lines last).chain
          tells.opening_is (tells.steps_are ∙ steps) tells.stands
          (tells.chain
          ∙ ap
          (λ (l : List Entry). chain_from r last
          (highest (flat_map (λ (e : Entry). e.handed) (opening_entries r s.lines ++ l))))
          steps);
      disks = tells.disks;
      nodes = tells.nodes;
    }

-- what a slice wrote back into its Vec
pub whole_front : {X : Type 0} (xs more : List X) (n : ℕ) → length xs ≡ n → take n (xs ++ more) ≡ xs
whole_front {X} xs more n e = ap (λ (k : ℕ). take k (xs ++ more)) (sym e) ∙ all xs
  where
    all : (ys : List X) → take (length ys) (ys ++ more) ≡ ys
    all [] = refl
    all (y ∷ ys) = ap (λ (l : List X). y ∷ l) (all ys)
