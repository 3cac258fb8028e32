-- A script whose lanes are merged in an order.
use Rattle.std.proofs.Common.{◌≡◌, ◌≢◌, ℕ, zero, suc, ◌+◌, ◌-◌, ◌<◌, ◌||◌, Bool, false, List, [], ◌∷◌, ◌++◌, length, map, take, drop, Option, Some, None, Ok, Err, refl, sym, ap, subst, ◌∙◌, arith, append_assoc, append-nil, length-append, ◌⊎◌, inl, inr}
use Rattle.std.specs.Prelude.{cond, filter_map, flat_map, slice_get, slice_index, slice_set}
use Rattle.std.specs.List.{AllByRecursion, enumerate_from, list_any, range_with_len}
use Rattle.std.specs.Option.{option_map_or}
use Rattle.std.proofs.Math.Path.{fun_ext}
use Rattle.std.proofs.lemmas.List.Folds.{list_any-append}
use Rattle.cw_base.specs.declared.hash.Digest32.{Digest32}
use Rattle.cw_types.specs.Block.{Block}
use Rattle.cw_rules.specs.Chains.{Clashes, Ends, outcome}
use Rattle.cw_rules.specs.Reached.{IsClash, IsCluster, IsReported, Reaches}
use Rattle.cw_rules.specs.Report.{Entry, acked_at, entries_from, entry_of, first_line, handed_in, highest, opening_entries, report_of}
use Rattle.cw_rules.specs.Rules.{Rules}
use Rattle.cw_rules.specs.Step.{start}
use Rattle.cw_rules.specs.Telling.{FitsLine, TellsBlocks}
use Rattle.cw_rules.specs.World.{Line, World, faults, happens, opening, run}
use Rattle.hail_script.specs.Lanes.{Laned, cut, laned_of, lanes, prefix, rows}
use Rattle.hail_script.proofs.Causes.{laned_early}
use Rattle.hail_script.specs.declared.error.RunError.{RunError}
use Rattle.hail_script.specs.declared.error.RunError.TheVariants as error
use Rattle.hailstorm.specs.Reports.{Report}
use Rattle.hail_world.specs.Clusters.{Cluster, steps_in, world_in}
use Rattle.hail_world.specs.Played.{IsReportOf, entries_of, lines_of}
use Rattle.hailstorm.specs.Lanes.{IsLanesCause, IsLanesClash, IsLanesReport, but_last, lane_at, left, merged, played, renumbered, script_with, turns_of, whole, without_next}
use Rattle.hail_world.specs.Places.{script_rules}
use Rattle.hailstorm.specs.Reports.{IsClashOf}
use Rattle.hail_world.specs.Runs.{IsStopped, chain_from, opened}
use Rattle.hailstorm.specs.Turns.{HasMet, IsBetween, IsOver, between}
use Rattle.hailstorm.proofs.Merging.{all_turned, between_next, cursor_lane, cursor_next, cut_whole, left_more, merged_any, merged_length, merged_more, rows_count, rows_get, rows_lines, turns_next}
use Rattle.hail_world.proofs.Clusters.{same_cluster, same_opening}
use Rattle.hail_world.proofs.Reporting.{openers}
use Rattle.hail_world.proofs.Running.{four}
use Rattle.hail_world.proofs.Turned.{clash_behind, lines_more}

-- ---- the lines of a script, in another order

pub lines_joined : (a b : List (ℕ × Line)) → lines_of (a ++ b) ≡ lines_of a ++ lines_of b
lines_joined [] b = refl
lines_joined (row ∷ a) b = ap (λ (l : List Line). row.1 ∷ l) (lines_joined a b)

any_lines : (f : Line → Bool) (a : List (ℕ × Line))
    → list_any f (lines_of a) ≡ list_any (λ (row : ℕ × Line). f row.1) a
any_lines f [] = refl
any_lines f (row ∷ a) = ap (λ (b : Bool). f row.1 || b) (any_lines f a)

head_rest : {X : Type 0} (runs : List (List X))
    → option_map_or (λ run. run) (slice_get runs 0) [] ++ flat_map (λ lane. lane) (drop 1 runs)
    ≡ flat_map (λ run. run) runs
head_rest [] = refl
head_rest (run ∷ runs) = refl

parts : (x : Laned) → prefix x ++ flat_map (λ lane. lane) (lanes x) ≡ rows x
parts x = head_rest (cut x.sizes (rows x)) ∙ cut_whole x.sizes (rows x)

pub all_lines : (x : Laned) → lines_of (rows x) ≡ x.script.lines
all_lines x = rows_lines x.numbers 0 x.script.lines

pub count_rows : (x : Laned) → length (rows x) ≡ length x.script.lines
count_rows x = rows_count x.numbers 0 x.script.lines

pub row_at : (x : Laned) (i : ℕ) (line : Line) → slice_get x.script.lines i ≡ Some line
    → slice_get (rows x) i ≡ Some (slice_index x.numbers i, line)
row_at x i line e =
    let none : 0 + i ≡ i = omega arith in
    rows_get x.numbers 0 x.script.lines i line e
    ∙ ap (λ (n : ℕ). let o : Option (ℕ × Line) = Some (slice_index x.numbers n, line) in o) none

-- whatever is asked of the lines
same_any : (x : Laned) (order : List ℕ) (f : Line → Bool)
    → list_any f x.script.lines ≡ list_any f (lines_of (whole x order))
same_any x order f =
    let g : ℕ × Line → Bool = λ (row : ℕ × Line). f row.1 in
    let rest = flat_map (λ lane. lane) (left (lanes x) order) in
    ap (λ (l : List Line). list_any f l) (sym (all_lines x)) ∙ any_lines f (rows x)
    ∙ ap (λ (l : List (ℕ × Line)). list_any g l) (sym (parts x))
    ∙ list_any-append g (prefix x) (flat_map (λ lane. lane) (lanes x))
    ∙ ap (λ (b : Bool). list_any g (prefix x) || b) (sym (merged_any g (lanes x) order))
    ∙ sym (list_any-append g (prefix x) (merged (lanes x) order ++ rest))
    ∙ ap (λ (l : List (ℕ × Line)). list_any g l)
    (sym (append_assoc (prefix x) (merged (lanes x) order) rest))
    ∙ sym (any_lines f (whole x order))

pub same_faults : (x : Laned) (order : List ℕ)
    → (let p : ℕ → Bool = λ i. list_any (faults i) x.script.lines in p)
    ≡ (λ i. list_any (faults i) (lines_of (whole x order)))
same_faults x order = fun_ext (λ i. same_any x order (faults i))

pub same_entries : (r : Rules) (a b : List Line)
    → (let p : ℕ → Bool = λ i. list_any (faults i) a in p) ≡ (λ i. list_any (faults i) b)
    → opening_entries r a ≡ opening_entries r b
same_entries r a b same =
    ap
    (λ (p : ℕ → Bool). filter_map
    (λ i. let o : Option Entry = cond (p i) None (Some (record {
      line = 0;
      member = Some i;
      found = None;
      sent = [];
      handed = (start r i []).handed;
    })) in o)
    (range_with_len 0 r.epochs.total))
    same

-- ---- what holds of each line holds in another order

module _ (P : Line → Type 0) where
  abbrev Holds : ℕ × Line → Type 0
  Holds row = P row.1

  all_joined : (a b : List (ℕ × Line)) → AllByRecursion Holds a → AllByRecursion Holds b
      → AllByRecursion Holds (a ++ b)
  all_joined [] b p q = q
  all_joined (row ∷ a) b p q = (p.0, all_joined a b p.1 q)

  all_apart : (a b : List (ℕ × Line)) → AllByRecursion Holds (a ++ b)
      → AllByRecursion Holds a × AllByRecursion Holds b
  all_apart [] b p = (tt, p)
  all_apart (row ∷ a) b p = let more = all_apart a b p.1 in ((p.0, more.0), more.1)

  all_taken : (a : List (ℕ × Line)) → AllByRecursion Holds a
      → AllByRecursion Holds (take 1 a) × AllByRecursion Holds (drop 1 a)
  all_taken [] p = (tt, tt)
  all_taken (row ∷ a) p = ((p.0, tt), p.1)

  -- the next line of a lane, and the lanes without it
  all_next : (lanes : List (List (ℕ × Line))) (k : ℕ)
      → AllByRecursion Holds (flat_map (λ lane. lane) lanes)
      → AllByRecursion Holds (take 1 (lane_at lanes k))
      × AllByRecursion Holds (flat_map (λ lane. lane) (without_next lanes k))
  all_next [] k p = (tt, tt)
  all_next (lane ∷ lanes) zero p =
      let both = all_apart lane (flat_map (λ lane. lane) lanes) p in
      let parts = all_taken lane both.0 in
      (parts.0, all_joined (drop 1 lane) (flat_map (λ lane. lane) lanes) parts.1 both.1)
  all_next (lane ∷ lanes) (suc k) p =
      let both = all_apart lane (flat_map (λ lane. lane) lanes) p in
      let more = all_next lanes k both.1 in
      (more.0, all_joined lane (flat_map (λ lane. lane) (without_next lanes k)) both.0 more.1)

  all_merged : (lanes : List (List (ℕ × Line))) (order : List ℕ)
      → AllByRecursion Holds (flat_map (λ lane. lane) lanes)
      → AllByRecursion Holds (merged lanes order)
      × AllByRecursion Holds (flat_map (λ lane. lane) (left lanes order))
  all_merged lanes [] p = (tt, p)
  all_merged lanes (k ∷ order) p =
      let next = all_next lanes k p in
      let more = all_merged (without_next lanes k) order next.1 in (
        all_joined (take 1 (lane_at lanes k)) (merged (without_next lanes k) order) next.0 more.0,
        more.1,
      )

  all_rows : (a : List (ℕ × Line)) → AllByRecursion P (lines_of a) → AllByRecursion Holds a
  all_rows [] p = tt
  all_rows (row ∷ a) p = (p.0, all_rows a p.1)

  all_lines_of : (a : List (ℕ × Line)) → AllByRecursion Holds a → AllByRecursion P (lines_of a)
  all_lines_of [] p = tt
  all_lines_of (row ∷ a) p = (p.0, all_lines_of a p.1)

  same_all : (x : Laned) (order : List ℕ) → AllByRecursion P x.script.lines
      → AllByRecursion P (lines_of (whole x order))
  same_all x order p =
      let rest = flat_map (λ lane. lane) (left (lanes x) order) in
      let all = all_rows (rows x) (subst (AllByRecursion P) (sym (all_lines x)) p) in
      let both =
      all_apart (prefix x) (flat_map (λ lane. lane) (lanes x))
      (subst (AllByRecursion Holds) (sym (parts x)) all) in
      let turned = all_merged (lanes x) order both.1 in
      all_lines_of (whole x order)
      (all_joined (played x order) rest
      (all_joined (prefix x) (merged (lanes x) order) both.0 turned.0) turned.1)

-- ---- a turn

module _ (x : Laned) (order : List ℕ) (cursors : List (ℕ × ℕ)) (k from end : ℕ) (line : Line)
    (rest : left (lanes x) order ≡ map (between (rows x)) cursors)
    (at : slice_get cursors k ≡ Some (from, end)) (lt : from < end)
    (there : slice_get x.script.lines from ≡ Some line) where
  row : ℕ × Line
  row = (slice_index x.numbers from, line)

  pub had : lane_at (left (lanes x) order) k
      ≡ (slice_index x.numbers from, line) ∷ between (rows x) (from + 1, end)
  had =
      ap (λ (l : List (List (ℕ × Line))). lane_at l k) rest
      ∙ cursor_lane (rows x) cursors k (from, end) at
      ∙ between_next (rows x) from end (slice_index x.numbers from, line) lt
      (row_at x from line there)

  pub next_row : take 1 (lane_at (left (lanes x) order) k) ≡ (slice_index x.numbers from, line) ∷ []
  next_row = ap (λ (l : List (ℕ × Line)). take 1 l) had

  pub played_more : played x (order ++ k ∷ [])
      ≡ played x order ++ (slice_index x.numbers from, line) ∷ []
  played_more =
      ap (λ (l : List (ℕ × Line)). prefix x ++ l)
      (merged_more (lanes x) order k
      ∙ ap (λ (l : List (ℕ × Line)). merged (lanes x) order ++ l) next_row)
      ∙ sym
      (append_assoc (prefix x) (merged (lanes x) order)
      ((slice_index x.numbers from, line) ∷ []))

  pub rest_more : left (lanes x) (order ++ k ∷ [])
      ≡ map (between (rows x)) (slice_set cursors k (from + 1, end))
  rest_more =
      left_more (lanes x) order k
      ∙ ap (λ (l : List (List (ℕ × Line))). slice_set l k (drop 1 (lane_at l k))) rest
      ∙ cursor_next (rows x) cursors k from end (slice_index x.numbers from, line) at lt
      (row_at x from line there)

  pub lines_then : lines_of (played x (order ++ k ∷ [])) ≡ lines_of (played x order) ++ line ∷ []
  lines_then =
      ap (λ (l : List (ℕ × Line)). lines_of l) played_more
      ∙ lines_more (played x order) (slice_index x.numbers from) line

  pub turns_then : ((j : ℕ)
      → turns_of j order + length (lane_at (left (lanes x) order) j) ≡ length (lane_at (lanes x) j))
      → (j : ℕ)
      → turns_of j (order ++ k ∷ []) + length (lane_at (left (lanes x) (order ++ k ∷ [])) j)
      ≡ length (lane_at (lanes x) j)
  turns_then all =
      turns_next (lanes x) order k (slice_index x.numbers from, line)
      (between (rows x) (from + 1, end)) had all

length_one : (order : List ℕ) (k : ℕ) → length (order ++ k ∷ []) - 1 ≡ length order
length_one order k = let e = length-append order (k ∷ []) in omega (arith, e)

front_of : (order more : List ℕ) → take (length order) (order ++ more) ≡ order
front_of [] more = refl
front_of (j ∷ order) more = ap (λ (l : List ℕ). j ∷ l) (front_of order more)

pub but_last_more : (order : List ℕ) (k : ℕ) → but_last (order ++ k ∷ []) ≡ order
but_last_more order k =
    ap (λ (n : ℕ). take n (order ++ k ∷ [])) (length_one order k) ∙ front_of order (k ∷ [])

-- why a turn was the last
pub is_over : (hash : List ℕ → Digest32) (x : Laned) (order : List ℕ) (k : ℕ) (line : Line)
    (e : RunError)
    → lines_of (played x (order ++ k ∷ [])) ≡ lines_of (played x order) ++ line ∷ []
    → outcome (script_rules hash x.script) (opened hash x.script) (lines_of (played x order))
    ≡ Ends (run (script_rules hash x.script) (opened hash x.script) (lines_of (played x order)))
    → ((j : ℕ)
    → turns_of j (order ++ k ∷ []) + length (lane_at (left (lanes x) (order ++ k ∷ [])) j)
    ≡ length (lane_at (lanes x) j))
    → IsStopped (script_rules hash x.script) (opened hash x.script)
    (lines_of (played x order) ++ line ∷ []) e
    → IsOver hash x (order ++ k ∷ []) e
is_over hash x order k line error.NoMemory lines ends turns h = tt
is_over hash x order k line (error.HashClash earlier later) lines ends turns h =
    let r = script_rules hash x.script in
    let w = opened hash x.script in
    record {
      ends = ap (λ (l : List Line). outcome r w l) lines ∙ h;
      before =
          subst
          (λ (o : List ℕ). outcome r w (lines_of (played x o))
          ≡ Ends (run r w (lines_of (played x o))))
          (sym (but_last_more order k)) ends;
      turns = λ j. let e = turns j in omega (arith, e);
    }
is_over hash x order k line error.BadCommittee lines ends turns h = absurd h
is_over hash x order k line error.TooManyFaulty lines ends turns h = absurd h
is_over hash x order k line (error.Syntax l) lines ends turns h = absurd h
is_over hash x order k line (error.UnknownMember l) lines ends turns h = absurd h
is_over hash x order k line (error.OversizeBlock l) lines ends turns h = absurd h

-- ---- the report

plain_entries : (r : Rules) (w : World) (at : ℕ) (a : List (ℕ × Line))
    → renumbered at (entries_of r w a) ≡ entries_from r w at (lines_of a)
plain_entries r w at [] = refl
plain_entries r w at (row ∷ a) =
    ap (λ (l : List Entry). entry_of r w at row.1 ∷ l)
    (plain_entries r (happens r w row.1) (at + 1) a)

same_handed : (r : Rules) (w : World) (at : ℕ) (a : List (ℕ × Line))
    → flat_map (λ (e : Entry). e.handed) (entries_of r w a)
    ≡ flat_map (λ (e : Entry). e.handed) (entries_from r w at (lines_of a))
same_handed r w at [] = refl
same_handed r w at (row ∷ a) =
    ap (λ l. (entry_of r w at row.1).handed ++ l) (same_handed r (happens r w row.1) (at + 1) a)

numbers_of : (r : Rules) (w : World) (a : List (ℕ × Line))
    → map (λ (e : Entry). e.line) (entries_of r w a) ≡ map (λ (row : ℕ × Line). row.0) a
numbers_of r w [] = refl
numbers_of r w (row ∷ a) = ap (λ (l : List ℕ). row.0 ∷ l) (numbers_of r (happens r w row.1) a)

count_entries : (r : Rules) (w : World) (a : List (ℕ × Line)) → length (entries_of r w a) ≡ length a
count_entries r w [] = refl
count_entries r w (row ∷ a) = ap suc (count_entries r (happens r w row.1) a)

-- where nothing is left, the lines in their order are all lines
nothing_left : (x : Laned) (order : List ℕ) → flat_map (λ lane. lane) (left (lanes x) order) ≡ []
    → whole x order ≡ played x order
nothing_left x order none =
    ap (λ (l : List (ℕ × Line)). played x order ++ l) none ∙ append-nil (played x order)

count_played : (x : Laned) (order : List ℕ) → flat_map (λ lane. lane) (left (lanes x) order) ≡ []
    → length (played x order) ≡ length x.script.lines
count_played x order none =
    let lost : length (flat_map (λ lane. lane) (left (lanes x) order)) ≡ 0 =
    ap (λ (l : List (ℕ × Line)). length l) none in
    let many = merged_length (lanes x) order in
    let both = length-append (prefix x) (merged (lanes x) order) in
    let all = length-append (prefix x) (flat_map (λ lane. lane) (lanes x)) in
    let same : length (prefix x ++ flat_map (λ lane. lane) (lanes x)) ≡ length (rows x) =
    ap (λ (l : List (ℕ × Line)). length l) (parts x) in
    let rows_are = count_rows x in
    omega (arith, lost, many, both, all, same, rows_are)

pub lanes_reported : {H : Type 0} (hash : List ℕ → Digest32) (text : List ℕ) (x : Laned)
    (order : List ℕ) (cluster : Cluster) (cursors : List (ℕ × ℕ)) (report : Report H)
    → laned_of text ≡ Ok x → IsBetween x order cluster cursors
    → flat_map (λ lane. lane) (left (lanes x) order) ≡ []
    → outcome (script_rules hash cluster.script) (opened hash cluster.script)
    (lines_of cluster.rows)
    ≡ Ends (world_in hash cluster)
    → IsReportOf (script_rules hash cluster.script) (world_in hash cluster)
    (opening_entries (script_rules hash cluster.script) cluster.script.lines)
    (steps_in hash cluster)
    report
    → IsCluster (script_rules hash x.script) x.script.lines → 0 < x.script.backlog
    → ((r : Rules) (script : List Line) (w : World) → IsCluster r script → 0 < r.backlog
    → outcome r (opening r script) script ≡ Ends w
    → IsReported r w (handed_in r script) (report_of r script w).chain)
    → IsLanesReport hash text order report
lanes_reported hash text x order cluster cursors report spells h none clear tells among some law =
    let r = script_rules hash x.script in
    let w = opened hash x.script in
    let lines = lines_of (played x order) in
    let opens : List Entry = opening_entries r x.script.lines in
    let steps : List Entry = entries_of r w (played x order) in
    let world = run r w lines in
    let played_all : outcome r w lines ≡ Ends world =
    subst
    (λ (c : Cluster). outcome (script_rules hash c.script) (opened hash c.script) (lines_of c.rows)
    ≡ Ends (world_in hash c))
    h.played clear in
    let told : IsReportOf r world opens steps report =
    subst
    (λ (c : Cluster). IsReportOf (script_rules hash c.script) (world_in hash c)
    (opening_entries (script_rules hash c.script) c.script.lines) (steps_in hash c) report)
    h.played tells in
    let same : (let p : ℕ → Bool = λ i. list_any (faults i) x.script.lines in p)
    ≡ (λ i. list_any (faults i) lines) =
    subst
    (λ (l : List (ℕ × Line)). (let p : ℕ → Bool = λ i. list_any (faults i) x.script.lines in p)
    ≡ (λ i. list_any (faults i) (lines_of l)))
    (nothing_left x order none) (same_faults x order)
    in
    let same_world : w ≡ opening r lines = same_opening r x.script.lines lines same in
    let ends : outcome r (opening r lines) lines ≡ Ends world =
    subst (λ (v : World). outcome r v lines ≡ Ends world) same_world played_all in
    let entries : report.steps ≡ entries_of r w (played x order) = told.steps_are in
    let starts : report.opening ≡ opening_entries r lines =
    told.opening_is ∙ same_entries r x.script.lines lines same in
    let plain : renumbered (first_line r) report.steps
    ≡ entries_from r (opening r lines) (first_line r) lines =
    ap (λ (l : List Entry). renumbered (first_line r) l) entries
    ∙ plain_entries r w (first_line r) (played x order)
    ∙ ap (λ (v : World). entries_from r v (first_line r) lines) same_world
    in
    let handed : flat_map (λ (e : Entry). e.handed) (opens ++ steps) ≡ handed_in r lines =
    joined_handed opens steps
    ∙ ap (λ l. flat_map (λ (e : Entry). e.handed) l ++ flat_map (λ (e : Entry). e.handed) steps)
    (same_entries r x.script.lines lines same)
    ∙ ap (λ l. flat_map (λ (e : Entry). e.handed) (opening_entries r lines) ++ l)
    (same_handed r w (first_line r) (played x order)
    ∙ ap (λ (v : World). flat_map (λ (e : Entry). e.handed) (entries_from r v (first_line r) lines))
    same_world)
    ∙ sym
    (joined_handed (opening_entries r lines)
    (entries_from r (opening r lines) (first_line r) lines))
    in
    let chain : report.chain ≡ (report_of r lines world).chain =
    told.chain ∙ ap (λ l. chain_from r world (highest l)) handed in
    record {
      laned = x;
      in_grammar = spells;
      once =
          λ k. let e =
          h.turns k in let f =
          all_turned (left (lanes x) order) k (turns_of k order) none in omega (arith, e, f);
      numbers =
          ap (λ (l : List Entry). map (λ (e : Entry). e.line) l) entries
          ∙ numbers_of r w (played x order);
      run = record {
        world = world;
        ends = ends;
        told =
            four report.opening (opening_entries r lines) (renumbered (first_line r) report.steps)
            (entries_from r (opening r lines) (first_line r) lines) report.acked
            (filter_map acked_at (enumerate_from 0 world.members)) report.chain
            (report_of r lines world).chain
            starts plain told.stands chain;
        disks = told.disks;
        nodes = told.nodes;
      };
      opened =
          ap (λ (l : List Entry). map (λ (e : Entry). e.member) l) told.opening_is
          ∙ openers r x.script.lines (range_with_len 0 x.script.committees.total);
      stepped =
          ap (λ (l : List Entry). length l) entries ∙ count_entries r w (played x order)
          ∙ count_played x order none;
      chain =
          subst (λ (l : List Block). IsReported r world (handed_in r lines) l) (sym chain)
          (law r lines world (same_cluster r x.script.lines lines same among) some ends);
    }
  where
    joined_handed : (a b : List Entry)
        → flat_map (λ (e : Entry). e.handed) (a ++ b)
        ≡ flat_map (λ (e : Entry). e.handed) a ++ flat_map (λ (e : Entry). e.handed) b
    joined_handed [] b = refl
    joined_handed (e ∷ a) b =
        ap (λ l. e.handed ++ l) (joined_handed a b)
        ∙ sym
        (append_assoc e.handed (flat_map (λ (e : Entry). e.handed) a)
        (flat_map (λ (e : Entry). e.handed) b))

-- ---- a clash

-- the lines of a cluster's script fit, and a clash is of two different texts where they do, in any
-- order
pub record TellsApart (r : Rules) (lines : List Line) : Type 0 where
  pub cluster : IsCluster r lines
  pub fits : AllByRecursion FitsLine lines
  pub law : (script : List Line) (earlier later : List ℕ) → IsCluster r script
      → AllByRecursion FitsLine script → outcome r (opening r script) script ≡ Clashes earlier later
      → earlier ≢ later

pub tells_apart : (hash : List ℕ → Digest32) (x : Laned) → TellsBlocks (script_rules hash x.script)
    → IsCluster (script_rules hash x.script) x.script.lines → AllByRecursion FitsLine x.script.lines
    → ((r : Rules) (script : List Line) (earlier later : List ℕ) → TellsBlocks r → IsCluster r
    script
    → AllByRecursion FitsLine script → outcome r (opening r script) script ≡ Clashes earlier later
    → earlier ≢ later)
    → TellsApart (script_rules hash x.script) x.script.lines
tells_apart hash x tells cluster fits law = record {
  cluster = cluster;
  fits = fits;
  law =
      λ script earlier later c f h. law (script_rules hash x.script) script earlier later tells c f
      h;
}

clash_of_whole : (hash : List ℕ → Digest32) (x : Laned) (order earlier later : List ℕ)
    → outcome (script_rules hash x.script) (opened hash x.script) (lines_of (played x order))
    ≡ Clashes earlier later
    → ((r : Rules) (script : List Line) (earlier later : List ℕ)
    → outcome r (opening r script) script ≡ Clashes earlier later
    → (w : World) × Reaches r script w × IsClash r w earlier later)
    → TellsApart (script_rules hash x.script) x.script.lines
    → IsClashOf hash (script_with x (whole x order)) earlier later
clash_of_whole hash x order earlier later met law apart =
    let r = script_rules hash x.script in
    let rest = flat_map (λ lane. lane) (left (lanes x) order) in
    let all = lines_of (whole x order) in
    let behind : outcome r (opened hash x.script) all ≡ Clashes earlier later =
    ap (λ (l : List Line). outcome r (opened hash x.script) l) (lines_joined (played x order) rest)
    ∙ clash_behind r (opened hash x.script) (lines_of (played x order)) (lines_of rest) earlier
    later met
    in
    let ends : outcome r (opening r all) all ≡ Clashes earlier later =
    subst (λ (v : World). outcome r v all ≡ Clashes earlier later)
    (same_opening r x.script.lines all (same_faults x order)) behind in
    let shows = law r all earlier later ends in
    record {
      ends = ends;
      world = shows.0;
      reached = shows.1;
      shown = shows.2;
      texts =
          apart.law all earlier later
          (same_cluster r x.script.lines all (same_faults x order) apart.cluster)
          (same_all FitsLine x order apart.fits) ends;
    }

pub lanes_clashed : (hash : List ℕ → Digest32) (text : List ℕ) (x : Laned)
    (order earlier later : List ℕ)
    → laned_of text ≡ Ok x → HasMet hash x order earlier later
    → ((r : Rules) (script : List Line) (earlier later : List ℕ)
    → outcome r (opening r script) script ≡ Clashes earlier later
    → (w : World) × Reaches r script w × IsClash r w earlier later)
    → TellsApart (script_rules hash x.script) x.script.lines
    → IsLanesClash hash text order earlier later
lanes_clashed hash text x order earlier later spells h law apart = record {
  laned = x;
  in_grammar = spells;
  at_most = h.turns;
  clash = clash_of_whole hash x order earlier later h.ends law apart;
  met = h.ends;
  at_last =
      λ some. (
        run (script_rules hash x.script) (opened hash x.script)
            (lines_of (played x (but_last order))),
        h.before,
      );
}

-- a clash before the first turn
pub opening_clashed : (hash : List ℕ → Digest32) (text : List ℕ) (x : Laned) (e : RunError)
    → laned_of text ≡ Ok x
    → IsStopped (script_rules hash x.script) (opened hash x.script) (lines_of (prefix x)) e
    → ((r : Rules) (script : List Line) (earlier later : List ℕ)
    → outcome r (opening r script) script ≡ Clashes earlier later
    → (w : World) × Reaches r script w × IsClash r w earlier later)
    → TellsApart (script_rules hash x.script) x.script.lines
    → IsLanesCause hash text [] e
opening_clashed hash text x error.NoMemory spells h law apart = refl
opening_clashed hash text x (error.HashClash earlier later) spells h law apart =
    let met : outcome (script_rules hash x.script) (opened hash x.script) (lines_of (played x []))
    ≡ Clashes earlier later =
    ap
    (λ (l : List (ℕ × Line)). outcome (script_rules hash x.script) (opened hash x.script)
    (lines_of l))
    (append-nil (prefix x))
    ∙ h
    in
    record {
      laned = x;
      in_grammar = spells;
      at_most = λ k. omega arith;
      clash = clash_of_whole hash x [] earlier later met law apart;
      met = met;
      at_last = λ some. absurd (some refl);
    }
opening_clashed hash text x error.BadCommittee spells h law apart = absurd h
opening_clashed hash text x error.TooManyFaulty spells h law apart = absurd h
opening_clashed hash text x (error.Syntax l) spells h law apart = absurd h
opening_clashed hash text x (error.UnknownMember l) spells h law apart = absurd h
opening_clashed hash text x (error.OversizeBlock l) spells h law apart = absurd h

-- refusals of a script with lanes are causes
pub lanes_refused : (hash : List ℕ → Digest32) (text : List ℕ) (e : RunError)
    → (e ≡ error.NoMemory) ⊎ (laned_of text ≡ Err e) → IsLanesCause hash text [] e
lanes_refused hash text e (inl h) = rw h refl
lanes_refused hash text error.NoMemory (inr h) = refl
lanes_refused hash text (error.HashClash earlier later) (inr h) =
    absurd (laned_early text (error.HashClash earlier later) h)
lanes_refused hash text error.BadCommittee (inr h) = (refl, h)
lanes_refused hash text error.TooManyFaulty (inr h) = (refl, h)
lanes_refused hash text (error.Syntax line) (inr h) = (refl, h)
lanes_refused hash text (error.UnknownMember line) (inr h) = (refl, h)
lanes_refused hash text (error.OversizeBlock line) (inr h) = (refl, h)

-- a turn without a clash
pub turned_on : (x : Laned) (order : List ℕ) (cluster new : Cluster) (cursors after : List (ℕ × ℕ))
    (k from end : ℕ) (line : Line)
    → IsBetween x order cluster cursors → slice_get cursors k ≡ Some (from, end) → from < end
    → slice_get x.script.lines from ≡ Some line
    → new ≡ record cluster { rows = cluster.rows ++ (slice_index x.numbers from, line) ∷ [] }
    → after ≡ slice_set cursors k (from + 1, end) → IsBetween x (order ++ k ∷ []) new after
turned_on x order cluster new cursors after k from end line h at lt there turns is = record {
  played =
      turns
      ∙ ap
      (λ (c : Cluster). let n : Cluster =
      record c { rows = c.rows ++ (slice_index x.numbers from, line) ∷ [] } in n)
      h.played
      ∙ ap
      (λ (l : List (ℕ × Line)). let n : Cluster =
      record { script = x.script; rows = l; over = false } in n)
      (sym (played_more x order cursors k from end line h.rest at lt there));
  rest =
      rest_more x order cursors k from end line h.rest at lt there
      ∙ ap (λ (l : List (ℕ × ℕ)). map (between (rows x)) l) (sym is);
  turns = turns_then x order cursors k from end line h.rest at lt there h.turns;
}
