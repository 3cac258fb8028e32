-- A cluster in a run: any line of its script may have the next turn.
use Rattle.std.proofs.Common.{◌≡◌, ℕ, zero, suc, ◌+◌, ◌<◌, ◌≤◌, ◌||◌, Bool, true, false, List, [], ◌∷◌, ◌++◌, length, map, take, drop, get_or, Option, Some, None, refl, sym, ap, subst, ◌∙◌, arith}
use Rattle.std.specs.Prelude.{cond, count_by, slice_get}
use Rattle.std.specs.List.{enumerate_from, list_any, range_with_len}
use Rattle.std.proofs.Math.Path.{fun_ext}
use Rattle.std.proofs.lemmas.List.{take-append-drop}
use Rattle.std.proofs.lemmas.Option.{slice_get_read}
use Rattle.std.proofs.lemmas.List.Elements.{filter_map-append}
use Rattle.cw_base.specs.declared.hash.Digest32.{Digest32}
use Rattle.cw_types.specs.Epochs.{members_in, size}
use Rattle.cw_types.specs.Numbers.{max_faults}
use Rattle.cw_rules.specs.Reached.{IsCluster}
use Rattle.cw_rules.specs.Report.{Entry, opening_entries}
use Rattle.cw_rules.specs.Rules.{Rules, genesis}
use Rattle.cw_rules.specs.Step.{start}
use Rattle.cw_rules.specs.World.{Line, World, faults, opening}
use Rattle.cw_rules.specs.declared.travel.Travel.{Travel}
use Rattle.hail_script.specs.Grammar.{faulty_marks}
use Rattle.hail_script.specs.Scenario.{Scenario}
use Rattle.hail_script.specs.declared.error.RunError.{RunError}
use Rattle.hail_world.specs.declared.blocks.KnownBlocks.{KnownBlocks}
use Rattle.hail_world.specs.declared.place.Place.{Place}
use Rattle.hail_world.specs.declared.report.Report.{Report}
use Rattle.hail_world.specs.Clusters.{Cluster, ClusterStands, IsUnderWay, line_of_turn, lines_of_turns, steps_in, world_in}
use Rattle.hail_world.specs.Known.{AreKnown}
use Rattle.hail_world.specs.Places.{SitAs, WorkBy, script_rules}
use Rattle.hail_world.specs.Played.{Begin, HavePlayed, IsReportOf, lines_of}
use Rattle.hail_world.specs.Runs.{GoesBy, IsStopped, opened}
use Rattle.hail_world.specs.MemoryNodes.{MemoryNode}
use Rattle.hail_world.proofs.Colliding.{knows_opened}
use Rattle.hail_world.proofs.Opening.{flags_open}
use Rattle.hail_world.proofs.Turned.{lines_more, played_none, stopped_behind}

-- ---- the lines that had their turns

-- one line more
pub row_more : (lines : List Line) (turns : List (ℕ × ℕ)) (number at : ℕ) (line : Line)
    → slice_get lines at ≡ Some line
    → lines_of_turns lines (turns ++ (number, at) ∷ []) ≡ lines_of_turns lines turns
    ++ (number, line) ∷ []
row_more lines turns number at line there =
    filter_map-append (line_of_turn lines) turns ((number, at) ∷ [])
    ∙ ap (λ (l : List (ℕ × Line)). lines_of_turns lines turns ++ l) one
  where
    one : lines_of_turns lines ((number, at) ∷ []) ≡ (number, line) ∷ []
    one = rw there refl

-- a place below so many lines is one of a line
pub line_there : (lines : List Line) (at : ℕ) → at < length lines
    → (line : Line) × (slice_get lines at ≡ Some line)
line_there [] at lt = absurd (omega arith)
line_there (line ∷ lines) zero lt = (line, refl)
line_there (line ∷ lines) (suc at) lt = line_there lines at (omega arith)

-- the line that a script lends
pub line_lent : (lent lines : List Line) (at : ℕ) (line : Line) → lent ≡ lines
    → at < length lines → line ≡ get_or lent at line → slice_get lines at ≡ Some line
line_lent lent lines at line same lt is =
    slice_get_read lines (length lines) at line refl lt
    (is ∙ ap (λ (l : List Line). get_or l at line) same)

-- ---- whatever is asked of the lines

twice : (a b : Bool) → (a || (a || b)) ≡ (a || b)
twice true b = refl
twice false b = refl

swapped : (a b c : Bool) → (a || (b || c)) ≡ (b || (a || c))
swapped true true c = refl
swapped true false c = refl
swapped false b c = refl

-- a line of a script adds nothing to it
line_any : (f : Line → Bool) (lines : List Line) (at : ℕ) (line : Line)
    → slice_get lines at ≡ Some line → (f line || list_any f lines) ≡ list_any f lines
line_any f [] at line there = absurd (let no : None ≡ Some line = there in cc)
line_any f (l ∷ lines) zero line there =
    let same : l ≡ line = (let s : Some l ≡ Some line = there in cc) in
    ap (λ (x : Line). f x || list_any f (l ∷ lines)) (sym same) ∙ twice (f l) (list_any f lines)
line_any f (l ∷ lines) (suc at) line there =
    swapped (f line) (f l) (list_any f lines)
    ∙ ap (λ (b : Bool). f l || b) (line_any f lines at line there)

-- so do lines of it
rows_any : (f : Line → Bool) (lines : List Line) (turns : List (ℕ × ℕ))
    → list_any f (lines_of (lines_of_turns lines turns) ++ lines) ≡ list_any f lines
rows_any f lines [] = refl
rows_any f lines (turn ∷ turns) = go (slice_get lines turn.1) refl (rows_any f lines turns)
  where
    go : (o : Option Line) → slice_get lines turn.1 ≡ o
        → list_any f (lines_of (lines_of_turns lines turns) ++ lines) ≡ list_any f lines
        → list_any f (lines_of (lines_of_turns lines (turn ∷ turns)) ++ lines) ≡ list_any f lines
    go None there more = rw there more
    go (Some line) there more =
        rw there
        (ap (λ (b : Bool). f line || b) more ∙ line_any f lines turn.1 line there)

pub same_cluster : (r : Rules) (a b : List Line)
    → (let p : ℕ → Bool = λ i. list_any (faults i) a in p) ≡ (λ i. list_any (faults i) b)
    → IsCluster r a → IsCluster r b
same_cluster r a b same c = record {
  enough = c.enough;
  rising = c.rising;
  there = c.there;
  few =
      λ epoch. subst
      (λ (p : ℕ → Bool). count_by p (members_in r.epochs epoch)
      ≤ max_faults (size r.epochs epoch))
      same (c.few epoch);
  spans = c.spans;
}

pub same_opening : (r : Rules) (a b : List Line)
    → (let p : ℕ → Bool = λ i. list_any (faults i) a in p) ≡ (λ i. list_any (faults i) b)
    → opening r a ≡ opening r b
same_opening r a b same =
    ap
    (λ (p : ℕ → Bool). let w : World = record {
      members =
          map (λ i. cond (p i) None (Some (start r i []).member))
          (range_with_len 0 r.epochs.total);
      pool = [];
    } in w)
    same

-- lines of a script, and one more, begin a script of its cluster: they and then all of them
pub begins : (r : Rules) (lines : List Line) (turns : List (ℕ × ℕ)) (at : ℕ) (line : Line)
    → slice_get lines at ≡ Some line → IsCluster r lines
    → Begin r (opening r lines) (lines_of (lines_of_turns lines turns) ++ line ∷ [])
begins r lines turns at line there cluster =
    let all : List Line = (lines_of (lines_of_turns lines turns) ++ line ∷ []) ++ lines in
    let front : lines_of (lines_of_turns lines (turns ++ (0, at) ∷ []))
    ≡ lines_of (lines_of_turns lines turns) ++ line ∷ [] =
    ap (λ (l : List (ℕ × Line)). lines_of l) (row_more lines turns 0 at line there)
    ∙ lines_more (lines_of_turns lines turns) 0 line in
    let same : (let p : ℕ → Bool = λ i. list_any (faults i) lines in p)
    ≡ (λ i. list_any (faults i) all) =
    fun_ext (λ i. sym
    (ap (λ (l : List Line). list_any (faults i) (l ++ lines)) (sym front)
    ∙ rows_any (faults i) lines (turns ++ (0, at) ∷ []))) in
    record {
      rest = lines;
      cluster = same_cluster r lines all same cluster;
      opens = same_opening r lines all same;
    }

-- ---- what is known of a cluster

-- before the first line
pub opens : (hash : List ℕ → Digest32) (travel : Travel) (s : Scenario) (opening : List Entry)
    (turns : List (ℕ × ℕ)) (steps : List Entry) (places : List (Place MemoryNode))
    (known : KnownBlocks)
    (faulty : List Bool)
    → s.travel ≡ travel → opening ≡ opening_entries (script_rules hash s) s.lines → turns ≡ []
    → steps ≡ [] → SitAs places (opened hash s).members → WorkBy (script_rules hash s) 0 places
    → length places ≡ s.committees.total
    → AreKnown (script_rules hash s) known (genesis (script_rules hash s) ∷ [])
    → faulty ≡ faulty_marks s.lines s.committees.total
    → ClusterStands hash travel s opening (lines_of_turns s.lines turns) false steps places known
    faulty
opens hash travel s opening turns steps places known faulty way told no_turns no_steps members
    sound count knows flags =
    let r = script_rules hash s in
    let going : IsUnderWay hash s [] [] places known faulty =
    record {
      played =
          played_none r (opened hash s) places known faulty members refl
          (knows_opened r known s.lines knows)
          (flags ∙ flags_open r s.lines s.committees.total);
      sound = sound;
      count = count;
    } in
    rw (no_turns, no_steps) (way, told, λ _. going)

-- behind one line more
pub turned : (hash : List ℕ → Digest32) (travel : Travel) (s : Scenario) (opening : List Entry)
    (turns more : List (ℕ × ℕ)) (steps told : List Entry) (places : List (Place MemoryNode))
    (known : KnownBlocks) (faulty : List Bool) (number at : ℕ) (line : Line) (entry : Entry)
    → s.travel ≡ travel → opening ≡ opening_entries (script_rules hash s) s.lines
    → slice_get s.lines at ≡ Some line
    → HavePlayed (script_rules hash s) (opened hash s)
    (lines_of_turns s.lines turns ++ (number, line) ∷ [])
    (steps ++ entry ∷ []) places known faulty
    → WorkBy (script_rules hash s) 0 places → length places ≡ s.committees.total
    → more ≡ turns ++ (number, at) ∷ [] → told ≡ steps ++ entry ∷ []
    → ClusterStands hash travel s opening (lines_of_turns s.lines more) false told places known
    faulty
turned hash travel s opening turns more steps told places known faulty number at line entry way
    opens there plays sound count turn adds =
    let r = script_rules hash s in
    let w = opened hash s in
    let rows : lines_of_turns s.lines more ≡ lines_of_turns s.lines turns ++ (number, line) ∷ [] =
    ap (λ (l : List (ℕ × ℕ)). lines_of_turns s.lines l) turn
    ∙ row_more s.lines turns number at line there in
    let going : IsUnderWay hash s (lines_of_turns s.lines more) told places known faulty =
    record {
      played =
          subst
          (λ (l : List Entry). HavePlayed r w (lines_of_turns s.lines more) l places known faulty)
          (sym adds)
          (subst
          (λ (l : List (ℕ × Line)). HavePlayed r w l (steps ++ entry ∷ []) places known faulty)
          (sym rows) plays);
      sound = sound;
      count = count;
    } in
    (way, opens, λ _. going)

-- the same, whatever its places and marks are called
pub same_played : (r : Rules) (w : World) (rows : List (ℕ × Line)) (steps : List Entry)
    (places places' : List (Place MemoryNode)) (known : KnownBlocks) (faulty faulty' : List Bool)
    → places' ≡ places → faulty' ≡ faulty → HavePlayed r w rows steps places known faulty
    → HavePlayed r w rows steps places' known faulty'
same_played r w rows steps places places' known faulty faulty' p f h =
    subst (λ (l : List Bool). HavePlayed r w rows steps places' known l) (sym f)
    (subst (λ (l : List (Place MemoryNode)). HavePlayed r w rows steps l known faulty) (sym p) h)

-- a cluster by its fields and as it is seen
module _ (hash : List ℕ → Digest32) (s : Scenario) (turns : List (ℕ × ℕ)) (over : Bool)
    (c : Cluster)
    (is : (let k : Cluster =
    record { script = s; rows = lines_of_turns s.lines turns; over = over } in k)
    ≡ c) where
  pub whole_inside : c.over ≡ false → over ≡ false
  whole_inside whole = ap (λ (k : Cluster). k.over) is ∙ whole

  pub there_inside : (at : ℕ) (line : Line) → slice_get c.script.lines at ≡ Some line
      → slice_get s.lines at ≡ Some line
  there_inside at line there =
      subst (λ (k : Cluster). slice_get k.script.lines at ≡ Some line) (sym is) there

  pub below_inside : (at : ℕ) → at < length c.script.lines → at < length s.lines
  below_inside at lt = subst (λ (k : Cluster). at < length k.script.lines) (sym is) lt

  -- one line more
  pub seen_more : (more : List (ℕ × ℕ)) (number at : ℕ) (line : Line) → c.over ≡ false
      → slice_get c.script.lines at ≡ Some line → more ≡ turns ++ (number, at) ∷ []
      → (let k : Cluster =
      record { script = s; rows = lines_of_turns s.lines more; over = false } in k)
      ≡ record c { rows = c.rows ++ (number, line) ∷ [] }
  seen_more more number at line whole there turn =
      ap
      (λ (l : List (ℕ × ℕ)). let k : Cluster =
      record { script = s; rows = lines_of_turns s.lines l; over = false } in k)
      turn
      ∙ ap
      (λ (l : List (ℕ × Line)). let k : Cluster =
      record { script = s; rows = l; over = false } in k)
      (row_more s.lines turns number at line (there_inside at line there))
      ∙ ap
      (λ (o : Bool). let k : Cluster =
      record {
        script = s;
        rows = lines_of_turns s.lines turns ++ (number, line)
            ∷ [];
        over = o;
      } in k)
      (sym (whole_inside whole))
      ∙ ap
      (λ (x : Cluster). let k : Cluster = record x { rows = x.rows ++ (number, line) ∷ [] } in k)
      is

  -- a line that stops them
  pub seen_stopped : (at : ℕ) (mine line : Line) (e : RunError) → slice_get s.lines at ≡ Some mine
      → IsStopped (script_rules hash s) (opened hash s)
      (lines_of (lines_of_turns s.lines turns) ++ mine ∷ []) e
      → slice_get c.script.lines at ≡ Some line
      → IsStopped (script_rules hash c.script) (opened hash c.script) (lines_of c.rows ++ line ∷ [])
      e
  seen_stopped at mine line e here h there =
      let same : mine ≡ line =
      (let o : Some mine ≡ Some line = sym here ∙ there_inside at line there in cc) in
      subst
      (λ (k : Cluster). IsStopped (script_rules hash k.script) (opened hash k.script)
      (lines_of k.rows ++ line ∷ []) e)
      is
      (subst
      (λ (l : Line). IsStopped (script_rules hash s) (opened hash s)
      (lines_of (lines_of_turns s.lines turns) ++ l ∷ []) e)
      same h)

  -- the report of its lines
  pub seen_end : {H W : Type 0} (travel : Travel) (opening steps : List Entry)
      (places : List (Place MemoryNode)) (known : KnownBlocks) (faulty : List Bool)
      (report : Report H W)
      → ClusterStands hash travel s opening (lines_of_turns s.lines turns) over steps places known
      faulty
      → c.over ≡ false
      → ((r : Rules) (w : World) → GoesBy hash r → WorkBy r 0 places → SitAs places w.members
      → IsReportOf r w opening steps report)
      → IsReportOf (script_rules hash c.script) (world_in hash c)
      (opening_entries (script_rules hash c.script) c.script.lines) (steps_in hash c) report
  seen_end travel opening steps places known faulty report h whole told =
      let k : Cluster = record { script = s; rows = lines_of_turns s.lines turns; over = over } in
      let u = h.2 (whole_inside whole) in
      let r = script_rules hash s in
      let w : World = world_in hash k in
      let tells : IsReportOf r w opening steps report =
      told r w (record { hashes = refl; blocks = refl; contexts = refl }) u.sound
      u.played.members in
      subst
      (λ (x : Cluster). IsReportOf (script_rules hash x.script) (world_in hash x)
      (opening_entries (script_rules hash x.script) x.script.lines) (steps_in hash x) report)
      is
      (subst (λ (l : List Entry). IsReportOf r w l (steps_in hash k) report) h.1
      (subst (λ (l : List Entry). IsReportOf r w opening l report) u.played.entries tells))

-- ---- the lines in their order

pub numbered_lines : (n : ℕ) (lines : List Line) → lines_of (enumerate_from n lines) ≡ lines
numbered_lines n [] = refl
numbered_lines n (line ∷ lines) = ap (λ (l : List Line). line ∷ l) (numbered_lines (n + 1) lines)

take_next : (lines : List Line) (i : ℕ) (line : Line) → slice_get lines i ≡ Some line
    → take (i + 1) lines ≡ take i lines ++ line ∷ []
take_next [] i line e = absurd (let no : None ≡ Some line = e in cc)
take_next (l ∷ lines) zero line e =
    let same : l ≡ line = (let s : Some l ≡ Some line = e in cc) in ap (λ (x : Line). x ∷ []) same
take_next (l ∷ lines) (suc i) line e =
    let n : suc i + 1 ≡ suc (i + 1) = omega arith in
    rw n (ap (λ (x : List Line). l ∷ x) (take_next lines i line e))

-- one line more
pub numbered_more : (n : ℕ) (lines : List Line) (i : ℕ) (line : Line)
    → slice_get lines i ≡ Some line
    → enumerate_from n (take (i + 1) lines)
    ≡ enumerate_from n (take i lines) ++ (n + i, line) ∷ []
numbered_more n [] i line there = absurd (let no : None ≡ Some line = there in cc)
numbered_more n (l ∷ lines) zero line there =
    let same : l ≡ line = (let s : Some l ≡ Some line = there in cc) in
    let none : n ≡ n + 0 = omega arith in
    ap (λ (x : Line). let rows : List (ℕ × Line) = (n, x) ∷ [] in rows) same
    ∙ ap (λ (k : ℕ). let rows : List (ℕ × Line) = (k, line) ∷ [] in rows) none
numbered_more n (l ∷ lines) (suc i) line there =
    let next : n + 1 + i ≡ n + suc i = omega arith in
    let one : suc i + 1 ≡ suc (i + 1) = omega arith in
    rw one
    (ap (λ (rows : List (ℕ × Line)). (n, l) ∷ rows)
    (numbered_more (n + 1) lines i line there
    ∙ ap (λ (k : ℕ). enumerate_from (n + 1) (take i lines) ++ (k, line) ∷ []) next))

-- lines that stop at one of a script stop with the lines behind it
pub stops : (r : Rules) (w : World) (lines : List Line) (i : ℕ) (line : Line) (e : RunError)
    → slice_get lines i ≡ Some line → IsStopped r w (take i lines ++ line ∷ []) e
    → IsStopped r w lines e
stops r w lines i line e there h =
    let all : (take i lines ++ line ∷ []) ++ drop (i + 1) lines ≡ lines =
    ap (λ (l : List Line). l ++ drop (i + 1) lines) (sym (take_next lines i line there))
    ∙ take-append-drop (i + 1) lines in
    subst (λ (l : List Line). IsStopped r w l e) all
    (stopped_behind r w (take i lines ++ line ∷ []) (drop (i + 1) lines) e h)
