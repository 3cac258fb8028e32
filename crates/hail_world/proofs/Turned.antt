-- Lines that are played one behind the other, each under its number.
use Rattle.std.proofs.Common.{◌≡◌, ℕ, ◌+◌, Bool, List, [], ◌∷◌, ◌++◌, map, Option, Some, None, refl, sym, ap, subst, ◌∙◌}
use Rattle.std.specs.Prelude.{is_none}
use Rattle.cw_types.specs.Block.{Block}
use Rattle.cw_rules.specs.Chains.{Clashes, Ends, clash_at, outcome}
use Rattle.cw_rules.specs.Reached.{Reaches}
use Rattle.cw_rules.specs.Report.{Entry, entry_of}
use Rattle.cw_rules.specs.Rules.{Rules}
use Rattle.cw_rules.specs.World.{Line, World, happens, line_member, run}
use Rattle.hail_script.specs.declared.error.RunError.{RunError}
use Rattle.hail_script.specs.declared.error.RunError.TheVariants as error
use Rattle.hail_world.specs.declared.blocks.KnownBlocks.{KnownBlocks}
use Rattle.hail_world.specs.declared.place.Place.{Place}
use Rattle.hail_world.specs.Known.{Knows}
use Rattle.hail_world.specs.Played.{lines_of}
use Rattle.hail_world.specs.Places.{SitAs, IsTurn}
use Rattle.hail_report.specs.Pool.{sent_in}
use Rattle.hail_world.specs.Runs.{IsStopped}
use Rattle.hail_world.specs.MemoryNodes.{MemoryNode}
use Rattle.hail_world.specs.Played.{Begin, HavePlayed, entries_of}
use Rattle.hail_report.proofs.Numbered.{sent_more}
use Rattle.cw_rules.proofs.Changes.{flags_kept}

-- ---- more lines behind some

pub outcome_behind : (r : Rules) (w v : World) (lines more : List Line) → outcome r w lines ≡ Ends v
    → outcome r w (lines ++ more) ≡ outcome r v more
outcome_behind r w v [] more e =
    let same : w ≡ v = (let s : Ends w ≡ Ends v = e in cc) in
    ap (λ (x : World). outcome r x more) same
outcome_behind r w v (l ∷ lines) more e =
    go (clash_at r w (happens r w l) (line_member l)) refl
    (outcome_behind r (happens r w l) v lines more)
  where
    go : (o : Option (Block × Block)) → clash_at r w (happens r w l) (line_member l) ≡ o
        → (outcome r (happens r w l) lines ≡ Ends v
        → outcome r (happens r w l) (lines ++ more) ≡ outcome r v more)
        → outcome r w (l ∷ (lines ++ more)) ≡ outcome r v more
    go None is later =
        let ends : outcome r (happens r w l) lines ≡ Ends v =
        sym
        (let s : outcome r w (l ∷ lines) ≡ outcome r (happens r w l) lines = rw is refl in
        s)
        ∙ e in
        (let s : outcome r w (l ∷ (lines ++ more)) ≡ outcome r (happens r w l) (lines ++ more) =
        rw is refl in
        s)
        ∙ later ends
    go (Some both) is later =
        absurd
        (let no : Clashes (r.block_bytes both.0) (r.block_bytes both.1) ≡ Ends v =
        sym
        (let s : outcome r w (l ∷ lines)
        ≡ Clashes (r.block_bytes both.0) (r.block_bytes both.1) =
        rw is refl in
        s)
        ∙ e in
        cc)

pub clash_behind : (r : Rules) (w : World) (lines more : List Line) (earlier later : List ℕ)
    → outcome r w lines ≡ Clashes earlier later
    → outcome r w (lines ++ more) ≡ Clashes earlier later
clash_behind r w [] more earlier later e =
    absurd (let no : Ends w ≡ Clashes earlier later = e in cc)
clash_behind r w (l ∷ lines) more earlier later e =
    go (clash_at r w (happens r w l) (line_member l)) refl
    (clash_behind r (happens r w l) lines more earlier later)
  where
    go : (o : Option (Block × Block)) → clash_at r w (happens r w l) (line_member l) ≡ o
        → (outcome r (happens r w l) lines ≡ Clashes earlier later
        → outcome r (happens r w l) (lines ++ more) ≡ Clashes earlier later)
        → outcome r w (l ∷ (lines ++ more)) ≡ Clashes earlier later
    go None is rest =
        let ends : outcome r (happens r w l) lines ≡ Clashes earlier later =
        sym
        (let s : outcome r w (l ∷ lines) ≡ outcome r (happens r w l) lines = rw is refl in
        s)
        ∙ e in
        (let s : outcome r w (l ∷ (lines ++ more)) ≡ outcome r (happens r w l) (lines ++ more) =
        rw is refl in
        s)
        ∙ rest ends
    go (Some both) is rest =
        (let s : outcome r w (l ∷ (lines ++ more))
        ≡ Clashes (r.block_bytes both.0) (r.block_bytes both.1) =
        rw is refl in
        s)
        ∙ sym
        (let s : outcome r w (l ∷ lines)
        ≡ Clashes (r.block_bytes both.0) (r.block_bytes both.1) =
        rw is refl in
        s)
        ∙ e

-- ---- one line more

pub run_more : (r : Rules) (w : World) (lines : List Line) (line : Line)
    → run r w (lines ++ line ∷ []) ≡ happens r (run r w lines) line
run_more r w [] line = refl
run_more r w (l ∷ lines) line = run_more r (happens r w l) lines line

pub lines_more : (rows : List (ℕ × Line)) (number : ℕ) (line : Line)
    → lines_of (rows ++ (number, line) ∷ []) ≡ lines_of rows ++ line ∷ []
lines_more [] number line = refl
lines_more (row ∷ rows) number line =
    ap (λ (l : List Line). row.1 ∷ l) (lines_more rows number line)

pub entries_more : (r : Rules) (w : World) (rows : List (ℕ × Line)) (number : ℕ) (line : Line)
    → entries_of r w (rows ++ (number, line) ∷ [])
    ≡ entries_of r w rows ++ entry_of r (run r w (lines_of rows)) number line ∷ []
entries_more r w [] number line = refl
entries_more r w (row ∷ rows) number line =
    ap (λ (l : List Entry). entry_of r w row.0 row.1 ∷ l)
    (entries_more r (happens r w row.1) rows number line)

-- the world behind the lines and one more is reached by a script that they begin
pub reached_begun : (r : Rules) (w : World) (rows : List (ℕ × Line)) (line : Line)
    → (b : Begin r w (lines_of rows ++ line ∷ []))
    → Reaches r ((lines_of rows ++ line ∷ []) ++ b.rest) (happens r (run r w (lines_of rows)) line)
reached_begun r w rows line b = (
  lines_of rows ++ line ∷ [],
  b.rest,
  refl,
  sym (run_more r w (lines_of rows) line)
      ∙ ap (λ (v : World). run r v (lines_of rows ++ line ∷ [])) b.opens,
)

-- a line that brings no clash
pub played_next : (r : Rules) (w : World) (rows : List (ℕ × Line)) (number : ℕ) (line : Line)
    (steps : List Entry) (old new : List (Place MemoryNode)) (knew known : KnownBlocks)
    (faulty : List Bool) (entry : Entry)
    → HavePlayed r w rows steps old knew faulty
    → IsTurn r (run r w (lines_of rows)) number line new (sent_in steps ++ entry.sent) entry
    → clash_at r (run r w (lines_of rows)) (happens r (run r w (lines_of rows)) line)
    (line_member line)
    ≡ None
    → Knows r known (happens r (run r w (lines_of rows)) line)
    → HavePlayed r w (rows ++ (number, line) ∷ []) (steps ++ entry ∷ []) new known faulty
played_next r w rows number line steps old new knew known faulty entry h turn clear knows =
    let now : World = run r w (lines_of rows) in
    let lines = lines_more rows number line in
    let world : run r w (lines_of (rows ++ (number, line) ∷ [])) ≡ happens r now line =
    ap (λ (l : List Line). run r w l) lines ∙ run_more r w (lines_of rows) line in
    let step : outcome r now (line ∷ []) ≡ Ends (happens r now line) = rw clear refl in
    record {
      ends =
          ap (λ (l : List Line). outcome r w l) lines
          ∙ outcome_behind r w now (lines_of rows) (line ∷ []) h.ends ∙ step
          ∙ ap (λ (v : World). Ends v) (sym world);
      entries =
          ap (λ (l : List Entry). l ++ entry ∷ []) h.entries
          ∙ ap (λ (e : Entry). entries_of r w rows ++ e ∷ []) turn.gives
          ∙ sym (entries_more r w rows number line);
      members = subst (λ (v : World). SitAs new v.members) (sym world) turn.members;
      sent = sent_more steps entry ∙ turn.sent ∙ ap (λ (v : World). v.pool) (sym world);
      knows = subst (λ (v : World). Knows r known v) (sym world) knows;
      flags =
          h.flags ∙ sym (flags_kept r now line)
          ∙ ap (λ (v : World). map is_none v.members) (sym world);
    }

-- a line that brings one
pub played_clash : (r : Rules) (w : World) (rows : List (ℕ × Line)) (line : Line)
    (steps : List Entry) (places : List (Place MemoryNode)) (known : KnownBlocks)
    (faulty : List Bool)
    (both : Block × Block)
    → HavePlayed r w rows steps places known faulty
    → clash_at r (run r w (lines_of rows)) (happens r (run r w (lines_of rows)) line)
    (line_member line)
    ≡ Some both
    → outcome r w (lines_of rows ++ line ∷ [])
    ≡ Clashes (r.block_bytes both.0) (r.block_bytes both.1)
played_clash r w rows line steps places known faulty both h clash =
    let now : World = run r w (lines_of rows) in
    let step : outcome r now (line ∷ []) ≡ Clashes (r.block_bytes both.0) (r.block_bytes both.1) =
    rw clash refl in
    outcome_behind r w now (lines_of rows) (line ∷ []) h.ends ∙ step

-- the same, whatever its number and its entries are called
pub played_same : (r : Rules) (w : World) (rows : List (ℕ × Line)) (number number' : ℕ)
    (line : Line) (steps steps' : List Entry) (places : List (Place MemoryNode))
    (known : KnownBlocks)
    (faulty : List Bool)
    → number ≡ number' → steps' ≡ steps
    → HavePlayed r w (rows ++ (number, line) ∷ []) steps places known faulty
    → HavePlayed r w (rows ++ (number', line) ∷ []) steps' places known faulty
played_same r w rows number number' line steps steps' places known faulty n s h =
    subst (λ (l : List Entry). HavePlayed r w (rows ++ (number', line) ∷ []) l places known faulty)
    (sym s)
    (subst (λ (k : ℕ). HavePlayed r w (rows ++ (k, line) ∷ []) steps places known faulty) n h)

-- before the first line
pub played_none : (r : Rules) (w : World) (places : List (Place MemoryNode)) (known : KnownBlocks)
    (faulty : List Bool)
    → SitAs places w.members → w.pool ≡ [] → Knows r known w → faulty ≡ map is_none w.members
    → HavePlayed r w [] [] places known faulty
played_none r w places known faulty members sent knows flags = record {
  ends = refl;
  entries = refl;
  members = members;
  sent = sym sent;
  knows = knows;
  flags = flags;
}

-- lines that are stopped by a clash are so with more behind them
pub stopped_behind : (r : Rules) (w : World) (lines more : List Line) (e : RunError)
    → IsStopped r w lines e → IsStopped r w (lines ++ more) e
stopped_behind r w lines more error.NoMemory h = tt
stopped_behind r w lines more (error.HashClash earlier later) h =
    clash_behind r w lines more earlier later h
stopped_behind r w lines more error.BadCommittee h = absurd h
stopped_behind r w lines more error.TooManyFaulty h = absurd h
stopped_behind r w lines more (error.Syntax line) h = absurd h
stopped_behind r w lines more (error.UnknownMember line) h = absurd h
stopped_behind r w lines more (error.OversizeBlock line) h = absurd h
