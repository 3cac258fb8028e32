-- The table of a run is that of its world.
use Rattle.std.proofs.Common.{◌≡◌, ℕ, ◌+◌, Bool, true, false, cond, List, [], ◌∷◌, ◌++◌, ◌||◌, Option, Some, None, refl, sym, ◌∙◌, ap, append_assoc, append-nil, is_none, map}
use Rattle.std.specs.List.{list_any, range_with_len}
use Rattle.std.proofs.lemmas.List.Folds.{list_any-append}
use Rattle.std.specs.Option.{option_map_or}
use Rattle.cw_base.specs.declared.hash.Digest32.{Digest32}
use Rattle.cw_rules.specs.Report.{Entry, Report as Reported, entries_from, entry_of, first_line}
use Rattle.cw_rules.specs.Rules.{Rules}
use Rattle.cw_rules.specs.Step.{Member, Stepped, start}
use Rattle.cw_rules.specs.World.{Cut, Do, Faulty, Line, Restart, Sent, World, done_by, faults, happens, opening, run, sent_now, signed, with_done}
use Rattle.hail_script.specs.Grammar.{faulty_marks, is_faulty_in}
use Rattle.hail_script.specs.Scenario.{Scenario}
use Rattle.node.specs.declared.way.Chunked.{Chunked}
use Rattle.hail_world.specs.declared.report.Report.{Report}
use Rattle.hail_world.specs.Places.{script_rules, table}
use Rattle.hail_report.specs.Pool.{sent_in}
use Rattle.hail_world.specs.Reports.{IsRun}
use Rattle.cw_rules.proofs.Changes.{flags_kept}
use Rattle.cw_light.proofs.Moments.{ends_run}
use Rattle.hail_world.proofs.Playing.{flags_signed}

-- some message of the entries passes, where one of some entry does
pub any_sent : (f : Sent → Bool) (entries : List Entry)
    → list_any f (sent_in entries) ≡ list_any (λ (e : Entry). list_any f e.sent) entries
any_sent f [] = refl
any_sent f (e ∷ es) =
    list_any-append f e.sent (sent_in es) ∙ ap (λ b. list_any f e.sent || b) (any_sent f es)

-- an entry has what its line sends
honest_sent : (w : World) (i : ℕ) (o : Option Stepped)
    → (option_map_or (with_done w i) o w).pool
    ≡ w.pool ++ sent_now w i (option_map_or (λ done. done.sent) o [])
honest_sent w i None = sym (append-nil w.pool)
honest_sent w i (Some done) = refl

line_sent : (r : Rules) (w : World) (number : ℕ) (line : Line)
    → (happens r w line).pool ≡ w.pool ++ (entry_of r w number line).sent
line_sent r w number (Do i ask) = honest_sent w i (done_by r w (Do i ask))
line_sent r w number (Cut a c x i ask) = honest_sent w i (done_by r w (Cut a c x i ask))
line_sent r w number (Restart i) = honest_sent w i (done_by r w (Restart i))
line_sent r w number (Faulty i fault) = refl

-- all that was sent stands in the entries
run_sent : (r : Rules) (w : World) (number : ℕ) (lines : List Line)
    → (run r w lines).pool ≡ w.pool ++ sent_in (entries_from r w number lines)
run_sent r w number [] = sym (append-nil w.pool)
run_sent r w number (line ∷ lines) =
    run_sent r (happens r w line) (number + 1) lines
    ∙ (ap (λ xs. xs ++ sent_in (entries_from r (happens r w line) (number + 1) lines))
    (line_sent r w number line)
    ∙ append_assoc w.pool (entry_of r w number line).sent
    (sent_in (entries_from r (happens r w line) (number + 1) lines)))

-- who is faulty stays so
run_flags : (r : Rules) (w : World) (lines : List Line)
    → map is_none (run r w lines).members ≡ map is_none w.members
run_flags r w [] = refl
run_flags r w (line ∷ lines) = run_flags r (happens r w line) lines ∙ flags_kept r w line

-- at first the marked members are the faulty ones
flags_open : (r : Rules) (lines : List Line) (total : ℕ) → r.epochs.total ≡ total
    → faulty_marks lines total ≡ map is_none (opening r lines).members
flags_open r lines total e =
    all (range_with_len 0 total) ∙ ap (λ n. map is_none (map seat (range_with_len 0 n))) (sym e)
  where
    seat : ℕ → Option Member
    seat i = cond (list_any (faults i) lines) None (Some (start r i []).member)

    one : (i : ℕ) → is_faulty_in lines i ≡ is_none (seat i)
    one i = go (list_any (faults i) lines) refl
      where
        go : (t : Bool) → list_any (faults i) lines ≡ t → is_faulty_in lines i ≡ is_none (seat i)
        go true e = rw e refl
        go false e = rw e refl

    all : (is : List ℕ) → map (is_faulty_in lines) is ≡ map is_none (map seat is)
    all [] = refl
    all (i ∷ is) =
        ap (λ (b : Bool). b ∷ map (is_faulty_in lines) is) (one i)
        ∙ ap (λ (l : List Bool). is_none (seat i) ∷ l) (all is)

pub table_is : {H : Type 0} (hash : List ℕ → Digest32) (s : Scenario) (report : Report H Chunked)
    (x : IsRun hash s report) (faulty : List Bool)
    → faulty ≡ faulty_marks s.lines s.committees.total
    → table faulty (sent_in report.steps) ≡ signed x.world
table_is hash s report x faulty e =
    ap (table faulty) pool ∙ flags_signed faulty x.world flags
  where
    r : Rules
    r = script_rules hash s

    first : World
    first = opening r s.lines

    is : x.world ≡ run r first s.lines
    is = ends_run r first s.lines x.world x.ends

    pool : sent_in report.steps ≡ x.world.pool
    pool =
        ap (λ (y : Reported). sent_in y.steps) x.told
        ∙ sym (ap (λ (w : World). w.pool) is ∙ run_sent r first (first_line r) s.lines)

    flags : faulty ≡ map is_none x.world.members
    flags =
        e
        ∙ (flags_open r s.lines s.committees.total refl
        ∙ sym (ap (λ (w : World). map is_none w.members) is ∙ run_flags r first s.lines))
