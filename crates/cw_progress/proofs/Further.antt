-- A world that lines of honest members lead to is one that a longer script reaches.
use Rattle.std.proofs.Common.{◌≡◌, ℕ, true, false, ◌||◌, cond, List, [], ◌∷◌, ◌++◌, Some, None, map, refl, sym, ◌∙◌, ap, arith, append_assoc}
use Rattle.std.specs.List.{AllByRecursion, list_any, range_with_len}
use Rattle.std.proofs.lemmas.Bool.{false≢true}
use Rattle.std.proofs.lemmas.List.Folds.{list_any-append}
use Rattle.cw_types.specs.Epochs.{members_in}
use Rattle.cw_rules.specs.Reached.{IsCluster, Reaches}
use Rattle.cw_rules.specs.Rules.{Rules}
use Rattle.cw_rules.specs.Step.{start}
use Rattle.cw_rules.specs.World.{Cut, Do, Faulty, Line, Restart, World, faults, happens, opening, run}
use Rattle.cw_rules.proofs.Grows.{count_more}
use Rattle.cw_progress.specs.Over.{is_honest_line}

map_same : {X Y : Type 0} (f g : X → Y) → ((x : X) → f x ≡ g x) → (xs : List X)
    → map f xs ≡ map g xs
map_same f g same [] = refl
map_same f g same (x ∷ xs) = (λ i. same x i ∷ map_same f g same xs i)

pub run_both : (r : Rules) (w : World) (xs ys : List Line)
    → run r w (xs ++ ys) ≡ run r (run r w xs) ys
run_both r w [] ys = refl
run_both r w (x ∷ xs) ys = run_both r (happens r w x) xs ys

-- lines of honest members make nobody faulty
no_faults : (i : ℕ) (more : List Line)
    → AllByRecursion (λ line. is_honest_line line ≡ true) more → list_any (faults i) more ≡ false
no_faults i [] a = refl
no_faults i (Do j ask ∷ more) a = no_faults i more a.1
no_faults i (Cut a b c j ask ∷ more) h = no_faults i more h.1
no_faults i (Restart j ∷ more) a = no_faults i more a.1
no_faults i (Faulty j fault ∷ more) a = absurd (false≢true a.0)

-- so the script with them within it makes the same faulty
same_faults : (i : ℕ) (before more rest : List Line)
    → AllByRecursion (λ line. is_honest_line line ≡ true) more
    → list_any (faults i) (before ++ (more ++ rest)) ≡ list_any (faults i) (before ++ rest)
same_faults i before more rest a =
    list_any-append (faults i) before (more ++ rest)
    ∙ (ap (λ b. list_any (faults i) before || b)
    (list_any-append (faults i) more rest
    ∙ ap (λ b. b || list_any (faults i) rest) (no_faults i more a))
    ∙ sym (list_any-append (faults i) before rest))

-- the script with such lines in between is one of as many faulty members, and opens so too
pub inserted : (r : Rules) (script before more rest : List Line) → IsCluster r script
    → script ≡ before ++ rest → AllByRecursion (λ line. is_honest_line line ≡ true) more
    → IsCluster r (before ++ (more ++ rest))
    × (opening r (before ++ (more ++ rest)) ≡ opening r script)
inserted r script before more rest cluster joined a = (within, opens)
  where
    longer : List Line
    longer = before ++ (more ++ rest)

    same : (i : ℕ) → list_any (faults i) longer ≡ list_any (faults i) script
    same i = same_faults i before more rest a ∙ ap (list_any (faults i)) (sym joined)

    within : IsCluster r (before ++ (more ++ rest))
    within = record {
      enough = cluster.enough;
      rising = cluster.rising;
      there = cluster.there;
      few =
          λ epoch.
          omega (
            arith,
            cluster.few epoch,
            count_more (λ i. list_any (faults i) longer) (λ i. list_any (faults i) script)
                (λ i h. sym (same i) ∙ h) (members_in r.epochs epoch),
          );
      spans = cluster.spans;
    }

    opens : opening r (before ++ (more ++ rest)) ≡ opening r script
    opens =
        ap (λ ms. record { members = ms; pool = [] })
        (map_same
        (λ i. cond (list_any (faults i) longer) None (Some (start r i []).member))
        (λ i. cond (list_any (faults i) script) None (Some (start r i []).member))
        (λ i. ap (λ b. cond b None (Some (start r i []).member)) (same i))
        (range_with_len 0 r.epochs.total))

pub reaches_on : (r : Rules) (script : List Line) (w : World) (more : List Line)
    → IsCluster r script → Reaches r script w
    → AllByRecursion (λ line. is_honest_line line ≡ true) more
    → (longer : List Line) × IsCluster r longer × Reaches r longer (run r w more)
reaches_on r script w more cluster (before, rest, joined, e) a =
    let (within, opens) = inserted r script before more rest cluster joined a in (
      before ++ (more ++ rest),
      within,
      (
        before ++ more,
        rest,
        sym (append_assoc before more rest),
        ap (λ v. run r v more) (e ∙ ap (λ v. run r v before) (sym opens))
            ∙ sym (run_both r (opening r (before ++ (more ++ rest))) before more),
      ),
    )
