-- Lines that lead from a world to another without a clash, one after another.
use Rattle.std.proofs.Common.{◌≡◌, ℕ, Bool, true, List, [], ◌∷◌, ◌++◌, Option, Some, None, refl, sym, ◌∙◌, ap, inl, inr, ◌⊎◌, append_assoc}
use Rattle.std.specs.List.{AllByRecursion}
use Rattle.std.specs.Option.{option_map_or}
use Rattle.cw_types.specs.Block.{Block}
use Rattle.cw_rules.specs.Chains.{Clashes, Ends, Outcome, clash_at, outcome}
use Rattle.cw_rules.specs.Reached.{IsCluster, Reaches, ReachesClear}
use Rattle.cw_rules.specs.Rules.{Rules}
use Rattle.cw_rules.specs.World.{Line, World, happens, line_member, opening, run}
use Rattle.cw_rules.proofs.Blocks.{NoClash}
use Rattle.cw_rules.proofs.Lists.{all_both}
use Rattle.cw_rules.proofs.Runs.{clear_reached}
use Rattle.cw_rules.proofs.Worlds.{IsWorldKept}
use Rattle.cw_progress.specs.Over.{ComesToClash, is_honest_line}
use Rattle.cw_progress.proofs.Further.{inserted}

-- ---- what lines end in

-- by two parts
pub outcome_both : (r : Rules) (w u : World) (xs ys : List Line) → outcome r w xs ≡ Ends u
    → outcome r w (xs ++ ys) ≡ outcome r u ys
outcome_both r w u [] ys h = let e : w ≡ u = cc in ap (λ v. outcome r v ys) e
outcome_both r w u (x ∷ xs) ys h =
    go (clash_at r w (happens r w x) (line_member x)) h
    (outcome_both r (happens r w x) u xs ys)
  where
    go : (o : Option (Block × Block))
        → option_map_or (λ both. Clashes (r.block_bytes both.0) (r.block_bytes both.1)) o
        (outcome r (happens r w x) xs)
        ≡ Ends u
        → (outcome r (happens r w x) xs ≡ Ends u
        → outcome r (happens r w x) (xs ++ ys) ≡ outcome r u ys)
        → option_map_or (λ both. Clashes (r.block_bytes both.0) (r.block_bytes both.1)) o
        (outcome r (happens r w x) (xs ++ ys))
        ≡ outcome r u ys
    go None h later = later h
    go (Some both) h later = cc

-- the world that they end in is that which they lead to
pub ends_run : (r : Rules) (w u : World) (xs : List Line) → outcome r w xs ≡ Ends u
    → u ≡ run r w xs
ends_run r w u [] h = let e : w ≡ u = cc in sym e
ends_run r w u (x ∷ xs) h =
    go (clash_at r w (happens r w x) (line_member x)) h (ends_run r (happens r w x) u xs)
  where
    go : (o : Option (Block × Block))
        → option_map_or (λ both. Clashes (r.block_bytes both.0) (r.block_bytes both.1)) o
        (outcome r (happens r w x) xs)
        ≡ Ends u
        → (outcome r (happens r w x) xs ≡ Ends u → u ≡ run r (happens r w x) xs)
        → u ≡ run r (happens r w x) xs
    go None h later = later h
    go (Some both) h later = cc

-- a line ends in the world after it, or in a clash
line_ends : (r : Rules) (w : World) (line : Line)
    → (outcome r w (line ∷ []) ≡ Ends (happens r w line))
    ⊎ ((x y : List ℕ) × (outcome r w (line ∷ []) ≡ Clashes x y))
line_ends r w line = go (clash_at r w (happens r w line) (line_member line)) refl
  where
    by : Option (Block × Block) → Outcome
    by o =
        option_map_or (λ both. Clashes (r.block_bytes both.0) (r.block_bytes both.1)) o
        (Ends (happens r w line))

    go : (o : Option (Block × Block)) → clash_at r w (happens r w line) (line_member line) ≡ o
        → (outcome r w (line ∷ []) ≡ Ends (happens r w line))
        ⊎ ((x y : List ℕ) × (outcome r w (line ∷ []) ≡ Clashes x y))
    go None e = inl (ap by e)
    go (Some both) e = inr (r.block_bytes both.0, r.block_bytes both.1, ap by e)

-- ---- worlds without a clash

pub clear_reaches : (r : Rules) (script : List Line) (w : World) → ReachesClear r script w
    → Reaches r script w
clear_reaches r script w (before, rest, joined, e) =
    (before, rest, joined, ends_run r (opening r script) w before e)

pub clear_world : (r : Rules) (script : List Line) (w : World) → IsCluster r script
    → ReachesClear r script w → IsWorldKept r script w × NoClash r w
clear_world r script w cluster (before, rest, joined, e) =
    let k = clear_reached r script before rest w cluster joined e in (k.kept, k.clear)

-- where lines of honest members lead to without a clash a longer script reaches without one
pub clear_on : (r : Rules) (script : List Line) (w u : World) (more : List Line)
    → IsCluster r script → ReachesClear r script w
    → AllByRecursion (λ line. is_honest_line line ≡ true) more → outcome r w more ≡ Ends u
    → (longer : List Line) × IsCluster r longer × ReachesClear r longer u
clear_on r script w u more cluster (before, rest, joined, e) a h =
    let (within, opens) = inserted r script before more rest cluster joined a in (
      before ++ (more ++ rest),
      within,
      (
        before ++ more,
        rest,
        sym (append_assoc before more rest),
        outcome_both r (opening r (before ++ (more ++ rest))) w before more
            (ap (λ v. outcome r v before) opens ∙ e)
            ∙ h,
      ),
    )

-- ---- paths

-- such lines lead from w to u without a clash, and so does some script
pub record Path (r : Rules) (w : World) (allowed : Line → Bool) (u : World) : Type 0 where
  pub lines : List Line
  pub are : AllByRecursion (λ line. allowed line ≡ true) lines
  pub ends : outcome r w lines ≡ Ends u
  pub script : List Line
  pub cluster : IsCluster r script
  pub clear : ReachesClear r script u

-- with one line more, where that brings no clash
pub path_on : (r : Rules) (w : World) (allowed : Line → Bool)
    → ((line : Line) → allowed line ≡ true → is_honest_line line ≡ true) → (u : World)
    → Path r w allowed u → (line : Line) → allowed line ≡ true
    → Path r w allowed (happens r u line) ⊎ ComesToClash r w allowed
path_on r w allowed honest u p line fits = go (line_ends r u line)
  where
    more : AllByRecursion (λ l. allowed l ≡ true) (p.lines ++ line ∷ [])
    more = all_both (λ l. allowed l ≡ true) p.lines (line ∷ []) p.are (fits, tt)

    go : (outcome r u (line ∷ []) ≡ Ends (happens r u line))
        ⊎ ((x y : List ℕ) × (outcome r u (line ∷ []) ≡ Clashes x y))
        → Path r w allowed (happens r u line) ⊎ ComesToClash r w allowed
    go (inl e) =
        let (longer, among, clear) =
        clear_on r p.script u (happens r u line) (line ∷ []) p.cluster p.clear
        (honest line fits, tt) e in
        inl (record {
          lines = p.lines ++ line ∷ [];
          are = more;
          ends = outcome_both r w u p.lines (line ∷ []) p.ends ∙ e;
          script = longer;
          cluster = among;
          clear = clear;
        })
    go (inr (x, y, e)) =
        inr (record {
          lines = p.lines ++ line ∷ [];
          are = more;
          earlier = x;
          later = y;
          ends = outcome_both r w u p.lines (line ∷ []) p.ends ∙ e;
        })
