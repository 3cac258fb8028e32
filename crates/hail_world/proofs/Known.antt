-- What is known of the lines of a script that is run.
use Rattle.std.proofs.Common.{◌≡◌, ℕ, zero, suc, ◌+◌, ◌<◌, ◌≤◌, ◌^◌, ◌&&◌, nat_le, Bool, true, false, nat_lt, List, [], ◌∷◌, length, map, drop, get_or, Option, Some, None, IsTrue, refl, sym, ap, subst, ◌∙◌, arith, ltb-true}
use Rattle.std.specs.Prelude.{option_map, slice_get}
use Rattle.std.specs.List.{list_all}
use Rattle.std.specs.Option.{option_or}
use Rattle.std.proofs.lemmas.List.{drop_all}
use Rattle.std.proofs.lemmas.Bool.{and_parts, not-false}
use Rattle.cw_types.specs.Block.{Block}
use Rattle.cw_rules.specs.Rules.{Rules}
use Rattle.cw_rules.specs.World.{Line, line_member}
use Rattle.hail_script.specs.Grammar as grammar
use Rattle.hail_script.specs.Scenario.{Scenario}
use Rattle.hail_script.proofs.Admitted.{none_at}
use Rattle.hail_world.specs.Runs.{encoded}

second_none : (a b : Option ℕ) → option_or a b ≡ None → b ≡ None
second_none None b h = h
second_none (Some x) b h = absurd (let no : Some x ≡ None = h in cc)

pub known_at : (s : Scenario) (i : ℕ) (line : Line) → grammar.IsRunnable s
    → slice_get s.lines i ≡ Some line → line_member line < s.committees.total
known_at s i line runnable e =
    let none =
    second_none
    (grammar.first_at (grammar.has_stranger s.committees.total) 2 s.committees.lists)
    (grammar.first_at (grammar.names_stranger s.committees.total)
    (grammar.first_event s.committees) s.lines)
    runnable.known in
    let no =
    none_at (grammar.names_stranger s.committees.total) (grammar.first_event s.committees)
    s.lines i line none e in
    ltb-true (line_member line) s.committees.total
    (not-false (nat_lt (line_member line) s.committees.total) no)

pub few_members : (s : Scenario) → grammar.IsRunnable s → s.committees.total < 2 ^ 16
few_members s runnable =
    let more =
    (and_parts (nat_le 4 s.committees.total)
    (nat_lt s.committees.total (2 ^ 16)
    && list_all (λ list. nat_le 4 (length list)) s.committees.lists)
    runnable.sized).1 in
    ltb-true s.committees.total (2 ^ 16)
    (and_parts (nat_lt s.committees.total (2 ^ 16))
    (list_all (λ list. nat_le 4 (length list)) s.committees.lists) more).0

-- ---- a clash, and none

pub clear : (r : Rules) (f : Option (List ℕ × List ℕ)) (o : Option (Block × Block))
    → f ≡ option_map (encoded r) o → ((x : List ℕ × List ℕ) → f ≡ Some x → ⊥) → o ≡ None
clear r f None is never = refl
clear r f (Some both) is never = absurd (never (encoded r both) is)

pub record Found (r : Rules) (o : Option (Block × Block)) (earlier later : List ℕ) : Type 0 where
  pub both : Block × Block
  pub is : o ≡ Some both
  pub first : r.block_bytes both.0 ≡ earlier
  pub second : r.block_bytes both.1 ≡ later

pub found : (r : Rules) (o : Option (Block × Block)) (earlier later : List ℕ)
    → Some (earlier, later) ≡ option_map (encoded r) o → Found r o earlier later
found r None earlier later is = absurd (let no : Some (earlier, later) ≡ None = is in cc)
found r (Some both) earlier later is =
    let same : encoded r both ≡ (earlier, later) =
    (let s : Some (earlier, later) ≡ Some (encoded r both) = is in cc) in
    record {
      both = both;
      is = refl;
      first = ap (λ (p : List ℕ × List ℕ). p.0) same;
      second = ap (λ (p : List ℕ × List ℕ). p.1) same;
    }
