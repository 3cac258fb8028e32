-- A script that is run makes at most f members of each epoch faulty.
use Rattle.std.proofs.Common.{◌≡◌, ℕ, ◌-◌, ◌<◌, ◌≤◌, true, List, [], length, Option, Some, None, refl, IsTrue, leb-true}
use Rattle.std.specs.Prelude.{count_by, slice_get, unwrap_or}
use Rattle.std.specs.List.{AllByRecursion, list_all}
use Rattle.std.specs.Option.{option_or}
use Rattle.cw_types.specs.Epochs.{Epochs, list_of, members_in, rises_from, size}
use Rattle.cw_types.specs.Numbers.{max_faults}
use Rattle.cw_types.proofs.EpochLemmas.{each_passes}
use Rattle.cw_rules.specs.Reached.{IsCluster}
use Rattle.cw_rules.specs.Rules.{Rules}
use Rattle.cw_rules.specs.World.{Line}
use Rattle.hail_script.specs.Grammar as grammar

-- the list of an epoch bears what each list does
borne : (lines : List Line) (lists : List (List ℕ)) (epoch : ℕ)
    → list_all (grammar.bears lines) lists ≡ true → grammar.bears lines (list_of lists epoch) ≡ true
borne lines lists epoch h =
    go (slice_get lists epoch) (slice_get lists (length lists - 1)) refl refl
  where
    go : (a b : Option (List ℕ)) → slice_get lists epoch ≡ a
        → slice_get lists (length lists - 1) ≡ b
        → grammar.bears lines
        (unwrap_or (option_or (slice_get lists epoch) (slice_get lists (length lists - 1))) [])
        ≡ true
    go (Some list) b p q = rw p (each_passes (grammar.bears lines) lists epoch list h p)
    go None (Some list) p q =
        rw (p, q) (each_passes (grammar.bears lines) lists (length lists - 1) list h q)
    go None None p q = rw (p, q) refl

pub cluster : (x : Epochs) (lines : List Line) → list_all (grammar.bears lines) x.lists ≡ true
    → ((epoch : ℕ) → 4 ≤ size x epoch) → ((epoch : ℕ) → IsTrue (rises_from 0 (members_in x epoch)))
    → ((epoch : ℕ) → AllByRecursion (λ i. i < x.total) (members_in x epoch))
    → ((span : ℕ) → x.span ≡ Some span → 0 < span) → (r : Rules) → r.epochs ≡ x
    → IsCluster r lines
cluster x lines few enough rising there spans r is = record {
  enough = λ epoch. rw is (enough epoch);
  rising = λ epoch. rw is (rising epoch);
  there = λ epoch. rw is (there epoch);
  few =
      λ epoch. rw is
      (leb-true (count_by (grammar.is_faulty_in lines) (members_in x epoch))
      (max_faults (size x epoch)) (borne lines x.lists epoch few));
  spans = λ span. rw is (spans span);
}
