use Rattle.std.proofs.Common.{◌≡◌, ℕ, zero, suc, ◌<◌, ◌≤◌, [], refl, arith, count_by, true}
use Rattle.std.specs.List.{list_any, AllByRecursion}
use Rattle.std.proofs.lemmas.Option.{same_Some}
use Rattle.cw_types.specs.Epochs.{size, members_in}
use Rattle.cw_types.specs.Numbers.{max_faults}
use Rattle.cw_types.specs.Epochs.{rises_from}
use Rattle.cw_types.specs.Same.{same_block, same_cert, same_commitment, same_context, same_proposal, same_vote}
use Rattle.cw_rules.specs.World.{faults}
use Rattle.cw_rules_runs.specs.Scenes.{two_epochs, three_epochs}
use Rattle.cw_rules_runs.proofs.worked.premises_met.Goals as goal

enough : (epoch : ℕ) → 4 ≤ size two_epochs epoch
enough zero = omega arith
enough (suc zero) = omega arith
enough (suc (suc epoch)) = omega arith

rising : (epoch : ℕ) → rises_from 0 (members_in two_epochs epoch) ≡ true
rising zero = refl
rising (suc zero) = refl
rising (suc (suc epoch)) = refl

there : (epoch : ℕ) → AllByRecursion (λ i. i < 5) (members_in two_epochs epoch)
there zero = (omega arith, (omega arith, (omega arith, (omega arith, tt))))
there (suc zero) = (omega arith, (omega arith, (omega arith, (omega arith, tt))))
there (suc (suc epoch)) = (omega arith, (omega arith, (omega arith, (omega arith, tt))))

few : (epoch : ℕ)
    → count_by (λ i. list_any (faults i) three_epochs) (members_in two_epochs epoch)
    ≤ max_faults (size two_epochs epoch)
few zero = omega arith
few (suc zero) = omega arith
few (suc (suc epoch)) = omega arith

pub returns-clause-cluster : goal.returns-clause-cluster
returns-clause-cluster c =
    record {
      enough = enough;
      rising = rising;
      there = there;
      few = few;
      spans = λ span e. let f = same_Some 1 span e in omega arith;
    }

pub returns-clause-reached : goal.returns-clause-reached
unfolding same_block same_cert same_commitment same_context same_proposal same_vote
returns-clause-reached c = (three_epochs, [], refl, refl)
