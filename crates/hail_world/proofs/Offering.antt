-- What names an offered block, by how blocks travel.
use Rattle.std.proofs.Common.{◌≡◌, List, ℕ, Result, sym, subst, true}
use Rattle.std.specs.Prelude.{IfOk}
use Rattle.cw_base.specs.declared.hash.Digest32.{Digest32}
use Rattle.cw_types.specs.Block.{Block}
use Rattle.cw_types.specs.declared.commitment.Commitment.{Commitment}
use Rattle.cw_rules.specs.Rules.{commit}
use Rattle.cw_rules.specs.declared.travel.Travel.{Travel}
use Rattle.cw_rules_coded.specs.Coded.{ruled}
use Rattle.hail_script.specs.Scenario.{Scenario}
use Rattle.hail_world.specs.Places.{script_rules}

-- what names it by the rules of one way names it by the script's, where this is its way
pub names : {X E : Type 0} (hash : List ℕ → Digest32) (s : Scenario) (travel : Travel)
    → s.travel ≡ travel → (b : Block) (result : Result (Commitment × X) E)
    → IfOk result
    (λ gone. gone.0 ≡ commit (ruled travel hash s.committees s.backlog (λ b a. true)) b)
    → IfOk result (λ gone. gone.0 ≡ commit (script_rules hash s) b)
names hash s travel way b result h =
    subst
    (λ (t : Travel). IfOk result
    (λ gone. gone.0 ≡ commit (ruled t hash s.committees s.backlog (λ b a. true)) b))
    (sym way) h
