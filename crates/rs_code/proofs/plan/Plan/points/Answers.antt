use Rattle.std.proofs.Common.{◌≡◌, ◌<◌, ◌^◌, length, get_or, subst}
use Rattle.rs_code.specs.Codeword.{ArePoints}
use Rattle.rs_code.specs.Plans.{Shape}
use Rattle.rs_code.proofs.plan.Plan.points.Goals as goal

pub returns-in-Weighed-clause-count : goal.returns-in-Weighed-clause-count
returns-in-Weighed-clause-count c =
    subst (λ (v : Shape). length v.points ≡ v.k) c.self.view_is c.self.invariant.0

pub returns-in-Weighed-clause-distinct : goal.returns-in-Weighed-clause-distinct
returns-in-Weighed-clause-distinct c =
    subst (λ (v : Shape). ArePoints v.k (λ s. get_or v.points s 0)) c.self.view_is
    c.self.invariant.1

pub returns-in-Weighed-clause-few : goal.returns-in-Weighed-clause-few
returns-in-Weighed-clause-few c =
    subst (λ (v : Shape). v.k < 2 ^ 16) c.self.view_is c.self.invariant.2

pub returns-in-Completed-clause-count : goal.returns-in-Completed-clause-count
returns-in-Completed-clause-count c =
    subst (λ (v : Shape). length v.points ≡ v.k) c.self.view_is c.self.invariant.0

pub returns-in-Completed-clause-distinct : goal.returns-in-Completed-clause-distinct
returns-in-Completed-clause-distinct c =
    subst (λ (v : Shape). ArePoints v.k (λ s. get_or v.points s 0)) c.self.view_is
    c.self.invariant.1

pub returns-in-Completed-clause-few : goal.returns-in-Completed-clause-few
returns-in-Completed-clause-few c =
    subst (λ (v : Shape). v.k < 2 ^ 16) c.self.view_is c.self.invariant.2
