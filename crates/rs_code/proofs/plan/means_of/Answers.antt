use Rattle.std.proofs.Common.{ℕ, List, get_or, sym, ap, subst₂}
use Rattle.rs_code.specs.Codeword.{ArePoints}
use Rattle.rs_code.specs.Plans.{Shape}
use Rattle.rs_code.proofs.plan.means_of.Goals as goal

pub returns-clause-distinct : goal.returns-clause-distinct
returns-clause-distinct c =
    subst₂ (λ (n : ℕ) (qs : List ℕ). ArePoints n (λ s. get_or qs s 0)) c.requires.count
    (sym c.in_ok-basis.ensures) c.requires.points

pub returns-then-are_completed-clause-distinct : goal.returns-then-are_completed-clause-distinct
returns-then-are_completed-clause-distinct c =
    subst₂ (λ (n : ℕ) (qs : List ℕ). ArePoints n (λ s. get_or qs s 0)) c.requires.count
    (sym (ap (λ (v : Shape). v.points) c.in_ok-completion.ensures)) c.requires.points
