-- What a handoff becomes where it is mapped by nothing, and by two functions in turn.
use Rattle.std.proofs.Common.{◌≡◌, ◌∙◌, ap, refl}
use Rattle.cw_types.specs.Handoff.{IsMapped}
use Rattle.cw_types.specs.declared.handoff.Handoff.{Handoff}
use Rattle.cw_types.specs.declared.handoff.Handoff.TheVariants.{Vote, Stage, Wait}

pub mapped_same : {C : Type 0} → (one other : Handoff C) → IsMapped (λ x y. y ≡ x) one other
    → other ≡ one
mapped_same (Vote x) (Vote y) e = λ i. Vote (e i)
mapped_same (Stage x) (Stage y) e = λ i. Stage (e i)
mapped_same Wait Wait e = refl
mapped_same _ _ e = absurd e

pub mapped_twice : {C D E : Type 0}
    → (first : C → D) (then : D → E) (one : Handoff C) (next : Handoff D) (last : Handoff E)
    → IsMapped (λ x y. y ≡ first x) one next → IsMapped (λ y z. z ≡ then y) next last
    → IsMapped (λ x z. z ≡ then (first x)) one last
mapped_twice first then (Vote x) (Vote y) (Vote z) f g = g ∙ ap then f
mapped_twice first then (Vote x) (Vote y) _ f g = absurd g
mapped_twice first then (Vote x) _ _ f g = absurd f
mapped_twice first then (Stage x) (Stage y) (Stage z) f g = g ∙ ap then f
mapped_twice first then (Stage x) (Stage y) _ f g = absurd g
mapped_twice first then (Stage x) _ _ f g = absurd f
mapped_twice first then Wait Wait Wait f g = tt
mapped_twice first then Wait Wait _ f g = absurd g
mapped_twice first then Wait _ _ f g = absurd f
