-- How rows are rebuilt by a plan.
use Rattle.std.specs.Prelude.{◌≡◌, ℕ, List, ⊤}
use Rattle.rs_code.specs.declared.plan.Means.{Means}
use Rattle.rs_code.specs.declared.plan.Means.TheVariants.{Weighed, Completed}

-- the indices of the rows by which others are rebuilt
abbrev pub points_of : Means → List ℕ
points_of (Weighed basis) = basis
points_of (Completed completion) = completion.points

-- what is found by a codeword is of so many originals and recoveries
abbrev pub HaveSizes : (k m : ℕ) → Means → Type 0
HaveSizes k m (Weighed basis) = ⊤
HaveSizes k m (Completed completion) = (completion.k ≡ k) × (completion.m ≡ m)
