use Rattle.std.proofs.Common.{◌≡◌, List, ℕ, arith, nat_lt, rules, subst, true}
use Rattle.std.specs.Prelude.{slice_index_or}
use Rattle.std.specs.List.Sorted.{IsNonDecreasing}
use Rattle.std.proofs.lemmas.List.Sorted.{IsPartitionPoint-from_clause, IsPartitionedBy-ltb}
use Rattle.marshal.specs.Bare.{bare}
use Rattle.marshal.proofs.Reaching.{low_before}
use Rattle.marshal.proofs.notes.Notes.reach_from.Goals as goal

pub returns-clause-low : goal.returns-clause-low
returns-clause-low g c =
    let h = c.args.height in
    let rising : IsNonDecreasing c.deref.result.now =
    rw c.deref.ensures.value c.self.invariant.reaching.rising in
    let point =
    IsPartitionPoint-from_clause (λ y. nat_lt y h) _ _ c.partition_point.ensures.partitioned
    (IsPartitionedBy-ltb (λ x. x) _ h rising) (λ a r q k. search rules) in
    rw (← c.self.view_is)
    (low_before (bare g.H.Hasher.digest_of) c.self.inside.notes.items c.self.inside.reach.items
    c.self.invariant.reaching h c.partition_point.result
    (λ i d l. subst (λ (xs : List ℕ). nat_lt (slice_index_or xs i d) h ≡ true)
    c.deref.ensures.value (point.0 i d (omega arith) l)))
