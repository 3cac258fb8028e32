-- How great heights are.
use Rattle.std.proofs.Common.{ℕ, ◌-◌, ◌^◌, ◌<◌, List, [], ◌∷◌, Option, Some, IfSome}
use Rattle.std.specs.List.{AllByRecursion, filter_map, last_or}
use Rattle.cw_types.specs.Values.{IsNote}
use Rattle.cw_types.specs.declared.note.Note.{Note}
use Rattle.cw_rules.specs.Held.{acked_height}

pub last_below : (limit : ℕ) (o : Option ℕ) (xs : List ℕ) → IfSome o (λ h. h < limit)
    → AllByRecursion (λ h. h < limit) xs → IfSome (last_or o xs) (λ h. h < limit)
last_below limit o [] here all = here
last_below limit o (x ∷ xs) here all = last_below limit (Some x) xs all.0 all.1

pub acks_below : (notes : List Note) → AllByRecursion IsNote notes
    → AllByRecursion (λ h. h < 2 ^ 64 - 1) (filter_map acked_height notes)
acks_below [] all = tt
acks_below (Note.Block c b ∷ notes) all = acks_below notes all.1
acks_below (Note.Verified e v c ∷ notes) all = acks_below notes all.1
acks_below (Note.Certified p ∷ notes) all = acks_below notes all.1
acks_below (Note.Vote v ∷ notes) all = acks_below notes all.1
acks_below (Note.Cert s ∷ notes) all = acks_below notes all.1
acks_below (Note.Ack h ∷ notes) all = (all.0, acks_below notes all.1)
acks_below (Note.Floor h ∷ notes) all = acks_below notes all.1
acks_below (Note.Prune h ∷ notes) all = acks_below notes all.1
acks_below (Note.Epoch e c ∷ notes) all = acks_below notes all.1
