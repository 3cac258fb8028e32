-- The height of the block under a commitment, and the last height of an epoch.
use Rattle.std.proofs.Common.{◌≡◌, ◌&&◌, ◌==◌, ◌-◌, ◌^◌, ◌<◌, ◌⊎◌, inl, inr, ℕ, true, false, if◌then◌else◌, nat_lt, List, Option, Some, None, option_and_then, refl, arith}
use Rattle.std.specs.Option.{option_map_or}
use Rattle.std.proofs.lemmas.Bool.{cases_Bool}
use Rattle.cw_types.specs.Epochs.{Epochs, height_of_block, is_last, last_block_height, last_height}
use Rattle.cw_types.specs.Same.{same_commitment}
use Rattle.cw_types.specs.declared.commitment.Commitment.{Commitment}
use Rattle.cw_types.specs.declared.note.Note.{Note}
use Rattle.cw_rules.specs.Accepted.{first_some}
use Rattle.cw_rules.specs.Held.{greatest_prune, held, noted_block_of}
use Rattle.cw_rules.specs.Rules.{Rules, genesis_commitment}

-- a block that high is the last where that last height can be a block's
pub last_is : (x : Epochs) (epoch height : ℕ) → height < 2 ^ 64 - 1
    → is_last x epoch height
    ≡ option_map_or (λ last. height == last) (last_block_height x epoch) false
last_is x epoch height low = go (last_height x epoch)
  where
    go : (o : Option ℕ)
        → option_map_or (λ last. height == last) o false
        ≡ option_map_or (λ last. height == last) (option_and_then height_of_block o) false
    go None = refl
    go (Some last) = by (cases_Bool (nat_lt last (2 ^ 64 - 1)))
      where
        by : (nat_lt last (2 ^ 64 - 1) ≡ true) ⊎ (nat_lt last (2 ^ 64 - 1) ≡ false)
            → (height == last) ≡ option_map_or (λ l. height == l) (height_of_block last) false
        by (inl e) = rw e refl
        by (inr e) = rw e (grind arith)

-- the held block, where it isn't the first one, is the first noted one, unless that was pruned
pub held_kept : (r : Rules) (notes : List Note) (c : Commitment)
    → same_commitment c (genesis_commitment r) ≡ false
    → held r notes c
    ≡ option_and_then
    (λ b. if nat_lt 0 b.height && nat_lt b.height (greatest_prune notes) then None
    else Some b)
    (first_some (noted_block_of c) notes)
held_kept r notes c e = rw e refl
