-- A cluster of four under the hash that adds up, to compare with values worked out by hand.
use Rattle.std.specs.Prelude.{ℕ, true, List, [], ◌∷◌}
use Rattle.cw_base.specs.declared.hash.Digest32.{Digest32}
use Rattle.cw_base.specs.Hash.{sum_bytes}
use Rattle.cw_types.specs.Block.{Block}
use Rattle.cw_types.specs.Epochs.{single}
use Rattle.cw_rules.specs.Rules.{Rules, digest, genesis, genesis_commitment}
use Rattle.cw_rules_coded.specs.Coded.{coded}

abbrev pub sum_digest : List ℕ → Digest32
sum_digest bytes = record { 0 = sum_bytes bytes }

abbrev pub summed : Rules
summed = coded sum_digest (single 4) 3 (λ b a. true)

-- the block of view 1 over genesis with the payload "hi"
abbrev pub hi_block : Block
hi_block = record {
  context = record {
    epoch = 0;
    view = 1;
    leader = 1;
    parent_view = 0;
    parent = genesis_commitment summed;
  };
  parent = digest summed (genesis summed);
  height = 1;
  payload = 104 ∷ 105 ∷ [];
}
