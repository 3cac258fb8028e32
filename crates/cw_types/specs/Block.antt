-- A block, as every contract sees it: where it was proposed, its parent's digest, its height and
-- what it carries.
use Rattle.std.specs.Prelude.{ℕ, List}
use Rattle.cw_base.specs.declared.hash.Digest32.{Digest32}
use Rattle.cw_types.specs.declared.block.Context.{Context}

pub record Block : Type 0 where
  pub context : Context
  pub parent : Digest32
  pub height : ℕ
  pub payload : List ℕ
