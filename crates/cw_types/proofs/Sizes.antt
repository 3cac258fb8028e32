-- How many bytes a block has: 126 of its context, 32 of its parent's digest, 8 of its height, at
-- most 3 of its payload's length, and at most 1,048,576 of its payload.
use Rattle.std.proofs.Common.{◌≡◌, ℕ, zero, suc, ◌+◌, ◌/◌, ◌%◌, ◌^◌, ◌<◌, ◌≤◌, Bool, true, false}
use Rattle.std.proofs.Common.{cond, nat_lt, List, [], ◌∷◌, ◌++◌, length, refl, ap, arith}
use Rattle.std.proofs.Common.{length-append}
use Rattle.std.proofs.lemmas.Bool.{ltb-false}
use Rattle.cw_base.specs.Bytes.{be16, be64, varint, varint_within}
use Rattle.cw_base.specs.Config.{config_bytes}
use Rattle.cw_base.proofs.Lengths.{length-be16, length-be64}
use Rattle.cw_types.specs.Block.{Block}
use Rattle.cw_types.specs.declared.block.Context.{Context}
use Rattle.cw_types.specs.declared.commitment.Commitment.{Commitment}
use Rattle.cw_types.specs.Encoding.{commitment_bytes, context_bytes, block_bytes}
use Rattle.cw_types.specs.Values.{IsBlock, IsCommitment, IsContext}

-- a number below 128 to a power has at most that many bytes
varint_short : (more fuel n : ℕ) → n < 128 ^ suc more → length (varint_within fuel n) ≤ suc more
varint_short more zero n small = omega arith
varint_short zero (suc fuel) n small = go (nat_lt n 128) refl
  where
    go : (t : Bool) → nat_lt n 128 ≡ t
        → length (cond t (n ∷ []) ((n % 128 + 128) ∷ varint_within fuel (n / 128))) ≤ 1
    go true is = omega arith
    go false is = absurd (let large : 128 ≤ n = ltb-false n 128 is in omega arith)
varint_short (suc more) (suc fuel) n small =
    go (nat_lt n 128) (varint_short more fuel (n / 128) (omega arith))
  where
    go : (t : Bool) → length (varint_within fuel (n / 128)) ≤ suc more
        → length (cond t (n ∷ []) ((n % 128 + 128) ∷ varint_within fuel (n / 128))) ≤ suc (suc more)
    go true h = omega arith
    go false h = omega arith

length-varint : (n : ℕ) → n ≤ 1048576 → length (varint n) ≤ 3
unfolding varint
length-varint n small = varint_short 2 5 n (omega arith)

length-greatest : length (varint 1048576) ≡ 3
unfolding varint
length-greatest = refl

length-commitment : (c : Commitment) → IsCommitment c → length (commitment_bytes c) ≡ 100
unfolding commitment_bytes config_bytes
length-commitment c fits = omega (
  arith,
  fits.block,
  fits.root,
  fits.context,
  length-append (c.block.0 ++ c.root.0 ++ c.context.0)
      (be16 c.config.minimum ++ be16 c.config.extra),
  length-append (c.block.0 ++ c.root.0) c.context.0,
  length-append c.block.0 c.root.0,
  length-append (be16 c.config.minimum) (be16 c.config.extra),
  length-be16 c.config.minimum,
  length-be16 c.config.extra,
)

length-context : (c : Context) → IsContext c → length (context_bytes c) ≡ 126
unfolding context_bytes
length-context c fits =
    let front : List ℕ = be64 c.epoch ++ be64 c.view in
    omega (
      arith,
      length-append (front ++ be16 c.leader ++ be64 c.parent_view) (commitment_bytes c.parent),
      length-append (front ++ be16 c.leader) (be64 c.parent_view),
      length-append front (be16 c.leader),
      length-append (be64 c.epoch) (be64 c.view),
      length-be64 c.epoch,
      length-be64 c.view,
      length-be16 c.leader,
      length-be64 c.parent_view,
      length-commitment c.parent fits.parent,
    )

length-block : (b : Block) → IsBlock b
    → length (block_bytes b) ≡ 166 + length (varint (length b.payload)) + length b.payload
unfolding block_bytes
length-block b fits =
    let front : List ℕ = context_bytes b.context ++ b.parent.0 in
    let count : List ℕ = varint (length b.payload) in
    omega (
      arith,
      length-append (front ++ be64 b.height ++ count) b.payload,
      length-append (front ++ be64 b.height) count,
      length-append front (be64 b.height),
      length-append (context_bytes b.context) b.parent.0,
      length-context b.context fits.context,
      fits.parent,
      length-be64 b.height,
    )

-- no block has more than 1,048,745 bytes
pub block_within : (b : Block) → IsBlock b → length (block_bytes b) ≤ 1048745
block_within b fits =
    omega (arith, length-block b fits, length-varint (length b.payload) fits.payload, fits.payload)

-- a block with the longest payload has as many
pub block_reaches : (b : Block) → IsBlock b → length b.payload ≡ 1048576
    → length (block_bytes b) ≡ 1048745
block_reaches b fits full =
    omega (arith, length-block b fits, ap (λ n. length (varint n)) full, length-greatest, full)
