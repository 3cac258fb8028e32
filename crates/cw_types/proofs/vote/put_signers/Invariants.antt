use Rattle.std.proofs.Common.{◌≡◌, ◌++◌, flat_map, take}
use Rattle.cw_base.specs.Bytes.{be16}
use Rattle.cw_types.proofs.vote.put_signers.Given as goal

-- those so far are written
abbrev pub invariant-loop-signer : goal.invariant-loop-signer
invariant-loop-signer l =
    l.out.items ≡ l.fn.out.items ++ flat_map be16 (take l.signer-index l.signers)
