use Rattle.std.proofs.Common.{◌≡◌, false, ◌∙◌, ap, sym}
use Rattle.std.proofs.lemmas.Bool.{cond-false}
use Rattle.cw_types.specs.Block.{Block}
use Rattle.cw_types.specs.Same.{same_block, same_commitment}
use Rattle.cw_types.specs.declared.commitment.Commitment.{Commitment}
use Rattle.cw_rules.specs.Rules.{Rules, commit, genesis, genesis_commitment}
use Rattle.cw_rules_coded.specs.Coded.{coded}
use Rattle.cw_light.proofs.path.is_named.Goals as goal

pub returns : goal.returns
returns g c = λ backlog accepts.
    let r : Rules = coded g.H.Hasher.digest_of c.args.committees.now backlog accepts in
    let b : Block = c.args.block.now in
    let of : Commitment = c.args.commitment.now in
    let other : same_commitment of (genesis_commitment r) ≡ false =
    sym (c.is_same.ensures ∙ ap (same_commitment of) c.genesis_commitment.ensures)
    ∙ c.if-is_same.false in
    c.is_same-2.ensures
    ∙ (ap (λ (x : Commitment). same_commitment x of) (c.in_ok-own.ensures backlog accepts)
    ∙ sym
    (cond-false (same_commitment of (genesis_commitment r)) (same_block b (genesis r))
    (same_commitment (commit r b) of) other))
