use Rattle.cw_base.proofs.Ends.{end_of_end}
use Rattle.cw_tree.proofs.ChunkParts.{gives_err, no_leaf_count, no_siblings, whole_proof}
use Rattle.cw_tree.proofs.bmt.proof.Proof.read.Goals as goal

pub returns-in_err-leaf_count-clause-value : goal.returns-in_err-leaf_count-clause-value
returns-in_err-leaf_count-clause-value g c =
    gives_err _ c.from_residual.result _ _ _ c.from_residual.ensures.1
    (no_leaf_count g.D.Digest.SIZE _ _ _ c.in_err-leaf_count.ensures.value)

pub returns-in_err-leaf_count-clause-place : goal.returns-in_err-leaf_count-clause-place
returns-in_err-leaf_count-clause-place g c = c.be32.ensures.place

pub returns-in_err-siblings-clause-value : goal.returns-in_err-siblings-clause-value
returns-in_err-siblings-clause-value g c =
    gives_err _ c.from_residual-in_err-siblings.result _ _ _
    c.from_residual-in_err-siblings.ensures.1
    (no_siblings g.D.Digest.SIZE _ _ _ _ _ c.in_ok-leaf_count.ensures.value
    c.in_err-siblings.ensures.value)

pub returns-in_err-siblings-clause-place : goal.returns-in_err-siblings-clause-place
returns-in_err-siblings-clause-place g c =
    end_of_end c.be32.ensures.place c.read_siblings.ensures.place

pub returns-clause-value : goal.returns-clause-value
returns-clause-value g c =
    whole_proof g.D.Digest.SIZE _ _ _ _ _ c.in_ok-leaf_count.ensures.value
    c.in_ok-siblings.ensures.value

pub returns-clause-place : goal.returns-clause-place
returns-clause-place g c = end_of_end c.be32.ensures.place c.read_siblings.ensures.place
