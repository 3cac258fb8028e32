use Rattle.std.proofs.Common.{ℕ, List, get_or, ◌∙◌, ap, sym, arith}
use Rattle.cw_coding.proofs.ClashLaws.{told_more, told_there}
use Rattle.cw_coding.proofs.clash.first_collision.Goals as goal

pub loop-p-preserved : goal.loop-p-preserved
loop-p-preserved g c =
    told_more g.H.Hasher.digest_of c.loop-p.p c.args.ours.now c.args.theirs.now
    c.as_slice.result.now c.as_slice-in-loop-p.result.now
    (c.as_slice.ensures ∙ c.index-ours-p.is
    ∙ ap (λ (d : List ℕ). get_or c.args.ours.now c.loop-p.p d) (sym c.as_slice.ensures))
    (c.as_slice-in-loop-p.ensures ∙ c.index-theirs-p.is
    ∙ ap (λ (d : List ℕ). get_or c.args.theirs.now c.loop-p.p d) (sym c.as_slice-in-loop-p.ensures))
    (rw c.if-collide.false at c.collide.ensures) c.loop-p.invariant

pub returns-clause-none : goal.returns-clause-none
returns-clause-none g c =
    λ p a b l. c.loop-p.invariant p a b (omega arith)

pub returns-then-collide-clause-collide : goal.returns-then-collide-clause-collide
returns-then-collide-clause-collide g c =
    λ a b. told_there g.H.Hasher.digest_of c.loop-p.p c.args.ours.now c.args.theirs.now
    c.as_slice.result.now c.as_slice-in-loop-p.result.now a b
    (c.as_slice.ensures ∙ c.index-ours-p.is
    ∙ ap (λ (d : List ℕ). get_or c.args.ours.now c.loop-p.p d) (sym c.as_slice.ensures))
    (c.as_slice-in-loop-p.ensures ∙ c.index-theirs-p.is
    ∙ ap (λ (d : List ℕ). get_or c.args.theirs.now c.loop-p.p d) (sym c.as_slice-in-loop-p.ensures))
    (rw c.if-collide.true at c.collide.ensures)
