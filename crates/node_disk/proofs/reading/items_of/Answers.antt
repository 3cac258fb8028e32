use Rattle.std.proofs.Common.{List, ℕ, ◌++◌, [], ◌∷◌, map, take, ap, ◌∙◌}
use Rattle.node_disk.proofs.Refusing.{one_behind}
use Rattle.node_disk.proofs.reading.items_of.Goals as goal

pub loop-index-preserved : goal.loop-index-preserved
loop-index-preserved c =
    c.in_ok-push.ensures.ok
    ∙ ap (λ (l : List (List ℕ)). l ++ c.in_ok-copy.copy ∷ []) c.loop-index.invariant
    ∙ ap
    (λ (x : List ℕ). take c.loop-index.index (map (λ frame. frame.now) c.args.frames.now) ++ x ∷ [])
    c.in_ok-copy.ensures
    ∙ one_behind (map (λ frame. frame.now) c.args.frames.now) c.loop-index.index
    c.frame_in.result.now c.frame_in.ensures
