use Rattle.std.proofs.Common.{◌≡◌, ◌∙◌, ℕ, List, subst, sym}
use Rattle.node_disk.specs.Frames.{frames_in}
use Rattle.node_disk.proofs.AtRest.{finds_at_rest}
use Rattle.node_disk.proofs.Lists.{same_Ok}
use Rattle.node_disk.proofs.records.read_records.Goals as goal

pub returns-in-Ok-clause-kept : goal.returns-in-Ok-clause-kept
returns-in-Ok-clause-kept g c frames finds =
    let found : List (List ℕ) = frames_in c.in-Ok.field-0.0 c.args.bytes.now in
    let is : found ≡ frames =
    same_Ok found frames
    (sym (finds_at_rest found c.in-Ok.field-0.1 c.args.bytes.now c.in-Ok.ensures.rests) ∙ finds) in
    subst (λ (fs : List (List ℕ)). g.K.Records.keeps c.read_into.new.records fs) is
    c.in-Ok.ensures.kept
