use Rattle.std.proofs.Common.{◌≡◌, ◌∙◌, Err, List, ap, subst, sym, ℕ}
use Rattle.cw_types.specs.Epochs.{Epochs}
use Rattle.marshal.specs.Frames.{read_frames}
use Rattle.node.specs.State.{IsNodeOf}
use Rattle.member_session.specs.Serving.{Prepared}
use Rattle.member_session.specs.Told.{Begins}
use Rattle.member_session.proofs.Begun.{begins}
use Rattle.member_session.proofs.opening.Opening.begun.Goals as goal

pub returns-in-Ok-start-clause-begins : goal.returns-in-Ok-start-clause-begins
returns-in-Ok-start-clause-begins g c =
    let i = c.self.inside in
    let r = c.in-Ok-start.begun in
    let e = c.in-Ok-start.ensures in
    subst (λ (o : Prepared). Begins g.H.Hasher.digest_of g.W.Way.travel o r.0 r.1) c.self.view_is
    (begins g.H.Hasher.digest_of g.W.Way.travel _ _
    (record {
      id = i.id;
      epochs = i.committees;
      backlog = i.backlog;
      file = i.file.items;
    })
    r.0 c.in-Ok-disk_of.disk r.1
    (subst (λ (x : Epochs). IsNodeOf i.id x i.backlog _ r.0) c.in-Ok.ensures e.node)
    e.way e.start e.at_work e.disk c.in-Ok-disk_of.ensures.0
    (c.in-Ok-disk_of.ensures.1 ∙ c.deref.ensures.value))
