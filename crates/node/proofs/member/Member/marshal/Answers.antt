use Rattle.std.proofs.Common.{◌≡◌, ◌∙◌, ap, true}
use Rattle.std.specs.Prelude.{not}
use Rattle.std.proofs.lemmas.Bool.{not-true}
use Rattle.node.specs.State.{NodeState}
use Rattle.node.specs.Store.{Store}
use Rattle.node.proofs.member.Member.marshal.Goals as goal

pub returns : goal.returns
returns g c =
    let e = c.self.view_is in
    let store = c.marshal.ensures.store in
    let frames =
    ap (λ (s : Store). s.frames) store
    ∙ ap (λ (n : NodeState g.row.D.Denot g.row.A.Denot). n.member.frames) e in
    let log = c.marshal.ensures.log ∙ ap (λ (n : NodeState g.row.D.Denot g.row.A.Denot). n.log) e in
    record {
      value = λ alive.
          let live : not c.self.inside.failed ≡ true =
          ap (λ (n : NodeState g.row.D.Denot g.row.A.Denot). n.member.live) e ∙ alive in
          let ready = (c.self.invariant.1 (not-true c.self.inside.failed live)).ready in
          record {
            epochs =
                ap (λ (s : Store). s.epochs) store
                ∙ (ready.stands.epochs
                ∙ ap (λ (n : NodeState g.row.D.Denot g.row.A.Denot). n.epochs) e);
            backlog =
                ap (λ (s : Store). s.backlog) store
                ∙ (ready.stands.backlog
                ∙ ap (λ (n : NodeState g.row.D.Denot g.row.A.Denot). n.backlog) e);
            frames = frames;
            staged = ap (λ (s : Store). s.staged) store ∙ ready.quiet;
            given =
                ap (λ (s : Store). s.given) store
                ∙ ap (λ (n : NodeState g.row.D.Denot g.row.A.Denot). n.member.given) e;
            tickets =
                ap (λ (s : Store). s.tickets) store
                ∙ ap (λ (n : NodeState g.row.D.Denot g.row.A.Denot). n.member.tickets) e;
            log = log;
          };
      frames = frames;
      log = log;
    }
