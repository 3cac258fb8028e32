use Rattle.std.proofs.Common.{sym, ◌∙◌, ap, subst, refl, ◌++◌, []}
use Rattle.cw_rules_coded.specs.Coded.{ruled}
use Rattle.node.proofs.Starting.{stands_begun}
use Rattle.node.specs.Holding.{Holding}
use Rattle.node.specs.Standing.{IsReady}
use Rattle.marshal.specs.Stored.{marshal_log}
use Rattle.node.specs.Store.{store_of, stored_notes}
use Rattle.node.proofs.holding.Holding.begin.Goals as goal

pub returns-in-Ok-clause-ready : goal.returns-in-Ok-clause-ready
returns-in-Ok-clause-ready g c =
    let hash = g.H.Hasher.digest_of in
    let accepts = g.A.Application.accepts in
    let setup = c.args.setup in
    let t = store_of c.args.store.marshal in
    let log = marshal_log c.args.store.marshal in
    let r = ruled setup.travel hash setup.committees setup.backlog (accepts setup.app) in
    let told =
    c.in-Ok.ensures.ok
    ∙ ap
    (λ (k : Holding g.row.D.Denot g.row.A.Denot). record k
    { tally = record k.tally { notes = k.tally.notes ++ stored_notes k.store } })
    c.over-holding.ensures in
    let is =
    told ∙ (λ i. record {
      travel = setup.travel;
      id = setup.id;
      epochs = setup.committees;
      backlog = setup.backlog;
      app = setup.app;
      store = t;
      log = log;
      tally = record {
        epochs = c.requires.first i;
        id = setup.id;
        notes = stored_notes t;
        ballots = [];
        own = [];
      };
      shards = record { epochs = c.requires.second i; kept = [] };
      arrivals = [];
      shown = [];
      wishes = [];
    }) in
    subst (λ (k : Holding g.row.D.Denot g.row.A.Denot). IsReady hash accepts k) (sym is) (record {
      stands =
          stands_begun hash accepts setup.travel setup.id setup.committees setup.backlog setup.app
          t log c.requires.epochs c.requires.backlog c.requires.running
          (λ u s stands note. c.standing_is_kept.ensures.note hash u r s stands note)
          (c.standing_is_kept.ensures.start hash r setup.id t.given refl refl refl)
          (c.shards_stand.ensures.start hash setup.committees setup.backlog (accepts setup.app));
      quiet = c.requires.quiet;
      rests = refl;
    })
