use Rattle.std.proofs.Common.{◌≡◌, sym, ◌∙◌, ap, subst, ◌++◌, List, filter_map}
use Rattle.std.specs.Prelude.{OnOk}
use Rattle.cw_types.specs.Epochs.{members_in}
use Rattle.cw_types.specs.declared.event.Out.{Out}
use Rattle.cw_rules.specs.Rules.{chunks, commit}
use Rattle.cw_rules.specs.Sends.{chunk_out}
use Rattle.cw_rules_coded.specs.Coded.{ruled}
use Rattle.shards.specs.Kept as kept
use Rattle.node.specs.Holding.{Holding}
use Rattle.node.proofs.holding.Holding.put_cut.Goals as goal

pub returns : goal.returns
returns g c =
    let h = c.args.self.now in
    let hash = g.H.Hasher.digest_of in
    let accepts = g.A.Application.accepts in
    let e = c.self.view_is in
    let b = c.args.block.now in
    let cut = sym c.requires in
    let own =
    c.in_ok-own.ensures.commitment
    ∙ (ap (λ (k : Holding g.row.D.Denot g.row.A.Denot). commit (kept.chunk_rules hash k.epochs) b) e
    ∙ ap (λ t. commit (ruled t hash h.epochs h.backlog (accepts h.app)) b) cut) in
    let all =
    c.in_ok-own.ensures.chunks
    ∙ (ap (λ (k : Holding g.row.D.Denot g.row.A.Denot). chunks (kept.chunk_rules hash k.epochs) b) e
    ∙ ap (λ t. chunks (ruled t hash h.epochs h.backlog (accepts h.app)) b) cut) in
    let list =
    c.members.ensures.value
    ∙ ap (λ (k : Holding g.row.D.Denot g.row.A.Denot). members_in k.epochs c.args.epoch) e in
    subst
    (λ (l : List Out). OnOk c.put_chunks.result
    (c.put_chunks.new.out.items ≡ c.args.out.now.items ++ l))
    (λ i. filter_map (chunk_out h.id (list i) (own i)) (all i)) c.put_chunks.ensures
