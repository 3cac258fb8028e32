use Rattle.std.proofs.Common.{◌≡◌, Bool, sym, ◌∙◌, ap, subst}
use Rattle.std.specs.Prelude.{◌&&◌, IfOk, OnOk, not}
use Rattle.std.specs.List.{list_any}
use Rattle.cw_rules.specs.Accepted.{Row, is_chunk_of, same_part, take_part}
use Rattle.cw_rules.specs.Rules.{Rules}
use Rattle.node.proofs.Accepting.{came_nothing}
use Rattle.node.proofs.Bridges.{as_cut, no_chunk}
use Rattle.node.specs.Accepting.{is_new_row}
use Rattle.node.specs.Holding.{Holding, came_of}
use Rattle.node.specs.Standing.{HasCome}
use Rattle.node.proofs.holding.Holding.accept_shard.Goals as goal

pub returns-in-Chunked-clause-come : goal.returns-in-Chunked-clause-come
returns-in-Chunked-clause-come g c =
    let h = c.args.self.now in
    let hash = g.H.Hasher.digest_of in
    let accepts = g.A.Application.accepts in
    let m = c.args.commitment.now in
    let x = c.args.chunk.now in
    let cut =
    sym (ap (λ (k : Holding g.row.D.Denot g.row.A.Denot). k.travel) c.self.view_is)
    ∙ c.in-Chunked.is in
    subst
    (λ (r : Rules). OnOk c.accept_chunk.result
    (HasCome hash accepts (take_part (came_of h) (is_chunk_of r m x) (Row m x)) h
    c.accept_chunk.new.self))
    (as_cut hash accepts h cut) c.accept_chunk.ensures.come

pub returns-in-Chunked-clause-new : goal.returns-in-Chunked-clause-new
returns-in-Chunked-clause-new g c =
    let h = c.args.self.now in
    let hash = g.H.Hasher.digest_of in
    let accepts = g.A.Application.accepts in
    let cut =
    sym (ap (λ (k : Holding g.row.D.Denot g.row.A.Denot). k.travel) c.self.view_is)
    ∙ c.in-Chunked.is in
    subst
    (λ (r : Rules). IfOk c.accept_chunk.result
    (λ new. new ≡ is_new_row r (came_of h) c.args.commitment.now c.args.chunk.now))
    (as_cut hash accepts h cut) c.accept_chunk.ensures.new

pub returns-in-Uncut-clause-come : goal.returns-in-Uncut-clause-come
returns-in-Uncut-clause-come g c =
    let h = c.args.self.now in
    let hash = g.H.Hasher.digest_of in
    let accepts = g.A.Application.accepts in
    let m = c.args.commitment.now in
    let x = c.args.chunk.now in
    let uncut =
    sym (ap (λ (k : Holding g.row.D.Denot g.row.A.Denot). k.travel) c.self.view_is)
    ∙ c.in-Uncut.is in
    subst (λ (b : Bool). HasCome hash accepts (take_part (came_of h) b (Row m x)) h h)
    (sym (no_chunk hash accepts h uncut m x)) (came_nothing hash accepts h c.requires)

pub returns-in-Uncut-clause-new : goal.returns-in-Uncut-clause-new
returns-in-Uncut-clause-new g c =
    let h = c.args.self.now in
    let hash = g.H.Hasher.digest_of in
    let accepts = g.A.Application.accepts in
    let m = c.args.commitment.now in
    let x = c.args.chunk.now in
    let uncut =
    sym (ap (λ (k : Holding g.row.D.Denot g.row.A.Denot). k.travel) c.self.view_is)
    ∙ c.in-Uncut.is in
    sym
    (ap (λ (b : Bool). b && not (list_any (same_part (Row m x)) (came_of h).parts))
    (no_chunk hash accepts h uncut m x))
