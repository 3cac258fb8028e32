use Rattle.std.proofs.Common.{Bor, List, Some, ap, length, option_map, slice_get, sym, ◌-◌, ◌∙◌}
use Rattle.cw_types.specs.Block.{Block}
use Rattle.cw_types.specs.declared.note.Note.{Note}
use Rattle.node.specs.Holding.{Holding, own_state, rules_of}
use Rattle.node.specs.declared.arrival.Arrival.{Arrival}
use Rattle.node.proofs.Resting.{last_arrival}
use Rattle.node.proofs.holding.Holding.owed_block.Goals as goal

pub returns-in_ok-copy-in-Some-unnoted-clause-value :
    goal.returns-in_ok-copy-in-Some-unnoted-clause-value
returns-in_ok-copy-in-Some-unnoted-clause-value g c =
    let h = c.args.self.now in
    let last = c.in-Some.last.now in
    let arrived =
    c.as_slice.ensures
    ∙ ap (λ (k : Holding g.row.D.Denot g.row.A.Denot). k.arrivals) c.self.view_is in
    let at =
    c.in-Some.ensures.value
    ∙ ap (λ (l : List Arrival). slice_get l (length l - 1)) arrived in
    let all =
    last_arrival (rules_of g.H.Hasher.digest_of g.A.Application.accepts h) (own_state h)
    h.arrivals
    last c.requires.stands.named c.requires.last (sym at) in
    let note = λ (b : Bor Block). Note.Block last.commitment b.now in
    ap (λ (b : Block). Some (Note.Block last.commitment b)) c.in_ok-copy-in-Some-unnoted.ensures
    ∙ (sym (ap (option_map note) c.in-Some-unnoted.is) ∙ (c.unnoted.ensures ∙ sym all))

pub returns-in-None-clause-value : goal.returns-in-None-clause-value
returns-in-None-clause-value g c =
    let h = c.args.self.now in
    let last = c.in-Some.last.now in
    let arrived =
    c.as_slice.ensures
    ∙ ap (λ (k : Holding g.row.D.Denot g.row.A.Denot). k.arrivals) c.self.view_is in
    let at =
    c.in-Some.ensures.value
    ∙ ap (λ (l : List Arrival). slice_get l (length l - 1)) arrived in
    let all =
    last_arrival (rules_of g.H.Hasher.digest_of g.A.Application.accepts h) (own_state h)
    h.arrivals
    last c.requires.stands.named c.requires.last (sym at) in
    let note = λ (b : Bor Block). Note.Block last.commitment b.now in
    sym (ap (option_map note) c.in-None.is) ∙ (c.unnoted.ensures ∙ sym all)
