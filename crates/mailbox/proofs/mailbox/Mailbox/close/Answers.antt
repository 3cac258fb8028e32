use Rattle.std.proofs.Common.{◌≡◌, ◌++◌, ◌∷◌, ◌∙◌, [], ap, length, map, sym}
use Rattle.std.proofs.lemmas.List.{map-append}
use Rattle.mailbox.specs.Calls.{IsFirstFault, calls_in, is_entry, lists_of}
use Rattle.mailbox.proofs.Histories.{are_calls, calls_more, fault_refutes}
use Rattle.mailbox.proofs.Replaying.{IsReplay-to_some}
use Rattle.mailbox.proofs.mailbox.Mailbox.close.Goals as goal

pub returns-in-None-clause-calls : goal.returns-in-None-clause-calls
returns-in-None-clause-calls g c =
    let all : map (λ v. v.items) c.as_slice-2.result.now ≡ lists_of c.args.self =
    ap (map (λ v. v.items)) (c.as_slice-2.ensures.value ∙ c.put.ensures.items)
    ∙ (map-append _ c.self.inside.lists.items (c.self.inside.own ∷ [])
    ∙ ap lists_of c.self.view_is) in
    let holds = c.in-None.ensures in
    let many : calls_in (lists_of c.args.self) ≡ length c.take_out-state.result.1.items =
    rw (← c.self.view_is)
    (calls_more (map (λ v. v.items) c.self.inside.lists.items) c.self.inside.own.items
    ∙ (sym c.self.invariant.4 ∙ (sym c.self.invariant.3 ∙ sym c.take_out-state.ensures.calls)))
    in
    are_calls (is_entry {T = g.row.T.Denot} g.T.Event.PartialEq.eq g.T.Reply.PartialEq.eq)
    c.take_out-state.result.1.items (lists_of c.args.self)
    (rw (← all, ← c.as_slice.ensures.value) holds) many

pub returns-clause-differs : goal.returns-clause-differs
returns-clause-differs g c place history lists is =
    let all : map (λ v. v.items) c.as_slice-2.result.now ≡ lists_of c.args.self =
    ap (map (λ v. v.items)) (c.as_slice-2.ensures.value ∙ c.put.ensures.items)
    ∙ (map-append _ c.self.inside.lists.items (c.self.inside.own ∷ [])
    ∙ ap lists_of c.self.view_is) in
    let p : c.in-Some.place ≡ place = cc in
    let h : c.take_out-state.result.1 ≡ history = cc in
    rw (sym p, sym h) (rw (← all, ← c.as_slice.ensures.value) c.in-Some.ensures)

pub returns-clause-differs_not : goal.returns-clause-differs_not
returns-clause-differs_not g c place history lists is calls =
    let all : map (λ v. v.items) c.as_slice-2.result.now ≡ lists_of c.args.self =
    ap (map (λ v. v.items)) (c.as_slice-2.ensures.value ∙ c.put.ensures.items)
    ∙ (map-append _ c.self.inside.lists.items (c.self.inside.own ∷ [])
    ∙ ap lists_of c.self.view_is) in
    let p : c.in-Some.place ≡ place = cc in
    let h : c.take_out-state.result.1 ≡ history = cc in
    let fault : IsFirstFault
    (is_entry {T = g.row.T.Denot} g.T.Event.PartialEq.eq g.T.Reply.PartialEq.eq) history.items
    (lists_of c.args.self) place =
    rw (sym p, sym h) (rw (← all, ← c.as_slice.ensures.value) c.in-Some.ensures)
    in
    fault_refutes (is_entry {T = g.row.T.Denot} g.T.Event.PartialEq.eq g.T.Reply.PartialEq.eq)
    history.items (lists_of c.args.self) place fault calls

pub returns-clause-differs_history : goal.returns-clause-differs_history
returns-clause-differs_history g c place history lists is =
    let h : c.take_out-state.result.1 ≡ history = cc in
    let many : length c.take_out-state.result.1.items ≡ calls_in (lists_of c.args.self) =
    rw (← c.self.view_is)
    (c.take_out-state.ensures.calls
    ∙ (c.self.invariant.3
    ∙ (c.self.invariant.4
    ∙ sym
    (calls_more (map (λ v. v.items) c.self.inside.lists.items)
    c.self.inside.own.items))))
    in
    rw (sym h) (IsReplay-to_some _ _ _ _ c.take_out-state.ensures.replay, many)
