use Rattle.std.proofs.Common.{◌≡◌, ◌∙◌, List, None, Some, ap, arith, length, rules, sym}
use Rattle.std.specs.List.{position}
use Rattle.cw_types.proofs.Ordered.{found_same}
use Rattle.cw_types.specs.declared.note.Note.{Note}
use Rattle.marshal.specs.Bare.{bare}
use Rattle.marshal.specs.Reach.{is_final}
use Rattle.marshal.proofs.Answering.{none_before, none_of_it, none_there}
use Rattle.marshal.proofs.Placing.{position_below}
use Rattle.marshal.proofs.notes.Notes.finalization_from.Goals as goal

pub returns-in-Some-get-clause-low : goal.returns-in-Some-get-clause-low
returns-in-Some-get-clause-low g c =
    let d = c.in-Some.commitment.now in
    let notes = c.self.inside.notes.items in
    let first : position (is_final d) notes ≡ Some c.in-Some-get.place.now =
    sym (c.self.invariant.indexed.finalized d)
    ∙ (sym (found_same c.self.inside.index.finals.entries d) ∙ sym c.in-Some-get.ensures.value) in
    rw (← c.self.view_is)
    (none_before (bare g.H.Hasher.digest_of) notes c.args.height
    c.self.inside.heights.at.entries (c.self.invariant.known c.if-not-self.false) d
    c.in-Some-get.place.now (sym c.in-Some.ensures.value) first)

pub returns-in-Some-get-clause-bound : goal.returns-in-Some-get-clause-bound
returns-in-Some-get-clause-bound g c =
    let d = c.in-Some.commitment.now in
    let notes = c.self.inside.notes.items in
    let first : position (is_final d) notes ≡ Some c.in-Some-get.place.now =
    sym (c.self.invariant.indexed.finalized d)
    ∙ (sym (found_same c.self.inside.index.finals.entries d) ∙ sym c.in-Some-get.ensures.value) in
    let below = position_below (is_final d) notes c.in-Some-get.place.now first in
    let long = ap (λ (ns : List Note). length ns) c.self.view_is in
    omega (arith, below, long)

pub returns-in-None-get-clause-low : goal.returns-in-None-get-clause-low
returns-in-None-get-clause-low g c =
    let d = c.in-Some.commitment.now in
    let notes = c.self.inside.notes.items in
    let none : position (is_final d) notes ≡ None =
    sym (c.self.invariant.indexed.finalized d)
    ∙ (sym (found_same c.self.inside.index.finals.entries d) ∙ sym c.in-None-get.ensures.value) in
    let long : c.len.result ≡ length notes = search rules in
    rw (← c.self.view_is, long)
    (none_of_it (bare g.H.Hasher.digest_of) notes c.args.height
    c.self.inside.heights.at.entries (c.self.invariant.known c.if-not-self.false) d
    (sym c.in-Some.ensures.value) none)

pub returns-in-None-clause-low : goal.returns-in-None-clause-low
returns-in-None-clause-low g c =
    let long : c.len-in-None.result ≡ length c.self.inside.notes.items = search rules in
    rw (← c.self.view_is, long)
    (none_there (bare g.H.Hasher.digest_of) c.self.inside.notes.items c.args.height
    c.self.inside.heights.at.entries (c.self.invariant.known c.if-not-self.false)
    (sym c.in-None.ensures.value))
