use Rattle.std.proofs.Common.{◌≡◌, ◌∙◌, [], None, sym, ap, drop}
use Rattle.std.proofs.lemmas.List.{drop_all}
use Rattle.cw_rules.specs.Accepted.{first_some}
use Rattle.cw_rules.specs.Sends.{finalization_at}
use Rattle.cw_rules.proofs.Lists.{first_here}
use Rattle.marshal.specs.Bare.{bare}
use Rattle.marshal.proofs.Pruned.{pruned_finalization}
use Rattle.marshal.proofs.Searching.{skip}
use Rattle.marshal.proofs.notes.Notes.finalization.Goals as goal

pub returns-then-is_pruned : goal.returns-then-is_pruned
returns-then-is_pruned g c =
    sym
    (pruned_finalization (bare g.H.Hasher.digest_of) c.args.self.now c.args.height
    (sym c.is_pruned.ensures ∙ c.if-is_pruned.true))

pub returns-in-Some : goal.returns-in-Some
returns-in-Some g c =
    let items : c.from_place-note-items.result.now
    ≡ drop c.finalization_from-from.result c.args.self.now =
    c.from_place-note-items.ensures ∙ ap (drop c.finalization_from-from.result) c.as_slice.ensures.value in
    let here =
    first_here (finalization_at (bare g.H.Hasher.digest_of) c.args.self.now c.args.height)
    c.from_place-note-items.result.now c.loop-note.note-index c.note-item.result
    c.in-Some.cert.now c.loop-note-test.true c.note-item.is (sym c.in-Some.ensures)
    c.loop-note.invariant in
    (rw items at here)
    ∙ skip (finalization_at (bare g.H.Hasher.digest_of) c.args.self.now c.args.height)
    c.finalization_from-from.result c.args.self.now c.finalization_from-from.ensures.low

pub returns : goal.returns
returns g c =
    let items : c.from_place-note-items.result.now
    ≡ drop c.finalization_from-from.result c.args.self.now =
    c.from_place-note-items.ensures ∙ ap (drop c.finalization_from-from.result) c.as_slice.ensures.value in
    let all : drop c.loop-note.note-index c.from_place-note-items.result.now ≡ [] =
    drop_all c.loop-note.note-index c.from_place-note-items.result.now c.loop-note-test.false in
    let none : None
    ≡ first_some (finalization_at (bare g.H.Hasher.digest_of) c.args.self.now c.args.height)
    c.from_place-note-items.result.now =
    rw all at c.loop-note.invariant in
    (rw items at none)
    ∙ skip (finalization_at (bare g.H.Hasher.digest_of) c.args.self.now c.args.height)
    c.finalization_from-from.result c.args.self.now c.finalization_from-from.ensures.low
