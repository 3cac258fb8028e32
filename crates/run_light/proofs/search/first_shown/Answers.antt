use Rattle.std.proofs.Common.{◌≡◌, ℕ, List, Some, ◌∙◌, sym, length, slice_get, refl, arith}
use Rattle.std.proofs.lemmas.Option.{slice_get_read}
use Rattle.cw_types.specs.declared.note.Note.{Note}
use Rattle.cw_rules.specs.Rules.{Rules}
use Rattle.cw_rules_coded.specs.Coded.{coded}
use Rattle.run_light.specs.Finding.{shown_by_note}
use Rattle.run_light.proofs.Searching.{found_here, found_none, found_on}
use Rattle.run_light.proofs.search.first_shown.Goals as goal

pub returns-in-Some : goal.returns-in-Some
returns-in-Some g c = λ backlog accepts.
    let r : Rules = coded g.H.Hasher.digest_of c.args.committees.now backlog accepts in
    let notes : List Note = c.args.notes.now in
    let i : ℕ = c.loop-note.note-index in
    let note : Note = c.note-item.result in
    let at : slice_get notes i ≡ Some note =
    slice_get_read notes (length notes) i note refl c.loop-note-test.true c.note-item.is in
    sym
    (found_here (shown_by_note r (g.V.Verifier.signs c.args.verifier.now) c.args.height notes) notes
    i note c.in-Some.shown at (sym (c.in_ok-shown.ensures backlog accepts) ∙ c.in-Some.is))
    ∙ c.loop-note.invariant backlog accepts

pub loop-note-preserved : goal.loop-note-preserved
loop-note-preserved g c = λ backlog accepts.
    let r : Rules = coded g.H.Hasher.digest_of c.args.committees.now backlog accepts in
    let notes : List Note = c.args.notes.now in
    let i : ℕ = c.loop-note.note-index in
    let note : Note = c.note-item.result in
    let at : slice_get notes i ≡ Some note =
    slice_get_read notes (length notes) i note refl c.loop-note-test.true c.note-item.is in
    sym
    (found_on (shown_by_note r (g.V.Verifier.signs c.args.verifier.now) c.args.height notes) notes i
    note at (sym (c.in_ok-shown.ensures backlog accepts) ∙ c.in_default.is))
    ∙ c.loop-note.invariant backlog accepts

pub returns : goal.returns
returns g c = λ backlog accepts.
    let r : Rules = coded g.H.Hasher.digest_of c.args.committees.now backlog accepts in
    let notes : List Note = c.args.notes.now in
    sym
    (found_none (shown_by_note r (g.V.Verifier.signs c.args.verifier.now) c.args.height notes) notes
    c.loop-note.note-index (omega (arith, c.loop-note-test.false)))
    ∙ c.loop-note.invariant backlog accepts
