use Rattle.std.proofs.Common.{sym, ◌∙◌, refl}
use Rattle.node.proofs.Owing.{owed_as}
use Rattle.node.proofs.holding.Holding.owed.Goals as goal

pub returns-in-Some-clause-value : goal.returns-in-Some-clause-value
returns-in-Some-clause-value g c =
    let h = c.args.self.now in
    let as_owed = owed_as g.H.Hasher.digest_of g.A.Application.accepts h c.requires.stands in
    let b = sym c.in_ok-note.ensures.value ∙ c.in-Some.is in
    sym (as_owed ∙ rw b refl)

pub returns-in-Some-2-clause-value : goal.returns-in-Some-2-clause-value
returns-in-Some-2-clause-value g c =
    let h = c.args.self.now in
    let as_owed = owed_as g.H.Hasher.digest_of g.A.Application.accepts h c.requires.stands in
    let b = sym c.in_ok-note.ensures.value ∙ c.in_default.is in
    let d = sym c.in_ok-note-2.ensures.value ∙ c.in-Some-2.is in
    sym (as_owed ∙ rw (b, d) refl)

pub returns-in-Some-3-clause-value : goal.returns-in-Some-3-clause-value
returns-in-Some-3-clause-value g c =
    let h = c.args.self.now in
    let as_owed = owed_as g.H.Hasher.digest_of g.A.Application.accepts h c.requires.stands in
    let b = sym c.in_ok-note.ensures.value ∙ c.in_default.is in
    let d = sym c.in_ok-note-2.ensures.value ∙ c.in_default-2.is in
    let f = sym c.in_ok-note-3.ensures.value ∙ c.in-Some-3.is in
    sym (as_owed ∙ rw (b, d, f) refl)

pub returns-clause-value : goal.returns-clause-value
returns-clause-value g c =
    let h = c.args.self.now in
    let as_owed = owed_as g.H.Hasher.digest_of g.A.Application.accepts h c.requires.stands in
    let b = sym c.in_ok-note.ensures.value ∙ c.in_default.is in
    let d = sym c.in_ok-note-2.ensures.value ∙ c.in_default-2.is in
    let f = sym c.in_ok-note-3.ensures.value ∙ c.in_default-3.is in
    c.in_ok-note-4.ensures.value ∙ sym (as_owed ∙ rw (b, d, f) refl)
