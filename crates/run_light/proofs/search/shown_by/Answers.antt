use Rattle.std.proofs.Common.{None, Some, ◌∙◌, ap, sym, option_and_then, option_map}
use Rattle.std.proofs.lemmas.Bool.{cond-false}
use Rattle.cw_types.specs.Votes.{finalized}
use Rattle.cw_rules.specs.Accepted.{is_valid}
use Rattle.cw_rules.specs.Rules.{Rules}
use Rattle.cw_rules_coded.specs.Coded.{coded}
use Rattle.run_light.specs.Finding.{path_to, shown_by_note}
use Rattle.run_light.proofs.Paths.{pair, shown_is}
use Rattle.run_light.proofs.search.shown_by.Goals as goal

pub returns-in-None : goal.returns-in-None
returns-in-None g c = λ backlog accepts.
    let hash = g.H.Hasher.digest_of in
    let r : Rules = coded hash c.args.committees.now backlog accepts in
    let s = c.in-Cert.cert in
    sym
    (shown_is r (g.V.Verifier.signs c.args.verifier.now) c.args.height c.args.notes.now
    c.args.note.now s c.in-Finalize.proposal c.in_ok-path_to.field-0
    c.in-Cert.is c.in-Finalize.is
    (sym (c.is_valid.ensures hash backlog accepts) ∙ c.if-not-is_valid.false)
    (c.in_ok-path_to.ensures c.args.committees.now backlog accepts)
    ∙ ap (option_map (pair s)) c.in-None.is)

pub returns-in_ok-copy-in-Some : goal.returns-in_ok-copy-in-Some
returns-in_ok-copy-in-Some g c = λ backlog accepts.
    let hash = g.H.Hasher.digest_of in
    let r : Rules = coded hash c.args.committees.now backlog accepts in
    let s = c.in-Cert.cert in
    ap (λ x. Some (pair x c.in-Some.path)) c.in_ok-copy-in-Some.ensures
    ∙ sym
    (shown_is r (g.V.Verifier.signs c.args.verifier.now) c.args.height c.args.notes.now
    c.args.note.now s c.in-Finalize.proposal c.in_ok-path_to.field-0
    c.in-Cert.is c.in-Finalize.is
    (sym (c.is_valid.ensures hash backlog accepts) ∙ c.if-not-is_valid.false)
    (c.in_ok-path_to.ensures c.args.committees.now backlog accepts)
    ∙ ap (option_map (pair s)) c.in-Some.is)

pub returns-then-not-is_valid : goal.returns-then-not-is_valid
returns-then-not-is_valid g c = λ backlog accepts.
    let hash = g.H.Hasher.digest_of in
    let r : Rules = coded hash c.args.committees.now backlog accepts in
    let signs = g.V.Verifier.signs c.args.verifier.now in
    let s = c.in-Cert.cert in
    sym
    (ap (shown_by_note r signs c.args.height c.args.notes.now) c.in-Cert.is
    ∙ cond-false (is_valid r signs s)
    (option_map (pair s)
    (option_and_then (λ p. path_to r c.args.notes.now c.args.height p.payload)
    (finalized s.vote)))
    None (sym (c.is_valid.ensures hash backlog accepts) ∙ c.if-not-is_valid.true))
