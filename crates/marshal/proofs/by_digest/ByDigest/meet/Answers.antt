use Rattle.std.proofs.Common.{◌∙◌, Some, ap, is_some, sym}
use Rattle.cw_types.specs.Same.{same_digest}
use Rattle.marshal.proofs.Digesting.{digest_cmp, digests_tie, met_again, met_first, same_digest_symm}
use Rattle.marshal.proofs.Placing.{found_by, none_there, set_by}
use Rattle.std.specs.Map.{lookup}
use Rattle.marshal.proofs.by_digest.ByDigest.meet.Goals as goal

pub returns-then-contains_key-clause-ok : goal.returns-then-contains_key-clause-ok
returns-then-contains_key-clause-ok c = λ digests have at.
    let i = c.args.self.now in
    let d = c.args.digest in
    met_again digests i.first.entries i.again.entries have d c.args.place c.insert.new.self.entries
    (ap is_some (sym (found_by same_digest digest_cmp digests_tie i.first.entries d))
    ∙ (sym c.contains_key.ensures ∙ c.if-contains_key.true))
    (set_by same_digest digest_cmp digests_tie same_digest_symm d (Some c.args.place)
    i.again.entries c.insert.new.self.entries c.in_ok-insert.ensures.updates.0)
    at

pub returns-clause-ok : goal.returns-clause-ok
returns-clause-ok c = λ digests have at.
    let i = c.args.self.now in
    let d = c.args.digest in
    met_first digests i.first.entries i.again.entries have d c.args.place
    c.insert-2.new.self.entries
    (none_there (lookup (same_digest d) i.first.entries)
    (ap is_some (sym (found_by same_digest digest_cmp digests_tie i.first.entries d))
    ∙ (sym c.contains_key.ensures ∙ c.if-contains_key.false)))
    (set_by same_digest digest_cmp digests_tie same_digest_symm d (Some c.args.place)
    i.first.entries c.insert-2.new.self.entries c.in_ok-insert-2.ensures.updates.0)
    at
