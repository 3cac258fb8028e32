use Rattle.std.proofs.Common.{◌∙◌, ◌++◌, ◌∷◌, [], List, Some, None, ap, rules, subst}
use Rattle.std.specs.BTreeMap.{BTreeMap}
use Rattle.cw_types.specs.declared.commitment.Commitment.{Commitment}
use Rattle.cw_rules.specs.Rules.{Chunk}
use Rattle.shards.proofs.IndexLemmas.{SetsCommitment, err_then, new_found, ok_then, added_there, stayed_there}
use Rattle.shards.proofs.index.add.Goals as goal

pub push-requires : goal.push-requires
push-requires c =
    new_found c.args.chunks.now.entries c.args.commitment.now c.args.chunk
    (Some c.in-Some.block.now) c.requires c.in-Some.ensures.value

pub returns-in-Some-clause-ok : goal.returns-in-Some-clause-ok
returns-in-Some-clause-ok c =
    let es = c.args.chunks.now.entries in
    ok_then c.push.result c.push.ensures.ok
    (λ more. added_there es (c.get_mut.follows.lender c.push.new.self).entries
    c.args.commitment.now c.args.chunk (Some c.in-Some.block.now) c.push.new.self
    c.in-Some.ensures.value more ((c.get_mut.follows.holds c.push.new.self).3 (search rules)).0)

pub returns-in-Some-clause-err : goal.returns-in-Some-clause-err
returns-in-Some-clause-err c =
    let es = c.args.chunks.now.entries in
    err_then c.push.result c.push.ensures.err
    (λ same. stayed_there es (c.get_mut.follows.lender c.push.new.self).entries
    c.args.commitment.now c.in-Some.block.now c.push.new.self c.in-Some.ensures.value same
    ((c.get_mut.follows.holds c.push.new.self).3 (search rules)).0)

pub returns-clause-ok : goal.returns-clause-ok
returns-clause-ok c =
    let es = c.args.chunks.now.entries in
    let d = c.args.commitment.now in
    added_there es c.insert.new.self.entries d c.args.chunk None c.push-2.new.self
    c.in_default.ensures.value
    (c.in_ok-push.ensures.ok
    ∙ ap (λ (xs : List Chunk). xs ++ c.args.chunk ∷ []) c.new-block.ensures)
    (subst
    (λ (m : BTreeMap Commitment (List Chunk)). SetsCommitment d (Some c.push-2.new.self) m.entries
    c.insert.new.self.entries)
    c.get_mut.follows.holds-at-none c.in_ok-insert.ensures.updates.0)
