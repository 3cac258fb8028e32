use Rattle.std.proofs.Common.{◌∙◌, subst, ◌++◌, ◌∷◌, [], List, if◌then◌else◌, append_assoc}
use Rattle.cw_types.specs.declared.commitment.Commitment.{Commitment}
use Rattle.cw_types.specs.declared.note.Note.{Note}
use Rattle.cw_types.specs.declared.vote.Vote.TheVariants.{Notarize}
use Rattle.cw_rules.specs.Notes.{has_block}
use Rattle.cw_rules.specs.Rules.{commit}
use Rattle.node.proofs.Noting.{noted_on}
use Rattle.node.specs.Holding.{rules_of}
use Rattle.node.specs.Noting.{HasNoted}
use Rattle.node.specs.Store.{stored_notes}
use Rattle.node.proofs.holding.Holding.write_proposal.Goals as goal

pub returns-clause-ok : goal.returns-clause-ok
returns-clause-ok g c =
    let h = c.args.self.now in
    let hash = g.H.Hasher.digest_of in
    let accepts = g.A.Application.accepts in
    let notes = stored_notes h.store in
    let place = c.args.place.now in
    let block =
    λ (m : Commitment). let l : List Note =
    if has_block notes m then [] else Note.Block m c.args.block ∷ [] in
    l in
    let verified =
    λ (m : Commitment). let l : List Note = Note.Verified place.epoch place.view m ∷ [] in
    l in
    let vote =
    λ (m : Commitment). let l : List Note =
    Note.Vote (Notarize (record {
      epoch = place.epoch;
      view = place.view;
      parent = place.parent;
      payload = m;
    }))
    ∷ [] in
    l in
    let m = c.in_ok-commitment.commitment in
    let same = c.in_ok-commitment.ensures in
    let all =
    noted_on hash accepts h c.write.new.self c.write-2.new.self (block m ++ verified m) (vote m)
    (noted_on hash accepts h c.write_block.new.self c.write.new.self (block m) (verified m)
    c.in_ok-write_block.ensures.ok c.in_ok-write.ensures.ok)
    c.in_ok-write-2.ensures.ok in
    subst (λ (l : List Note). HasNoted hash accepts l h c.write-2.new.self)
    ((λ i. (block (same i) ++ verified (same i)) ++ vote (same i))
    ∙ append_assoc (block (commit (rules_of hash accepts h) c.args.block))
    (verified (commit (rules_of hash accepts h) c.args.block))
    (vote (commit (rules_of hash accepts h) c.args.block)))
    all
