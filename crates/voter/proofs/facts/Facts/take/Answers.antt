use Rattle.std.proofs.Common.{◌++◌, ◌∷◌, [], List, subst, sym}
use Rattle.cw_types.specs.declared.commitment.Commitment.{Commitment}
use Rattle.cw_rules.specs.Held.{pruned_height}
use Rattle.cw_rules.specs.Notes.{entered}
use Rattle.voter.specs.Facts.{HasFirstSettled}
use Rattle.note_scans.specs.declared.key.VoteKey.{VoteKey}
use Rattle.voter.proofs.Settling.{greatest_with}
use Rattle.voter.proofs.facts.Facts.take.Goals as goal

pub returns-clause-ok : goal.returns-clause-ok
returns-clause-ok c = λ notes have there. record {
  saying = c.write.ensures.said notes have.saying there.said;
  settling =
      subst
      (λ (es : List (VoteKey × Commitment)). HasFirstSettled (notes ++ c.args.note.now ∷ []) es)
      (sym c.write.ensures.settled)
      (c.in_ok-take.ensures.ok notes have.settling);
  ending_views = c.write.ensures.ended notes have.ending_views there.ended;
  running = c.write.ensures.runs notes have.saying have.running there.run;
  entering =
      greatest_with entered c.args.self.now.epoch c.write.new.self.epoch notes c.args.note.now
      have.entering c.write.ensures.epoch;
  standing = c.write.ensures.heights notes have.standing there.standing;
  pruning =
      greatest_with pruned_height c.args.self.now.prune c.write.new.self.prune notes
      c.args.note.now have.pruning c.write.ensures.prune;
}
