use Rattle.std.proofs.Common.{◌++◌, ◌∷◌, [], List, subst, sym}
use Rattle.cw_types.specs.declared.commitment.Commitment.{Commitment}
use Rattle.cw_rules.specs.Held.{pruned_height}
use Rattle.cw_rules.specs.Notes.{entered}
use Rattle.voter.specs.Facts.{HasFirstSettled}
use Rattle.note_scans.specs.declared.key.VoteKey.{VoteKey}
use Rattle.voter.proofs.Settling.{greatest_with, settled_same}
use Rattle.voter.proofs.facts.Facts.take_unsettling.Goals as goal

pub returns : goal.returns
returns c = λ notes have there none. record {
  saying = c.write.ensures.said notes have.saying there.said;
  settling =
      subst
      (λ (es : List (VoteKey × Commitment)). HasFirstSettled (notes ++ c.args.note.now ∷ []) es)
      (sym c.write.ensures.settled)
      (settled_same c.args.self.now.settled.by_key.entries notes c.args.note.now have.settling
      none);
  ending_views = c.write.ensures.ended notes have.ending_views there.ended;
  running = c.write.ensures.runs notes have.saying have.running there.run;
  entering =
      greatest_with entered c.args.self.now.epoch c.write.new.self.epoch notes c.args.note.now
      have.entering c.write.ensures.epoch;
  standing = c.write.ensures.heights notes have.standing there.standing;
  pruning =
      greatest_with pruned_height c.args.self.now.prune c.write.new.self.prune notes
      c.args.note.now have.pruning c.write.ensures.prune;
}
