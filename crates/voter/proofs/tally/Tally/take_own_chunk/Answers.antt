use Rattle.std.proofs.Common.{Bool, List, refl, subst, sym}
use Rattle.voter.specs.Own.{HasOwn}
use Rattle.note_scans.specs.declared.key.VoteKey.{VoteKey}
use Rattle.voter.specs.declared.own.OwnChunk.{OwnChunk}
use Rattle.voter.proofs.Waits.{waits_apart}
use Rattle.voter.proofs.Taking.{taken_back}
use Rattle.voter.proofs.tally.Tally.take_own_chunk.Goals as goal

pub invariant_of-self-in-Err : goal.invariant_of-self-in-Err
invariant_of-self-in-Err g c =
    let own = c.self.inside.own in
    record {
      countable = c.self.invariant.countable;
      formed = c.self.invariant.formed;
      signed = c.self.invariant.signed;
      signers = c.self.invariant.signers;
      facts = c.self.invariant.facts;
      places = c.self.invariant.places;
      listed = c.self.invariant.listed;
      owned =
          subst (λ (os : List OwnChunk). HasOwn os c.take.new.self.by_key.entries)
          (sym
          (taken_back own c.push.new.self c.truncate.new.self _ c.len-len.result
          c.in_ok-push.ensures.ok c.len-len.ensures c.truncate.ensures))
          (subst (λ (es : List (VoteKey × Bool)). HasOwn own es) (sym c.in-Err.ensures.err)
          c.self.invariant.owned);
      waiting =
          waits_apart c.self.inside.committees c.self.inside.id c.self.inside.notes
          c.self.inside.ballots c.self.inside.own c.truncate.new.self c.self.inside.waiting
          c.self.invariant.waiting;
    }

pub invariant_of-self-in_default : goal.invariant_of-self-in_default
invariant_of-self-in_default g c =
    record {
      countable = c.self.invariant.countable;
      formed = c.self.invariant.formed;
      signed = c.self.invariant.signed;
      signers = c.self.invariant.signers;
      facts = c.self.invariant.facts;
      places = c.self.invariant.places;
      listed = c.self.invariant.listed;
      owned =
          subst (λ (os : List OwnChunk). HasOwn os c.take.new.self.by_key.entries)
          (sym c.in_ok-push.ensures.ok)
          (c.in_default.ensures.ok c.self.inside.own _ c.self.invariant.owned refl refl);
      waiting =
          waits_apart c.self.inside.committees c.self.inside.id c.self.inside.notes
          c.self.inside.ballots c.self.inside.own c.push.new.self c.self.inside.waiting
          c.self.invariant.waiting;
    }
