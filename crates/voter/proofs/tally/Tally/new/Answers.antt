use Rattle.std.proofs.Common.{◌≡◌, [], List, refl, subst, sym, true}
use Rattle.std.specs.List.{list_all}
use Rattle.cw_types.specs.declared.note.Note.{Note}
use Rattle.cw_rules.specs.Accepted.{Ballot}
use Rattle.note_scans.specs.Countable.{is_countable}
use Rattle.voter.specs.Certs.{HasFirst}
use Rattle.voter.specs.Facts.{HaveFacts}
use Rattle.voter.specs.Lists.{HasLists}
use Rattle.voter.specs.Own.{HasOwn}
use Rattle.voter.specs.Signing.{HaveSigners}
use Rattle.voter.specs.Standing.{is_formed, is_signed}
use Rattle.voter.specs.Waiting.{AreWaiting}
use Rattle.voter.specs.declared.own.OwnChunk.{OwnChunk}
use Rattle.voter.proofs.tally.Tally.new.Goals as goal

pub invariant_of-result : goal.invariant_of-result
invariant_of-result g c =
    let x = c.args.committees in
    let came = c.new-4.result.came.by_vote.entries in
    let known = c.new-4.result.known.by_vote.entries in
    record {
      countable =
          subst (λ (ns : List Note). list_all is_countable ns ≡ true) (sym c.new.ensures) refl;
      formed = subst (λ (bs : List Ballot). list_all is_formed bs ≡ true) (sym c.new-2.ensures) refl;
      signed =
          subst (λ (bs : List Ballot). list_all (is_signed x) bs ≡ true) (sym c.new-2.ensures) refl;
      signers =
          subst (λ (ns : List Note). HaveSigners x c.args.id ns c.new-2.result came known)
          (sym c.new.ensures)
          (subst (λ (bs : List Ballot). HaveSigners x c.args.id [] bs came known)
          (sym c.new-2.ensures) (c.new-4.ensures.signers x c.args.id));
      facts =
          subst (λ (ns : List Note). HaveFacts ns c.new-4.result.facts) (sym c.new.ensures)
          c.new-4.ensures.facts;
      places =
          subst (λ (bs : List Ballot). HasFirst bs c.new-4.result.certs.first.entries)
          (sym c.new-2.ensures) c.new-4.ensures.certs;
      listed =
          subst (λ (bs : List Ballot). HasLists bs c.new-4.result.certs.lists.by_vote.entries)
          (sym c.new-2.ensures) c.new-4.ensures.lists;
      owned =
          subst (λ (os : List OwnChunk). HasOwn os c.new-4.result.own.by_key.entries)
          (sym c.new-3.ensures) c.new-4.ensures.own;
      waiting =
          subst
          (λ (ns : List Note). AreWaiting
          (record {
            epochs = x;
            id = c.args.id;
            notes = ns;
            ballots = c.new-2.result;
            own = c.new-3.result;
          })
          c.new-5.result)
          (sym c.new.ensures)
          (subst
          (λ (bs : List Ballot). AreWaiting
          (record {
            epochs = x;
            id = c.args.id;
            notes = [];
            ballots = bs;
            own = c.new-3.result;
          })
          c.new-5.result)
          (sym c.new-2.ensures)
          (subst
          (λ (os : List OwnChunk). AreWaiting
          (record { epochs = x; id = c.args.id; notes = []; ballots = []; own = os })
          c.new-5.result)
          (sym c.new-3.ensures) (c.new-5.ensures x c.args.id)));
    }
