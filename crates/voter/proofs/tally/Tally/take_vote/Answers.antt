use Rattle.std.proofs.Common.{◌≡◌, ◌++◌, ◌∙◌, ◌∷◌, ℕ, [], List, ap, refl, subst, sym, true}
use Rattle.std.specs.List.{list_all, list_any}
use Rattle.cw_types.specs.Epochs.{is_member}
use Rattle.cw_rules.specs.Accepted.{Ballot, Single}
use Rattle.cw_rules.specs.Owed.{is_single}
use Rattle.voter.specs.Certs.{HasFirst}
use Rattle.voter.specs.Facts.{HaveFacts}
use Rattle.voter.specs.Known.{Known}
use Rattle.voter.specs.Lists.{HasLists}
use Rattle.voter.specs.Own.{HasOwn}
use Rattle.voter.specs.Signing.{HaveSigners}
use Rattle.voter.specs.Standing.{is_formed, is_signed}
use Rattle.voter.specs.Waiting.{AreWaiting, also_came}
use Rattle.voter.specs.declared.cert_places.Certs.{Certs}
use Rattle.voter.specs.declared.facts.Facts.{Facts}
use Rattle.voter.proofs.FirstCerts.{single_first}
use Rattle.voter.proofs.Listed.{single_listed}
use Rattle.voter.specs.declared.own_keys.OwnKeys.{OwnKeys}
use Rattle.voter.proofs.Taking.{all_more, taken_back}
use Rattle.voter.proofs.tally.Tally.take_vote.Goals as goal

pub invariant_of-self-in-Err : goal.invariant_of-self-in-Err
invariant_of-self-in-Err g c =
    let x = c.self.inside.committees in
    let id = c.self.inside.id in
    let notes = c.self.inside.notes in
    let ballots = c.self.inside.ballots in
    let came = c.take_vote.new.self.came.by_vote.entries in
    let known = c.take_vote.new.self.known.by_vote.entries in
    let facts =
    subst (λ (f : Facts). HaveFacts notes f) (sym c.take_vote.ensures.facts)
    c.self.invariant.facts in
    let told : List Ballot → Known =
    λ bs. record { epochs = x; id = id; notes = notes; ballots = bs; own = c.self.inside.own } in
    let back : c.truncate.new.self ≡ ballots =
    taken_back ballots c.push.new.self c.truncate.new.self c.single.result c.len-len.result
    c.in_ok-push.ensures.ok c.len-len.ensures c.truncate.ensures in
    record {
      countable = c.self.invariant.countable;
      formed =
          subst (λ (bs : List Ballot). list_all is_formed bs ≡ true) (sym back)
          c.self.invariant.formed;
      signed =
          subst (λ (bs : List Ballot). list_all (is_signed x) bs ≡ true) (sym back)
          c.self.invariant.signed;
      signers =
          subst (λ (bs : List Ballot). HaveSigners x id notes bs came known) (sym back)
          (c.in-Err.ensures.err x id notes ballots c.self.invariant.signers
          (ap (λ (k : Known). list_any (is_single c.args.signer c.args.vote.now) k.ballots)
          c.self.view_is
          ∙ (sym c.has_voted_so.ensures.vote ∙ c.if-has_voted_so.false)));
      facts = facts;
      places =
          subst (λ (f : Certs). HasFirst c.truncate.new.self f.first.entries)
          (sym c.take_vote.ensures.certs)
          (subst
          (λ (bs : List Ballot). HasFirst bs c.self.inside.index.certs.first.entries) (sym back)
          c.self.invariant.places);
      listed =
          subst (λ (f : Certs). HasLists c.truncate.new.self f.lists.by_vote.entries)
          (sym c.take_vote.ensures.certs)
          (subst
          (λ (bs : List Ballot). HasLists bs c.self.inside.index.certs.lists.by_vote.entries)
          (sym back) c.self.invariant.listed);
      owned =
          subst (λ (o : OwnKeys). HasOwn c.self.inside.own o.by_key.entries)
          (sym c.take_vote.ensures.own) c.self.invariant.owned;
      waiting =
          subst (λ (bs : List Ballot). AreWaiting (told bs) c.reserve_came.new.self) (sym back)
          (c.in_ok-reserve_came.ensures.waiting (told ballots) c.self.invariant.waiting);
    }

pub invariant_of-self-2 : goal.invariant_of-self-2
invariant_of-self-2 g c =
    let x = c.self.inside.committees in
    let id = c.self.inside.id in
    let notes = c.self.inside.notes in
    let ballots = c.self.inside.ballots in
    let came = c.take_vote.new.self.came.by_vote.entries in
    let known = c.take_vote.new.self.known.by_vote.entries in
    let facts =
    subst (λ (f : Facts). HaveFacts notes f) (sym c.take_vote.ensures.facts)
    c.self.invariant.facts in
    let told : List Ballot → Known =
    λ bs. record { epochs = x; id = id; notes = notes; ballots = bs; own = c.self.inside.own } in
    let signers =
    c.in_default.ensures.ok x id notes ballots c.self.invariant.signers
    (c.is_member-counts.ensures
    ∙ ap (λ (e : ℕ). is_member x e c.args.signer) c.epoch.ensures) in
    let places =
    subst
    (λ (f : Certs). HasFirst (ballots ++ Single c.args.signer c.args.vote.now ∷ [])
    f.first.entries)
    (sym c.take_vote.ensures.certs)
    (single_first ballots c.args.signer c.args.vote.now c.self.inside.index.certs.first.entries
    c.self.invariant.places) in
    let more : c.push.new.self ≡ ballots ++ Single c.args.signer c.args.vote.now ∷ [] =
    c.in_ok-push.ensures.ok ∙ ap (λ (b : Ballot). ballots ++ b ∷ []) c.single.ensures in
    record {
      countable = c.self.invariant.countable;
      formed =
          subst (λ (bs : List Ballot). list_all is_formed bs ≡ true) (sym more)
          (all_more is_formed ballots (Single c.args.signer c.args.vote.now)
          c.self.invariant.formed c.requires);
      signed =
          subst (λ (bs : List Ballot). list_all (is_signed x) bs ≡ true) (sym more)
          (all_more (is_signed x) ballots (Single c.args.signer c.args.vote.now)
          c.self.invariant.signed refl);
      signers =
          subst (λ (bs : List Ballot). HaveSigners x id notes bs came known) (sym more) signers;
      facts = facts;
      places =
          subst (λ (bs : List Ballot). HasFirst bs c.take_vote.new.self.certs.first.entries)
          (sym more) places;
      listed =
          subst (λ (f : Certs). HasLists c.push.new.self f.lists.by_vote.entries)
          (sym c.take_vote.ensures.certs)
          (subst
          (λ (bs : List Ballot). HasLists bs c.self.inside.index.certs.lists.by_vote.entries)
          (sym more)
          (single_listed ballots c.args.signer c.args.vote.now
          c.self.inside.index.certs.lists.by_vote.entries c.self.invariant.listed));
      owned =
          subst (λ (o : OwnKeys). HasOwn c.self.inside.own o.by_key.entries)
          (sym c.take_vote.ensures.own) c.self.invariant.owned;
      waiting =
          subst (λ (bs : List Ballot). AreWaiting (told bs) c.take_came.new.self) (sym more)
          (c.take_came.ensures (told ballots) (Single c.args.signer c.args.vote.now) refl refl
          facts.saying
          (c.in_ok-reserve_came.ensures.waiting (told ballots) c.self.invariant.waiting) refl
          (c.can_certify-certifies.ensures
          (also_came (told ballots) (Single c.args.signer c.args.vote.now)) refl signers
          facts.saying places));
    }
