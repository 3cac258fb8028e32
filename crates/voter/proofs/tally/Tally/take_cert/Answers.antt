use Rattle.std.proofs.Common.{◌≡◌, ◌++◌, ◌∙◌, ◌∷◌, [], ℕ, List, ap, refl, subst, sym, true}
use Rattle.std.specs.List.{list_all, list_any}
use Rattle.cw_rules.specs.Accepted.{Ballot, Many, same_ballot}
use Rattle.voter.specs.Certs.{HasFirst}
use Rattle.voter.specs.Known.{Known}
use Rattle.voter.specs.Lists.{HasLists}
use Rattle.voter.specs.Signing.{HaveSigners}
use Rattle.voter.specs.Standing.{are_signers, is_formed, is_signed}
use Rattle.voter.specs.Waiting.{AreWaiting, also_came}
use Rattle.note_scans.specs.declared.key.VoteKey.{VoteKey}
use Rattle.voter.proofs.Signing.{cert_signed}
use Rattle.voter.proofs.Taking.{all_more, taken_back}
use Rattle.voter.proofs.tally.Tally.take_cert.Goals as goal

pub invariant_of-self-2 : goal.invariant_of-self-2
invariant_of-self-2 g c =
    let x = c.self.inside.committees in
    let id = c.self.inside.id in
    let notes = c.self.inside.notes in
    let ballots = c.self.inside.ballots in
    let came = c.self.inside.index.came.by_vote.entries in
    let known = c.self.inside.index.known.by_vote.entries in
    let told : List Ballot → Known =
    λ bs. record { epochs = x; id = id; notes = notes; ballots = bs; own = c.self.inside.own } in
    let more : c.push.new.self ≡ ballots ++ Many c.args.cert.now ∷ [] =
    c.in_ok-push.ensures.ok
    ∙ ap (λ (b : Ballot). ballots ++ b ∷ [])
    (c.many.ensures ∙ ap Many c.in_ok-copy.ensures) in
    record {
      countable = c.self.invariant.countable;
      formed =
          subst (λ (bs : List Ballot). list_all is_formed bs ≡ true) (sym more)
          (all_more is_formed ballots (Many c.args.cert.now) c.self.invariant.formed
          c.requires.formed);
      signed =
          subst (λ (bs : List Ballot). list_all (is_signed x) bs ≡ true) (sym more)
          (all_more (is_signed x) ballots (Many c.args.cert.now) c.self.invariant.signed
          (subst
          (λ (k : Known). are_signers k.epochs c.args.cert.now.vote c.args.cert.now.signers ≡ true)
          (sym c.self.view_is) c.requires.signed));
      signers =
          subst (λ (bs : List Ballot). HaveSigners x id notes bs came known) (sym more)
          (cert_signed x id notes ballots came known c.self.invariant.signers c.args.cert.now);
      facts = c.self.invariant.facts;
      places =
          subst (λ (bs : List Ballot). HasFirst bs c.take.new.self.first.entries) (sym more)
          (c.in_default.ensures.first ballots c.self.invariant.places c.len-len.ensures);
      listed =
          subst (λ (bs : List Ballot). HasLists bs c.take.new.self.lists.by_vote.entries) (sym more)
          (c.in_default.ensures.lists ballots c.self.invariant.listed);
      owned = c.self.invariant.owned;
      waiting =
          subst (λ (bs : List Ballot). AreWaiting (told bs) c.take_came.new.self) (sym more)
          (c.take_came.ensures (told ballots) (Many c.args.cert.now) refl refl
          c.self.invariant.facts.saying
          (c.in_ok-reserve_came.ensures.waiting (told ballots) c.self.invariant.waiting) refl
          (c.can_certify-certifies.ensures (also_came (told ballots) (Many c.args.cert.now)) refl
          (cert_signed x id notes ballots came known c.self.invariant.signers c.args.cert.now)
          c.self.invariant.facts.saying
          (c.in_default.ensures.first ballots c.self.invariant.places c.len-len.ensures)));
    }

pub invariant_of-self-in-Err : goal.invariant_of-self-in-Err
invariant_of-self-in-Err g c =
    let x = c.self.inside.committees in
    let id = c.self.inside.id in
    let notes = c.self.inside.notes in
    let ballots = c.self.inside.ballots in
    let came = c.self.inside.index.came.by_vote.entries in
    let known = c.self.inside.index.known.by_vote.entries in
    let told : List Ballot → Known =
    λ bs. record { epochs = x; id = id; notes = notes; ballots = bs; own = c.self.inside.own } in
    let back : c.truncate.new.self ≡ ballots =
    taken_back ballots c.push.new.self c.truncate.new.self c.many.result c.len-len.result
    c.in_ok-push.ensures.ok c.len-len.ensures c.truncate.ensures in
    record {
      countable = c.self.invariant.countable;
      formed =
          subst (λ (bs : List Ballot). list_all is_formed bs ≡ true) (sym back)
          c.self.invariant.formed;
      signed =
          subst (λ (bs : List Ballot). list_all (is_signed x) bs ≡ true) (sym back)
          c.self.invariant.signed;
      signers =
          subst (λ (bs : List Ballot). HaveSigners x id notes bs came known) (sym back)
          c.self.invariant.signers;
      facts = c.self.invariant.facts;
      places =
          subst (λ (bs : List Ballot). HasFirst bs c.take.new.self.first.entries) (sym back)
          (subst (λ (es : List (VoteKey × ℕ)). HasFirst ballots es) (sym c.in-Err.ensures.same)
          c.self.invariant.places);
      listed =
          subst (λ (bs : List Ballot). HasLists bs c.take.new.self.lists.by_vote.entries) (sym back)
          (c.in-Err.ensures.err ballots c.self.invariant.listed
          (ap (λ (k : Known). list_any (same_ballot (Many c.args.cert.now)) k.ballots)
          c.self.view_is
          ∙ (sym c.has_same_cert.ensures ∙ c.if-has_same_cert.false)));
      owned = c.self.invariant.owned;
      waiting =
          subst (λ (bs : List Ballot). AreWaiting (told bs) c.reserve_came.new.self) (sym back)
          (c.in_ok-reserve_came.ensures.waiting (told ballots) c.self.invariant.waiting);
    }
