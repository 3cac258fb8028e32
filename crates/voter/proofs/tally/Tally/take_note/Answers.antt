use Rattle.std.proofs.Common.{◌≡◌, ◌++◌, ◌∙◌, ◌∷◌, [], List, ap, refl, subst, sym, true}
use Rattle.std.specs.List.{list_all}
use Rattle.cw_types.specs.declared.note.Note.{Note}
use Rattle.note_scans.specs.Countable.{is_countable}
use Rattle.voter.specs.Certs.{HasFirst}
use Rattle.voter.specs.Facts.{HaveFacts}
use Rattle.voter.specs.Known.{Known, with_note}
use Rattle.voter.specs.Lists.{HasLists}
use Rattle.voter.specs.Own.{HasOwn}
use Rattle.voter.specs.Signing.{HaveSigners, counted_vote}
use Rattle.voter.specs.Waiting.{AreWaiting}
use Rattle.voter.specs.declared.cert_places.Certs.{Certs}
use Rattle.voter.specs.declared.own_keys.OwnKeys.{OwnKeys}
use Rattle.voter.proofs.Taking.{all_more, taken_back}
use Rattle.voter.proofs.tally.Tally.take_note.Goals as goal

pub invariant_of-self-in-Err : goal.invariant_of-self-in-Err
invariant_of-self-in-Err g c =
    let x = c.self.inside.committees in
    let id = c.self.inside.id in
    let notes = c.self.inside.notes in
    let ballots = c.self.inside.ballots in
    let came = c.take_note.new.self.came.by_vote.entries in
    let known = c.take_note.new.self.known.by_vote.entries in
    let places =
    subst (λ (f : Certs). HasFirst ballots f.first.entries) (sym c.take_note.ensures.certs)
    c.self.invariant.places in
    let listed =
    subst (λ (f : Certs). HasLists ballots f.lists.by_vote.entries) (sym c.take_note.ensures.certs)
    c.self.invariant.listed in
    let facts = c.take_note.new.self.facts in
    let told : List Note → Known =
    λ ns. record { epochs = x; id = id; notes = ns; ballots = ballots; own = c.self.inside.own } in
    let back : c.truncate.new.self ≡ notes =
    taken_back notes c.push.new.self c.truncate.new.self c.in_ok-copy.copy c.len-len.result
    c.in_ok-push.ensures.ok c.len-len.ensures c.truncate.ensures in
    record {
      countable =
          subst (λ (ns : List Note). list_all is_countable ns ≡ true) (sym back)
          c.self.invariant.countable;
      formed = c.self.invariant.formed;
      signed = c.self.invariant.signed;
      signers =
          subst (λ (ns : List Note). HaveSigners x id ns ballots came known) (sym back)
          (c.in-Err.ensures.err x notes ballots c.self.invariant.signers);
      facts =
          subst (λ (ns : List Note). HaveFacts ns facts) (sym back)
          (c.in-Err.ensures.refused notes c.self.invariant.facts);
      places = places;
      listed = listed;
      owned =
          subst (λ (o : OwnKeys). HasOwn c.self.inside.own o.by_key.entries)
          (sym c.take_note.ensures.own) c.self.invariant.owned;
      waiting =
          subst (λ (ns : List Note). AreWaiting (told ns) c.reserve_noted.new.self) (sym back)
          (c.in_ok-reserve_noted.ensures.waiting (told notes) c.self.invariant.waiting);
    }

pub invariant_of-self-2 : goal.invariant_of-self-2
invariant_of-self-2 g c =
    let x = c.self.inside.committees in
    let id = c.self.inside.id in
    let notes = c.self.inside.notes in
    let ballots = c.self.inside.ballots in
    let came = c.take_note.new.self.came.by_vote.entries in
    let known = c.take_note.new.self.known.by_vote.entries in
    let places =
    subst (λ (f : Certs). HasFirst ballots f.first.entries) (sym c.take_note.ensures.certs)
    c.self.invariant.places in
    let listed =
    subst (λ (f : Certs). HasLists ballots f.lists.by_vote.entries) (sym c.take_note.ensures.certs)
    c.self.invariant.listed in
    let facts = c.take_note.new.self.facts in
    let told : List Note → Known =
    λ ns. record { epochs = x; id = id; notes = ns; ballots = ballots; own = c.self.inside.own } in
    let more : c.push.new.self ≡ notes ++ c.args.note.now ∷ [] =
    c.in_ok-push.ensures.ok ∙ ap (λ (n : Note). notes ++ n ∷ []) c.in_ok-copy.ensures in
    let counted =
    c.counted_vote-counted.ensures
    ∙ sym (ap (λ (k : Known). counted_vote k.epochs k.id c.args.note.now) c.self.view_is) in
    let signers = c.in_default.ensures.ok x notes ballots c.self.invariant.signers counted in
    let have = c.in_default.ensures.facts x notes c.self.invariant.facts counted in
    record {
      countable =
          subst (λ (ns : List Note). list_all is_countable ns ≡ true) (sym more)
          (all_more is_countable notes c.args.note.now c.self.invariant.countable c.requires);
      formed = c.self.invariant.formed;
      signed = c.self.invariant.signed;
      signers =
          subst (λ (ns : List Note). HaveSigners x id ns ballots came known) (sym more)
          signers;
      facts = subst (λ (ns : List Note). HaveFacts ns facts) (sym more) have;
      places = places;
      listed = listed;
      owned =
          subst (λ (o : OwnKeys). HasOwn c.self.inside.own o.by_key.entries)
          (sym c.take_note.ensures.own) c.self.invariant.owned;
      waiting =
          subst (λ (ns : List Note). AreWaiting (told ns) c.take_note-2.new.self) (sym more)
          (c.take_note-2.ensures (told notes) refl refl have.saying
          (c.in_ok-reserve_noted.ensures.waiting (told notes) c.self.invariant.waiting)
          (c.certifies-certifies.ensures (with_note (told notes) c.args.note.now) refl signers
          have.saying places));
    }

pub invariant_of-self : goal.invariant_of-self
invariant_of-self g c =
    let told : List Note → Known =
    λ ns. record {
      epochs = c.self.inside.committees;
      id = c.self.inside.id;
      notes = ns;
      ballots = c.self.inside.ballots;
      own = c.self.inside.own;
    } in
    record {
      countable = c.self.invariant.countable;
      formed = c.self.invariant.formed;
      signed = c.self.invariant.signed;
      signers = c.self.invariant.signers;
      facts = c.self.invariant.facts;
      places = c.self.invariant.places;
      listed = c.self.invariant.listed;
      owned = c.self.invariant.owned;
      waiting = c.reserve_noted.ensures.waiting (told c.self.inside.notes) c.self.invariant.waiting;
    }

pub invariant_of-self-in_err-push : goal.invariant_of-self-in_err-push
invariant_of-self-in_err-push g c =
    let told : List Note → Known =
    λ ns. record {
      epochs = c.self.inside.committees;
      id = c.self.inside.id;
      notes = ns;
      ballots = c.self.inside.ballots;
      own = c.self.inside.own;
    } in
    let same = sym c.in_err-push.ensures.err in
    record {
      countable = subst (λ (ns : List Note). list_all is_countable ns ≡ true) same c.self.invariant.countable;
      formed = c.self.invariant.formed;
      signed = c.self.invariant.signed;
      signers =
          subst
          (λ (ns : List Note). HaveSigners c.self.inside.committees c.self.inside.id ns
          c.self.inside.ballots c.self.inside.index.came.by_vote.entries
          c.self.inside.index.known.by_vote.entries)
          same c.self.invariant.signers;
      facts = subst (λ (ns : List Note). HaveFacts ns c.self.inside.index.facts) same c.self.invariant.facts;
      places = c.self.invariant.places;
      listed = c.self.invariant.listed;
      owned = c.self.invariant.owned;
      waiting =
          subst (λ (ns : List Note). AreWaiting (told ns) c.reserve_noted.new.self) same
          (c.reserve_noted.ensures.waiting (told c.self.inside.notes) c.self.invariant.waiting);
    }
