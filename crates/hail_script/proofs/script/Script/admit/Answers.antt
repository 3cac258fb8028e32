use Rattle.std.proofs.Common.{◌≡◌, true, map, subst, sym, ◌∙◌, inr}
use Rattle.cw_types.specs.Epochs.{Epochs, is_sound}
use Rattle.hail_script.specs.Raw.{raw_line_of}
use Rattle.hail_script.specs.Scenario.{Scenario}
use Rattle.hail_script.proofs.Admitted.{all_later}
use Rattle.hail_script.proofs.Admitting.{unknown, too_many, oversize, runs, runnable, sound_marked}
use Rattle.hail_script.proofs.script.Script.admit.Goals as goal

pub returns-in-Some-clause-err : goal.returns-in-Some-clause-err
returns-in-Some-clause-err c =
    let s : Scenario =
    record {
      travel = c.args.travel;
      committees = c.args.committees;
      backlog = c.args.backlog;
      lines = map raw_line_of c.args.events;
    } in
    let sound : is_sound s.committees ≡ true =
    subst (λ (x : Epochs). is_sound x ≡ true) c.committees.view_is c.committees.invariant in
    let few = rw c.total.ensures at c.total.type_inv in
    let first =
    sym
    (rw (c.total.ensures, c.as_slice-lines.ensures, c.requires.first) at
    c.first_unknown.ensures)
    ∙ c.in-Some.is in
    inr (unknown s c.requires.some few sound c.in-Some.line first)

pub returns-then-not-bears_all-clause-err : goal.returns-then-not-bears_all-clause-err
returns-then-not-bears_all-clause-err c =
    let s : Scenario =
    record {
      travel = c.args.travel;
      committees = c.args.committees;
      backlog = c.args.backlog;
      lines = map raw_line_of c.args.events;
    } in
    let sound : is_sound s.committees ≡ true =
    subst (λ (x : Epochs). is_sound x ≡ true) c.committees.view_is c.committees.invariant in
    let few = rw c.total.ensures at c.total.type_inv in
    let first =
    sym
    (rw (c.total.ensures, c.as_slice-lines.ensures, c.requires.first) at
    c.first_unknown.ensures)
    ∙ c.in_default.is in
    let marks =
    rw (
      c.deref.ensures.value,
      c.in_ok-faulty.ensures,
      c.total-2.ensures,
      c.as_slice-lines.ensures,
    )
    at c.bears_all.ensures in
    let bears = sym (sound_marked s sound) ∙ sym marks ∙ c.if-not-bears_all.true in
    inr (too_many s c.requires.some few sound first bears)

pub returns-in-Some-first_oversize-clause-err : goal.returns-in-Some-first_oversize-clause-err
returns-in-Some-first_oversize-clause-err c =
    let s : Scenario =
    record {
      travel = c.args.travel;
      committees = c.args.committees;
      backlog = c.args.backlog;
      lines = map raw_line_of c.args.events;
    } in
    let sound : is_sound s.committees ≡ true =
    subst (λ (x : Epochs). is_sound x ≡ true) c.committees.view_is c.committees.invariant in
    let few = rw c.total.ensures at c.total.type_inv in
    let first =
    sym
    (rw (c.total.ensures, c.as_slice-lines.ensures, c.requires.first) at
    c.first_unknown.ensures)
    ∙ c.in_default.is in
    let marks =
    rw (
      c.deref.ensures.value,
      c.in_ok-faulty.ensures,
      c.total-2.ensures,
      c.as_slice-lines.ensures,
    )
    at c.bears_all.ensures in
    let bears = sym (sound_marked s sound) ∙ sym marks ∙ c.if-not-bears_all.false in
    let long =
    sym (rw (c.as_slice-lines.ensures, c.requires.first) at c.first_oversize.ensures)
    ∙ c.in-Some-first_oversize.is in
    inr (oversize s c.requires.some few sound c.in-Some-first_oversize.line first bears long)

pub invariant_of-result : goal.invariant_of-result
invariant_of-result c =
    let s : Scenario =
    record {
      travel = c.args.travel;
      committees = c.args.committees;
      backlog = c.args.backlog;
      lines = map raw_line_of c.args.events;
    } in
    let sound : is_sound s.committees ≡ true =
    subst (λ (x : Epochs). is_sound x ≡ true) c.committees.view_is c.committees.invariant in
    let few = rw c.total.ensures at c.total.type_inv in
    let first =
    sym
    (rw (c.total.ensures, c.as_slice-lines.ensures, c.requires.first) at
    c.first_unknown.ensures)
    ∙ c.in_default.is in
    let marks =
    rw (
      c.deref.ensures.value,
      c.in_ok-faulty.ensures,
      c.total-2.ensures,
      c.as_slice-lines.ensures,
    )
    at c.bears_all.ensures in
    let bears = sym (sound_marked s sound) ∙ sym marks ∙ c.if-not-bears_all.false in
    let long =
    sym (rw (c.as_slice-lines.ensures, c.requires.first) at c.first_oversize.ensures)
    ∙ c.in_default-first_oversize.is in
    let run =
    runnable s c.requires.some few sound first bears long (all_later c.args.events) in (
      c.requires.backlog,
      c.requires.first,
      c.requires.few,
      rw c.in_ok-events.ensures run,
      rw c.in_ok-events.ensures
          (rw (c.as_slice-lines.ensures, c.total-2.ensures) at c.in_ok-faulty.ensures),
    )

pub returns-clause-ok : goal.returns-clause-ok
returns-clause-ok c =
    let s : Scenario =
    record {
      travel = c.args.travel;
      committees = c.args.committees;
      backlog = c.args.backlog;
      lines = map raw_line_of c.args.events;
    } in
    let sound : is_sound s.committees ≡ true =
    subst (λ (x : Epochs). is_sound x ≡ true) c.committees.view_is c.committees.invariant in
    let few = rw c.total.ensures at c.total.type_inv in
    let first =
    sym
    (rw (c.total.ensures, c.as_slice-lines.ensures, c.requires.first) at
    c.first_unknown.ensures)
    ∙ c.in_default.is in
    let marks =
    rw (
      c.deref.ensures.value,
      c.in_ok-faulty.ensures,
      c.total-2.ensures,
      c.as_slice-lines.ensures,
    )
    at c.bears_all.ensures in
    let bears = sym (sound_marked s sound) ∙ sym marks ∙ c.if-not-bears_all.false in
    let long =
    sym (rw (c.as_slice-lines.ensures, c.requires.first) at c.first_oversize.ensures)
    ∙ c.in_default-first_oversize.is in
    rw c.in_ok-events.ensures (runs s c.requires.some few sound first bears long)
