use Rattle.std.proofs.Common.{map, sym, ◌∙◌, inr, Some, nat_le, nat_lt, ◌^◌}
use Rattle.std.proofs.lemmas.Bool.{and_parts}
use Rattle.hail_script.specs.Raw.{raw_line_of}
use Rattle.hail_script.specs.Scenario.{Scenario}
use Rattle.hail_script.proofs.Admitting.{unsized, strange}
use Rattle.hail_script.proofs.Sized.{committees}
use Rattle.hail_script.proofs.script.Script.admit_epochs.Goals as goal

pub returns-then-not-are_sized-clause-err : goal.returns-then-not-are_sized-clause-err
returns-then-not-are_sized-clause-err c =
    let s : Scenario =
    record {
      travel = c.args.travel;
      committees = record {
        total = c.args.members;
        span = Some c.args.span;
        lists = c.args.lists;
      };
      backlog = c.args.backlog;
      lines = map raw_line_of c.args.events;
    } in
    let sized = sym (rw c.as_slice.ensures at c.are_sized.ensures) ∙ c.if-not-are_sized.true in
    inr (unsized s sized)

pub returns-in-Some-clause-err : goal.returns-in-Some-clause-err
returns-in-Some-clause-err c =
    let s : Scenario =
    record {
      travel = c.args.travel;
      committees = record {
        total = c.args.members;
        span = Some c.args.span;
        lists = c.args.lists;
      };
      backlog = c.args.backlog;
      lines = map raw_line_of c.args.events;
    } in
    let sized = sym (rw c.as_slice.ensures at c.are_sized.ensures) ∙ c.if-not-are_sized.false in
    let first = sym (rw c.as_slice-2.ensures at c.first_strange.ensures) ∙ c.in-Some.is in
    inr (strange s c.in-Some.line sized first)

pub committees_of-requires-clause-committees : goal.committees_of-requires-clause-committees
committees_of-requires-clause-committees c =
    let lists = c.args.lists in
    let sized = sym (rw c.as_slice.ensures at c.are_sized.ensures) ∙ c.if-not-are_sized.false in
    let long =
    (and_parts (nat_lt c.args.members (2 ^ 16)) _
    (and_parts (nat_le 4 c.args.members) _ sized).1).1 in
    let first = sym (rw c.as_slice-2.ensures at c.first_strange.ensures) ∙ c.in_default.is in
    rw c.as_slice-3.ensures (committees c.args.members lists long c.requires.rise first)
