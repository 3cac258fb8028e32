use Rattle.std.specs.Prelude.{string_bytes}
use Rattle.std.proofs.lemmas.Result.{on_ok_weaker}
use Rattle.cw_rules.specs.Step.{Member, member_notes}
use Rattle.member_session.specs.Told.{moved_from}
use Rattle.member_session.proofs.Behind.{told_behind}
use Rattle.member_session.proofs.running.tell_turn.Goals as goal

pub returns-clause-told : goal.returns-clause-told
returns-clause-told g c =
    on_ok_weaker c.put_moved.result
    (told_behind c.args.member.now c.tell.new.member
    (λ (m : Member). moved_from c.args.place c.args.committees.now (member_notes m)) _
    (string_bytes c.tell.new.out) (string_bytes c.put_moved.new.out)
    c.tell.ensures.rest c.in_ok-tell.ensures.told)
    c.put_moved.ensures
