use Rattle.std.proofs.Common.{refl}
use Rattle.mailbox.proofs.mailbox.Mailbox.step_by.Goals as goal

pub returns-clause-ok : goal.returns-clause-ok
returns-clause-ok g c =
    rw (← c.self.view_is) (record {
      before = c.in-Held.kept.state;
      stored = c.in_ok-place-in-Held.ensures.turned.stored;
      after = c.enter_by.new.self.state;
      lawful = c.in_ok-place-in-Held.ensures.turned.lawful;
      copy = c.in_ok-copy.copy;
      reply = c.in_ok-place-in-Held.reply;
      equal = c.in_ok-copy.ensures;
      answer = c.in_ok-place-in-Held.ensures.turned.answer;
      added = rw (c.put.ensures.items, c.reserve.ensures.items) refl;
    })
