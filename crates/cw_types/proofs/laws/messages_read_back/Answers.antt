use Rattle.cw_types.proofs.MessageLaws.{message_again, message_found}
use Rattle.cw_types.proofs.laws.messages_read_back.Goals as goal

pub returns : goal.returns
returns c = record { found = message_found; again = message_again }
