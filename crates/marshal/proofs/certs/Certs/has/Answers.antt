use Rattle.std.proofs.Common.{◌∙◌, ap, is_some}
use Rattle.std.specs.Map.{lookup}
use Rattle.note_scans.specs.Keys.{same_key}
use Rattle.note_scans.specs.declared.key.VoteKey.{VoteKey}
use Rattle.marshal.proofs.Certing.{cert_there}
use Rattle.note_scans.proofs.Keys.{key_cmp, keys_tie}
use Rattle.marshal.proofs.Placing.{found_by}
use Rattle.marshal.proofs.certs.Certs.has.Goals as goal

pub returns : goal.returns
returns c = λ notes has.
    let es = c.args.self.now.first.entries in
    c.contains_key.ensures
    ∙ (ap is_some (found_by same_key key_cmp keys_tie es c.new.result)
    ∙ (ap (λ (q : VoteKey). is_some (lookup (same_key q) es)) c.new.ensures
    ∙ cert_there c.args.vote.now es notes has))
