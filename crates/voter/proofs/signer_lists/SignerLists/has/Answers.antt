use Rattle.std.proofs.Common.{◌≡◌, ◌∙◌, Some, None, ap, sym}
use Rattle.std.specs.Map.{lookup}
use Rattle.note_scans.specs.Keys.{key_of, same_key}
use Rattle.note_scans.specs.declared.key.VoteKey.{VoteKey}
use Rattle.note_scans.proofs.Keys.{found_key}
use Rattle.voter.proofs.Listed.{list_there, listed_none, listed_there}
use Rattle.voter.proofs.signer_lists.SignerLists.has.Goals as goal

pub returns-in-Some : goal.returns-in-Some
returns-in-Some c =
    let es = c.args.self.now.by_vote.entries in
    let w = c.args.vote.now in
    let at : lookup (same_key (key_of w)) es ≡ Some c.in-Some.lists.now =
    ap (λ (q : VoteKey). lookup (same_key q) es) (sym c.new.ensures)
    ∙ (sym (found_key es c.new.result) ∙ sym c.in-Some.ensures.value) in
    c.contains.ensures
    ∙ (list_there c.args.signers.now c.in-Some.lists.now.keys
    ∙ listed_there es w c.in-Some.lists.now at c.args.signers.now)

pub returns-in-None : goal.returns-in-None
returns-in-None c =
    let es = c.args.self.now.by_vote.entries in
    let w = c.args.vote.now in
    let none : lookup (same_key (key_of w)) es ≡ None =
    ap (λ (q : VoteKey). lookup (same_key q) es) (sym c.new.ensures)
    ∙ (sym (found_key es c.new.result) ∙ sym c.in-None.ensures.value) in
    sym (listed_none es w none c.args.signers.now)
