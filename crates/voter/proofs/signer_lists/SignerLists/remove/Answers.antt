use Rattle.std.proofs.Common.{◌≡◌, ◌∙◌, ◌&&◌, Some, None, ap, not, rules, subst, sym}
use Rattle.std.specs.BTreeMap.{BTreeMap}
use Rattle.std.specs.BTreeSet.{BTreeSet}
use Rattle.std.specs.Map.{lookup}
use Rattle.std.specs.Str.{bytes_eq}
use Rattle.note_scans.specs.Keys.{key_of, same_key}
use Rattle.note_scans.specs.declared.key.VoteKey.{VoteKey}
use Rattle.note_scans.proofs.Keys.{found_key}
use Rattle.voter.specs.Lists.{has_signers_list}
use Rattle.voter.proofs.Listed.{Sets, Signers, less_apart, less_by, less_none, list_less, listed_there, lists_changed}
use Rattle.voter.proofs.signer_lists.SignerLists.remove.Goals as goal

pub returns-in-Some : goal.returns-in-Some
returns-in-Some c =
    let es = c.args.self.now.by_vote.entries in
    let w = c.args.vote.now in
    let k = c.args.signers.now in
    let was = c.in-Some.lists.now in
    let new = (c.get_mut.follows.lender c.remove.new.self).entries in
    let at : lookup (same_key (key_of w)) es ≡ Some was =
    ap (λ (q : VoteKey). lookup (same_key q) es) (sym c.new-key.ensures)
    ∙ (sym (found_key es c.new-key.result) ∙ sym c.in-Some.ensures.value) in
    let sets : Sets (key_of w) (Some c.remove.new.self) es new =
    subst (λ (q : VoteKey). Sets q (Some c.remove.new.self) es new) c.new-key.ensures
    ((c.get_mut.follows.holds c.remove.new.self).3 (search rules)).0 in
    lists_changed es new w c.remove.new.self (less_by k) sets
    (λ l. list_less l k was.keys c.remove.new.self.keys c.remove.ensures.keys
    c.remove.ensures.updates.1
    ∙ ap (λ b. b && not (bytes_eq l k)) (listed_there es w was at l))
    (less_apart k)

pub returns-in_default : goal.returns-in_default
returns-in_default c = λ v l.
    let es = c.args.self.now.by_vote.entries in
    let w = c.args.vote.now in
    let none : lookup (same_key (key_of w)) es ≡ None =
    ap (λ (q : VoteKey). lookup (same_key q) es) (sym c.new-key.ensures)
    ∙ (sym (found_key es c.new-key.result) ∙ sym c.in_default.ensures.value) in
    ap (λ (m : BTreeMap VoteKey (BTreeSet Signers)). has_signers_list m.entries v l)
    c.get_mut.follows.holds-at-none
    ∙ less_none es w c.args.signers.now none v l
