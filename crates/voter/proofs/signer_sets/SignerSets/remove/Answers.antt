use Rattle.std.proofs.Common.{◌≡◌, ◌∙◌, ◌&&◌, ◌==◌, ℕ, Some, None, ap, not, rules, subst, sym}
use Rattle.std.specs.BTreeMap.{BTreeMap}
use Rattle.std.specs.BTreeSet.{BTreeSet}
use Rattle.std.specs.Map.{lookup}
use Rattle.note_scans.specs.Keys.{key_of, same_key}
use Rattle.voter.specs.Sets.{is_in_set}
use Rattle.note_scans.specs.declared.key.VoteKey.{VoteKey}
use Rattle.note_scans.proofs.Keys.{found_key}
use Rattle.voter.proofs.InSets.{Sets, in_there, less_apart, less_by, less_none, one_less, set_changed}
use Rattle.voter.proofs.signer_sets.SignerSets.remove.Goals as goal

pub returns-in-Some : goal.returns-in-Some
returns-in-Some c =
    let es = c.args.self.now.by_vote.entries in
    let w = c.args.vote.now in
    let was = c.in-Some.members.now in
    let new = (c.get_mut.follows.lender c.remove.new.self).entries in
    let at : lookup (same_key (key_of w)) es ≡ Some was =
    ap (λ (q : VoteKey). lookup (same_key q) es) (sym c.new-key.ensures)
    ∙ (sym (found_key es c.new-key.result) ∙ sym c.in-Some.ensures.value) in
    let sets : Sets (key_of w) (Some c.remove.new.self) es new =
    subst (λ (k : VoteKey). Sets k (Some c.remove.new.self) es new) c.new-key.ensures
    ((c.get_mut.follows.holds c.remove.new.self).3 (search rules)).0 in
    set_changed es new w c.remove.new.self (less_by c.args.member) sets
    (λ i. one_less was c.remove.new.self c.args.member c.remove.ensures.updates.0 i
    ∙ ap (λ b. b && not (i == c.args.member)) (in_there es w was at i))
    (less_apart c.args.member)

pub returns-in_default : goal.returns-in_default
returns-in_default c = λ v i.
    let es = c.args.self.now.by_vote.entries in
    let w = c.args.vote.now in
    let none : lookup (same_key (key_of w)) es ≡ None =
    ap (λ (q : VoteKey). lookup (same_key q) es) (sym c.new-key.ensures)
    ∙ (sym (found_key es c.new-key.result) ∙ sym c.in_default.ensures.value) in
    ap (λ (m : BTreeMap VoteKey (BTreeSet ℕ)). is_in_set m.entries v i)
    c.get_mut.follows.holds-at-none
    ∙ less_none es w c.args.member none v i
