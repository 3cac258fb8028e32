use Rattle.std.proofs.Common.{◌≡◌, ◌∙◌, ◌||◌, ℕ, List, Some, None, ap, refl, rules, subst, sym}
use Rattle.std.specs.BTreeMap.{BTreeMap}
use Rattle.std.specs.BTreeSet.{BTreeSet}
use Rattle.std.specs.Map.{lookup}
use Rattle.std.specs.Str.{bytes_eq}
use Rattle.note_scans.specs.Keys.{key_of, same_key}
use Rattle.note_scans.specs.declared.key.VoteKey.{VoteKey}
use Rattle.note_scans.proofs.Keys.{found_key}
use Rattle.voter.proofs.InSets.{on_err}
use Rattle.voter.proofs.Listed.{Sets, Signers, has_list, list_more, listed_none, listed_there, lists_changed, more_apart, more_by}
use Rattle.voter.proofs.signer_lists.SignerLists.add.Goals as goal

pub returns-in_err-insert-clause-err : goal.returns-in_err-insert-clause-err
returns-in_err-insert-clause-err c =
    let es = c.args.self.now.by_vote.entries in
    let w = c.args.vote.now in
    let was = c.in-Some.lists.now in
    let new = (c.get_mut.follows.lender c.insert.new.self).entries in
    let at : lookup (same_key (key_of w)) es ≡ Some was =
    ap (λ (q : VoteKey). lookup (same_key q) es) (sym c.new-key.ensures)
    ∙ (sym (found_key es c.new-key.result) ∙ sym c.in-Some.ensures.value) in
    let sets : Sets (key_of w) (Some c.insert.new.self) es new =
    subst (λ (q : VoteKey). Sets q (Some c.insert.new.self) es new) c.new-key.ensures
    ((c.get_mut.follows.holds c.insert.new.self).3 (search rules)).0 in
    on_err c.from_residual-in_err-insert.result
    (lists_changed es new w c.insert.new.self (λ was l here. was) sets
    (λ l. ap (has_list l) c.in_err-insert.ensures.err ∙ listed_there es w was at l)
    (λ b l. refl))

pub returns-in-Some-clause-ok : goal.returns-in-Some-clause-ok
returns-in-Some-clause-ok c =
    let es = c.args.self.now.by_vote.entries in
    let w = c.args.vote.now in
    let k = c.args.signers.now in
    let was = c.in-Some.lists.now in
    let new = (c.get_mut.follows.lender c.insert.new.self).entries in
    let at : lookup (same_key (key_of w)) es ≡ Some was =
    ap (λ (q : VoteKey). lookup (same_key q) es) (sym c.new-key.ensures)
    ∙ (sym (found_key es c.new-key.result) ∙ sym c.in-Some.ensures.value) in
    let sets : Sets (key_of w) (Some c.insert.new.self) es new =
    subst (λ (q : VoteKey). Sets q (Some c.insert.new.self) es new) c.new-key.ensures
    ((c.get_mut.follows.holds c.insert.new.self).3 (search rules)).0 in
    lists_changed es new w c.insert.new.self (more_by k) sets
    (λ l. ap (has_list l) c.in_ok-insert.ensures.keys
    ∙ (list_more l was.keys c.in_ok-list.list
    ∙ (ap (λ (m : List ℕ). has_list l was.keys || bytes_eq l m) c.in_ok-list.ensures.items
    ∙ ap (λ b. b || bytes_eq l k) (listed_there es w was at l))))
    (more_apart k)

pub returns-clause-ok : goal.returns-clause-ok
returns-clause-ok c =
    let es = c.args.self.now.by_vote.entries in
    let w = c.args.vote.now in
    let k = c.args.signers.now in
    let new = c.insert-3.new.self.entries in
    let none : lookup (same_key (key_of w)) es ≡ None =
    ap (λ (q : VoteKey). lookup (same_key q) es) (sym c.new-key.ensures)
    ∙ (sym (found_key es c.new-key.result) ∙ sym c.in_default.ensures.value) in
    let sets : Sets (key_of w) (Some c.insert-2.new.self) es new =
    subst (λ (q : VoteKey). Sets q (Some c.insert-2.new.self) es new) c.new-key.ensures
    (subst
    (λ (m : BTreeMap VoteKey (BTreeSet Signers)). Sets c.new-key.result (Some c.insert-2.new.self)
    m.entries new)
    c.get_mut.follows.holds-at-none c.in_ok-insert-3.ensures.updates.0) in
    lists_changed es new w c.insert-2.new.self (more_by k) sets
    (λ l. ap (has_list l) c.in_ok-insert-2.ensures.keys
    ∙ (list_more l c.new-lists.result.keys c.in_ok-list.list
    ∙ (ap (λ (m : List ℕ). has_list l c.new-lists.result.keys || bytes_eq l m)
    c.in_ok-list.ensures.items
    ∙ ap (λ b. b || bytes_eq l k)
    (ap (has_list l) c.new-lists.ensures.empty ∙ sym (listed_none es w none l)))))
    (more_apart k)
