use Rattle.std.proofs.Common.{◌≡◌, ◌∙◌, ◌||◌, ◌==◌, ◌<◌, ℕ, List, Some, None, ap, arith, length, refl, rules, subst, sym}
use Rattle.std.specs.BTreeMap.{BTreeMap}
use Rattle.std.specs.BTreeSet.{BTreeSet, insert_key}
use Rattle.std.specs.List.{list_any}
use Rattle.std.specs.Map.{lookup}
use Rattle.std.specs.Ordering.{is_eq, nat_cmp}
use Rattle.note_scans.specs.Keys.{key_of, same_key}
use Rattle.voter.specs.Sets.{NoneEmpty}
use Rattle.note_scans.specs.declared.key.VoteKey.{VoteKey}
use Rattle.note_scans.proofs.Keys.{found_key}
use Rattle.voter.proofs.InSets.{Sets, in_none, in_there, more_apart, more_by, none_empty, on_err, one_more, set_changed}
use Rattle.voter.proofs.signer_sets.SignerSets.add.Goals as goal

pub returns-in_err-insert-clause-err : goal.returns-in_err-insert-clause-err
returns-in_err-insert-clause-err c =
    let es = c.args.self.now.by_vote.entries in
    let w = c.args.vote.now in
    let was = c.in-Some.members.now in
    let new = (c.get_mut.follows.lender c.insert.new.self).entries in
    let at : lookup (same_key (key_of w)) es ≡ Some was =
    ap (λ (q : VoteKey). lookup (same_key q) es) (sym c.new-key.ensures)
    ∙ (sym (found_key es c.new-key.result) ∙ sym c.in-Some.ensures.value) in
    let sets : Sets (key_of w) (Some c.insert.new.self) es new =
    subst (λ (k : VoteKey). Sets k (Some c.insert.new.self) es new) c.new-key.ensures
    ((c.get_mut.follows.holds c.insert.new.self).3 (search rules)).0 in
    on_err c.from_residual.result
    (set_changed es new w c.insert.new.self (λ was i here. was) sets
    (λ i. ap (λ (ks : List ℕ). list_any (λ k. is_eq (nat_cmp i k)) ks) c.in_err-insert.ensures.err
    ∙ in_there es w was at i)
    (λ b i. refl))

pub returns-in_err-insert-clause-some : goal.returns-in_err-insert-clause-some
returns-in_err-insert-clause-some c = λ are.
    let es = c.args.self.now.by_vote.entries in
    let w = c.args.vote.now in
    let was = c.in-Some.members.now in
    let new = (c.get_mut.follows.lender c.insert.new.self).entries in
    let at : lookup (same_key (key_of w)) es ≡ Some was =
    ap (λ (q : VoteKey). lookup (same_key q) es) (sym c.new-key.ensures)
    ∙ (sym (found_key es c.new-key.result) ∙ sym c.in-Some.ensures.value) in
    let sets : Sets (key_of w) (Some c.insert.new.self) es new =
    subst (λ (k : VoteKey). Sets k (Some c.insert.new.self) es new) c.new-key.ensures
    ((c.get_mut.follows.holds c.insert.new.self).3 (search rules)).0 in
    none_empty es new w c.insert.new.self sets
    (subst (λ (ks : List ℕ). 0 < length ks) (sym c.in_err-insert.ensures.err) (are w was at)) are

pub returns-in-Some-clause-ok : goal.returns-in-Some-clause-ok
returns-in-Some-clause-ok c =
    let es = c.args.self.now.by_vote.entries in
    let w = c.args.vote.now in
    let was = c.in-Some.members.now in
    let new = (c.get_mut.follows.lender c.insert.new.self).entries in
    let at : lookup (same_key (key_of w)) es ≡ Some was =
    ap (λ (q : VoteKey). lookup (same_key q) es) (sym c.new-key.ensures)
    ∙ (sym (found_key es c.new-key.result) ∙ sym c.in-Some.ensures.value) in
    let sets : Sets (key_of w) (Some c.insert.new.self) es new =
    subst (λ (k : VoteKey). Sets k (Some c.insert.new.self) es new) c.new-key.ensures
    ((c.get_mut.follows.holds c.insert.new.self).3 (search rules)).0 in
    set_changed es new w c.insert.new.self (more_by c.args.member) sets
    (λ i. one_more was c.insert.new.self c.args.member c.in_ok-insert.ensures.updates.0 i
    ∙ ap (λ b. b || (i == c.args.member)) (in_there es w was at i))
    (more_apart c.args.member)

pub returns-in-Some-clause-some : goal.returns-in-Some-clause-some
returns-in-Some-clause-some c = λ are.
    let es = c.args.self.now.by_vote.entries in
    let w = c.args.vote.now in
    let was = c.in-Some.members.now in
    let new = (c.get_mut.follows.lender c.insert.new.self).entries in
    let at : lookup (same_key (key_of w)) es ≡ Some was =
    ap (λ (q : VoteKey). lookup (same_key q) es) (sym c.new-key.ensures)
    ∙ (sym (found_key es c.new-key.result) ∙ sym c.in-Some.ensures.value) in
    let sets : Sets (key_of w) (Some c.insert.new.self) es new =
    subst (λ (k : VoteKey). Sets k (Some c.insert.new.self) es new) c.new-key.ensures
    ((c.get_mut.follows.holds c.insert.new.self).3 (search rules)).0 in
    none_empty es new w c.insert.new.self sets
    (let some = are w was at in
    let len = c.in_ok-insert.ensures.len in
    omega arith)
    are

pub returns-in_err-insert-2-clause-some : goal.returns-in_err-insert-2-clause-some
returns-in_err-insert-2-clause-some c = λ are.
    subst (λ (m : BTreeMap VoteKey (BTreeSet ℕ)). NoneEmpty m.entries)
    (sym c.get_mut.follows.holds-at-none) are

pub returns-in_err-insert-3-clause-some : goal.returns-in_err-insert-3-clause-some
returns-in_err-insert-3-clause-some c = λ are.
    subst (λ (es : List (VoteKey × BTreeSet ℕ)). NoneEmpty es)
    (sym
    (c.in_err-insert-3.ensures.err
    ∙ ap (λ (m : BTreeMap VoteKey (BTreeSet ℕ)). m.entries) c.get_mut.follows.holds-at-none))
    are

pub returns-clause-ok : goal.returns-clause-ok
returns-clause-ok c =
    let es = c.args.self.now.by_vote.entries in
    let w = c.args.vote.now in
    let new = c.insert-3.new.self.entries in
    let none : lookup (same_key (key_of w)) es ≡ None =
    ap (λ (q : VoteKey). lookup (same_key q) es) (sym c.new-key.ensures)
    ∙ (sym (found_key es c.new-key.result) ∙ sym c.in_default.ensures.value) in
    let sets : Sets (key_of w) (Some c.insert-2.new.self) es new =
    subst (λ (k : VoteKey). Sets k (Some c.insert-2.new.self) es new) c.new-key.ensures
    (subst
    (λ (m : BTreeMap VoteKey (BTreeSet ℕ)). Sets c.new-key.result (Some c.insert-2.new.self)
    m.entries new)
    c.get_mut.follows.holds-at-none c.in_ok-insert-3.ensures.updates.0) in
    set_changed es new w c.insert-2.new.self (more_by c.args.member) sets
    (λ i. one_more c.new-members.result c.insert-2.new.self c.args.member
    c.in_ok-insert-2.ensures.updates.0 i
    ∙ ap (λ b. b || (i == c.args.member))
    (ap (λ ks. list_any (λ k. is_eq (nat_cmp i k)) ks) c.new-members.ensures.empty
    ∙ sym (in_none es w none i)))
    (more_apart c.args.member)

pub returns-clause-some : goal.returns-clause-some
returns-clause-some c = λ are.
    let es = c.args.self.now.by_vote.entries in
    let w = c.args.vote.now in
    let new = c.insert-3.new.self.entries in
    let sets : Sets (key_of w) (Some c.insert-2.new.self) es new =
    subst (λ (k : VoteKey). Sets k (Some c.insert-2.new.self) es new) c.new-key.ensures
    (subst
    (λ (m : BTreeMap VoteKey (BTreeSet ℕ)). Sets c.new-key.result (Some c.insert-2.new.self)
    m.entries new)
    c.get_mut.follows.holds-at-none c.in_ok-insert-3.ensures.updates.0) in
    none_empty es new w c.insert-2.new.self sets
    (let one =
    ap length
    (c.in_ok-insert-2.ensures.keys
    ∙ ap (λ ks. insert_key nat_cmp ks c.args.member) c.new-members.ensures.empty) in
    omega arith)
    are
