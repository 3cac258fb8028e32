-- The phases of a step, one after another.
use Rattle.std.proofs.Common.{◌≡◌, ℕ, Bool, List, ◌++◌, ◌∙◌, ap, subst, sym}
use Rattle.cw_base.specs.declared.hash.Digest32.{Digest32}
use Rattle.cw_types.specs.Block.{Block}
use Rattle.cw_types.specs.declared.event.Event.{Event}
use Rattle.cw_types.specs.declared.note.Note.{Note}
use Rattle.cw_types.specs.declared.vote.Vote.{Vote}
use Rattle.cw_rules.specs.Accepted.{State}
use Rattle.cw_rules.specs.Direct.{direct}
use Rattle.cw_rules.specs.Rules.{Rules}
use Rattle.cw_rules.specs.Step.{marks, settle, taken, taken_came, with_notes}
use Rattle.node.proofs.Noting.{noted_on, same_rules}
use Rattle.node.proofs.Resting.{event_owes, noted_owes}
use Rattle.node.specs.Acting.{HasActed, notes_of_event}
use Rattle.node.specs.Holding.{Holding, came_of, own_state, rules_of}
use Rattle.node.specs.Noting.{HasNoted, with_all_staged}
use Rattle.node.specs.Standing.{HasCome, OwesLast, OwesNoBlock}
use Rattle.node.specs.Store.{Store, stored_notes}

module _ {D A : Type 0} (hash : List ℕ → Digest32) (accepts : A → Block → Block → Bool)
    (signed : ℕ → Vote → Bool) (e : Event) where
  -- accepted, noted at once, and settled
  pub acted : (old a b c : Holding D A)
      → HasCome hash accepts (taken_came (rules_of hash accepts old) signed (came_of old) e) old a
      → HasNoted hash accepts (direct (rules_of hash accepts a) a.id (own_state a) e) a b
      → HasNoted hash accepts
      (settle (rules_of hash accepts b) b.id (marks (own_state b)) (own_state b)) b c
      → OwesNoBlock (rules_of hash accepts c) (own_state c)
      → HasActed hash accepts signed e old c
  acted old a b c come first rest rests = record {
    stands = rest.stands;
    state =
        whole.state
        ∙ (ap (λ (s : State). with_notes s notes) state
        ∙ ap
        (λ (l : List Note). with_notes
        (taken (rules_of hash accepts old) signed (own_state old) e) l)
        all);
    store =
        whole.store
        ∙ (ap (λ (t : Store). with_all_staged t notes) come.same.store
        ∙ ap (λ (l : List Note). with_all_staged old.store l) all);
    rests = rests;
  }
    where
      notes : List Note
      notes =
          direct (rules_of hash accepts a) a.id (own_state a) e
          ++ settle (rules_of hash accepts b) b.id (marks (own_state b)) (own_state b)

      whole : HasNoted hash accepts notes a c
      whole = noted_on hash accepts a b c _ _ first rest

      state : own_state a ≡ taken (rules_of hash accepts old) signed (own_state old) e
      state =
          λ i. record {
            notes = stored_notes (come.same.store i);
            came = come.taken i;
            given = (come.same.store i).given;
          }

      rules : rules_of hash accepts a ≡ rules_of hash accepts old
      rules =
          λ i. rules_of hash accepts
          (record a {
            travel = come.same.travel i;
            epochs = come.same.epochs i;
            backlog = come.same.backlog i;
            app = come.same.app i;
          })

      head : direct (rules_of hash accepts a) a.id (own_state a) e
          ≡ direct (rules_of hash accepts old) old.id
          (taken (rules_of hash accepts old) signed (own_state old) e) e
      head = λ i. direct (rules i) (come.same.id i) (state i) e

      after : own_state b
          ≡ with_notes (taken (rules_of hash accepts old) signed (own_state old) e)
          (direct (rules_of hash accepts old) old.id
          (taken (rules_of hash accepts old) signed (own_state old) e) e)
      after = first.state ∙ (λ i. with_notes (state i) (head i))

      tail : settle (rules_of hash accepts b) b.id (marks (own_state b)) (own_state b)
          ≡ settle (rules_of hash accepts old) old.id
          (marks
          (with_notes (taken (rules_of hash accepts old) signed (own_state old) e)
          (direct (rules_of hash accepts old) old.id
          (taken (rules_of hash accepts old) signed (own_state old) e) e)))
          (with_notes (taken (rules_of hash accepts old) signed (own_state old) e)
          (direct (rules_of hash accepts old) old.id
          (taken (rules_of hash accepts old) signed (own_state old) e) e))
      tail =
          let rs = same_rules hash accepts a b _ first ∙ rules in
          let ids = first.id ∙ come.same.id in
          λ i. settle (rs i) (ids i) (marks (after i)) (after i)

      all : notes ≡ notes_of_event (rules_of hash accepts old) signed e old
      all = λ i. head i ++ tail i

  -- where no block was owed, one can be owed then only under what came last
  pub owes_then : (old a b : Holding D A) (notes : List Note)
      → HasCome hash accepts (taken_came (rules_of hash accepts old) signed (came_of old) e) old a
      → HasNoted hash accepts notes a b
      → OwesNoBlock (rules_of hash accepts old) (own_state old)
      → OwesLast (rules_of hash accepts b) (own_state b)
  owes_then old a b notes come noted rests =
      let r = rules_of hash accepts old in
      let taken_state = taken r signed (own_state old) e in
      let state : own_state b ≡ with_notes taken_state notes =
      noted.state
      ∙ (λ i. with_notes (record {
        notes = stored_notes (come.same.store i);
        came = come.taken i;
        given = (come.same.store i).given;
      }) notes) in
      let rules : rules_of hash accepts b ≡ r =
      same_rules hash accepts a b notes noted
      ∙ (λ i. rules_of hash accepts
      (record a {
        travel = come.same.travel i;
        epochs = come.same.epochs i;
        backlog = come.same.backlog i;
        app = come.same.app i;
      })) in
      subst (λ (x : Rules). OwesLast x (own_state b)) (sym rules)
      (subst (λ (s : State). OwesLast r s) (sym state)
      (noted_owes r taken_state notes (event_owes r signed (own_state old) e rests)))
