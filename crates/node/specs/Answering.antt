-- What a step answers after its commit.
use Rattle.std.specs.Prelude.{◌≡◌, ℕ, ◌++◌, Bool, List, drop, filter_map, length, map}
use Rattle.cw_base.specs.declared.hash.Digest32.{Digest32}
use Rattle.cw_types.specs.Block.{Block}
use Rattle.cw_types.specs.declared.event.Event.{Event}
use Rattle.cw_types.specs.declared.event.StepOut.{StepOut}
use Rattle.cw_rules.specs.Accepted.{State}
use Rattle.cw_rules.specs.Sends.{sends}
use Rattle.cw_rules.specs.Step.{deliveries, served, ticket_given, ticketed, unserved}
use Rattle.node.specs.Holding.{Holding, own_state, rules_of}
use Rattle.node.specs.Store.{stored_notes}

-- It sends by the state before, hands out and serves tickets; what it hands out and the tickets are
-- kept, and nothing else changes.
pub record HasAnswered {D A : Type 0} (hash : List ℕ → Digest32)
    (accepts : A → Block → Block → Bool) (e : Event) (was : State) (old new : Holding D A)
    (out : StepOut) : Type 0 where
  pub sent : out.sent ≡ sends (rules_of hash accepts old) old.id was (own_state old) e
      (drop (length was.notes) (stored_notes old.store))
  pub handed : out.handed ≡ deliveries (rules_of hash accepts old) (own_state old)
  pub tickets : out.tickets ≡ ticket_given old.store.tickets e
      ++ filter_map (served (rules_of hash accepts old) (stored_notes old.store))
      (ticketed old.store.tickets e).waiting
  pub left : new ≡ record old {
    store = record old.store {
      given = old.store.given
          ++ map (λ h. h.height) out.handed;
      tickets = unserved (rules_of hash accepts old)
          (stored_notes old.store) (ticketed old.store.tickets e);
    };
  }
