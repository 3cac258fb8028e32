-- Notes that are written leave a node that stands for its member.
use Rattle.std.proofs.Common.{◌≡◌, ℕ, Bool, List, [], ◌∷◌, ◌++◌, refl, sym, ◌∙◌, ap, subst, append_assoc, append-nil}
use Rattle.std.specs.List.{flat_map}
use Rattle.cw_base.specs.declared.hash.Digest32.{Digest32}
use Rattle.cw_types.specs.Block.{Block}
use Rattle.cw_types.specs.declared.note.Note.{Note}
use Rattle.cw_rules.specs.Accepted.{State}
use Rattle.cw_rules.specs.Step.{with_notes}
use Rattle.voter.specs.Known.{with_note}
use Rattle.voter.specs.Standing as voter
use Rattle.marshal.proofs.Floors.{no_notes}
use Rattle.node.specs.Holding.{Holding, own_state, rules_of}
use Rattle.node.specs.Noting.{HasNoted, with_all_staged}
use Rattle.node.specs.Standing.{PartsStand}
use Rattle.node.specs.Store.{Store, with_staged}

-- more notes, and more behind them
pub notes_on : (s : State) (xs ys : List Note)
    → with_notes (with_notes s xs) ys ≡ with_notes s (xs ++ ys)
notes_on s xs ys = ap (λ (l : List Note). record s { notes = l }) (append_assoc s.notes xs ys)

pub staged_on : (t : Store) (xs ys : List Note)
    → with_all_staged (with_all_staged t xs) ys ≡ with_all_staged t (xs ++ ys)
staged_on t xs ys = ap (λ (l : List Note). record t { staged = l }) (append_assoc t.staged xs ys)

pub none_staged : (t : Store) → with_all_staged t [] ≡ t
none_staged t = ap (λ (l : List Note). record t { staged = l }) (append-nil t.staged)

module _ {D A : Type 0} (hash : List ℕ → Digest32) (accepts : A → Block → Block → Bool) where
  -- nothing is noted
  pub noted_none : (h : Holding D A) → PartsStand hash accepts h → HasNoted hash accepts [] h h
  noted_none h s =
      record {
        stands = s;
        state = sym (no_notes (own_state h));
        store = sym (none_staged h.store);
        travel = refl;
        id = refl;
        epochs = refl;
        backlog = refl;
        app = refl;
        log = refl;
      }

  -- one more note
  pub noted_one : (h new : Holding D A) (note : Note) → PartsStand hash accepts h
      → voter.IsTallyOf hash (with_note h.tally note) (rules_of hash accepts h)
      (with_notes (own_state h) (note ∷ []))
      → new ≡ record h { store = with_staged h.store note; tally = with_note h.tally note }
      → HasNoted hash accepts (note ∷ []) h new
  noted_one h new note s tally is =
      subst (λ (n : Holding D A). HasNoted hash accepts (note ∷ []) h n) (sym is) (record {
        stands = record {
          epochs = s.epochs;
          backlog = s.backlog;
          running = s.running;
          id = s.id;
          tally =
              subst
              (λ (t : State). voter.IsTallyOf hash (with_note h.tally note)
              (rules_of hash accepts h) t)
              (sym same) tally;
          shards = record { rules = s.shards.rules; rows = s.shards.rows };
          rows = s.rows;
          named = s.named;
          shown = s.shown;
        };
        state = same;
        store = refl;
        travel = refl;
        id = refl;
        epochs = refl;
        backlog = refl;
        app = refl;
        log = refl;
      })
    where
      same : own_state
          (record h { store = with_staged h.store note; tally = with_note h.tally note })
          ≡ with_notes (own_state h) (note ∷ [])
      same =
          ap (λ (l : List Note). record (own_state h) { notes = l })
          (sym
          (append_assoc (flat_map (λ (frame : List Note). frame) h.store.frames)
          h.store.staged (note ∷ [])))

  -- notes, and notes behind them
  pub noted_on : (a b c : Holding D A) (xs ys : List Note) → HasNoted hash accepts xs a b
      → HasNoted hash accepts ys b c → HasNoted hash accepts (xs ++ ys) a c
  noted_on a b c xs ys p q = record {
    stands = q.stands;
    state = q.state
        ∙ (ap (λ (s : State). with_notes s ys) p.state ∙ notes_on (own_state a) xs ys);
    store = q.store ∙ (ap (λ (t : Store). with_all_staged t ys) p.store ∙ staged_on a.store xs ys);
    travel = q.travel ∙ p.travel;
    id = q.id ∙ p.id;
    epochs = q.epochs ∙ p.epochs;
    backlog = q.backlog ∙ p.backlog;
    app = q.app ∙ p.app;
    log = q.log ∙ p.log;
  }

  -- the rules stay
  pub same_rules : (a b : Holding D A) (xs : List Note) → HasNoted hash accepts xs a b
      → rules_of hash accepts b ≡ rules_of hash accepts a
  same_rules a b xs p =
      λ i. rules_of hash accepts
      (record b {
        travel = p.travel i;
        epochs = p.epochs i;
        backlog = p.backlog i;
        app = p.app i;
      })
