-- What the program answers, from what its parts do.
use Rattle.std.proofs.Common.{◌≡◌, ℕ, List, [], ◌∷◌, ◌++◌, length, map, sym, ap, subst, ◌∙◌}
use Rattle.std.specs.List.{AllByRecursion}
use Rattle.std.proofs.lemmas.List.{length-map}
use Rattle.cw_base.specs.declared.hash.Digest32.{Digest32}
use Rattle.node_disk.specs.Memory.{MemoryState}
use Rattle.cw_ledger.specs.Ledger.{Ledger}
use Rattle.cw_rules.specs.Report.{Acked}
use Rattle.node.specs.declared.way.Chunked.{Chunked}
use Rattle.cw_rules.specs.declared.travel.Travel.TheVariants as travel
use Rattle.hail_world.specs.declared.report.Report.{Report}
use Rattle.hail_world.specs.Places.{script_rules}
use Rattle.hail_world.specs.Reports.{IsReport, shown_report}
use Rattle.run_ledger.specs.Giving.{all_replica_payloads, replica_payloads}
use Rattle.run_ledger.specs.Ledgers.{AreDone, NeverFails, reported_numbers}
use Rattle.run_ledger.specs.Text.{ledger_text}
use Rattle.run_ledger.proofs.Ends.{all_ledgers}

pub all_push : (xs ys : List (Ledger MemoryState)) (x : Ledger MemoryState)
    → AllByRecursion NeverFails xs → NeverFails x → ys ≡ xs ++ x ∷ []
    → AllByRecursion NeverFails ys
all_push xs ys x all one is = subst (AllByRecursion NeverFails) (sym is) (push xs all)
  where
    push : (xs : List (Ledger MemoryState)) → AllByRecursion NeverFails xs
        → AllByRecursion NeverFails (xs ++ x ∷ [])
    push [] all = (one, tt)
    push (y ∷ xs) all = (all.0, push xs all.1)

module _ {H : Type 0} (report : Report H Chunked) (replicas : List (Ledger MemoryState))
    (given : map (λ r. r.payloads) replicas ≡ all_replica_payloads (shown_report report)) where
  -- there is a replica for each honest member
  as_many : length report.acked ≡ length replicas
  as_many =
      sym
      (length-map (reported_numbers (shown_report report)) (replica_payloads (shown_report report))
      ∙ length-map report.acked (λ a. a.member))
      ∙ ap (λ (l : List (List (List ℕ))). length l) (sym given)
      ∙ length-map replicas (λ r. r.payloads)

  -- of these members and replicas, read as slices
  module _ (acked : List Acked) (shown : List (Ledger MemoryState))
      (members_are : acked ≡ report.acked) (replicas_are : shown ≡ replicas) where
    pub are_as_many : length acked ≡ length shown
    are_as_many =
        ap (λ (l : List Acked). length l) members_are ∙ as_many
        ∙ sym (ap (λ (l : List (Ledger MemoryState)). length l) replicas_are)

    -- these are the replicas of the run of a text, and what is due is their text
    pub is_done : (hash : List ℕ → Digest32) (text due : List ℕ)
        → IsReport travel.Chunked hash text report
        → AllByRecursion NeverFails replicas
        → due ≡ ledger_text (map (λ a. a.member) acked) (map (λ r. r.payloads) shown)
        → AreDone hash text (report, replicas) due
    is_done hash text due is works lines = record {
      report = is;
      ledgers =
          all_ledgers (script_rules hash is.script) is.script.lines is.run.world
          (shown_report report)
          is.run.told is.run.ends is.chain replicas given;
      whole = works;
      lines =
          lines
          ∙ ap
          (λ (l : List Acked). ledger_text (map (λ a. a.member) l)
          (map (λ (r : Ledger MemoryState). r.payloads) shown))
          members_are
          ∙ ap
          (λ (l : List (Ledger MemoryState)). ledger_text
          (map (λ (a : Acked). a.member) report.acked) (map (λ r. r.payloads) l))
          replicas_are;
    }
