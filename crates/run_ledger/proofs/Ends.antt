-- The replicas of a run hold what the links of the heights below the first missing one leave.
use Rattle.std.proofs.Common.{◌≡◌, ◌⊎◌, inl, inr, ℕ, zero, suc, ◌+◌, ◌<◌, Bool, true, false, cond, List, [], ◌∷◌, ◌++◌, length, map, take, slice_get, flat_map, filter_map, Option, Some, None, refl, sym, ◌∙◌, ap, subst, arith, append_assoc, length-append}
use Rattle.std.specs.List.{enumerate_from}
use Rattle.cw_types.specs.Block.{Block}
use Rattle.cw_types.specs.declared.event.Handed.{Handed}
use Rattle.cw_rules.specs.Chains.{Ends, outcome}
use Rattle.cw_rules.specs.Reached.{In, IsReported}
use Rattle.cw_rules.specs.Report.{Acked, Entry, Report as Reported, acked_at, all_entries, first_line, handed_in, report_of}
use Rattle.cw_rules.specs.Rules.{Rules}
use Rattle.cw_rules.specs.Step.{Member}
use Rattle.cw_rules.specs.World.{Line, World, opening}
use Rattle.cw_rules.proofs.Lists.{in_cases, in_left, in_right}
use Rattle.node_disk.specs.Memory.{MemoryState}
use Rattle.cw_ledger.specs.Ledger.{Ledger}
use Rattle.run_ledger.specs.Giving.{given_all, replica_payloads}
use Rattle.run_ledger.specs.Ledgers.{AreLedgers, IsLedgerOf, handed_by, handed_in_entries, handed_to, is_entry_of}
use Rattle.run_ledger.proofs.Chains.{HasHeights, HasLinks, given_are}
use Rattle.cw_rules.proofs.Reports.{chain_height}
use Rattle.run_ledger.proofs.Orders.{reached_by}
use Rattle.run_ledger.proofs.Worlds.{run_in_order}

-- ---- what is handed out to a member is handed out

in_heights : (h : ℕ) (out : List Handed) → In h (map (λ x. x.height) out)
    → (y : Handed) × In y out × (y.height ≡ h)
in_heights h [] there = absurd there
in_heights h (x ∷ xs) (inl e) = (x, inl refl, sym e)
in_heights h (x ∷ xs) (inr there) = let (y, k, e) = in_heights h xs there in (y, inr k, e)

in_entries : (i h : ℕ) (entries : List Entry) → In h (handed_in_entries i entries)
    → (y : Handed) × In y (flat_map (λ e. e.handed) entries) × (y.height ≡ h)
in_entries i h [] there = absurd there
in_entries i h (e ∷ es) there =
    go (in_cases h (handed_by i e) (handed_in_entries i es) there) (in_entries i h es)
  where
    of_it : (b : Bool) → In h (cond b (map (λ (x : Handed). x.height) e.handed) [])
        → (y : Handed) × In y e.handed × (y.height ≡ h)
    of_it true k = in_heights h e.handed k
    of_it false k = absurd k

    go : In h (handed_by i e) ⊎ In h (handed_in_entries i es)
        → (In h (handed_in_entries i es)
        → (y : Handed) × In y (flat_map (λ (x : Entry). x.handed) es) × (y.height ≡ h))
        → (y : Handed) × In y (flat_map (λ (x : Entry). x.handed) (e ∷ es)) × (y.height ≡ h)
    go (inl k) later =
        let (y, at, is) = of_it (is_entry_of i e) k in
        (y, in_left y e.handed (flat_map (λ (x : Entry). x.handed) es) at, is)
    go (inr k) later =
        let (y, at, is) = later k in
        (y, in_right y e.handed (flat_map (λ (x : Entry). x.handed) es) at, is)

-- ---- one member

-- all below the next height were handed out, and it wasn't
pub record IsOrdered (heights : List ℕ) : Type 0 where
  pub low : (h : ℕ) → h < reached_by heights → In h heights
  pub out : In (reached_by heights) heights → ⊥

one_ledger : (chain : List Block) (heights : List ℕ) → HasHeights chain → HasLinks chain heights
    → IsOrdered heights → IsLedgerOf chain heights (given_all chain [] heights)
one_ledger chain heights are there ordered =
    let given = given_are chain are heights there in
    record {
      links = given.0 ∙ ap (λ n. map (λ (b : Block). b.payload) (take n chain)) (sym given.1);
      all_handed = λ h lt. ordered.low h (omega (arith, given.1));
      no_more = λ k. ordered.out (subst (λ n. In n heights) given.1 k);
    }

-- ---- all members

module _ (r : Rules) (script : List Line) (w : World) (told : Reported)
    (is : told ≡ report_of r script w) (ends : outcome r (opening r script) script ≡ Ends w)
    (chained : IsReported r w (handed_in r script) told.chain) where
  heights_are : HasHeights told.chain
  heights_are i b at = chain_height r w told.chain chained.chain i b at

  entries_are : told.opening ++ told.steps ≡ all_entries r script
  entries_are = ap (λ (t : Reported). t.opening ++ t.steps) is

  links_are : (i : ℕ) → HasLinks told.chain (handed_to told i)
  links_are i h there =
      let (y, at, same) =
      in_entries i h (all_entries r script)
      (subst (λ es. In h (handed_in_entries i es)) entries_are there) in
      let link = chained.each y at in
      (link.link, ap (slice_get told.chain) (sym same) ∙ link.there)

  ledger_of : (i : ℕ) (m : Member) → slice_get w.members i ≡ Some (Some m)
      → IsLedgerOf told.chain (handed_to told i) (replica_payloads told i)
  ledger_of i m at =
      let ordered = run_in_order r script w (first_line r) ends i m at in
      one_ledger told.chain (handed_to told i) heights_are (links_are i)
      (subst (λ es. IsOrdered (handed_in_entries i es)) (sym entries_are)
      (record { low = ordered.low; out = ordered.out }))

  -- the members that are acknowledged stand at their places
  all_of : (n : ℕ) (before members : List (Option Member)) (ledgers : List (Ledger MemoryState))
      → w.members ≡ before ++ members → length before ≡ n
      → map (λ l. l.payloads) ledgers
      ≡ map (replica_payloads told)
      (map (λ a. a.member) (filter_map acked_at (enumerate_from n members)))
      → AreLedgers told (map (λ a. a.member) (filter_map acked_at (enumerate_from n members)))
      ledgers
  all_of n before [] [] here len e = tt
  all_of n before [] (l ∷ ls) here len e = absurd (omega (arith, ap length e))
  all_of n before (None ∷ ms) ledgers here len e =
      all_of (n + 1) (before ++ None ∷ []) ms ledgers
      (here ∙ sym (append_assoc before (None ∷ []) ms))
      (omega (arith, length-append before (None ∷ []), len)) e
  all_of n before (Some m ∷ ms) [] here len e = absurd (omega (arith, ap length e))
  all_of n before (Some m ∷ ms) (l ∷ ls) here len e =
      let same : l.payloads ≡ replica_payloads told n = cc in
      let rest : map (λ (x : Ledger MemoryState). x.payloads) ls
      ≡ map (replica_payloads told)
      (map (λ (a : Acked). a.member) (filter_map acked_at (enumerate_from (n + 1) ms))) =
      cc in (
        subst (IsLedgerOf told.chain (handed_to told n)) (sym same)
            (ledger_of n m (ap (λ ms'. slice_get ms' n) here ∙ at_end before n m ms len)),
        all_of (n + 1) (before ++ Some m ∷ []) ms ls
            (here ∙ sym (append_assoc before (Some m ∷ []) ms))
            (omega (arith, length-append before (Some m ∷ []), len)) rest,
      )
    where
      at_end : (xs : List (Option Member)) (k : ℕ) (p : Member) (ys : List (Option Member))
          → length xs ≡ k → slice_get (xs ++ Some p ∷ ys) k ≡ Some (Some p)
      at_end [] zero p ys e = refl
      at_end [] (suc k) p ys e = absurd (omega arith)
      at_end (x ∷ xs) zero p ys e = absurd (omega arith)
      at_end (x ∷ xs) (suc k) p ys e = at_end xs k p ys (omega arith)

  pub all_ledgers : (ledgers : List (Ledger MemoryState))
      → map (λ l. l.payloads) ledgers ≡ map (replica_payloads told) (map (λ a. a.member) told.acked)
      → AreLedgers told (map (λ a. a.member) told.acked) ledgers
  all_ledgers ledgers e =
      let acked : told.acked ≡ filter_map acked_at (enumerate_from 0 w.members) =
      ap (λ (t : Reported). t.acked) is in
      subst (λ ms. AreLedgers told (map (λ (a : Acked). a.member) ms) ledgers) (sym acked)
      (all_of 0 [] w.members ledgers refl refl
      (e ∙ ap (λ ms. map (replica_payloads told) (map (λ (a : Acked). a.member) ms)) acked))
