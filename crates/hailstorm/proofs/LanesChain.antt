-- What is handed out in a run with lanes is one chain.
use Rattle.std.proofs.Common.{◌≡◌, ◌+◌, ◌++◌, ◌∷◌, ◌⊎◌, ℕ, Err, IfOk, List, Ok, Result, [], Some, ap, inl, inr, refl, slice_get, subst, sym}
use Rattle.cw_base.specs.declared.hash.Digest32.{Digest32}
use Rattle.cw_types.specs.Block.{Block}
use Rattle.cw_types.specs.Encoding.{block_bytes}
use Rattle.cw_types.specs.declared.event.Handed.{Handed}
use Rattle.cw_rules.specs.Reached.{In}
use Rattle.cw_rules.specs.Report.{Entry}
use Rattle.cw_rules.proofs.Lists.{in_cases, in_left, in_right}
use Rattle.hail_script.specs.Grammar.{first_event}
use Rattle.hail_world.specs.OneChain.{IsOneChain}
use Rattle.hail_world.proofs.OneChain.{is_one_chain}
use Rattle.hailstorm.specs.Lanes.{IsLanesReport, as_plain, played, renumbered, script_with}
use Rattle.hailstorm.specs.Reports.{Report}

-- an entry under another number hands out the same
in_renumbered : (n : ℕ) (e : Entry) (es : List Entry) → In e es
    → (z : Entry) × In z (renumbered n es) × (z.handed ≡ e.handed)
in_renumbered n e [] there = absurd there
in_renumbered n e (x ∷ xs) (inl is) =
    (record x { line = n }, inl refl, ap (λ (z : Entry). z.handed) (sym is))
in_renumbered n e (x ∷ xs) (inr there) =
    let (z, at, same) = in_renumbered (n + 1) e xs there in (z, inr at, same)

pub lanes_one_chain : {H : Type 0} (hash : List ℕ → Digest32) (text order : List ℕ)
    (report : Report H) → IsLanesReport hash text order report → IsOneChain hash report
lanes_one_chain {H} hash text order report is =
    record {
      begins = plain.begins;
      linked = plain.linked;
      handed = λ e y there out. go e y (in_cases e report.opening report.steps there) out;
    }
  where
    plain : IsOneChain hash (as_plain is.laned report)
    plain =
        is_one_chain hash (script_with is.laned (played is.laned order)) (as_plain is.laned report)
        is.run.world is.run.told is.chain

    steps : List Entry
    steps = renumbered (first_event is.laned.script.committees) report.steps

    go : (e : Entry) (y : Handed) → In e report.opening ⊎ In e report.steps → In y e.handed
        → (b : Block) × (slice_get report.chain y.height ≡ Some b)
        × (y.digest ≡ hash (block_bytes b))
    go e y (inl k) out = plain.handed e y (in_left e report.opening steps k) out
    go e y (inr k) out =
        let (z, at, same) =
        in_renumbered (first_event is.laned.script.committees) e report.steps k in
        plain.handed z y (in_right z report.opening steps at)
        (subst (λ (l : List Handed). In y l) (sym same) out)

-- so of the report of any run of a text with lanes
pub kept_one_chain : {H E : Type 0} (hash : List ℕ → Digest32) (text : List ℕ)
    (result : Result (List ℕ × Report H) E)
    → IfOk result (λ done. IsLanesReport hash text done.0 done.1)
    → IfOk result (λ done. IsOneChain hash done.1)
kept_one_chain hash text (Ok done) h = lanes_one_chain hash text done.0 done.1 h
kept_one_chain hash text (Err e) h = tt
