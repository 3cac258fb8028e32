-- What is handed out in a run is one chain.
use Rattle.std.proofs.Common.{◌≡◌, ◌∙◌, ◌+◌, ◌++◌, ◌∷◌, ◌⊎◌, ℕ, zero, suc, List, [], Option, Some, add-one, ap, flat_map, inl, inr, slice_get, subst, sym}
use Rattle.std.proofs.lemmas.Option.{same_Some}
use Rattle.cw_base.specs.declared.hash.Digest32.{Digest32}
use Rattle.cw_types.specs.Block.{Block}
use Rattle.cw_types.specs.declared.commitment.Commitment.{Commitment}
use Rattle.cw_types.specs.declared.event.Handed.{Handed}
use Rattle.cw_rules.specs.Chains.{Follow, IsChain}
use Rattle.cw_rules.specs.Reached.{In, IsReported}
use Rattle.cw_rules.specs.Report.{Entry, Report as Reported, all_entries, handed_in, report_of}
use Rattle.cw_rules.specs.Rules.{Rules, commit, digest, genesis, genesis_commitment}
use Rattle.cw_rules.specs.World.{World}
use Rattle.cw_rules.specs.declared.travel.Travel.{Travel}
use Rattle.cw_rules.proofs.Lists.{in_left, in_right}
use Rattle.cw_rules.proofs.Reports.{chain_height}
use Rattle.hail_script.specs.Scenario.{Scenario}
use Rattle.hail_world.specs.OneChain.{IsOneChain}
use Rattle.hail_world.specs.Places.{script_rules}
use Rattle.hail_world.specs.Reports.{IsReport, shown_report}
use Rattle.hail_world.specs.declared.report.Report.{Report}

-- ---- links

first_link : (r : Rules) (w : World) (links : List Block) → IsChain r w links
    → slice_get links 0 ≡ Some (genesis r)
first_link r w [] k = absurd k
first_link r w (b ∷ bs) k = ap (λ (x : Block). let o : Option Block = Some x in o) k.0

next_parent : (r : Rules) (w : World) (c : Commitment) (a : Block) (bs : List Block)
    → Follow r w c a bs → (i : ℕ) (x y : Block) → slice_get (a ∷ bs) i ≡ Some x
    → slice_get bs i ≡ Some y → y.parent ≡ digest r x
next_parent r w c a [] f i x y here next = cc
next_parent r w c a (b ∷ bs) f zero x y here next =
    ap (λ (z : Block). z.parent) (sym (same_Some b y next)) ∙ f.2
    ∙ ap (λ (z : Block). digest r z) (same_Some a x here)
next_parent r w c a (b ∷ bs) f (suc i) x y here next =
    next_parent r w (commit r b) b bs f.4 i x y here next

link_parent : (r : Rules) (w : World) (links : List Block) → IsChain r w links
    → (i : ℕ) (x y : Block) → slice_get links i ≡ Some x → slice_get links (suc i) ≡ Some y
    → y.parent ≡ digest r x
link_parent r w [] k i x y here next = absurd k
link_parent r w (b ∷ bs) k i x y here next =
    next_parent r w (genesis_commitment r) b bs k.1 i x y here next

-- ---- what entries hand out

in_entries : (e : Entry) (y : Handed) (entries : List Entry) → In e entries → In y e.handed
    → In y (flat_map (λ (z : Entry). z.handed) entries)
in_entries e y [] there out = absurd there
in_entries e y (x ∷ xs) (inl is) out =
    in_left y x.handed (flat_map (λ (z : Entry). z.handed) xs)
    (subst (λ (z : Entry). In y z.handed) is out)
in_entries e y (x ∷ xs) (inr there) out =
    in_right y x.handed (flat_map (λ (z : Entry). z.handed) xs) (in_entries e y xs there out)

-- a report that tells what the rules tell
pub is_one_chain : {H W : Type 0} (hash : List ℕ → Digest32) (s : Scenario) (report : Report H W)
    (w : World) → shown_report report ≡ report_of (script_rules hash s) s.lines w
    → IsReported (script_rules hash s) w (handed_in (script_rules hash s) s.lines) report.chain
    → IsOneChain hash report
is_one_chain hash s report w told is = record {
  begins = first_link (script_rules hash s) w report.chain is.chain;
  linked = λ h a b here next. (
    chain_height (script_rules hash s) w report.chain is.chain (h + 1) b next,
    link_parent (script_rules hash s) w report.chain is.chain h a b here
        (subst (λ n. slice_get report.chain n ≡ Some b) (add-one h) next),
  );
  handed = λ e y there out.
      let all : report.opening ++ report.steps ≡ all_entries (script_rules hash s) s.lines =
      ap (λ (t : Reported). t.opening ++ t.steps) told in
      let link =
      is.each y
      (in_entries e y (all_entries (script_rules hash s) s.lines)
      (subst (λ (es : List Entry). In e es) all there) out) in
      (link.link, link.there, link.same_digest);
}

-- the report of a text
pub report_one_chain : {H W : Type 0} (travel : Travel) (hash : List ℕ → Digest32)
    (text : List ℕ) (report : Report H W) → IsReport travel hash text report
    → IsOneChain hash report
report_one_chain travel hash text report is =
    is_one_chain hash is.script report is.run.world is.run.told is.chain
