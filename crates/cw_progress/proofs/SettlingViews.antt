-- Nobody comes further than one view on, where what is new ends no later view.
use Rattle.std.proofs.Common.{◌≡◌, ℕ, ◌+◌, ◌≤◌, true, List, None, Some, sym, ◌∙◌, ap, subst, arith}
use Rattle.std.specs.List.{AllByRecursion}
use Rattle.std.proofs.lemmas.Option.{same_Some}
use Rattle.cw_types.specs.declared.vote.Proposal.{Proposal}
use Rattle.cw_types.specs.declared.vote.Vote.{Vote}
use Rattle.cw_types.specs.declared.vote.Vote.TheVariants.{Notarize}
use Rattle.cw_rules.specs.Notes.{ended_by, view_of}
use Rattle.cw_rules.specs.Reached.{IsCluster, ReachesClear}
use Rattle.cw_rules.specs.Rules.{Rules}
use Rattle.cw_rules.specs.Step.{Member, member_notes}
use Rattle.cw_rules.specs.World.{Line, World, member_at, run}
use Rattle.cw_progress.specs.Fresh.{IsFresh}
use Rattle.cw_progress.specs.Going.{helps}
use Rattle.cw_progress.specs.Views.{OneViewOn}
use Rattle.cw_progress.proofs.Latest.{one_on}
use Rattle.cw_progress.proofs.SettlingStocked.{lines_back}
use Rattle.cw_progress.proofs.Ways.{Way}

-- new votes and certificates end no view above the top, and are for no proposal of such a view
pub record EndsLow (New : Vote → Type 0) (top : ℕ) : Type 0 where
  pub proposals : (q : Proposal) → New (Notarize q) → q.view ≤ top
  pub ends : (v : Vote) → New v → (x : ℕ) → ended_by 0 v ≡ Some x → x ≤ top

module _ (r : Rules) (none : r.epochs.span ≡ None) (payload : List ℕ) (script : List Line)
    (w : World) (cluster : IsCluster r script) (clear : ReachesClear r script w)
    (New : Vote → Type 0)
    (low : (top i : ℕ) (m : Member) → member_at w i ≡ Some m
    → ((k : ℕ) (x : Member) → member_at w k ≡ Some x → view_of (member_notes x) 0 ≤ top)
    → EndsLow New top) where
  pub near_way : (u : World) → Way r w payload New u → OneViewOn w u
  near_way u way top each i y at = go (way.back i y at)
    where
      go : ((m : Member) × (member_at w i ≡ Some m)) → view_of (member_notes y) 0 ≤ top + 1
      go (m, before) =
          let k = low top i m before each in
          let le = each i m before in
          one_on r none script w cluster clear top (omega (arith, le)) each payload New
          k.proposals k.ends u way i y at

  -- nor where all are started again then
  pub near_fresh : (u : World) → Way r w payload New u → (lines : List Line)
      → AllByRecursion (λ line. helps u payload line ≡ true) lines
      → ((k : ℕ) (y : Member) → member_at u k ≡ Some y
      → IsFresh (run r u lines) k (member_notes y))
      → OneViewOn w (run r u lines)
  near_fresh u way lines are fresh top each i y at =
      go (lines_back r u payload lines are u i y at)
    where
      go : ((z : Member) × (member_at u i ≡ Some z)) → view_of (member_notes y) 0 ≤ top + 1
      go (z, before) =
          let f = fresh i z before in
          let one : f.member ≡ y = same_Some f.member y (sym f.there ∙ at) in
          subst (λ ns. view_of ns 0 ≤ top + 1)
          (sym f.same ∙ ap (λ (q : Member). member_notes q) one)
          (near_way u way top each i z before)
