-- What a yes shows: the last block of the path is a link of the one chain, or two different blocks
-- have one digest.
use Rattle.std.proofs.Common.{◌≡◌, ◌≢◌, ℕ, zero, suc, ◌+◌, ◌<◌, Bool, true, false, ◌&&◌, ◌==◌, nat_le, nat_lt, cond, List, [], ◌∷◌, ◌++◌, Option, Some, None, IsTrue, slice_get, refl, sym, ◌∙◌, ap, subst, inl, inr, ◌⊎◌, arith, eqb-true, ne_eqb, leb-true, option_and_then, option_map, length, append-nil}
use Rattle.std.specs.List.{AllByRecursion, last_or, list_all}
use Rattle.std.specs.Option.{option_map_or}
use Rattle.std.proofs.lemmas.Bool.{and_parts, cases_Bool, cond-false, cond-true, eqb-false, false≢true}
use Rattle.std.proofs.lemmas.Option.{same_Some}
use Rattle.cw_base.specs.declared.hash.Digest32.{Digest32}
use Rattle.cw_types.specs.declared.commitment.Commitment.{Commitment}
use Rattle.cw_types.specs.declared.event.Handed.{Handed}
use Rattle.cw_types.specs.declared.note.Note.{Note}
use Rattle.cw_types.specs.declared.vote.Cert.{Cert}
use Rattle.cw_types.specs.declared.vote.Proposal.{Proposal}
use Rattle.cw_types.specs.declared.vote.Vote.{Vote}
use Rattle.cw_types.specs.declared.vote.Vote.TheVariants.{Finalize, Notarize, Nullify}
use Rattle.cw_types.specs.Block.{Block}
use Rattle.cw_types.specs.Epochs.{is_member, rises_from, size}
use Rattle.cw_types.specs.Numbers.{quorum}
use Rattle.cw_types.specs.Same.{same_block, same_commitment}
use Rattle.cw_types.specs.Votes.{finalized, vote_epoch, well_formed}
use Rattle.cw_rules.specs.Accepted.{first_some, is_valid}
use Rattle.cw_rules.specs.Chains.{Ends, Follow, IsChain, all_notes, block_under, chain_to, is_certified_in, link_commitment, links_to, outcome}
use Rattle.cw_rules.specs.Fits.{block_fits}
use Rattle.cw_rules.specs.Held.{noted_block_of}
use Rattle.cw_rules.specs.Keeps.{AllKeep}
use Rattle.cw_rules.specs.Reached.{In, IsChainUpTo, IsCluster, IsKnown, members_of}
use Rattle.cw_rules.specs.Report.{chain_of, handed_in, highest, report_of}
use Rattle.cw_rules.specs.Rules.{Rules, commit, digest, genesis, genesis_commitment}
use Rattle.cw_rules.specs.Stands.{AreLawful, Stands, backs_at}
use Rattle.cw_rules.specs.Step.{member_notes}
use Rattle.cw_rules.specs.World.{Line, World, opening, signed}
use Rattle.cw_rules.proofs.Blocks.{DownTo, IsOver, IsRooted, down_join, links_rooted, noted_commit, rooted_height, under_commit, first_in}
use Rattle.cw_rules.proofs.Certified.{finalized_in}
use Rattle.cw_rules.proofs.Descents.{Branch, High, Linked, branch_of, linked, one_chain}
use Rattle.cw_rules.proofs.Grows.{holds_stands, meaning_closed}
use Rattle.cw_rules.proofs.Runs.{Gave, IsClearRun, clear_reached, handed_parts, now_fronts}
use Rattle.cw_types.proofs.Same.{same_block-true, same_block_self, same_commitment-true}
use Rattle.cw_rules.proofs.Worlds.{IsWorldKept, get-map, kept_keep, kept_lawful, signed_backs}
use Rattle.cw_light.specs.Believing.{IsLinkAt}
use Rattle.cw_light.specs.Checking.{broken_at, broken_below, is_named_by, is_parent_of, light_answer, path_answer}
use Rattle.cw_light.specs.declared.check.Answer.{Answer}
use Rattle.cw_light.specs.declared.check.Answer.TheVariants.{BadSigners, Broken, EmptyPath, NotFinal, Yes}
use Rattle.cw_rules.proofs.Reports.{links_end}

-- ---- who signed a vote backs it

-- the vote of a certificate that is valid by the world's table stands
valid_stands : (r : Rules) (script : List Line) (w : World) → IsCluster r script
    → IsWorldKept r script w → (s : Cert) → is_valid r (signed w) s ≡ true
    → Stands r.epochs (members_of w) s.vote
valid_stands r script w c k s h =
    let all =
    list_all (λ i. is_member r.epochs (vote_epoch s.vote) i && signed w i s.vote) s.signers in
    let a =
    and_parts (well_formed s.vote && rises_from 0 s.signers && all)
    (nat_le (quorum (size r.epochs (vote_epoch s.vote))) (length s.signers)) h in
    let b = and_parts (well_formed s.vote && rises_from 0 s.signers) all a.0 in
    let d = and_parts (well_formed s.vote) (rises_from 0 s.signers) b.0 in
    holds_stands r.epochs (members_of w) s.vote
    (meaning_closed r (members_of w) c.rising s.vote s.signers d.1 (back s.signers b.1)
    (leb-true (quorum (size r.epochs (vote_epoch s.vote))) (length s.signers) a.1))
  where
    back : (xs : List ℕ)
        → list_all (λ i. is_member r.epochs (vote_epoch s.vote) i && signed w i s.vote) xs ≡ true
        → AllByRecursion
        (λ i. IsTrue (is_member r.epochs (vote_epoch s.vote) i)
        × IsTrue (backs_at (members_of w) s.vote i))
        xs
    back [] h = tt
    back (x ∷ xs) h =
        let p =
        and_parts (is_member r.epochs (vote_epoch s.vote) x && signed w x s.vote)
        (list_all (λ i. is_member r.epochs (vote_epoch s.vote) i && signed w i s.vote) xs)
        h in
        let q = and_parts (is_member r.epochs (vote_epoch s.vote) x) (signed w x s.vote) p.0 in
        ((q.0, signed_backs r script w c k x s.vote q.0 q.1), back xs p.1)

-- ---- what an answer tells

-- a yes: the vote is one to finalize, the certificate is valid, and the path isn't broken
pub record Told (r : Rules) (sign : ℕ → Vote → Bool) (s : Cert) (path : List Block) (height : ℕ)
    (d : Digest32) : Type 0 where
  pub proposal : Proposal
  pub is_final : s.vote ≡ Finalize proposal
  pub valid : is_valid r sign s ≡ true
  pub block : Block
  pub last : last_or None path ≡ Some block
  pub whole : broken_at r proposal.payload path ≡ None
  pub height_is : block.height ≡ height
  pub digest_is : digest r block ≡ d

final_is : (v : Vote) (p : Proposal) → finalized v ≡ Some p → v ≡ Finalize p
final_is (Finalize q) p e = let s : q ≡ p = same_Some q p e in ap Finalize s
final_is (Notarize q) p e = cc
final_is (Nullify epoch view) p e = cc

pub told : (r : Rules) (sign : ℕ → Vote → Bool) (s : Cert) (path : List Block) (height : ℕ)
    (d : Digest32)
    → light_answer r sign s path ≡ Yes height d → Told r sign s path height d
told r sign s path height d h = by_form (cases_Bool (well_formed s.vote))
  where
    by_valid : Proposal → Answer
    by_valid p = cond (is_valid r sign s) (path_answer r p.payload path) BadSigners

    of_broken : (p : Proposal) (last : Block) → s.vote ≡ Finalize p → is_valid r sign s ≡ true
        → last_or None path ≡ Some last → (o : Option ℕ) → broken_at r p.payload path ≡ o
        → option_map_or Broken o (Yes last.height (digest r last)) ≡ Yes height d
        → Told r sign s path height d
    of_broken p last f v e None b h =
        record {
          proposal = p;
          is_final = f;
          valid = v;
          block = last;
          last = e;
          whole = b;
          height_is = cc;
          digest_is = cc;
        }
    of_broken p last f v e (Some i) b h = cc

    of_last : (p : Proposal) → s.vote ≡ Finalize p → is_valid r sign s ≡ true → (o : Option Block)
        → last_or None path ≡ o
        → option_map_or
        (λ last. option_map_or Broken (broken_at r p.payload path)
        (Yes last.height (digest r last)))
        o EmptyPath
        ≡ Yes height d
        → Told r sign s path height d
    of_last p f v None e h = cc
    of_last p f v (Some last) e h = of_broken p last f v e (broken_at r p.payload path) refl h

    of_valid : (p : Proposal) → s.vote ≡ Finalize p
        → (is_valid r sign s ≡ true) ⊎ (is_valid r sign s ≡ false) → by_valid p ≡ Yes height d
        → Told r sign s path height d
    of_valid p f (inl t) h =
        of_last p f t (last_or None path) refl
        (sym (cond-true (is_valid r sign s) (path_answer r p.payload path) BadSigners t) ∙ h)
    of_valid p f (inr n) h =
        cc (cond-false (is_valid r sign s) (path_answer r p.payload path) BadSigners n)

    of_final : (o : Option Proposal) → finalized s.vote ≡ o
        → option_map_or by_valid o NotFinal ≡ Yes height d → Told r sign s path height d
    of_final None e h = cc
    of_final (Some p) e h = of_valid p (final_is s.vote p e) (cases_Bool (is_valid r sign s)) h

    by_form : (well_formed s.vote ≡ true) ⊎ (well_formed s.vote ≡ false)
        → Told r sign s path height d
    by_form (inl t) =
        of_final (finalized s.vote) refl
        (sym
        (ap (λ o. option_map_or by_valid o NotFinal)
        (cond-true (well_formed s.vote) (finalized s.vote) None t))
        ∙ h)
    by_form (inr n) =
        cc
        (ap (λ o. option_map_or by_valid o NotFinal)
        (cond-false (well_formed s.vote) (finalized s.vote) None n))

-- ---- a chain is rooted

-- what a list that follows has at its end
record Popped (r : Rules) (w : World) (c : Commitment) (a : Block) (front : List Block)
    (x b : Block) : Type 0 where
  follow : Follow r w c a front
  high : 0 < x.height
  height : b.height ≡ x.height + 1
  named : b.context.parent ≡ commit r x
  digests : b.parent ≡ digest r x
  certified : IsTrue (is_certified_in w (commit r b))

follow_pop : (r : Rules) (w : World) (c : Commitment) (a : Block) (ys : List Block) (x b : Block)
    → Follow r w c a ((ys ++ x ∷ []) ++ b ∷ []) → Popped r w c a (ys ++ x ∷ []) x b
follow_pop r w c a [] x b f =
    record {
      follow = (f.0, f.1, f.2, f.3, tt);
      high = omega (arith, f.0);
      height = f.4.0;
      named = f.4.1;
      digests = f.4.2;
      certified = f.4.3;
    }
follow_pop r w c a (y ∷ ys) x b f =
    let p = follow_pop r w (commit r y) y ys x b f.4 in
    record {
      follow = (f.0, f.1, f.2, f.3, p.follow);
      high = p.high;
      height = p.height;
      named = p.named;
      digests = p.digests;
      certified = p.certified;
    }

-- the block of a chain that ends in it, as high as it is long, is rooted
chain_root : (r : Rules) (w : World) (n : ℕ) (b : Block) → b.height ≡ n
    → IsChain r w (links_to r w n b) → IsRooted r w n b
chain_root r w zero b e k = k.0
chain_root r w (suc n) b e k = go (block_under r w b.context.parent) refl k (chain_root r w n)
  where
    -- the front of a chain is a chain, and its last block lies below
    below : (x : Block) → block_under r w b.context.parent ≡ Some x → (ys : List Block)
        → links_to r w n x ≡ ys ++ x ∷ [] → IsChain r w ((ys ++ x ∷ []) ++ b ∷ [])
        → IsChain r w (ys ++ x ∷ []) × IsOver r w b x
    below x u [] s k =
        let low : x.height ≡ 0 = ap (λ (y : Block). y.height) k.0 in
        let named : b.context.parent ≡ link_commitment r x =
        k.1.1 ∙ sym (ap (λ n. cond (n == 0) (genesis_commitment r) (commit r x)) low) in (
          (k.0, tt),
          record {
            under = u;
            height = k.1.0;
            named = named;
            digests = k.1.2;
            certified = k.1.3;
          },
        )
    below x u (y ∷ ys) s k =
        let p = follow_pop r w (genesis_commitment r) y ys x b k.1 in
        let named : b.context.parent ≡ link_commitment r x =
        p.named
        ∙ sym
        (cond-false (x.height == 0) (genesis_commitment r) (commit r x)
        (ne_eqb x.height 0 (λ z. omega (arith, p.high)))) in (
          (k.0, p.follow),
          record {
            under = u;
            height = p.height;
            named = named;
            digests = p.digests;
            certified = p.certified;
          },
        )

    go : (o : Option Block) → block_under r w b.context.parent ≡ o
        → IsChain r w (option_map_or (links_to r w n) o [] ++ b ∷ [])
        → ((x : Block) → x.height ≡ n → IsChain r w (links_to r w n x) → IsRooted r w n x)
        → IsRooted r w (suc n) b
    go None u k later = absurd (omega (arith, ap (λ (y : Block). y.height) k.0))
    go (Some x) u k later =
        let (ys, s) = links_end r w n x in
        let (front, over) = below x u ys s (subst (λ xs. IsChain r w (xs ++ b ∷ [])) s k) in
        (x, over, later x (omega (arith, over.height)) (subst (IsChain r w) (sym s) front))

-- ---- known blocks

-- the block under a commitment is known
pub known_under : (r : Rules) (w : World) (c : Commitment) (b : Block) → block_under r w c ≡ Some b
    → IsKnown r w b
known_under r w c b h = go (cases_Bool (same_commitment c (genesis_commitment r)))
  where
    found : Option Block
    found = first_some (noted_block_of c) (all_notes w)

    go : (same_commitment c (genesis_commitment r) ≡ true)
        ⊎ (same_commitment c (genesis_commitment r) ≡ false)
        → IsKnown r w b
    go (inl t) =
        inl
        (sym
        (same_Some (genesis r) b
        (sym
        (cond-true (same_commitment c (genesis_commitment r)) (Some (genesis r))
        found t)
        ∙ h)))
    go (inr f) =
        inr (
          c,
          first_in c (all_notes w) b
              (sym
              (cond-false (same_commitment c (genesis_commitment r)) (Some (genesis r))
              found f)
              ∙ h),
        )

get_push : {X : Type 0} (xs : List X) (y : X) (i : ℕ) (z : X) → slice_get (xs ++ y ∷ []) i ≡ Some z
    → (slice_get xs i ≡ Some z) ⊎ (y ≡ z)
get_push [] y zero z h = inr (same_Some y z h)
get_push [] y (suc i) z h = cc
get_push (x ∷ xs) y zero z h = inl h
get_push (x ∷ xs) y (suc i) z h = get_push xs y i z h

-- each link is the block under some commitment
link_known : (r : Rules) (w : World) (n : ℕ) (c : Commitment) (b : Block)
    → block_under r w c ≡ Some b → (i : ℕ) (x : Block) → slice_get (links_to r w n b) i ≡ Some x
    → IsKnown r w x
link_known r w zero c b u zero x h = subst (IsKnown r w) (same_Some b x h) (known_under r w c b u)
link_known r w zero c b u (suc i) x h = cc
link_known r w (suc n) c b u i x h =
    go (block_under r w b.context.parent) refl
    (get_push (option_map_or (links_to r w n) (block_under r w b.context.parent) []) b i x h)
    (link_known r w n b.context.parent)
  where
    go : (o : Option Block) → block_under r w b.context.parent ≡ o
        → (slice_get (option_map_or (links_to r w n) (block_under r w b.context.parent) []) i
        ≡ Some x)
        ⊎ (b ≡ x)
        → ((a : Block) → block_under r w b.context.parent ≡ Some a → (j : ℕ) (y : Block)
        → slice_get (links_to r w n a) j ≡ Some y → IsKnown r w y)
        → IsKnown r w x
    go o e (inr s) later = subst (IsKnown r w) s (known_under r w c b u)
    go None e (inl g) later = cc (ap (λ o. slice_get (option_map_or (links_to r w n) o []) i) e)
    go (Some a) e (inl g) later =
        later a e i x (sym (ap (λ o. slice_get (option_map_or (links_to r w n) o []) i) e) ∙ g)

highest_there : (xs : List Handed) (x : Handed) → highest xs ≡ Some x → In x xs
highest_there [] x h = cc
highest_there (y ∷ ys) x h = go (highest ys) refl (highest_there ys)
  where
    go : (o : Option Handed) → highest ys ≡ o → ((z : Handed) → highest ys ≡ Some z → In z ys)
        → In x (y ∷ ys)
    go None e later =
        inl
        (sym
        (same_Some y x
        (sym
        (ap
        (λ o. Some
        (option_map_or (λ (z : Handed). cond (nat_lt y.height z.height) z y)
        o y))
        e)
        ∙ h)))
    go (Some z) e later =
        by_height (cases_Bool (nat_lt y.height z.height))
        (same_Some (cond (nat_lt y.height z.height) z y) x
        (sym
        (ap
        (λ o. Some
        (option_map_or (λ (z : Handed). cond (nat_lt y.height z.height) z y) o
        y))
        e)
        ∙ h))
      where
        by_height : (nat_lt y.height z.height ≡ true) ⊎ (nat_lt y.height z.height ≡ false)
            → cond (nat_lt y.height z.height) z y ≡ x → In x (y ∷ ys)
        by_height (inl t) s =
            inr
            (subst (λ (k : Handed). In k ys)
            (sym (cond-true (nat_lt y.height z.height) z y t) ∙ s) (later z e))
        by_height (inr f) s = inl (sym (sym (cond-false (nat_lt y.height z.height) z y f) ∙ s))

-- ---- the way down

-- a block of the path, and another of its digest that an honest member noted
pub record AreTwo (r : Rules) (w : World) (path : List Block) : Type 0 where
  pub shown : Block
  pub in_path : In shown path
  pub noted : Block
  pub under : Commitment
  pub is_noted : In (Note.Block under noted) (all_notes w)
  pub different : shown ≢ noted
  pub one_digest : digest r shown ≡ digest r noted

module _ (r : Rules) (script : List Line) (w : World) (c : IsCluster r script)
    (ends : outcome r (opening r script) script ≡ Ends w) where
  k : IsClearRun r script w (handed_in r script)
  k =
      subst (IsClearRun r script w) (sym (handed_parts r script))
      (clear_reached r script script [] w c (sym (append-nil script)) ends)

  abbrev keep : AllKeep r (members_of w)
  keep = kept_keep r script w k.kept

  abbrev lawful : AreLawful r.epochs (block_fits r) (members_of w)
  lawful = kept_lawful r script w c k.kept

  -- where a handed block lies
  abbrev Lies : Handed → Type 0
  Lies y =
      Branch r w c.spans keep k.clear (members_of w) lawful keep (now_fronts w) k.anchored
      y

  all_lie : (y : Handed) → In y (handed_in r script) → Lies y
  all_lie y i = by_gave (k.gave y i)
    where
      by_gave : Gave r w y → Lies y
      by_gave g =
          branch_of r w c.spans keep k.clear (members_of w) lawful keep (now_fronts w)
          k.anchored g.place (member_notes g.member) g.before g.rest
          (get-map (option_map member_notes) w.members g.place (Some g.member) g.at) g.joined y
          g.gave.block g.gave.high g.gave.holds g.gave.same

  chain_on : (handed : List Handed) → ((y : Handed) → In y handed → Lies y) → (z : Handed)
      → In z handed → IsChainUpTo r w handed z
  chain_on handed all z at =
      one_chain r w c.spans keep k.clear (members_of w) lawful keep (now_fronts w)
      k.anchored handed all z at

  module _ (p : Proposal) (stands : Stands r.epochs (members_of w) (Finalize p)) where
    at_top : Linked r w c.spans keep k.clear (members_of w) lawful keep (now_fronts w)
        k.anchored p
    at_top =
        linked r w c.spans keep k.clear (members_of w) lawful keep (now_fronts w)
        k.anchored p (finalized_in r c.spans (members_of w) lawful keep p stands)

    abbrev top : Block
    top = at_top.block

    -- a block on the way down from what is finalized
    record OnWay (b : Block) : Type 0 where
      named : Commitment
      under : block_under r w named ≡ Some b
      rooted : IsRooted r w b.height b
      steps : ℕ
      down : DownTo r w steps top b

    -- it, as if it were handed out
    abbrev as_handed : (b : Block) → OnWay b → Handed
    as_handed b s = record { height = b.height; commitment = s.named; digest = digest r b }

    lies : (b : Block) (s : OnWay b) → 0 < b.height → Lies (as_handed b s)
    lies b s pos = High pos p stands top b at_top.under s.steps s.down s.under refl refl

    top_on : OnWay top
    top_on =
        record {
          named = p.payload;
          under = at_top.under;
          rooted = chain_root r w top.height top refl chain;
          steps = 0;
          down = refl;
        }
      where
        y : Handed
        y = record { height = top.height; commitment = p.payload; digest = digest r top }

        lone : (z : Handed) → In z (y ∷ []) → Lies z
        lone z (inl e) =
            subst Lies (sym e)
            (High at_top.positive p stands top top at_top.under 0 refl at_top.under refl refl)
        lone z (inr e) = absurd e

        one : IsChainUpTo r w (y ∷ []) y
        one = chain_on (y ∷ []) lone y (inl refl)

        chain : IsChain r w (chain_to r w top)
        chain =
            subst (λ b. IsChain r w (chain_to r w b))
            (same_Some one.block top (sym one.under ∙ at_top.under)) one.chain

    -- a block of the path is the noted block of its digest, or another
    same_or : (path : List Block) (a x : Block) (under : Commitment) → In a path
        → In (Note.Block under x) (all_notes w) → digest r a ≡ digest r x
        → (a ≡ x) ⊎ AreTwo r w path
    same_or path a x under i noted e = go (cases_Bool (same_block a x))
      where
        go : (same_block a x ≡ true) ⊎ (same_block a x ≡ false) → (a ≡ x) ⊎ AreTwo r w path
        go (inl t) = inl (same_block-true a x t)
        go (inr f) =
            inr (record {
              shown = a;
              in_path = i;
              noted = x;
              under = under;
              is_noted = noted;
              different = λ s. false≢true (sym f ∙ (ap (same_block a) (sym s) ∙ same_block_self a));
              one_digest = e;
            })

    -- the block that the payload names is the finalized one
    first_down : (path : List Block) (b : Block) → In b path → is_named_by r p.payload b ≡ true
        → OnWay b ⊎ AreTwo r w path
    first_down path b i h = go (cases_Bool (same_commitment p.payload (genesis_commitment r)))
      where
        by_same : (b ≡ top) ⊎ AreTwo r w path → OnWay b ⊎ AreTwo r w path
        by_same (inl e) = inl (subst OnWay (sym e) top_on)
        by_same (inr x) = inr x

        go : (same_commitment p.payload (genesis_commitment r) ≡ true)
            ⊎ (same_commitment p.payload (genesis_commitment r) ≡ false)
            → OnWay b ⊎ AreTwo r w path
        go (inl t) =
            let e : genesis r ≡ top =
            same_Some (genesis r) top
            (sym
            (cond-true (same_commitment p.payload (genesis_commitment r))
            (Some (genesis r)) (first_some (noted_block_of p.payload) (all_notes w))
            t)
            ∙ at_top.under) in
            absurd (omega (arith, ap (λ (y : Block). y.height) e, at_top.positive))
        go (inr f) =
            let e : commit r b ≡ p.payload =
            same_commitment-true (commit r b) p.payload
            (sym
            (cond-false (same_commitment p.payload (genesis_commitment r))
            (same_block b (genesis r)) (same_commitment (commit r b) p.payload) f)
            ∙ h) in
            let noted : In (Note.Block p.payload top) (all_notes w) =
            first_in p.payload (all_notes w) top
            (sym
            (cond-false (same_commitment p.payload (genesis_commitment r))
            (Some (genesis r)) (first_some (noted_block_of p.payload) (all_notes w))
            f)
            ∙ at_top.under) in
            let g =
            under_commit r w keep k.clear p.payload top at_top.under at_top.positive in
            by_same
            (same_or path b top p.payload i noted
            (ap (λ (y : Commitment). y.block) (e ∙ sym g)))

    -- so is each parent that a block names
    step_down : (path : List Block) (b a : Block) → In a path → is_parent_of r b a ≡ true → OnWay b
        → OnWay a ⊎ AreTwo r w path
    step_down path b a i t s =
        let q = and_parts (is_named_by r b.context.parent a) (a.height + 1 == b.height) t in
        let up : b.height ≡ suc a.height = omega (arith, eqb-true (a.height + 1) b.height q.1) in
        by_parent q.0 (subst (λ n. IsRooted r w n b) up s.rooted)
        (cases_Bool (same_commitment b.context.parent (genesis_commitment r)))
      where
        parent_on : (x : Block) → IsOver r w b x → IsRooted r w a.height x → OnWay x
        parent_on x o root =
            record {
              named = b.context.parent;
              under = o.under;
              rooted = subst (λ n. IsRooted r w n x) (sym (rooted_height r w a.height x root)) root;
              steps = s.steps + 1;
              down = down_join r w s.steps 1 top b x s.down (x, o.under, o.height, refl);
            }

        by_same : (x : Block) → OnWay x → (a ≡ x) ⊎ AreTwo r w path → OnWay a ⊎ AreTwo r w path
        by_same x on (inl e) = inl (subst OnWay (sym e) on)
        by_same x on (inr y) = inr y

        by_parent : is_named_by r b.context.parent a ≡ true → IsRooted r w (suc a.height) b
            → (same_commitment b.context.parent (genesis_commitment r) ≡ true)
            ⊎ (same_commitment b.context.parent (genesis_commitment r) ≡ false)
            → OnWay a ⊎ AreTwo r w path
        by_parent h (x, o, root) (inl t) =
            let e : genesis r ≡ x =
            same_Some (genesis r) x
            (sym
            (cond-true (same_commitment b.context.parent (genesis_commitment r))
            (Some (genesis r))
            (first_some (noted_block_of b.context.parent) (all_notes w)) t)
            ∙ o.under) in
            let g : a ≡ genesis r =
            same_block-true a (genesis r)
            (sym
            (cond-true (same_commitment b.context.parent (genesis_commitment r))
            (same_block a (genesis r))
            (same_commitment (commit r a) b.context.parent) t)
            ∙ h) in
            by_same x (parent_on x o root) (inl (g ∙ e))
        by_parent h (x, o, root) (inr f) =
            let e : commit r a ≡ b.context.parent =
            same_commitment-true (commit r a) b.context.parent
            (sym
            (cond-false (same_commitment b.context.parent (genesis_commitment r))
            (same_block a (genesis r))
            (same_commitment (commit r a) b.context.parent) f)
            ∙ h) in
            let noted : In (Note.Block b.context.parent x) (all_notes w) =
            first_in b.context.parent (all_notes w) x
            (sym
            (cond-false (same_commitment b.context.parent (genesis_commitment r))
            (Some (genesis r))
            (first_some (noted_block_of b.context.parent) (all_notes w)) f)
            ∙ o.under) in
            let g : commit r x ≡ b.context.parent =
            noted_commit r w keep k.clear b.context.parent x noted in
            by_same x (parent_on x o root)
            (same_or path a x b.context.parent i noted
            (ap (λ (y : Commitment). y.block) (e ∙ sym g)))

    walk : (path : List Block) (place : ℕ) (b : Block) (below : List Block)
        → ((a : Block) → In a below → In a path) → broken_below r place b below ≡ None → OnWay b
        → (last : Block) → last_or (Some b) below ≡ Some last → OnWay last ⊎ AreTwo r w path
    walk path place b [] sub h s last e = inl (subst OnWay (same_Some b last e) s)
    walk path place b (a ∷ below) sub h s last e =
        go (cases_Bool (is_parent_of r b a)) (walk path (place + 1) a below (λ x i. sub x (inr i)))
      where
        more : Option ℕ
        more = broken_below r (place + 1) a below

        by_step : (is_parent_of r b a ≡ true) → OnWay a ⊎ AreTwo r w path
            → (more ≡ None → OnWay a → (last : Block) → last_or (Some a) below ≡ Some last
            → OnWay last ⊎ AreTwo r w path)
            → OnWay last ⊎ AreTwo r w path
        by_step t (inl on) later =
            later (sym (cond-true (is_parent_of r b a) more (Some place) t) ∙ h) on last e
        by_step t (inr x) later = inr x

        go : (is_parent_of r b a ≡ true) ⊎ (is_parent_of r b a ≡ false)
            → (more ≡ None → OnWay a → (last : Block) → last_or (Some a) below ≡ Some last
            → OnWay last ⊎ AreTwo r w path)
            → OnWay last ⊎ AreTwo r w path
        go (inl t) later = by_step t (step_down path b a (sub a (inl refl)) t s) later
        go (inr f) later = cc (cond-false (is_parent_of r b a) more (Some place) f)

    way : (path : List Block) (last : Block) → broken_at r p.payload path ≡ None
        → last_or None path ≡ Some last → OnWay last ⊎ AreTwo r w path
    way [] last h e = cc
    way (b ∷ below) last h e = go (cases_Bool (is_named_by r p.payload b))
      where
        by_first : is_named_by r p.payload b ≡ true → OnWay b ⊎ AreTwo r w (b ∷ below)
            → OnWay last ⊎ AreTwo r w (b ∷ below)
        by_first t (inl on) =
            walk (b ∷ below) 1 b below (λ a i. inr i)
            (sym (cond-true (is_named_by r p.payload b) (broken_below r 1 b below) (Some 0) t)
            ∙ h)
            on last e
        by_first t (inr x) = inr x

        go : (is_named_by r p.payload b ≡ true) ⊎ (is_named_by r p.payload b ≡ false)
            → OnWay last ⊎ AreTwo r w (b ∷ below)
        go (inl t) = by_first t (first_down (b ∷ below) b (inl refl) t)
        go (inr f) =
            cc (cond-false (is_named_by r p.payload b) (broken_below r 1 b below) (Some 0) f)

    -- the reported chain goes up to the block that is handed out at the greatest height
    chain_is : (x : Handed) → highest (handed_in r script) ≡ Some x → (b : Block)
        → block_under r w x.commitment ≡ Some b → chain_of r script w ≡ chain_to r w b
    chain_is x top b under =
        ap
        (λ o. option_map_or (chain_to r w)
        (option_and_then (λ (y : Handed). block_under r w y.commitment) o) [])
        top
        ∙ ap (λ o. option_map_or (chain_to r w) o []) under

    -- what lies on the way is a link, where the chain goes so high
    is_link : (b : Block) → OnWay b → b.height < length (chain_of r script w)
        → slice_get (chain_of r script w) b.height ≡ Some b
    is_link b s less = by_highest (highest (handed_in r script)) refl
      where
        -- on the way above genesis
        high : (x : Handed) → highest (handed_in r script) ≡ Some x → 0 < b.height
            → slice_get (chain_of r script w) b.height ≡ Some b
        high x e pos =
            let y : Handed = as_handed b s in
            let one =
            chain_on (y ∷ handed_in r script) all x
            (inr (highest_there (handed_in r script) x e)) in
            let is : chain_of r script w ≡ chain_to r w one.block =
            chain_is x e one.block one.under in
            let l =
            links_rooted r w one.block.height one.block
            (chain_root r w one.block.height one.block refl one.chain) in
            let long : length (chain_of r script w) ≡ suc one.block.height =
            ap length is ∙ (ap length l.are ∙ ap suc l.long) in
            let link = one.links y (inl refl) (omega (arith, less, long, one.height)) in
            let known : IsKnown r w link.link =
            link_known r w one.block.height x.commitment one.block one.under b.height link.link
            link.there in
            let same : link.link ≡ b =
            k.clear link.link b known (known_under r w s.named b s.under)
            (sym link.same_digest) in
            subst (λ xs. slice_get xs b.height ≡ Some b) (sym is) (link.there ∙ ap Some same)
          where
            all : (z : Handed) → In z (as_handed b s ∷ handed_in r script) → Lies z
            all z (inl q) = subst Lies (sym q) (lies b s pos)
            all z (inr i) = all_lie z i

        -- genesis
        low : (x : Handed) → highest (handed_in r script) ≡ Some x → b.height ≡ 0
            → slice_get (chain_of r script w) b.height ≡ Some b
        low x e zero_high =
            let one =
            chain_on (handed_in r script) all_lie x (highest_there (handed_in r script) x e) in
            let is : chain_of r script w ≡ chain_to r w one.block =
            chain_is x e one.block one.under in
            let l =
            links_rooted r w one.block.height one.block
            (chain_root r w one.block.height one.block refl one.chain) in
            let first : b ≡ genesis r = subst (λ n. IsRooted r w n b) zero_high s.rooted in
            subst (λ n. slice_get (chain_of r script w) n ≡ Some b) (sym zero_high)
            (ap (λ xs. slice_get xs 0) (is ∙ l.are) ∙ ap Some (sym first))

        by_height : (x : Handed) → highest (handed_in r script) ≡ Some x
            → ((b.height == 0) ≡ true) ⊎ ((b.height == 0) ≡ false)
            → slice_get (chain_of r script w) b.height ≡ Some b
        by_height x e (inl t) = low x e (eqb-true b.height 0 t)
        by_height x e (inr f) = high x e (omega (arith, eqb-false b.height 0 f))

        by_highest : (o : Option Handed) → highest (handed_in r script) ≡ o
            → slice_get (chain_of r script w) b.height ≡ Some b
        by_highest None e =
            absurd
            (omega (
              arith,
              less,
              ap
                  (λ o. length
                  (option_map_or (chain_to r w)
                  (option_and_then (λ (y : Handed). block_under r w y.commitment)
                  o)
                  []))
                  e,
            ))
        by_highest (Some x) e = by_height x e (cases_Bool (b.height == 0))

-- what a yes means
pub believed : (r : Rules) (script : List Line) (w : World) → IsCluster r script
    → outcome r (opening r script) script ≡ Ends w
    → (s : Cert) (path : List Block) (height : ℕ) (d : Digest32)
    → light_answer r (signed w) s path ≡ Yes height d
    → IsLinkAt r (report_of r script w).chain path height d ⊎ AreTwo r w path
believed r script w c ends s path height d h =
    let t = told r (signed w) s path height d h in
    let stands =
    subst (Stands r.epochs (members_of w)) t.is_final
    (valid_stands r script w c
    (clear_reached r script script [] w c (sym (append-nil script)) ends).kept s
    t.valid) in
    by_way t stands (way r script w c ends t.proposal stands path t.block t.whole t.last)
  where
    by_way : (t : Told r (signed w) s path height d)
        (stands : Stands r.epochs (members_of w) (Finalize t.proposal))
        → OnWay r script w c ends t.proposal stands t.block ⊎ AreTwo r w path
        → IsLinkAt r (report_of r script w).chain path height d ⊎ AreTwo r w path
    by_way t stands (inr x) = inr x
    by_way t stands (inl on) = inl (record {
      block = t.block;
      last = t.last;
      height_is = t.height_is;
      digest_is = t.digest_is;
      link =
          λ less. subst (λ n. slice_get (chain_of r script w) n ≡ Some t.block) t.height_is
          (is_link r script w c ends t.proposal stands t.block on
          (subst (λ n. n < length (chain_of r script w)) (sym t.height_is) less));
    })
