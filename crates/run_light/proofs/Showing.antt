-- What is found passes a light client's check, and ends in the link of its height.
use Rattle.std.proofs.Common.{◌≡◌, ℕ, zero, suc, ◌+◌, true, false, ◌&&◌, ◌==◌, nat_le, cond, List, [], ◌∷◌, ◌++◌, Option, Some, None, slice_get, refl, sym, ◌∙◌, ap, subst, inl, inr, ◌⊎◌, eqb-true, eq-eqb, append-nil, option_and_then, option_map, filter_map, length}
use Rattle.std.specs.List.{last_or, list_all}
use Rattle.std.specs.Option.{option_map_or}
use Rattle.std.proofs.lemmas.Bool.{and_from, and_parts, cases_Bool, cond-false, cond-true}
use Rattle.std.proofs.lemmas.Option.{same_Some}
use Rattle.cw_base.specs.declared.hash.Digest32.{Digest32}
use Rattle.cw_types.specs.declared.commitment.Commitment.{Commitment}
use Rattle.cw_types.specs.declared.note.Note.{Note}
use Rattle.cw_types.specs.declared.vote.Cert.{Cert}
use Rattle.cw_types.specs.declared.vote.Proposal.{Proposal}
use Rattle.cw_types.specs.Block.{Block}
use Rattle.cw_types.specs.Epochs.{is_member, rises_from, size}
use Rattle.cw_types.specs.Numbers.{quorum}
use Rattle.cw_types.specs.Same.{same_block, same_commitment}
use Rattle.cw_types.specs.Votes.{finalized, vote_epoch, well_formed}
use Rattle.cw_rules.specs.Accepted.{first_some, is_valid}
use Rattle.cw_rules.specs.Chains.{Ends, all_notes, block_under, outcome}
use Rattle.cw_rules.specs.Held.{held, noted_block_of, parent_of}
use Rattle.cw_rules.specs.Keeps.{AllKeep}
use Rattle.cw_rules.specs.Reached.{In, IsCluster, IsKnown, members_of}
use Rattle.cw_rules.specs.Report.{report_of}
use Rattle.cw_rules.specs.Rules.{Rules, commit, digest, genesis, genesis_commitment}
use Rattle.cw_rules.specs.Step.{Member, member_notes}
use Rattle.cw_rules.specs.World.{Line, World, opening, signed}
use Rattle.cw_rules.proofs.Blocks.{noted_commit, under_held}
use Rattle.cw_rules.proofs.Lists.{and_then_some, map_some}
use Rattle.cw_rules.proofs.Runs.{IsClearRun, clear_reached, handed_by, opening_handed}
use Rattle.cw_types.proofs.Same.{same_block_self, same_commitment_self}
use Rattle.cw_rules.proofs.Worlds.{kept_keep}
use Rattle.cw_light.specs.Believing.{IsLinkAt}
use Rattle.cw_light.specs.Checking.{broken_at, broken_below, is_named_by, is_parent_of, light_answer, path_answer}
use Rattle.cw_light.specs.declared.check.Answer.{Answer}
use Rattle.cw_light.specs.declared.check.Answer.TheVariants.{BadSigners, Broken, EmptyPath, NotFinal, Yes}
use Rattle.cw_light.proofs.Believed.{AreTwo, believed, known_under}
use Rattle.cw_rules.proofs.Blocks.{first_in}
use Rattle.hail_world.specs.Reports.{honest}
use Rattle.run_light.specs.Finding.{first_shown, found_in, path_to, held_path_within, shown_by_note, shown_of}
use Rattle.run_light.specs.declared.search.Shown.{Shown}
use Rattle.run_light.proofs.Paths.{parent_low}
use Rattle.run_light.proofs.Searching.{found_by}

-- an honest member has a place
honest_at : (ms : List (Option Member)) (m : Member) → In m (filter_map (λ o. o) ms)
    → (i : ℕ) × (slice_get ms i ≡ Some (Some m))
honest_at [] m h = absurd h
honest_at (None ∷ ms) m h = let (i, e) = honest_at ms m h in (suc i, e)
honest_at (Some x ∷ ms) m (inl e) = (0, ap (λ (y : Member). Some (Some y)) (sym e))
honest_at (Some x ∷ ms) m (inr h) = let (i, e) = honest_at ms m h in (suc i, e)

module _ (r : Rules) (script : List Line) (w : World) (c : IsCluster r script)
    (ends : outcome r (opening r script) script ≡ Ends w) where
  k : IsClearRun r script w (opening_handed r script ++ handed_by r (opening r script) script)
  k = clear_reached r script script [] w c (sym (append-nil script)) ends

  abbrev keep : AllKeep r (members_of w)
  keep = kept_keep r script w k.kept

  -- the block under a commitment is the one that it names
  named : (d : Commitment) (b : Block) → block_under r w d ≡ Some b → is_named_by r d b ≡ true
  named d b h = go (cases_Bool (same_commitment d (genesis_commitment r)))
    where
      found : Option Block
      found = first_some (noted_block_of d) (all_notes w)

      go : (same_commitment d (genesis_commitment r) ≡ true)
          ⊎ (same_commitment d (genesis_commitment r) ≡ false)
          → is_named_by r d b ≡ true
      go (inl t) =
          let e : genesis r ≡ b =
          same_Some (genesis r) b
          (sym
          (cond-true (same_commitment d (genesis_commitment r)) (Some (genesis r)) found
          t)
          ∙ h) in
          cond-true (same_commitment d (genesis_commitment r)) (same_block b (genesis r))
          (same_commitment (commit r b) d) t
          ∙ (ap (λ x. same_block x (genesis r)) (sym e) ∙ same_block_self (genesis r))
      go (inr f) =
          let noted =
          first_in d (all_notes w) b
          (sym
          (cond-false (same_commitment d (genesis_commitment r)) (Some (genesis r))
          found f)
          ∙ h) in
          let e : commit r b ≡ d = noted_commit r w keep k.clear d b noted in
          cond-false (same_commitment d (genesis_commitment r)) (same_block b (genesis r))
          (same_commitment (commit r b) d) f
          ∙ (ap (λ x. same_commitment x d) e ∙ same_commitment_self d)

  module _ (i : ℕ) (m : Member) (at : slice_get w.members i ≡ Some (Some m)) (height : ℕ) where
    abbrev notes : List Note
    notes = member_notes m

    under : (d : Commitment) (b : Block) → held r notes d ≡ Some b → block_under r w d ≡ Some b
    under d b h =
        under_held r w keep k.clear i m notes [] at (sym (append-nil notes)) d b h

    -- a path that isn't broken, down to the height, of known blocks
    record Whole (b : Block) (path : List Block) : Type 0 where
      rest : List Block
      is : path ≡ b ∷ rest
      whole : (place : ℕ) → broken_below r place b rest ≡ None
      last : Block
      last_is : last_or (Some b) rest ≡ Some last
      high : last.height ≡ height
      known : (x : Block) → In x path → IsKnown r w x

    alone : (d : Commitment) (b : Block) (path : List Block) → block_under r w d ≡ Some b
        → (b.height == height) ≡ true → Some (b ∷ []) ≡ Some path → Whole b path
    alone d b path u t h =
        record {
          rest = [];
          is = e;
          whole = λ place. refl;
          last = b;
          last_is = refl;
          high = eqb-true b.height height t;
          known = λ x j. all x (subst (In x) e j);
        }
      where
        e : path ≡ b ∷ []
        e = sym (same_Some (b ∷ []) path h)

        all : (x : Block) → In x (b ∷ []) → IsKnown r w x
        all x (inl s) = subst (IsKnown r w) (sym s) (known_under r w d b u)
        all x (inr j) = absurd j

    whole_path : (n : ℕ) (d : Commitment) (b : Block) (path : List Block)
        → block_under r w d ≡ Some b → held_path_within r notes n height b ≡ Some path
        → Whole b path
    whole_path zero d b path u h = go (cases_Bool (b.height == height))
      where
        go : ((b.height == height) ≡ true) ⊎ ((b.height == height) ≡ false) → Whole b path
        go (inl t) =
            alone d b path u t (sym (cond-true (b.height == height) (Some (b ∷ [])) None t) ∙ h)
        go (inr f) = cc (cond-false (b.height == height) (Some (b ∷ [])) None f)
    whole_path (suc n) d b path u h = go (cases_Bool (b.height == height)) (whole_path n)
      where
        more : Option (List Block)
        more = option_and_then (held_path_within r notes n height) (parent_of r notes b)

        on : (a : Block) (below : List Block) → is_parent_of r b a ≡ true → Whole a below
            → b ∷ below ≡ path → Whole b path
        on a below t s g = record {
          rest = a ∷ s.rest;
          is = sym g ∙ ap (λ xs. b ∷ xs) s.is;
          whole =
              λ place. cond-true (is_parent_of r b a) (broken_below r (place + 1) a s.rest)
              (Some place) t
              ∙ s.whole (place + 1);
          last = s.last;
          last_is = s.last_is;
          high = s.high;
          known = λ x j. all x (subst (In x) (sym g) j);
        }
          where
            all : (x : Block) → In x (b ∷ below) → IsKnown r w x
            all x (inl e) = subst (IsKnown r w) (sym e) (known_under r w d b u)
            all x (inr j) = s.known x j

        go : ((b.height == height) ≡ true) ⊎ ((b.height == height) ≡ false)
            → ((d : Commitment) (a : Block) (below : List Block) → block_under r w d ≡ Some a
            → held_path_within r notes n height a ≡ Some below → Whole a below)
            → Whole b path
        go (inl t) later =
            alone d b path u t
            (sym
            (cond-true (b.height == height) (Some (b ∷ [])) (option_map (λ xs. b ∷ xs) more)
            t)
            ∙ h)
        go (inr f) later =
            let (below, e, g) =
            map_some (λ xs. b ∷ xs) more path
            (sym
            (cond-false (b.height == height) (Some (b ∷ []))
            (option_map (λ xs. b ∷ xs) more) f)
            ∙ h) in
            let (a, p, q) =
            and_then_some (held_path_within r notes n height) (parent_of r notes b) below e in
            let (ha, up) = parent_low r notes height b a p in
            let ua = under b.context.parent a ha in
            let t =
            and_from (is_named_by r b.context.parent a) (a.height + 1 == b.height)
            (named b.context.parent a ua) (eq-eqb (a.height + 1) b.height up) in
            on a below t (later b.context.parent a below ua q) g

    -- a valid finalization with the path of its held payload
    record Passes (s : Cert) (path : List Block) : Type 0 where
      block : Block
      yes : light_answer r (signed w) s path ≡ Yes height (digest r block)
      known : (x : Block) → In x path → IsKnown r w x

    formed : (s : Cert) → is_valid r (signed w) s ≡ true → well_formed s.vote ≡ true
    formed s h =
        let all =
        list_all (λ i. is_member r.epochs (vote_epoch s.vote) i && signed w i s.vote)
        s.signers in
        let a =
        and_parts (well_formed s.vote && rises_from 0 s.signers && all)
        (nat_le (quorum (size r.epochs (vote_epoch s.vote))) (length s.signers)) h in
        let b = and_parts (well_formed s.vote && rises_from 0 s.signers) all a.0 in
        (and_parts (well_formed s.vote) (rises_from 0 s.signers) b.0).0

    passes : (s : Cert) (p : Proposal) (path : List Block) → is_valid r (signed w) s ≡ true
        → finalized s.vote ≡ Some p → path_to r notes height p.payload ≡ Some path → Passes s path
    passes s p path v f h =
        let (b, e, g) =
        and_then_some (λ (b : Block). held_path_within r notes b.height height b)
        (held r notes p.payload) path h in
        let u = under p.payload b e in
        by_whole b u (whole_path b.height p.payload b path u g)
      where
        by_valid : Proposal → Answer
        by_valid p = cond (is_valid r (signed w) s) (path_answer r p.payload path) BadSigners

        by_last : Block → Answer
        by_last last =
            option_map_or Broken (broken_at r p.payload path) (Yes last.height (digest r last))

        by_whole : (b : Block) → block_under r w p.payload ≡ Some b → Whole b path → Passes s path
        by_whole b u x =
            let unbroken : broken_at r p.payload path ≡ None =
            ap (broken_at r p.payload) x.is
            ∙ (cond-true (is_named_by r p.payload b) (broken_below r 1 b x.rest) (Some 0)
            (named p.payload b u)
            ∙ x.whole 1) in
            let last : last_or None path ≡ Some x.last = ap (last_or None) x.is ∙ x.last_is in
            record {
              block = x.last;
              yes =
                  ap (λ o. option_map_or by_valid o NotFinal)
                  (cond-true (well_formed s.vote) (finalized s.vote) None (formed s v) ∙ f)
                  ∙ (cond-true (is_valid r (signed w) s) (path_answer r p.payload path) BadSigners v
                  ∙ (ap (λ o. option_map_or by_last o EmptyPath) last
                  ∙ (ap (λ o. option_map_or Broken o (Yes x.last.height (digest r x.last))) unbroken
                  ∙ ap (λ n. Yes n (digest r x.last)) x.high)));
              known = x.known;
            }

    of_shown : (s : Cert) (shown : Shown) → shown_of r (signed w) height notes s ≡ Some shown
        → Passes shown.cert shown.path
    of_shown s shown h = go (cases_Bool (is_valid r (signed w) s))
      where
        pair : List Block → Shown
        pair path = record { cert = s; path = path }

        paths : Option (List Block)
        paths =
            option_and_then (λ (p : Proposal). path_to r notes height p.payload) (finalized s.vote)

        go : (is_valid r (signed w) s ≡ true) ⊎ (is_valid r (signed w) s ≡ false)
            → Passes shown.cert shown.path
        go (inl t) =
            let (path, e, g) =
            map_some pair paths shown
            (sym (cond-true (is_valid r (signed w) s) (option_map pair paths) None t)
            ∙ h) in
            let (p, f, q) =
            and_then_some (λ (p : Proposal). path_to r notes height p.payload)
            (finalized s.vote) path e in
            subst (λ (y : Shown). Passes y.cert y.path) g (passes s p path t f q)
        go (inr n) = cc (cond-false (is_valid r (signed w) s) (option_map pair paths) None n)

    of_note : (note : Note) (shown : Shown) → shown_by_note r (signed w) height notes note
        ≡ Some shown
        → Passes shown.cert shown.path
    of_note (Note.Cert s) shown h = of_shown s shown h
    of_note (Note.Block d b) shown h = cc
    of_note (Note.Verified e v d) shown h = cc
    of_note (Note.Certified p) shown h = cc
    of_note (Note.Vote v) shown h = cc
    of_note (Note.Ack n) shown h = cc
    of_note (Note.Floor n) shown h = cc
    of_note (Note.Prune n) shown h = cc
    of_note (Note.Epoch e d) shown h = cc

    told_link : (shown : Shown) → Passes shown.cert shown.path
        → (d : Digest32) × (light_answer r (signed w) shown.cert shown.path ≡ Yes height d)
        × IsLinkAt r (report_of r script w).chain shown.path height d
    told_link shown x = (
      digest r x.block,
      x.yes,
      go (believed r script w c ends shown.cert shown.path height (digest r x.block) x.yes),
    )
      where
        go : IsLinkAt r (report_of r script w).chain shown.path height (digest r x.block)
            ⊎ AreTwo r w shown.path
            → IsLinkAt r (report_of r script w).chain shown.path height (digest r x.block)
        go (inl y) = y
        go (inr y) =
            absurd
            (y.different
            (k.clear y.shown y.noted (x.known y.shown y.in_path) (inr (y.under, y.is_noted))
            y.one_digest))

  -- what is found on a disk of an honest member passes, and ends in the link
  pub found_told : (height : ℕ) (shown : Shown)
      → found_in r (signed w) height (honest w) ≡ Some shown
      → (d : Digest32) × (light_answer r (signed w) shown.cert shown.path ≡ Yes height d)
      × IsLinkAt r (report_of r script w).chain shown.path height d
  found_told height shown h =
      let (m, there, e) =
      found_by (λ (m : Member). first_shown r (signed w) height (member_notes m)) (honest w) shown
      h in
      let (i, at) = honest_at w.members m there in
      let (note, among, g) =
      found_by (shown_by_note r (signed w) height (member_notes m)) (member_notes m) shown e in
      told_link i m at height shown (of_note i m at height note shown g)
