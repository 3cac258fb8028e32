-- What a step notes can be written, where what the member noted and what came can be.
use Rattle.std.proofs.Common.{◌≡◌, ℕ, zero, suc, ◌+◌, ◌-◌, ◌*◌, ◌%◌, ◌^◌, ◌<◌, ◌≤◌, Bool, true, false, ◌&&◌, ◌==◌, not, cond, nat_lt, nat_le, List, [], ◌∷◌, ◌++◌, Option, Some, None, length, filter_map, slice_get, unwrap_or, option_map, option_and_then, refl, sym, ◌∙◌, subst, inl, inr, ◌⊎◌, arith, ltb-true, leb-true}
use Rattle.std.specs.List.{AllByRecursion}
use Rattle.std.specs.Option.{option_map_or, option_or}
use Rattle.std.proofs.lemmas.Bool.{and_parts, cases_Bool, cond-true, cond-false}
use Rattle.std.proofs.lemmas.Option.{same_Some}
use Rattle.cw_base.specs.ReadsBack.{IsConfig}
use Rattle.cw_types.specs.Values.{IsBlock, IsCommitment, IsDigest, IsPayload}
use Rattle.cw_types.specs.declared.commitment.Commitment.{Commitment}
use Rattle.cw_types.specs.declared.event.Event.{Event}
use Rattle.cw_types.specs.declared.message.Message.{Message}
use Rattle.cw_types.specs.declared.note.Note.{Note}
use Rattle.cw_types.specs.declared.vote.Proposal.{Proposal}
use Rattle.cw_types.specs.declared.vote.Vote.{Vote}
use Rattle.cw_types.specs.declared.vote.Vote.TheVariants.{Finalize, Notarize, Nullify}
use Rattle.cw_types.specs.Block.{Block}
use Rattle.cw_types.specs.Epochs.{is_last, is_member, is_within, leader, members_in, rises_from, size}
use Rattle.cw_types.specs.Same.{same_commitment}
use Rattle.cw_rules.specs.Accepted.{Came, Part, Row, State, Whole, first_some}
use Rattle.cw_rules.specs.Direct.{best_parent, direct, least, proposal_notes, propose_new, propose_over, proposed, proposed_block}
use Rattle.cw_rules.specs.Held.{at_height, first_chunks, greatest_prune, held, if_committed, last_ack, noted_block_of, pending, shown, shown_by, shown_by_rows, shown_whole, whole_of}
use Rattle.cw_rules.specs.Notes.{entered, epoch_of, greatest, has_block, has_cert, view_of}
use Rattle.cw_rules.specs.Owed.{block_owed, cert_owed, certified_owed, epoch_owed, finalize_owed, floor_owed, has_closed, has_voted, named_commitments, named_proposals, named_votes, notarize_owed, owed, reached_epoch, signers_of, top_epoch}
use Rattle.cw_rules.specs.Reached.{IsCluster}
use Rattle.cw_rules.specs.Rules.{Rules, block_of, commit, config_among, genesis, genesis_commitment, block_root, rows_of}
use Rattle.cw_rules.specs.declared.travel.Travel.{Travel}
use Rattle.cw_rules.specs.declared.travel.Travel.TheVariants.{Chunked, Uncut}
use Rattle.cw_rules.specs.Step.{marks, settle, step_notes, with_notes}
use Rattle.cw_rules.specs.Telling.{TellsBlocks}
use Rattle.cw_rules.specs.World.{Line}
use Rattle.cw_rules.proofs.Deliveries.{at_held}
use Rattle.cw_rules.proofs.Fits.{plus_mul}
use Rattle.cw_rules.proofs.Heights.{at_is_at}
use Rattle.cw_rules.proofs.Lists.{all_both, all_true, and_then_some, first_some_at, map_some, or_some, when_some}
use Rattle.cw_rules.proofs.OwedKeeps.{shown_under}
use Rattle.cw_types.proofs.Same.{same_commitment-true}
use Rattle.cw_rules.proofs.StepKeeps.{IsParent, parent_found}

-- ---- what can be written

-- a block that is noted can be written, under its own commitment; an epoch has a number of eight
-- bytes
abbrev pub CanNote : Rules → Note → Type 0
CanNote r (Note.Block c b) = IsBlock b × (commit r b ≡ c)
CanNote r (Note.Epoch e c) = e < 2 ^ 64
CanNote r _ = Unit {0}

abbrev pub CanPart : Part → Type 0
CanPart (Whole b) = IsBlock b
CanPart (Row c x) = Unit {0}

abbrev pub CanSend : Message → Type 0
CanSend (Message.Block b) = IsBlock b
CanSend _ = Unit {0}

abbrev pub CanEvent : Event → Type 0
CanEvent (Event.Propose payload) = IsPayload payload
CanEvent (Event.Deliver m) = CanSend m
CanEvent _ = Unit {0}

pub all_get : {X : Type 0} (P : X → Type 0) (xs : List X) (i : ℕ) (x : X) → AllByRecursion P xs
    → slice_get xs i ≡ Some x → P x
all_get P [] i x a h = cc
all_get P (y ∷ ys) zero x a h = subst P (same_Some y x h) a.0
all_get P (y ∷ ys) (suc i) x a h = all_get P ys i x a.1 h

-- rising numbers below a total are no more than it
rising_few : (total low : ℕ) (xs : List ℕ) → rises_from low xs ≡ true
    → AllByRecursion (λ i. i < total) xs → length xs ≤ total - low
rising_few total low [] h a = omega arith
rising_few total low (x ∷ xs) h a =
    let p = and_parts (nat_le low x) (rises_from (x + 1) xs) h in
    omega (arith, leb-true low x p.0, rising_few total (x + 1) xs p.1 a.1, a.0)

times_more : (n s : ℕ) → 0 < s → n ≤ n * s
times_more zero s pos = omega arith
times_more (suc n) s pos =
    subst (λ m. suc n ≤ m * s) one_more (omega (arith, plus_mul n s, times_more n s pos))
  where
    one_more : n + 1 ≡ suc n
    one_more = omega arith

module _ (r : Rules) (script : List Line) (tells : TellsBlocks r)
    (cluster : IsCluster r script) where
  -- ---- commitments and blocks

  few_members : (epoch : ℕ) → size r.epochs epoch ≤ 65535
  few_members epoch =
      omega (
        arith,
        tells.members,
        rising_few r.epochs.total 0 (members_in r.epochs epoch) (cluster.rising epoch)
            (cluster.there epoch),
      )

  config_by : (t : Travel) (epoch : ℕ) → IsConfig (config_among t (size r.epochs epoch))
  config_by Chunked epoch =
      record {
        minimum = (omega arith, omega (arith, few_members epoch));
        extra = (omega (arith, cluster.enough epoch), omega (arith, few_members epoch));
      }
  config_by Uncut epoch =
      record { minimum = (omega arith, omega arith); extra = (omega arith, omega arith) }

  root_can : (t : Travel) (b : Block) → IsDigest (block_root t r b)
  root_can Chunked b = tells.roots (rows_of r b)
  root_can Uncut b = tells.digests _

  commit_can : (b : Block) → IsCommitment (commit r b)
  commit_can b =
      record {
        block = tells.digests _;
        root = root_can r.travel b;
        context = tells.digests _;
        config = config_by r.travel b.context.epoch;
      }

  pub first_can : IsCommitment (genesis_commitment r)
  first_can =
      record {
        block = tells.digests _;
        root = tells.digests _;
        context = tells.digests _;
        config = record {
          minimum = (omega arith, omega arith);
          extra = (omega arith, omega arith);
        };
      }

  pub genesis_can : IsBlock (genesis r)
  genesis_can = record {
    context = record {
      epoch = omega arith;
      view = omega arith;
      leader = omega arith;
      parent_view = omega arith;
      parent =
          record {
            block = refl;
            root = refl;
            context = refl;
            config = record {
              minimum = (omega arith, omega arith);
              extra = (omega arith, omega arith);
            };
          };
    };
    parent = tells.digests [];
    height = omega arith;
    payload = omega arith;
  }

  pub leader_can : (epoch view : ℕ) → leader r.epochs epoch view < 2 ^ 16
  leader_can epoch view =
      go (slice_get (members_in r.epochs epoch) (view % size r.epochs epoch)) refl
    where
      go : (o : Option ℕ) → slice_get (members_in r.epochs epoch) (view % size r.epochs epoch) ≡ o
          → unwrap_or o 0 < 2 ^ 16
      go None e = omega arith
      go (Some i) e =
          omega (
            arith,
            tells.members,
            all_get (λ i. i < r.epochs.total) (members_in r.epochs epoch)
                (view % size r.epochs epoch) i (cluster.there epoch) e,
          )

  -- ---- what is held

  pub noted_can : (c : Commitment) (n : Note) (b : Block) → CanNote r n
      → noted_block_of c n ≡ Some b → IsBlock b × IsCommitment c
  noted_can c (Note.Block d x) b can h = go (cases_Bool (same_commitment c d))
    where
      go : (same_commitment c d ≡ true) ⊎ (same_commitment c d ≡ false) → IsBlock b × IsCommitment c
      go (inl t) =
          let e : x ≡ b =
          same_Some x b (sym (cond-true (same_commitment c d) (Some x) None t) ∙ h) in (
            subst IsBlock e can.0,
            subst IsCommitment (can.1 ∙ sym (same_commitment-true c d t)) (commit_can x),
          )
      go (inr f) = cc (cond-false (same_commitment c d) (Some x) None f)
  noted_can c (Note.Verified d w x) b can h = cc
  noted_can c (Note.Epoch d x) b can h = cc
  noted_can c (Note.Certified p) b can h = cc
  noted_can c (Note.Vote v) b can h = cc
  noted_can c (Note.Cert s) b can h = cc
  noted_can c (Note.Ack n) b can h = cc
  noted_can c (Note.Floor n) b can h = cc
  noted_can c (Note.Prune n) b can h = cc

  pub held_can : (notes : List Note) (c : Commitment) (b : Block) → AllByRecursion (CanNote r) notes
      → held r notes c ≡ Some b → IsBlock b × IsCommitment c
  held_can notes c b a h = go (cases_Bool (same_commitment c (genesis_commitment r)))
    where
      keep : Block → Option Block
      keep x = cond (nat_lt 0 x.height && nat_lt x.height (greatest_prune notes)) None (Some x)

      kept : Option Block
      kept = option_and_then keep (first_some (noted_block_of c) notes)

      same_kept : (x : Block) (t : Bool) → cond t None (Some x) ≡ Some b → x ≡ b
      same_kept x true e = cc
      same_kept x false e = same_Some x b e

      go : (same_commitment c (genesis_commitment r) ≡ true)
          ⊎ (same_commitment c (genesis_commitment r) ≡ false)
          → IsBlock b × IsCommitment c
      go (inl t) =
          let e : genesis r ≡ b =
          same_Some (genesis r) b
          (sym
          (cond-true (same_commitment c (genesis_commitment r)) (Some (genesis r)) kept
          t)
          ∙ h) in (
            subst IsBlock e genesis_can,
            subst IsCommitment (sym (same_commitment-true c (genesis_commitment r) t)) first_can,
          )
      go (inr f) =
          let (x, e, g) =
          and_then_some keep (first_some (noted_block_of c) notes) b
          (sym
          (cond-false (same_commitment c (genesis_commitment r)) (Some (genesis r)) kept
          f)
          ∙ h) in
          let s = same_kept x (nat_lt 0 x.height && nat_lt x.height (greatest_prune notes)) g in
          subst (λ y. IsBlock y × IsCommitment c) s
          (first_some_at (noted_block_of c) (CanNote r) (λ y. IsBlock y × IsCommitment c) notes
          a (noted_can c) x e)

  epoch_below : (notes : List Note) → AllByRecursion (CanNote r) notes → epoch_of notes < 2 ^ 64
  epoch_below [] a = omega arith
  epoch_below (n ∷ ns) a = by_note n a.0 (epoch_below ns a.1)
    where
      by_note : (n : Note) → CanNote r n → greatest (filter_map entered ns) < 2 ^ 64
          → greatest (filter_map entered (n ∷ ns)) < 2 ^ 64
      by_note (Note.Epoch d x) can h = omega (arith, can, h)
      by_note (Note.Block d x) can h = h
      by_note (Note.Verified d w x) can h = h
      by_note (Note.Certified p) can h = h
      by_note (Note.Vote v) can h = h
      by_note (Note.Cert s) can h = h
      by_note (Note.Ack m) can h = h
      by_note (Note.Floor m) can h = h
      by_note (Note.Prune m) can h = h

  -- ---- direct notes

  proposal_can : (notes : List Note) (epoch view parent : ℕ) (b : Block) → IsBlock b
      → AllByRecursion (CanNote r) (proposal_notes r notes epoch view parent b)
  proposal_can notes epoch view parent b can = go (has_block notes (commit r b))
    where
      tail : List Note
      tail =
          Note.Verified epoch view (commit r b) ∷ Note.Vote (Notarize (record {
            epoch = epoch;
            view = view;
            parent = parent;
            payload = commit r b;
          })) ∷ []

      go : (noted : Bool)
          → AllByRecursion (CanNote r) (cond noted [] (Note.Block (commit r b) b ∷ []) ++ tail)
      go true = (tt, (tt, tt))
      go false = ((can, refl), (tt, (tt, tt)))

  new_can : (notes : List Note) (epoch view : ℕ) (payload : List ℕ) (best : ℕ × Commitment × Block)
      → AllByRecursion (CanNote r) notes → epoch < 2 ^ 64 → view < 2 ^ 64 → IsPayload payload
      → IsParent r notes epoch view best
      → AllByRecursion (CanNote r) (propose_new r notes epoch view payload best)
  new_can notes epoch view payload best a low top short p = go (cases_Bool test)
    where
      b : Block
      b =
          proposed_block r
          (record { epoch = epoch; view = view; parent = best.0; payload = best.1 }) best.1
          best.2 payload

      test : Bool
      test = nat_lt b.height (2 ^ 64 - 1) && is_within r.epochs epoch b.height && r.accepts b best.2

      can : nat_lt b.height (2 ^ 64 - 1) ≡ true → IsBlock b
      can t = record {
        context =
            record {
              epoch = low;
              view = top;
              leader = leader_can epoch view;
              parent_view = omega (arith, p.lower, top);
              parent = (held_can notes best.1 best.2 a p.holds).1;
            };
        parent = tells.digests _;
        height = ltb-true b.height (2 ^ 64 - 1) t;
        payload = short;
      }

      go : (test ≡ true) ⊎ (test ≡ false)
          → AllByRecursion (CanNote r) (cond test (proposal_notes r notes epoch view best.0 b) [])
      go (inl t) =
          let q =
          and_parts (nat_lt b.height (2 ^ 64 - 1) && is_within r.epochs epoch b.height)
          (r.accepts b best.2) t in
          let s =
          and_parts (nat_lt b.height (2 ^ 64 - 1)) (is_within r.epochs epoch b.height) q.0 in
          subst (AllByRecursion (CanNote r))
          (sym (cond-true test (proposal_notes r notes epoch view best.0 b) [] t))
          (proposal_can notes epoch view best.0 b (can s.0))
      go (inr f) =
          subst (AllByRecursion (CanNote r))
          (sym (cond-false test (proposal_notes r notes epoch view best.0 b) [] f)) tt

  over_can : (notes : List Note) (epoch view : ℕ) (payload : List ℕ) (best : ℕ × Commitment × Block)
      → AllByRecursion (CanNote r) notes → epoch < 2 ^ 64 → view < 2 ^ 64 → IsPayload payload
      → IsParent r notes epoch view best
      → AllByRecursion (CanNote r) (propose_over r notes epoch view payload best)
  over_can notes epoch view payload best a low top short p =
      go (nat_lt 0 best.0 && is_last r.epochs epoch best.2.height)
    where
      again : Note
      again =
          Note.Vote (Notarize (record {
            epoch = epoch;
            view = view;
            parent = best.0;
            payload = best.1;
          }))

      go : (last : Bool)
          → AllByRecursion (CanNote r)
          (cond last (again ∷ []) (propose_new r notes epoch view payload best))
      go true = (tt, tt)
      go false = new_can notes epoch view payload best a low top short p

  proposed_can : (id : ℕ) (notes : List Note) (payload : List ℕ) → AllByRecursion (CanNote r) notes
      → IsPayload payload → AllByRecursion (CanNote r) (proposed r id notes payload)
  proposed_can id notes payload a short = go (cases_Bool test)
    where
      epoch : ℕ
      epoch = epoch_of notes

      view : ℕ
      view = view_of notes epoch

      test : Bool
      test =
          (leader r.epochs epoch view == id) && nat_lt view (2 ^ 64 - 1)
          && not (has_voted notes epoch view)

      made : List Note
      made =
          option_map_or (propose_over r notes epoch view payload) (best_parent r notes epoch view)
          []

      by_parent : view < 2 ^ 64 - 1 → (o : Option (ℕ × Commitment × Block))
          → best_parent r notes epoch view ≡ o
          → AllByRecursion (CanNote r)
          (option_map_or (propose_over r notes epoch view payload) o [])
      by_parent top None e = tt
      by_parent top (Some best) e =
          over_can notes epoch view payload best a (epoch_below notes a) (omega (arith, top)) short
          (parent_found r notes epoch view best e)

      go : (test ≡ true) ⊎ (test ≡ false) → AllByRecursion (CanNote r) (cond test made [])
      go (inl t) =
          let p =
          and_parts ((leader r.epochs epoch view == id) && nat_lt view (2 ^ 64 - 1))
          (not (has_voted notes epoch view)) t in
          let q = and_parts (leader r.epochs epoch view == id) (nat_lt view (2 ^ 64 - 1)) p.0 in
          subst (AllByRecursion (CanNote r)) (sym (cond-true test made [] t))
          (by_parent (ltb-true view (2 ^ 64 - 1) q.1) (best_parent r notes epoch view) refl)
      go (inr f) = subst (AllByRecursion (CanNote r)) (sym (cond-false test made [] f)) tt

  one_if : (b : Bool) (n : Note) → CanNote r n → AllByRecursion (CanNote r) (cond b (n ∷ []) [])
  one_if true n can = (can, tt)
  one_if false n can = tt

  acked_can : (o : Option ℕ)
      → AllByRecursion (CanNote r) (option_map_or (λ h. Note.Ack h ∷ []) o [])
  acked_can None = tt
  acked_can (Some h) = (tt, tt)

  direct_can : (id : ℕ) (s : State) (e : Event) → AllByRecursion (CanNote r) s.notes → CanEvent e
      → AllByRecursion (CanNote r) (direct r id s e)
  direct_can id s (Event.Propose payload) a can = proposed_can id s.notes payload a can
  direct_can id s (Event.Timeout view) a can =
      one_if
      ((view == view_of s.notes (epoch_of s.notes)) && nat_lt view (2 ^ 64 - 1)
      && is_member r.epochs (epoch_of s.notes) id
      && not (has_closed s.notes (epoch_of s.notes) view))
      (Note.Vote (Nullify (epoch_of s.notes) view)) tt
  direct_can id s Event.Ack a can = acked_can (least (pending s))
  direct_can id s (Event.Prune h) a can =
      one_if
      (option_map_or (λ k. nat_le h k) (last_ack s.notes) false
      && nat_lt (greatest_prune s.notes) h)
      (Note.Prune h) tt
  direct_can id s _ a can = tt

  -- ---- owed notes

  committed_can : (c : Commitment) (x b : Block) → IsBlock x → if_committed r c x ≡ Some b
      → IsBlock b
  committed_can c x b can h = go (same_commitment (commit r x) c) h
    where
      go : (t : Bool) → cond t (Some x) None ≡ Some b → IsBlock b
      go true e = subst IsBlock (same_Some x b e) can
      go false e = cc

  whole_can : (c : Commitment) (p : Part) (b : Block) → CanPart p → whole_of r c p ≡ Some b
      → IsBlock b
  whole_can c (Whole x) b can h = committed_can c x b can h
  whole_can c (Row d x) b can h = cc

  whole_shown_can : (came : Came) (c : Commitment) (b : Block) → AllByRecursion CanPart came.parts
      → shown_whole r came c ≡ Some b → IsBlock b
  whole_shown_can came c b a h =
      first_some_at (whole_of r c) CanPart IsBlock came.parts a (whole_can c) b h

  shown_can : (t : Travel) (came : Came) (c : Commitment) (b : Block)
      → AllByRecursion CanPart came.parts → shown_by t r came c ≡ Some b → IsBlock b
  shown_can Chunked came c b a h =
      go (or_some (shown_whole r came c) (shown_by_rows r came c) b h)
    where
      go : (shown_whole r came c ≡ Some b) ⊎ (shown_by_rows r came c ≡ Some b) → IsBlock b
      go (inl e) = whole_shown_can came c b a e
      go (inr e) =
          let (x, f, g) =
          and_then_some (if_committed r c) (block_of r c.config (first_chunks came c)) b e in
          committed_can c x b (tells.shown c.config (first_chunks came c) x f) g
  shown_can Uncut came c b a h = go (same_commitment c (genesis_commitment r)) h
    where
      go : (t : Bool) → cond t None (shown_whole r came c) ≡ Some b → IsBlock b
      go true e = cc
      go false e = whole_shown_can came c b a e

  reached_can : (notes : List Note) (span : ℕ) → 0 < span → AllByRecursion (CanNote r) notes
      → (top : ℕ) (note : Note) → reached_epoch r notes span top ≡ Some note → CanNote r note
  reached_can notes span pos a zero note h = cc
  reached_can notes span pos a (suc top) note h =
      go (cases_Bool (nat_le (suc top) (epoch_of notes))) (reached_can notes span pos a top note)
    where
      here : Option Note
      here = option_map (Note.Epoch (suc top)) (at_height r notes (suc top * span))

      by_case : (here ≡ Some note) ⊎ (reached_epoch r notes span top ≡ Some note)
          → (reached_epoch r notes span top ≡ Some note → CanNote r note) → CanNote r note
      by_case (inl e) later =
          let (c, at, f) =
          map_some (Note.Epoch (suc top)) (at_height r notes (suc top * span)) note e in
          let (b, k) = at_held r notes (suc top * span) c at in
          let high = at_is_at r notes (suc top * span) c at b k in
          let fits = (held_can notes c b a k).0.height in
          subst (CanNote r) f (omega (arith, times_more (suc top) span pos, high, fits))
      by_case (inr e) later = later e

      go : (nat_le (suc top) (epoch_of notes) ≡ true) ⊎ (nat_le (suc top) (epoch_of notes) ≡ false)
          → (reached_epoch r notes span top ≡ Some note → CanNote r note) → CanNote r note
      go (inl t) later =
          cc
          (sym
          (cond-true (nat_le (suc top) (epoch_of notes)) None
          (option_or here (reached_epoch r notes span top)) t)
          ∙ h)
      go (inr f) later =
          by_case
          (or_some here (reached_epoch r notes span top) note
          (sym
          (cond-false (nat_le (suc top) (epoch_of notes)) None
          (option_or here (reached_epoch r notes span top)) f)
          ∙ h))
          later

  owed_can : (id : ℕ) (s : State) → AllByRecursion (CanNote r) s.notes
      → AllByRecursion CanPart s.came.parts → (note : Note) → owed r id s ≡ Some note
      → CanNote r note
  owed_can id s a parts note h = one (or_some a1 r1 note h)
    where
      Q : Note → Type 0
      Q = CanNote r

      a1 : Option Note
      a1 = first_some (block_owed r s) (named_commitments r s)

      a2 : Option Note
      a2 = first_some (cert_owed r id s) (named_votes s)

      a3 : Option Note
      a3 = first_some (certified_owed r s) (named_proposals s)

      a4 : Option Note
      a4 = first_some (floor_owed r s) s.came.wishes

      a5 : Option Note
      a5 = epoch_owed r s

      a6 : Option Note
      a6 = first_some (notarize_owed r id s) (named_proposals s)

      a7 : Option Note
      a7 = first_some (finalize_owed r id s) (named_proposals s)

      r5 : Option Note
      r5 = option_or a6 a7

      r4 : Option Note
      r4 = option_or a5 r5

      r3 : Option Note
      r3 = option_or a4 r4

      r2 : Option Note
      r2 = option_or a3 r3

      r1 : Option Note
      r1 = option_or a2 r2

      block : (c : Commitment) (n : Note) → Unit {0} → block_owed r s c ≡ Some n → Q n
      block c n u f =
          let (b, e, g) = and_then_some _ (shown r s.came c) n f in
          subst Q (when_some _ (Note.Block c b) n g).1
          (shown_can r.travel s.came c b parts e, shown_under r s.came c b e)

      cert : (v : Vote) (n : Note) → Unit {0} → cert_owed r id s v ≡ Some n → Q n
      cert v n u f = go (cases_Bool (has_cert s.notes v))
        where
          made : List ℕ → Note
          made signers = Note.Cert (record { vote = v; signers = signers })

          go : (has_cert s.notes v ≡ true) ⊎ (has_cert s.notes v ≡ false) → Q n
          go (inl t) =
              cc (cond-true (has_cert s.notes v) None (option_map made (signers_of r id s v)) t)
          go (inr none) =
              let (signers, e, g) =
              map_some made (signers_of r id s v) n
              (sym
              (cond-false (has_cert s.notes v) None
              (option_map made (signers_of r id s v)) none)
              ∙ f) in
              subst Q g tt

      certified : (p : Proposal) (n : Note) → Unit {0} → certified_owed r s p ≡ Some n → Q n
      certified p n u f = subst Q (when_some _ (Note.Certified p) n f).1 tt

      floor : (c : Commitment) (n : Note) → Unit {0} → floor_owed r s c ≡ Some n → Q n
      floor c n u f =
          let (b, e, g) = and_then_some _ (held r s.notes c) n f in
          subst Q (when_some _ (Note.Floor b.height) n g).1 tt

      notarize : (p : Proposal) (n : Note) → Unit {0} → notarize_owed r id s p ≡ Some n → Q n
      notarize p n u f = subst Q (when_some _ (Note.Vote (Notarize p)) n f).1 tt

      finalize : (p : Proposal) (n : Note) → Unit {0} → finalize_owed r id s p ≡ Some n → Q n
      finalize p n u f = subst Q (when_some _ (Note.Vote (Finalize p)) n f).1 tt

      six : (a6 ≡ Some note) ⊎ (a7 ≡ Some note) → Q note
      six (inl e) =
          first_some_at (notarize_owed r id s) (λ _. Unit {0}) Q (named_proposals s)
          (all_true (named_proposals s)) notarize note e
      six (inr e) =
          first_some_at (finalize_owed r id s) (λ _. Unit {0}) Q (named_proposals s)
          (all_true (named_proposals s)) finalize note e

      five : (a5 ≡ Some note) ⊎ (r5 ≡ Some note) → Q note
      five (inl e) =
          let (span, f, g) =
          and_then_some (λ span. reached_epoch r s.notes span (top_epoch r s.notes span))
          r.epochs.span note e in
          reached_can s.notes span (cluster.spans span f) a (top_epoch r s.notes span) note g
      five (inr e) = six (or_some a6 a7 note e)

      four : (a4 ≡ Some note) ⊎ (r4 ≡ Some note) → Q note
      four (inl e) =
          first_some_at (floor_owed r s) (λ _. Unit {0}) Q s.came.wishes (all_true s.came.wishes)
          floor note e
      four (inr e) = five (or_some a5 r5 note e)

      three : (a3 ≡ Some note) ⊎ (r3 ≡ Some note) → Q note
      three (inl e) =
          first_some_at (certified_owed r s) (λ _. Unit {0}) Q (named_proposals s)
          (all_true (named_proposals s)) certified note e
      three (inr e) = four (or_some a4 r4 note e)

      two : (a2 ≡ Some note) ⊎ (r2 ≡ Some note) → Q note
      two (inl e) =
          first_some_at (cert_owed r id s) (λ _. Unit {0}) Q (named_votes s)
          (all_true (named_votes s)) cert note e
      two (inr e) = three (or_some a3 r3 note e)

      one : (a1 ≡ Some note) ⊎ (r1 ≡ Some note) → Q note
      one (inl e) =
          first_some_at (block_owed r s) (λ _. Unit {0}) Q (named_commitments r s)
          (all_true (named_commitments r s)) block note e
      one (inr e) = two (or_some a2 r2 note e)

  settle_can : (id steps : ℕ) (s : State) → AllByRecursion (CanNote r) s.notes
      → AllByRecursion CanPart s.came.parts → AllByRecursion (CanNote r) (settle r id steps s)
  settle_can id zero s a parts = tt
  settle_can id (suc steps) s a parts =
      go (owed r id s) refl
      (λ note can. settle_can id steps (with_notes s (note ∷ []))
      (all_both (CanNote r) s.notes (note ∷ []) a (can, tt)) parts)
    where
      go : (o : Option Note) → owed r id s ≡ o
          → ((note : Note) → CanNote r note
          → AllByRecursion (CanNote r) (settle r id steps (with_notes s (note ∷ []))))
          → AllByRecursion (CanNote r)
          (option_map_or (λ note. note ∷ settle r id steps (with_notes s (note ∷ []))) o [])
      go None e later = tt
      go (Some note) e later = let can = owed_can id s a parts note e in (can, later note can)

  pub notes_can : (id : ℕ) (s : State) (e : Event) → AllByRecursion (CanNote r) s.notes
      → AllByRecursion CanPart s.came.parts → CanEvent e
      → AllByRecursion (CanNote r) (step_notes r id s e)
  notes_can id s e a parts can =
      let first = direct r id s e in
      let after = with_notes s first in
      let made = direct_can id s e a can in
      all_both (CanNote r) first (settle r id (marks after) after) made
      (settle_can id (marks after) after (all_both (CanNote r) s.notes first a made) parts)
