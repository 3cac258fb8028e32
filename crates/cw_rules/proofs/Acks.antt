-- Which notes acknowledge a height: none that a settling, a proposal or a timeout adds. The
-- greatest floor only rises.
use Rattle.std.proofs.Common.{◌≡◌, ℕ, zero, suc, ◌+◌, ◌-◌, ◌*◌, ◌^◌, ◌<◌, ◌≤◌, ◌==◌, ◌&&◌, Bool, true, false, cond, nat_le, nat_lt, List, [], ◌∷◌, ◌++◌, Option, Some, None, filter_map, option_map, option_and_then, refl, ◌∙◌, ap, subst, arith}
use Rattle.std.specs.Prelude.{not}
use Rattle.std.specs.List.{cons_option}
use Rattle.std.specs.Option.{option_map_or, option_or}
use Rattle.cw_types.specs.Block.{Block}
use Rattle.cw_types.specs.declared.commitment.Commitment.{Commitment}
use Rattle.cw_types.specs.declared.note.Note.{Note}
use Rattle.cw_types.specs.declared.vote.Proposal.{Proposal}
use Rattle.cw_types.specs.declared.vote.Vote.{Vote}
use Rattle.cw_types.specs.declared.vote.Vote.TheVariants.{Finalize, Notarize, Nullify}
use Rattle.cw_rules.specs.Accepted.{State, first_some}
use Rattle.cw_rules.specs.Direct.{best_parent, proposal_notes, propose_new, propose_over, proposed, proposed_block, timed_out}
use Rattle.cw_rules.specs.Held.{acked_height, at_height, greatest_floor, held, shown}
use Rattle.cw_types.specs.Epochs.{is_last, is_member, is_within, leader}
use Rattle.cw_rules.specs.Notes.{epoch_of, has_block, view_of}
use Rattle.cw_rules.specs.Owed.{has_closed, has_voted, block_owed, cert_owed, certified_owed, epoch_owed, finalize_owed, floor_owed, named_commitments, named_proposals, named_votes, notarize_owed, owed, reached_epoch, signers_of, top_epoch, when}
use Rattle.cw_rules.specs.Rules.{Rules, commit}
use Rattle.cw_rules.specs.Step.{settle, with_notes}

abbrev pub acks : List Note → List ℕ
acks notes = filter_map acked_height notes

pub acks_behind : (xs ys : List Note) → acks (xs ++ ys) ≡ acks xs ++ acks ys
acks_behind [] ys = refl
acks_behind (Note.Ack h ∷ xs) ys = ap (λ l. h ∷ l) (acks_behind xs ys)
acks_behind (_ ∷ xs) ys = acks_behind xs ys

-- what is owed acknowledges nothing
abbrev pub IsQuiet : Option Note → Type 0
IsQuiet o = (note : Note) → o ≡ Some note → acked_height note ≡ None

pub quiet_none : IsQuiet None
quiet_none note e = cc

pub quiet_some : (x : Note) → acked_height x ≡ None → IsQuiet (Some x)
quiet_some x q note e = let same : x ≡ note = cc in subst (λ n. acked_height n ≡ None) same q

pub quiet_when : (b : Bool) (x : Note) → acked_height x ≡ None → IsQuiet (when b x)
quiet_when true x q = quiet_some x q
quiet_when false x q = quiet_none

pub quiet_or : (a b : Option Note) → IsQuiet a → IsQuiet b → IsQuiet (option_or a b)
quiet_or None b p q = q
quiet_or (Some x) b p q = p

pub quiet_then : {X : Type 0} (f : X → Option Note) (o : Option X) → ((x : X) → IsQuiet (f x))
    → IsQuiet (option_and_then f o)
quiet_then f None p = quiet_none
quiet_then f (Some x) p = p x

pub quiet_map : {X : Type 0} (f : X → Note) (o : Option X) → ((x : X) → acked_height (f x) ≡ None)
    → IsQuiet (option_map f o)
quiet_map f None p = quiet_none
quiet_map f (Some x) p = quiet_some (f x) (p x)

pub quiet_else : (b : Bool) (o : Option Note) → IsQuiet o → IsQuiet (cond b None o)
quiet_else true o p = quiet_none
quiet_else false o p = p

pub quiet_first : {X : Type 0} (f : X → Option Note) (xs : List X) → ((x : X) → IsQuiet (f x))
    → IsQuiet (first_some f xs)
quiet_first f [] p = quiet_none
quiet_first f (x ∷ xs) p = quiet_or (f x) (first_some f xs) (p x) (quiet_first f xs p)

pub quiet_reached : (r : Rules) (notes : List Note) (span epoch : ℕ)
    → IsQuiet (reached_epoch r notes span epoch)
quiet_reached r notes span zero = quiet_none
quiet_reached r notes span (suc epoch) =
    let here = option_map (Note.Epoch (suc epoch)) (at_height r notes (suc epoch * span)) in
    quiet_else (nat_le (suc epoch) (epoch_of notes))
    (option_or here (reached_epoch r notes span epoch))
    (quiet_or here (reached_epoch r notes span epoch)
    (quiet_map (Note.Epoch (suc epoch)) (at_height r notes (suc epoch * span)) (λ c. refl))
    (quiet_reached r notes span epoch))

pub quiet_block : (r : Rules) (s : State) (c : Commitment) → IsQuiet (block_owed r s c)
quiet_block r s c = quiet_then _ (shown r s.came c) (λ b. quiet_when _ (Note.Block c b) refl)

pub quiet_cert : (r : Rules) (id : ℕ) (s : State) (v : Vote) → IsQuiet (cert_owed r id s v)
quiet_cert r id s v =
    quiet_else _ _
    (quiet_map (λ signers. Note.Cert (record { vote = v; signers = signers }))
    (signers_of r id s v) (λ signers. refl))

pub quiet_certified : (r : Rules) (s : State) (p : Proposal) → IsQuiet (certified_owed r s p)
quiet_certified r s p = quiet_when _ (Note.Certified p) refl

pub quiet_floor : (r : Rules) (s : State) (c : Commitment) → IsQuiet (floor_owed r s c)
quiet_floor r s c = quiet_then _ (held r s.notes c) (λ b. quiet_when _ (Note.Floor b.height) refl)

pub quiet_epoch : (r : Rules) (s : State) → IsQuiet (epoch_owed r s)
quiet_epoch r s =
    quiet_then _ r.epochs.span (λ span. quiet_reached r s.notes span (top_epoch r s.notes span))

pub quiet_notarize : (r : Rules) (id : ℕ) (s : State) (p : Proposal)
    → IsQuiet (notarize_owed r id s p)
quiet_notarize r id s p = quiet_when _ (Note.Vote (Notarize p)) refl

pub quiet_finalize : (r : Rules) (id : ℕ) (s : State) (p : Proposal)
    → IsQuiet (finalize_owed r id s p)
quiet_finalize r id s p = quiet_when _ (Note.Vote (Finalize p)) refl

pub owed_quiet : (r : Rules) (id : ℕ) (s : State) → IsQuiet (owed r id s)
owed_quiet r id s =
    let a = first_some (block_owed r s) (named_commitments r s) in
    let b = first_some (cert_owed r id s) (named_votes s) in
    let c = first_some (certified_owed r s) (named_proposals s) in
    let d = first_some (floor_owed r s) s.came.wishes in
    let f = first_some (notarize_owed r id s) (named_proposals s) in
    let g = first_some (finalize_owed r id s) (named_proposals s) in
    quiet_or a
    (option_or b (option_or c (option_or d (option_or (epoch_owed r s) (option_or f g)))))
    (quiet_first (block_owed r s) (named_commitments r s) (quiet_block r s))
    (quiet_or b (option_or c (option_or d (option_or (epoch_owed r s) (option_or f g))))
    (quiet_first (cert_owed r id s) (named_votes s) (quiet_cert r id s))
    (quiet_or c (option_or d (option_or (epoch_owed r s) (option_or f g)))
    (quiet_first (certified_owed r s) (named_proposals s) (quiet_certified r s))
    (quiet_or d (option_or (epoch_owed r s) (option_or f g))
    (quiet_first (floor_owed r s) s.came.wishes (quiet_floor r s))
    (quiet_or (epoch_owed r s) (option_or f g) (quiet_epoch r s)
    (quiet_or f g (quiet_first (notarize_owed r id s) (named_proposals s) (quiet_notarize r id s))
    (quiet_first (finalize_owed r id s) (named_proposals s) (quiet_finalize r id s)))))))

pub settle_quiet : (r : Rules) (id steps : ℕ) (s : State) → acks (settle r id steps s) ≡ []
settle_quiet r id zero s = refl
settle_quiet r id (suc steps) s =
    go (owed r id s) (owed_quiet r id s)
    (λ note. settle_quiet r id steps (with_notes s (note ∷ [])))
  where
    go : (o : Option Note) → IsQuiet o
        → ((note : Note) → acks (settle r id steps (with_notes s (note ∷ []))) ≡ [])
        → acks (option_map_or (λ note. note ∷ settle r id steps (with_notes s (note ∷ []))) o [])
        ≡ []
    go None quiet later = refl
    go (Some note) quiet later =
        (λ i. cons_option (quiet note refl i) (acks (settle r id steps (with_notes s (note ∷ [])))))
        ∙ later note

pub quiet_if : (b : Bool) (notes : List Note) → acks notes ≡ [] → acks (cond b notes []) ≡ []
quiet_if true notes e = e
quiet_if false notes e = refl

pub quiet_proposal : (r : Rules) (notes : List Note) (epoch view parent : ℕ) (b : Block)
    → acks (proposal_notes r notes epoch view parent b) ≡ []
quiet_proposal r notes epoch view parent b = go (has_block notes (commit r b))
  where
    go : (noted : Bool)
        → acks
        (cond noted [] (Note.Block (commit r b) b ∷ [])
        ++ Note.Verified epoch view (commit r b)
        ∷ Note.Vote (Notarize (record {
          epoch = epoch;
          view = view;
          parent = parent;
          payload = commit r b;
        }))
        ∷ [])
        ≡ []
    go true = refl
    go false = refl

pub quiet_new : (r : Rules) (notes : List Note) (epoch view : ℕ) (payload : List ℕ)
    (best : ℕ × Commitment × Block)
    → acks (propose_new r notes epoch view payload best) ≡ []
quiet_new r notes epoch view payload best =
    let b =
    proposed_block r (record { epoch = epoch; view = view; parent = best.0; payload = best.1 })
    best.1 best.2 payload in
    quiet_if
    (nat_lt b.height (2 ^ 64 - 1) && is_within r.epochs epoch b.height && r.accepts b best.2)
    (proposal_notes r notes epoch view best.0 b) (quiet_proposal r notes epoch view best.0 b)

pub quiet_over : (r : Rules) (notes : List Note) (epoch view : ℕ) (payload : List ℕ)
    (best : ℕ × Commitment × Block)
    → acks (propose_over r notes epoch view payload best) ≡ []
quiet_over r notes epoch view payload best =
    go (nat_lt 0 best.0 && is_last r.epochs epoch best.2.height)
  where
    go : (again : Bool)
        → acks
        (cond again
        (Note.Vote (Notarize (record {
          epoch = epoch;
          view = view;
          parent = best.0;
          payload = best.1;
        })) ∷ [])
        (propose_new r notes epoch view payload best))
        ≡ []
    go true = refl
    go false = quiet_new r notes epoch view payload best

pub quiet_proposed : (r : Rules) (id : ℕ) (notes : List Note) (payload : List ℕ)
    → acks (proposed r id notes payload) ≡ []
quiet_proposed r id notes payload =
    let epoch = epoch_of notes in
    let view = view_of notes epoch in
    quiet_if
    ((leader r.epochs epoch view == id) && nat_lt view (2 ^ 64 - 1)
    && not (has_voted notes epoch view))
    (option_map_or (propose_over r notes epoch view payload) (best_parent r notes epoch view)
    [])
    (go epoch view (best_parent r notes epoch view))
  where
    go : (epoch view : ℕ) (o : Option (ℕ × Commitment × Block))
        → acks (option_map_or (propose_over r notes epoch view payload) o []) ≡ []
    go epoch view None = refl
    go epoch view (Some best) = quiet_over r notes epoch view payload best

pub quiet_timeout : (r : Rules) (id : ℕ) (notes : List Note) (view : ℕ)
    → acks (timed_out r id notes view) ≡ []
quiet_timeout r id notes view =
    let epoch = epoch_of notes in
    quiet_if
    ((view == view_of notes epoch) && nat_lt view (2 ^ 64 - 1) && is_member r.epochs epoch id
    && not (has_closed notes epoch view))
    (Note.Vote (Nullify epoch view) ∷ []) refl

pub floor_grows : (xs ys : List Note) → greatest_floor xs ≤ greatest_floor (xs ++ ys)
floor_grows [] ys = omega arith
floor_grows (Note.Floor h ∷ xs) ys = omega (arith, floor_grows xs ys)
floor_grows (_ ∷ xs) ys = floor_grows xs ys
