-- A block of another's digest that a leader would build is told.
use Rattle.std.proofs.Common.{◌≡◌, ℕ, ◌+◌, true, false, not, List, [], ◌∷◌, Option, Some, filter_map, option_map, refl, ◌∙◌, ap, subst, arith}
use Rattle.std.specs.List.{enumerate_from, list_any}
use Rattle.std.specs.Option.{option_map_or}
use Rattle.std.proofs.lemmas.Bool.{and_from}
use Rattle.cw_types.specs.declared.note.Note.{Note}
use Rattle.cw_types.specs.declared.commitment.Commitment.{Commitment}
use Rattle.cw_types.specs.Block.{Block}
use Rattle.cw_types.specs.Same.{same_block, same_digest}
use Rattle.cw_types.proofs.Same.{same_digest_self}
use Rattle.cw_rules.specs.Chains.{blocks_of, collides, noted_block}
use Rattle.cw_rules.specs.Direct.{best_parent, proposed_block}
use Rattle.cw_rules.specs.Notes.{epoch_of, view_of}
use Rattle.cw_rules.specs.Reached.{In}
use Rattle.cw_rules.specs.Rules.{Rules, digest, genesis}
use Rattle.cw_rules.specs.Step.{Member, member_notes}
use Rattle.cw_rules.specs.World.{World, member_at}
use Rattle.cw_rules.proofs.Worlds.{member_there}
use Rattle.cw_progress.specs.Going.{builds_twin, numbered_members, would_build}
use Rattle.cw_progress.specs.Offered.{ComesToTwins}
use Rattle.cw_progress.proofs.OfferParents.{Best}
use Rattle.cw_progress.proofs.OfferParts.{enum_in, got_in}
use Rattle.cw_progress.proofs.Outs.{in_flat, mapped_in}
use Rattle.cw_progress.proofs.Quorum.{in_any}

-- what an honest member noted is among the blocks of the members
pub noted_among : (w : World) (i : ℕ) (m : Member) → member_at w i ≡ Some m → (c : Commitment)
    (b : Block)
    → In (Note.Block c b) (member_notes m) → In b (blocks_of w.members)
noted_among w i m at c b h =
    in_flat
    (λ (o : Option Member). option_map_or (λ x. filter_map noted_block (member_notes x)) o [])
    w.members (Some m) b (got_in w.members i (Some m) (member_there w i m at))
    (mapped_in noted_block (member_notes m) (Note.Block c b) b h refl)

-- an honest member stands among them with its number
numbered_in : (w : World) (i : ℕ) (m : Member) → member_at w i ≡ Some m
    → In (i, m) (numbered_members w)
numbered_in w i m at =
    let same : 0 + i ≡ i = omega arith in
    mapped_in
    (λ (x : ℕ × Option Member). option_map (λ (y : Member). (x.0, y)) x.1)
    (enumerate_from 0 w.members) (i, Some m) (i, m)
    (subst (λ k. In (k, Some m) (enumerate_from 0 w.members)) same
    (enum_in 0 w.members i (Some m) (member_there w i m at)))
    refl

-- the block that a member would build over the best parent
abbrev pub built : Rules → List ℕ → ℕ → ℕ → Best → Block
built r payload epoch view best =
    proposed_block r
    (record { epoch = epoch; view = view; parent = best.0; payload = best.1 }) best.1 best.2
    payload

module _ (r : Rules) (payload : List ℕ) (view : ℕ) (w : World) (l : ℕ) (n : Member)
    (at : member_at w l ≡ Some n) (first : epoch_of (member_notes n) ≡ 0)
    (here : view_of (member_notes n) 0 ≡ view) (best : Best)
    (found : best_parent r (member_notes n) 0 view ≡ Some best) where
  would : would_build r payload n ≡ Some (built r payload 0 view best)
  would =
      ap (λ e. at_views e (view_of (member_notes n) e)) first
      ∙ (ap (at_views 0) here ∙ ap (option_map (built r payload 0 view)) found)
    where
      at_views : ℕ → ℕ → Option Block
      at_views e v =
          option_map (built r payload e v) (best_parent r (member_notes n) e v)

  -- so another block of its digest is told
  pub twin_told : (x : Block) → In x (genesis r ∷ blocks_of w.members)
      → digest r x ≡ digest r (built r payload 0 view best)
      → same_block x (built r payload 0 view best) ≡ false → ComesToTwins r w payload
  twin_told x among digests other = record { lines = []; are = tt; shows = told }
    where
      b : Block
      b = built r payload 0 view best

      hit : collides r b x ≡ true
      hit =
          and_from (same_digest (digest r x) (digest r b)) (not (same_block x b))
          (subst (λ d. same_digest (digest r x) d ≡ true) digests (same_digest_self (digest r x)))
          (ap not other)

      told : builds_twin r payload w ≡ true
      told =
          in_any
          (λ (k : ℕ × Member). option_map_or
          (λ y. list_any (collides r y) (genesis r ∷ blocks_of w.members))
          (would_build r payload k.1) false)
          (numbered_members w) (l, n) (numbered_in w l n at)
          (ap
          (λ o. option_map_or
          (λ y. list_any (collides r y) (genesis r ∷ blocks_of w.members)) o false)
          would
          ∙ in_any (collides r b) (genesis r ∷ blocks_of w.members) x among hit)
