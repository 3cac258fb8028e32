-- The proposals of each view, where one more is named.
use Rattle.std.proofs.Common.{◌≡◌, ◌&&◌, ◌==◌, Bool, true, false, cond, refl, sym, ◌∙◌, ap, subst, if◌then◌else◌, List, [], ◌∷◌, ◌++◌, filter, Option, Some, None}
use Rattle.std.specs.Prelude.{◌<◌, Vec, vec_capacity, vec_len}
use Rattle.std.specs.declared.alloc.Global.{Global}
use Rattle.std.specs.List.{list_any}
use Rattle.std.specs.Map.{lookup}
use Rattle.std.specs.Option.{is_some, option_map_or, option_or}
use Rattle.std.specs.Ordering.{is_eq}
use Rattle.std.proofs.lemmas.Cmp.{nat_eq_equiv}
use Rattle.std.proofs.lemmas.List.Elements.{filter-append}
use Rattle.std.proofs.lemmas.Option.{same_Some}
use Rattle.cw_types.specs.Same.{same_proposal}
use Rattle.cw_types.proofs.Same.{same_commitment_self}
use Rattle.cw_types.specs.declared.vote.Proposal.{Proposal}
use Rattle.note_scans.specs.Keys.{in_view, no_payload, same_key}
use Rattle.note_scans.specs.declared.key.VoteKey.{VoteKey}
use Rattle.note_scans.proofs.Keys.{found_key, key_cmp, keys_tie, same_key-true, same_key_self, same_key_symm}
use Rattle.voter.specs.Lineup.{without_repeats}
use Rattle.voter.specs.Views.{HasKey, HasRoomAt, HasViews, is_in, listed_at}
use Rattle.voter.proofs.Lineups.{named_again, named_first, proposals_keyed}
use Rattle.voter.proofs.Saying.{PutFirst, first_put}

abbrev pub Listed : Type 0
Listed = List (VoteKey × Vec Proposal Global)

-- a list is put at a key
abbrev pub Sets : VoteKey → Vec Proposal Global → Listed → Listed → Type 0
Sets k l old new =
    (q : VoteKey) → lookup (λ (j : VoteKey). is_eq (key_cmp q j)) new
    ≡ cond (is_eq (key_cmp k q)) (Some l) (lookup (λ (j : VoteKey). is_eq (key_cmp q j)) old)

set_at : (k : VoteKey) (l : Vec Proposal Global) (old new : Listed) → Sets k l old new
    → (q : VoteKey) → lookup (same_key q) new ≡ cond (same_key q k) (Some l) (lookup (same_key q) old)
set_at k l old new sets q =
    sym (found_key new q)
    ∙ (sets q
    ∙ (ap (λ b. cond b (Some l) (lookup (λ (j : VoteKey). is_eq (key_cmp q j)) old))
    (sym (keys_tie k q) ∙ same_key_symm k q)
    ∙ ap (λ (o : Option (Vec Proposal Global)). cond (same_key q k) (Some l) o)
    (found_key old q)))

abbrev pub items_in : Option (Vec Proposal Global) → List Proposal
items_in o = option_map_or (λ l. l.items) o []

-- an empty list is put where there was none
pub views_put : (old new : Listed) (k : VoteKey) (l : Vec Proposal Global) → l.items ≡ []
    → PutFirst old new k l → (named : List Proposal) → HasViews named old → HasViews named new
views_put old new k l none puts named has epoch view =
    ap items_in (first_put old new k l puts (in_view 9 epoch view))
    ∙ (go (lookup (same_key (in_view 9 epoch view)) old) (same_key (in_view 9 epoch view) k)
    ∙ has epoch view)
  where
    go : (o : Option (Vec Proposal Global)) (b : Bool)
        → items_in (option_or o (if b then Some l else None)) ≡ items_in o
    go None true = none
    go None false = refl
    go (Some m) b = refl

-- a list with the same items is put
pub views_same : (old new : Listed) (k : VoteKey) (was l : Vec Proposal Global)
    → lookup (same_key k) old ≡ Some was → l.items ≡ was.items → Sets k l old new
    → (named : List Proposal) → HasViews named old → HasViews named new
views_same old new k was l at same sets named has epoch view =
    ap items_in (set_at k l old new sets (in_view 9 epoch view))
    ∙ (go (same_key (in_view 9 epoch view) k) refl ∙ has epoch view)
  where
    go : (b : Bool) → same_key (in_view 9 epoch view) k ≡ b
        → items_in (cond b (Some l) (lookup (same_key (in_view 9 epoch view)) old))
        ≡ listed_at (in_view 9 epoch view) old
    go true e =
        same
        ∙ sym
        (ap (λ q. items_in (lookup (same_key q) old)) (same_key-true (in_view 9 epoch view) k e)
        ∙ ap items_in at)
    go false e = refl

-- whether a view is that of the proposal
view_keys : (epoch view : _) (p : Proposal)
    → same_key (in_view 9 epoch view) (in_view 9 p.epoch p.view) ≡ is_in epoch view p
view_keys epoch view p =
    ap
    (λ b. (epoch == p.epoch) && ((view == p.view) && b))
    (same_commitment_self no_payload)
    ∙ (ap (λ b. b && ((view == p.view) && true)) (nat_eq_equiv.symm epoch p.epoch)
    ∙ (ap (λ b. (p.epoch == epoch) && (b && true)) (nat_eq_equiv.symm view p.view)
    ∙ ap (λ b. (p.epoch == epoch) && b) (and_true (p.view == view))))
  where
    and_true : (b : Bool) → (b && true) ≡ b
    and_true true = refl
    and_true false = refl

-- one more is put at the end of its view
pub views_more : (old new : Listed) (p : Proposal) (was l : Vec Proposal Global)
    → lookup (same_key (in_view 9 p.epoch p.view)) old ≡ Some was
    → l.items ≡ was.items ++ p ∷ [] → Sets (in_view 9 p.epoch p.view) l old new
    → (named : List Proposal) → list_any (same_proposal p) named ≡ false → HasViews named old
    → HasViews (named ++ p ∷ []) new
views_more old new p was l at more sets named none has epoch view =
    ap items_in (set_at (in_view 9 p.epoch p.view) l old new sets (in_view 9 epoch view))
    ∙ (go (same_key (in_view 9 epoch view) (in_view 9 p.epoch p.view)) refl
    ∙ sym
    (ap (filter (is_in epoch view))
    (named_first same_key _ same_proposal proposals_keyed named p none)
    ∙ filter-append (is_in epoch view) (without_repeats same_proposal named) (p ∷ [])))
  where
    go : (b : Bool) → same_key (in_view 9 epoch view) (in_view 9 p.epoch p.view) ≡ b
        → items_in (cond b (Some l) (lookup (same_key (in_view 9 epoch view)) old))
        ≡ filter (is_in epoch view) (without_repeats same_proposal named)
        ++ cond (is_in epoch view p) (p ∷ []) []
    go true e =
        more
        ∙ (ap (λ (o : Option (Vec Proposal Global)). items_in o ++ p ∷ [])
        (sym at
        ∙ ap (λ q. lookup (same_key q) old)
        (sym (same_key-true (in_view 9 epoch view) (in_view 9 p.epoch p.view) e)))
        ∙ (ap (λ ps. ps ++ p ∷ []) (has epoch view)
        ∙ ap
        (λ b. filter (is_in epoch view) (without_repeats same_proposal named) ++ cond b (p ∷ []) [])
        (sym e ∙ view_keys epoch view p)))
    go false e =
        has epoch view
        ∙ (sym (append_none (filter (is_in epoch view) (without_repeats same_proposal named)))
        ∙ ap
        (λ b. filter (is_in epoch view) (without_repeats same_proposal named) ++ cond b (p ∷ []) [])
        (sym e ∙ view_keys epoch view p))
      where
        append_none : (ps : List Proposal) → ps ++ [] ≡ ps
        append_none [] = refl
        append_none (q ∷ ps) = ap (λ rs. q ∷ rs) (append_none ps)

-- one that is named again
pub views_again : (entries : Listed) (p : Proposal) (named : List Proposal)
    → list_any (same_proposal p) named ≡ true → HasViews named entries
    → HasViews (named ++ p ∷ []) entries
views_again entries p named there has epoch view =
    has epoch view
    ∙ ap (filter (is_in epoch view))
    (sym (named_again same_key _ same_proposal proposals_keyed named p there))

-- a key that is put is there
pub key_is_there : (old new : Listed) (k : VoteKey) (l : Vec Proposal Global) → PutFirst old new k l
    → HasKey k new
key_is_there old new k l puts =
    ap (λ (o : Option (Vec Proposal Global)). is_some o) (first_put old new k l puts k)
    ∙ (ap (λ b. is_some (option_or (lookup (same_key k) old) (if b then Some l else None)))
    (same_key_self k)
    ∙ go (lookup (same_key k) old))
  where
    go : (o : Option (Vec Proposal Global)) → is_some (option_or o (Some l)) ≡ true
    go None = refl
    go (Some m) = refl

-- a list that is put at a key is there
pub key_stays : (k : VoteKey) (l : Vec Proposal Global) (old new : Listed) → Sets k l old new
    → HasKey k new
key_stays k l old new sets =
    ap (λ (o : Option (Vec Proposal Global)). is_some o) (set_at k l old new sets k)
    ∙ ap (λ b. is_some (cond b (Some l) (lookup (same_key k) old))) (same_key_self k)

-- and the room that it has
pub room_stays : (k : VoteKey) (l : Vec Proposal Global) (old new : Listed) → Sets k l old new
    → vec_len l < vec_capacity l → HasRoomAt k new
room_stays k l old new sets room m at =
    subst (λ (x : Vec Proposal Global). vec_len x < vec_capacity x)
    (same_Some l m
    (sym
    (set_at k l old new sets k
    ∙ ap (λ b. cond b (Some l) (lookup (same_key k) old)) (same_key_self k))
    ∙ at))
    room
