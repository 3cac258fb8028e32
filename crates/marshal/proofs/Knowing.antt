-- What is known at each height, call by call.
use Rattle.std.proofs.Common.{◌≡◌, ℕ, ◌+◌, ◌<◌, ◌||◌, option_and_then, true, false, get_or, length, take, refl, sym, ◌∙◌, ap, subst, List, [], ◌∷◌, ◌++◌, Option, Some, None}
use Rattle.std.specs.List.{cons_option, filter_map, list_any}
use Rattle.std.specs.Option.{option_map_or}
use Rattle.std.proofs.lemmas.List.{append-nil, take_more}
use Rattle.std.proofs.lemmas.Option.{none-some}
use Rattle.cw_types.specs.Block.{Block}
use Rattle.cw_types.specs.declared.commitment.Commitment.{Commitment}
use Rattle.cw_types.specs.declared.note.Note.{Note}
use Rattle.cw_types.specs.declared.vote.Proposal.{Proposal}
use Rattle.cw_rules.specs.Held.{finalization_of, held, noted_block_of}
use Rattle.cw_rules.specs.Rules.{Rules}
use Rattle.marshal.specs.Heights.{HaveReached, IsWalked, TellsReached, TellsReachedOfAll, becomes_held, is_awaited, is_upper, there}
use Rattle.marshal.specs.Reach.{is_final}
use Rattle.marshal.specs.declared.by_height.ByHeight.{ByHeight}
use Rattle.marshal.proofs.Behind.{reached_awaited, reached_less, reached_unawaited, shrinks_block, shrinks_other}
use Rattle.marshal.proofs.Entering.{Entries}
use Rattle.marshal.proofs.Growing.{filter_map_both}
use Rattle.marshal.proofs.Lookups.{more_reached, none_reached}

-- the finalizations of one note more
pub finals_on : (xs : List Note) (i : ℕ) (x : Note) → i < length xs → x ≡ get_or xs i x
    → filter_map finalization_of (take i xs) ++ filter_map finalization_of (x ∷ [])
    ≡ filter_map finalization_of (take (i + 1) xs)
finals_on xs i x inside is =
    sym (filter_map_both finalization_of (take i xs) (x ∷ []))
    ∙ ap (filter_map finalization_of)
    (ap (λ (y : Note). take i xs ++ y ∷ []) is ∙ sym (take_more xs i x inside))

-- nothing is reached by none
pub known_none : (r : Rules) (notes : List Note) (at : Entries) → at ≡ []
    → HaveReached r notes [] at
known_none r notes at none = record {
  whole = λ h c x. absurd x.1;
  sound = λ h c high e. absurd (none-some c (sym (ap (λ (es : Entries). there h es) none) ∙ e));
}

module _ (r : Rules) (notes : List Note) where
  -- ---- a finalization more

  finals_with : (finals : List Proposal) (note : Note) (at : Entries) (o : Option Proposal)
      → finalization_of note ≡ o → HaveReached r notes (finals ++ cons_option o []) at
      → HaveReached r notes (finals ++ filter_map finalization_of (note ∷ [])) at
  finals_with finals note at o is have =
      subst (λ (x : Option Proposal). HaveReached r notes (finals ++ cons_option x []) at) (sym is)
      have

  pub put_entered : (old new : ByHeight) (note : Note) (p : Proposal) (b : Block)
      → (new.known ≡ true → old.known ≡ true)
      → (new.known ≡ true → IsWalked r notes p.payload b old.at.entries new.at.entries)
      → finalization_of note ≡ Some p → held r notes p.payload ≡ Some b
      → (finals : List Proposal) → TellsReached r notes finals old
      → TellsReached r notes (finals ++ filter_map finalization_of (note ∷ [])) new
  put_entered old new note p b known entered is stands finals knows so =
      finals_with finals note new.at.entries (Some p) is
      (more_reached r notes finals old.at.entries (knows (known so)) p b new.at.entries stands
      (entered so))

  pub put_unheld : (old : ByHeight) (note : Note) (p : Proposal) → finalization_of note ≡ Some p
      → held r notes p.payload ≡ None → (finals : List Proposal) → TellsReached r notes finals old
      → TellsReached r notes (finals ++ filter_map finalization_of (note ∷ [])) old
  put_unheld old note p is none finals knows so =
      finals_with finals note old.at.entries (Some p) is
      (none_reached r notes finals old.at.entries (knows so) p none)

  pub put_other : (old : ByHeight) (note : Note) → finalization_of note ≡ None
      → (finals : List Proposal) → TellsReached r notes finals old
      → TellsReached r notes (finals ++ filter_map finalization_of (note ∷ [])) old
  put_other old note is finals knows so =
      finals_with finals note old.at.entries None is
      (subst (λ (ps : List Proposal). HaveReached r notes ps old.at.entries)
      (sym (append-nil finals)) (knows so))

  -- ---- a note behind the others

  all_finals : (note : Note)
      → filter_map finalization_of (notes ++ note ∷ [])
      ≡ filter_map finalization_of notes ++ filter_map finalization_of (note ∷ [])
  all_finals note = filter_map_both finalization_of notes (note ∷ [])

  no_block : (note : Note) → ((c : Commitment) (b : Block) → note ≡ Note.Block c b → ⊥)
      → (c : Commitment) → noted_block_of c note ≡ None
  no_block (Note.Block d b) other c = absurd (other d b refl)
  no_block (Note.Verified e v d) other c = refl
  no_block (Note.Certified p) other c = refl
  no_block (Note.Vote v) other c = refl
  no_block (Note.Cert s) other c = refl
  no_block (Note.Ack h) other c = refl
  no_block (Note.Floor h) other c = refl
  no_block (Note.Prune h) other c = refl
  no_block (Note.Epoch e d) other c = refl

  pub knows_other : (new : ByHeight) (note : Note)
      → ((c : Commitment) (b : Block) → note ≡ Note.Block c b → ⊥)
      → TellsReached r notes
      (filter_map finalization_of notes ++ filter_map finalization_of (note ∷ [])) new
      → TellsReachedOfAll r (notes ++ note ∷ []) new
  knows_other new note other knows so =
      subst (λ (ps : List Proposal). HaveReached r (notes ++ note ∷ []) ps new.at.entries)
      (sym (all_finals note))
      (reached_less r notes (note ∷ [])
      (filter_map finalization_of notes ++ filter_map finalization_of (note ∷ []))
      new.at.entries (knows so) (shrinks_other r notes note (no_block note other)))

  module _ (c : Commitment) (b : Block) where
    with_block : (at : Entries)
        → HaveReached r (notes ++ Note.Block c b ∷ []) (filter_map finalization_of notes) at
        → HaveReached r (notes ++ Note.Block c b ∷ [])
        (filter_map finalization_of (notes ++ Note.Block c b ∷ [])) at
    with_block at have =
        subst (λ (ps : List Proposal). HaveReached r (notes ++ Note.Block c b ∷ []) ps at)
        (sym (all_finals (Note.Block c b) ∙ append-nil (filter_map finalization_of notes))) have

    pub knows_block : (heights : ByHeight) → becomes_held r notes c b ≡ false
        → TellsReachedOfAll r notes heights → TellsReachedOfAll r (notes ++ Note.Block c b ∷ []) heights
    knows_block heights isnt knows so =
        with_block heights.at.entries
        (reached_less r notes (Note.Block c b ∷ []) (filter_map finalization_of notes)
        heights.at.entries (knows so) (shrinks_block r notes c b isnt))

    pub knows_unawaited : (heights : ByHeight) → becomes_held r notes c b ≡ true
        → is_awaited r notes heights.at.entries c b.height ≡ false → TellsReachedOfAll r notes heights
        → TellsReachedOfAll r (notes ++ Note.Block c b ∷ []) heights
    knows_unawaited heights yes_held isnt knows so =
        with_block heights.at.entries
        (reached_unawaited r notes c b yes_held heights.at.entries (knows so) isnt)

    pub knows_awaited : (old new : ByHeight) → becomes_held r notes c b ≡ true
        → is_awaited r notes old.at.entries c b.height ≡ true
        → (new.known ≡ true → old.known ≡ true)
        → (new.known ≡ true → IsWalked r notes c b old.at.entries new.at.entries)
        → TellsReachedOfAll r notes old → TellsReachedOfAll r (notes ++ Note.Block c b ∷ []) new
    knows_awaited old new yes_held awaits known entered knows so =
        with_block new.at.entries
        (reached_awaited r notes c b yes_held old.at.entries (knows (known so)) new.at.entries
        (entered so) awaits)

-- ---- whether a block is awaited, case by case

module _ (r : Rules) (notes : List Note) (at : Entries) (c : Commitment) (height : ℕ) where
  pub awaited_final : list_any (is_final c) notes ≡ true → true ≡ is_awaited r notes at c height
  awaited_final some =
      sym
      (ap (λ s. s || option_map_or (is_upper height c)
      (option_and_then (held r notes) (there (height + 1) at)) false)
      some)

  module _ (none : list_any (is_final c) notes ≡ false) where
    above : (o : Option Commitment) → there (height + 1) at ≡ o
        → option_map_or (is_upper height c) (option_and_then (held r notes) o) false
        ≡ is_awaited r notes at c height
    above o is =
        sym
        (ap (λ s. s || option_map_or (is_upper height c)
        (option_and_then (held r notes) (there (height + 1) at)) false)
        none
        ∙ ap (λ (x : Option Commitment).
        option_map_or (is_upper height c) (option_and_then (held r notes) x) false)
        is)

    pub awaited_upper : (w : Commitment) (u : Block) → there (height + 1) at ≡ Some w
        → held r notes w ≡ Some u → is_upper height c u ≡ is_awaited r notes at c height
    awaited_upper w u stands is =
        sym (ap (λ (o : Option Block). option_map_or (is_upper height c) o false) is)
        ∙ above (Some w) stands

    pub awaited_unheld : (w : Commitment) → there (height + 1) at ≡ Some w
        → held r notes w ≡ None → false ≡ is_awaited r notes at c height
    awaited_unheld w stands is =
        sym (ap (λ (o : Option Block). option_map_or (is_upper height c) o false) is)
        ∙ above (Some w) stands

    pub awaited_nowhere : there (height + 1) at ≡ None → false ≡ is_awaited r notes at c height
    awaited_nowhere is = above None is
