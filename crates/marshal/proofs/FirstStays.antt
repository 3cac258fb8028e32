-- The first finalization of a height stays, and where none is noted nothing is the latest.
use Rattle.std.proofs.Common.{◌≡◌, ◌⊎◌, inl, inr, ℕ, ◌==◌, true, false, if◌then◌else◌, List, [], ◌∷◌, ◌++◌, Option, Some, None, option_and_then, refl, sym, ◌∙◌, ap, subst}
use Rattle.std.specs.List.{cons_option, filter_map}
use Rattle.std.proofs.lemmas.Bool.{cases_Bool, cond-false, cond-true, eqb-true}
use Rattle.std.proofs.lemmas.Option.{none-some, same_Some}
use Rattle.cw_types.specs.Block.{Block}
use Rattle.cw_types.specs.declared.commitment.Commitment.{Commitment}
use Rattle.cw_types.specs.declared.note.Note.{Note}
use Rattle.cw_types.specs.declared.vote.Cert.{Cert}
use Rattle.cw_types.specs.declared.vote.Proposal.{Proposal}
use Rattle.cw_rules.specs.Held.{finalization_of, held, reached}
use Rattle.cw_rules.specs.Reached.{In}
use Rattle.cw_rules.specs.Rules.{Rules}
use Rattle.cw_rules.specs.Sends.{finalization_at}
use Rattle.cw_rules.proofs.Lists.{and_then_some, in_left}
use Rattle.marshal.specs.Bare.{reached_by}
use Rattle.marshal.specs.Finding.{finalization, highest_block, identified}
use Rattle.marshal.specs.Promises.{AgreeAt, IsUnpruned}
use Rattle.marshal.specs.declared.identifier.Identifier.{Identifier}
use Rattle.marshal.proofs.Growing.{filter_map_both, first_in, first_same, held_stays, reaches_itself}

pub in_filter : {X Y : Type 0} (f : X → Option Y) (x : X) (y : Y) (xs : List X) → In x xs → f x ≡ Some y
    → In y (filter_map f xs)
in_filter f x y [] i e = absurd i
in_filter {X} {Y} f x y (w ∷ ws) i e = go (f w) refl i (in_filter f x y ws)
  where
    go : (o : Option Y) → f w ≡ o → In x (w ∷ ws)
        → (In x ws → f x ≡ Some y → In y (filter_map f ws)) → In y (filter_map f (w ∷ ws))
    go None is (inl same) later = absurd (none-some y (sym is ∙ sym (ap f same) ∙ e))
    go None is (inr j) later = rw is (later j e)
    go (Some v) is (inl same) later = rw is (inl (same_Some y v (sym e ∙ ap f same ∙ is)))
    go (Some v) is (inr j) later = rw is (inr (later j e))

module _ (r : Rules) where
  -- a note that finalizes a held block of that height
  pub record Finalizes (notes : List Note) (h : ℕ) (note : Note) (cert : Cert) : Type 0 where
    pub proposal : Proposal
    pub block : Block
    pub finalizes : finalization_of note ≡ Some proposal
    pub is_held : held r notes proposal.payload ≡ Some block
    pub height : (block.height == h) ≡ true
    pub named : note ≡ Note.Cert cert

  pub final_is : (notes : List Note) (h : ℕ) (note : Note) (cert : Cert)
      → finalization_at r notes h note ≡ Some cert → Finalizes notes h note cert
  final_is notes h (Note.Cert t) cert e =
      let (p, f, u) =
      and_then_some
      (λ (p : Proposal). option_and_then
      (λ (b : Block). if b.height == h then Some t else None) (held r notes p.payload))
      (finalization_of (Note.Cert t)) cert e in
      let (b, k, v) =
      and_then_some (λ (b : Block). if b.height == h then Some t else None)
      (held r notes p.payload) cert u in
      go p b f k v (cases_Bool (b.height == h))
    where
      go : (p : Proposal) (b : Block) → finalization_of (Note.Cert t) ≡ Some p
          → held r notes p.payload ≡ Some b → (if b.height == h then Some t else None) ≡ Some cert
          → ((b.height == h) ≡ true) ⊎ ((b.height == h) ≡ false)
          → Finalizes notes h (Note.Cert t) cert
      go p b f k v (inl y) =
          record {
            proposal = p;
            block = b;
            finalizes = f;
            is_held = k;
            height = y;
            named =
                ap Note.Cert
                (same_Some t cert (sym (cond-true (b.height == h) (Some t) None y) ∙ v));
          }
      go p b f k v (inr n) =
          absurd (none-some cert (sym (cond-false (b.height == h) (Some t) None n) ∙ v))
  final_is notes h (Note.Block c b) cert e = absurd (none-some cert e)
  final_is notes h (Note.Verified x v c) cert e = absurd (none-some cert e)
  final_is notes h (Note.Certified p) cert e = absurd (none-some cert e)
  final_is notes h (Note.Vote v) cert e = absurd (none-some cert e)
  final_is notes h (Note.Ack x) cert e = absurd (none-some cert e)
  final_is notes h (Note.Floor x) cert e = absurd (none-some cert e)
  final_is notes h (Note.Prune x) cert e = absurd (none-some cert e)
  final_is notes h (Note.Epoch x c) cert e = absurd (none-some cert e)

  final_when : (notes : List Note) (h : ℕ) (t : Cert) (p : Proposal) (b : Block)
      → finalization_of (Note.Cert t) ≡ Some p → held r notes p.payload ≡ Some b
      → (b.height == h) ≡ true → finalization_at r notes h (Note.Cert t) ≡ Some t
  final_when notes h t p b f k y =
      ap
      (option_and_then
      (λ (q : Proposal). option_and_then
      (λ (x : Block). if x.height == h then Some t else None) (held r notes q.payload)))
      f
      ∙ ap (option_and_then (λ (x : Block). if x.height == h then Some t else None)) k
      ∙ cond-true (b.height == h) (Some t) None y

  module _ (notes more : List Note) (h : ℕ) (is : IsUnpruned (notes ++ more) h)
      (agree : AgreeAt r (notes ++ more) h) where
    -- a held finalized block reaches itself
    here : (p : Proposal) (b : Block) → held r (notes ++ more) p.payload ≡ Some b
        → (b.height == h) ≡ true → reached_by r (notes ++ more) h p ≡ Some p.payload
    here p b k y =
        ap (option_and_then (λ (x : Block). reached r (notes ++ more) x.height h p.payload x)) k
        ∙ reaches_itself r (notes ++ more) b.height h p.payload b y

    stays : (c : Commitment) (b : Block) → held r notes c ≡ Some b → (b.height == h) ≡ true
        → held r (notes ++ more) c ≡ Some b
    stays c b k y =
        held_stays r notes more c b k
        (subst (IsUnpruned (notes ++ more)) (sym (eqb-true b.height h y)) is)

    inside : (note : Note) (p : Proposal) → In note notes → finalization_of note ≡ Some p
        → In p (filter_map finalization_of (notes ++ more))
    inside note p i f =
        subst (In p) (sym (filter_map_both finalization_of notes more))
        (in_left p (filter_map finalization_of notes) (filter_map finalization_of more)
        (in_filter finalization_of note p notes i f))

    pub first_stays : (cert : Cert) → finalization r notes h ≡ Some cert
        → finalization r (notes ++ more) h ≡ Some cert
    first_stays cert e =
        first_same (finalization_at r notes h) (finalization_at r (notes ++ more) h) cert notes more
        none some e
      where
        won : (x : Note) × In x notes × (finalization_at r notes h x ≡ Some cert)
        won = first_in (finalization_at r notes h) notes cert e

        winner : Finalizes notes h won.0 cert
        winner = final_is notes h won.0 cert won.2

        some : (x : Note) → In x notes → finalization_at r notes h x ≡ Some cert
            → finalization_at r (notes ++ more) h x ≡ Some cert
        some x i f =
            let w = final_is notes h x cert f in
            ap (finalization_at r (notes ++ more) h) w.named
            ∙ final_when (notes ++ more) h cert w.proposal w.block
            (subst (λ n. finalization_of n ≡ Some w.proposal) w.named w.finalizes)
            (stays w.proposal.payload w.block w.is_held w.height) w.height

        none : (x : Note) → In x notes → finalization_at r notes h x ≡ None
            → finalization_at r (notes ++ more) h x ≡ None
        none x i f = go (finalization_at r (notes ++ more) h x) refl
          where
            go : (o : Option Cert) → finalization_at r (notes ++ more) h x ≡ o → o ≡ None
            go None g = refl
            go (Some t) g =
                absurd (none-some t (sym f ∙ ap (finalization_at r notes h) w.named ∙ before))
              where
                w : Finalizes (notes ++ more) h x t
                w = final_is (notes ++ more) h x t g

                one : w.proposal.payload ≡ winner.proposal.payload
                one =
                    agree w.proposal winner.proposal w.proposal.payload winner.proposal.payload
                    (inside x w.proposal i w.finalizes)
                    (inside won.0 winner.proposal won.1 winner.finalizes)
                    (here w.proposal w.block w.is_held w.height)
                    (here winner.proposal winner.block
                    (stays winner.proposal.payload winner.block winner.is_held
                    winner.height)
                    winner.height)

                before : finalization_at r notes h (Note.Cert t) ≡ Some t
                before =
                    final_when notes h t w.proposal winner.block
                    (subst (λ n. finalization_of n ≡ Some w.proposal) w.named w.finalizes)
                    (ap (held r notes) one ∙ winner.is_held) winner.height

  -- ---- the latest

  none_final : (held_by : Proposal → Option Block) (notes : List Note)
      → filter_map finalization_of notes ≡ []
      → filter_map (λ n. option_and_then held_by (finalization_of n)) notes ≡ []
  none_final held_by [] e = refl
  none_final held_by (n ∷ ns) e = go (finalization_of n) refl (none_final held_by ns)
    where
      go : (o : Option Proposal) → finalization_of n ≡ o
          → (filter_map finalization_of ns ≡ []
          → filter_map (λ x. option_and_then held_by (finalization_of x)) ns ≡ [])
          → filter_map (λ x. option_and_then held_by (finalization_of x)) (n ∷ ns) ≡ []
      go None is later =
          rw is (later (sym (ap (λ o. cons_option o (filter_map finalization_of ns)) is) ∙ e))
      go (Some p) is later =
          absurd
          (let bad : ◌≡◌ {A = List Proposal} (p ∷ filter_map finalization_of ns) [] =
          sym (ap (λ o. cons_option o (filter_map finalization_of ns)) is) ∙ e in
          cc)

  pub no_latest : (notes : List Note) → filter_map finalization_of notes ≡ []
      → identified r notes Identifier.Latest ≡ None
  no_latest notes e = ap highest_block (none_final (λ p. held r notes p.payload) notes e)
