-- What is settled and what is over, with one note more, and in the words of the rules.
use Rattle.std.proofs.Common.{◌≡◌, ℕ, ◌&&◌, ◌==◌, Bool, true, false, cond, if◌then◌else◌, max, refl, sym, subst, ◌∙◌, ap, arith, eqb-true, List, [], ◌∷◌, ◌++◌, Option, Some, None, option_map, unwrap_or}
use Rattle.std.specs.Cmp.{unsigned_ties}
use Rattle.std.specs.List.{cons_option, filter_map, find}
use Rattle.std.specs.Map.{lookup}
use Rattle.std.specs.Option.{is_some, option_map_or, option_or}
use Rattle.std.specs.Ordering.{is_eq, nat_cmp}
use Rattle.std.specs.Prelude.{IsSome, nat_eq, option_and_then}
use Rattle.std.proofs.lemmas.Cmp.{nat_eq_equiv}
use Rattle.std.proofs.lemmas.List.Elements.{filter_map-append}
use Rattle.cw_types.specs.Votes.{finalized}
use Rattle.cw_types.specs.declared.commitment.Commitment.{Commitment}
use Rattle.cw_types.specs.declared.note.Note.{Note}
use Rattle.cw_types.specs.declared.vote.Proposal.{Proposal}
use Rattle.cw_types.specs.declared.vote.Vote.{Vote}
use Rattle.cw_types.specs.declared.vote.Vote.TheVariants.{Finalize, Notarize, Nullify}
use Rattle.cw_rules.specs.Accepted.{first_some}
use Rattle.cw_rules.specs.Notes.{ended, ended_by, ends_in, epoch_entered, greatest, settler, settling}
use Rattle.voter.specs.Facts.{HasEnded, HasFirstSettled, IsEndThere, ended_at, ending, ending_vote, greatest_ended, settled_at, settled_by, settles}
use Rattle.note_scans.specs.Keys.{in_view, same_key}
use Rattle.note_scans.specs.declared.key.VoteKey.{VoteKey}
use Rattle.voter.proofs.Saying.{PutFirst, first_put, same_view, some_there}

pub or_none : {X : Type 0} (o : Option X) → option_or o None ≡ o
or_none None = refl
or_none (Some x) = refl

or_more : {X : Type 0} (x y z : Option X)
    → option_or x (option_or y z) ≡ option_or (option_or x y) z
or_more None y z = refl
or_more (Some v) y z = refl

pub first_more : {X Y : Type 0} (f : X → Option Y) (xs : List X) (x : X)
    → first_some f (xs ++ x ∷ []) ≡ option_or (first_some f xs) (f x)
first_more f [] x = or_none (f x)
first_more f (y ∷ ys) x =
    ap (option_or (f y)) (first_more f ys x) ∙ or_more (f y) (first_some f ys) (f x)

-- ---- what is settled

pub settled_with : (old new : List (VoteKey × Commitment)) (notes : List Note) (note : Note)
    (k : VoteKey) (c : Commitment) → HasFirstSettled notes old → settles note ≡ Some (k, c)
    → PutFirst old new k c → HasFirstSettled (notes ++ note ∷ []) new
settled_with old new notes note k c has is puts q =
    first_put old new k c puts q
    ∙ (ap (λ (o : Option Commitment). option_or o (if same_key q k then Some c else None)) (has q)
    ∙ (ap
    (λ (o : Option (VoteKey × Commitment)). option_or (first_some (settled_at q) notes)
    (option_and_then (λ e. if same_key q e.0 then Some e.1 else None) o))
    (sym is)
    ∙ sym (first_more (settled_at q) notes note)))

pub settled_same : (es : List (VoteKey × Commitment)) (notes : List Note) (note : Note)
    → HasFirstSettled notes es → settles note ≡ None → HasFirstSettled (notes ++ note ∷ []) es
settled_same es notes note has none q =
    has q
    ∙ (sym (or_none (first_some (settled_at q) notes))
    ∙ (ap
    (λ (o : Option (VoteKey × Commitment)). option_or (first_some (settled_at q) notes)
    (option_and_then (λ e. if same_key q e.0 then Some e.1 else None) o))
    (sym none)
    ∙ sym (first_more (settled_at q) notes note)))

-- in the words of the rules
pub settled_view : (epoch view : ℕ) (notes : List Note)
    → first_some (settled_at (in_view 6 epoch view)) notes
    ≡ option_map (λ (p : Proposal). p.payload) (settler notes epoch view)
settled_view epoch view [] = refl
settled_view epoch view (note ∷ notes) = go note (settled_view epoch view notes)
  where
    rest : Option Commitment
    rest = first_some (settled_at (in_view 6 epoch view)) notes

    put : (p : Proposal)
        → rest ≡ option_map (λ (p : Proposal). p.payload) (settler notes epoch view)
        → option_or
        (if same_key (in_view 6 epoch view) (in_view 6 p.epoch p.view) then Some p.payload
        else None)
        rest
        ≡ option_map (λ (p : Proposal). p.payload)
        (if (p.epoch == epoch) && (p.view == view) then Some p else settler notes epoch view)
    put p more =
        ap (λ b. option_or (if b then Some p.payload else None) rest)
        (same_view 6 epoch view p.epoch p.view)
        ∙ by ((p.epoch == epoch) && (p.view == view))
      where
        by : (b : Bool) → option_or (if b then Some p.payload else None) rest
            ≡ option_map (λ (p : Proposal). p.payload)
            (if b then Some p else settler notes epoch view)
        by true = refl
        by false = more

    cert : (v : Vote)
        → rest ≡ option_map (λ (p : Proposal). p.payload) (settler notes epoch view)
        → option_or
        (option_and_then
        (λ (e : VoteKey × Commitment). if same_key (in_view 6 epoch view) e.0 then Some e.1
        else None)
        (option_map settled_by (finalized v))) rest
        ≡ option_map (λ (p : Proposal). p.payload)
        (find (λ (p : Proposal). (p.epoch == epoch) && (p.view == view))
        (cons_option (finalized v) (filter_map settling notes)))
    cert (Notarize p) more = more
    cert (Nullify e w) more = more
    cert (Finalize p) more = put p more

    go : (n : Note)
        → rest ≡ option_map (λ (p : Proposal). p.payload) (settler notes epoch view)
        → option_or (settled_at (in_view 6 epoch view) n) rest
        ≡ option_map (λ (p : Proposal). p.payload) (settler (n ∷ notes) epoch view)
    go (Note.Block c b) more = more
    go (Note.Verified e w c) more = more
    go (Note.Certified p) more = put p more
    go (Note.Vote w) more = more
    go (Note.Cert s) more = cert s.vote more
    go (Note.Ack h) more = more
    go (Note.Floor h) more = more
    go (Note.Prune h) more = more
    go (Note.Epoch e c) more = more

pub settled_epoch : (epoch : ℕ) (notes : List Note)
    → first_some (settled_at (in_view 7 epoch 0)) notes
    ≡ option_map (λ (e : ℕ × Commitment). e.1)
    (find (λ (e : ℕ × Commitment). e.0 == epoch) (filter_map epoch_entered notes))
settled_epoch epoch [] = refl
settled_epoch epoch (note ∷ notes) = go note (settled_epoch epoch notes)
  where
    rest : Option Commitment
    rest = first_some (settled_at (in_view 7 epoch 0)) notes

    found : Option (ℕ × Commitment)
    found = find (λ (e : ℕ × Commitment). e.0 == epoch) (filter_map epoch_entered notes)

    and_true : (b : Bool) → (b && true) ≡ b
    and_true true = refl
    and_true false = refl

    by : (e : ℕ) (c : Commitment) (b : Bool)
        → rest ≡ option_map (λ (x : ℕ × Commitment). x.1) found
        → option_or (if b then Some c else None) rest
        ≡ option_map (λ (x : ℕ × Commitment). x.1) (if b then Some (e, c) else found)
    by e c true more = refl
    by e c false more = more

    cert : (v : Vote)
        → rest ≡ option_map (λ (x : ℕ × Commitment). x.1) found
        → option_or
        (option_and_then
        (λ (e : VoteKey × Commitment). if same_key (in_view 7 epoch 0) e.0 then Some e.1 else None)
        (option_map settled_by (finalized v))) rest
        ≡ option_map (λ (x : ℕ × Commitment). x.1) found
    cert (Notarize p) more = more
    cert (Nullify e w) more = more
    cert (Finalize p) more = more

    go : (n : Note)
        → rest ≡ option_map (λ (x : ℕ × Commitment). x.1) found
        → option_or (settled_at (in_view 7 epoch 0) n) rest
        ≡ option_map (λ (x : ℕ × Commitment). x.1)
        (find (λ (x : ℕ × Commitment). x.0 == epoch) (filter_map epoch_entered (n ∷ notes)))
    go (Note.Block c b) more = more
    go (Note.Verified e w c) more = more
    go (Note.Certified p) more = more
    go (Note.Vote w) more = more
    go (Note.Cert s) more = cert s.vote more
    go (Note.Ack h) more = more
    go (Note.Floor h) more = more
    go (Note.Prune h) more = more
    go (Note.Epoch e c) more =
        ap (λ b. option_or (if b then Some c else None) rest)
        (same_view 7 epoch 0 e 0 ∙ and_true (e == epoch))
        ∙ by e c (e == epoch) more

-- ---- what is over

greatest_more : (xs ys : List ℕ) → greatest (xs ++ ys) ≡ max (greatest xs) (greatest ys)
greatest_more [] ys = omega arith
greatest_more (x ∷ xs) ys = ap (max x) (greatest_more xs ys) ∙ omega arith

ended_more : (notes : List Note) (note : Note) (epoch : ℕ)
    → greatest_ended (notes ++ note ∷ []) epoch
    ≡ max (greatest_ended notes epoch) (greatest (cons_option (ended epoch note) []))
ended_more notes note epoch =
    ap greatest (filter_map-append (ended epoch) notes (note ∷ []))
    ∙ greatest_more (filter_map (ended epoch) notes) (cons_option (ended epoch note) [])

-- a note ends the view that it ends, in its epoch alone
ended_is : (note : Note) (epoch : ℕ)
    → ended epoch note
    ≡ option_map_or (λ (e : ℕ × ℕ). ends_in epoch e.0 e.1) (ending note) None
ended_is (Note.Block c b) epoch = refl
ended_is (Note.Verified e w c) epoch = refl
ended_is (Note.Certified p) epoch = refl
ended_is (Note.Vote v) epoch = refl
ended_is (Note.Cert s) epoch = cert s.vote
  where
    cert : (v : Vote) → ended_by epoch v
        ≡ option_map_or (λ (e : ℕ × ℕ). ends_in epoch e.0 e.1) (ending_vote v) None
    cert (Notarize p) = refl
    cert (Nullify e v) = refl
    cert (Finalize p) = refl
ended_is (Note.Ack h) epoch = refl
ended_is (Note.Floor h) epoch = refl
ended_is (Note.Prune h) epoch = refl
ended_is (Note.Epoch e c) epoch = refl

pub found_nat : {X : Type 0} (es : List (ℕ × X)) (i : ℕ)
    → lookup (λ (k : ℕ). is_eq (nat_cmp i k)) es ≡ lookup (nat_eq i) es
found_nat [] i = refl
found_nat {X = X} (e ∷ es) i =
    ap (λ b. cond b (Some e.1) (lookup (λ (k : ℕ). is_eq (nat_cmp i k)) es))
    (sym (unsigned_ties i e.0))
    ∙ ap (λ (o : Option X). cond (nat_eq i e.0) (Some e.1) o) (found_nat es i)

abbrev pub PutNat : List (ℕ × ℕ) → List (ℕ × ℕ) → ℕ → Type 0
PutNat old new k =
    (q : ℕ) → lookup (λ (j : ℕ). is_eq (nat_cmp q j)) new
    ≡ option_or (lookup (λ (j : ℕ). is_eq (nat_cmp q j)) old)
    (if is_eq (nat_cmp q k) then Some 0 else None)

nat_put : (old new : List (ℕ × ℕ)) (k : ℕ) → PutNat old new k → (q : ℕ)
    → lookup (nat_eq q) new
    ≡ option_or (lookup (nat_eq q) old) (if nat_eq q k then Some 0 else None)
nat_put old new k puts q =
    sym (found_nat new q)
    ∙ (puts q
    ∙ (ap (λ (o : Option ℕ). option_or o (if is_eq (nat_cmp q k) then Some 0 else None))
    (found_nat old q)
    ∙ ap (λ b. option_or (lookup (nat_eq q) old) (if b then Some 0 else None))
    (sym (unsigned_ties q k))))

-- an epoch in which no view is over
pub ended_prepared : (old new : List (ℕ × ℕ)) (k : ℕ) → PutNat old new k → (notes : List Note)
    → HasEnded notes old → HasEnded notes new
ended_prepared old new k puts notes has q =
    ap (λ (o : Option ℕ). unwrap_or o 0) (nat_put old new k puts q)
    ∙ (go (lookup (nat_eq q) old) (nat_eq q k) ∙ has q)
  where
    go : (o : Option ℕ) (b : Bool)
        → unwrap_or (option_or o (if b then Some 0 else None)) 0 ≡ unwrap_or o 0
    go None true = refl
    go None false = refl
    go (Some x) b = refl

-- it is there then
pub end_there : (old new : List (ℕ × ℕ)) (k view : ℕ) → PutNat old new k → (note : Note)
    → ending note ≡ Some (k, view) → IsEndThere note new
end_there old new k view puts note is e at =
    ap (λ (o : Option ℕ). is_some o) (nat_put old new k puts e.0)
    ∙ (ap (λ b. is_some (option_or (lookup (nat_eq e.0) old) (if b then Some 0 else None)))
    (ap (λ (x : ℕ). nat_eq x k) (sym same) ∙ nat_eq_equiv.refl k)
    ∙ go (lookup (nat_eq e.0) old))
  where
    pair : ◌≡◌ {A = ℕ × ℕ} (k, view) e
    pair = let h : ◌≡◌ {A = Option (ℕ × ℕ)} (Some (k, view)) (Some e) = sym is ∙ at in cc

    same : k ≡ e.0
    same = ap (λ (x : ℕ × ℕ). x.0) pair

    go : (o : Option ℕ) → is_some (option_or o (Some 0)) ≡ true
    go None = refl
    go (Some x) = refl

pub ended_with : (old new : List (ℕ × ℕ)) (notes : List Note) (note : Note) (epoch view top : ℕ)
    → HasEnded notes old → ending note ≡ Some (epoch, view) → top ≡ max (ended_at epoch old) view
    → ((q : ℕ) → lookup (λ (k : ℕ). is_eq (nat_cmp q k)) new
    ≡ (if is_eq (nat_cmp epoch q) then Some top
    else lookup (λ (k : ℕ). is_eq (nat_cmp q k)) old))
    → HasEnded (notes ++ note ∷ []) new
ended_with old new notes note epoch view top has is most sets q =
    ap (λ (o : Option ℕ). unwrap_or o 0)
    (sym (found_nat new q)
    ∙ (sets q
    ∙ (ap (λ b. if b then Some top else lookup (λ (k : ℕ). is_eq (nat_cmp q k)) old)
    (sym (unsigned_ties epoch q))
    ∙ ap (λ (o : Option ℕ). if epoch == q then Some top else o) (found_nat old q))))
    ∙ (go (epoch == q) refl
    ∙ (ap (λ (o : Option ℕ). max (greatest_ended notes q) (greatest (cons_option o [])))
    (sym
    (ended_is note q
    ∙ ap (λ (o : Option (ℕ × ℕ)). option_map_or (λ e. ends_in q e.0 e.1) o None) is))
    ∙ sym (ended_more notes note q)))
  where
    go : (b : Bool) → (epoch == q) ≡ b
        → unwrap_or (if b then Some top else lookup (nat_eq q) old) 0
        ≡ max (greatest_ended notes q) (greatest (cons_option (if b then Some view else None) []))
    go true e =
        let same : epoch ≡ q = eqb-true epoch q e in
        let was : ended_at epoch old ≡ greatest_ended notes q =
        ap (λ (x : ℕ). ended_at x old) same ∙ has q in
        omega (arith, most, was)
    go false e = let was = has q in was ∙ omega arith

pub ended_same : (es : List (ℕ × ℕ)) (notes : List Note) (note : Note) → HasEnded notes es
    → ending note ≡ None → HasEnded (notes ++ note ∷ []) es
ended_same es notes note has none q =
    let more = ended_more notes note q in
    let is : ended q note ≡ None =
    ended_is note q
    ∙ ap (λ (o : Option (ℕ × ℕ)). option_map_or (λ e. ends_in q e.0 e.1) o None) none in
    let zero : greatest (cons_option (ended q note) []) ≡ 0 =
    ap (λ (o : Option ℕ). greatest (cons_option o [])) is in
    has q ∙ omega arith

-- ---- the epoch, and what is let go

-- the greatest number that notes have, with one note more
pub greatest_with : (has : Note → Option ℕ) (top now : ℕ) (notes : List Note) (note : Note)
    → top ≡ greatest (filter_map has notes)
    → now ≡ option_map_or (λ x. max top x) (has note) top
    → now ≡ greatest (filter_map has (notes ++ note ∷ []))
greatest_with has top now notes note is e =
    e
    ∙ (by (has note)
    ∙ (ap (λ (n : ℕ). max n (greatest (cons_option (has note) []))) is
    ∙ sym
    (ap greatest (filter_map-append has notes (note ∷ []))
    ∙ greatest_more (filter_map has notes) (cons_option (has note) []))))
  where
    by : (o : Option ℕ)
        → option_map_or (λ x. max top x) o top ≡ max top (greatest (cons_option o []))
    by None = omega arith
    by (Some x) = omega arith

-- an epoch that is there, by the order of numbers
pub is_there : (es : List (ℕ × ℕ)) (note : Note) (epoch view : ℕ) → IsEndThere note es
    → ending note ≡ Some (epoch, view)
    → IsSome (lookup (λ (j : ℕ). is_eq (nat_cmp epoch j)) es)
is_there es note epoch view there is =
    subst (λ (o : Option ℕ). IsSome o) (sym (found_nat es epoch))
    (some_there (lookup (nat_eq epoch) es) (there (epoch, view) is))
