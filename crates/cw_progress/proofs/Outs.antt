-- What a turn sends is sent, and stays so.
use Rattle.std.proofs.Common.{◌≡◌, ℕ, suc, ◌+◌, ◌≤◌, Bool, true, false, not, cond, List, [], ◌∷◌, ◌++◌, Option, Some, None, filter, filter_map, flat_map, length, map, slice_get, refl, sym, ◌∙◌, ap, subst, inl, inr, arith}
use Rattle.std.specs.List.{cons_option, list_any}
use Rattle.std.proofs.lemmas.Bool.{false≢true}
use Rattle.cw_types.specs.declared.event.Event.{Event}
use Rattle.cw_types.specs.declared.event.Out.{Out}
use Rattle.cw_types.specs.declared.commitment.Commitment.{Commitment}
use Rattle.cw_types.specs.declared.message.Message.{Message}
use Rattle.cw_types.specs.declared.note.Note.{Note}
use Rattle.cw_types.specs.Same.{same_commitment}
use Rattle.cw_rules.specs.Accepted.{State}
use Rattle.cw_rules.specs.Notes.{epoch_of}
use Rattle.cw_rules.specs.Reached.{In}
use Rattle.cw_rules.specs.Rules.{Rules}
use Rattle.cw_rules.specs.Sends.{answer, missing, note_sends, own_chunk, sends, to_all}
use Rattle.cw_rules.specs.Step.{Stepped}
use Rattle.cw_rules.specs.World.{Sent, World, sent_from, sent_now, with_done}
use Rattle.cw_rules.proofs.Lists.{get_front, in_left, in_right}
use Rattle.cw_progress.specs.Sent.{IsSent}
use Rattle.cw_progress.proofs.Carries.{Extends}

-- ---- lists

-- what stands somewhere in a list stands somewhere behind others
get_behind : {X : Type 0} (xs ys : List X) (i : ℕ) (x : X) → slice_get ys i ≡ Some x
    → (k : ℕ) × (slice_get (xs ++ ys) k ≡ Some x) × (length xs ≤ k)
get_behind [] ys i x h = (i, h, omega arith)
get_behind (z ∷ zs) ys i x h =
    let (k, e, le) = get_behind zs ys i x h in (suc k, e, omega (arith, le))

pub in_map : {X Y : Type 0} (f : X → Y) (xs : List X) (x : X) → In x xs → In (f x) (map f xs)
in_map f [] x h = absurd h
in_map f (y ∷ ys) x (inl e) = inl (ap f e)
in_map f (y ∷ ys) x (inr h) = inr (in_map f ys x h)

pub in_flat : {X Y : Type 0} (f : X → List Y) (xs : List X) (x : X) (y : Y) → In x xs → In y (f x)
    → In y (flat_map f xs)
in_flat f [] x y h k = absurd h
in_flat f (z ∷ zs) x y (inl e) k =
    in_left y (f z) (flat_map f zs) (subst (λ u. In y (f u)) e k)
in_flat f (z ∷ zs) x y (inr h) k = in_right y (f z) (flat_map f zs) (in_flat f zs x y h k)

-- what a filter leaves
pub filter_from : {X : Type 0} (p : X → Bool) (xs : List X) (x : X) → In x (filter p xs)
    → In x xs × (p x ≡ true)
filter_from p [] x h = absurd h
filter_from {X} p (y ∷ ys) x h = go (p y) refl h (filter_from p ys x)
  where
    go : (b : Bool) → p y ≡ b → In x (cond b (y ∷ filter p ys) (filter p ys))
        → (In x (filter p ys) → In x ys × (p x ≡ true)) → In x (y ∷ ys) × (p x ≡ true)
    go true e (inl s) later = (inl s, ap p s ∙ e)
    go true e (inr h) later = let r = later h in (inr r.0, r.1)
    go false e h later = let r = later h in (inr r.0, r.1)

pub filter_in_list : {X : Type 0} (p : X → Bool) (xs : List X) (x : X) → In x xs → p x ≡ true
    → In x (filter p xs)
filter_in_list p [] x h t = absurd h
filter_in_list {X} p (y ∷ ys) x h t = go (p y) refl h (λ k. filter_in_list p ys x k t)
  where
    go : (b : Bool) → p y ≡ b → In x (y ∷ ys) → (In x ys → In x (filter p ys))
        → In x (cond b (y ∷ filter p ys) (filter p ys))
    go true e (inl s) later = inl s
    go true e (inr h) later = inr (later h)
    go false e (inl s) later = absurd (false≢true (sym e ∙ (ap p (sym s) ∙ t)))
    go false e (inr h) later = later h

-- what a filter_map leaves
pub mapped_from : {X Y : Type 0} (f : X → Option Y) (xs : List X) (y : Y)
    → In y (filter_map f xs) → (x : X) × In x xs × (f x ≡ Some y)
mapped_from f [] y h = absurd h
mapped_from {X} {Y} f (x ∷ xs) y h = go (f x) refl h (mapped_from f xs y)
  where
    go : (o : Option Y) → f x ≡ o → In y (cons_option o (filter_map f xs))
        → (In y (filter_map f xs) → (z : X) × In z xs × (f z ≡ Some y))
        → (z : X) × In z (x ∷ xs) × (f z ≡ Some y)
    go None e h later = let (z, at, g) = later h in (z, inr at, g)
    go (Some u) e (inl s) later = (x, inl refl, e ∙ ap Some (sym s))
    go (Some u) e (inr h) later = let (z, at, g) = later h in (z, inr at, g)

pub mapped_in : {X Y : Type 0} (f : X → Option Y) (xs : List X) (x : X) (y : Y) → In x xs
    → f x ≡ Some y → In y (filter_map f xs)
mapped_in f [] x y h e = absurd h
mapped_in {X} {Y} f (z ∷ zs) x y h e = go (f z) refl h (λ k. mapped_in f zs x y k e)
  where
    one : (u v : Y) → ◌≡◌ {A = Option Y} (Some u) (Some v) → v ≡ u
    one u v s = cc

    go : (o : Option Y) → f z ≡ o → In x (z ∷ zs) → (In x zs → In y (filter_map f zs))
        → In y (cons_option o (filter_map f zs))
    go None g (inl s) later = cc
    go None g (inr h) later = later h
    go (Some u) g (inl s) later = inl (one u y (sym g ∙ (ap f (sym s) ∙ e)))
    go (Some u) g (inr h) later = inr (later h)

-- ---- messages

-- each message that leaves is numbered
out_sent : (n i : ℕ) (outs : List Out) (o : Out) → In o outs
    → (k : ℕ) × (s : Sent) × (slice_get (sent_from n i outs) k ≡ Some s) × (s.from ≡ i)
    × (s.to ≡ o.to) × (s.message ≡ o.message)
out_sent n i [] o h = absurd h
out_sent n i (x ∷ xs) o (inl e) = (
  0,
  record { number = n; from = i; to = x.to; message = x.message },
  refl,
  refl,
  ap (λ (y : Out). y.to) (sym e),
  ap (λ (y : Out). y.message) (sym e),
)
out_sent n i (x ∷ xs) o (inr h) =
    let (k, s, at, from, to, message) = out_sent (n + 1) i xs o h in
    (suc k, s, at, from, to, message)

-- the member sent the message after so many others
pub record IsNew (low : ℕ) (w : World) (i : ℕ) (o : Out) : Type 0 where
  pub sent : IsSent w i o
  pub late : low ≤ sent.number

-- what a turn sends is sent
pub new_done : (w : World) (i : ℕ) (done : Stepped) (o : Out) → In o done.sent
    → IsNew (length w.pool) (with_done w i done) i o
new_done w i done o h =
    let (k, s, at, from, to, message) = out_sent (length w.pool) i done.sent o h in
    let (n, there, le) = get_behind w.pool (sent_now w i done.sent) k s at in
    record {
      sent =
          record {
            number = n;
            sent = s;
            there = there;
            from = from;
            to = to;
            message = message;
          };
      late = le;
    }

pub sent_done : (w : World) (i : ℕ) (done : Stepped) (o : Out) → In o done.sent
    → IsSent (with_done w i done) i o
sent_done w i done o h = (new_done w i done o h).sent

-- and stays so
pub sent_stays : (w v : World) (i : ℕ) (o : Out) → Extends w v → IsSent w i o → IsSent v i o
sent_stays w v i o e s = record {
  number = s.number;
  sent = s.sent;
  there =
      subst (λ pool. slice_get pool s.number ≡ Some s.sent) (sym e.pool)
      (get_front w.pool e.more s.number s.sent s.there);
  from = s.from;
  to = s.to;
  message = s.message;
}

pub new_stays : (low : ℕ) (w v : World) (i : ℕ) (o : Out) → Extends w v → IsNew low w i o
    → IsNew low v i o
unfolding sent_stays
new_stays low w v i o e s = record { sent = sent_stays w v i o e s.sent; late = s.late }

pub new_lower : (low high : ℕ) (w : World) (i : ℕ) (o : Out) → low ≤ high → IsNew high w i o
    → IsNew low w i o
new_lower low high w i o le s = record { sent = s.sent; late = omega (arith, le, s.late) }

-- ---- the parts of what a step sends

module _ (r : Rules) (id : ℕ) (before after : State) (e : Event) (notes : List Note) where
  abbrev by_notes : List Out
  by_notes = flat_map (note_sends r id after.notes) notes

  abbrev by_chunk : List Out
  by_chunk = own_chunk r id (epoch_of before.notes) before.came e

  abbrev new_asks : List Commitment
  new_asks = filter (λ c. not (list_any (same_commitment c) (missing r before))) (missing r after)

  abbrev by_asks : List Out
  by_asks = map (λ c. to_all (Message.Ask id c)) new_asks

  abbrev by_answer : List Out
  by_answer = answer r id after.notes e

  pub sends_notes : (o : Out) → In o by_notes → In o (sends r id before after e notes)
  sends_notes o h =
      in_left o (by_notes ++ by_chunk ++ by_asks) by_answer
      (in_left o (by_notes ++ by_chunk) by_asks (in_left o by_notes by_chunk h))

  pub sends_chunk : (o : Out) → In o by_chunk → In o (sends r id before after e notes)
  sends_chunk o h =
      in_left o (by_notes ++ by_chunk ++ by_asks) by_answer
      (in_left o (by_notes ++ by_chunk) by_asks (in_right o by_notes by_chunk h))

  pub sends_asks : (o : Out) → In o by_asks → In o (sends r id before after e notes)
  sends_asks o h =
      in_left o (by_notes ++ by_chunk ++ by_asks) by_answer
      (in_right o (by_notes ++ by_chunk) by_asks h)

  pub sends_answer : (o : Out) → In o by_answer → In o (sends r id before after e notes)
  sends_answer o h = in_right o (by_notes ++ by_chunk ++ by_asks) by_answer h
