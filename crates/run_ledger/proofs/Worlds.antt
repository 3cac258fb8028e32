-- The heights that a run hands out to each member.
use Rattle.std.proofs.Common.{◌≡◌, ◌⊎◌, inl, inr, ℕ, zero, suc, ◌+◌, ◌<◌, ◌≤◌, ◌==◌, ◌||◌, ◌&&◌, Bool, true, false, cond, nat_lt, List, [], ◌∷◌, ◌++◌, length, map, Option, Some, None, option_map, slice_get, filter_map, refl, sym, ◌∙◌, ap, subst, arith, append_assoc, append-nil}
use Rattle.std.specs.List.{cons_option, list_any, range_with_len}
use Rattle.std.specs.Option.{option_map_or}
use Rattle.std.proofs.lemmas.Bool.{cases_eq, eqb-true}
use Rattle.std.proofs.lemmas.Option.{same_Some}
use Rattle.cw_types.specs.Block.{Block}
use Rattle.cw_types.specs.declared.event.Event.{Event}
use Rattle.cw_types.specs.declared.event.Handed.{Handed}
use Rattle.cw_types.specs.declared.note.Note.{Note}
use Rattle.cw_rules.specs.Accepted.{State}
use Rattle.cw_rules.specs.Chains.{Clashes, Ends, clash_at, outcome}
use Rattle.cw_rules.specs.Report.{Entry, entries_from, entry_of, opening_entries, opening_entry}
use Rattle.cw_rules.specs.Rules.{Rules}
use Rattle.cw_rules.specs.Step.{Member, Stepped, cut_step, deliveries, member_notes, most_delivered, start, state_of, step, step_notes, stopped, taken, with_notes}
use Rattle.cw_rules.specs.World.{Cut, Do, Faulty, Line, Restart, World, done_by, event_of, faults, happens, line_member, member_at, opening, signed, turned, with_done}
use Rattle.cw_rules.proofs.Lists.{and_then_some}
use Rattle.cw_rules.proofs.Worlds.{frames_join, get-map_from, get-range, get-set, member_there}
use Rattle.run_ledger.specs.Ledgers.{handed_by, handed_in_entries}
use Rattle.run_ledger.proofs.Acks.{step_acks}
use Rattle.run_ledger.proofs.Orders.{IsInOrder, handed_in_order, noted_in_order, nothing_yet, started_in_order}

abbrev heights_in : List Handed → List ℕ
heights_in out = map (λ h. h.height) out

-- ---- a member's turn

-- what a turn leaves of a member to whom these heights were handed out
abbrev InOrder : List ℕ → Stepped → Type 0
InOrder heights done =
    IsInOrder (heights ++ heights_in done.handed) (member_notes done.member) done.member.given

step_in_order : (r : Rules) (i : ℕ) (w : World) (m : Member) (e : Event) (heights : List ℕ)
    → IsInOrder heights (member_notes m) m.given → InOrder heights (step r i (signed w) m e)
step_in_order r i w m e heights is =
    let during = taken r (signed w) (state_of m) e in
    let notes = step_notes r i during e in
    let after = with_notes during notes in
    let noted =
    noted_in_order heights (member_notes m) notes m.given is
    (λ h there. step_acks r i during e h there) in
    subst
    (λ l. IsInOrder (heights ++ heights_in (deliveries r after)) l
    (m.given ++ heights_in (deliveries r after)))
    (sym (frames_join m.frames notes))
    (handed_in_order r (most_delivered r after) after heights noted)

start_in_order : (r : Rules) (i : ℕ) (m : Member) (heights : List ℕ)
    → IsInOrder heights (member_notes m) m.given → InOrder heights (start r i m.frames)
start_in_order r i m heights is =
    let fresh =
    state_of (record {
      frames = m.frames;
      came = (start r i m.frames).member.came;
      given = [];
      tickets = (start r i m.frames).member.tickets;
      live = true;
    }) in
    handed_in_order r (most_delivered r fresh) fresh heights
    (started_in_order heights (member_notes m) m.given is)

cut_in_order : (r : Rules) (i : ℕ) (w : World) (m : Member) (a c x : ℕ) (e : Event)
    (heights : List ℕ)
    → IsInOrder heights (member_notes m) m.given
    → InOrder heights (cut_step r i (signed w) m a c x e)
cut_in_order r i w m a c x e heights is = by_end ((length notes == 0) || nat_lt 4 a)
  where
    during : State
    during = taken r (signed w) (state_of m) e

    notes : List Note
    notes = step_notes r i during e

    done : Stepped
    done = step r i (signed w) m e

    whole : Stepped
    whole =
        record {
          member = stopped done.member done.member.frames;
          sent = done.sent;
          handed = done.handed;
          tickets = done.tickets;
        }

    part : Bool → Stepped
    part b =
        record {
          member = stopped m (cond b done.member.frames m.frames);
          sent = [];
          handed = [];
          tickets = [];
        }

    by_stay : (b : Bool) → InOrder heights (part b)
    by_stay true =
        let noted =
        noted_in_order heights (member_notes m) notes m.given is
        (λ h there. step_acks r i during e h there) in
        subst (λ l. IsInOrder l (member_notes done.member) m.given) (sym (append-nil heights))
        (subst (λ l. IsInOrder heights l m.given) (sym (frames_join m.frames notes)) noted)
    by_stay false = subst (λ l. IsInOrder l (member_notes m) m.given) (sym (append-nil heights)) is

    by_end : (b : Bool)
        → InOrder heights (cond b whole (part (nat_lt 2 a && (nat_lt 0 c || (x == 1)))))
    by_end true = step_in_order r i w m e heights is
    by_end false = by_stay (nat_lt 2 a && (nat_lt 0 c || (x == 1)))

turned_in_order : (r : Rules) (w : World) (i : ℕ) (line : Line) (m : Member) (done : Stepped)
    (heights : List ℕ)
    → turned r w i line m ≡ Some done → IsInOrder heights (member_notes m) m.given
    → InOrder heights done
turned_in_order r w i (Do j ask) m done heights h is = by_live m.live h
  where
    by_event : (o : Option Event) → option_map (step r i (signed w) m) o ≡ Some done
        → InOrder heights done
    by_event None h = cc
    by_event (Some e) h =
        subst (InOrder heights) (same_Some (step r i (signed w) m e) done h)
        (step_in_order r i w m e heights is)

    by_live : (b : Bool)
        → cond b (option_map (step r i (signed w) m) (event_of w i ask)) None ≡ Some done
        → InOrder heights done
    by_live true h = by_event (event_of w i ask) h
    by_live false h = cc
turned_in_order r w i (Cut a c x j ask) m done heights h is = by_live m.live h
  where
    by_event : (o : Option Event) → option_map (cut_step r i (signed w) m a c x) o ≡ Some done
        → InOrder heights done
    by_event None h = cc
    by_event (Some e) h =
        subst (InOrder heights) (same_Some (cut_step r i (signed w) m a c x e) done h)
        (cut_in_order r i w m a c x e heights is)

    by_live : (b : Bool)
        → cond b (option_map (cut_step r i (signed w) m a c x) (event_of w i ask)) None ≡ Some done
        → InOrder heights done
    by_live true h = by_event (event_of w i ask) h
    by_live false h = cc
turned_in_order r w i (Restart j) m done heights h is = by_live m.live h
  where
    by_live : (b : Bool) → cond b None (Some (start r i m.frames)) ≡ Some done
        → InOrder heights done
    by_live true h = cc
    by_live false h =
        subst (InOrder heights) (same_Some (start r i m.frames) done h)
        (start_in_order r i m heights is)
turned_in_order r w i (Faulty j fault) m done heights h is = cc

-- ---- a line

-- the heights that were handed out to each honest member are in order
abbrev pub AllInOrder : World → (ℕ → List ℕ) → Type 0
AllInOrder w heights =
    (i : ℕ) (m : Member) → slice_get w.members i ≡ Some (Some m)
    → IsInOrder (heights i) (member_notes m) m.given

-- what a line hands out to a member
abbrev given_by : Rules → World → ℕ → Line → ℕ → List ℕ
given_by r w number line i = handed_by i (entry_of r w number line)

-- nothing more was handed out
same_heights : (heights : List ℕ) (notes : List Note) (given : List ℕ) (b : Bool)
    → IsInOrder heights notes given → IsInOrder (heights ++ cond b [] []) notes given
same_heights heights notes given true is =
    subst (λ l. IsInOrder l notes given) (sym (append-nil heights)) is
same_heights heights notes given false is =
    subst (λ l. IsInOrder l notes given) (sym (append-nil heights)) is

done_in_order : (r : Rules) (w : World) (line : Line) (heights : ℕ → List ℕ) → AllInOrder w heights
    → (o : Option Stepped) → done_by r w line ≡ o
    → AllInOrder (option_map_or (with_done w (line_member line)) o w)
    (λ i. heights i
    ++ cond (line_member line == i) (heights_in (option_map_or (λ done. done.handed) o []))
    [])
done_in_order r w line heights all None e i m at =
    same_heights (heights i) (member_notes m) m.given (line_member line == i) (all i m at)
done_in_order r w line heights all (Some done) e i m at =
    go (get-set w.members j i (Some done.member) (Some m) at)
  where
    j : ℕ
    j = line_member line

    Goal : Bool → Type 0
    Goal b = IsInOrder (heights i ++ cond b (heights_in done.handed) []) (member_notes m) m.given

    test : (b : Bool) → (j == i) ≡ b → Goal b
        → IsInOrder (heights i ++ cond (j == i) (heights_in done.handed) []) (member_notes m)
        m.given
    test b is goal = subst Goal (sym is) goal

    same : (n k : ℕ) → n ≡ k → (n == k) ≡ true
    same n k e = rw e (grind arith)

    other : (n k : ℕ) → (n ≡ k → ⊥) → (n == k) ≡ false
    other n k differs = by (n == k) refl
      where
        by : (b : Bool) → (n == k) ≡ b → b ≡ false
        by true is = absurd (differs (eqb-true n k is))
        by false is = refl

    own : (p : Member) → slice_get w.members j ≡ Some (Some p) → turned r w j line p ≡ Some done
        → IsInOrder (heights j ++ heights_in done.handed) (member_notes done.member)
        done.member.given
    own p there turn = turned_in_order r w j line p done (heights j) turn (all j p there)

    go : ((j ≡ i) × (Some done.member ≡ Some m))
        ⊎ ((j ≡ i → ⊥) × (slice_get w.members i ≡ Some (Some m)))
        → IsInOrder (heights i ++ cond (j == i) (heights_in done.handed) []) (member_notes m)
        m.given
    go (inl (is, new)) =
        let (p, there, turn) = and_then_some (turned r w j line) (member_at w j) done e in
        let whole = own p (member_there w j p there) turn in
        let moved =
        subst
        (λ k. IsInOrder (heights k ++ heights_in done.handed) (member_notes done.member)
        done.member.given)
        is whole in
        test true (same j i is)
        (subst
        (λ (k : Member). IsInOrder (heights i ++ heights_in done.handed) (member_notes k)
        k.given)
        (same_Some done.member m new) moved)
    go (inr (differs, old)) =
        test false (other j i differs)
        (same_heights (heights i) (member_notes m) m.given true (all i m old))

line_in_order : (r : Rules) (w : World) (number : ℕ) (line : Line) (heights : ℕ → List ℕ)
    → AllInOrder w heights
    → AllInOrder (happens r w line) (λ i. heights i ++ given_by r w number line i)
line_in_order r w number (Do j ask) heights all =
    done_in_order r w (Do j ask) heights all (done_by r w (Do j ask)) refl
line_in_order r w number (Cut a c x j ask) heights all =
    done_in_order r w (Cut a c x j ask) heights all (done_by r w (Cut a c x j ask)) refl
line_in_order r w number (Restart j) heights all =
    done_in_order r w (Restart j) heights all (done_by r w (Restart j)) refl
line_in_order r w number (Faulty j fault) heights all =
    λ i m at. same_heights (heights i) (member_notes m) m.given true (all i m at)

-- ---- lines that end without a clash

more_heights : (w : World) (f g : ℕ → List ℕ) → ((i : ℕ) → f i ≡ g i) → AllInOrder w f
    → AllInOrder w g
more_heights w f g same all i m at =
    subst (λ l. IsInOrder l (member_notes m) m.given) (same i) (all i m at)

lines_in_order : (r : Rules) (w v : World) (number : ℕ) (lines : List Line) (heights : ℕ → List ℕ)
    → AllInOrder w heights → outcome r w lines ≡ Ends v
    → AllInOrder v (λ i. heights i ++ handed_in_entries i (entries_from r w number lines))
lines_in_order r w v number [] heights all ends =
    let same : w ≡ v = same_end w v ends in
    subst (λ u. AllInOrder u (λ i. heights i ++ [])) same
    (more_heights w heights (λ i. heights i ++ []) (λ i. sym (append-nil (heights i))) all)
  where
    same_end : (a b : World) → Ends a ≡ Ends b → a ≡ b
    same_end a b e = cc
lines_in_order r w v number (line ∷ lines) heights all ends =
    go (clash_at r w (happens r w line) (line_member line)) ends
    (lines_in_order r (happens r w line) v (number + 1) lines
    (λ i. heights i ++ given_by r w number line i)
    (line_in_order r w number line heights all))
  where
    never : (a b : List ℕ) → Clashes a b ≡ Ends v → ⊥
    never a b e = cc

    go : (o : Option (Block × Block))
        → option_map_or (λ both. Clashes (r.block_bytes both.0) (r.block_bytes both.1)) o
        (outcome r (happens r w line) lines)
        ≡ Ends v
        → (outcome r (happens r w line) lines ≡ Ends v
        → AllInOrder v
        (λ i. (heights i ++ given_by r w number line i)
        ++ handed_in_entries i (entries_from r (happens r w line) (number + 1) lines)))
        → AllInOrder v
        (λ i. heights i ++ handed_in_entries i (entries_from r w number (line ∷ lines)))
    go (Some both) e later = absurd (never (r.block_bytes both.0) (r.block_bytes both.1) e)
    go None e later =
        more_heights v
        (λ i. (heights i ++ given_by r w number line i)
        ++ handed_in_entries i (entries_from r (happens r w line) (number + 1) lines))
        (λ i. heights i ++ handed_in_entries i (entries_from r w number (line ∷ lines)))
        (λ i. append_assoc (heights i) (given_by r w number line i)
        (handed_in_entries i (entries_from r (happens r w line) (number + 1) lines)))
        (later e)

-- ---- the opening

-- what the starts from this number on hand out to a member
module _ (r : Rules) (script : List Line) (i : ℕ) where
  others : (low len : ℕ) → i < low
      → handed_in_entries i (filter_map (opening_entry r script) (range_with_len low len)) ≡ []
  others low zero less = refl
  others low (suc len) less = go (list_any (faults low) script) (others (low + 1) len (omega arith))
    where
      rest : List Entry
      rest = filter_map (opening_entry r script) (range_with_len (low + 1) len)

      here : Entry
      here =
          record {
            line = 0;
            member = Some low;
            found = None;
            sent = [];
            handed = (start r low []).handed;
          }

      not_it : (b : Bool) → (low == i) ≡ b → cond b (heights_in (start r low []).handed) [] ≡ []
      not_it true e = absurd (omega (arith, eqb-true low i e))
      not_it false e = refl

      go : (b : Bool) → handed_in_entries i rest ≡ []
          → handed_in_entries i (cons_option (cond b None (Some here)) rest) ≡ []
      go true e = e
      go false e = ap (λ l. l ++ handed_in_entries i rest) (not_it (low == i) refl) ∙ e

  its_own : (low len : ℕ) → low ≤ i → i < low + len → list_any (faults i) script ≡ false
      → handed_in_entries i (filter_map (opening_entry r script) (range_with_len low len))
      ≡ heights_in (start r i []).handed
  its_own low zero le less honest = absurd (omega arith)
  its_own low (suc len) le less honest =
      by (cases_eq low i)
      (λ other. its_own (low + 1) len (omega (arith, other)) (omega arith) honest)
    where
      rest : List Entry
      rest = filter_map (opening_entry r script) (range_with_len (low + 1) len)

      here : Entry
      here =
          record {
            line = 0;
            member = Some low;
            found = None;
            sent = [];
            handed = (start r low []).handed;
          }

      at_it : (b : Bool) → (low == i) ≡ b → low ≡ i
          → cond b (heights_in (start r low []).handed) [] ≡ heights_in (start r i []).handed
      at_it true e same = ap (λ k. heights_in (start r k []).handed) same
      at_it false e same =
          absurd
          (let is_it : (low == i) ≡ true = rw same (grind arith) in
          let bad : true ≡ false = sym is_it ∙ e in cc)

      not_it : (b : Bool) → (low == i) ≡ b → (low ≡ i → ⊥)
          → cond b (heights_in (start r low []).handed) [] ≡ []
      not_it true e differs = absurd (differs (eqb-true low i e))
      not_it false e differs = refl

      by : (low ≡ i) ⊎ (low ≡ i → ⊥)
          → ((low ≡ i → ⊥) → handed_in_entries i rest ≡ heights_in (start r i []).handed)
          → handed_in_entries i (cons_option (opening_entry r script low) rest)
          ≡ heights_in (start r i []).handed
      by (inl same) later =
          ap (λ b. handed_in_entries i (cons_option (cond b None (Some here)) rest))
          (subst (λ k. list_any (faults k) script ≡ false) (sym same) honest)
          ∙ ap (λ l. l ++ handed_in_entries i rest) (at_it (low == i) refl same)
          ∙ ap (λ l. heights_in (start r i []).handed ++ l) (others (low + 1) len (omega arith))
          ∙ append-nil (heights_in (start r i []).handed)
      by (inr other) later = go (list_any (faults low) script) (later other)
        where
          go : (b : Bool) → handed_in_entries i rest ≡ heights_in (start r i []).handed
              → handed_in_entries i (cons_option (cond b None (Some here)) rest)
              ≡ heights_in (start r i []).handed
          go true e = e
          go false e = ap (λ l. l ++ handed_in_entries i rest) (not_it (low == i) refl other) ∙ e

in_range : (low len i k : ℕ) → slice_get (range_with_len low len) i ≡ Some k → i < len
in_range low zero i k h = cc
in_range low (suc len) zero k h = omega arith
in_range low (suc len) (suc i) k h = omega (arith, in_range (low + 1) len i k h)

opening_in_order : (r : Rules) (script : List Line)
    → AllInOrder (opening r script) (λ i. handed_in_entries i (opening_entries r script))
opening_in_order r script i m at =
    let (k, there, is) =
    get-map_from (λ i. cond (list_any (faults i) script) None (Some (start r i []).member))
    (range_with_len 0 r.epochs.total) i (Some m) at in
    let same : k ≡ i =
    sym (get-range 0 r.epochs.total i k there) ∙ (let z : 0 + i ≡ i = omega arith in z) in
    go (list_any (faults i) script) refl
    (subst (λ n. cond (list_any (faults n) script) None (Some (start r n []).member) ≡ Some m)
    same is)
    (in_range 0 r.epochs.total i k there)
  where
    first : IsInOrder (heights_in (start r i []).handed) (member_notes (start r i []).member)
        (start r i []).member.given
    first =
        start_in_order r i (record {
          frames = [];
          came = (start r i []).member.came;
          given = [];
          tickets = (start r i []).member.tickets;
          live = true;
        }) [] nothing_yet

    go : (b : Bool) → list_any (faults i) script ≡ b
        → cond b None (Some (start r i []).member) ≡ Some m → i < r.epochs.total
        → IsInOrder (handed_in_entries i (opening_entries r script)) (member_notes m) m.given
    go true faulty e less = cc
    go false honest e less =
        subst
        (λ (p : Member). IsInOrder (handed_in_entries i (opening_entries r script))
        (member_notes p) p.given)
        (same_Some (start r i []).member m e)
        (subst (λ l. IsInOrder l (member_notes (start r i []).member) (start r i []).member.given)
        (sym (its_own r script i 0 r.epochs.total (omega arith) (omega arith) honest)) first)

-- the heights of a whole run are in order
pub run_in_order : (r : Rules) (script : List Line) (v : World) (number : ℕ)
    → outcome r (opening r script) script ≡ Ends v
    → AllInOrder v
    (λ i. handed_in_entries i
    (opening_entries r script ++ entries_from r (opening r script) number script))
run_in_order r script v number ends =
    more_heights v
    (λ i. handed_in_entries i (opening_entries r script)
    ++ handed_in_entries i (entries_from r (opening r script) number script))
    (λ i. handed_in_entries i
    (opening_entries r script ++ entries_from r (opening r script) number script))
    (λ i. sym
    (joined i (opening_entries r script) (entries_from r (opening r script) number script)))
    (lines_in_order r (opening r script) v number script
    (λ i. handed_in_entries i (opening_entries r script)) (opening_in_order r script) ends)
  where
    joined : (i : ℕ) (xs ys : List Entry)
        → handed_in_entries i (xs ++ ys) ≡ handed_in_entries i xs ++ handed_in_entries i ys
    joined i [] ys = refl
    joined i (x ∷ xs) ys =
        ap (λ l. handed_by i x ++ l) (joined i xs ys)
        ∙ sym (append_assoc (handed_by i x) (handed_in_entries i xs) (handed_in_entries i ys))
