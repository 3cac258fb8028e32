-- Runs of nullified views in a map, with one note more.
use Rattle.std.proofs.Common.{◌≡◌, ◌⊎◌, inl, inr, ℕ, suc, ◌+◌, ◌-◌, ◌^◌, ◌<◌, ◌≤◌, ◌&&◌, ◌||◌, ◌==◌, Bool, true, false, if◌then◌else◌, refl, sym, subst, ◌∙◌, ap, nat_lt, arith, eqb-true, ltb-true, ne_eqb, List, [], ◌∷◌, ◌++◌, Option, Some, None, unwrap_or}
use Rattle.std.specs.List.{cons_option, filter_map}
use Rattle.std.specs.Map.{lookup}
use Rattle.std.specs.Option.{is_some, option_map_or, option_or}
use Rattle.std.specs.Ordering.{is_eq}
use Rattle.std.specs.Prelude.{IsSome}
use Rattle.std.proofs.lemmas.Bool.{and_from, and_parts, cases_Bool, cases_eq, or_cases}
use Rattle.std.proofs.lemmas.Cmp.{nat_eq_equiv}
use Rattle.std.proofs.lemmas.List.Folds.{list_any-append}
use Rattle.cw_types.specs.Same.{same_vote}
use Rattle.cw_types.specs.declared.note.Note.{Note}
use Rattle.cw_types.specs.declared.vote.Vote.{Vote}
use Rattle.cw_types.specs.declared.vote.Vote.TheVariants.{Finalize, Notarize, Nullify}
use Rattle.cw_types.specs.Votes.{well_formed}
use Rattle.cw_rules.specs.Notes.{ended, ended_by, greatest, is_cert, nullified, view_of}
use Rattle.note_scans.specs.Countable.{is_countable}
use Rattle.note_scans.specs.Keys.{key_of, same_key}
use Rattle.note_scans.specs.declared.key.VoteKey.{VoteKey}
use Rattle.note_scans.proofs.Keys.{found_key, key_cmp, keys_tie, same_key_self, same_key_symm}
use Rattle.voter.specs.Runs.{AreEnds, HaveRuns, IsEndPrepared, IsWholeRun, nullified_from, nullifying, nullifying_vote, pass_from, run_at}
use Rattle.voter.specs.declared.runs.Run.{Run}
use Rattle.voter.proofs.Joining.{Above, Joins, from_all, from_le, from_like, joined, side_above, side_below}
use Rattle.voter.proofs.Saying.{PutFirst, first_put, same_view, some_there}

abbrev pub Ends : Type 0
Ends = List (VoteKey × Run)

abbrev pub no_run : Run
no_run = record { first = 0; last = 0 }

abbrev pub view_key : ℕ → ℕ → VoteKey
view_key epoch view = key_of (Nullify epoch view)

-- ---- what a note nullifies

-- the note nullifies that view of that epoch
abbrev pub nullifies : ℕ → ℕ → Option (ℕ × ℕ) → Bool
nullifies epoch view o = option_map_or (λ (x : ℕ × ℕ). (epoch == x.0) && (view == x.1)) o false

nullifies_is : (epoch view : ℕ) (note : Note)
    → is_cert (Nullify epoch view) note ≡ nullifies epoch view (nullifying note)
unfolding same_vote
nullifies_is epoch view (Note.Block c b) = refl
nullifies_is epoch view (Note.Verified e w c) = refl
nullifies_is epoch view (Note.Certified p) = refl
nullifies_is epoch view (Note.Vote v) = refl
nullifies_is epoch view (Note.Cert s) = cert s.vote
  where
    cert : (v : Vote)
        → same_vote (Nullify epoch view) v ≡ nullifies epoch view (nullifying_vote v)
    cert (Notarize p) = refl
    cert (Nullify e w) = refl
    cert (Finalize p) = refl
nullifies_is epoch view (Note.Ack h) = refl
nullifies_is epoch view (Note.Floor h) = refl
nullifies_is epoch view (Note.Prune h) = refl
nullifies_is epoch view (Note.Epoch e c) = refl

or_false : (b : Bool) → (b || false) ≡ b
or_false true = refl
or_false false = refl

nullified_more : (notes : List Note) (note : Note) (epoch view : ℕ)
    → nullified (notes ++ note ∷ []) epoch view
    ≡ (nullified notes epoch view || nullifies epoch view (nullifying note))
nullified_more notes note epoch view =
    list_any-append (is_cert (Nullify epoch view)) notes (note ∷ [])
    ∙ ap (λ b. nullified notes epoch view || b)
    (or_false (is_cert (Nullify epoch view) note) ∙ nullifies_is epoch view note)

-- ---- the same views are nullified

-- ends of what passes are ends of what passes as well
ends_like : (p q : ℕ → Bool) (old new : ℕ → Run) → ((w : ℕ) → p w ≡ q w)
    → ((w : ℕ) → new w ≡ old w) → AreEnds p old → AreEnds q new
ends_like p q old new same at are = record {
  firsts = λ n here next.
      ap (λ (r : Run). r.first) (at n)
      ∙ (are.firsts n (same n ∙ here) (same (suc n) ∙ next)
      ∙ from_like p q n (λ w l. same w));
  lasts = λ n here from.
      subst (λ (m : ℕ). IsWholeRun q n m) (sym (ap (λ (r : Run). r.last) (at n)))
      (run_like n (old n).last
      (are.lasts n (same n ∙ here) (from_like p q n (λ w l. same w) ∙ from)));
}
  where
    run_like : (first last : ℕ) → IsWholeRun p first last → IsWholeRun q first last
    run_like first last run = record {
      ordered = run.ordered;
      within = from_like q p (suc last) (λ w l. sym (same w)) ∙ run.within;
      ended = sym (same (suc last)) ∙ run.ended;
    }

runs_like : (notes more : List Note) (old new : Ends)
    → ((epoch view : ℕ) → nullified notes epoch view ≡ nullified more epoch view)
    → ((epoch view : ℕ) → run_at epoch view new ≡ run_at epoch view old)
    → ((epoch view : ℕ) → is_some (lookup (same_key (view_key epoch view)) old) ≡ true
    → is_some (lookup (same_key (view_key epoch view)) new) ≡ true)
    → HaveRuns notes old → HaveRuns more new
runs_like notes more old new same at there have = record {
  keyed = λ epoch view h. there epoch view (have.keyed epoch view (same epoch view ∙ h));
  ends = λ epoch.
      ends_like (nullified notes epoch) (nullified more epoch) (λ view. run_at epoch view old)
      (λ view. run_at epoch view new) (same epoch) (at epoch) (have.ends epoch);
}

pub runs_same : (es : Ends) (notes : List Note) (note : Note) → nullifying note ≡ None
    → HaveRuns notes es → HaveRuns (notes ++ note ∷ []) es
runs_same es notes note none have =
    runs_like notes (notes ++ note ∷ []) es es
    (λ epoch view.
    sym
    (nullified_more notes note epoch view
    ∙ (ap (λ o. nullified notes epoch view || nullifies epoch view o) none
    ∙ or_false (nullified notes epoch view))))
    (λ epoch view. refl) (λ epoch view h. h) have

-- a view is nullified again
pub runs_again : (es : Ends) (notes : List Note) (note : Note) (e v : ℕ)
    → nullifying note ≡ Some (e, v) → nullified notes e v ≡ true
    → HaveRuns notes es → HaveRuns (notes ++ note ∷ []) es
runs_again es notes note e v is again have =
    runs_like notes (notes ++ note ∷ []) es es
    (λ epoch view.
    sym
    (nullified_more notes note epoch view
    ∙ (ap (λ o. nullified notes epoch view || nullifies epoch view o) is
    ∙ one epoch view (cases_Bool ((epoch == e) && (view == v))))))
    (λ epoch view. refl) (λ epoch view h. h) have
  where
    one : (epoch view : ℕ)
        → (((epoch == e) && (view == v)) ≡ true) ⊎ (((epoch == e) && (view == v)) ≡ false)
        → (nullified notes epoch view || ((epoch == e) && (view == v)))
        ≡ nullified notes epoch view
    one epoch view (inl t) =
        let both = and_parts (epoch == e) (view == v) t in
        let here : nullified notes epoch view ≡ true =
        ap (λ (n : ℕ). nullified notes n view) (eqb-true epoch e both.0)
        ∙ (ap (nullified notes e) (eqb-true view v both.1) ∙ again) in
        ap (λ b. b || ((epoch == e) && (view == v))) here ∙ sym here
    one epoch view (inr f) =
        ap (λ b. nullified notes epoch view || b) f ∙ or_false (nullified notes epoch view)

-- ---- a key that says nothing

pub run_prepared : (old new : Ends) (k : VoteKey) → PutFirst old new k no_run → (notes : List Note)
    → HaveRuns notes old → HaveRuns notes new
run_prepared old new k puts notes have =
    runs_like notes notes old new (λ epoch view. refl)
    (λ epoch view.
    ap (λ (o : Option Run). unwrap_or o no_run) (first_put old new k no_run puts (view_key epoch view))
    ∙ value (lookup (same_key (view_key epoch view)) old) (same_key (view_key epoch view) k))
    (λ epoch view h.
    ap (λ (o : Option Run). is_some o) (first_put old new k no_run puts (view_key epoch view))
    ∙ stays (lookup (same_key (view_key epoch view)) old) (same_key (view_key epoch view) k) h)
    have
  where
    value : (o : Option Run) (b : Bool)
        → unwrap_or (option_or o (if b then Some no_run else None)) no_run ≡ unwrap_or o no_run
    value None true = refl
    value None false = refl
    value (Some x) b = refl

    stays : (o : Option Run) (b : Bool) → is_some o ≡ true
        → is_some (option_or o (if b then Some no_run else None)) ≡ true
    stays None b h = cc
    stays (Some x) b h = refl

-- it is there then
pub run_there : (old new : Ends) (k : VoteKey) → PutFirst old new k no_run → (note : Note)
    → (e v : ℕ) → nullifying note ≡ Some (e, v) → k ≡ view_key e v → IsEndPrepared note new
run_there old new k puts note e v is key x at =
    ap (λ (o : Option Run). is_some o) (first_put old new k no_run puts (view_key x.0 x.1))
    ∙ (ap
    (λ b. is_some
    (option_or (lookup (same_key (view_key x.0 x.1)) old) (if b then Some no_run else None)))
    (ap (same_key (view_key x.0 x.1)) same ∙ same_key_self (view_key x.0 x.1))
    ∙ go (lookup (same_key (view_key x.0 x.1)) old))
  where
    pair : ◌≡◌ {A = ℕ × ℕ} (e, v) x
    pair = let h : ◌≡◌ {A = Option (ℕ × ℕ)} (Some (e, v)) (Some x) = sym is ∙ at in cc

    same : k ≡ view_key x.0 x.1
    same = key ∙ ap (λ (y : ℕ × ℕ). view_key y.0 y.1) pair

    go : (o : Option Run) → is_some (option_or o (Some no_run)) ≡ true
    go None = refl
    go (Some y) = refl

-- ---- a run is put at a key

-- what a map has at each key, after a value was put where there was one
abbrev pub PutThere : Ends → Ends → VoteKey → Run → Type 0
PutThere old new k run =
    (q : VoteKey) → lookup (λ (j : VoteKey). is_eq (key_cmp q j)) new
    ≡ (if is_eq (key_cmp k q) then Some run else lookup (λ (j : VoteKey). is_eq (key_cmp q j)) old)

there_put : (old new : Ends) (e v : ℕ) (run : Run) → PutThere old new (view_key e v) run
    → (epoch view : ℕ)
    → lookup (same_key (view_key epoch view)) new
    ≡ (if (e == epoch) && (v == view) then Some run
    else lookup (same_key (view_key epoch view)) old)
there_put old new e v run puts epoch view =
    sym (found_key new (view_key epoch view))
    ∙ (puts (view_key epoch view)
    ∙ (ap
    (λ b. if b then Some run
    else lookup (λ (j : VoteKey). is_eq (key_cmp (view_key epoch view) j)) old)
    (sym (keys_tie (view_key e v) (view_key epoch view))
    ∙ (same_key_symm (view_key e v) (view_key epoch view) ∙ same_view 1 epoch view e v))
    ∙ ap (λ (o : Option Run). if (e == epoch) && (v == view) then Some run else o)
    (found_key old (view_key epoch view))))

-- a key of a view that is there, by the order of keys
pub end_is_there : (es : Ends) (epoch view : ℕ)
    → is_some (lookup (same_key (view_key epoch view)) es) ≡ true
    → IsSome (lookup (λ (j : VoteKey). is_eq (key_cmp (view_key epoch view) j)) es)
end_is_there es epoch view there =
    subst (λ (o : Option Run). IsSome o) (sym (found_key es (view_key epoch view)))
    (some_there (lookup (same_key (view_key epoch view)) es) there)

pub still_there : (old new : Ends) (e v : ℕ) (run : Run) → PutThere old new (view_key e v) run
    → (epoch view : ℕ) → is_some (lookup (same_key (view_key epoch view)) old) ≡ true
    → is_some (lookup (same_key (view_key epoch view)) new) ≡ true
still_there old new e v run puts epoch view h =
    ap (λ (o : Option Run). is_some o) (there_put old new e v run puts epoch view)
    ∙ go ((e == epoch) && (v == view))
  where
    go : (b : Bool)
        → is_some (if b then Some run else lookup (same_key (view_key epoch view)) old) ≡ true
    go true = refl
    go false = h

put_here : (old new : Ends) (e v : ℕ) (run : Run) → PutThere old new (view_key e v) run
    → run_at e v new ≡ run
put_here old new e v run puts =
    ap (λ (o : Option Run). unwrap_or o no_run)
    (there_put old new e v run puts e v
    ∙ ap (λ b. if b then Some run else lookup (same_key (view_key e v)) old)
    (and_from (e == e) (v == v) (nat_eq_equiv.refl e) (nat_eq_equiv.refl v)))

put_apart : (old new : Ends) (e v : ℕ) (run : Run) → PutThere old new (view_key e v) run
    → (epoch view : ℕ) → ((e == epoch) && (v == view)) ≡ false
    → run_at epoch view new ≡ run_at epoch view old
put_apart old new e v run puts epoch view apart =
    ap (λ (o : Option Run). unwrap_or o no_run)
    (there_put old new e v run puts epoch view
    ∙ ap (λ b. if b then Some run else lookup (same_key (view_key epoch view)) old) apart)

-- ---- a view is nullified that wasn't

module _ (old mid new : Ends) (notes : List Note) (note : Note) (e v : ℕ) (run : Run)
    (have : HaveRuns notes old) (is : nullifying note ≡ Some (e, v))
    (fresh : nullified notes e v ≡ false) (prepared : IsEndPrepared note old)
    (low : run.first ≡ pass_from (nullified notes e) v)
    (side : Above (nullified notes e) v run.last)
    (put_first : PutThere old mid (view_key e run.first) run)
    (put_last : PutThere mid new (view_key e run.last) run) where
  more : (epoch view : ℕ)
      → nullified (notes ++ note ∷ []) epoch view
      ≡ (nullified notes epoch view || ((epoch == e) && (view == v)))
  more epoch view =
      nullified_more notes note epoch view
      ∙ ap (λ o. nullified notes epoch view || nullifies epoch view o) is

  elsewhere : (epoch : ℕ) → (epoch ≡ e → ⊥) → (view : ℕ)
      → nullified notes epoch view ≡ nullified (notes ++ note ∷ []) epoch view
  elsewhere epoch out view =
      sym
      (more epoch view
      ∙ (ap (λ b. nullified notes epoch view || (b && (view == v))) (ne_eqb epoch e out)
      ∙ or_false (nullified notes epoch view)))

  same_run : (epoch : ℕ) → (epoch ≡ e → ⊥) → (view : ℕ)
      → run_at epoch view new ≡ run_at epoch view old
  same_run epoch out view =
      put_apart mid new e run.last run put_last epoch view (apart run.last)
      ∙ put_apart old mid e run.first run put_first epoch view (apart run.first)
    where
      apart : (w : ℕ) → ((e == epoch) && (w == view)) ≡ false
      apart w = ap (λ b. b && (w == view)) (ne_eqb e epoch (λ s. out (sym s)))

  join : Joins (nullified notes e) (nullified (notes ++ note ∷ []) e)
      (λ view. run_at e view old) (λ view. run_at e view new) v run.first run.last
  join = record {
    fresh = fresh;
    here =
        more e v
        ∙ (ap (λ b. nullified notes e v || b)
        (and_from (e == e) (v == v) (nat_eq_equiv.refl e) (nat_eq_equiv.refl v))
        ∙ or_true (nullified notes e v));
    others = λ w out.
        more e w
        ∙ (ap (λ b. nullified notes e w || ((e == e) && b)) (ne_eqb w v out)
        ∙ (ap (λ b. nullified notes e w || b) (and_false (e == e))
        ∙ or_false (nullified notes e w)));
    low = low;
    side = side;
    first_put =
        ap (λ (r : Run). r.first) (put_here mid new e run.last run put_last);
    last_put = at_first (cases_eq run.last run.first);
    kept = λ w out_first out_last.
        put_apart mid new e run.last run put_last e w
        (ap (λ b. (e == e) && b) (ne_eqb run.last w (λ s. out_last (sym s))) ∙ and_false (e == e))
        ∙ put_apart old mid e run.first run put_first e w
        (ap (λ b. (e == e) && b) (ne_eqb run.first w (λ s. out_first (sym s)))
        ∙ and_false (e == e));
  }
    where
      or_true : (b : Bool) → (b || true) ≡ true
      or_true true = refl
      or_true false = refl

      and_false : (b : Bool) → (b && false) ≡ false
      and_false true = refl
      and_false false = refl

      at_first : (run.last ≡ run.first) ⊎ (run.last ≡ run.first → ⊥)
          → (run_at e run.first new).last ≡ run.last
      at_first (inl s) =
          ap (λ (w : ℕ). (run_at e w new).last) (sym s)
          ∙ ap (λ (r : Run). r.last) (put_here mid new e run.last run put_last)
      at_first (inr out) =
          ap (λ (r : Run). r.last)
          (put_apart mid new e run.last run put_last e run.first
          (ap (λ b. (e == e) && b) (ne_eqb run.last run.first out) ∙ and_false (e == e))
          ∙ put_here old mid e run.first run put_first)

  -- a view that is nullified has its key
  there : (epoch view : ℕ) → nullified (notes ++ note ∷ []) epoch view ≡ true
      → is_some (lookup (same_key (view_key epoch view)) new) ≡ true
  there epoch view h =
      still_there mid new e run.last run put_last epoch view
      (still_there old mid e run.first run put_first epoch view
      (go (cases_Bool (nullified notes epoch view)) (sym (more epoch view) ∙ h)))
    where
      go : (nullified notes epoch view ≡ true) ⊎ (nullified notes epoch view ≡ false)
          → (nullified notes epoch view || ((epoch == e) && (view == v))) ≡ true
          → is_some (lookup (same_key (view_key epoch view)) old) ≡ true
      go (inl t) k = have.keyed epoch view t
      go (inr f) k =
          let both =
          and_parts (epoch == e) (view == v)
          (sym (ap (λ b. b || ((epoch == e) && (view == v))) f) ∙ k) in
          ap
          (λ (n : ℕ). is_some (lookup (same_key (view_key n view)) old))
          (eqb-true epoch e both.0)
          ∙ (ap (λ (n : ℕ). is_some (lookup (same_key (view_key e n)) old))
          (eqb-true view v both.1)
          ∙ prepared (e, v) is)

  pub runs_joined : HaveRuns (notes ++ note ∷ []) new
  runs_joined = record {
    keyed = there;
    ends = λ epoch. at epoch (cases_eq epoch e);
  }
    where
      at : (epoch : ℕ) → (epoch ≡ e) ⊎ (epoch ≡ e → ⊥)
          → AreEnds (nullified (notes ++ note ∷ []) epoch) (λ view. run_at epoch view new)
      at epoch (inl s) =
          subst
          (λ (n : ℕ). AreEnds (nullified (notes ++ note ∷ []) n) (λ view. run_at n view new))
          (sym s)
          (joined (nullified notes e) (nullified (notes ++ note ∷ []) e)
          (λ view. run_at e view old) (λ view. run_at e view new) v run.first run.last
          (have.ends e) join)
      at epoch (inr out) =
          ends_like (nullified notes epoch) (nullified (notes ++ note ∷ []) epoch)
          (λ view. run_at epoch view old) (λ view. run_at epoch view new) (elsewhere epoch out)
          (same_run epoch out) (have.ends epoch)

-- the same, as the code puts it
pub runs_written : (old mid new : Ends) (notes : List Note) (note : Note) (e v : ℕ) (run : Run)
    (k l : VoteKey) → HaveRuns notes old → nullifying note ≡ Some (e, v)
    → nullified notes e v ≡ false → IsEndPrepared note old → 0 < v
    → run.first ≡ (if nullified notes e (v - 1) then (run_at e (v - 1) old).first else v)
    → run.last ≡ (if nullified notes e (v + 1) then (run_at e (v + 1) old).last else v)
    → k ≡ view_key e run.first → l ≡ view_key e run.last
    → (IsSome (lookup (λ (j : VoteKey). is_eq (key_cmp k j)) old) → PutThere old mid k run)
    → (IsSome (lookup (λ (j : VoteKey). is_eq (key_cmp l j)) mid) → PutThere mid new l run)
    → HaveRuns (notes ++ note ∷ []) new
runs_written old mid new notes note e v run k l have is fresh prepared pos first last first_key last_key
    put_first put_last =
    runs_joined old mid new notes note e v run have is fresh prepared low side at_first at_last
  where
    low : run.first ≡ pass_from (nullified notes e) v
    low =
        side_below (nullified notes e) (λ view. run_at e view old) v run.first (have.ends e) pos
        fresh first

    side : Above (nullified notes e) v run.last
    side =
        side_above (nullified notes e) (λ view. run_at e view old) v run.last (have.ends e) fresh
        last

    first_there : (run.first ≡ v) ⊎ (run.first ≡ v → ⊥)
        → is_some (lookup (same_key (view_key e run.first)) old) ≡ true
    first_there (inl s) =
        ap (λ (w : ℕ). is_some (lookup (same_key (view_key e w)) old)) s ∙ prepared (e, v) is
    first_there (inr out) =
        let le = from_le (nullified notes e) v in
        let same = low in
        have.keyed e run.first
        (from_all (nullified notes e) v run.first (omega arith) (omega arith))

    last_there : (run.last ≡ v) ⊎ (run.last ≡ v → ⊥)
        → is_some (lookup (same_key (view_key e run.last)) old) ≡ true
    last_there (inl s) =
        ap (λ (w : ℕ). is_some (lookup (same_key (view_key e w)) old)) s ∙ prepared (e, v) is
    last_there (inr out) =
        let over : Above (nullified notes e) v run.last = side in
        let h = over.high in
        have.keyed e run.last (over.above run.last (omega arith) (omega arith))

    at_first : PutThere old mid (view_key e run.first) run
    at_first =
        subst (λ (q : VoteKey). PutThere old mid q run) first_key
        (put_first
        (subst (λ (q : VoteKey). IsSome (lookup (λ (j : VoteKey). is_eq (key_cmp q j)) old))
        (sym first_key)
        (end_is_there old e run.first (first_there (cases_eq run.first v)))))

    at_last : PutThere mid new (view_key e run.last) run
    at_last =
        subst (λ (q : VoteKey). PutThere mid new q run) last_key
        (put_last
        (subst (λ (q : VoteKey). IsSome (lookup (λ (j : VoteKey). is_eq (key_cmp q j)) mid))
        (sym last_key)
        (end_is_there mid e run.last
        (still_there old mid e run.first run at_first e run.last
        (last_there (cases_eq run.last v))))))

-- a view that a note nullifies is no end of all views
pub nullified_view : (note : Note) (e v : ℕ) → is_countable note ≡ true
    → nullifying note ≡ Some (e, v) → (0 < v) × (v < 2 ^ 64 - 1)
nullified_view (Note.Block c b) e v ok is = cc
nullified_view (Note.Verified d w c) e v ok is = cc
nullified_view (Note.Certified p) e v ok is = cc
nullified_view (Note.Vote w) e v ok is = cc
nullified_view (Note.Cert s) e v ok is = cert s.vote ok is
  where
    cert : (w : Vote) → well_formed w ≡ true → nullifying_vote w ≡ Some (e, v)
        → (0 < v) × (v < 2 ^ 64 - 1)
    cert (Notarize p) k h = cc
    cert (Nullify d u) k h =
        let pair : ◌≡◌ {A = ℕ × ℕ} (d, u) (e, v) = cc in
        let same : u ≡ v = ap (λ (x : ℕ × ℕ). x.1) pair in
        let both = and_parts (nat_lt 0 u) (nat_lt u (2 ^ 64 - 1)) k in
        let a = ltb-true 0 u both.0 in
        let b = ltb-true u (2 ^ 64 - 1) both.1 in
        (omega arith, omega arith)
    cert (Finalize p) k h = cc
nullified_view (Note.Ack h) e v ok is = cc
nullified_view (Note.Floor h) e v ok is = cc
nullified_view (Note.Prune h) e v ok is = cc
nullified_view (Note.Epoch d c) e v ok is = cc

-- ---- what a map says of a view

-- a view that is nullified is over
nullified_ended : (notes : List Note) (epoch view : ℕ) → nullified notes epoch view ≡ true
    → view ≤ greatest (filter_map (ended epoch) notes)
unfolding same_vote
nullified_ended [] epoch view h = cc
nullified_ended (note ∷ notes) epoch view h =
    go (or_cases (is_cert (Nullify epoch view) note) (nullified notes epoch view) h)
    (nullified_ended notes epoch view)
  where
    more : (o : Option ℕ) (xs : List ℕ) → greatest xs ≤ greatest (cons_option o xs)
    more None xs = omega arith
    more (Some x) xs = omega arith

    here : (n : Note) (xs : List ℕ) → is_cert (Nullify epoch view) n ≡ true
        → view ≤ greatest (cons_option (ended epoch n) xs)
    here (Note.Block c b) xs k = cc
    here (Note.Verified e w c) xs k = cc
    here (Note.Certified p) xs k = cc
    here (Note.Vote w) xs k = cc
    here (Note.Cert s) xs k = cert s.vote k
      where
        cert : (v : Vote) → same_vote (Nullify epoch view) v ≡ true
            → view ≤ greatest (cons_option (ended_by epoch v) xs)
        cert (Notarize p) k = cc
        cert (Nullify e w) k =
            let both = and_parts (epoch == e) (view == w) k in
            let same : (e == epoch) ≡ true = nat_eq_equiv.symm e epoch ∙ both.0 in
            let number : view ≡ w = eqb-true view w both.1 in
            subst (λ b. view ≤ greatest (cons_option (if b then Some w else None) xs)) (sym same)
            (omega arith)
        cert (Finalize p) k = cc
    here (Note.Ack h) xs k = cc
    here (Note.Floor h) xs k = cc
    here (Note.Prune h) xs k = cc
    here (Note.Epoch e c) xs k = cc

    go : (is_cert (Nullify epoch view) note ≡ true) ⊎ (nullified notes epoch view ≡ true)
        → (nullified notes epoch view ≡ true → view ≤ greatest (filter_map (ended epoch) notes))
        → view ≤ greatest (cons_option (ended epoch note) (filter_map (ended epoch) notes))
    go (inl k) later = here note (filter_map (ended epoch) notes) k
    go (inr k) later =
        let l = later k in
        let m = more (ended epoch note) (filter_map (ended epoch) notes) in
        omega arith

-- the member's view isn't nullified, and what stands at the one before it is where the nullified
-- views begin
pub run_below_view : (notes : List Note) (es : Ends) (epoch view : ℕ) → HaveRuns notes es
    → view ≡ view_of notes epoch → nullified notes epoch (view - 1) ≡ true
    → (run_at epoch (view - 1) es).first ≡ nullified_from notes epoch (view_of notes epoch)
run_below_view notes es epoch view have is here =
    (have.ends epoch).firsts (view - 1) here past
    ∙ (sym (step (nullified notes epoch) (view - 1) here)
    ∙ ap (nullified_from notes epoch) next)
  where
    next : suc (view - 1) ≡ view_of notes epoch
    next = omega arith

    step : (p : ℕ → Bool) (n : ℕ) → p n ≡ true → pass_from p (suc n) ≡ pass_from p n
    step p n h = ap (λ b. if b then pass_from p n else suc n) h

    past : nullified notes epoch (suc (view - 1)) ≡ false
    past = go (cases_Bool (nullified notes epoch (suc (view - 1))))
      where
        go : (nullified notes epoch (suc (view - 1)) ≡ true)
            ⊎ (nullified notes epoch (suc (view - 1)) ≡ false)
            → nullified notes epoch (suc (view - 1)) ≡ false
        go (inl t) =
            let over = nullified_ended notes epoch (suc (view - 1)) t in
            absurd (omega arith)
        go (inr f) = f

-- where the one before it isn't nullified they begin at the member's view
pub none_below_view : (notes : List Note) (epoch view : ℕ) → view ≡ view_of notes epoch
    → nullified notes epoch (view - 1) ≡ false
    → view ≡ nullified_from notes epoch (view_of notes epoch)
none_below_view notes epoch view is here =
    is
    ∙ (sym next
    ∙ (sym (step (nullified notes epoch) (view - 1) here)
    ∙ ap (nullified_from notes epoch) next))
  where
    next : suc (view - 1) ≡ view_of notes epoch
    next = omega arith

    step : (p : ℕ → Bool) (n : ℕ) → p n ≡ false → pass_from p (suc n) ≡ suc n
    step p n h = ap (λ b. if b then pass_from p n else suc n) h
