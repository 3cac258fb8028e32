-- What chunks show, by what the rules ask of the codewords below them.
use Rattle.std.proofs.Common.{◌≡◌, ◌≢◌, ℕ, zero, suc, ◌+◌, ◌%◌, ◌<◌, ◌≤◌, Bool, true, false, ◌&&◌, ◌==◌, not, cond, nat_lt, IsTrue, List, [], ◌∷◌, ◌++◌, length, map, take, Option, Some, None, slice_get, filter_map, option_and_then, refl, sym, ◌∙◌, ap, subst, inl, inr, ◌⊎◌, arith, append-nil, eq-eqb, ◌↔◌}
use Rattle.std.specs.List.{AllByRecursion, cons_option, enumerate_from, list_any}
use Rattle.std.specs.Option.{option_or}
use Rattle.std.proofs.lemmas.Bool.{and_parts, and_from, or_parts, cases_Bool, cond-true, cond-false, lt-ltb, false≢true}
use Rattle.std.proofs.lemmas.List.Elements.{filter_map-append}
use Rattle.std.proofs.lemmas.Option.{same_Some}
use Rattle.cw_types.specs.declared.commitment.Commitment.{Commitment}
use Rattle.cw_types.specs.declared.event.Event.{Event}
use Rattle.cw_types.specs.declared.message.Message.{Message}
use Rattle.cw_types.specs.declared.vote.Proposal.{Proposal}
use Rattle.cw_types.specs.declared.vote.Vote.{Vote}
use Rattle.cw_types.specs.Block.{Block}
use Rattle.cw_types.specs.Epochs.{is_member, size}
use Rattle.cw_types.specs.Same.{same_commitment}
use Rattle.cw_types.specs.Votes.{finalized, vote_epoch, well_formed}
use Rattle.cw_rules.specs.Accepted.{Ballot, Came, Part, Row, Whole, accepted, add_wish, first_some, is_chunk_of, is_valid, same_ballot, same_part, take_ballot, take_part, wish_for}
use Rattle.cw_rules.specs.Coding.{AreApart, AreByteChunks, AreRowsOf, IsCoder, IsCodeword, IsText}
use Rattle.cw_rules.specs.Held.{first_chunks, if_committed, chunk_under, shown, shown_by, shown_by_rows, whole_of}
use Rattle.cw_rules.specs.Rules.{Chunk, Rules, block_of, row_chunk, chunks, commit, config, config_among, is_under, block_root, rows_of}
use Rattle.cw_rules.specs.declared.travel.Travel.{Travel}
use Rattle.cw_rules.specs.declared.travel.Travel.TheVariants.{Chunked, Uncut}
use Rattle.cw_coding.specs.Totals.{total_of}
use Rattle.cw_rules.specs.Step.{taken_came}
use Rattle.cw_types.proofs.Same.{same_commitment-true, same_commitment_self}
use Rattle.cw_rules.proofs.Lists.{and_then_some}
use Rattle.std.specs.Option.{option_map_or}

-- ---- chunks of one commitment stand apart

-- one more chunk of another index
pub apart_more : (xs : List Chunk) (y : Chunk) → AreApart xs
    → AllByRecursion (λ (x : Chunk). x.index ≢ y.index) xs → AreApart (xs ++ y ∷ [])
apart_more [] y a b = (tt, tt)
apart_more (x ∷ xs) y a b = (all_more xs a.0, apart_more xs y a.1 b.1)
  where
    all_more : (zs : List Chunk) → AllByRecursion (λ (d : Chunk). x.index ≢ d.index) zs
        → AllByRecursion (λ (d : Chunk). x.index ≢ d.index) (zs ++ y ∷ [])
    all_more [] c = (b.0, tt)
    all_more (z ∷ zs) c = (c.0, all_more zs c.1)

pub all_taken : {X : Type 0} (P : X → Type 0) (n : ℕ) (xs : List X) → AllByRecursion P xs
    → AllByRecursion P (take n xs)
all_taken P zero xs a = tt
all_taken P (suc n) [] a = tt
all_taken P (suc n) (x ∷ xs) a = (a.0, all_taken P n xs a.1)

pub apart_taken : (n : ℕ) (xs : List Chunk) → AreApart xs → AreApart (take n xs)
apart_taken zero xs a = tt
apart_taken (suc n) [] a = tt
apart_taken (suc n) (x ∷ xs) a =
    (all_taken (λ (d : Chunk). x.index ≢ d.index) n xs a.0, apart_taken n xs a.1)

-- the chunks of a commitment among the parts
abbrev rows : Commitment → List Part → List Chunk
rows c parts = filter_map (chunk_under c) parts

abbrev Apart : Came → Type 0
Apart came = (c : Commitment) → AreApart (rows c came.parts)

-- a chunk that isn't there has another place than each that is
other_places : (c : Commitment) (x : Chunk) (parts : List Part)
    → list_any (same_part (Row c x)) parts ≡ false
    → AllByRecursion (λ (y : Chunk). y.index ≢ x.index) (rows c parts)
other_places c x [] h = tt
other_places c x (Whole b ∷ parts) h = other_places c x parts h
other_places c x (Row d y ∷ parts) h =
    let p = or_parts (same_part (Row c x) (Row d y)) (list_any (same_part (Row c x)) parts) h in
    go (cases_Bool (same_commitment c d)) p.0 (other_places c x parts p.1)
  where
    go : (same_commitment c d ≡ true) ⊎ (same_commitment c d ≡ false)
        → (same_commitment c d && (x.index == y.index)) ≡ false
        → AllByRecursion (λ (z : Chunk). z.index ≢ x.index) (rows c parts)
        → AllByRecursion (λ (z : Chunk). z.index ≢ x.index)
        (cons_option (cond (same_commitment c d) (Some y) None) (rows c parts))
    go (inl t) f later =
        subst
        (λ o. AllByRecursion (λ (z : Chunk). z.index ≢ x.index) (cons_option o (rows c parts)))
        (sym (cond-true (same_commitment c d) (Some y) None t)) (
          (λ e. false≢true
              (sym f
              ∙ and_from (same_commitment c d) (x.index == y.index) t
              (eq-eqb x.index y.index (sym e)))),
          later,
        )
    go (inr f) g later =
        subst
        (λ o. AllByRecursion (λ (z : Chunk). z.index ≢ x.index) (cons_option o (rows c parts)))
        (sym (cond-false (same_commitment c d) (Some y) None f)) later

part_apart : (came : Came) (fits : Bool) (p : Part) → Apart came → Apart (take_part came fits p)
part_apart came fits p a c = go (cases_Bool (fits && not (list_any (same_part p) came.parts)))
  where
    more : Came
    more = record { ballots = came.ballots; parts = came.parts ++ p ∷ []; wishes = came.wishes }

    unseen : (b : Bool) → not b ≡ true → b ≡ false
    unseen true h = cc
    unseen false h = refl

    added : (q : Part) → list_any (same_part q) came.parts ≡ false
        → AreApart (rows c came.parts ++ cons_option (chunk_under c q) [])
    added (Whole b) h = subst AreApart (sym (append-nil (rows c came.parts))) (a c)
    added (Row d x) h = by_same (cases_Bool (same_commitment c d))
      where
        by_same : (same_commitment c d ≡ true) ⊎ (same_commitment c d ≡ false)
            → AreApart
            (rows c came.parts ++ cons_option (cond (same_commitment c d) (Some x) None) [])
        by_same (inl t) =
            let e = same_commitment-true c d t in
            subst (λ o. AreApart (rows c came.parts ++ cons_option o []))
            (sym (cond-true (same_commitment c d) (Some x) None t))
            (apart_more (rows c came.parts) x (a c)
            (other_places c x came.parts
            (subst (λ k. list_any (same_part (Row k x)) came.parts ≡ false) (sym e) h)))
        by_same (inr f) =
            subst (λ o. AreApart (rows c came.parts ++ cons_option o []))
            (sym (cond-false (same_commitment c d) (Some x) None f))
            (subst AreApart (sym (append-nil (rows c came.parts))) (a c))

    go : ((fits && not (list_any (same_part p) came.parts)) ≡ true)
        ⊎ ((fits && not (list_any (same_part p) came.parts)) ≡ false)
        → AreApart (rows c (take_part came fits p).parts)
    go (inl t) =
        subst (λ (k : Came). AreApart (rows c k.parts))
        (sym (cond-true (fits && not (list_any (same_part p) came.parts)) more came t))
        (subst AreApart (sym (filter_map-append (chunk_under c) came.parts (p ∷ [])))
        (added p
        (unseen (list_any (same_part p) came.parts)
        (and_parts fits (not (list_any (same_part p) came.parts)) t).1)))
    go (inr n) =
        subst (λ (k : Came). AreApart (rows c k.parts))
        (sym (cond-false (fits && not (list_any (same_part p) came.parts)) more came n)) (a c)

ballot_apart : (came : Came) (fits : Bool) (b : Ballot) → Apart came
    → Apart (take_ballot came fits b)
ballot_apart came fits b a c = go (fits && not (list_any (same_ballot b) came.ballots))
  where
    more : Came
    more = record { ballots = came.ballots ++ b ∷ []; parts = came.parts; wishes = came.wishes }

    go : (t : Bool) → AreApart (rows c (cond t more came).parts)
    go true = a c
    go false = a c

-- what a member accepts leaves its chunks apart
pub taken_apart : (r : Rules) (signed : ℕ → Vote → Bool) (came : Came) (e : Event) → Apart came
    → Apart (taken_came r signed came e)
taken_apart r signed came (Event.Deliver m) a = by_message m
  where
    by_message : (m : Message) → Apart (accepted r signed came m)
    by_message (Message.Vote i v) =
        ballot_apart came (is_member r.epochs (vote_epoch v) i && well_formed v && signed i v)
        (Ballot.Single i v) a
    by_message (Message.Cert s) = ballot_apart came (is_valid r signed s) (Ballot.Many s) a
    by_message (Message.Shard c x) = part_apart came (is_chunk_of r c x) (Row c x) a
    by_message (Message.Block b) = part_apart came true (Whole b) a
    by_message _ = a
taken_apart r signed came (Event.Floor s) a = by_proposal (finalized s.vote)
  where
    by_valid : (p : Proposal) (b : Bool)
        → Apart (cond b (add_wish (take_ballot came true (Ballot.Many s)) p.payload) came)
    by_valid p true c = ballot_apart came true (Ballot.Many s) a c
    by_valid p false c = a c

    by_proposal : (o : Option Proposal) → Apart (option_map_or (wish_for r signed came s) o came)
    by_proposal None = a
    by_proposal (Some p) = by_valid p (is_valid r signed s)
taken_apart r signed came _ a = a

-- ---- what is shown

-- a block is cut in at least one row
some_rows : (t : Travel) (n : ℕ) → 0 < (config_among t n).minimum
some_rows Chunked n = omega arith
some_rows Uncut n = omega arith

module _ (r : Rules) (cut : r.travel ≡ Chunked) (coder : IsCoder r) where
  -- where no whole block came, what the chunks show is shown
  by_cut : (came : Came) (c : Commitment) → first_some (whole_of r c) came.parts ≡ None
      → shown r came c ≡ shown_by_rows r came c
  by_cut came c none =
      ap (λ t. shown_by t r came c) cut ∙ ap (λ o. option_or o (shown_by_rows r came c)) none

  -- what chunks show is a block of whose codeword they are
  shown_codeword : (came : Came) (c : Commitment) (b : Block)
      → first_some (whole_of r c) came.parts ≡ None → shown r came c ≡ Some b
      → IsCodeword r c (first_chunks came c) b
  shown_codeword came c b none h =
      let e : option_and_then (if_committed r c) (block_of r c.config (first_chunks came c))
      ≡ Some b =
      sym (by_cut came c none) ∙ h in
      let (x, f, g) =
      and_then_some (if_committed r c) (block_of r c.config (first_chunks came c)) b e in
      let (text, t, read) =
      and_then_some r.read_block (r.text_of c.config (first_chunks came c)) x f in
      let (same, at) = by_commit x (cases_Bool (same_commitment (commit r x) c)) g in
      let sound = coder.sound c.config (first_chunks came c) text t in
      made text x sound read (coder.reads text x sound.1 read) same at
    where
      by_commit : (x : Block)
          → (same_commitment (commit r x) c ≡ true) ⊎ (same_commitment (commit r x) c ≡ false)
          → if_committed r c x ≡ Some b → (x ≡ b) × (commit r x ≡ c)
      by_commit x (inl t) g = (
        same_Some x b (sym (cond-true (same_commitment (commit r x) c) (Some x) None t) ∙ g),
        same_commitment-true (commit r x) c t,
      )
      by_commit x (inr f) g = cc (cond-false (same_commitment (commit r x) c) (Some x) None f)

      made : (text : List ℕ) (x : Block)
          → (length (first_chunks came c) ≡ c.config.minimum) × IsText text
          × AreRowsOf r c.config (first_chunks came c) text
          → r.read_block text ≡ Some x → r.block_bytes x ≡ text → x ≡ b → commit r x ≡ c
          → IsCodeword r c (first_chunks came c) b
      made text x s read bytes same at = subst (IsCodeword r c (first_chunks came c)) same (record {
        enough = s.0;
        text = subst IsText (sym bytes) s.1;
        rows = subst (AreRowsOf r c.config (first_chunks came c)) (sym bytes) s.2;
        back = ap r.read_block bytes ∙ read;
        committed = at;
      })

  -- and of the codeword of such a block they show it
  codeword_shown : (came : Came) (c : Commitment) (b : Block) → 0 < c.config.minimum
      → total_of c.config ≤ 65535 → Apart came → AreByteChunks (first_chunks came c)
      → first_some (whole_of r c) came.parts ≡ None → IsCodeword r c (first_chunks came c) b
      → shown r came c ≡ Some b
  codeword_shown came c b pos few apart bytes none k =
      let text =
      coder.complete c.config (first_chunks came c) (r.block_bytes b) pos few
      (apart_taken c.config.minimum (rows c came.parts) (apart c)) bytes k.enough k.text
      k.rows in
      let block : block_of r c.config (first_chunks came c) ≡ Some b =
      ap (option_and_then r.read_block) text ∙ k.back in
      let same : same_commitment (commit r b) c ≡ true =
      subst (λ d. same_commitment (commit r b) d ≡ true) k.committed
      (same_commitment_self (commit r b)) in
      by_cut came c none
      ∙ (ap (option_and_then (if_committed r c)) block
      ∙ cond-true (same_commitment (commit r b) c) (Some b) None same)

  pub shown_exactly : (came : Came) (c : Commitment) (b : Block) → 0 < c.config.minimum
      → total_of c.config ≤ 65535 → Apart came → AreByteChunks (first_chunks came c)
      → first_some (whole_of r c) came.parts ≡ None
      → (shown r came c ≡ Some b) ↔ IsCodeword r c (first_chunks came c) b
  shown_exactly came c b pos few apart bytes none =
      (shown_codeword came c b none, codeword_shown came c b pos few apart bytes none)

  -- ---- what a block is cut in stands under its commitment

  under_from : (b : Block) (x : Chunk) → x.index < total_of (config r b.context.epoch)
      → 0 < length x.shard → length x.shard % 2 ≡ 0
      → x.leaf_count ≡ total_of (config r b.context.epoch) → r.leads_to (commit r b).root x ≡ true
      → is_under r (commit r b) x ≡ true
  under_from b x within pos even leaves up =
      let t = total_of (config r b.context.epoch) in
      and_from
      (nat_lt x.index t && nat_lt 0 (length x.shard) && (length x.shard % 2 == 0)
      && (x.leaf_count == t))
      (r.leads_to (commit r b).root x)
      (and_from (nat_lt x.index t && nat_lt 0 (length x.shard) && (length x.shard % 2 == 0))
      (x.leaf_count == t)
      (and_from (nat_lt x.index t && nat_lt 0 (length x.shard)) (length x.shard % 2 == 0)
      (and_from (nat_lt x.index t) (nat_lt 0 (length x.shard)) (lt-ltb x.index t within)
      (lt-ltb 0 (length x.shard) pos))
      (eq-eqb (length x.shard % 2) 0 even))
      (eq-eqb x.leaf_count t leaves))
      up

  pub cut_under : (b : Block)
      → AllByRecursion (λ x. IsTrue (is_under r (commit r b) x)) (chunks r b)
  cut_under b =
      go 0 (rows_of r b) (coder.widths (config r b.context.epoch) (r.block_bytes b) least)
      (λ i row h. subst (λ j. slice_get (rows_of r b) j ≡ Some row) (zero_plus i) h)
      (omega (arith, coder.count (config r b.context.epoch) (r.block_bytes b) least))
    where
      least : 0 < (config r b.context.epoch).minimum
      least = some_rows r.travel (size r.epochs b.context.epoch)

      all : List (List ℕ)
      all = rows_of r b

      zero_plus : (a : ℕ) → a ≡ 0 + a
      zero_plus a = omega arith

      go : (low : ℕ) (rest : List (List ℕ))
          → AllByRecursion (λ row. (0 < length row) × (length row % 2 ≡ 0)) rest
          → ((i : ℕ) (row : List ℕ) → slice_get rest i ≡ Some row
          → slice_get all (low + i) ≡ Some row)
          → low + length rest ≤ total_of (config r b.context.epoch)
          → AllByRecursion (λ x. IsTrue (is_under r (commit r b) x))
          (map (λ at. row_chunk r all at.0 at.1) (enumerate_from low rest))
      go low [] w at le = tt
      go low (row ∷ rest) w at le = (
        under_from b (row_chunk r all low row) (omega arith) w.0.0 w.0.1
            (coder.count (config r b.context.epoch) (r.block_bytes b) least)
            (subst (λ t. r.leads_to (block_root t r b) (row_chunk r all low row) ≡ true) (sym cut)
            (coder.leads all low row
            (subst (λ i. slice_get all i ≡ Some row) (plus_zero low) (at 0 row refl)))),
        go (low + 1) rest w.1
            (λ i x h. subst (λ j. slice_get all j ≡ Some x) (shift low i) (at (suc i) x h))
            (omega arith),
      )
        where
          plus_zero : (a : ℕ) → a + 0 ≡ a
          plus_zero a = omega arith

          shift : (a i : ℕ) → a + suc i ≡ (a + 1) + i
          shift a i = omega arith
