-- The part of a new block that its leader sends to a member: what that member's vote asks for.
use Rattle.std.proofs.Common.{◌≡◌, ℕ, zero, suc, ◌+◌, ◌-◌, ◌<◌, Bool, true, false, ◌&&◌, ◌||◌, ◌==◌, not, cond, nat_lt, List, [], ◌∷◌, ◌++◌, Option, Some, None, find, is_some, length, option_map, slice_get, unwrap_or, IsTrue, refl, sym, ◌∙◌, ap, subst, inl, inr, ◌⊎◌, arith, eq-eqb, eqb-true}
use Rattle.std.specs.Prelude.{position}
use Rattle.std.specs.List.{AllByRecursion, enumerate_from, list_any, position_or_len}
use Rattle.std.specs.Option.{option_map_or, option_or}
use Rattle.std.proofs.lemmas.Bool.{and_from, and_parts, cases_Bool, cond-true, cond-false, false≢true, lt-ltb, or_left, or_right}
use Rattle.std.proofs.lemmas.List.Folds.{find_at}
use Rattle.std.proofs.lemmas.Option.{same_Some, slice_get_within}
use Rattle.cw_base.specs.Config.{same_counts}
use Rattle.cw_types.specs.declared.commitment.Commitment.{Commitment}
use Rattle.cw_types.specs.declared.event.Out.{Out}
use Rattle.cw_types.specs.declared.event.To.{To}
use Rattle.cw_types.specs.declared.message.Message.{Message}
use Rattle.cw_types.specs.declared.note.Note.{Note}
use Rattle.cw_types.specs.declared.vote.Proposal.{Proposal}
use Rattle.cw_types.specs.declared.vote.Vote.{Vote}
use Rattle.cw_types.specs.Block.{Block}
use Rattle.cw_types.specs.Epochs.{is_member, list_of, members_in, place, size}
use Rattle.cw_types.specs.Numbers.{config_for}
use Rattle.cw_types.specs.Same.{same_commitment}
use Rattle.cw_types.proofs.Same.{same_commitment_self, same_counts_self}
use Rattle.cw_coding.specs.Totals.{total_of}
use Rattle.cw_rules.specs.Accepted.{Came, Part, Row, Whole, accepted, is_chunk_of, same_part, take_part}
use Rattle.cw_rules.specs.Coding.{IsCoder}
use Rattle.cw_rules.specs.Held.{held, kept_block, shown}
use Rattle.cw_rules.specs.Owed.{has_part, has_part_by, is_known, is_row_at}
use Rattle.cw_rules.specs.Reached.{In, IsCluster}
use Rattle.cw_rules.specs.Rules.{Chunk, Rules, chunks, commit, config, config_among, genesis, genesis_commitment, is_chunked, is_under, row_chunk, rows_of}
use Rattle.cw_rules.specs.Sends.{block_sends, chunk_out, to_all}
use Rattle.cw_rules.specs.World.{Line, is_to}
use Rattle.cw_rules.specs.declared.travel.Travel.{Travel}
use Rattle.cw_rules.specs.declared.travel.Travel.TheVariants.{Chunked, Uncut}
use Rattle.cw_rules.proofs.Codewords.{cut_under}
use Rattle.cw_rules.proofs.Lists.{in_left, in_right}
use Rattle.cw_progress.specs.Going.{is_ballot}
use Rattle.cw_progress.proofs.Outs.{in_map, mapped_in}
use Rattle.cw_progress.proofs.Over.{shown_as}
use Rattle.cw_progress.proofs.Quorum.{any_in, in_any}
use Rattle.cw_progress.proofs.Taken.{block_taken}

-- ---- lists

all_at : {X : Type 0} (P : X → Type 0) (xs : List X) → AllByRecursion P xs → (x : X) → In x xs
    → P x
all_at P [] a x h = absurd h
all_at P (y ∷ ys) a x (inl e) = subst P (sym e) a.0
all_at P (y ∷ ys) a x (inr h) = all_at P ys a.1 x h

pub got_in : {X : Type 0} (xs : List X) (i : ℕ) (x : X) → slice_get xs i ≡ Some x → In x xs
got_in [] i x h = cc h
got_in (y ∷ ys) zero x h = let e : y ≡ x = same_Some y x h in inl (sym e)
got_in (y ∷ ys) (suc i) x h = inr (got_in ys i x h)

pub got_some : {X : Type 0} (xs : List X) (i : ℕ) → i < length xs
    → (x : X) × (slice_get xs i ≡ Some x)
got_some [] i lt = absurd (omega (arith, lt))
got_some (x ∷ xs) zero lt = (x, refl)
got_some (x ∷ xs) (suc i) lt = got_some xs i (omega (arith, lt))

pub enum_in : {X : Type 0} (low : ℕ) (xs : List X) (i : ℕ) (x : X) → slice_get xs i ≡ Some x
    → In (low + i, x) (enumerate_from low xs)
enum_in low [] i x h = cc h
enum_in {X} low (y ∷ ys) zero x h =
    let e : y ≡ x = same_Some y x h in
    let same : low + zero ≡ low = omega arith in
    inl (ap (λ (k : ℕ). (k, x)) same ∙ ap (λ (z : X). (low, z)) (sym e))
enum_in {X} low (y ∷ ys) (suc i) x h =
    let same : low + 1 + i ≡ low + suc i = omega arith in
    inr
    (subst (λ k. In (k, x) (enumerate_from (low + 1) ys)) same (enum_in (low + 1) ys i x h))

found_first : (t : ℕ → Bool) (xs : List ℕ) → list_any t xs ≡ true
    → (y : ℕ) × (find t xs ≡ Some y) × (t y ≡ true)
found_first t [] h = absurd (false≢true h)
found_first t (x ∷ xs) h = go (cases_Bool (t x)) h (found_first t xs)
  where
    go : (t x ≡ true) ⊎ (t x ≡ false) → list_any t (x ∷ xs) ≡ true
        → (list_any t xs ≡ true → (y : ℕ) × (find t xs ≡ Some y) × (t y ≡ true))
        → (y : ℕ) × (find t (x ∷ xs) ≡ Some y) × (t y ≡ true)
    go (inl e) k later = (x, cond-true (t x) (Some x) (find t xs) e, e)
    go (inr f) k later =
        let (y, found, e) = later (by_rest (t x) f k) in
        (y, cond-false (t x) (Some x) (find t xs) f ∙ found, e)
      where
        by_rest : (b : Bool) → b ≡ false → (b || list_any t xs) ≡ true → list_any t xs ≡ true
        by_rest true f k = absurd (false≢true (sym f))
        by_rest false f k = k

-- whoever is a member of an epoch has a place in it
place_there : (xs : List ℕ) (j : ℕ) → list_any (λ k. k == j) xs ≡ true
    → (i : ℕ) × (position (λ k. k == j) xs ≡ Some i) × (slice_get xs i ≡ Some j)
place_there xs j h =
    let (y, found, e) = found_first (λ k. k == j) xs h in
    let at : slice_get xs (position_or_len (λ k. k == j) xs) ≡ Some y =
    sym (find_at (λ k. k == j) xs) ∙ found in (
      position_or_len (λ k. k == j) xs,
      cond-true (nat_lt (position_or_len (λ k. k == j) xs) (length xs))
          (Some (position_or_len (λ k. k == j) xs)) None
          (lt-ltb (position_or_len (λ k. k == j) xs) (length xs)
          (slice_get_within xs (position_or_len (λ k. k == j) xs) y at)),
      at ∙ ap Some (eqb-true y j e),
    )

-- the members of an epoch are one of the lists
listed : (lists : List (List ℕ)) (epoch : ℕ) → 0 < length (list_of lists epoch)
    → In (list_of lists epoch) lists
listed lists epoch pos =
    go (slice_get lists epoch) refl (slice_get lists (length lists - 1)) refl pos
  where
    go : (a : Option (List ℕ)) → slice_get lists epoch ≡ a → (b : Option (List ℕ))
        → slice_get lists (length lists - 1) ≡ b → 0 < length (unwrap_or (option_or a b) [])
        → In (unwrap_or (option_or a b) []) lists
    go (Some xs) e b f pos = got_in lists epoch xs e
    go None e (Some xs) f pos = got_in lists (length lists - 1) xs f
    go None e None f pos = absurd (omega (arith, pos))

-- ---- a chunk

part_among : (came : Came) (fits : Bool) (p x : Part) → In x came.parts
    → In x (take_part came fits p).parts
part_among came fits p x h = go (fits && not (list_any (same_part p) came.parts))
  where
    go : (t : Bool)
        → In x (cond t (record {
          ballots = came.ballots;
          parts = came.parts ++ p ∷ [];
          wishes = came.wishes;
        }) came).parts
    go true = in_left x came.parts (p ∷ []) h
    go false = h

row_taken : (came : Came) (fits : Bool) (c : Commitment) (x : Chunk) → fits ≡ true
    → list_any (is_row_at x.index c) (take_part came fits (Row c x)).parts ≡ true
row_taken came fits c x f = go (list_any (same_part (Row c x)) came.parts) refl
  where
    more : Came
    more =
        record {
          ballots = came.ballots;
          parts = came.parts ++ Row c x ∷ [];
          wishes = came.wishes;
        }

    alike : (y : Part) → same_part (Row c x) y ≡ true → is_row_at x.index c y ≡ true
    alike (Row d z) h =
        let a = and_parts (same_commitment c d) (x.index == z.index) h in
        and_from (same_commitment c d) (z.index == x.index) a.0
        (eq-eqb z.index x.index (sym (eqb-true x.index z.index a.1)))
    alike (Whole b) h = absurd (false≢true h)

    go : (t : Bool) → list_any (same_part (Row c x)) came.parts ≡ t
        → list_any (is_row_at x.index c) (take_part came fits (Row c x)).parts ≡ true
    go true e =
        let (y, at, s) = any_in (same_part (Row c x)) came.parts e in
        in_any (is_row_at x.index c) (take_part came fits (Row c x)).parts y
        (part_among came fits (Row c x) y at) (alike y s)
    go false e =
        in_any (is_row_at x.index c) (take_part came fits (Row c x)).parts (Row c x)
        (subst (λ (k : Came). In (Row c x) k.parts)
        (sym
        (cond-true (fits && not (list_any (same_part (Row c x)) came.parts)) more came
        (and_from fits (not (list_any (same_part (Row c x)) came.parts)) f (ap not e))))
        (in_right (Row c x) came.parts (Row c x ∷ []) (inl refl)))
        (and_from (same_commitment c c) (x.index == x.index) (same_commitment_self c)
        (eq-eqb x.index x.index refl))

-- ---- the part of a member

-- the message, which is for the member, brings what its vote for the proposal asks for
pub record IsPart (r : Rules) (j : ℕ) (p : Proposal) (o : Out) : Type 0 where
  pub to : is_to j o.to ≡ true
  pub plain : is_ballot o.message ≡ false
  pub part : Part
  pub fits : Bool
  pub takes : (sign : ℕ → Vote → Bool) (came : Came)
      → accepted r sign came o.message ≡ take_part came fits part
  pub brings : (sign : ℕ → Vote → Bool) (came : Came) (notes : List Note) (given : List ℕ)
      → has_part r j
      (record { notes = notes; came = accepted r sign came o.message; given = given }) p
      ≡ true

module _ (r : Rules) (script : List Line) (cluster : IsCluster r script)
    (coder : r.travel ≡ Chunked → IsCoder r) (b : Block) (of : b.context.epoch ≡ 0)
    (p : Proposal) (first : p.epoch ≡ 0) (pays : p.payload ≡ commit r b) (id j : ℕ)
    (belongs : is_member r.epochs 0 j ≡ true) where
  abbrev IsSentPart : Travel → Type 0
  IsSentPart t = (o : Out) × In o (block_sends t r id 0 b) × IsPart r j p o

  -- the whole block
  whole : r.travel ≡ Uncut → IsSentPart Uncut
  whole travels = (
    to_all (Message.Block b),
    inl refl,
    record {
      to = refl;
      plain = refl;
      part = Whole b;
      fits = true;
      takes = λ sign came. refl;
      brings = brings;
    },
  )
    where
      c : Commitment
      c = commit r b

      known : (came : Came) (notes : List Note) (given : List ℕ)
          → is_known r
          (record { notes = notes; came = take_part came true (Whole b); given = given }) c
          ≡ true
      known came notes given = go (cases_Bool (same_commitment c (genesis_commitment r)))
        where
          during : Came
          during = take_part came true (Whole b)

          go : (same_commitment c (genesis_commitment r) ≡ true)
              ⊎ (same_commitment c (genesis_commitment r) ≡ false)
              → (is_some (shown r during c) || is_some (held r notes c)) ≡ true
          go (inl t) =
              or_right (is_some (shown r during c)) (is_some (held r notes c))
              (ap is_some
              (cond-true (same_commitment c (genesis_commitment r)) (Some (genesis r))
              (kept_block notes c) t))
          go (inr f) =
              let (a, is, among, same) = shown_as r during b f (block_taken came b) in
              or_left (is_some (shown r during c)) (is_some (held r notes c)) (ap is_some is)

      brings : (sign : ℕ → Vote → Bool) (came : Came) (notes : List Note) (given : List ℕ)
          → has_part r j
          (record {
            notes = notes;
            came = accepted r sign came (Message.Block b);
            given = given;
          }) p
          ≡ true
      brings sign came notes given =
          subst
          (λ t. has_part_by t r j
          (record {
            notes = notes;
            came = take_part came true (Whole b);
            given = given;
          }) p
          ≡ true)
          (sym travels)
          (subst
          (λ x. is_known r
          (record {
            notes = notes;
            came = take_part came true (Whole b);
            given = given;
          }) x
          ≡ true)
          (sym pays) (known came notes given))

  -- its chunk
  module _ (travels : r.travel ≡ Chunked) where
    abbrev n : ℕ
    n = size r.epochs 0

    configs : config r b.context.epoch ≡ config_for n
    configs =
        ap (λ e. config r e) of ∙ ap (λ t. config_among t (size r.epochs 0)) travels

    many : length (rows_of r b) ≡ n
    many =
        let least : 0 < (config r b.context.epoch).minimum =
        subst (λ x. 0 < x.minimum) (sym configs) (omega arith) in
        let counts =
        (coder travels).count (config r b.context.epoch) (r.block_bytes b) least in
        let totals : total_of (config r b.context.epoch) ≡ total_of (config_for n) =
        ap total_of configs in
        let enough = cluster.enough 0 in
        omega (arith, counts, totals, enough)

    is_one : (x : Chunk) → In x (chunks r b) → is_chunk_of r (commit r b) x ≡ true
    is_one x inside =
        and_from
        (is_chunked r.travel
        && list_any (λ list. same_counts (commit r b).config (config_for (length list)))
        r.epochs.lists)
        (is_under r (commit r b) x)
        (and_from (is_chunked r.travel)
        (list_any (λ list. same_counts (commit r b).config (config_for (length list)))
        r.epochs.lists)
        (ap is_chunked travels)
        (in_any (λ list. same_counts (commit r b).config (config_for (length list)))
        r.epochs.lists (members_in r.epochs 0)
        (listed r.epochs.lists 0 (let e = cluster.enough 0 in omega (arith, e)))
        (subst (λ x. same_counts x (config_for n) ≡ true) (sym configs)
        (same_counts_self (config_for n)))))
        (all_at (λ y. IsTrue (is_under r (commit r b) y)) (chunks r b)
        (cut_under r travels (coder travels) b) x inside)

    chunk : IsSentPart Chunked
    chunk =
        let (i, placed, at) = place_there (members_in r.epochs 0) j belongs in
        let lt = slice_get_within (members_in r.epochs 0) i j at in
        let (row, there) =
        got_some (rows_of r b) i (let e = many in omega (arith, lt, e)) in
        by_row i placed at row there
      where
        by_row : (i : ℕ) → place r.epochs 0 j ≡ Some i
            → slice_get (members_in r.epochs 0) i ≡ Some j → (row : List ℕ)
            → slice_get (rows_of r b) i ≡ Some row → IsSentPart Chunked
        by_row i placed at row there = (
          o,
          mapped_in (chunk_out id (members_in r.epochs 0) (commit r b)) (chunks r b) x o inside
              (ap
              (option_map
              (λ (k : ℕ). record {
                to = if_own (k == id) k;
                message = Message.Shard (commit r b) x;
              }))
              at),
          record {
            to = own (j == id);
            plain = refl;
            part = Row (commit r b) x;
            fits = is_chunk_of r (commit r b) x;
            takes = λ sign came. refl;
            brings = brings;
          },
        )
          where
            x : Chunk
            x = row_chunk r (rows_of r b) i row

            if_own : Bool → ℕ → To
            if_own t k = cond t To.All (To.One k)

            o : Out
            o = record { to = if_own (j == id) j; message = Message.Shard (commit r b) x }

            own : (t : Bool) → is_to j (if_own t j) ≡ true
            own true = refl
            own false = eq-eqb j j refl

            inside : In x (chunks r b)
            inside =
                in_map (λ (k : ℕ × List ℕ). row_chunk r (rows_of r b) k.0 k.1)
                (enumerate_from 0 (rows_of r b)) (i, row)
                (let same : 0 + i ≡ i = omega arith in
                subst (λ k. In (k, row) (enumerate_from 0 (rows_of r b))) same
                (enum_in 0 (rows_of r b) i row there))

            brings : (sign : ℕ → Vote → Bool) (came : Came) (notes : List Note)
                (given : List ℕ)
                → has_part r j
                (record {
                  notes = notes;
                  came = accepted r sign came (Message.Shard (commit r b) x);
                  given = given;
                }) p
                ≡ true
            brings sign came notes given =
                subst
                (λ t. has_part_by t r j
                (record {
                  notes = notes;
                  came = accepted r sign came (Message.Shard (commit r b) x);
                  given = given;
                }) p
                ≡ true)
                (sym travels)
                (ap
                (λ q. option_map_or
                (λ k. list_any (is_row_at k p.payload)
                (accepted r sign came (Message.Shard (commit r b) x)).parts)
                q false)
                (ap (λ e. place r.epochs e j) first ∙ placed)
                ∙ (ap
                (λ c. list_any (is_row_at i c)
                (accepted r sign came (Message.Shard (commit r b) x)).parts)
                pays
                ∙ row_taken came (is_chunk_of r (commit r b) x) (commit r b) x
                (is_one x inside)))

  pub part_sent : (o : Out) × In o (block_sends r.travel r id 0 b) × IsPart r j p o
  part_sent = go r.travel refl
    where
      go : (t : Travel) → r.travel ≡ t → IsSentPart t
      go Uncut e = whole e
      go Chunked e = chunk e
