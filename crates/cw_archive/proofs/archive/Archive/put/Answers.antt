use Rattle.std.proofs.Common.{◌≡◌, ◌∙◌, ◌≤◌, ◌<◌, IsTrue, List, ap, is_some, length, ℕ, subst, sym}
use Rattle.std.specs.List.{AllByRecursion}
use Rattle.cw_rules.specs.Coding.{AreBytes}
use Rattle.shards.specs.Enough.{checked_of}
use Rattle.shards.specs.Kept.{is_kept_chunk, with_chunk}
use Rattle.shards.specs.declared.pieces.KeptChunk.{KeptChunk}
use Rattle.cw_archive.specs.Archived.{Archived, after_put, checks, kept_chunk_at, put_answer, within_limit}
use Rattle.cw_archive.specs.declared.put.Put.TheVariants.{Foreign, Kept, Known, TooLarge}
use Rattle.cw_archive.proofs.OrderLemmas.{known_found}
use Rattle.cw_archive.proofs.PutLemmas.{after_kept, after_known, answer_foreign, answer_kept, answer_known, answer_large, copied_some, none_there, some_there}
use Rattle.cw_archive.proofs.RoomLemmas.{all_push, all_within, used_newest}
use Rattle.cw_archive.proofs.archive.Archive.put.Goals as goal

pub returns-then-is_some-clause-answer : goal.returns-then-is_some-clause-answer
returns-then-is_some-clause-answer g c =
    let hash = g.H.Hasher.digest_of in
    let kept = c.self.inside.kept in
    let d = c.args.commitment.now in
    let x = c.args.chunk in
    let known : c.is_some.result ≡ is_kept_chunk kept d x =
    c.is_some.ensures
    ∙ (sym (copied_some c.find.result)
    ∙ (ap is_some (c.find.ensures ∙ ap (kept_chunk_at d kept) (c.from.ensures ∙ c.index.ensures))
    ∙ sym (known_found kept d x))) in
    subst (λ (a : Archived). Known ≡ put_answer hash a d x) c.self.view_is
    (sym
    (answer_known hash (record { limit = c.self.inside.limit; kept = kept }) d x
    (sym known ∙ c.if-is_some.true)))

pub returns-then-is_some-clause-ok : goal.returns-then-is_some-clause-ok
returns-then-is_some-clause-ok g c =
    let hash = g.H.Hasher.digest_of in
    let kept = c.self.inside.kept in
    let d = c.args.commitment.now in
    let x = c.args.chunk in
    let known : c.is_some.result ≡ is_kept_chunk kept d x =
    c.is_some.ensures
    ∙ (sym (copied_some c.find.result)
    ∙ (ap is_some (c.find.ensures ∙ ap (kept_chunk_at d kept) (c.from.ensures ∙ c.index.ensures))
    ∙ sym (known_found kept d x))) in
    subst (λ (a : Archived). a ≡ after_put hash a d x) c.self.view_is
    (sym
    (after_known hash (record { limit = c.self.inside.limit; kept = kept }) d x
    (answer_known hash (record { limit = c.self.inside.limit; kept = kept }) d x
    (sym known ∙ c.if-is_some.true))))

pub returns-then-is_none-clause-answer : goal.returns-then-is_none-clause-answer
returns-then-is_none-clause-answer g c =
    let hash = g.H.Hasher.digest_of in
    let kept = c.self.inside.kept in
    let d = c.args.commitment.now in
    let x = c.args.chunk in
    let known : c.is_some.result ≡ is_kept_chunk kept d x =
    c.is_some.ensures
    ∙ (sym (copied_some c.find.result)
    ∙ (ap is_some (c.find.ensures ∙ ap (kept_chunk_at d kept) (c.from.ensures ∙ c.index.ensures))
    ∙ sym (known_found kept d x))) in
    let fails =
    none_there (checks hash d x) (checked_of hash d x) c.in_ok-checked.field-0 c.is_none.result
    c.in_ok-checked.ensures c.is_none.ensures c.if-is_none.true in
    subst (λ (a : Archived). Foreign ≡ put_answer hash a d x) c.self.view_is
    (sym
    (answer_foreign hash (record { limit = c.self.inside.limit; kept = kept }) d x
    (sym known ∙ c.if-is_some.false) fails))

pub returns-then-width-self-clause-answer : goal.returns-then-width-self-clause-answer
returns-then-width-self-clause-answer g c =
    let hash = g.H.Hasher.digest_of in
    let kept = c.self.inside.kept in
    let d = c.args.commitment.now in
    let x = c.args.chunk in
    let known : c.is_some.result ≡ is_kept_chunk kept d x =
    c.is_some.ensures
    ∙ (sym (copied_some c.find.result)
    ∙ (ap is_some (c.find.ensures ∙ ap (kept_chunk_at d kept) (c.from.ensures ∙ c.index.ensures))
    ∙ sym (known_found kept d x))) in
    let holds =
    some_there (checks hash d x) (checked_of hash d x) c.in_ok-checked.field-0 c.is_none.result
    c.in_ok-checked.ensures c.is_none.ensures c.if-is_none.false in
    let wide =
    subst (λ (s : List ℕ). c.self.inside.limit < length s) c.shard-shard.ensures
    c.if-width-self.true in
    subst (λ (a : Archived). TooLarge ≡ put_answer hash a d x) c.self.view_is
    (sym
    (answer_large hash (record { limit = c.self.inside.limit; kept = kept }) d x
    (sym known ∙ c.if-is_some.false) holds wide))

pub push-requires : goal.push-requires
push-requires g c =
    let kept = c.self.inside.kept in
    let d = c.args.commitment.now in
    let x = c.args.chunk in
    let known : c.is_some.result ≡ is_kept_chunk kept d x =
    c.is_some.ensures
    ∙ (sym (copied_some c.find.result)
    ∙ (ap is_some (c.find.ensures ∙ ap (kept_chunk_at d kept) (c.from.ensures ∙ c.index.ensures))
    ∙ sym (known_found kept d x))) in
    sym known ∙ c.if-is_some.false

pub invariant_of-self-2 : goal.invariant_of-self-2
invariant_of-self-2 g c =
    let hash = g.H.Hasher.digest_of in
    let kept = c.self.inside.kept in
    let d = c.args.commitment.now in
    let x = c.args.chunk in
    let holds =
    some_there (checks hash d x) (checked_of hash d x) c.in_ok-checked.field-0 c.is_none.result
    c.in_ok-checked.ensures c.is_none.ensures c.if-is_none.false in
    let stays : c.make_room.new.kept ≡ within_limit c.self.inside.limit (with_chunk kept d x) =
    c.make_room.ensures.kept ∙ ap (within_limit c.self.inside.limit) c.in_ok-push.ensures.ok in
    record {
      counted =
          sym
          (used_newest (length c.shard-shard.result.now) c.make_room.result c.make_room.new.kept
          c.make_room.ensures.newest);
      within = c.make_room.ensures.within;
      check =
          subst
          (λ (ks : List KeptChunk). AllByRecursion
          (λ (k : KeptChunk). IsTrue (checks hash k.commitment k.chunk)) ks)
          (sym stays)
          (all_within (λ (k : KeptChunk). IsTrue (checks hash k.commitment k.chunk))
          c.self.inside.limit (with_chunk kept d x)
          (all_push (λ (k : KeptChunk). IsTrue (checks hash k.commitment k.chunk)) kept
          (record { commitment = d; chunk = x }) c.self.invariant.check holds));
      bytes =
          subst
          (λ (ks : List KeptChunk). AllByRecursion (λ (k : KeptChunk). AreBytes k.chunk.shard) ks)
          (sym stays)
          (all_within (λ (k : KeptChunk). AreBytes k.chunk.shard) c.self.inside.limit
          (with_chunk kept d x)
          (all_push (λ (k : KeptChunk). AreBytes k.chunk.shard) kept
          (record { commitment = d; chunk = x }) c.self.invariant.bytes
          (subst AreBytes c.shard-shard.ensures c.are_bytes.ensures)));
    }

pub returns-clause-answer : goal.returns-clause-answer
returns-clause-answer g c =
    let hash = g.H.Hasher.digest_of in
    let kept = c.self.inside.kept in
    let d = c.args.commitment.now in
    let x = c.args.chunk in
    let known : c.is_some.result ≡ is_kept_chunk kept d x =
    c.is_some.ensures
    ∙ (sym (copied_some c.find.result)
    ∙ (ap is_some (c.find.ensures ∙ ap (kept_chunk_at d kept) (c.from.ensures ∙ c.index.ensures))
    ∙ sym (known_found kept d x))) in
    let holds =
    some_there (checks hash d x) (checked_of hash d x) c.in_ok-checked.field-0 c.is_none.result
    c.in_ok-checked.ensures c.is_none.ensures c.if-is_none.false in
    let fits =
    subst (λ (s : List ℕ). length s ≤ c.self.inside.limit) c.shard-shard.ensures
    c.if-width-self.false in
    subst (λ (a : Archived). Kept ≡ put_answer hash a d x) c.self.view_is
    (sym
    (answer_kept hash (record { limit = c.self.inside.limit; kept = kept }) d x
    (sym known ∙ c.if-is_some.false) holds fits))

pub returns-clause-ok : goal.returns-clause-ok
returns-clause-ok g c =
    let hash = g.H.Hasher.digest_of in
    let kept = c.self.inside.kept in
    let d = c.args.commitment.now in
    let x = c.args.chunk in
    let a : Archived = record { limit = c.self.inside.limit; kept = kept } in
    let known : c.is_some.result ≡ is_kept_chunk kept d x =
    c.is_some.ensures
    ∙ (sym (copied_some c.find.result)
    ∙ (ap is_some (c.find.ensures ∙ ap (kept_chunk_at d kept) (c.from.ensures ∙ c.index.ensures))
    ∙ sym (known_found kept d x))) in
    let holds =
    some_there (checks hash d x) (checked_of hash d x) c.in_ok-checked.field-0 c.is_none.result
    c.in_ok-checked.ensures c.is_none.ensures c.if-is_none.false in
    let fits =
    subst (λ (s : List ℕ). length s ≤ c.self.inside.limit) c.shard-shard.ensures
    c.if-width-self.false in
    let stays : c.make_room.new.kept ≡ within_limit c.self.inside.limit (with_chunk kept d x) =
    c.make_room.ensures.kept ∙ ap (within_limit c.self.inside.limit) c.in_ok-push.ensures.ok in
    let left : Archived = record { limit = c.self.inside.limit; kept = c.make_room.new.kept } in
    let shown : left ≡ after_put hash a d x =
    ap
    (λ (ks : List KeptChunk). let made : Archived = record {
      limit = c.self.inside.limit;
      kept = ks;
    } in made)
    stays
    ∙ sym
    (after_kept hash a d x
    (answer_kept hash a d x (sym known ∙ c.if-is_some.false) holds fits)) in
    subst (λ (b : Archived). left ≡ after_put hash b d x) c.self.view_is shown
