use Rattle.std.proofs.Common.{ℕ, ◌*◌, ◌+◌, ◌<◌, ◌∙◌, ◌≡◌, IsTrue, ap, arith, get_or, length, rules, sym}
use Rattle.cw_base.specs.Rows.{row_of}
use Rattle.rs_code.specs.Rows.{joined}
use Rattle.cw_tree.specs.Widths.{shard_len}
use Rattle.cw_coding.specs.Layout.{counted_text, row_at}
use Rattle.cw_coding.specs.Totals.{total_of}
use Rattle.cw_coding.proofs.DecodingLaws.{no_width}
use Rattle.cw_coding.proofs.Matches.{found_more}
use Rattle.cw_coding.proofs.RecoveringLaws.{digests_at, fits_root, fitting, has_given, hashes_count, length-text_in, rows_count, text_in_front}
use Rattle.cw_coding.proofs.recovering.recovered.Goals as goal

pub returns-then-not-is_row_width : goal.returns-then-not-is_row_width
returns-then-not-is_row_width g c text f =
    let yes : IsTrue c.is_row_width.result =
    c.is_row_width.ensures.1
    (no_width _ _ c.args.config.now.minimum c.args.config.now.extra c.args.root.now
    c.args.given.now.width _ _ _ text c.requires.given.some
    (omega (arith, c.requires.given.some, c.requires.given.used)) c.requires.given.within
    c.requires.given.long f) in
    search rules

pub returns-in_default : goal.returns-in_default
returns-in_default g c text f = c.in_default.ensures c.args.root.now text f

pub has_rows-requires-clause-rows : goal.has_rows-requires-clause-rows
has_rows-requires-clause-rows g c κs within =
    let config = c.args.config.now in
    let total : c.minimum.result + c.extra.result ≡ total_of config =
    omega (arith, c.minimum.ensures.value, c.extra.ensures.value) in
    ap length c.deref-2.ensures.value ∙ c.in_ok-rows.ensures.long
    ∙ ap (λ (n : ℕ). n * c.args.given.now.width) total

pub returns-then-not-has_rows : goal.returns-then-not-has_rows
returns-then-not-has_rows g c other f =
    let config = c.args.config.now in
    let given = c.args.given.now in
    let text = counted_text c.in_ok-originals.originals.items c.in-Some.count in
    let some = rw c.deref.ensures.value at c.in-Some.ensures in
    let w : shard_len (length text) config.minimum ≡ given.width =
    ap (λ (n : ℕ). shard_len n config.minimum)
    (length-text_in c.in_ok-originals.originals.items c.in-Some.count some.1)
    ∙ some.3 in
    let value : c.in_ok-rows.rows.items ≡ joined (total_of config) (row_at config.minimum text) =
    rw (c.minimum.ensures.value, c.extra.ensures.value) at
    (c.in_ok-rows.ensures.value text (rw c.minimum.ensures.value (sym w))
    (rw c.minimum.ensures.value (sym some.2))) in
    let yes : IsTrue c.has_rows.result =
    c.has_rows.ensures.1
    (rw c.deref-2.ensures.value
    (has_given _ _ config c.args.root.now given.width given.indices.items given.rows.items
    given.compared text c.in_ok-rows.rows.items c.requires.given w value other
    (some.4 c.args.root.now other f) f)) in
    search rules

pub hash_others-requires-clause-few : goal.hash_others-requires-clause-few
hash_others-requires-clause-few g c κs within =
    let config = c.args.config.now in
    let total : c.minimum.result + c.extra.result ≡ total_of config =
    omega (arith, c.minimum.ensures.value, c.extra.ensures.value) in
    let long : length c.deref-3.result.now ≡ total_of config * c.args.given.now.width =
    ap length c.deref-3.ensures.value ∙ c.in_ok-rows.ensures.long
    ∙ ap (λ (n : ℕ). n * c.args.given.now.width) total in
    let some : 0 < c.args.given.now.width = search rules in
    let count =
    rows_count (total_of config) c.args.given.now.width c.deref-3.result.now some long in
    omega (arith, count, c.requires.given.total)

pub hash_others-requires-clause-given : goal.hash_others-requires-clause-given
hash_others-requires-clause-given g c κs within =
    let config = c.args.config.now in
    let given = c.args.given.now in
    let text = counted_text c.in_ok-originals.originals.items c.in-Some.count in
    let some = rw c.deref.ensures.value at c.in-Some.ensures in
    let w : shard_len (length text) config.minimum ≡ given.width =
    ap (λ (n : ℕ). shard_len n config.minimum)
    (length-text_in c.in_ok-originals.originals.items c.in-Some.count some.1)
    ∙ some.3 in
    let value : c.in_ok-rows.rows.items ≡ joined (total_of config) (row_at config.minimum text) =
    rw (c.minimum.ensures.value, c.extra.ensures.value) at
    (c.in_ok-rows.ensures.value text (rw c.minimum.ensures.value (sym w))
    (rw c.minimum.ensures.value (sym some.2))) in
    let total : c.minimum.result + c.extra.result ≡ total_of config =
    omega (arith, c.minimum.ensures.value, c.extra.ensures.value) in
    let long : length c.in_ok-rows.rows.items ≡ total_of config * given.width =
    c.in_ok-rows.ensures.long ∙ ap (λ (n : ℕ). n * given.width) total in
    let positive : 0 < given.width = search rules in
    let yes : IsTrue c.has_rows.result = search rules in
    let same : (s : ℕ) → s < given.compared
    → row_of given.rows.items given.width s
    ≡ row_of c.in_ok-rows.rows.items given.width (get_or given.indices.items s 0)
    = rw c.deref-2.ensures.value at (c.has_rows.ensures.0 yes) in
    let compared = c.compared_digests.ensures in
    rw (c.deref-3.ensures.value, compared.indices, compared.digests)
    (digests_at g.H.Hasher.digest_of g.H.Digest.Digest.content config c.args.root.now given.width
    given.indices.items given.rows.items given.compared text c.in_ok-rows.rows.items
    c.requires.given w value given.digests.items positive long same c.requires.digests)

pub text_under-requires-clause-some : goal.text_under-requires-clause-some
text_under-requires-clause-some g c κs within =
    let config = c.args.config.now in
    let total : c.minimum.result + c.extra.result ≡ total_of config =
    omega (arith, c.minimum.ensures.value, c.extra.ensures.value) in
    let long : length c.deref-3.result.now ≡ total_of config * c.args.given.now.width =
    ap length c.deref-3.ensures.value ∙ c.in_ok-rows.ensures.long
    ∙ ap (λ (n : ℕ). n * c.args.given.now.width) total in
    let some : 0 < c.args.given.now.width = search rules in
    let count =
    ap length c.in_ok-digests.ensures
    ∙ hashes_count g.H.Hasher.digest_of c.args.given.now.width c.deref-3.result.now
    ∙ rows_count (total_of config) c.args.given.now.width c.deref-3.result.now some long in
    omega (arith, count, c.requires.given.some)

pub text_under-requires-clause-few : goal.text_under-requires-clause-few
text_under-requires-clause-few g c κs within =
    let config = c.args.config.now in
    let total : c.minimum.result + c.extra.result ≡ total_of config =
    omega (arith, c.minimum.ensures.value, c.extra.ensures.value) in
    let long : length c.deref-3.result.now ≡ total_of config * c.args.given.now.width =
    ap length c.deref-3.ensures.value ∙ c.in_ok-rows.ensures.long
    ∙ ap (λ (n : ℕ). n * c.args.given.now.width) total in
    let some : 0 < c.args.given.now.width = search rules in
    let count =
    ap length c.in_ok-digests.ensures
    ∙ hashes_count g.H.Hasher.digest_of c.args.given.now.width c.deref-3.result.now
    ∙ rows_count (total_of config) c.args.given.now.width c.deref-3.result.now some long in
    omega (arith, count, c.requires.given.total)

pub returns : goal.returns
returns g c =
    let hash = g.H.Hasher.digest_of in
    let content = g.H.Digest.Digest.content in
    let config = c.args.config.now in
    let given = c.args.given.now in
    let laid = c.in_ok-originals.originals.items in
    let text = counted_text laid c.in-Some.count in
    let some = rw c.deref.ensures.value at c.in-Some.ensures in
    let short = length-text_in laid c.in-Some.count some.1 in
    let w : shard_len (length text) config.minimum ≡ given.width =
    ap (λ (n : ℕ). shard_len n config.minimum) short ∙ some.3 in
    let value : c.in_ok-rows.rows.items ≡ joined (total_of config) (row_at config.minimum text) =
    rw (c.minimum.ensures.value, c.extra.ensures.value) at
    (c.in_ok-rows.ensures.value text (rw c.minimum.ensures.value (sym w))
    (rw c.minimum.ensures.value (sym some.2))) in
    let yes : IsTrue c.has_rows.result = search rules in
    let same : (s : ℕ) → s < given.compared
    → row_of given.rows.items given.width s
    ≡ row_of c.in_ok-rows.rows.items given.width (get_or given.indices.items s 0)
    = rw c.deref-2.ensures.value at (c.has_rows.ensures.0 yes) in
    let hashes = rw c.deref-3.ensures.value at c.in_ok-digests.ensures in
    found_more _ _ _ _ c.text_under.result c.text_under.ensures
    (λ never other f. never
    (fits_root hash content config c.args.root.now given.width given.indices.items
    given.rows.items given.compared text c.in_ok-rows.rows.items c.requires.given w value
    c.in_ok-digests.digests.items other hashes (some.4 c.args.root.now other f) f))
    (λ found is. fitting hash content config c.args.root.now given.width given.indices.items
    given.rows.items given.compared text c.in_ok-rows.rows.items c.requires.given w value
    c.in_ok-digests.digests.items found.items (omega (arith, short, some.0)) is.2
    (is.1 ∙ text_in_front laid c.in_ok-rows.rows.items c.in-Some.count c.in_ok-rows.ensures.first
    some.1)
    same hashes is.0)
