use Rattle.std.proofs.Common.{◌≡◌, ℕ, ◌+◌, ◌*◌, ◌%◌, length, sym, ap, ◌∙◌}
use Rattle.std.proofs.Math.Nat.{mul-mod_left}
use Rattle.cw_coding.proofs.encoding.coded_text.Goals as goal

pub hash_many-requires-clause-whole_rows : goal.hash_many-requires-clause-whole_rows
hash_many-requires-clause-whole_rows g c κs within =
    let total : ℕ = c.minimum-k.result + c.extra.result in
    let width : ℕ = c.canonical_shard_len-width.result in
    let long : length c.deref.result.now ≡ total * width =
    ap length c.deref.ensures.value ∙ c.in_ok-rows.ensures.long
    ∙ ap (λ (w : ℕ). total * w) (sym c.canonical_shard_len-width.ensures.value) in
    ap (λ (x : ℕ). x % width) long ∙ mul-mod_left total width
