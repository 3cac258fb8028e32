use Rattle.std.proofs.Common.{ℕ, ◌+◌, ◌∙◌, ◌≡◌, ◌≤◌, ap, arith, drop, length, rules}
use Rattle.std.proofs.lemmas.List.{length-drop, length-take}
use Rattle.cw_tree.specs.Widths.{shard_len}
use Rattle.cw_coding.proofs.DecodingLaws.{layout_count, layout_room, layout_width}
use Rattle.cw_coding.proofs.RecoveringLaws.{behind, laid_out, layout_zeros, zeros_again}
use Rattle.cw_coding.proofs.recovering.text_length.Goals as goal
use Rattle.cw_coding.proofs.recovering.text_length.Goals.{then-rest-count-via-else-rest-count+then-canonical_shard_len-width, then-rest-count-via-then-rest-count}

pub returns-in_default : goal.returns-in_default
returns-in_default c text short is =
    let room = layout_room c.args.k text c.args.originals.now c.requires.some is in
    omega (arith, c.in_default.len_below)

pub returns-then-rest-count : goal.returns-then-rest-count
returns-then-rest-count c text short is =
    let room = layout_room c.args.k text c.args.originals.now c.requires.some is in
    let count : c.from_be_bytes-count.result ≡ length text =
    c.from_be_bytes-count.ensures ∙ layout_count c.args.k text c.args.originals.now short is in
    let width =
    layout_width c.args.k c.args.width text c.args.originals.now c.requires.some c.requires.long
    is in
    elim c.then-rest-count.branch [
      | then-rest-count-via-then-rest-count w ↦ absurd
          (omega (arith, w.if-rest-count.true, length-take {A = ℕ}, length-drop {A = ℕ}))
      | then-rest-count-via-else-rest-count+then-canonical_shard_len-width w ↦
          w.if-canonical_shard_len-width.true
          (w.canonical_shard_len.ensures.value ∙ ap (λ n. shard_len n c.args.k) count ∙ width)
    ]

pub returns-then-not-are_zeros : goal.returns-then-not-are_zeros
returns-then-not-are_zeros c text short is =
    let count : c.from_be_bytes-count.result ≡ length text =
    c.from_be_bytes-count.ensures ∙ layout_count c.args.k text c.args.originals.now short is in
    let rest = behind c.args.originals.now c.from_be_bytes-count.result in
    let zeros =
    ap (λ (n : ℕ). drop n (drop 4 c.args.originals.now)) count
    ∙ layout_zeros c.args.k text c.args.originals.now is in
    let yes = c.are_zeros.ensures.1 (zeros_again _ _ (rest ∙ zeros)) in
    search rules

pub returns : goal.returns
returns c =
    let os = c.args.originals.now in
    let count = c.from_be_bytes-count.result in
    let room : count + 4 ≤ length os =
    omega (
      arith,
      c.in-len4-up.len_at_least,
      c.if-rest-count.false,
      length-take {A = ℕ},
      length-drop {A = ℕ},
    ) in
    let width : shard_len count c.args.k ≡ c.args.width = search rules in
    let rest = behind os count in
    let zeros = c.are_zeros.ensures.0 (search rules) in (
      omega arith,
      room,
      laid_out c.args.k c.args.width count os c.requires.long room
          (λ i. omega (arith, c.type_inv.originals i)) c.from_be_bytes-count.ensures width
          (rw rest at zeros),
      width,
    )
