-- The script of a storm.
use Rattle.std.specs.Prelude.{[], zero, suc, ℕ, ◌%◌, ◌*◌, ◌+◌, ◌-◌, ◌/◌, ◌==◌, ◌≡◌, ◌^◌, ◌++◌, List, codes, if◌then◌else◌}
use Rattle.std.specs.Fmt.{decimal}
use Rattle.cw_base.specs.Bytes.{be32}
use Rattle.hex.specs.Hex.{encode_lower}
use Rattle.hail_report.specs.Text.{line}

-- the next state, and the word that it gives
abbrev pub next_state : ℕ → ℕ
next_state s = (s * 6364136223846793005 + 1442695040888963407) % 2 ^ 64

abbrev pub word_of : ℕ → ℕ
word_of s = s / 2 ^ 33

-- a text so far, and the state behind it
pub record Drawn : Type 0 where
  pub text : List ℕ
  pub state : ℕ

abbrev pub drawn : List ℕ → ℕ → Drawn
drawn text state = record { text = text; state = state }

-- the text and the state are those
abbrev pub shown_draw : ℕ → List ℕ → Drawn → Type 0
shown_draw state text d = (text ≡ d.text) × (state ≡ d.state)

-- the state drawn on, and a line by the word
abbrev pub draw : (ℕ → List ℕ) → Drawn → Drawn
draw f d = let s = next_state d.state in record { text = d.text ++ f (word_of s); state = s }

-- `propose L H`
unfoldable pub propose_text : ℕ → List ℕ → List ℕ
propose_text member digits = line (codes "propose " ++ decimal member ++ codes " " ++ digits)

-- the same by a word, H the word in eight lower-case hexadecimal digits
abbrev pub propose_line : ℕ → ℕ → List ℕ
propose_line r word = propose_text (r % 4) (encode_lower (be32 word))

-- `deliver i m`, but for a word that is a multiple of 8
unfoldable pub deliver_line : ℕ → ℕ → ℕ → List ℕ
deliver_line i m word =
    if word % 8 == 0 then [] else line (codes "deliver " ++ decimal i ++ codes " " ++ decimal m)

-- to each of the members 0 to 3
abbrev pub deliver_all : ℕ → Drawn → Drawn
deliver_all i d =
    draw (deliver_line i 3)
    (draw (deliver_line i 2) (draw (deliver_line i 1) (draw (deliver_line i 0) d)))

-- so many messages from a number on
unfoldable pub deliver_from : ℕ → ℕ → Drawn → Drawn
deliver_from zero i d = d
deliver_from (suc count) i d = deliver_from count (i + 1) (deliver_all i d)

-- `ack m` for m from 0 to 3
unfoldable pub acks : List ℕ
acks = line (codes "ack 0") ++ line (codes "ack 1") ++ line (codes "ack 2") ++ line (codes "ack 3")

-- `cut A C X ack M`
unfoldable pub cut_line : ℕ → ℕ → ℕ → ℕ → List ℕ
cut_line call cut fill member =
    line
    (codes "cut " ++ decimal call ++ codes " " ++ decimal cut ++ codes " " ++ decimal fill
    ++ codes " ack " ++ decimal member)

-- `restart M`
unfoldable pub restart_line : ℕ → List ℕ
restart_line member = line (codes "restart " ++ decimal member)

-- both
abbrev pub cut_text : ℕ → ℕ → ℕ → ℕ → List ℕ
cut_text call cut fill member = cut_line call cut fill member ++ restart_line member

-- the same by four words
abbrev pub cut_lines : ℕ → ℕ → ℕ → ℕ → List ℕ
cut_lines a b c d = cut_text (1 + b % 5) (c % 4) (d % 2) (a % 4)

abbrev pub cut_round : Drawn → Drawn
cut_round d =
    let a = next_state d.state in
    let b = next_state a in
    let c = next_state b in
    let e = next_state c in
    record { text = d.text ++ cut_lines (word_of a) (word_of b) (word_of c) (word_of e); state = e }

-- one round
abbrev pub round : ℕ → Drawn → Drawn
round r d =
    let proposed = draw (propose_line r) d in
    let delivered = deliver_from 48 (24 * (r - 1)) proposed in
    let acked : Drawn = record { text = delivered.text ++ acks; state = delivered.state } in
    if r % 8 == 0 then cut_round acked else acked

-- so many rounds from a number on
unfoldable pub rounds : ℕ → ℕ → Drawn → Drawn
rounds zero r d = d
rounds (suc count) r d = rounds count (r + 1) (round r d)

-- the whole script
abbrev pub storm_script : ℕ → List ℕ
storm_script number =
    (rounds 32 1 (record { text = line (codes "cluster 4 8"); state = number })).text
