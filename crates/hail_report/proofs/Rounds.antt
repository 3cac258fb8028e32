-- A storm, draw by draw.
use Rattle.std.proofs.Common.{◌≡◌, ℕ, suc, ◌+◌, ◌-◌, ◌<◌, ◌≤◌, List, sym, ap, ◌∙◌, arith}
use Rattle.hail_report.specs.Storm.{Drawn, deliver_all, deliver_from, drawn, round, rounds, shown_draw}

-- a text and a state are what is drawn
shown_is : (text : List ℕ) (state : ℕ) (d : Drawn) → shown_draw state text d → drawn text state ≡ d
shown_is text state d h =
    ap (λ (t : List ℕ). drawn t state) h.0 ∙ ap (λ (s : ℕ). drawn d.text s) h.1

pub is_shown : (text : List ℕ) (state : ℕ) (d : Drawn) → drawn text state ≡ d
    → shown_draw state text d
is_shown text state d e = (ap (λ (x : Drawn). x.text) e, ap (λ (x : Drawn). x.state) e)

deliver_step : (count step first : ℕ) (d : Drawn) → step < count
    → deliver_from (count - step) (first + step) d
    ≡ deliver_from (count - (step + 1)) (first + (step + 1)) (deliver_all (first + step) d)
unfolding deliver_from
deliver_step count step first d lt =
    let n : count - step ≡ suc (count - (step + 1)) = omega arith in
    let k : first + step + 1 ≡ first + (step + 1) = omega arith in
    ap (λ (x : ℕ). deliver_from x (first + step) d) n
    ∙ ap (λ (x : ℕ). deliver_from (count - (step + 1)) x (deliver_all (first + step) d)) k

pub deliver_on : (count step first : ℕ) (text more : List ℕ) (state next : ℕ) (whole : Drawn)
    → step < count → deliver_from (count - step) (first + step) (drawn text state) ≡ whole
    → shown_draw next more (deliver_all (first + step) (drawn text state))
    → deliver_from (count - (step + 1)) (first + (step + 1)) (drawn more next) ≡ whole
deliver_on count step first text more state next whole lt inv h =
    ap (λ (d : Drawn). deliver_from (count - (step + 1)) (first + (step + 1)) d)
    (shown_is more next (deliver_all (first + step) (drawn text state)) h)
    ∙ sym (deliver_step count step first (drawn text state) lt) ∙ inv

pub deliver_end : (count step first : ℕ) (d whole : Drawn) → count ≤ step
    → deliver_from (count - step) (first + step) d ≡ whole → d ≡ whole
unfolding deliver_from
deliver_end count step first d whole le inv =
    let n : 0 ≡ count - step = omega arith in
    ap (λ (x : ℕ). deliver_from x (first + step) d) n ∙ inv

pub deliver_start : (count first : ℕ) (d : Drawn)
    → deliver_from (count - 0) (first + 0) d ≡ deliver_from count first d
deliver_start count first d =
    let n : count - 0 ≡ count = omega arith in
    let k : first + 0 ≡ first = omega arith in
    ap (λ (x : ℕ). deliver_from x (first + 0) d) n ∙ ap (λ (x : ℕ). deliver_from count x d) k

round_step : (count step : ℕ) (d : Drawn) → step < count
    → rounds (count - step) (1 + step) d
    ≡ rounds (count - (step + 1)) (1 + (step + 1)) (round (1 + step) d)
unfolding rounds
round_step count step d lt =
    let n : count - step ≡ suc (count - (step + 1)) = omega arith in
    let k : 1 + step + 1 ≡ 1 + (step + 1) = omega arith in
    ap (λ (x : ℕ). rounds x (1 + step) d) n
    ∙ ap (λ (x : ℕ). rounds (count - (step + 1)) x (round (1 + step) d)) k

pub round_on : (count step : ℕ) (text more : List ℕ) (state next : ℕ) (whole : Drawn) → step < count
    → rounds (count - step) (1 + step) (drawn text state) ≡ whole
    → shown_draw next more (round (1 + step) (drawn text state))
    → rounds (count - (step + 1)) (1 + (step + 1)) (drawn more next) ≡ whole
round_on count step text more state next whole lt inv h =
    ap (λ (d : Drawn). rounds (count - (step + 1)) (1 + (step + 1)) d)
    (shown_is more next (round (1 + step) (drawn text state)) h)
    ∙ sym (round_step count step (drawn text state) lt) ∙ inv

pub round_end : (count step : ℕ) (d whole : Drawn) → count ≤ step
    → rounds (count - step) (1 + step) d ≡ whole → d ≡ whole
unfolding rounds
round_end count step d whole le inv =
    let n : 0 ≡ count - step = omega arith in ap (λ (x : ℕ). rounds x (1 + step) d) n ∙ inv

pub round_start : (count : ℕ) (d : Drawn) → rounds (count - 0) (1 + 0) d ≡ rounds count 1 d
round_start count d = let n : count - 0 ≡ count = omega arith in ap (λ (x : ℕ). rounds x 1 d) n
