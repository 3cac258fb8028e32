-- The answers to lines, one behind the other.
use Rattle.std.proofs.Common.{◌≡◌, ◌≤◌, ◌∙◌, ◌++◌, ◌∷◌, [], Bool, List, ap, append_assoc, arith, false, length, min, nat_lt, refl, sym, true, ℕ}
use Rattle.std.proofs.lemmas.Bool.{ltb-false}
use Rattle.std.proofs.lemmas.Bool.Decides.{nat_tests}
use Rattle.std.proofs.lemmas.List.{append-nil, length-take, take_all}
use Rattle.cw_base.specs.declared.hash.Digest32.{Digest32}
use Rattle.cw_rules.specs.declared.travel.Travel.{Travel}
use Rattle.member_lines.specs.Ahead.{kept_part}
use Rattle.member_session.specs.Serving.{Serving}
use Rattle.member_session.specs.Talk.{answered, answers, longest_line, session_after}
use Rattle.member_session.specs.declared.session.Session.{Session}

short : (count : ℕ) → nat_lt 4194304 count ≡ false → count ≤ 4194305
short count is = omega (arith, ltb-false)

kept_long : (count kept : ℕ) → nat_lt 4194304 count ≡ true → kept ≡ min 4194305 count
    → nat_lt 4194304 kept ≡ true
kept_long count kept is cut = grind (arith, nat_tests)

module _ (hash : List ℕ → Digest32) (travel : Travel) where
  pub answers_more : (s : Session Serving) (done : List (List ℕ)) (line : List ℕ)
      → answers hash travel s (done ++ line ∷ [])
      ≡ answers hash travel s done
      ++ (answered hash travel (session_after hash travel s done) line).text
  answers_more s [] line = append-nil (answered hash travel s line).text
  answers_more s (first ∷ done) line =
      let a = answered hash travel s first in
      ap (λ (l : List ℕ). a.text ++ l) (answers_more a.session done line)
      ∙ sym
      (append_assoc a.text (answers hash travel a.session done)
      (answered hash travel (session_after hash travel a.session done) line).text)

  -- the answers to some first lines come first
  pub answers_behind : (s : Session Serving) (first more : List (List ℕ))
      → answers hash travel s (first ++ more)
      ≡ answers hash travel s first
      ++ answers hash travel (session_after hash travel s first) more
  answers_behind s [] more = refl
  answers_behind s (line ∷ first) more =
      let a = answered hash travel s line in
      ap (λ (l : List ℕ). a.text ++ l) (answers_behind a.session first more)
      ∙ sym
      (append_assoc a.text (answers hash travel a.session first)
      (answers hash travel (session_after hash travel a.session first) more))

  pub session_more : (s : Session Serving) (done : List (List ℕ)) (line : List ℕ)
      → session_after hash travel s (done ++ line ∷ [])
      ≡ (answered hash travel (session_after hash travel s done) line).session
  session_more s [] line = refl
  session_more s (first ∷ done) line =
      session_more (answered hash travel s first).session done line

  -- as much of a line as is kept is answered as the line
  pub answered_kept : (s : Session Serving) (line : List ℕ)
      → answered hash travel s (kept_part line) ≡ answered hash travel s line
  answered_kept s line = step (nat_lt longest_line (length line)) refl
    where
      step : (test : Bool) → nat_lt longest_line (length line) ≡ test
          → answered hash travel s (kept_part line) ≡ answered hash travel s line
      step false is =
          ap (λ (l : List ℕ). answered hash travel s l)
          (take_all 4194305 line (short (length line) is))
      step true is =
          let long : nat_lt longest_line (length (kept_part line)) ≡ true =
          kept_long (length line) (length (kept_part line)) is (length-take 4194305 line) in
          rw (long, is) refl
