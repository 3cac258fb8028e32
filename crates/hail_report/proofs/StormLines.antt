-- Each storm is a script that is run.
use Rattle.std.proofs.Common.{◌≡◌, ℕ, zero, suc, ◌+◌, ◌-◌, ◌*◌, ◌%◌, ◌^◌, ◌<◌, ◌≤◌, ◌==◌, not, Bool, true, false, cond, List, [], ◌∷◌, ◌++◌, length, length-append, Some, None, Ok, refl, sym, ◌∙◌, ap, subst, arith, append_assoc, append-nil, nat_lt}
use Rattle.std.specs.Prelude.{codes}
use Rattle.std.specs.Fmt.{decimal}
use Rattle.std.specs.List.{AllByRecursion, slice_split}
use Rattle.std.proofs.lemmas.Bool.{lt-ltb}
use Rattle.std.proofs.lemmas.Fmt.{decimal_digit}
use Rattle.hex.specs.Hex.{encode_lower}
use Rattle.cw_base.specs.Bytes.{be32}
use Rattle.cw_rules.specs.World.{Ack, Cut, Deliver, Do, Line, Propose, Restart, faults}
use Rattle.cw_rules.specs.declared.travel.Travel.TheVariants.{Chunked}
use Rattle.cw_types.specs.Epochs.{single}
use Rattle.hail_script.specs.Grammar.{admitted, events_from, first_at, is_faulty_in, names_oversize, names_stranger, script_of}
use Rattle.hail_script.specs.Headers.{header_in}
use Rattle.hail_script.specs.Lines.{event_in}
use Rattle.hail_script.specs.Pieces.{fields, lines, number, without_empty_end}
use Rattle.hail_script.specs.Scenario.{Scenario}
use Rattle.hail_script.specs.declared.headers.Header.TheVariants.{Cluster}
use Rattle.hail_report.specs.Text.{line}
use Rattle.hail_report.specs.Storm.{Drawn, acks, cut_line, cut_lines, cut_round, deliver_all, deliver_from, deliver_line, draw, propose_line, propose_text, restart_line, round, rounds, storm_script}
use Rattle.hail_report.proofs.StormWords.{Lacks, lacks_both, lacks_decimal, lacks_word, number_again, split_there, split_whole, word_again, word_short}

-- ---- lines

-- a line of a script: it is read as an event of one of four members, who isn't faulty, and its
-- payload is short
record IsEvent (text : List ℕ) : Type 0 where
  one : Lacks 10 text
  event : Line
  read : event_in (fields text) ≡ Some event
  known : names_stranger 4 event ≡ false
  honest : (i : ℕ) → faults i event ≡ false
  short : names_oversize event ≡ false

-- lines, each with its end
abbrev ended : List (List ℕ) → List ℕ
ended [] = []
ended (text ∷ more) = line text ++ ended more

-- a text of at most so many such lines
record IsStorm (most : ℕ) (text : List ℕ) : Type 0 where
  parts : List (List ℕ)
  whole : text ≡ ended parts
  each : AllByRecursion IsEvent parts
  few : length parts ≤ most

none : (most : ℕ) → IsStorm most []
none most = record { parts = []; whole = refl; each = tt; few = omega arith }

one_line : (text : List ℕ) → IsEvent text → IsStorm 1 (line text)
one_line text h =
    record {
      parts = text ∷ [];
      whole = sym (append-nil (line text));
      each = (h, tt);
      few = omega arith;
    }

ended_both : (xs ys : List (List ℕ)) → ended (xs ++ ys) ≡ ended xs ++ ended ys
ended_both [] ys = refl
ended_both (x ∷ xs) ys =
    ap (λ (l : List ℕ). line x ++ l) (ended_both xs ys)
    ∙ sym (append_assoc (line x) (ended xs) (ended ys))

all_both : (xs ys : List (List ℕ)) → AllByRecursion IsEvent xs → AllByRecursion IsEvent ys
    → AllByRecursion IsEvent (xs ++ ys)
all_both [] ys a b = b
all_both (x ∷ xs) ys a b = (a.0, all_both xs ys a.1 b)

both : (m n : ℕ) (s t : List ℕ) → IsStorm m s → IsStorm n t → IsStorm (m + n) (s ++ t)
both m n s t a b =
    record {
      parts = a.parts ++ b.parts;
      whole =
          ap (λ (l : List ℕ). l ++ t) a.whole
          ∙ ap (λ (l : List ℕ). ended a.parts ++ l) b.whole
          ∙ sym (ended_both a.parts b.parts);
      each = all_both a.parts b.parts a.each b.each;
      few = omega (arith, length-append a.parts b.parts, a.few, b.few);
    }

-- ---- each form of a line

-- a first word, one field
two_fields : (s : ℕ) (a b : List ℕ) → Lacks s a → Lacks s b
    → slice_split (λ x. x == s) (a ++ s ∷ b) ≡ a ∷ b ∷ []
two_fields s a b p q = split_there s a b p ∙ ap (λ (l : List (List ℕ)). a ∷ l) (split_whole s b q)

three_fields : (s : ℕ) (a b c : List ℕ) → Lacks s a → Lacks s b → Lacks s c
    → slice_split (λ x. x == s) (a ++ s ∷ (b ++ s ∷ c)) ≡ a ∷ b ∷ c ∷ []
three_fields s a b c p q r =
    split_there s a (b ++ s ∷ c) p
    ∙ ap (λ (l : List (List ℕ)). a ∷ l) (two_fields s b c q r)

known_of : (m : ℕ) → m < 4 → not (nat_lt m 4) ≡ false
known_of m h = ap not (lt-ltb m 4 h)

-- `propose M HEX`
proposes : (m word : ℕ) → m < 4 → IsStorm 1 (propose_text m (encode_lower (be32 word)))
unfolding propose_text
proposes m word known =
    subst (IsStorm 1)
    (ap (λ (l : List ℕ). line (codes "propose" ++ 32 ∷ l))
    (sym (append_assoc (decimal m) (32 ∷ []) payload)))
    (one_line (codes "propose" ++ 32 ∷ (decimal m ++ 32 ∷ payload))
    (record {
      one =
          lacks_both 10 (codes "propose ") (decimal m ++ 32 ∷ payload)
          (refl, (refl, (refl, (refl, (refl, (refl, (refl, (refl, tt))))))))
          (lacks_both 10 (decimal m) (32 ∷ payload)
          (lacks_decimal 10 m (omega arith) (omega arith))
          (refl, lacks_word 10 word (omega arith)));
      event = Do m (Propose (be32 word));
      read =
          ap event_in
          (three_fields 32 (codes "propose") (decimal m) payload
          (refl, (refl, (refl, (refl, (refl, (refl, (refl, tt)))))))
          (lacks_decimal 32 m (omega arith) (omega arith)) (lacks_word 32 word (omega arith)))
          ∙ is_read;
      known = known_of m known;
      honest = λ i. refl;
      short = word_short word;
    }))
  where
    payload : List ℕ
    payload = encode_lower (be32 word)

    is_read : event_in (codes "propose" ∷ decimal m ∷ payload ∷ []) ≡ Some (Do m (Propose (be32 word)))
    is_read = rw (number_again m (omega arith), word_again word) refl

-- `deliver I M`, or nothing
delivers : (i m word : ℕ) → i < 2 ^ 64 → m < 4 → IsStorm 1 (deliver_line i m word)
unfolding deliver_line
delivers i m word fits known = go (word % 8 == 0)
  where
    is_read : event_in (codes "deliver" ∷ decimal i ∷ decimal m ∷ []) ≡ Some (Do m (Deliver i))
    is_read = rw (number_again i fits, number_again m (omega arith)) refl

    go : (t : Bool)
        → IsStorm 1
        (cond t [] (line (codes "deliver " ++ decimal i ++ codes " " ++ decimal m)))
    go true = none 1
    go false =
        subst (IsStorm 1)
        (ap (λ (l : List ℕ). line (codes "deliver" ++ 32 ∷ l))
        (sym (append_assoc (decimal i) (32 ∷ []) (decimal m))))
        (one_line (codes "deliver" ++ 32 ∷ (decimal i ++ 32 ∷ decimal m))
        (record {
          one =
              lacks_both 10 (codes "deliver ") (decimal i ++ 32 ∷ decimal m)
              (refl, (refl, (refl, (refl, (refl, (refl, (refl, (refl, tt))))))))
              (lacks_both 10 (decimal i) (32 ∷ decimal m)
              (lacks_decimal 10 i (omega arith) fits)
              (refl, lacks_decimal 10 m (omega arith) (omega arith)));
          event = Do m (Deliver i);
          read =
              ap event_in
              (three_fields 32 (codes "deliver") (decimal i) (decimal m)
              (refl, (refl, (refl, (refl, (refl, (refl, (refl, tt)))))))
              (lacks_decimal 32 i (omega arith) fits)
              (lacks_decimal 32 m (omega arith) (omega arith)))
              ∙ is_read;
          known = known_of m known;
          honest = λ i. refl;
          short = refl;
        }))

-- `restart M`
restarts : (m : ℕ) → m < 4 → IsStorm 1 (restart_line m)
unfolding restart_line
restarts m known =
    one_line (codes "restart" ++ 32 ∷ decimal m)
    (record {
      one =
          lacks_both 10 (codes "restart ") (decimal m)
          (refl, (refl, (refl, (refl, (refl, (refl, (refl, (refl, tt))))))))
          (lacks_decimal 10 m (omega arith) (omega arith));
      event = Restart m;
      read =
          ap event_in
          (two_fields 32 (codes "restart") (decimal m)
          (refl, (refl, (refl, (refl, (refl, (refl, (refl, tt)))))))
          (lacks_decimal 32 m (omega arith) (omega arith)))
          ∙ is_read;
      known = known_of m known;
      honest = λ i. refl;
      short = refl;
    })
  where
    is_read : event_in (codes "restart" ∷ decimal m ∷ []) ≡ Some (Restart m)
    is_read = rw (number_again m (omega arith)) refl

-- `ack M`
acknowledges : (m : ℕ) → m < 4 → IsStorm 1 (line (codes "ack " ++ decimal m))
acknowledges m known =
    one_line (codes "ack" ++ 32 ∷ decimal m)
    (record {
      one =
          lacks_both 10 (codes "ack ") (decimal m) (refl, (refl, (refl, (refl, tt))))
          (lacks_decimal 10 m (omega arith) (omega arith));
      event = Do m Ack;
      read =
          ap event_in
          (two_fields 32 (codes "ack") (decimal m) (refl, (refl, (refl, tt)))
          (lacks_decimal 32 m (omega arith) (omega arith)))
          ∙ is_read;
      known = known_of m known;
      honest = λ i. refl;
      short = refl;
    })
  where
    is_read : event_in (codes "ack" ∷ decimal m ∷ []) ≡ Some (Do m Ack)
    is_read = rw (number_again m (omega arith)) refl

-- `cut A C X ack M`
cuts : (a c x m : ℕ) → 0 < a → a < 2 ^ 64 → c < 2 ^ 64 → x < 256 → m < 4
    → IsStorm 1 (cut_line a c x m)
unfolding cut_line
cuts a c x m some fits_a fits_c fits_x known =
    subst (IsStorm 1) (ap (λ (l : List ℕ). line (codes "cut" ++ 32 ∷ l)) (sym joined))
    (one_line (codes "cut" ++ 32 ∷ behind)
    (record {
      one =
          lacks_both 10 (codes "cut ") behind (refl, (refl, (refl, (refl, tt))))
          (lacks_both 10 (decimal a) (32 ∷ (decimal c ++ 32 ∷ last))
          (lacks_decimal 10 a (omega arith) fits_a) (
            refl,
            lacks_both 10 (decimal c) (32 ∷ last) (lacks_decimal 10 c (omega arith) fits_c) (
              refl,
              lacks_both 10 (decimal x) (codes " ack " ++ decimal m)
                  (lacks_decimal 10 x (omega arith) (omega arith))
                  (refl, (refl, (refl, (refl, (refl, lacks_decimal 10 m (omega arith) (omega arith)))))),
            ),
          ));
      event = Cut a c x m Ack;
      read = ap event_in split ∙ is_read;
      known = known_of m known;
      honest = λ i. refl;
      short = refl;
    }))
  where
    last : List ℕ
    last = decimal x ++ 32 ∷ (codes "ack" ++ 32 ∷ decimal m)

    behind : List ℕ
    behind = decimal a ++ 32 ∷ (decimal c ++ 32 ∷ last)

    joined : decimal a ++ codes " " ++ decimal c ++ codes " " ++ decimal x ++ codes " ack "
        ++ decimal m
        ≡ behind
    joined =
        append_assoc (decimal a ++ codes " " ++ decimal c ++ codes " " ++ decimal x)
        (codes " ack ") (decimal m)
        ∙ append_assoc (decimal a ++ codes " " ++ decimal c ++ codes " ") (decimal x)
        (codes " ack " ++ decimal m)
        ∙ append_assoc (decimal a ++ codes " " ++ decimal c) (codes " ") last
        ∙ append_assoc (decimal a ++ codes " ") (decimal c) (32 ∷ last)
        ∙ append_assoc (decimal a) (codes " ") (decimal c ++ 32 ∷ last)

    split : fields (codes "cut" ++ 32 ∷ behind)
        ≡ codes "cut" ∷ decimal a ∷ decimal c ∷ decimal x ∷ codes "ack" ∷ decimal m ∷ []
    split =
        split_there 32 (codes "cut") behind (refl, (refl, (refl, tt)))
        ∙ ap (λ (l : List (List ℕ)). codes "cut" ∷ l)
        (split_there 32 (decimal a) (decimal c ++ 32 ∷ last)
        (lacks_decimal 32 a (omega arith) fits_a)
        ∙ ap (λ (l : List (List ℕ)). decimal a ∷ l)
        (split_there 32 (decimal c) last (lacks_decimal 32 c (omega arith) fits_c)
        ∙ ap (λ (l : List (List ℕ)). decimal c ∷ l)
        (three_fields 32 (decimal x) (codes "ack") (decimal m)
        (lacks_decimal 32 x (omega arith) (omega arith)) (refl, (refl, (refl, tt)))
        (lacks_decimal 32 m (omega arith) (omega arith)))))

    is_read : event_in
        (codes "cut" ∷ decimal a ∷ decimal c ∷ decimal x ∷ codes "ack" ∷ decimal m ∷ [])
        ≡ Some (Cut a c x m Ack)
    is_read =
        rw (
          number_again a fits_a,
          number_again c fits_c,
          number_again x (omega arith),
          number_again m (omega arith),
          lt-ltb 0 a some,
          lt-ltb x 256 fits_x,
        )
        refl

-- ---- a storm, part by part

-- the header
abbrev head : List ℕ
head = line (codes "cluster 4 8")

-- what was drawn so far is the header and at most so many lines
record HasLines (most : ℕ) (d : Drawn) : Type 0 where
  behind : List ℕ
  text : d.text ≡ head ++ behind
  storm : IsStorm most behind

more_lines : (m n s : ℕ) (d : Drawn) (t : List ℕ) → HasLines m d → IsStorm n t
    → HasLines (m + n) (record { text = d.text ++ t; state = s })
more_lines m n s d t h k =
    record {
      behind = h.behind ++ t;
      text = ap (λ (l : List ℕ). l ++ t) h.text ∙ append_assoc head h.behind t;
      storm = both m n h.behind t h.storm k;
    }

-- the bound may be written otherwise
bound_is : (m n : ℕ) (d : Drawn) → m ≡ n → HasLines m d → HasLines n d
bound_is m n d e h = subst (λ (k : ℕ). HasLines k d) e h

all_delivered : (m i : ℕ) (d : Drawn) → i < 2 ^ 64 → HasLines m d → HasLines (m + 4) (deliver_all i d)
all_delivered m i d fits h =
    let one : ℕ → Drawn → ℕ → List ℕ =
    λ member before word. deliver_line i member word in
    let a = more_lines m 1 _ d _ h (delivers i 0 _ fits (omega arith)) in
    let b = more_lines (m + 1) 1 _ (draw (deliver_line i 0) d) _ a (delivers i 1 _ fits (omega arith)) in
    let c = more_lines (m + 1 + 1) 1 _ (draw (deliver_line i 1) (draw (deliver_line i 0) d)) _ b (delivers i 2 _ fits (omega arith)) in
    let e = more_lines (m + 1 + 1 + 1) 1 _ (draw (deliver_line i 2) (draw (deliver_line i 1) (draw (deliver_line i 0) d))) _ c (delivers i 3 _ fits (omega arith)) in
    bound_is (m + 1 + 1 + 1 + 1) (m + 4) (deliver_all i d) (omega arith) e

delivered_from : (count m i : ℕ) (d : Drawn) → i + count < 2 ^ 64 → HasLines m d
    → HasLines (m + count * 4) (deliver_from count i d)
unfolding deliver_from
delivered_from zero m i d fits h = bound_is m (m + zero * 4) d (omega arith) h
delivered_from (suc count) m i d fits h =
    bound_is (m + 4 + count * 4) (m + suc count * 4) (deliver_from (suc count) i d) (omega arith)
    (delivered_from count (m + 4) (i + 1) (deliver_all i d) (omega arith)
    (all_delivered m i d (omega arith) h))

acknowledged : (m : ℕ) (text : List ℕ) → m < 4 → text ≡ codes "ack " ++ (48 + m) ∷ []
    → IsStorm 1 (line text)
acknowledged m text known is =
    subst (λ (l : List ℕ). IsStorm 1 (line l))
    (ap (λ (l : List ℕ). codes "ack " ++ l) (decimal_digit m (omega arith)) ∙ sym is)
    (acknowledges m known)

all_acked : IsStorm 4 acks
unfolding acks
all_acked =
    both 3 1 (line (codes "ack 0") ++ line (codes "ack 1") ++ line (codes "ack 2"))
    (line (codes "ack 3"))
    (both 2 1 (line (codes "ack 0") ++ line (codes "ack 1")) (line (codes "ack 2"))
    (both 1 1 (line (codes "ack 0")) (line (codes "ack 1"))
    (acknowledged 0 (codes "ack 0") (omega arith) refl)
    (acknowledged 1 (codes "ack 1") (omega arith) refl))
    (acknowledged 2 (codes "ack 2") (omega arith) refl))
    (acknowledged 3 (codes "ack 3") (omega arith) refl)

stops : (a b c d : ℕ) → IsStorm 2 (cut_lines a b c d)
stops a b c d =
    both 1 1 (cut_line (1 + b % 5) (c % 4) (d % 2) (a % 4)) (restart_line (a % 4))
    (cuts (1 + b % 5) (c % 4) (d % 2) (a % 4) (omega arith) (omega arith) (omega arith)
    (omega arith) (omega arith))
    (restarts (a % 4) (omega arith))

-- how many lines a round has at most
abbrev round_lines : ℕ → ℕ
round_lines r = cond (r % 8 == 0) 199 197

one_round : (m r : ℕ) (d : Drawn) → r < 2 ^ 32 → HasLines m d
    → HasLines (m + round_lines r) (round r d)
one_round m r d fits h = go (r % 8 == 0)
  where
    proposed : Drawn
    proposed = draw (propose_line r) d

    delivered : Drawn
    delivered = deliver_from 48 (24 * (r - 1)) proposed

    acked : Drawn
    acked = record { text = delivered.text ++ acks; state = delivered.state }

    has : HasLines (m + 1 + 48 * 4 + 4) acked
    has =
        more_lines (m + 1 + 48 * 4) 4 _ delivered acks
        (delivered_from 48 (m + 1) (24 * (r - 1)) proposed (omega arith)
        (more_lines m 1 _ d _ h (proposes (r % 4) _ (omega arith))))
        all_acked

    go : (t : Bool) → HasLines (m + cond t 199 197) (cond t (cut_round acked) acked)
    go true =
        bound_is (m + 1 + 48 * 4 + 4 + 2) (m + 199) (cut_round acked) (omega arith)
        (more_lines (m + 1 + 48 * 4 + 4) 2 _ acked _ has (stops _ _ _ _))
    go false = bound_is (m + 1 + 48 * 4 + 4) (m + 197) acked (omega arith) has

-- and how many so many rounds from one on
abbrev all_lines : ℕ → ℕ → ℕ
all_lines zero r = 0
all_lines (suc count) r = round_lines r + all_lines count (r + 1)

all_rounds : (count m r : ℕ) (d : Drawn) → r + count ≤ 2 ^ 32 → HasLines m d
    → HasLines (m + all_lines count r) (rounds count r d)
unfolding rounds
all_rounds zero m r d fits h = bound_is m (m + 0) d (omega arith) h
all_rounds (suc count) m r d fits h =
    bound_is (m + round_lines r + all_lines count (r + 1)) (m + all_lines (suc count) r)
    (rounds (suc count) r d) (omega arith)
    (all_rounds count (m + round_lines r) (r + 1) (round r d) (omega arith)
    (one_round m r d (omega arith) h))

abbrev begun : ℕ → Drawn
begun number = record { text = head; state = number }

storm_lines : (number : ℕ) → HasLines 6312 (rounds 32 1 (begun number))
storm_lines number =
    all_rounds 32 0 1 (begun number) (omega arith)
    (record { behind = []; text = sym (append-nil head); storm = none 0 })

-- ---- what it is read as

split_ended : (parts : List (List ℕ)) → AllByRecursion IsEvent parts
    → slice_split (λ b. b == 10) (ended parts) ≡ parts ++ [] ∷ []
split_ended [] h = refl
split_ended (text ∷ more) h =
    ap (slice_split (λ b. b == 10)) (append_assoc text (10 ∷ []) (ended more))
    ∙ split_there 10 text (ended more) h.0.one
    ∙ ap (λ (l : List (List ℕ)). text ∷ l) (split_ended more h.1)

end_off : (parts : List (List ℕ)) → without_empty_end (parts ++ [] ∷ []) ≡ parts
end_off [] = refl
end_off ([] ∷ []) = refl
end_off ((b ∷ text) ∷ []) = refl
end_off ([] ∷ next ∷ more) = ap (λ (l : List (List ℕ)). [] ∷ l) (end_off (next ∷ more))
end_off ((b ∷ text) ∷ next ∷ more) =
    ap (λ (l : List (List ℕ)). (b ∷ text) ∷ l) (end_off (next ∷ more))

lines_are : (parts : List (List ℕ)) → AllByRecursion IsEvent parts
    → lines (head ++ ended parts) ≡ codes "cluster 4 8" ∷ parts
lines_are parts h =
    ap (λ (l : List (List ℕ)). without_empty_end (codes "cluster 4 8" ∷ l)) (split_ended parts h)
    ∙ end_off (codes "cluster 4 8" ∷ parts)

-- the events of lines
abbrev events : (parts : List (List ℕ)) → AllByRecursion IsEvent parts → List Line
events [] h = []
events (text ∷ more) h = h.0.event ∷ events more h.1

events_read : (at : ℕ) (parts : List (List ℕ)) (h : AllByRecursion IsEvent parts)
    → events_from at parts ≡ Ok (events parts h)
events_read at [] h = refl
events_read at (text ∷ more) h = rw (h.0.read, events_read (at + 1) more h.1) refl

all_known : (at : ℕ) (parts : List (List ℕ)) (h : AllByRecursion IsEvent parts)
    → first_at (names_stranger 4) at (events parts h) ≡ None
all_known at [] h = refl
all_known at (text ∷ more) h = rw (h.0.known) (all_known (at + 1) more h.1)

all_short : (at : ℕ) (parts : List (List ℕ)) (h : AllByRecursion IsEvent parts)
    → first_at names_oversize at (events parts h) ≡ None
all_short at [] h = refl
all_short at (text ∷ more) h = rw (h.0.short) (all_short (at + 1) more h.1)

all_honest : (i : ℕ) (parts : List (List ℕ)) (h : AllByRecursion IsEvent parts)
    → is_faulty_in (events parts h) i ≡ false
all_honest i [] h = refl
all_honest i (text ∷ more) h = rw (h.0.honest i) (all_honest i more h.1)

header : header_in (fields (codes "cluster 4 8")) ≡ Some (Cluster 4 8)
unfolding number
header = refl

module _ (parts : List (List ℕ)) (h : AllByRecursion IsEvent parts) where
  abbrev script : Scenario
  script =
      record { travel = Chunked; committees = single 4; backlog = 8; lines = events parts h }

  is_admitted : admitted script ≡ Ok script
  is_admitted =
      rw (
        all_known 2 parts h,
        all_honest 0 parts h,
        all_honest 1 parts h,
        all_honest 2 parts h,
        all_honest 3 parts h,
        all_short 2 parts h,
      )
      refl

  is_script : script_of (head ++ ended parts) ≡ Ok script
  is_script = rw (lines_are parts h, header, events_read 2 parts h) is_admitted

pub storm_runs : (number : ℕ) → (s : Scenario) × (script_of (storm_script number) ≡ Ok s)
storm_runs number =
    let has = storm_lines number in (
      script has.storm.parts has.storm.each,
      ap script_of (has.text ∙ ap (λ (l : List ℕ). head ++ l) has.storm.whole)
          ∙ is_script has.storm.parts has.storm.each,
    )

pub storm_short : (number : ℕ) → length (lines (storm_script number)) ≤ 6313
storm_short number =
    let has = storm_lines number in
    omega (
      arith,
      has.storm.few,
      ap (λ (l : List ℕ). length (lines l))
          (has.text ∙ ap (λ (l : List ℕ). head ++ l) has.storm.whole)
          ∙ ap (λ (l : List (List ℕ)). length l) (lines_are has.storm.parts has.storm.each),
    )
