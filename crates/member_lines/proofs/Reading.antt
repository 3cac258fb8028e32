-- Reading a line, piece by piece.
use Rattle.std.proofs.Common.{subst, ◌≡◌, ◌≢◌, ◌≤◌, ◌<◌, ◌+◌, ◌-◌, ◌∙◌, ◌++◌, ◌&&◌, ◌∷◌, [], Bool, Err, List, Ok, OnOk, Option, Result, Some, ap, append_assoc, arith, drop, false, length, min, refl, suc, sym, take, true, zero, ℕ}
use Rattle.std.proofs.KnownBytes.{Consumes-kept, Consumes-trans}
use Rattle.std.proofs.Math.Seq.{take-append-add}
use Rattle.std.proofs.lemmas.List.{append-nil, drop-drop, drop-take, drop_more, length-append, length-drop, length-take, take-append-drop, take_min}
use Rattle.std.proofs.lemmas.List.Folds.{list_all-append}
use Rattle.std.specs.Io.KnownBytes.{Consumes, IsAtEnd, Keeps}
use Rattle.cw_base.specs.Causes.{Rose}
use Rattle.member_lines.specs.Ahead.{Ahead, Fills, FindsFeed, IsBegun, Moves, MovesAll, MovesLine, ReadsLine, is_plain, kept_part}
use Rattle.member_lines.specs.declared.input.Next.{Next}
use Rattle.member_lines.specs.declared.input.Next.TheVariants.{End, Endless, Fault, Last, Line, NoMemory}

pub and_left : (a b : Bool) → (a && b) ≡ true → a ≡ true
and_left true b is = refl
and_left false b none = none

pub and_right : (a b : Bool) → (a && b) ≡ true → b ≡ true
and_right true b is = is
and_right false b none = cc

pub and_both : (a b : Bool) → a ≡ true → b ≡ true → (a && b) ≡ true
and_both true b is holds = holds
and_both false b none holds = none

pub rose_late : (a b c : ℕ) → a ≤ b → Rose b c → Rose a c
rose_late a b c first second = omega arith

take_front : (n : ℕ) (a b : List ℕ) → take n (take n a ++ b) ≡ take n (a ++ b)
take_front zero a b = refl
take_front (suc n) [] b = refl
take_front (suc n) (x ∷ a) b = ap (λ (l : List ℕ). x ∷ l) (take_front n a b)

none_taken : (n : ℕ) (a : List ℕ) → take (suc n) a ≡ [] → a ≡ []
none_taken n [] none = refl
none_taken n (x ∷ a) none = cc

plain_both : (a b : List ℕ) → is_plain a ≡ true → is_plain b ≡ true → is_plain (a ++ b) ≡ true
plain_both a b one two =
    list_all-append _ a b ∙ and_both (is_plain a) (is_plain b) one two

-- ---- what stands ahead

-- a part of what comes is put to a line, as much as tells whether it is too long
keeps_part : (line bytes : List ℕ) (used most : ℕ) → used ≡ length line → used ≤ 4194305
    → most ≡ min (length bytes) (4194305 - used)
    → line ++ take most bytes ≡ kept_part (line ++ bytes)
keeps_part line bytes used most all fits cut =
    let room = 4194305 - length line in
    let least : most ≡ min room (length bytes) = omega arith in
    let whole : length line + room ≡ 4194305 = omega arith in
    ap (λ (n : ℕ). line ++ take n bytes) least
    ∙ ap (λ (l : List ℕ). line ++ l) (take_min room bytes)
    ∙ sym (take-append-add line bytes room)
    ∙ ap (λ (n : ℕ). take n (line ++ bytes)) whole

pub put_part : {T E : Type 0} (result : Result T E) (line bytes after : List ℕ) (used most : ℕ)
    → used ≡ length line → used ≤ 4194305 → most ≡ min (length bytes) (4194305 - used)
    → OnOk result (after ≡ line ++ take most bytes)
    → OnOk result (after ≡ kept_part (line ++ bytes))
put_part (Ok x) line bytes after used most all fits cut wrote =
    wrote ∙ keeps_part line bytes used most all fits cut
put_part (Err e) line bytes after used most all fits cut wrote = tt

pub kept_fits : (line text : List ℕ) → line ≡ kept_part text → length line ≤ 4194305
kept_fits line text is =
    omega (arith, ap (length {A = ℕ}) is, length-take 4194305 text)

-- what stands behind a byte of what stands ahead
pub behind : (room : List ℕ) (from to at : ℕ)
    → at < length (take (to - from) (drop from room))
    → take (to - (from + (at + 1))) (drop (from + (at + 1)) room)
    ≡ drop (at + 1) (take (to - from) (drop from room))
behind room from to at lies =
    let rest = to - (from + (at + 1)) in
    let parts : (at + 1) + rest ≡ to - from =
    omega (arith, length-take (to - from) (drop from room)) in
    ap (λ (l : List ℕ). take rest l) (sym (drop-drop (at + 1) from room))
    ∙ sym (drop-take (at + 1) rest (drop from room))
    ∙ ap (λ (n : ℕ). drop (at + 1) (take n (drop from room))) parts

pub moves_line : (old new : Ahead) (pending : List ℕ) (at : ℕ) → old.ahead ≡ pending
    → FindsFeed pending (Some at) → new.line ≡ kept_part (old.line ++ take at pending)
    → new.ahead ≡ drop (at + 1) pending → length pending ≤ 65536 → MovesLine old new
moves_line old new pending at is found kept rest most = record {
  front = take at pending;
  plain = found.1;
  ahead_is =
      is ∙ sym (take-append-drop at pending)
      ∙ ap (λ (l : List ℕ). take at pending ++ l) (drop_more pending at 0 found.0)
      ∙ ap (λ (b : ℕ). take at pending ++ (b ∷ drop (at + 1) pending)) found.2
      ∙ ap (λ (l : List ℕ). take at pending ++ 10 ∷ l) (sym rest);
  kept = kept;
  short = omega (arith, ap (length {A = ℕ}) rest, length-drop (at + 1) pending);
}

pub moved_line : (old new : Ahead) (ended : Bool) → ended ≡ true → Moves old new ended
    → MovesLine old new
moved_line old new true is moves = moves
moved_line old new false none moves = cc

pub moved_all : (old new : Ahead) (ended : Bool) → ended ≡ false → Moves old new ended
    → MovesAll old new
moved_all old new false is moves = moves
moved_all old new true none moves = cc

pub filled : (left rest : Option (List ℕ)) (ahead : List ℕ) (more : Bool) → more ≡ true
    → Fills left rest ahead more → Consumes left rest ahead × (0 < length ahead)
filled left rest ahead true is fills = fills
filled left rest ahead false none fills = cc

pub filled_none : (left rest : Option (List ℕ)) (ahead : List ℕ) (more : Bool) → more ≡ false
    → Fills left rest ahead more → Consumes left rest [] × IsAtEnd rest × (ahead ≡ [])
filled_none left rest ahead false is fills = fills
filled_none left rest ahead true none fills = cc

-- ---- what was read so far

-- what was read so far for a line, in so many pieces: a front without a line feed, and what
-- stands ahead
pub record HasRead (left rest : Option (List ℕ)) (reads later_reads pieces : ℕ) (ahead : List ℕ)
    (now : Ahead) : Type 0 where
  pub read : List ℕ
  pub came : Consumes left rest read
  pub asked : is_plain ahead ≡ false → read ≡ []
  pub many : pieces ≤ length read
  pub later : reads ≤ later_reads
  pub front : List ℕ
  pub plain : is_plain front ≡ true
  pub parts : ahead ++ read ≡ front ++ now.ahead
  pub kept : now.line ≡ kept_part front

module _ (left : Option (List ℕ)) (reads : ℕ) (ahead : List ℕ) where
  -- the same, told by its name
  as_told : (rest : Option (List ℕ)) (later : ℕ) (new : Ahead) (one n : Next) → n ≡ one
      → ReadsLine left rest reads later ahead new one → ReadsLine left rest reads later ahead new n
  as_told rest later new one n is told =
      let P : Next → Type 0 = λ x. ReadsLine left rest reads later ahead new x in
      subst P (sym is) told

  pub read_line : (rest : Option (List ℕ)) (later pieces : ℕ) (now new : Ahead)
      → HasRead left rest reads later pieces ahead now → MovesLine now new
      → ReadsLine left rest reads later ahead new Line
  read_line rest later pieces now new has moves = record {
    read = has.read;
    came = has.came;
    asked = has.asked;
    later = has.later;
    told =
        record {
          line = has.front ++ moves.front;
          plain = plain_both has.front moves.front has.plain moves.plain;
          text_is =
              has.parts ∙ ap (λ (l : List ℕ). has.front ++ l) moves.ahead_is
              ∙ sym (append_assoc has.front moves.front (10 ∷ new.ahead));
          kept =
              moves.kept ∙ ap (λ (l : List ℕ). kept_part (l ++ moves.front)) has.kept
              ∙ take_front 4194305 has.front moves.front;
          short = moves.short;
        };
  }

  -- all that stood ahead was put to the line
  pub read_all : (rest : Option (List ℕ)) (later pieces : ℕ) (now new : Ahead)
      → HasRead left rest reads later pieces ahead now → MovesAll now new
      → HasRead left rest reads later pieces ahead new
  read_all rest later pieces now new has moves = record {
    read = has.read;
    came = has.came;
    asked = has.asked;
    many = has.many;
    later = has.later;
    front = has.front ++ now.ahead;
    plain = plain_both has.front now.ahead has.plain moves.plain;
    parts =
        has.parts ∙ sym (append-nil (has.front ++ now.ahead))
        ∙ ap (λ (l : List ℕ). (has.front ++ now.ahead) ++ l) (sym moves.none);
    kept =
        moves.kept ∙ ap (λ (l : List ℕ). kept_part (l ++ now.ahead)) has.kept
        ∙ take_front 4194305 has.front now.ahead;
  }

  -- all of it is there
  is_begun : (rest : Option (List ℕ)) (later pieces : ℕ) (now new : Ahead)
      → (has : HasRead left rest reads later pieces ahead now) → new.line ≡ now.line
      → new.ahead ≡ now.ahead → IsBegun (ahead ++ has.read) new
  is_begun rest later pieces now new has same also = record {
    front = has.front;
    plain = has.plain;
    text_is = has.parts ∙ ap (λ (l : List ℕ). has.front ++ l) (sym also);
    kept = same ∙ has.kept;
  }

  -- what is left, where nothing stands ahead
  left_over : (rest : Option (List ℕ)) (later pieces : ℕ) (now : Ahead)
      → (has : HasRead left rest reads later pieces ahead now) → now.ahead ≡ []
      → ahead ++ has.read ≡ has.front
  left_over rest later pieces now has none =
      has.parts ∙ ap (λ (l : List ℕ). has.front ++ l) none ∙ append-nil has.front

  -- then no line stood ahead
  asked_none : (front read more : List ℕ) → ahead ++ read ≡ front → is_plain front ≡ true
      → is_plain ahead ≡ false → read ++ more ≡ []
  asked_none front read more is plain holds =
      let both : (is_plain ahead && is_plain read) ≡ true =
      sym (list_all-append _ ahead read) ∙ ap is_plain is ∙ plain in
      let one : is_plain ahead ≡ true = and_left (is_plain ahead) (is_plain read) both in
      cc

  -- and then more was read
  pub read_more : (rest next : Option (List ℕ)) (later last pieces : ℕ) (now new : Ahead)
      → HasRead left rest reads later pieces ahead now → now.ahead ≡ [] → later ≤ last
      → Consumes rest next new.ahead × (0 < length new.ahead) → new.line ≡ now.line
      → HasRead left next reads last (pieces + 1) ahead new
  read_more rest next later last pieces now new has none rose came same = record {
    read = has.read ++ new.ahead;
    came = Consumes-trans left rest next has.read new.ahead has.came came.0;
    asked =
        asked_none has.front has.read new.ahead (left_over rest later pieces now has none)
        has.plain;
    many = omega (arith, length-append has.read new.ahead, has.many, came.1);
    later = omega (arith, has.later, rose);
    front = has.front;
    plain = has.plain;
    parts =
        sym (append_assoc ahead has.read new.ahead)
        ∙ ap (λ (l : List ℕ). l ++ new.ahead)
        (has.parts ∙ ap (λ (l : List ℕ). has.front ++ l) none ∙ append-nil has.front);
    kept = same ∙ has.kept;
  }

  -- what is read behind nothing
  over_nothing : (rest next : Option (List ℕ)) (read : List ℕ) → Consumes left rest read
      → Consumes rest next [] → Consumes left next read
  over_nothing rest next read one two =
      let both : Consumes left next (read ++ []) = Consumes-trans left rest next read [] one two in
      let P : List ℕ → Type 0 = λ l. Consumes left next l in subst P (append-nil read) both

  pub read_end : (rest next : Option (List ℕ)) (later last pieces : ℕ) (now new : Ahead) (n : Next)
      → HasRead left rest reads later pieces ahead now → now.ahead ≡ [] → later ≤ last
      → Consumes rest next [] × IsAtEnd next × (new.ahead ≡ []) → now.line ≡ [] → n ≡ End
      → ReadsLine left next reads last ahead new n
  read_end rest next later last pieces now new n has none rose came empty is =
      as_told next last new End n is
      (record {
        read = has.read;
        came = over_nothing rest next has.read has.came came.0;
        asked = has.asked;
        later = omega (arith, has.later, rose);
        told = (
          left_over rest later pieces now has none
              ∙ none_taken 4194304 has.front (sym has.kept ∙ empty),
          came.1,
          came.2,
        );
      })

  pub read_last : (rest next : Option (List ℕ)) (later last pieces : ℕ) (now new : Ahead) (n : Next)
      → HasRead left rest reads later pieces ahead now → now.ahead ≡ [] → later ≤ last
      → Consumes rest next [] × IsAtEnd next × (new.ahead ≡ []) → now.line ≢ []
      → new.line ≡ now.line → n ≡ Last
      → ReadsLine left next reads last ahead new n
  read_last rest next later last pieces now new n has none rose came some same is =
      let all = left_over rest later pieces now has none in
      as_told next last new Last n is
      (record {
        read = has.read;
        came = over_nothing rest next has.read has.came came.0;
        asked = has.asked;
        later = omega (arith, has.later, rose);
        told =
            record {
              plain = ap is_plain all ∙ has.plain;
              some = λ empty. some (has.kept ∙ ap kept_part (sym all ∙ empty));
              kept = same ∙ has.kept ∙ ap kept_part (sym all);
              at_end = came.1;
              none = came.2;
            };
      })

  pub read_fault : (rest next : Option (List ℕ)) (later last pieces : ℕ) (now new : Ahead)
      → HasRead left rest reads later pieces ahead now → now.ahead ≡ [] → later ≤ last
      → Keeps rest next → Rose later last → new.line ≡ now.line → new.ahead ≡ []
      → ReadsLine left next reads last ahead new Fault
  read_fault rest next later last pieces now new has none rose keeps failed same empty = record {
    read = has.read;
    came = Consumes-kept left rest next has.read has.came keeps;
    asked = has.asked;
    later = omega (arith, has.later, rose);
    told = (
      ap is_plain (left_over rest later pieces now has none) ∙ has.plain,
      rose_late reads later last has.later failed,
      is_begun rest later pieces now new has same (empty ∙ sym none),
    );
  }

  pub read_short : (rest : Option (List ℕ)) (later pieces : ℕ) (now new : Ahead)
      → HasRead left rest reads later pieces ahead now → new ≡ now
      → ReadsLine left rest reads later ahead new NoMemory
  read_short rest later pieces now new has same = record {
    read = has.read;
    came = has.came;
    asked = has.asked;
    later = has.later;
    told =
        is_begun rest later pieces now new has (ap (λ (a : Ahead). a.line) same)
        (ap (λ (a : Ahead). a.ahead) same);
  }

  pub read_endless : (rest : Option (List ℕ)) (later pieces : ℕ) (now : Ahead)
      → HasRead left rest reads later pieces ahead now → 18446744073709551615 ≤ pieces
      → ReadsLine left rest reads later ahead now Endless
  read_endless rest later pieces now has most = record {
    read = has.read;
    came = has.came;
    asked = has.asked;
    later = has.later;
    told = (
      omega (arith, length-append ahead has.read, has.many),
      is_begun rest later pieces now now has refl refl,
    );
  }
