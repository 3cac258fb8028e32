-- What was taken has the length that was asked.
use Rattle.std.proofs.Common.{◌≡◌, ℕ, ◌≤◌, nat_lt, List, length, take, drop, Ok, ap, arith}
use Rattle.std.proofs.lemmas.Bool.{ltb-false}
use Rattle.std.proofs.lemmas.List.{length-take}
use Rattle.cw_base.specs.declared.reader.CodecError.TheVariants.{EndOfBuffer}
use Rattle.cw_base.specs.Reading.{bytes_at}
use Rattle.cw_base.proofs.ReadingLaws.{guard_ok}

pub length-taken : (n : ℕ) (bytes part rest : List ℕ) → bytes_at n bytes ≡ Ok (part, rest)
    → length part ≡ n
length-taken n bytes part rest e =
    let g =
    guard_ok (nat_lt (length bytes) n) (EndOfBuffer, bytes) (take n bytes, drop n bytes)
    (part, rest) e in
    let long : n ≤ length bytes = ltb-false _ _ g.0 in
    let is : take n bytes ≡ part = ap (λ (p : List ℕ × List ℕ). p.0) g.1 in
    rw (← is) (omega (arith, length-take n bytes))
