-- Refusals of a part are refusals of the whole, and so is want of memory where only a value is made
-- of the part.
use Rattle.std.proofs.Common.{◌≡◌, ℕ, List, Ok, Err, ap, refl, subst}
use Rattle.cw_base.specs.declared.reader.CodecError.{CodecError}
use Rattle.cw_base.specs.declared.reader.CodecError.TheVariants as codec
use Rattle.cw_base.specs.Reading.{Reading, ◌>>=◌, IsBehind, IsRefused}

-- what the bytes refuse
pub refused_is : {A : Type 0} (e : CodecError) (left : List ℕ) (read : Reading A)
    → read ≡ Err (e, left) → IsRefused e left read
refused_is codec.NoMemory left read h = rw h refl
refused_is codec.EndOfBuffer left read h = h
refused_is codec.InvalidVarint left read h = h
refused_is codec.TooLong left read h = h
refused_is codec.Invalid left read h = h
refused_is codec.Extra left read h = h

-- behind a part, where the rest takes no bytes
behind_made : {A B : Type 0} (left : List ℕ) (read : Reading A) (next : A × List ℕ → Reading B)
    → ((x : A × List ℕ) → IsBehind (next x) x.1) → IsBehind read left
    → IsBehind (read >>= next) left
behind_made left (Ok x) next whole h = subst (λ y. IsBehind (next x) y) h (whole x)
behind_made left (Err e) next whole h = h

pub refused_made : {A B : Type 0} (e : CodecError) (left : List ℕ) (read : Reading A)
    (next : A × List ℕ → Reading B)
    → ((x : A × List ℕ) → IsBehind (next x) x.1) →
    IsRefused e left read → IsRefused e left (read >>= next)
refused_made codec.NoMemory left read next whole h = behind_made left read next whole h
refused_made codec.EndOfBuffer left read next whole h = ap (λ r. r >>= next) h
refused_made codec.InvalidVarint left read next whole h = ap (λ r. r >>= next) h
refused_made codec.TooLong left read next whole h = ap (λ r. r >>= next) h
refused_made codec.Invalid left read next whole h = ap (λ r. r >>= next) h
refused_made codec.Extra left read next whole h = ap (λ r. r >>= next) h
