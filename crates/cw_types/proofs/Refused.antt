-- Refusals of a part are refusals of the value that is made of it.
use Rattle.std.proofs.Common.{ℕ, List, Ok, Err, ap}
use Rattle.cw_base.specs.declared.reader.CodecError.{CodecError}
use Rattle.cw_base.specs.declared.reader.CodecError.TheVariants as codec
use Rattle.cw_base.specs.Reading.{Reading, IsBehind, IsRefused}
use Rattle.cw_types.specs.Reading.{as_read}

behind_as : {A B : Type 0} (make : A → B) (left : List ℕ) (read : Reading A) → IsBehind read left
    → IsBehind (as_read make read) left
behind_as make left (Ok x) h = h
behind_as make left (Err e) h = h

pub refused_as : {A B : Type 0} (make : A → B) (e : CodecError) (left : List ℕ) (read : Reading A)
    → IsRefused e left read → IsRefused e left (as_read make read)
refused_as make codec.NoMemory left read h = behind_as make left read h
refused_as make codec.EndOfBuffer left read h = ap (as_read make) h
refused_as make codec.InvalidVarint left read h = ap (as_read make) h
refused_as make codec.TooLong left read h = ap (as_read make) h
refused_as make codec.Invalid left read h = ap (as_read make) h
refused_as make codec.Extra left read h = ap (as_read make) h
