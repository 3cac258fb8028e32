-- What holds of results, carried over.
use Rattle.std.proofs.Common.{Err, IfOk, MatchOption, None, Ok, Option, Result, Some}

-- more of what is answered
pub ok_more : {T E : Type 0} (P Q : T → Type 0) (r : Result T E) → IfOk r P
    → ((v : T) → P v → Q v) → IfOk r Q
ok_more P Q (Ok v) h more = more v h
ok_more P Q (Err e) h more = h

pub found_more : {T E : Type 0} (A B : Type 0) (P Q : T → Type 0) (r : Result (Option T) E)
    → IfOk r (λ found. MatchOption found A P) → (A → B) → ((v : T) → P v → Q v)
    → IfOk r (λ found. MatchOption found B Q)
found_more A B P Q (Ok (Some v)) h none more = more v h
found_more A B P Q (Ok None) h none more = none h
found_more A B P Q (Err e) h none more = h
