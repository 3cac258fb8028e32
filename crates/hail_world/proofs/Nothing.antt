-- Where an option has nothing.
use Rattle.std.proofs.Common.{◌≡◌, Bool, true, false, is_some, Option, Some, None, refl}

pub none_when : {X : Type 0} (o : Option X) → ((x : X) → o ≡ Some x → ⊥) → o ≡ None
none_when None never = refl
none_when (Some x) never = absurd (never x refl)

pub none_unless : {X : Type 0} (o : Option X) → is_some o ≡ false → o ≡ None
none_unless None e = refl
none_unless (Some x) e = absurd (let no : true ≡ false = e in cc)
