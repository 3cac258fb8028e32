-- What a payload is seen as.
use Rattle.std.specs.Prelude.{ℕ, List}
use Rattle.cw_types.specs.declared.payload.Form.{Form}
use Rattle.cw_types.specs.declared.payload.Form.TheVariants.{Owned, Shared}

-- its bytes, whoever has them
abbrev pub bytes_of_form : Form → List ℕ
bytes_of_form (Owned bytes) = bytes
bytes_of_form (Shared bytes) = bytes
