-- What is left after a reader's calls is an end of the bytes.
use Rattle.std.proofs.Common.{ℕ, List, [], ◌∷◌, ◌++◌, take, drop, refl, sym, ap, ◌∙◌, append_assoc}
use Rattle.std.proofs.lemmas.List.{append-nil, take-append-drop}
use Rattle.cw_base.specs.Ends.{IsEnd}

-- the end of an end
pub end_of_end : {a b c : List ℕ} → IsEnd a b → IsEnd b c → IsEnd a c
end_of_end {a} {b} {c} x y =
    record {
      taken = x.taken ++ y.taken;
      parts = x.parts ∙ ap (λ xs. x.taken ++ xs) y.parts ∙ sym (append_assoc x.taken y.taken c);
    }

-- nothing was taken
pub end_itself : (bytes : List ℕ) → IsEnd bytes bytes
end_itself bytes = record { taken = []; parts = refl }

-- so many bytes were taken
pub end_after : (n : ℕ) (bytes : List ℕ) → IsEnd bytes (drop n bytes)
end_after n bytes = record { taken = take n bytes; parts = sym (take-append-drop n bytes) }

-- all was taken
pub end_of_all : (bytes : List ℕ) → IsEnd bytes []
end_of_all bytes = record { taken = bytes; parts = sym (append-nil bytes) }

-- one byte was taken
pub end_of_one : (b : ℕ) (bytes : List ℕ) → IsEnd (b ∷ bytes) bytes
end_of_one b bytes = record { taken = b ∷ []; parts = refl }

-- one byte was taken, and more behind it
pub end_of_more : {b : ℕ} {bytes left : List ℕ} → IsEnd bytes left → IsEnd (b ∷ bytes) left
end_of_more {b} x = record { taken = b ∷ x.taken; parts = ap (λ xs. b ∷ xs) x.parts }

-- where a reader stands after each of its calls
pub ruleset ends = (end_of_end, end_itself, end_after, end_of_all, end_of_one, end_of_more)
