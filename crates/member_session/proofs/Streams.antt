-- What is written by one call after another.
use Rattle.std.proofs.Common.{◌++◌, List, None, Option, Some, ap, append_assoc, sym, ℕ, ◌∙◌}
use Rattle.std.proofs.KnownBytes.{Appends-trans}
use Rattle.std.specs.Io.KnownBytes.{Appends, Keeps}
use Rattle.hail_report.specs.Writing.{WritesFront}

pub appends_kept : (a b c : Option (List ℕ)) (x : List ℕ) → Appends a b x → Keeps b c
    → Appends a c x
appends_kept None b c x one keeps = tt
appends_kept (Some t) None c x one keeps = absurd one
appends_kept (Some t) (Some u) None x one keeps = absurd keeps
appends_kept (Some t) (Some u) (Some v) x one keeps = keeps ∙ one

pub fronts_behind : (a b c : Option (List ℕ)) (x y : List ℕ) → Appends a b x
    → WritesFront b c y → WritesFront a c (x ++ y)
fronts_behind a b c x y one two = record {
  front = x ++ two.front;
  rest = two.rest;
  parts = ap (λ (l : List ℕ). x ++ l) two.parts ∙ sym (append_assoc x two.front two.rest);
  wrote = Appends-trans a b c x two.front one two.wrote;
}
