-- Equations between what is told, over plain values.
use Rattle.std.proofs.Common.{◌≡◌, ◌∙◌, ◌++◌, List, ap, append_assoc, ℕ}
use Rattle.cw_types.specs.Epochs.{Epochs}
use Rattle.cw_rules.specs.Step.{Member}
use Rattle.node.specs.State.{NodeState}
use Rattle.node_disk.specs.Host.{HostState}
use Rattle.node_disk.specs.Memory.{MemoryState}
use Rattle.member_session.specs.Serving.{Serving}
use Rattle.member_session.proofs.Taking.{told_node}

-- what is told of the member behind what it gave
pub told_behind : {A : Type 0} (n left : NodeState (HostState MemoryState) A)
    (of : Member → List ℕ) (given told after : List ℕ)
    → left ≡ told_node n → told ≡ given → after ≡ told ++ of left.member
    → after ≡ given ++ of n.member
told_behind {A} n left of given told after is tells ends =
    ends
    ∙ ap (λ (l : List ℕ). l ++ of left.member) tells
    ∙ ap (λ (x : NodeState (HostState MemoryState) A). given ++ of x.member) is

pub same_two : {A B S : Type 0} (f : A → B → S) (a b : A) (c d : B) → a ≡ b → c ≡ d → f a c ≡ f b d
same_two {A} {B} f a b c d p q = ap (λ (k : A). f k c) p ∙ ap (λ (k : B). f b k) q

pub same_three : {A B C S : Type 0} (f : A → B → C → S) (a b : A) (c d : B) (e g : C)
    → a ≡ b → c ≡ d → e ≡ g → f a c e ≡ f b d g
same_three {A} f a b c d e g p q r = ap (λ (k : A). f k c e) p ∙ same_two (f b) c d e g q r

pub same_four : {A B C D S : Type 0} (f : A → B → C → D → S) (a b : A) (c d : B) (e g : C) (h i : D)
    → a ≡ b → c ≡ d → e ≡ g → h ≡ i → f a c e h ≡ f b d g i
same_four {A} f a b c d e g h i p q r s =
    ap (λ (x : A). f x c e h) p ∙ same_three (f b) c d e g h i q r s

pub same_five : {A B C D E S : Type 0} (f : A → B → C → D → E → S) (a b : A) (c d : B) (e g : C)
    (h i : D) (j k : E)
    → a ≡ b → c ≡ d → e ≡ g → h ≡ i → j ≡ k → f a c e h j ≡ f b d g i k
same_five {A} f a b c d e g h i j k p q r s t =
    ap (λ (x : A). f x c e h j) p ∙ same_four (f b) c d e g h i j k q r s t

abbrev serving : ℕ → Epochs → ℕ → Member → Serving
serving id epochs backlog member =
    record { id = id; epochs = epochs; backlog = backlog; member = member }

pub same_serving : (i j : ℕ) (x y : Epochs) (b c : ℕ) (m n : Member)
    → i ≡ j → x ≡ y → b ≡ c → m ≡ n
    → serving i x b m ≡ serving j y c n
same_serving i j x y b c m n p q r s = cc

-- three parts, and an end
pub ended : (before given viewed told text ok after : List ℕ)
    → told ≡ (before ++ given) ++ viewed → given ++ viewed ≡ text → after ≡ told ++ ok
    → after ≡ before ++ (text ++ ok)
ended before given viewed told text ok after tells is ends =
    ends
    ∙ ap (λ (l : List ℕ). l ++ ok)
    (tells ∙ append_assoc before given viewed ∙ ap (λ (l : List ℕ). before ++ l) is)
    ∙ append_assoc before text ok

-- two parts
pub moved_on : (before given moved gives moves after : List ℕ)
    → after ≡ (before ++ given) ++ moved → given ≡ gives → moved ≡ moves
    → after ≡ before ++ (gives ++ moves)
moved_on before given moved gives moves after tells is goes =
    tells ∙ append_assoc before given moved
    ∙ ap (λ (l : List ℕ). before ++ (l ++ moved)) is
    ∙ ap (λ (l : List ℕ). before ++ (gives ++ l)) goes
