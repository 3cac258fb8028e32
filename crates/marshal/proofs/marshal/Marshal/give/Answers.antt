use Rattle.std.proofs.Common.{◌≡◌, ◌∙◌, ◌++◌, ◌∷◌, [], ◌<◌, ◌-◌, ◌^◌, ap}
use Rattle.std.specs.List.{AllByRecursion}
use Rattle.std.specs.List.Sorted.{IsNonDecreasing}
use Rattle.cw_rules.specs.Held.{greatest_floor, resume}
use Rattle.cw_rules.proofs.Lists.{all_both}
use Rattle.marshal.specs.Stored.{Stored, notes_of}
use Rattle.marshal.proofs.Givens.{rises_on}
use Rattle.marshal.proofs.marshal.Marshal.give.Goals as goal

pub invariant_of-self-2 : goal.invariant_of-self-2
invariant_of-self-2 g c =
    let h = c.args.height in
    let before = c.args.self.now.given in
    let view : c.self.inside.given.items ≡ before =
    ap (λ (s : Stored g.row.D.Denot). s.given) c.self.view_is in
    let up : IsNonDecreasing before = rw view at c.self.invariant.rising in
    let low : AllByRecursion (λ x. x < 2 ^ 64 - 1) before = rw view at c.self.invariant.heights in
    let more : c.push.new.self.items ≡ before ++ h ∷ [] =
    c.in_ok-push.ensures.items ∙ ap (λ l. l ++ h ∷ []) view in
    record {
      found = c.self.invariant.found;
      written = c.self.invariant.written;
      joined = c.self.invariant.joined;
      last_one = c.self.invariant.last_one;
      inside = c.self.invariant.inside;
      before = c.self.invariant.before;
      heights =
          rw more
          (all_both (λ x. x < 2 ^ 64 - 1) before (h ∷ []) low (c.requires.bound, tt));
      rising =
          rw more
          (rises_on before h (resume (notes_of c.args.self.now))
          (greatest_floor (notes_of c.args.self.now)) c.requires.next up);
    }
