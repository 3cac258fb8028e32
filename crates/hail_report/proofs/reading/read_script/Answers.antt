use Rattle.std.proofs.Common.{arith, ℕ, ◌++◌, take, length-append}
use Rattle.std.proofs.KnownBytes.{Consumes-trans}
use Rattle.std.proofs.lemmas.List.{length-take}
use Rattle.hail_report.proofs.reading.read_script.Goals as goal

-- what was taken last is read too
pub returns-then-is_err : goal.returns-then-is_err
returns-then-is_err g c =
    let bound = c.in-Ok.ensures.bound in
    let most = c.min-most.ensures in
    let within = c.pieces.invariant.within in
    record {
      read = c.pieces.text.items ++ take c.in-Ok.count c.take.new.room;
      given =
          record {
            front = Consumes-trans _ _ _ _ _ c.pieces.invariant.read c.in-Ok.ensures.bytes.0;
            bounded =
                omega (
                  arith,
                  length-append c.pieces.text.items (take c.in-Ok.count c.take.new.room),
                  bound.0,
                  bound.1,
                  most,
                  within,
                  c.len-in-pieces.ensures,
                  c.take.auto.room,
                  length-take {A = ℕ},
                );
          };
      told = tt;
    }
