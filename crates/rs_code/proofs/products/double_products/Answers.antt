use Rattle.rs_code.proofs.ProductTables.{twice_as_many}
use Rattle.rs_code.proofs.products.double_products.Goals as goal

pub returns-clause-each : goal.returns-clause-each
returns-clause-each c = λ n power small is_step before.
    twice_as_many c.args.table.now c.double.new.table c.args.factor c.args.step n c.args.count
    c.ranges.factor.fits power small c.double.ensures.first c.double.ensures.second is_step before
