use Rattle.std.proofs.Common.{List, subst, sym}
use Rattle.cw_types.specs.declared.note.Note.{Note}
use Rattle.marshal.specs.Bare.{bare}
use Rattle.marshal.specs.Heights.{TellsReachedOfAll}
use Rattle.marshal.proofs.notes.Notes.put_heights.Goals as goal

pub invariant_of-self : goal.invariant_of-self
invariant_of-self g c = record {
  forms = c.self.invariant.forms;
  digested = c.self.invariant.digested;
  indexed = c.self.invariant.indexed;
  reaching = c.self.invariant.reaching;
  topped = c.self.invariant.topped;
  known =
      subst
      (λ (ns : List Note). TellsReachedOfAll (bare g.H.Hasher.digest_of) ns c.args.heights)
      (sym c.self.view_is) c.requires;
  first_block = c.self.invariant.first_block;
  first_commitment = c.self.invariant.first_commitment;
}
