use Rattle.std.proofs.Common.{◌≡◌, ℕ, List, Option, Some, None, [], false, true, sym, ap, subst, ◌∙◌}
use Rattle.std.specs.List.{list_any}
use Rattle.cw_types.specs.declared.event.Handed.{Handed}
use Rattle.cw_types.specs.declared.event.StepOut.{StepOut}
use Rattle.cw_rules.specs.Report.{Entry}
use Rattle.cw_rules.specs.Step.{Member, start}
use Rattle.cw_rules.specs.World.{Sent, faults}
use Rattle.marshal.specs.Frames.{FindsNotes, read_frames}
use Rattle.hail_world.specs.Places.{SitsAs, script_rules}
use Rattle.hail_world.proofs.Opening.{faulty_entry, honest_entry, marked_is}
use Rattle.hail_world.proofs.world.open_one.Goals as goal

pub returns-then-is_faulty-clause-entry : goal.returns-then-is_faulty-clause-entry
returns-then-is_faulty-clause-entry g c =
    let s = c.args.script.now in
    let is : list_any (faults c.args.id) s.lines ≡ true =
    sym
    (marked_is s.lines s.committees.total c.args.id c.args.faulty.now c.requires.marks
    c.requires.known)
    ∙ sym c.is_faulty.ensures ∙ c.if-is_faulty.true in
    sym (faulty_entry (script_rules g.H.Hasher.digest_of s) s.lines c.args.id is).0

pub returns-then-is_faulty-clause-member : goal.returns-then-is_faulty-clause-member
returns-then-is_faulty-clause-member g c =
    let s = c.args.script.now in
    let is : list_any (faults c.args.id) s.lines ≡ true =
    sym
    (marked_is s.lines s.committees.total c.args.id c.args.faulty.now c.requires.marks
    c.requires.known)
    ∙ sym c.is_faulty.ensures ∙ c.if-is_faulty.true in
    rw ((faulty_entry (script_rules g.H.Hasher.digest_of s) s.lines c.args.id is).1) tt

pub returns-clause-entry : goal.returns-clause-entry
returns-clause-entry g c =
    let s = c.args.script.now in
    let is : list_any (faults c.args.id) s.lines ≡ false =
    sym
    (marked_is s.lines s.committees.total c.args.id c.args.faulty.now c.requires.marks
    c.requires.known)
    ∙ sym c.is_faulty.ensures ∙ c.if-is_faulty.false in
    let gave = (c.in_ok-place.ensures.started [] (ap read_frames c.new-disk.ensures.empty)).1 in
    let handed = ap (λ (o : StepOut). o.handed) gave in
    ap
    (λ (l : List Sent). let o : Option Entry = Some (record {
      line = 0;
      member = Some c.args.id;
      found = None;
      sent = l;
      handed = c.in_ok-place.out.handed;
    }) in o)
    c.new-2.ensures
    ∙ ap
    (λ (h : List Handed). let o : Option Entry = Some (record {
      line = 0;
      member = Some c.args.id;
      found = None;
      sent = [];
      handed = h;
    }) in o)
    handed
    ∙ sym (honest_entry (script_rules g.H.Hasher.digest_of s) s.lines c.args.id is).0

pub returns-clause-member : goal.returns-clause-member
returns-clause-member g c =
    let s = c.args.script.now in
    let is : list_any (faults c.args.id) s.lines ≡ false =
    sym
    (marked_is s.lines s.committees.total c.args.id c.args.faulty.now c.requires.marks
    c.requires.known)
    ∙ sym c.is_faulty.ensures ∙ c.if-is_faulty.false in
    subst (λ (o : Option Member). SitsAs c.in_ok-place.place o)
    (sym (honest_entry (script_rules g.H.Hasher.digest_of s) s.lines c.args.id is).1)
    (c.in_ok-place.ensures.started [] (ap read_frames c.new-disk.ensures.empty)).0
