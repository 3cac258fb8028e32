use Rattle.std.proofs.Common.{rules, ◌≡◌, ◌<◌, length, get_or, map, map-id, sym, ap, ◌∙◌, subst, List}
use Rattle.std.proofs.lemmas.Iterator.Adapters.{YieldsList-from_vec}
use Rattle.std.proofs.lemmas.Iterator.Consumers.{YieldsList-end, YieldsList-turn}
use Rattle.cw_rules.specs.World.{Line}
use Rattle.hail_script.specs.Raw.{raw_line_of}
use Rattle.hail_script.specs.declared.raw.RawLine.{RawLine}
use Rattle.hail_script.proofs.Admitted.{known_read, short_read}
use Rattle.hail_script.proofs.raw.admitted_lines.Goals as goal

pub line_kind_of-requires-clause-known : goal.line_kind_of-requires-clause-known
line_kind_of-requires-clause-known c =
    let turn =
    YieldsList-turn
    (YieldsList-from_vec {s = c.into_iter-line-iterator.result} c.into_vec-line-items.result.items
    (search rules) (search rules))
    c.loop-line.yielded c.loop-line.line-iterator c.loop-line.yielded_by c.next.result
    c.next.new.self c.in-Some.line c.in-Some.is c.next.ensures.steps in
    let at =
    subst
    (λ (all : List RawLine). (length c.loop-line.yielded < length all)
    × (c.in-Some.line ≡ get_or all (length c.loop-line.yielded) c.in-Some.line))
    c.into_vec-line-items.ensures turn in
    known_read c.args.total c.args.first c.args.lines (length c.loop-line.yielded) c.in-Some.line
    c.ranges.total.fits c.requires.known at.0 at.1

pub line_kind_of-requires-clause-short : goal.line_kind_of-requires-clause-short
line_kind_of-requires-clause-short c =
    let turn =
    YieldsList-turn
    (YieldsList-from_vec {s = c.into_iter-line-iterator.result} c.into_vec-line-items.result.items
    (search rules) (search rules))
    c.loop-line.yielded c.loop-line.line-iterator c.loop-line.yielded_by c.next.result
    c.next.new.self c.in-Some.line c.in-Some.is c.next.ensures.steps in
    let at =
    subst
    (λ (all : List RawLine). (length c.loop-line.yielded < length all)
    × (c.in-Some.line ≡ get_or all (length c.loop-line.yielded) c.in-Some.line))
    c.into_vec-line-items.ensures turn in
    short_read c.args.first c.args.lines (length c.loop-line.yielded) c.in-Some.line
    c.requires.short at.0 at.1

pub returns : goal.returns
returns c =
    let end =
    YieldsList-end
    (YieldsList-from_vec {s = c.into_iter-line-iterator.result} c.into_vec-line-items.result.items
    (search rules) (search rules))
    c.loop-line.yielded c.loop-line.line-iterator c.loop-line.yielded_by c.next.result
    c.next.new.self c.in-None.is c.next.ensures.steps in
    let all = sym (map-id c.loop-line.yielded) ∙ end.0 ∙ c.into_vec-line-items.ensures in
    c.loop-line.invariant ∙ ap (λ (l : List RawLine). map raw_line_of l) all
