use Rattle.std.proofs.Common.{sym, ◌∙◌, ap, ◌++◌, ◌∷◌, [], List, filter_map, append_assoc}
use Rattle.std.specs.Option.{option_map_or}
use Rattle.cw_types.specs.declared.event.Out.{Out}
use Rattle.cw_rules.specs.Sends.{chunk_out}
use Rattle.cw_rules.proofs.Lists.{filter_map_more}
use Rattle.node.proofs.holding.Holding.put_chunks.Goals as goal

pub loop-chunk-preserved : goal.loop-chunk-preserved
loop-chunk-preserved g c =
    let f = chunk_out c.args.self.now.id c.args.list.now c.args.commitment.now in
    let old = c.args.out.now.items in
    let more = option_map_or (λ (o : Out). o ∷ []) (f c.in-Some.chunk) [] in
    c.in_ok-put_chunk.ensures
    ∙ (ap (λ (l : List Out). l ++ more) c.loop-chunk.invariant
    ∙ (append_assoc old (filter_map f c.loop-chunk.yielded) more
    ∙ ap (λ (l : List Out). old ++ l)
    (sym (filter_map_more f c.loop-chunk.yielded c.in-Some.chunk))))
