use Rattle.std.proofs.Common.{◌≡◌, refl, sym, ◌∙◌, ap, inl, inr, ◌++◌, ◌∷◌, [], None, true}
use Rattle.shards.specs.Kept as kept
use Rattle.shards.specs.Verdicts.{gathered_after, verdict}
use Rattle.shards.specs.declared.verdict.Verdict.TheVariants.{Foreign, Garbage, Held, Kept, Known}
use Rattle.cw_rules.specs.Accepted.{Row, take_part}
use Rattle.voter.specs.Standing.{with_came}
use Rattle.node.proofs.Rows.{row_none, row_some, row_stands, shows_held, shows_same}
use Rattle.node.specs.Accepting.{with_row}
use Rattle.node.specs.Holding.{Holding, came_of, cut_rules, own_state, rules_of}
use Rattle.node.specs.declared.arrival.Arrival.{Arrival}
use Rattle.node.proofs.holding.Holding.keep_chunk.Goals as goal

pub returns-in-Known-clause-come : goal.returns-in-Known-clause-come
returns-in-Known-clause-come g c =
    let h = c.args.self.now in
    let hash = g.H.Hasher.digest_of in
    let accepts = g.A.Application.accepts in
    let r = rules_of hash accepts h in
    let s = cut_rules hash accepts h in
    let q = kept.chunk_rules hash h.shards.epochs in
    let m = c.args.commitment.now in
    let x = c.args.chunk in
    let e = c.self.view_is in
    let told =
    sym
    (ap
    (λ (k : Holding g.row.D.Denot g.row.A.Denot). verdict
    (kept.chunk_rules hash k.shards.epochs) k.shards.kept m x)
    e)
    ∙ (sym c.in_ok-take.ensures.verdict ∙ c.in-Known.is) in
    let t =
    c.in_ok-take.ensures.ok
    ∙ ap
    (λ (k : Holding g.row.D.Denot g.row.A.Denot). gathered_after
    (kept.chunk_rules hash k.shards.epochs)
    k.shards m x)
    e in
    let known = c.shards_stand.ensures.known hash h.shards s (came_of h) c.requires.shards m x in
    let foreign =
    c.shards_stand.ensures.foreign hash h.shards s (came_of h) c.requires.shards m x in
    (row_none hash accepts h c.requires m x _ known foreign (inl told)
    (λ i. record (e i) { shards = t i })).0

pub returns-in-Known-clause-new : goal.returns-in-Known-clause-new
returns-in-Known-clause-new g c =
    let h = c.args.self.now in
    let hash = g.H.Hasher.digest_of in
    let accepts = g.A.Application.accepts in
    let r = rules_of hash accepts h in
    let s = cut_rules hash accepts h in
    let q = kept.chunk_rules hash h.shards.epochs in
    let m = c.args.commitment.now in
    let x = c.args.chunk in
    let e = c.self.view_is in
    let told =
    sym
    (ap
    (λ (k : Holding g.row.D.Denot g.row.A.Denot). verdict
    (kept.chunk_rules hash k.shards.epochs) k.shards.kept m x)
    e)
    ∙ (sym c.in_ok-take.ensures.verdict ∙ c.in-Known.is) in
    let t =
    c.in_ok-take.ensures.ok
    ∙ ap
    (λ (k : Holding g.row.D.Denot g.row.A.Denot). gathered_after
    (kept.chunk_rules hash k.shards.epochs)
    k.shards m x)
    e in
    let known = c.shards_stand.ensures.known hash h.shards s (came_of h) c.requires.shards m x in
    let foreign =
    c.shards_stand.ensures.foreign hash h.shards s (came_of h) c.requires.shards m x in
    (row_none hash accepts h c.requires m x _ known foreign (inl told)
    (λ i. record (e i) { shards = t i })).1

pub returns-in-Foreign-clause-come : goal.returns-in-Foreign-clause-come
returns-in-Foreign-clause-come g c =
    let h = c.args.self.now in
    let hash = g.H.Hasher.digest_of in
    let accepts = g.A.Application.accepts in
    let r = rules_of hash accepts h in
    let s = cut_rules hash accepts h in
    let q = kept.chunk_rules hash h.shards.epochs in
    let m = c.args.commitment.now in
    let x = c.args.chunk in
    let e = c.self.view_is in
    let told =
    sym
    (ap
    (λ (k : Holding g.row.D.Denot g.row.A.Denot). verdict
    (kept.chunk_rules hash k.shards.epochs) k.shards.kept m x)
    e)
    ∙ (sym c.in_ok-take.ensures.verdict ∙ c.in-Foreign.is) in
    let t =
    c.in_ok-take.ensures.ok
    ∙ ap
    (λ (k : Holding g.row.D.Denot g.row.A.Denot). gathered_after
    (kept.chunk_rules hash k.shards.epochs)
    k.shards m x)
    e in
    let known = c.shards_stand.ensures.known hash h.shards s (came_of h) c.requires.shards m x in
    let foreign =
    c.shards_stand.ensures.foreign hash h.shards s (came_of h) c.requires.shards m x in
    (row_none hash accepts h c.requires m x _ known foreign (inr told)
    (λ i. record (e i) { shards = t i })).0

pub returns-in_ok-add_row-in-Kept-clause-come : goal.returns-in_ok-add_row-in-Kept-clause-come
returns-in_ok-add_row-in-Kept-clause-come g c =
    let h = c.args.self.now in
    let hash = g.H.Hasher.digest_of in
    let accepts = g.A.Application.accepts in
    let r = rules_of hash accepts h in
    let s = cut_rules hash accepts h in
    let q = kept.chunk_rules hash h.shards.epochs in
    let m = c.args.commitment.now in
    let x = c.args.chunk in
    let e = c.self.view_is in
    let told =
    sym
    (ap
    (λ (k : Holding g.row.D.Denot g.row.A.Denot). verdict
    (kept.chunk_rules hash k.shards.epochs) k.shards.kept m x)
    e)
    ∙ (sym c.in_ok-take.ensures.verdict ∙ c.in-Kept.is) in
    let t =
    c.in_ok-take.ensures.ok
    ∙ ap
    (λ (k : Holding g.row.D.Denot g.row.A.Denot). gathered_after
    (kept.chunk_rules hash k.shards.epochs)
    k.shards m x)
    e in
    let known = c.shards_stand.ensures.known hash h.shards s (came_of h) c.requires.shards m x in
    let foreign =
    c.shards_stand.ensures.foreign hash h.shards s (came_of h) c.requires.shards m x in
    let tally =
    row_stands hash h.tally r (with_came (own_state h) (take_part (came_of h) true (Row m x)))
    h.epochs h.id m x.index (sym c.requires.tally.epochs) c.requires.id
    (c.standing_is_kept.ensures.own_chunk hash h.tally r (own_state h) c.requires.tally m x)
    (c.standing_is_kept.ensures.other_chunk hash h.tally r (own_state h) c.requires.tally m
    x) in
    let chunks = c.shards_stand.ensures.taken hash h.shards s (came_of h) c.requires.shards m x in
    let row : Arrival = record { commitment = m; block = None } in
    (row_some hash accepts h c.requires m x c.add_row.new.self h.shown known foreign
    (λ k. let z : Known ≡ Kept = sym k ∙ told in cc)
    (λ k. let z : Foreign ≡ Kept = sym k ∙ told in cc) tally chunks
    (shows_same hash accepts h c.requires m x
    (λ d. c.shown_stays.ensures.unheld q refl
    (c.coded_laws.ensures.coder hash h.shards.epochs 0 (λ b a. true)) h.shards.kept m x d
    (λ b held. let z : Kept ≡ Held b = sym told ∙ held in cc)))
    (c.in_ok-add_row-in-Kept.ensures.ok
    ∙ (λ i. record (e i) {
      shards = t i;
      tally = with_row (e i).epochs (e i).id (e i).tally m (c.index-index.ensures i);
      arrivals = (e i).arrivals ++ row ∷ [];
    }))).0

pub returns-in_ok-add_row-in-Kept-clause-new : goal.returns-in_ok-add_row-in-Kept-clause-new
returns-in_ok-add_row-in-Kept-clause-new g c =
    let h = c.args.self.now in
    let hash = g.H.Hasher.digest_of in
    let accepts = g.A.Application.accepts in
    let r = rules_of hash accepts h in
    let s = cut_rules hash accepts h in
    let q = kept.chunk_rules hash h.shards.epochs in
    let m = c.args.commitment.now in
    let x = c.args.chunk in
    let e = c.self.view_is in
    let told =
    sym
    (ap
    (λ (k : Holding g.row.D.Denot g.row.A.Denot). verdict
    (kept.chunk_rules hash k.shards.epochs) k.shards.kept m x)
    e)
    ∙ (sym c.in_ok-take.ensures.verdict ∙ c.in-Kept.is) in
    let t =
    c.in_ok-take.ensures.ok
    ∙ ap
    (λ (k : Holding g.row.D.Denot g.row.A.Denot). gathered_after
    (kept.chunk_rules hash k.shards.epochs)
    k.shards m x)
    e in
    let known = c.shards_stand.ensures.known hash h.shards s (came_of h) c.requires.shards m x in
    let foreign =
    c.shards_stand.ensures.foreign hash h.shards s (came_of h) c.requires.shards m x in
    let tally =
    row_stands hash h.tally r (with_came (own_state h) (take_part (came_of h) true (Row m x)))
    h.epochs h.id m x.index (sym c.requires.tally.epochs) c.requires.id
    (c.standing_is_kept.ensures.own_chunk hash h.tally r (own_state h) c.requires.tally m x)
    (c.standing_is_kept.ensures.other_chunk hash h.tally r (own_state h) c.requires.tally m
    x) in
    let chunks = c.shards_stand.ensures.taken hash h.shards s (came_of h) c.requires.shards m x in
    let row : Arrival = record { commitment = m; block = None } in
    (row_some hash accepts h c.requires m x c.add_row.new.self h.shown known foreign
    (λ k. let z : Known ≡ Kept = sym k ∙ told in cc)
    (λ k. let z : Foreign ≡ Kept = sym k ∙ told in cc) tally chunks
    (shows_same hash accepts h c.requires m x
    (λ d. c.shown_stays.ensures.unheld q refl
    (c.coded_laws.ensures.coder hash h.shards.epochs 0 (λ b a. true)) h.shards.kept m x d
    (λ b held. let z : Kept ≡ Held b = sym told ∙ held in cc)))
    (c.in_ok-add_row-in-Kept.ensures.ok
    ∙ (λ i. record (e i) {
      shards = t i;
      tally = with_row (e i).epochs (e i).id (e i).tally m (c.index-index.ensures i);
      arrivals = (e i).arrivals ++ row ∷ [];
    }))).1

pub returns-in_ok-add_row-in-Garbage-clause-come : goal.returns-in_ok-add_row-in-Garbage-clause-come
returns-in_ok-add_row-in-Garbage-clause-come g c =
    let h = c.args.self.now in
    let hash = g.H.Hasher.digest_of in
    let accepts = g.A.Application.accepts in
    let r = rules_of hash accepts h in
    let s = cut_rules hash accepts h in
    let q = kept.chunk_rules hash h.shards.epochs in
    let m = c.args.commitment.now in
    let x = c.args.chunk in
    let e = c.self.view_is in
    let told =
    sym
    (ap
    (λ (k : Holding g.row.D.Denot g.row.A.Denot). verdict
    (kept.chunk_rules hash k.shards.epochs) k.shards.kept m x)
    e)
    ∙ (sym c.in_ok-take.ensures.verdict ∙ c.in-Garbage.is) in
    let t =
    c.in_ok-take.ensures.ok
    ∙ ap
    (λ (k : Holding g.row.D.Denot g.row.A.Denot). gathered_after
    (kept.chunk_rules hash k.shards.epochs)
    k.shards m x)
    e in
    let known = c.shards_stand.ensures.known hash h.shards s (came_of h) c.requires.shards m x in
    let foreign =
    c.shards_stand.ensures.foreign hash h.shards s (came_of h) c.requires.shards m x in
    let tally =
    row_stands hash h.tally r (with_came (own_state h) (take_part (came_of h) true (Row m x)))
    h.epochs h.id m x.index (sym c.requires.tally.epochs) c.requires.id
    (c.standing_is_kept.ensures.own_chunk hash h.tally r (own_state h) c.requires.tally m x)
    (c.standing_is_kept.ensures.other_chunk hash h.tally r (own_state h) c.requires.tally m
    x) in
    let chunks = c.shards_stand.ensures.taken hash h.shards s (came_of h) c.requires.shards m x in
    let row : Arrival = record { commitment = m; block = None } in
    (row_some hash accepts h c.requires m x c.add_row-in-Garbage.new.self h.shown known foreign
    (λ k. let z : Known ≡ Garbage = sym k ∙ told in cc)
    (λ k. let z : Foreign ≡ Garbage = sym k ∙ told in cc) tally chunks
    (shows_same hash accepts h c.requires m x
    (λ d. c.shown_stays.ensures.unheld q refl
    (c.coded_laws.ensures.coder hash h.shards.epochs 0 (λ b a. true)) h.shards.kept m x d
    (λ b held. let z : Garbage ≡ Held b = sym told ∙ held in cc)))
    (c.in_ok-add_row-in-Garbage.ensures.ok
    ∙ (λ i. record (e i) {
      shards = t i;
      tally = with_row (e i).epochs (e i).id (e i).tally m (c.index-index.ensures i);
      arrivals = (e i).arrivals ++ row ∷ [];
    }))).0

pub returns-in_ok-add_row-in-Garbage-clause-new : goal.returns-in_ok-add_row-in-Garbage-clause-new
returns-in_ok-add_row-in-Garbage-clause-new g c =
    let h = c.args.self.now in
    let hash = g.H.Hasher.digest_of in
    let accepts = g.A.Application.accepts in
    let r = rules_of hash accepts h in
    let s = cut_rules hash accepts h in
    let q = kept.chunk_rules hash h.shards.epochs in
    let m = c.args.commitment.now in
    let x = c.args.chunk in
    let e = c.self.view_is in
    let told =
    sym
    (ap
    (λ (k : Holding g.row.D.Denot g.row.A.Denot). verdict
    (kept.chunk_rules hash k.shards.epochs) k.shards.kept m x)
    e)
    ∙ (sym c.in_ok-take.ensures.verdict ∙ c.in-Garbage.is) in
    let t =
    c.in_ok-take.ensures.ok
    ∙ ap
    (λ (k : Holding g.row.D.Denot g.row.A.Denot). gathered_after
    (kept.chunk_rules hash k.shards.epochs)
    k.shards m x)
    e in
    let known = c.shards_stand.ensures.known hash h.shards s (came_of h) c.requires.shards m x in
    let foreign =
    c.shards_stand.ensures.foreign hash h.shards s (came_of h) c.requires.shards m x in
    let tally =
    row_stands hash h.tally r (with_came (own_state h) (take_part (came_of h) true (Row m x)))
    h.epochs h.id m x.index (sym c.requires.tally.epochs) c.requires.id
    (c.standing_is_kept.ensures.own_chunk hash h.tally r (own_state h) c.requires.tally m x)
    (c.standing_is_kept.ensures.other_chunk hash h.tally r (own_state h) c.requires.tally m
    x) in
    let chunks = c.shards_stand.ensures.taken hash h.shards s (came_of h) c.requires.shards m x in
    let row : Arrival = record { commitment = m; block = None } in
    (row_some hash accepts h c.requires m x c.add_row-in-Garbage.new.self h.shown known foreign
    (λ k. let z : Known ≡ Garbage = sym k ∙ told in cc)
    (λ k. let z : Foreign ≡ Garbage = sym k ∙ told in cc) tally chunks
    (shows_same hash accepts h c.requires m x
    (λ d. c.shown_stays.ensures.unheld q refl
    (c.coded_laws.ensures.coder hash h.shards.epochs 0 (λ b a. true)) h.shards.kept m x d
    (λ b held. let z : Garbage ≡ Held b = sym told ∙ held in cc)))
    (c.in_ok-add_row-in-Garbage.ensures.ok
    ∙ (λ i. record (e i) {
      shards = t i;
      tally = with_row (e i).epochs (e i).id (e i).tally m (c.index-index.ensures i);
      arrivals = (e i).arrivals ++ row ∷ [];
    }))).1

pub returns-in_ok-add_last_row-in-Held-clause-come : goal.returns-in_ok-add_last_row-in-Held-clause-come
returns-in_ok-add_last_row-in-Held-clause-come g c =
    let h = c.args.self.now in
    let hash = g.H.Hasher.digest_of in
    let accepts = g.A.Application.accepts in
    let r = rules_of hash accepts h in
    let s = cut_rules hash accepts h in
    let q = kept.chunk_rules hash h.shards.epochs in
    let m = c.args.commitment.now in
    let x = c.args.chunk in
    let e = c.self.view_is in
    let told =
    sym
    (ap
    (λ (k : Holding g.row.D.Denot g.row.A.Denot). verdict
    (kept.chunk_rules hash k.shards.epochs) k.shards.kept m x)
    e)
    ∙ (sym c.in_ok-take.ensures.verdict ∙ c.in-Held.is) in
    let t =
    c.in_ok-take.ensures.ok
    ∙ ap
    (λ (k : Holding g.row.D.Denot g.row.A.Denot). gathered_after
    (kept.chunk_rules hash k.shards.epochs)
    k.shards m x)
    e in
    let known = c.shards_stand.ensures.known hash h.shards s (came_of h) c.requires.shards m x in
    let foreign =
    c.shards_stand.ensures.foreign hash h.shards s (came_of h) c.requires.shards m x in
    let tally =
    row_stands hash h.tally r (with_came (own_state h) (take_part (came_of h) true (Row m x)))
    h.epochs h.id m x.index (sym c.requires.tally.epochs) c.requires.id
    (c.standing_is_kept.ensures.own_chunk hash h.tally r (own_state h) c.requires.tally m x)
    (c.standing_is_kept.ensures.other_chunk hash h.tally r (own_state h) c.requires.tally m
    x) in
    let chunks = c.shards_stand.ensures.taken hash h.shards s (came_of h) c.requires.shards m x in
    let row : Arrival = record { commitment = m; block = None } in
    (row_some hash accepts h c.requires m x c.add_last_row.new.self
    (h.shown ++ record { commitment = m; block = c.in-Held.block } ∷ []) known foreign
    (λ k. let z : Known ≡ Held c.in-Held.block = sym k ∙ told in cc)
    (λ k. let z : Foreign ≡ Held c.in-Held.block = sym k ∙ told in cc) tally chunks
    (shows_held hash accepts h c.requires m x c.in-Held.block told
    (c.shown_by_kept.ensures.first q refl h.shards.kept m)
    (c.shown_stays.ensures.held q refl h.shards.kept [] m x c.in-Held.block told)
    (λ d no. c.shown_stays.ensures.others q refl h.shards.kept m d x no))
    (c.in_ok-add_last_row-in-Held.ensures.ok
    ∙ (λ i. record (e i) {
      shards = t i;
      tally = with_row (e i).epochs (e i).id (e i).tally m (c.index-index.ensures i);
      arrivals = (e i).arrivals ++ row ∷ [];
      shown =
          (e i).shown ++ record { commitment = m; block = c.in-Held.block } ∷ [];
    }))).0

pub returns-in_ok-add_last_row-in-Held-clause-new : goal.returns-in_ok-add_last_row-in-Held-clause-new
returns-in_ok-add_last_row-in-Held-clause-new g c =
    let h = c.args.self.now in
    let hash = g.H.Hasher.digest_of in
    let accepts = g.A.Application.accepts in
    let r = rules_of hash accepts h in
    let s = cut_rules hash accepts h in
    let q = kept.chunk_rules hash h.shards.epochs in
    let m = c.args.commitment.now in
    let x = c.args.chunk in
    let e = c.self.view_is in
    let told =
    sym
    (ap
    (λ (k : Holding g.row.D.Denot g.row.A.Denot). verdict
    (kept.chunk_rules hash k.shards.epochs) k.shards.kept m x)
    e)
    ∙ (sym c.in_ok-take.ensures.verdict ∙ c.in-Held.is) in
    let t =
    c.in_ok-take.ensures.ok
    ∙ ap
    (λ (k : Holding g.row.D.Denot g.row.A.Denot). gathered_after
    (kept.chunk_rules hash k.shards.epochs)
    k.shards m x)
    e in
    let known = c.shards_stand.ensures.known hash h.shards s (came_of h) c.requires.shards m x in
    let foreign =
    c.shards_stand.ensures.foreign hash h.shards s (came_of h) c.requires.shards m x in
    let tally =
    row_stands hash h.tally r (with_came (own_state h) (take_part (came_of h) true (Row m x)))
    h.epochs h.id m x.index (sym c.requires.tally.epochs) c.requires.id
    (c.standing_is_kept.ensures.own_chunk hash h.tally r (own_state h) c.requires.tally m x)
    (c.standing_is_kept.ensures.other_chunk hash h.tally r (own_state h) c.requires.tally m
    x) in
    let chunks = c.shards_stand.ensures.taken hash h.shards s (came_of h) c.requires.shards m x in
    let row : Arrival = record { commitment = m; block = None } in
    (row_some hash accepts h c.requires m x c.add_last_row.new.self
    (h.shown ++ record { commitment = m; block = c.in-Held.block } ∷ []) known foreign
    (λ k. let z : Known ≡ Held c.in-Held.block = sym k ∙ told in cc)
    (λ k. let z : Foreign ≡ Held c.in-Held.block = sym k ∙ told in cc) tally chunks
    (shows_held hash accepts h c.requires m x c.in-Held.block told
    (c.shown_by_kept.ensures.first q refl h.shards.kept m)
    (c.shown_stays.ensures.held q refl h.shards.kept [] m x c.in-Held.block told)
    (λ d no. c.shown_stays.ensures.others q refl h.shards.kept m d x no))
    (c.in_ok-add_last_row-in-Held.ensures.ok
    ∙ (λ i. record (e i) {
      shards = t i;
      tally = with_row (e i).epochs (e i).id (e i).tally m (c.index-index.ensures i);
      arrivals = (e i).arrivals ++ row ∷ [];
      shown =
          (e i).shown ++ record { commitment = m; block = c.in-Held.block } ∷ [];
    }))).1
