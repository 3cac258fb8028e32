use Rattle.std.proofs.Common.{◌≡◌, ◌+◌, ◌-◌, ◌∙◌, ℕ, if◌then◌else◌, ap, sym}
use Rattle.cw_types.specs.declared.vote.Vote.TheVariants.{Nullify}
use Rattle.cw_rules.specs.Notes.{nullified}
use Rattle.note_scans.specs.Keys.{key_of}
use Rattle.voter.specs.Facts.{said_at}
use Rattle.voter.specs.Runs.{run_at}
use Rattle.voter.proofs.Running.{nullified_view, runs_again, runs_same, runs_written}
use Rattle.voter.proofs.Saying.{said_cert}
use Rattle.voter.proofs.runs.Runs.write.Goals as goal

pub returns-then-not-has_nullified : goal.returns-then-not-has_nullified
returns-then-not-has_nullified c = λ notes has have there.
    let es = c.args.self.now.by_end.entries in
    let e = c.in-Some.epoch in
    let v = c.in-Some.view in
    let is = sym c.nullifying.ensures ∙ c.in-Some.is in
    let told = λ (w : ℕ).
    let said : said_at (key_of (Nullify e w)) c.args.said.now.by_key.entries
    ≡ nullified notes e w =
    has (key_of (Nullify e w)) ∙ said_cert (Nullify e w) notes in
    said in
    runs_written es c.put_there.new.map.entries
    c.put_there-then-not-has_nullified.new.map.entries notes c.args.note.now e v
    c.joined-run.result c.end_key.result c.end_key-then-not-has_nullified.result have is
    (sym (c.has_nullified.ensures.noted notes has) ∙ c.if-not-has_nullified.true) there
    (nullified_view c.args.note.now e v c.requires is).0
    (c.joined-run.ensures.first
    ∙ ap (λ b. if b then (run_at e (v - 1) es).first else v) (told (v - 1)))
    (c.joined-run.ensures.last
    ∙ ap (λ b. if b then (run_at e (v + 1) es).last else v) (told (v + 1)))
    c.end_key.ensures c.end_key-then-not-has_nullified.ensures c.put_there.ensures
    c.put_there-then-not-has_nullified.ensures

pub returns-else-not-has_nullified : goal.returns-else-not-has_nullified
returns-else-not-has_nullified c = λ notes has have there.
    runs_again c.args.self.now.by_end.entries notes c.args.note.now c.in-Some.epoch c.in-Some.view
    (sym c.nullifying.ensures ∙ c.in-Some.is)
    (sym (c.has_nullified.ensures.noted notes has) ∙ c.if-not-has_nullified.false) have

pub returns-in_default : goal.returns-in_default
returns-in_default c = λ notes has have there.
    runs_same c.args.self.now.by_end.entries notes c.args.note.now
    (sym c.nullifying.ensures ∙ c.in_default.is) have
