use Rattle.std.proofs.Common.{◌≡◌, ℕ, List, Some, Ok, ◌∙◌, sym, subst, length, slice_get, refl, arith}
use Rattle.std.proofs.lemmas.Option.{slice_get_read}
use Rattle.cw_rules.specs.Rules.{Rules}
use Rattle.cw_rules.specs.Step.{Member, member_notes}
use Rattle.cw_rules_coded.specs.Coded.{coded}
use Rattle.marshal.specs.Stored.{read_notes}
use Rattle.run_light.specs.Finding.{first_shown}
use Rattle.run_light.proofs.Disks.{as_many, at_member, member_of}
use Rattle.run_light.proofs.Searching.{found_here, found_none, found_on}
use Rattle.run_light.proofs.search.found_in.Goals as goal

pub notes_of-requires : goal.notes_of-requires
notes_of-requires g c =
    let disks : List (List ℕ) = c.args.disks.now in
    let i : ℕ = c.loop-disk.disk-index in
    let disk : List ℕ = c.disk-item.result in
    let at : slice_get disks i ≡ Some disk =
    slice_get_read disks (length disks) i disk refl c.loop-disk-test.true c.disk-item.is in
    let (members, h) = c.requires in
    let (m, e, f) = member_of members disks h i disk at in (
      member_notes m,
      subst (λ (bytes : List ℕ). read_notes bytes ≡ Ok (member_notes m)) (sym c.as_slice.ensures)
          f,
    )

pub returns-in-Some : goal.returns-in-Some
returns-in-Some g c = λ backlog accepts members h.
    let r : Rules = coded g.H.Hasher.digest_of c.args.committees.now backlog accepts in
    let sign = g.V.Verifier.signs c.args.verifier.now in
    let disks : List (List ℕ) = c.args.disks.now in
    let i : ℕ = c.loop-disk.disk-index in
    let disk : List ℕ = c.disk-item.result in
    let at : slice_get disks i ≡ Some disk =
    slice_get_read disks (length disks) i disk refl c.loop-disk-test.true c.disk-item.is in
    let (m, e, f) = member_of members disks h i disk at in
    let found =
    at_member r sign c.args.height m disk c.as_slice.result.now c.in_ok-notes.notes
    c.as_slice-notes.result.now c.in_ok-found.field-0 f c.as_slice.ensures
    c.in_ok-notes.ensures c.as_slice-notes.ensures
    (c.in_ok-found.ensures backlog accepts) in
    sym
    (found_here (λ (m : Member). first_shown r sign c.args.height (member_notes m)) members i m
    c.in-Some.found e (found ∙ c.in-Some.is))
    ∙ c.loop-disk.invariant backlog accepts members h

pub loop-disk-preserved : goal.loop-disk-preserved
loop-disk-preserved g c = λ backlog accepts members h.
    let r : Rules = coded g.H.Hasher.digest_of c.args.committees.now backlog accepts in
    let sign = g.V.Verifier.signs c.args.verifier.now in
    let disks : List (List ℕ) = c.args.disks.now in
    let i : ℕ = c.loop-disk.disk-index in
    let disk : List ℕ = c.disk-item.result in
    let at : slice_get disks i ≡ Some disk =
    slice_get_read disks (length disks) i disk refl c.loop-disk-test.true c.disk-item.is in
    let (m, e, f) = member_of members disks h i disk at in
    let found =
    at_member r sign c.args.height m disk c.as_slice.result.now c.in_ok-notes.notes
    c.as_slice-notes.result.now c.in_ok-found.field-0 f c.as_slice.ensures
    c.in_ok-notes.ensures c.as_slice-notes.ensures
    (c.in_ok-found.ensures backlog accepts) in
    sym
    (found_on (λ (m : Member). first_shown r sign c.args.height (member_notes m)) members i m e
    (found ∙ c.in_default.is))
    ∙ c.loop-disk.invariant backlog accepts members h

pub returns : goal.returns
returns g c = λ backlog accepts members h.
    let r : Rules = coded g.H.Hasher.digest_of c.args.committees.now backlog accepts in
    let sign = g.V.Verifier.signs c.args.verifier.now in
    sym
    (found_none (λ (m : Member). first_shown r sign c.args.height (member_notes m)) members
    c.loop-disk.disk-index
    (omega (arith, c.loop-disk-test.false, as_many members c.args.disks.now h)))
    ∙ c.loop-disk.invariant backlog accepts members h
