use Rattle.std.proofs.Common.{◌∙◌, arith, rules, subst, sym}
use Rattle.note_scans.specs.declared.key.VoteKey.{VoteKey}
use Rattle.note_scans.proofs.Keys.{found_key}
use Rattle.voter.specs.Views.{HasKey, HasRoomAt}
use Rattle.voter.proofs.Viewing.{Sets, key_stays, room_stays, views_put, views_same}
use Rattle.voter.proofs.views.Views.prepare.Goals as goal

pub returns-in_err-reserve-clause-same : goal.returns-in_err-reserve-clause-same
returns-in_err-reserve-clause-same c = λ named has.
    let key = c.view_key-key.result in
    let mid = c.put_first.new.map.entries in
    let new = (c.get_mut.follows.lender c.reserve.new.self).entries in
    let sets : Sets key c.reserve.new.self mid new =
    ((c.get_mut.follows.holds c.reserve.new.self).3 (search rules)).0 in
    views_same mid new key c.in-Some.list.now c.reserve.new.self
    (sym (found_key mid key) ∙ sym c.in-Some.ensures.value) c.reserve.ensures.items sets named
    (views_put c.args.self.now.by_view.entries mid key c.new.result c.new.ensures.items
    c.in_ok-put_first.ensures.ok named has)

pub returns-in_ok-reserve-clause-same : goal.returns-in_ok-reserve-clause-same
returns-in_ok-reserve-clause-same c = λ named has.
    let key = c.view_key-key.result in
    let mid = c.put_first.new.map.entries in
    let new = (c.get_mut.follows.lender c.reserve.new.self).entries in
    let sets : Sets key c.reserve.new.self mid new =
    ((c.get_mut.follows.holds c.reserve.new.self).3 (search rules)).0 in
    views_same mid new key c.in-Some.list.now c.reserve.new.self
    (sym (found_key mid key) ∙ sym c.in-Some.ensures.value) c.reserve.ensures.items sets named
    (views_put c.args.self.now.by_view.entries mid key c.new.result c.new.ensures.items
    c.in_ok-put_first.ensures.ok named has)

pub returns-in_ok-reserve-clause-there : goal.returns-in_ok-reserve-clause-there
returns-in_ok-reserve-clause-there c =
    let key = c.view_key-key.result in
    let mid = c.put_first.new.map.entries in
    let new = (c.get_mut.follows.lender c.reserve.new.self).entries in
    subst (λ (k : VoteKey). HasKey k new) c.view_key-key.ensures
    (key_stays key c.reserve.new.self mid new
    ((c.get_mut.follows.holds c.reserve.new.self).3 (search rules)).0)

pub returns-in_ok-reserve-clause-room : goal.returns-in_ok-reserve-clause-room
returns-in_ok-reserve-clause-room c =
    let key = c.view_key-key.result in
    let mid = c.put_first.new.map.entries in
    let new = (c.get_mut.follows.lender c.reserve.new.self).entries in
    subst (λ (k : VoteKey). HasRoomAt k new) c.view_key-key.ensures
    (room_stays key c.reserve.new.self mid new
    ((c.get_mut.follows.holds c.reserve.new.self).3 (search rules)).0 (search (rules, arith)))
