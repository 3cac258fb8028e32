use Rattle.std.proofs.Common.{◌≡◌, length, rules}
use Rattle.marshal.proofs.Loading.{goes_on, told_so}
use Rattle.marshal.proofs.frames.LoadingRecords.read.Goals as goal

pub returns-clause-kept : goal.returns-clause-kept
returns-clause-kept c did frames are =
    let size : c.len-self.result ≡ length c.args.self.now.notes.items = search rules in
    rw size
    (goes_on frames c.args.self.now.notes.items c.read_frame.new.notes.items c.args.self.now.last
    c.args.frame.now are (c.in_ok-read.ensures.read did))

pub returns-clause-told : goal.returns-clause-told
returns-clause-told c frames are =
    told_so c.args.frame.now c.args.self.now.notes.items c.read_frame.new.notes.items
    c.in_ok-read.read c.in_ok-read.ensures.read c.in_ok-read.ensures.none
