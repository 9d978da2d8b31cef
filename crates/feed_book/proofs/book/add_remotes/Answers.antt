use Rattle.feed_book.proofs.Opening.{remote_next, remotes_whole}
use Rattle.feed_book.proofs.book.add_remotes.Goals as goal

pub loop-remote-preserved : goal.loop-remote-preserved
loop-remote-preserved c =
    remote_next c.args.remotes.now c.loop-remote.remote-index c.remote-item.result c.loop-remote.services.items c.add_remote.new.services.items c.args.services.now.items
    c.loop-remote-test.true c.remote-item.is c.loop-remote.invariant c.in_ok-add_remote.ensures

pub returns : goal.returns
returns c = remotes_whole c.args.remotes.now c.loop-remote.remote-index c.loop-remote.services.items c.args.services.now.items c.loop-remote-test.false c.loop-remote.invariant
