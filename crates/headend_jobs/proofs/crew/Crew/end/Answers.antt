use Rattle.std.proofs.Common.{◌≡◌, ◌∙◌, ◌++◌, ap, refl, subst, sym}
use Rattle.std.specs.Prelude.{None, OnOk}
use Rattle.mux_model.specs.declared.mux.Mux.{Mux}
use Rattle.desk_core.specs.Journal.{Legal}
use Rattle.turn_lock.specs.Journal.{entries_of}
use Rattle.turn_lock.specs.Knowledge.{Lock}
use Rattle.turn_lock.proofs.Lists.{prefix_trans}
use Rattle.desk_hall.specs.Turn.{View, caller_of}
use Rattle.desk_hall.proofs.Turns.{some_same}
use Rattle.headend_jobs.specs.Crews.{AreBack}
use Rattle.headend_jobs.specs.Jobs.{callers_of, lines_of, stops_of}
use Rattle.headend_jobs.specs.Live.{EndDid, LastDid}
use Rattle.headend_jobs.specs.Posting.{posts_of}
use Rattle.headend_jobs.specs.Stops.{feeds_stop, halts}
use Rattle.headend_jobs.proofs.Ending.{ended, stays, stays_numbers, stays_on, stays_turns}
use Rattle.headend_jobs.proofs.Joining.{finished_is, has_same}
use Rattle.headend_jobs.proofs.Posts.{posted_whole}
use Rattle.headend_jobs.proofs.Running.{and_ok, apart_are, going_ready, have, swaps_are}
use Rattle.headend_jobs.proofs.crew.Crew.end.Goals as goal

pub join_all-feed-requires-clause-feeds : goal.join_all-feed-requires-clause-feeds
join_all-feed-requires-clause-feeds g c =
    subst (λ (l : Lock). AreBack l.turns 1 c.args.self.others.feeds.items) (sym c.turns-2.ensures) c.requires.feeds

pub last_turns-last-requires-after_bounds : goal.last_turns-last-requires-after_bounds
last_turns-last-requires-after_bounds g c κs within = λ going.
    let joined = c.join_all-feed.ensures.joined in
    record {
      turns_are = joined.turns ∙ ap (λ (z : View). z.turns) c.join.ensures.joined ∙ c.requires.control.turns_are;
      stands = joined.on ∙ ap (λ (z : View). z.on) c.join.ensures.joined ∙ c.requires.stands;
      sound = c.requires.sound;
      served = c.requires.served;
      ready = going_ready _ c.args.self.player.end c.args.self.others.control.stop c.join_all-feed.result (sym c.halts-halted.ensures ∙ going) c.requires.ready;
    }

pub close-desk-requires-clause-turns : goal.close-desk-requires-clause-turns
close-desk-requires-clause-turns g c =
    let joined = c.join_all-feed.ensures.joined in
    let s = c.args.sender.now in
    let last = c.last_turns-last in
    stays_turns c.join_all-feed.new.pass last.new.pass
    (stays c.halts-halted.result s.mux c.join_all-feed.new.pass last.new.pass s.player last.new.self.player (g.A.Sink.written s.air) (g.A.Sink.written last.new.self.air) last.result last.ensures.did)
    ∙ joined.turns ∙ ap (λ (z : View). z.turns) c.join.ensures.joined ∙ c.requires.control.turns_are

pub close-desk-requires-clause-whole : goal.close-desk-requires-clause-whole
close-desk-requires-clause-whole g c = λ k less.
    let crew = c.args.self in
    let joined = c.join_all-feed.ensures.joined in
    let s = c.args.sender.now in
    let last = c.last_turns-last in
    let v = c.join_all-feed.new.pass in
    let n = stays_numbers v last.new.pass
    (stays c.halts-halted.result s.mux v last.new.pass s.player last.new.self.player (g.A.Sink.written s.air) (g.A.Sink.written last.new.self.air) last.result last.ensures.did) in
    let own = joined.own ∙ ap (λ (z : View). z.own) c.join.ensures.joined in
    let all = finished_is crew.others.control.pass crew.player.pass c.join.new.self v (callers_of crew.others.feeds.items) c.join.ensures.joined joined.finished c.requires.control.alone c.requires.player.alone in
    has_same crew.others.control.pass.own last.new.pass.own _ _ k (n.0 ∙ ap (λ z. z.low) own) (n.1 ∙ ap (λ z. z.span) own) (n.2 ∙ all)
    (have crew.hall.turns crew.others.feeds.items c.requires.feeds crew.others.control.pass crew.player.pass c.requires.control c.requires.player crew.hall.callers c.requires.callers k less)

pub returns : goal.returns
returns g c =
    let crew = c.args.self in
    let control = crew.others.control in
    let player = crew.player in
    let feeds = crew.others.feeds.items in
    let s = c.args.sender.now in
    let joined = c.join_all-feed.ensures.joined in
    let last = c.last_turns-last in
    let t = last.new.self in
    let v = c.join_all-feed.new.pass in
    let w = last.new.pass in
    let journal = c.close-desk.result.entries in
    let mid = g.A.Sink.written s.air in
    let now = g.A.Sink.written t.air in
    let stay = stays c.halts-halted.result s.mux v w s.player t.player mid now last.result last.ensures.did in
    let own : v.own ≡ control.pass.own = joined.own ∙ ap (λ (z : View). z.own) c.join.ensures.joined in
    let mux : c.close-desk.result.mux ≡ s.mux = some_same c.close-desk.result.mux s.mux (sym c.close-desk.ensures.stands ∙ stays_on v w stay ∙ joined.on ∙ ap (λ (z : View). z.on) c.join.ensures.joined ∙ c.requires.stands) in
    let stop : c.join_all-feed.result ≡ feeds_stop None 1 (stops_of feeds) = c.join_all-feed.ensures.stop in
    let seen = prefix_trans player.pass.seen c.join.new.self.seen v.seen c.join.ensures.told joined.began in
    let did = ended s.mux control.pass player.pass (callers_of feeds) s.player mid now journal v w
    (record {
      closes = c.close-desk.ensures.closes;
      legal = subst (λ (m : Mux). Legal m journal) mux c.close-desk.ensures.legal;
      own = own;
      finished = finished_is control.pass player.pass c.join.new.self v (callers_of feeds) c.join.ensures.joined joined.finished c.requires.control.alone c.requires.player.alone;
      seen = seen;
      low = c.requires.player.low;
      swaps = swaps_are crew.hall.turns feeds c.requires.feeds control.pass player.pass c.requires.control c.requires.player c.requires.plain;
      apart = apart_are crew.hall.turns feeds c.requires.feeds control.pass player.pass c.requires.control c.requires.player;
    })
    t.player player.end last.result control.stop (feeds_stop None 1 (stops_of feeds))
    (subst (λ b. LastDid b s.mux v w s.player t.player mid now last.result) (c.halts-halted.ensures ∙ ap (halts player.end control.stop) stop) last.ensures.did) in
    let sent = c.and_sent-sent.ensures in
    record {
      did = subst (λ k. EndDid s.mux control.pass player.pass (callers_of feeds) s.player player.end (halts player.end control.stop (feeds_stop None 1 (stops_of feeds))) mid now journal k c.and_sent-sent.result) (sym c.tally-tally.ensures)
          (subst (λ r. EndDid s.mux control.pass player.pass (callers_of feeds) s.player player.end (halts player.end control.stop (feeds_stop None 1 (stops_of feeds))) mid now journal t.player.tally r) (sym sent) did);
      mux = mux;
      last = last.result;
      sent_is = sent;
      air = last.ensures.air;
      same_on = λ a same. g.met.A.Sink.same_later a s.air t.air same last.ensures.air.same;
      posted = subst (λ r. OnOk r (t.board.posts ≡ posts_of s.mux journal)) (sym sent)
          (and_ok _ _ _ player.end last.result
          (posted_whole s.mux control.pass.own player.pass.own (callers_of feeds) did.final journal player.pass v w s.board t.board did.journal_did
          refl own (ap (λ k. entries_of caller_of k journal) (sym ((stays_numbers v w stay).0 ∙ ap (λ z. z.low) own)) ∙ c.close-desk.ensures.closes.exact.made.0) seen c.close-desk.ensures.closes.began)
          c.requires.posted last.ensures.posted);
      board = last.ensures.board;
      feeds = c.join_all-feed.ensures.back ∙ ap (λ l. l ++ lines_of feeds) c.requires.none;
      control_is = refl;
      control_stop = refl;
      feed_stop = stop;
      stop_is = c.run_stop.ensures;
      views = refl;
    }
