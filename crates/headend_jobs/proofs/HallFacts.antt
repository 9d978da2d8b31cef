-- What a run did, from what its crew and its sender did.
use Rattle.std.proofs.Common.{◌≡◌, ◌≤◌, ℕ, ◌+◌, true, List, [], ◌∷◌, arith, length, refl, sym, ap, ◌∙◌, subst}
use Rattle.std.specs.Prelude.{Option, None, Err, Result, OnOk, Some}
use Rattle.std.specs.List.{All, AllByRecursion}
use Rattle.std.proofs.lemmas.Slice.Zip.{AllZip-long}
use Rattle.std.proofs.lemmas.List.Elements.{All-from_recursion}
use Rattle.si_causes.specs.Reading.{Reading}
use Rattle.mux_model.specs.Sound.{IsSound}
use Rattle.mux_model.specs.declared.mux.Mux.{Mux}
use Rattle.turn_lock.specs.Knowledge.{TableId}
use Rattle.journal_air.specs.declared.send.SendStop.{SendStop}
use Rattle.journal_air.specs.OnAir.{HasAirCause}
use Rattle.desk_hall.specs.Turn.{View}
use Rattle.headend_jobs.specs.declared.crew.Crew.{Crew}
use Rattle.headend_jobs.specs.declared.jobs.ControlJob.{ControlJob}
use Rattle.headend_jobs.specs.declared.jobs.FeedJob.{FeedJob}
use Rattle.headend_jobs.specs.declared.jobs.Others.{Others}
use Rattle.headend_jobs.specs.declared.jobs.PlayerJob.{PlayerJob}
use Rattle.headend_jobs.specs.declared.live.Ended.{Ended}
use Rattle.headend_jobs.specs.declared.sender.Sender.{Sender}
use Rattle.headend_jobs.specs.declared.views.ViewJob.{ViewJob}
use Rattle.headend_jobs.specs.Crews.{CanEnd, EndedBy, IsCrew}
use Rattle.headend_jobs.specs.Jobs.{AllOf, ControlDid, FeedDid, FeedsDid, OthersDid, OthersReady, PlayerDid, PlayerReady, Streams, callers_of, new_control, new_feeds, new_pass, stops_of, swaps_with_ticks}
use Rattle.headend_jobs.specs.Live.{EndDid, LiveDid, PlayedAs, and_sent}
use Rattle.headend_jobs.specs.Posting.{HasPostedAll, HaveServicesOf, posts_of}
use Rattle.headend_jobs.specs.Ran.{BoardRan, HallRan, taken}
use Rattle.headend_jobs.specs.Sends.{IsFresh, Played}
use Rattle.headend_jobs.specs.Stops.{feeds_stop, halts}
use Rattle.headend_jobs.specs.Views.{ViewReady, ViewsDid}
use Rattle.headend_jobs.proofs.CallerFacts.{callers_have}
use Rattle.headend_jobs.proofs.Cutting.{feeds_len}
use Rattle.headend_jobs.proofs.Ending.{airs_are}
use Rattle.headend_jobs.proofs.Posts.{keeps_then, ok_then, opening_services, posted_all, services_kept}
use Rattle.headend_jobs.proofs.Running.{cause_all, control_plain, feeds_back, first_played, last_told, lone_did, nothing_played, swaps_did}

new_turns : {S : Type 0} (t : TableId) (mux : Mux) (n : ℕ) (readers : List (Reading S)) → AllByRecursion (λ (job : FeedJob S). job.pass.turns ≡ t) (new_feeds t mux n readers)
new_turns t mux n [] = tt
new_turns t mux n (reader ∷ readers) = (refl, new_turns t mux (n + 1) readers)

module _ {F S A : Type 0} (cycles : ℕ) (readers : List (Reading F)) (reader : Reading S) (views : List ViewJob) (before : Sender A) (crew : Crew F S) (fresh : IsFresh before)
    (is : IsCrew before.mux cycles readers reader views crew) where
  pub player_ready : cycles ≤ 1000 → PlayerReady crew.hall.turns crew.player before
  player_ready few = record {
    can_play = record {
      turns_are = ap (λ (j : PlayerJob). j.pass.turns) is.player;
      stands = ap (λ (j : PlayerJob). j.pass.on) is.player;
      sound = fresh.sound;
      served = opening_services before.mux before.board.posts fresh.opening;
      ready = ([], fresh.at_start);
    };
    few = omega (arith, few, ap (λ (j : PlayerJob). j.cycles) is.player);
  }

  pub others_ready : All ViewReady views → OthersReady crew.hall.turns crew.others
  others_ready ready = record {
    feeds = subst (AllOf {S = F} crew.hall.turns) (sym is.feeds) (All-from_recursion _ _ (new_turns crew.hall.turns before.mux 1 readers));
    control = ap (λ (j : ControlJob S). j.pass.turns) is.control;
    views = subst (All ViewReady) (sym is.views_are) ready;
  }

-- a stop of the player is what was sent
failed_by : (end last sent : Result (Unit {0}) SendStop) → sent ≡ and_sent end last → (stop : SendStop) → end ≡ Err stop → sent ≡ Err stop
failed_by end last sent is stop e = is ∙ ap (λ (r : Result (Unit {0}) SendStop). and_sent r last) e

module _ {F S A : Type 0} (st : Streams F S) (written : A → Option (List ℕ)) (faults : A → ℕ) (is_same : A → A → Type 0) (cycles : ℕ) (readers : List (Reading F)) (reader : Reading S) (views : List ViewJob)
    (before between : Sender A) (crew : Crew F S) (fresh : IsFresh before) (is : IsCrew before.mux cycles readers reader views crew) where
  abbrev t : TableId
  t = crew.hall.turns

  abbrev mux : Mux
  mux = before.mux

  module _ (player : PlayerJob) (others : Others F S) (sent : PlayerDid written faults is_same crew.player player before between) (did : OthersDid st crew.others others) where
    -- the crew after its jobs
    abbrev done : Crew F S
    done = record { hall = crew.hall; player = player; others = others; back = crew.back }

    abbrev made : Played written faults is_same (swaps_with_ticks cycles) (new_pass t mux 1) player.pass before between player.end
    made = subst (λ (j : PlayerJob). Played written faults is_same (swaps_with_ticks j.cycles) j.pass player.pass before between player.end) is.player sent.played

    abbrev control_did : ControlDid st.control (new_control t mux reader) others.control
    control_did = subst (λ (j : ControlJob S). ControlDid st.control j others.control) is.control did.control

    abbrev feeds_did : FeedsDid st.feeds (new_feeds t mux 1 readers) others.feeds.items
    feeds_did = subst (λ (l : List (FeedJob F)). FeedsDid st.feeds l others.feeds.items) is.feeds did.feeds

    feeds_same : length others.feeds.items ≡ length crew.others.feeds.items
    feeds_same = AllZip-long (FeedDid st.feeds) crew.others.feeds.items others.feeds.items did.feeds

    readers_same : length others.feeds.items ≡ length readers
    readers_same = feeds_same ∙ ap length is.feeds ∙ feeds_len t mux 1 readers

    pub can_end : CanEnd done between
    can_end =
        let turns = swaps_did true mux cycles (new_pass t mux 1) player.pass before.player between.player (written before.air) (written between.air) player.end made.played in
        let read = control_did.did.1 in
        record {
          control = lone_did t mux 0 _ others.control.pass read;
          plain = control_plain st.control t mux reader others.control control_did;
          player = lone_did t mux 1 turns.0 player.pass turns.1;
          feeds = feeds_back st.feeds t mux 1 readers others.feeds.items feeds_did;
          callers = is.callers ∙ ap (λ n. n + 2) (sym readers_same);
          stands = ap (λ (z : View). z.on) read.gained ∙ ap Some (sym made.mux);
          sound = subst IsSound (sym made.mux) fresh.sound;
          served = subst (λ m. HaveServicesOf m between.board.posts) (sym made.mux) (services_kept mux before.board between.board made.board (opening_services mux before.board.posts fresh.opening));
          ready = made.ready;
          posted = subst (λ m. OnOk player.end (HasPostedAll m player.pass between.board)) (sym made.mux)
              (ok_then _ _ player.end (posted_all mux (new_pass t mux 1) player.pass before.board between.board refl fresh.opening) made.posted);
          none = is.none;
          room = let room = is.room in let same = feeds_same in omega (arith, room, same);
        }

    module _ (now : Sender A) (end : Ended F S) (by : EndedBy written faults is_same done between now end) where
      abbrev end_did : EndDid mux others.control.pass player.pass (callers_of others.feeds.items) between.player player.end (halts player.end others.control.stop (feeds_stop None 1 (stops_of others.feeds.items))) (written between.air) (written now.air) end.desk.entries end.tally end.sent
      end_did = subst (λ m. EndDid m others.control.pass player.pass (callers_of others.feeds.items) between.player player.end (halts player.end others.control.stop (feeds_stop None 1 (stops_of others.feeds.items))) (written between.air) (written now.air) end.desk.entries end.tally end.sent) made.mux by.did

      played_first : PlayedAs mux player.pass.seen player.pass.own.made between.player (written before.air) (written between.air) player.end
      played_first = first_played mux (new_pass t mux 1) player.pass before.player between.player (written before.air) (written between.air) refl fresh.at_start fresh.player_of fresh.tally cycles player.end made.played

      abbrev live : LiveDid st t mux cycles readers reader before.player (written before.air) (written now.air) end.desk.entries end.sent
      live = record {
        feeds = others.feeds.items;
        feeds_did = feeds_did;
        control = others.control;
        control_did = control_did;
        player = player;
        played = between.player;
        mid = written between.air;
        player_did = made.played;
        final = end_did.final;
        journal_did = end_did.journal_did;
        began = end_did.began;
        last = last_told mux (new_pass t mux 1) player.pass before.player between.player (written before.air) (written between.air) refl fresh.at_start fresh.player_of fresh.tally
            end.desk.entries end_did.final (airs_are end_did.journal_did) end_did.began cycles player.end others.control.stop (feeds_stop None 1 (stops_of others.feeds.items)) others.control.pass.own.low end.sent made.played end_did.last;
        air = end_did.aired (written before.air) played_first;
        failed = failed_by player.end by.last end.sent by.sent_is;
      }

      pub hall_ran : HallRan st mux cycles readers reader (taken written faults before.air now.air) end
      hall_ran = record {
        mux_is = by.mux ∙ made.mux;
        turns = t;
        playing = before.player;
        did = live;
        commands = callers_have st t mux cycles readers reader before.player (written before.air) (written now.air) end.desk.entries end.sent live
            (nothing_played mux [] before.player (written before.air) fresh.at_start fresh.player_of fresh.tally);
        feeds_are = by.feeds;
        control_is = by.control_is;
        control_stop = by.control_stop;
        feed_stop = by.feed_stop;
        stop_is = by.stop_is;
        tally = end_did.tallied (written before.air) played_first;
        cause = subst (HasAirCause (faults before.air) (faults now.air)) (sym by.sent_is)
            (cause_all (faults before.air) (faults between.air) (faults now.air) player.end by.last made.air.later by.air.later made.air.cause by.air.cause);
        later = let first = made.air.later in let then = by.air.later in omega (arith, first, then);
      }

      pub board_ran : BoardRan mux views before.board now.board end
      board_ran = record {
        posted = subst (λ m. OnOk end.sent (now.board.posts ≡ posts_of m end.desk.entries)) made.mux by.posted;
        board = keeps_then before.board between.board now.board made.board by.board;
        views = subst (λ (l : List ViewJob). ViewsDid l end.views.items) is.views_are (subst (λ v. ViewsDid crew.others.views.items v.items) (sym by.views) did.views);
      }
