use Rattle.std.proofs.Common.{◌≡◌, ◌∙◌, ap, inl, subst, sym}
use Rattle.guide_board.specs.Posts.{IsInOrder, services_in, services_of, with_post}
use Rattle.desk_core.specs.declared.airing.Airing.{Airing}
use Rattle.headend_jobs.proofs.Posts.{guide_in_order, if_ok, post_services, posted_swap, posted_then, posted_tick}
use Rattle.headend_jobs.specs.Ticking.{Ticked}
use Rattle.headend_jobs.proofs.Airs.{airing_services, stands_still}
use Rattle.headend_jobs.proofs.Running.{end_left}
use Rattle.headend_jobs.proofs.sender.Sender.swap_and_send.Goals as goal

pub send_cycle-requires-clause-services : goal.send_cycle-requires-clause-services
send_cycle-requires-clause-services g c =
    airing_services c.args.self.now.mux c.in-Ok.airing c.swap.new.pass
    (c.in-Ok.ensures.airing c.args.self.now.mux (stands_still c.args.self.now.mux _ _ c.tick_first.new.pass c.swap.new.pass (c.tick_first.ensures.keeps.on ∙ c.requires.stands) c.in-Ok.ensures.made))

pub returns-clause-played : goal.returns-clause-played
returns-clause-played g c = inl (record {
  between = c.tick_first.new.pass;
  ticked = subst (λ o. Ticked o c.args.pass.now c.tick_first.new.pass) c.tick_now.ensures.tick c.in_ok-tick_first.ensures.made;
  airing = c.in-Ok.airing;
  made = c.in-Ok.ensures.made;
  airing_is = c.in-Ok.ensures.airing c.args.self.now.mux (stands_still c.args.self.now.mux _ _ c.tick_first.new.pass c.swap.new.pass (c.tick_first.ensures.keeps.on ∙ c.requires.stands) c.in-Ok.ensures.made);
  sent = c.send_cycle.ensures.sent;
  form = c.send_cycle.ensures.form;
  rate = c.send_cycle.ensures.rate;
  counted = c.send_cycle.ensures.counted;
  wanting = λ e. ap g.A.Sink.written (c.send_cycle.ensures.memory e).0;
})

pub post-requires-clause-order : goal.post-requires-clause-order
post-requires-clause-order g c = subst (λ (a : Airing). IsInOrder a.guide) (sym c.airing.view_is) (guide_in_order c.in-Ok.airing.guide c.in-Ok.ensures.within)

pub post-requires-clause-services : goal.post-requires-clause-services
post-requires-clause-services g c =
    subst (λ (a : Airing). services_of a.guide ≡ services_in c.args.self.now.board.posts) (sym c.airing.view_is)
    (post_services c.args.self.now.mux c.in-Ok.airing.guide c.args.self.now.board.posts
    (airing_services c.args.self.now.mux c.in-Ok.airing c.swap.new.pass
    (c.in-Ok.ensures.airing c.args.self.now.mux (stands_still c.args.self.now.mux _ _ c.tick_first.new.pass c.swap.new.pass (c.tick_first.ensures.keeps.on ∙ c.requires.stands) c.in-Ok.ensures.made)))
    c.requires.served)

pub returns-clause-posted : goal.returns-clause-posted
returns-clause-posted g c =
    if_ok _ c.send_cycle.result
    (posted_then c.args.self.now.mux c.args.pass.now c.tick_first.new.pass c.swap.new.pass c.args.self.now.board c.args.self.now.board c.post.new.self
    (posted_tick c.args.self.now.mux c.tick_now.result c.args.pass.now c.tick_first.new.pass c.args.self.now.board c.in_ok-tick_first.ensures.made)
    (posted_swap c.args.self.now.mux c.in-Ok.airing c.tick_first.new.pass c.swap.new.pass c.args.self.now.board c.post.new.self c.in-Ok.ensures.made
    (c.in-Ok.ensures.airing c.args.self.now.mux (stands_still c.args.self.now.mux _ _ c.tick_first.new.pass c.swap.new.pass (c.tick_first.ensures.keeps.on ∙ c.requires.stands) c.in-Ok.ensures.made))
    (c.in_ok-post.ensures.posted ∙ ap (λ (a : Airing). with_post c.args.self.now.board a.number a.guide) c.airing.view_is)))

pub send_cycle-requires-clause-at_end : goal.send_cycle-requires-clause-at_end
send_cycle-requires-clause-at_end g c = let (xs, ready) = c.requires.ready in end_left c.args.self.now.player.rate xs c.args.self.now.player ready
