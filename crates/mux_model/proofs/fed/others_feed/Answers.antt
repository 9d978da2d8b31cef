use Rattle.std.proofs.Common.{◌==◌, ◌∙◌, ap, sym}
use Rattle.std.specs.Prelude.{find, option_map}
use Rattle.mux_model.specs.declared.mux.RemoteService.{RemoteService}
use Rattle.mux_model.specs.declared.mux.Other.{Other}
use Rattle.mux_model.proofs.FedFacts.{feed_later, none_next, none_whole}
use Rattle.mux_model.proofs.fed.others_feed.Goals as goal

pub loop-other-preserved : goal.loop-other-preserved
loop-other-preserved c =
    none_next (λ (o : Other). o.services) (λ (s : RemoteService). s.feed) (λ (s : RemoteService). s.service == c.args.id) c.args.others.now c.loop-other.other-index c.other-item.result
    c.loop-other-test.true c.other-item.is c.loop-other.invariant
    (ap (λ ss. option_map (λ (s : RemoteService). s.feed) (find (λ (s : RemoteService). s.service == c.args.id) ss)) (sym c.as_slice.ensures) ∙ sym c.remote_feed.ensures ∙ c.in-None.is)

pub returns-in-Some : goal.returns-in-Some
returns-in-Some c =
    feed_later (λ (o : Other). o.services) (λ (s : RemoteService). s.feed) (λ (s : RemoteService). s.service == c.args.id) c.args.others.now c.loop-other.other-index c.other-item.result c.in-Some.feed
    c.loop-other-test.true c.other-item.is c.loop-other.invariant
    (ap (λ ss. option_map (λ (s : RemoteService). s.feed) (find (λ (s : RemoteService). s.service == c.args.id) ss)) (sym c.as_slice.ensures) ∙ sym c.remote_feed.ensures ∙ c.in-Some.is)

pub returns : goal.returns
returns c =
    none_whole (λ (o : Other). o.services) (λ (s : RemoteService). s.feed) (λ (s : RemoteService). s.service == c.args.id) c.args.others.now c.loop-other.other-index c.loop-other-test.false c.loop-other.invariant
