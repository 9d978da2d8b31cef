use Rattle.std.proofs.Common.{◌==◌, ◌∙◌, ap, sym}
use Rattle.std.specs.Prelude.{find, option_map}
use Rattle.mux_model.specs.declared.mux.MuxService.{MuxService}
use Rattle.mux_model.specs.declared.mux.RemoteService.{RemoteService}
use Rattle.mux_model.specs.Sound.{remote_services}
use Rattle.mux_model.proofs.FedFacts.{no_feed, own_feed, remote_feed}
use Rattle.mux_model.proofs.mux.Mux.feed_of.Goals as goal

pub returns-in-Some : goal.returns-in-Some
returns-in-Some c =
    own_feed c.args.self.now c.requires c.args.id c.in-Some.feed
    (ap (λ ss. option_map (λ (s : MuxService). s.feed) (find (λ (s : MuxService). s.service == c.args.id) ss)) (sym c.as_slice.ensures) ∙ sym c.own_feed.ensures ∙ c.in-Some.is)

pub returns-in-Some-others_feed : goal.returns-in-Some-others_feed
returns-in-Some-others_feed c =
    remote_feed c.args.self.now c.requires c.args.id c.in-Some-others_feed.feed
    (ap (λ os. option_map (λ (s : RemoteService). s.feed) (find (λ (s : RemoteService). s.service == c.args.id) (remote_services os))) (sym c.as_slice-2.ensures) ∙ sym c.others_feed.ensures ∙ c.in-Some-others_feed.is)

pub returns-in-None : goal.returns-in-None
returns-in-None c =
    no_feed c.args.self.now c.args.id
    (ap (λ ss. option_map (λ (s : MuxService). s.feed) (find (λ (s : MuxService). s.service == c.args.id) ss)) (sym c.as_slice.ensures) ∙ sym c.own_feed.ensures ∙ c.in_default.is)
    (ap (λ os. option_map (λ (s : RemoteService). s.feed) (find (λ (s : RemoteService). s.service == c.args.id) (remote_services os))) (sym c.as_slice-2.ensures) ∙ sym c.others_feed.ensures ∙ c.in-None.is)
