use Rattle.std.proofs.Common.{◌==◌, ◌∙◌, ap, sym}
use Rattle.std.specs.Prelude.{find, is_some, option_map}
use Rattle.mux_model.specs.declared.mux.MuxService.{MuxService}
use Rattle.mux_model.specs.declared.mux.RemoteService.{RemoteService}
use Rattle.mux_model.specs.Sound.{remote_services}
use Rattle.mux_model.proofs.FedFacts.{has_other, has_own}
use Rattle.mux_model.proofs.mux.Mux.has_fed.Goals as goal

pub returns-then-is_some : goal.returns-then-is_some
returns-then-is_some c =
    let own = c.is_some.ensures ∙ ap is_some (c.own_feed.ensures ∙ ap (λ ss. option_map (λ (s : MuxService). s.feed) (find (λ (s : MuxService). s.service == c.args.id) ss)) c.as_slice.ensures) in
    c.if-is_some.true ∙ sym (has_own c.args.self.now c.args.id (sym own ∙ c.if-is_some.true))

pub returns-else-is_some : goal.returns-else-is_some
returns-else-is_some c =
    let own = c.is_some.ensures ∙ ap is_some (c.own_feed.ensures ∙ ap (λ ss. option_map (λ (s : MuxService). s.feed) (find (λ (s : MuxService). s.service == c.args.id) ss)) c.as_slice.ensures) in
    c.is_some-else-is_some.ensures
    ∙ ap is_some (c.others_feed.ensures ∙ ap (λ os. option_map (λ (s : RemoteService). s.feed) (find (λ (s : RemoteService). s.service == c.args.id) (remote_services os))) c.as_slice-else-is_some.ensures)
    ∙ has_other c.args.self.now c.args.id (sym own ∙ c.if-is_some.false)
