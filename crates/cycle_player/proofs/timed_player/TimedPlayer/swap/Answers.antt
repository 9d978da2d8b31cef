use Rattle.std.proofs.Common.{◌≡◌, List, refl, sym, ap, ◌∙◌, subst}
use Rattle.guide_model.specs.declared.offset.Offset.{Offset}
use Rattle.version_book.specs.Airings.{CycleForm, AiredTables}
use Rattle.version_book.specs.Book.{aired}
use Rattle.air_model.specs.Air.{airings_of}
use Rattle.cycle_timing.specs.Airs.{CanBeTimed}
use Rattle.cycle_timing.specs.Again.{IsRight, leads_in}
use Rattle.std.specs.Prelude.{IsTrue, ◌↔◌}
use Rattle.cycle_player.specs.Clock.{reads}
use Rattle.cycle_player.specs.TimedPlayer.{playing_of}
use Rattle.cycle_player.specs.Playing.{TimedPlaying, AtEnd, Begins, uncounted_at}
use Rattle.cycle_player.proofs.Numbers.{moment_fits}
use Rattle.cycle_player.proofs.Plays.{swapped}
use Rattle.cycle_player.proofs.timed_player.TimedPlayer.swap.Goals as goal

pub returns-clause-begun : goal.returns-clause-begun
returns-clause-begun c xs quota end =
    let i = c.self.inside in
    let tables = c.args.tables.list in
    let moment = c.args.moment.0 in
    let form : CycleForm = record { quota = quota; offsets = i.offsets } in
    let a : AiredTables = aired tables moment form in
    let past = airings_of xs in
    let begun = reads c.at_swap-clock.result in
    let new : TimedPlaying = record { book = c.begin.new.book; counters = i.counters; left = c.begin.new.self; offsets = i.offsets; rate = i.rate; clock = reads c.later-end.result } in
    let here = subst (AtEnd xs) (sym c.self.view_is) end in
    let can : CanBeTimed a = record { sendable = record { tables = c.requires.fit.each; offsets = c.self.invariant.offsets }; moment = moment_fits moment c.requires.moment } in
    let left = c.in_ok-begun.ensures.begun past quota here.versions
    ∙ ap (λ (l : List Offset). uncounted_at i.rate begun past (aired tables moment (let f : CycleForm = record { quota = quota; offsets = l } in f))) c.as_slice.ensures in
    let begins = swapped xs a (playing_of i) new begun c.in_ok-begun.begun.packets here can c.requires.moment refl refl (c.in_ok-begun.ensures.versions past form here.versions) c.at_swap-clock.ensures left
    (c.in_ok-begun.ensures.packets past here.versions) c.later-end.ensures.later in
    subst (λ (p : TimedPlaying). Begins xs (aired tables moment (let f : CycleForm = record { quota = quota; offsets = p.offsets } in f)) new) c.self.view_is begins

pub returns-clause-right : goal.returns-clause-right
returns-clause-right c past quota =
    let i = c.self.inside in
    let tables = c.args.tables.list in
    let moment = c.args.moment.0 in
    subst (λ (p : TimedPlaying). IsTrue c.in_ok-begun.begun.is_right ↔ IsRight p.rate past (aired tables moment (let f : CycleForm = record { quota = quota; offsets = p.offsets } in f))) c.self.view_is
    (c.in_ok-begun.ensures.right past (aired tables moment (let f : CycleForm = record { quota = quota; offsets = i.offsets } in f)) refl (sym c.as_slice.ensures))

pub returns-clause-leads : goal.returns-clause-leads
returns-clause-leads c past quota =
    let i = c.self.inside in
    let tables = c.args.tables.list in
    let moment = c.args.moment.0 in
    subst (λ (p : TimedPlaying). c.in_ok-begun.begun.leads ≡ leads_in p.rate past (aired tables moment (let f : CycleForm = record { quota = quota; offsets = p.offsets } in f))) c.self.view_is
    (c.in_ok-begun.ensures.leads past (aired tables moment (let f : CycleForm = record { quota = quota; offsets = i.offsets } in f)) refl (sym c.as_slice.ensures))
