use Rattle.std.proofs.Common.{◌≡◌, ◌++◌, [], ◌∷◌, List, sym, ap, ◌∙◌, subst}
use Rattle.guide_model.specs.declared.offset.Offset.{Offset}
use Rattle.version_book.specs.Airings.{CycleForm, AiredTables}
use Rattle.version_book.specs.Book.{BookStandsFor, aired}
use Rattle.air_model.specs.Air.{airings_of, cycle_sections}
use Rattle.air_model.specs.Making.{each_dense}
use Rattle.carousel_player.specs.Playing.{Playing, Begins}
use Rattle.carousel_player.proofs.Plays.{begins, on_ok_both}
use Rattle.carousel_player.proofs.player.Player.swap.Goals as goal

pub returns-clause-begun : goal.returns-clause-begun
returns-clause-begun c xs end =
    let tables = c.args.tables.list in
    let moment = c.args.moment.0 in
    let form = c.args.self.now.form in
    let inside : CycleForm = record { quota = c.self.inside.quota; offsets = c.self.inside.offsets } in
    let sent : CycleForm = record { quota = c.self.inside.quota; offsets = c.as_slice.result.now } in
    let new : Playing = record { book = c.begin.new.book; counters = c.self.inside.counters; left = c.begin.new.self; form = inside } in
    let stands : BookStandsFor (airings_of xs) c.self.inside.book = subst (λ (p : Playing). BookStandsFor (airings_of xs) p.book) (sym c.self.view_is) end.sent.versions in
    on_ok_both c.begin.result
    ((past : List AiredTables) (f : CycleForm) → BookStandsFor past c.self.inside.book → BookStandsFor (past ++ aired tables moment f ∷ []) c.begin.new.book)
    ((past : List AiredTables) → BookStandsFor past c.self.inside.book → c.begin.new.self ≡ each_dense (cycle_sections past (aired tables moment sent)))
    (Begins xs (aired tables moment form) new) c.begin.ensures.versions c.begin.ensures.begun
    (λ versions begun. begins xs tables moment form c.args.self.now new end c.requires.fit.each (ap (λ (p : Playing). p.counters) c.self.view_is) (versions (airings_of xs) form stands) (begun (airings_of xs) stands
    ∙ ap (λ (l : List Offset). each_dense (cycle_sections (airings_of xs) (aired tables moment (let f : CycleForm = record { quota = c.self.inside.quota; offsets = l } in f)))) c.as_slice.ensures
    ∙ ap (λ (p : Playing). each_dense (cycle_sections (airings_of xs) (aired tables moment p.form))) c.self.view_is))
