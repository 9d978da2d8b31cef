-- The airing list of a worked journal.
use Rattle.std.specs.Prelude.{◌≡◌, ℕ, List, [], ◌∷◌, codes, map, refl}
use Rattle.si_time.specs.declared.moment.Moment.{Moment}
use Rattle.mux_model.specs.declared.mux.MuxService.{MuxService}
use Rattle.mux_model.specs.declared.mux.Mux.{Mux}
use Rattle.mux_model.specs.Muxes.{mux_of}
use Rattle.version_book.specs.Airings.{AiredTables}
use Rattle.journal_model.specs.declared.step.Step.TheVariants.{Publish, Swap}
use Rattle.journal_model.specs.declared.step.Outcome.TheVariants.{Published, Swapped}
use Rattle.journal_model.specs.declared.step.Entry.{Entry}
use Rattle.desk_core.specs.Publications.{swaps}
use Rattle.journal_air.specs.Air.{airings}

abbrev news : MuxService
news = record { service = 101; feed = 1; kind = 1; pmt_pid = 256; pcr_pid = 257; provider = codes "First"; name = codes "First"; components = []; descriptors = []; program_descriptors = [] }

abbrev mux : Mux
mux = mux_of 40 (codes "Demo") 2 1 (record { 0 = 0 }) 200 (news ∷ [])

-- ---- a swap before any publication, a publication, and two swaps

abbrev journal : List Entry
journal =
    record { who = 0; step = Swap; outcome = Swapped 0 (record { 0 = 0 }) }
    ∷ record { who = 0; step = Publish; outcome = Published 1 }
    ∷ record { who = 2; step = Swap; outcome = Swapped 1 (record { 0 = 0 }) }
    ∷ record { who = 0; step = Swap; outcome = Swapped 1 (record { 0 = 0 }) }
    ∷ []

row_swaps : map (λ (swap : ℕ × Moment). swap.0) (swaps journal) ≡ 0 ∷ 1 ∷ 1 ∷ []
row_swaps = refl

row_moments : map (λ (a : AiredTables). a.moment) (airings mux journal) ≡ 0 ∷ 0 ∷ 0 ∷ []
row_moments = refl
