-- What was sent of a journal is spaced, or at a bit rate keeps time.
use Rattle.std.proofs.Common.{◌≡◌, ◌⊎◌, inl, inr, [], ◌∷◌, ◌++◌, true, refl, arith}
use Rattle.std.specs.Prelude.{ℕ, ◌<◌, ◌*◌, List, Option, Some, None, map}
use Rattle.std.specs.List.{AllByRecursion}
use Rattle.si_lists.proofs.Lists.{each_unit}
use Rattle.guide_model.specs.declared.guide.Guide.{Guide}
use Rattle.guide_model.specs.declared.guide.ServiceGuide.{ServiceGuide}
use Rattle.section_codec.specs.declared.table.SubTable.{SubTable}
use Rattle.air_model.specs.Sections.{is_fast}
use Rattle.si_time.specs.declared.moment.Moment.{Moment}
use Rattle.mux_model.specs.declared.mux.Other.{Other}
use Rattle.mux_model.specs.declared.mux.Mux.{Mux}
use Rattle.mux_model.specs.Sound.{IsSound}
use Rattle.journal_model.specs.declared.step.Entry.{Entry}
use Rattle.version_book.specs.Airings.{CycleForm, AiredTables}
use Rattle.air_model.specs.Air.{Aired, airings_of}
use Rattle.cycle_player.specs.Sent.{SentOf}
use Rattle.cycle_player.proofs.Sent.{each_sent}
use Rattle.carousel_player.specs.Spacing.{RunsBeginAlone, CanBeSpaced, IsSpacedAir}
use Rattle.carousel_player.proofs.Spaced.{made_airs_are_spaced}
use Rattle.cycle_timing.specs.Airs.{CanBeTimed}
use Rattle.cycle_player.specs.Playing.{IsTimedAir}
use Rattle.cycle_player.proofs.TimedAirs.{is_timed_air}
use Rattle.desk_core.proofs.MomentFacts.{swaps_range}
use Rattle.journal_air.specs.JournalScreenShown.{IsAsRead}
use Rattle.publication.proofs.EntryFacts.{typed_small}
use Rattle.publication.specs.Parts.{own_guide, remote_guide}
use Rattle.publication.specs.Programs.{pat_table, pmt_tables}
use Rattle.publication.specs.Network.{nit_table}
use Rattle.publication.specs.Tables.{sdt_table, present_tables, near_part, far_part, tables_of}
use Rattle.publication.proofs.FitFacts.{any_pmt, each_sub_table, publication_fit}
use Rattle.desk_core.specs.Journal.{Legal}
use Rattle.desk_core.specs.Publications.{publication, swaps}
use Rattle.desk_core.proofs.WithinFacts.{publications_within}
use Rattle.journal_air.specs.Air.{airing_at, airings, mux_form}
use Rattle.journal_air.specs.Laws.{HasTypedEdits}
use Rattle.journal_air.proofs.CarryFacts.{each_airing, offsets_told}
use Rattle.journal_air.proofs.Published.{published_typed}

-- a sub-table is of tier Fast, or not on the PID of the PAT
abbrev IsApart : SubTable → Type 0
IsApart t = (is_fast t.tier ≡ true) ⊎ (t.key.pid ≡ 0 → Prim.⊥)

-- a publication has the PAT first, and all that is not Fast is on the PIDs of SDT and EIT
pub runs_begin_alone : (mux : Mux) (guide : Guide) → RunsBeginAlone (tables_of mux guide)
runs_begin_alone mux guide =
    let apart : AllByRecursion IsApart (tables_of mux guide) =
    each_sub_table IsApart (λ (s : ServiceGuide). Unit {0}) (λ (o : Other) (s : ServiceGuide). Unit {0}) (λ (o : Other). Unit {0}) mux guide (each_unit (own_guide mux guide)) (each_unit mux.others)
    (inl refl) (any_pmt IsApart mux (λ s. inl refl)) (inl refl) (inl refl)
    (λ s q. inl refl)
    (λ s table q above below. inr (λ (e : 18 ≡ 0). omega arith))
    (record {
      sdt = λ o r. inr (λ (e : 17 ≡ 0). omega arith);
      parts = λ o r. each_unit (remote_guide guide o);
      present = λ o s r q. inr (λ (e : 18 ≡ 0). omega arith);
      schedule = λ o s table r q above below. inr (λ (e : 18 ≡ 0). omega arith);
    }) in
    record {
      first = pat_table mux;
      others = pmt_tables mux ++ (nit_table mux ∷ sdt_table mux guide ∷ (present_tables mux guide ++ (near_part mux guide ++ far_part mux guide)));
      are = refl;
      leads = refl;
      apart = apart.1;
    }

-- an airing that can be spaced, in a cycle of this form
abbrev pub IsFitAs : CycleForm → AiredTables → Type 0
IsFitAs form a = CanBeSpaced a × (a.form ≡ form)

abbrev pub AreFitAs : CycleForm → List AiredTables → Type 0
AreFitAs form airings = AllByRecursion (IsFitAs form) airings

-- the airings of a journal can be spaced, in cycles of the form of its multiplex
pub airings_fit : (mux : Mux) (journal : List Entry) → IsSound mux → HasTypedEdits journal → Legal mux journal → AreFitAs (mux_form mux) (airings mux journal)
airings_fit mux journal sound typed legal = each_airing (IsFitAs (mux_form mux)) mux journal one (swaps journal)
  where
    one : (swap : ℕ × Moment) → IsFitAs (mux_form mux) (airing_at mux journal swap)
    one (n, moment) =
        let guide = publication mux journal n in
        let within = publications_within mux journal n sound legal in
        (record { fit = publication_fit mux guide sound within (typed_small guide within (published_typed mux journal n typed within)); alone = runs_begin_alone mux guide; quota = sound.quota.0; offsets = offsets_told mux.offsets sound.offsets }, refl)

each_cycle : (P : AiredTables → Type 0) (xs : List Aired) → AllByRecursion P (airings_of xs) → AllByRecursion (λ (x : Aired). P x.airing) xs
each_cycle P [] all = tt
each_cycle P (x ∷ xs) all = (all.0, each_cycle P xs all.1)

pub sent_spaced : (form : CycleForm) (airings : List AiredTables) → AreFitAs form airings → (before now : Option (List ℕ)) (sent : SentOf None airings before now)
    → IsSpacedAir sent.cycles
sent_spaced form airings fit before now sent =
    made_airs_are_spaced form sent.cycles sent.made (each_cycle (IsFitAs form) sent.cycles (each_sent None airings before now sent (IsFitAs form) fit))

-- ---- at a bit rate

-- a publication of a journal can be sent at a bit rate, at a moment that can be told
timed_at : (mux : Mux) (journal : List Entry) → IsAsRead mux journal → Legal mux journal → (swap : ℕ × Moment) → swap.1.0 < 65536 * 86400 → CanBeTimed (airing_at mux journal swap)
timed_at mux journal read legal (n, moment) before =
    let guide = publication mux journal n in
    let within = publications_within mux journal n read.sound.sound legal in
    let fit = publication_fit mux guide read.sound.sound within (typed_small guide within (published_typed mux journal n read.edits within)) in
    record { sendable = record { tables = fit.each; offsets = offsets_told mux.offsets read.sound.sound.offsets }; moment = omega (arith, before) }

-- and so can all that a journal puts on air
pub airings_timed : (mux : Mux) (journal : List Entry) → IsAsRead mux journal → Legal mux journal → AllByRecursion CanBeTimed (airings mux journal)
airings_timed mux journal read legal = go (swaps journal) (swaps_range mux journal read.sound.sound read.steps legal)
  where
    go : (aired : List (ℕ × Moment)) → AllByRecursion (λ (swap : ℕ × Moment). swap.1.0 < 65536 * 86400) aired → AllByRecursion CanBeTimed (map (airing_at mux journal) aired)
    go [] all = tt
    go (swap ∷ aired) all = (timed_at mux journal read legal swap all.0, go aired all.1)

pub sent_timed : (rate : ℕ) → 0 < rate → (airings : List AiredTables) → AllByRecursion CanBeTimed airings → (before now : Option (List ℕ)) (sent : SentOf (Some rate) airings before now)
    → IsTimedAir rate sent.cycles
sent_timed rate some airings can before now sent =
    is_timed_air rate sent.cycles some sent.made (each_cycle CanBeTimed sent.cycles (each_sent (Some rate) airings before now sent CanBeTimed can))
