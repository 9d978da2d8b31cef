-- Each airing of a legal journal can be heard, and receivers count all tables that it carries.
use Rattle.std.proofs.Common.{◌≡◌, ℕ, ◌<◌, ◌≤◌, ◌==◌, ◌&&◌, ◌||◌, ◌⊎◌, inl, inr, Bool, true, false, List, [], ◌∷◌, Option, Some, None, refl, ap, ◌∙◌, arith, le-leb}
use Rattle.std.specs.Prelude.{map, is_some, if◌then◌else◌}
use Rattle.std.specs.List.{AllByRecursion}
use Rattle.std.proofs.lemmas.Bool.{and_from, eqb-true}
use Rattle.std.proofs.lemmas.Bool.Decides.{nat_tests}
use Rattle.si_lists.proofs.Lists.{all_map, all_two}
use Rattle.si_time.specs.declared.moment.Moment.{Moment}
use Rattle.guide_model.specs.declared.offset.Offset.{Offset}
use Rattle.mux_model.specs.declared.mux.Mux.{Mux}
use Rattle.mux_model.specs.Sound.{IsSoundOffset, AreSoundOffsets, farthest}
use Rattle.section_codec.specs.declared.table.NumberedBody.{NumberedBody}
use Rattle.section_codec.specs.declared.table.SubTable.{SubTable}
use Rattle.section_codec.specs.Contents.{last_number}
use Rattle.section_codec.specs.Segments.{segment_last_in}
use Rattle.section_codec.specs.Keys.{key_in}
use Rattle.section_codec.specs.SubTables.{header_of}
use Rattle.section_codec.specs.Tables.{is_eit, is_pat, is_pmt, is_nit, is_sdt, is_events}
use Rattle.section_codec.specs.declared.table.Naming.TheVariants.{Extension, Network, Stream}
use Rattle.table_bodies.specs.Pat.{is_pat_body}
use Rattle.table_bodies.specs.Pmt.{is_pmt_body}
use Rattle.table_bodies.specs.Nit.{is_nit_body}
use Rattle.table_bodies.specs.Sdt.{is_sdt_body}
use Rattle.table_bodies.specs.Eit.{is_eit_body}
use Rattle.publication.proofs.EntryFacts.{typed_small}
use Rattle.time_tables.specs.LocalOffsets.{FitsOffset}
use Rattle.version_book.specs.Airings.{AiredTables}
use Rattle.guide_receiver.specs.Counting.{is_body_of_table, is_event_body, is_last_within}
use Rattle.air_model.specs.Air.{CanBeTold}
use Rattle.air_laws.specs.Counting.{IsReadable, CanBeHeard}
use Rattle.publication.specs.Laws.{IsReadEit, TellsItself, TellsKey}
use Rattle.publication.specs.Tables.{tables_of}
use Rattle.publication.proofs.FitFacts.{publication_fit}
use Rattle.publication.proofs.TellFacts.{publication_tells}
use Rattle.journal_model.specs.declared.step.Entry.{Entry}
use Rattle.desk_core.specs.Publications.{publication, swaps}
use Rattle.desk_core.proofs.WithinFacts.{publications_within}
use Rattle.publication.proofs.CountedFacts.{IsCountedTable, published_counted}
use Rattle.journal_air.specs.Air.{airing_at}
use Rattle.journal_air.specs.Laws.{AiringsCanBeHeard, AiringsAreCounted}
use Rattle.journal_air.proofs.Published.{published_services, published_typed}

-- ---- a sub-table that receivers count, and that tells itself

pat_table_id : (pid table : ℕ) → is_pat pid table ≡ true → table ≡ 0x00
pat_table_id pid table h = grind (arith, nat_tests)

pmt_table_id : (pid table : ℕ) → is_pmt pid table ≡ true → table ≡ 0x02
pmt_table_id pid table h = grind (arith, nat_tests)

nit_table_id : (pid table : ℕ) → is_nit pid table ≡ true → table ≡ 0x40
nit_table_id pid table h = grind (arith, nat_tests)

sdt_table_id : (pid table : ℕ) → is_sdt pid table ≡ true → (table ≡ 0x42) ⊎ (table ≡ 0x46)
sdt_table_id pid table h = go (table == 0x42) refl
  where
    go : (b : Bool) → (table == 0x42) ≡ b → (table ≡ 0x42) ⊎ (table ≡ 0x46)
    go true e = inl (eqb-true table 0x42 e)
    go false e = (let other : table ≡ 0x46 = grind (arith, nat_tests) in inr other)

events_are_eit : (pid table : ℕ) → is_events pid table ≡ true → is_eit table ≡ true
events_are_eit pid table h = grind (arith, nat_tests)

abbrev IsBody : SubTable → NumberedBody → Type 0
IsBody t s = is_body_of_table (header_of 0 t s) s.body ≡ true

-- what is asked of a body of a section, by the table_id
abbrev asked : SubTable → NumberedBody → ℕ → Bool
asked t s table = is_body_of_table (record { table = table; ext = t.key.ext; version = 0; current = true; number = s.number; last = last_number t.sections }) s.body

event_body : (t : SubTable) (s : NumberedBody) → is_eit t.key.table ≡ true → IsReadEit (last_number t.sections) s → IsBody t s
event_body t s eit is =
    let h = header_of 0 t s in
    ap (λ (b : Bool).
    if b then is_event_body h s.body
    else if h.table == 0x00 then is_pat_body s.body
    else if h.table == 0x02 then is_pmt_body s.body
    else if h.table == 0x40 then is_nit_body s.body
    else (h.table == 0x42 || h.table == 0x46) && is_sdt_body s.body) eit
    ∙ and_from (is_eit_body s.body) (is_last_within (segment_last_in s.number s.body) (last_number t.sections)) is.body
    (ap (λ (o : Option ℕ). is_last_within o (last_number t.sections)) is.told.1 ∙ le-leb is.told.0 (last_number t.sections) is.told.2)

sdt_body : (t : SubTable) (s : NumberedBody) → (t.key.table ≡ 0x42) ⊎ (t.key.table ≡ 0x46) → is_sdt_body s.body ≡ true → IsBody t s
sdt_body t s (inl own) is = ap (asked t s) own ∙ is
sdt_body t s (inr other) is = ap (asked t s) other ∙ is

bodies_of : (t : SubTable) → IsCountedTable t → TellsItself t → AllByRecursion (IsBody t) t.sections
bodies_of t counted tells =
    by (is_pat t.key.pid t.key.table) (is_pmt t.key.pid t.key.table) (is_nit t.key.pid t.key.table) (is_sdt t.key.pid t.key.table)
    (is_events t.key.pid t.key.table) refl refl refl refl refl counted
  where
    each : (P : NumberedBody → Type 0) → ((s : NumberedBody) → P s → IsBody t s) → AllByRecursion P t.sections → AllByRecursion (IsBody t) t.sections
    each P f h = all_map P (IsBody t) f t.sections h

    by : (pat pmt nit sdt events : Bool) → is_pat t.key.pid t.key.table ≡ pat → is_pmt t.key.pid t.key.table ≡ pmt
        → is_nit t.key.pid t.key.table ≡ nit → is_sdt t.key.pid t.key.table ≡ sdt → is_events t.key.pid t.key.table ≡ events
        → is_some (if pat || pmt || nit then Some Extension else if sdt then Some Network else if events then Some Stream else None) ≡ true → AllByRecursion (IsBody t) t.sections
    by true pmt nit sdt events a b c d e h =
        each (λ s. is_pat_body s.body ≡ true) (λ s is. ap (asked t s) (pat_table_id t.key.pid t.key.table a) ∙ is) (tells.pat a)
    by false true nit sdt events a b c d e h =
        each (λ s. is_pmt_body s.body ≡ true) (λ s is. ap (asked t s) (pmt_table_id t.key.pid t.key.table b) ∙ is) (tells.pmt b)
    by false false true sdt events a b c d e h =
        each (λ s. is_nit_body s.body ≡ true) (λ s is. ap (asked t s) (nit_table_id t.key.pid t.key.table c) ∙ is) (tells.nit c)
    by false false false true events a b c d e h =
        each (λ s. is_sdt_body s.body ≡ true) (λ s is. sdt_body t s (sdt_table_id t.key.pid t.key.table d) is) (tells.sdt d)
    by false false false false true a b c d e h =
        let eit = events_are_eit t.key.pid t.key.table e in
        each (IsReadEit (last_number t.sections)) (λ s is. event_body t s eit is) (tells.read eit)
    by false false false false false a b c d e h = cc h

readable : (t : SubTable) → IsCountedTable t → TellsItself t → IsReadable t
readable t counted tells = record {
  table = tells.table;
  ext = tells.ext;
  last = tells.last;
  keyed = all_map (TellsKey t.key) (λ (s : NumberedBody). key_in t.key.pid (header_of 0 t s) s.body ≡ Some t.key) (λ s tell. tell (header_of 0 t s) refl refl) t.sections tells.keyed;
  bodies = bodies_of t counted tells;
  numbered = tells.numbered;
}

-- ---- airings

-- what holds of each publication on air holds of each airing
pub each_airing : (P : AiredTables → Type 0) (mux : Mux) (journal : List Entry) → ((swap : ℕ × Moment) → P (airing_at mux journal swap))
    → (swaps : List (ℕ × Moment)) → AllByRecursion P (map (airing_at mux journal) swaps)
each_airing P mux journal one [] = tt
each_airing P mux journal one (swap ∷ swaps) = (one swap, each_airing P mux journal one swaps)

-- sound offsets can be told
far : (behind : Bool) (n : ℕ) → n ≤ farthest behind → n < 1440
far true n le = omega (arith, le)
far false n le = omega (arith, le)

offset_fits : (o : Offset) → IsSoundOffset o → FitsOffset o
offset_fits o h = record {
  country = h.country.0;
  region = omega (arith, h.region);
  minutes = far o.behind o.minutes h.minutes;
  change = h.change;
  next = far o.behind o.next h.next;
}

pub offsets_told : (offsets : List Offset) → AreSoundOffsets offsets → CanBeTold offsets
offsets_told offsets h = record { few = h.few; each = all_map IsSoundOffset FitsOffset offset_fits offsets h.each }

pub airings_heard : AiringsCanBeHeard
airings_heard mux journal sound typed legal = each_airing CanBeHeard mux journal one (swaps journal)
  where
    one : (swap : ℕ × Moment) → CanBeHeard (airing_at mux journal swap)
    one (n, moment) =
        let guide = publication mux journal n in
        let within = publications_within mux journal n sound.sound legal in
        let events = published_typed mux journal n typed within in
        let fit = publication_fit mux guide sound.sound within (typed_small guide within events) in
        let tells = publication_tells mux guide sound (published_services mux journal n) within events in
        record { differ = fit.differ; fit = fit.each; readable = all_two IsCountedTable TellsItself IsReadable readable (tables_of mux guide) (published_counted mux guide sound.sound) tells; offsets = offsets_told mux.offsets sound.sound.offsets }

-- receivers count all tables of an airing
abbrev AreCounted : AiredTables → Type 0
AreCounted a = AllByRecursion IsCountedTable a.tables

pub airings_counted : AiringsAreCounted
airings_counted mux journal sound =
    each_airing AreCounted mux journal (λ swap. published_counted mux (publication mux journal swap.0) sound) (swaps journal)
