-- What is kept of the keys that the airings of a legal journal carried can be written.
use Rattle.std.proofs.Common.{◌≡◌, Bool, true, false, ℕ, ◌+◌, ◌%◌, ◌<◌, ◌≤◌, List, [], ◌∷◌, length, refl, sym, ap, ◌∙◌, subst, subst₂, arith}
use Rattle.std.specs.Prelude.{if◌then◌else◌, Option, Some, option_map, unwrap_or}
use Rattle.std.specs.List.{AllByRecursion}
use Rattle.std.proofs.lemmas.List.Elements.{recursion_from_All}
use Rattle.si_lists.proofs.Lists.{all_at, all_map, all_two, each_unit}
use Rattle.guide_model.specs.declared.guide.Guide.{Guide}
use Rattle.mux_model.specs.declared.mux.Mux.{Mux}
use Rattle.mux_model.specs.Sound.{HasStreamIds, IsSoundWithIds, IsSoundService}
use Rattle.section_codec.specs.declared.table.Key.{Key}
use Rattle.section_codec.specs.declared.table.NumberedBody.{NumberedBody}
use Rattle.section_codec.specs.declared.table.SubTable.{SubTable}
use Rattle.section_codec.specs.Contents.{Content, Ascend, last_number}
use Rattle.section_codec.specs.declared.table.Naming.{Naming}
use Rattle.section_codec.specs.Keys.{is_listed, is_named}
use Rattle.section_codec.specs.KeyOrder.{is_key}
use Rattle.section_codec.proofs.NamingFacts.{pmt_listed, events_listed}
use Rattle.section_codec.specs.Section.{longest_body}
use Rattle.section_codec.specs.SubTables.{IsFit}
use Rattle.section_codec.specs.Tables.{is_eit}
use Rattle.section_codec.proofs.KeyOrderFacts.{is_key-same}
use Rattle.version_book.specs.declared.key_version.KeyVersion.{KeyVersion}
use Rattle.version_book.specs.Airings.{AiredTables, carried, changes_after, content_in}
use Rattle.version_book.specs.Book.{AreOrdered, BookStandsFor, GivenVersion, GivenVersions, given_entries, given_entry, given_in, kept_after}
use Rattle.version_book.specs.Laws.{WasCarried}
use Rattle.version_book.proofs.KeptEntries.{kept_was_carried, own_entries}
use Rattle.air_laws.specs.Counting.{IsReadable, CanBeHeard}
use Rattle.publication.specs.Parts.{own_guide, remote_guide}
use Rattle.publication.specs.Tables.{tables_of}
use Rattle.publication.proofs.CountedFacts.{remotes_named}
use Rattle.publication.proofs.FitFacts.{each_pmt, each_sub_table}
use Rattle.journal_model.specs.declared.step.Entry.{Entry}
use Rattle.desk_core.specs.Journal.{Legal}
use Rattle.desk_core.specs.Publications.{publication, swaps}
use Rattle.journal_air.specs.Air.{airings}
use Rattle.journal_air.specs.Laws.{HasTypedEdits}
use Rattle.journal_air.proofs.CarryFacts.{each_airing, airings_heard}
use Rattle.desk_checkpoint.specs.Laws.{IsSectionWritten, IsKeyWritten}
use Rattle.desk_checkpoint.specs.Text.{HasByteBodies, HasByteContent}
use Rattle.epg_play.specs.NeverRefused.{KeysAreWritten}

-- ---- keys that stand in the table of PIDs and table_ids

record IsListedTable (t : SubTable) : Type 0 where
  listed : is_listed t.key ≡ true
  stream : t.key.stream ≤ 65535
  network : t.key.network ≤ 65535

id_small : (n : ℕ) → n < 65536 → n ≤ 65535
id_small n less = omega (arith, less)

-- the schedules of services of other streams
remote_listed : (table ext stream network : ℕ) → 0x60 ≤ table → table < 0x70 → is_listed (record { pid = 0x0012; table = table; ext = ext; stream = stream; network = network }) ≡ true
remote_listed table ext stream network above below =
    ap (λ (naming : Option Naming). unwrap_or (option_map (λ n. is_named n (record { pid = 0x0012; table = table; ext = ext; stream = stream; network = network })) naming) false)
    (remotes_named table above below)

listed_tables : (mux : Mux) (guide : Guide) → IsSoundWithIds mux → AllByRecursion IsListedTable (tables_of mux guide)
listed_tables mux guide sound =
    let none : 0 ≤ 65535 = omega arith in
    let stream : mux.stream ≤ 65535 = omega (arith, sound.stream) in
    let network : mux.original ≤ 65535 = omega (arith, sound.original) in
    each_sub_table IsListedTable (λ s. Unit {0}) (λ o s. Unit {0}) HasStreamIds mux guide (each_unit (own_guide mux guide)) sound.others
    (record { listed = refl; stream = none; network = none })
    (each_pmt IsListedTable IsSoundService
    (λ s is. record { listed = pmt_listed s.pmt_pid s.service is.pmt_pid.0 is.pmt_pid.1; stream = none; network = none }) mux.services sound.sound.services)
    (record { listed = refl; stream = none; network = none })
    (record { listed = refl; stream = none; network = network })
    (λ s q. record { listed = refl; stream = stream; network = network })
    (λ s table q above below. record { listed = events_listed table s.service mux.stream mux.original above below; stream = stream; network = network })
    (record {
      sdt = λ o ids. record { listed = refl; stream = none; network = id_small o.original ids.original };
      parts = λ o ids. each_unit (remote_guide guide o);
      present = λ o s ids q. record { listed = refl; stream = id_small o.stream ids.stream; network = id_small o.original ids.original };
      schedule = λ o s table ids q above below. record {
        listed = remote_listed (table + 0x10) s.service o.stream o.original (omega (arith, above)) (omega (arith, below));
        stream = id_small o.stream ids.stream;
        network = id_small o.original ids.original;
      };
    })

-- ---- what is carried

-- a key and a content that can be written, but for the version and the bytes
record IsCarried (k : Key) (content : Content) : Type 0 where
  listed : is_listed k ≡ true
  ext : k.ext ≤ 65535
  stream : k.stream ≤ 65535
  network : k.network ≤ 65535
  some : 0 < length content
  ascend : Ascend content
  numbers : AllByRecursion (λ (s : NumberedBody). s.number ≤ 255) content
  short : AllByRecursion (λ (s : NumberedBody). length s.body ≤ 4084) content

-- ascending numbers, the last of 8 bits
low_numbers : (ss : List NumberedBody) → Ascend ss → last_number ss < 256 → AllByRecursion (λ (s : NumberedBody). s.number ≤ 255) ss
low_numbers [] ascend last = tt
low_numbers (s ∷ []) ascend last = (omega (arith, last), tt)
low_numbers (s ∷ t ∷ ss) ascend last = next (low_numbers (t ∷ ss) ascend.1 last)
  where
    next : AllByRecursion (λ (s : NumberedBody). s.number ≤ 255) (t ∷ ss) → AllByRecursion (λ (s : NumberedBody). s.number ≤ 255) (s ∷ t ∷ ss)
    next rest = (omega (arith, ascend.0, rest.0), rest)

at_most : (table : ℕ) → longest_body table ≤ 4084
at_most table = go (is_eit table)
  where
    go : (b : Bool) → (if b then 4084 else 1012) ≤ 4084
    go true = omega arith
    go false = omega arith

short_body : (n table : ℕ) → n ≤ longest_body table → n ≤ 4084
short_body n table le = omega (arith, le, at_most table)

abbrev IsCarriedTable : SubTable → Type 0
IsCarriedTable t = IsCarried t.key t.sections

abbrev IsReadAndListed : SubTable → Type 0
IsReadAndListed t = IsReadable t × IsListedTable t

of_table : (t : SubTable) → IsFit t → IsReadAndListed t → IsCarriedTable t
of_table t fit told = record {
  listed = told.1.listed;
  ext = omega (arith, told.0.ext);
  stream = told.1.stream;
  network = told.1.network;
  some = fit.some;
  ascend = fit.ascending;
  numbers = low_numbers t.sections fit.ascending told.0.last;
  short = all_map (λ (s : NumberedBody). length s.body ≤ longest_body t.key.table) (λ (s : NumberedBody). length s.body ≤ 4084)
      (λ s le. short_body (length s.body) t.key.table le) t.sections
      (recursion_from_All (λ (s : NumberedBody). length s.body ≤ longest_body t.key.table) t.sections fit.bodies);
}

abbrev AreListed : AiredTables → Type 0
AreListed a = AllByRecursion IsListedTable a.tables

abbrev CarriesSuch : AiredTables → Type 0
CarriesSuch a = AllByRecursion IsCarriedTable a.tables

of_airing : (a : AiredTables) → CanBeHeard a → AreListed a → CarriesSuch a
of_airing a can listed =
    all_two IsFit IsReadAndListed IsCarriedTable of_table a.tables (recursion_from_All IsFit a.tables can.fit)
    (all_two IsReadable IsListedTable IsReadAndListed (λ t read is. (read, is)) a.tables can.readable listed)

airings_carry : (mux : Mux) (journal : List Entry) → IsSoundWithIds mux → HasTypedEdits journal → Legal mux journal → AllByRecursion CarriesSuch (airings mux journal)
airings_carry mux journal sound typed legal =
    all_two CanBeHeard AreListed CarriesSuch of_airing (airings mux journal) (airings_heard mux journal sound typed legal)
    (each_airing AreListed mux journal (λ swap. listed_tables mux (publication mux journal swap.0) sound) (swaps journal))

of_content : (k : Key) (content : Content) (ts : List SubTable) → AllByRecursion IsCarriedTable ts → content_in k ts ≡ Some content → IsCarried k content
of_content k content [] all e = absurd cc
of_content k content (t ∷ ts) all e = go (is_key k t.key) refl e (of_content k content ts all.1)
  where
    go : (b : Bool) → is_key k t.key ≡ b → (if b then Some t.sections else content_in k ts) ≡ Some content → (content_in k ts ≡ Some content → IsCarried k content)
        → IsCarried k content
    go true is f rest =
        let same : t.sections ≡ content = cc in
        subst₂ IsCarried (sym (is_key-same k t.key is)) same all.0
    go false is f rest = rest f

of_carried : (past : List AiredTables) → AllByRecursion CarriesSuch past → (e : Key × GivenVersion) → WasCarried past e.0 e.1.content → IsCarried e.0 e.1.content
of_carried past all e (before, a, after, parts, at) =
    of_content e.0 e.1.content a.tables (all_at CarriesSuch before a after (subst (AllByRecursion CarriesSuch) parts all)) at

-- ---- what is kept

-- of a key it has a version of 5 bits
abbrev HasSmallVersion : Key × GivenVersion → Type 0
HasSmallVersion e = e.1.version < 32

small_after : (cs : List Content) (kept : GivenVersion) → kept_after cs ≡ Some kept → kept.version < 32
small_after [] kept e = absurd cc
small_after (c ∷ cs) kept e =
    let same : changes_after c cs % 32 ≡ kept.version = cc in
    omega (arith, same)

all_small : (past : List AiredTables) (all : GivenVersions) → BookStandsFor past all → (entries : GivenVersions)
    → AllByRecursion (λ (e : Key × GivenVersion). given_in e.0 all ≡ Some e.1) entries → AllByRecursion HasSmallVersion entries
all_small past all stands [] own = tt
all_small past all stands (e ∷ entries) own =
    (small_after (carried e.0 past) e.1 (sym (stands e.0) ∙ own.0), all_small past all stands entries own.1)

versions_small : (past : List AiredTables) (entries : GivenVersions) → AreOrdered entries → BookStandsFor past entries → AllByRecursion HasSmallVersion entries
versions_small past entries ordered stands = all_small past entries stands entries (own_entries entries entries ordered (λ k kept found. found))

sections_written : (ss : List NumberedBody) → AllByRecursion (λ (s : NumberedBody). s.number ≤ 255) ss
    → AllByRecursion (λ (s : NumberedBody). AllByRecursion (λ b. b < 256) s.body) ss → AllByRecursion (λ (s : NumberedBody). length s.body ≤ 4084) ss
    → AllByRecursion IsSectionWritten ss
sections_written [] numbers bytes short = tt
sections_written (s ∷ ss) numbers bytes short =
    (record { number = numbers.0; bytes = bytes.0; short = short.0 }, sections_written ss numbers.1 bytes.1 short.1)

key_written : (k : KeyVersion) → IsCarried k.key k.sections → k.version < 32 → HasByteContent (given_entry k) → IsKeyWritten (given_entry k)
key_written k is small bytes = record {
  listed = is.listed;
  ext = is.ext;
  stream = is.stream;
  network = is.network;
  version = small;
  some = λ e. absurd (omega (arith, is.some, ap length e));
  ascend = is.ascend;
  sections = sections_written k.sections is.numbers bytes is.short;
}

each_written : (keys : List KeyVersion) → AllByRecursion (λ (e : Key × GivenVersion). IsCarried e.0 e.1.content) (given_entries keys)
    → AllByRecursion HasSmallVersion (given_entries keys) → HasByteBodies (given_entries keys) → AllByRecursion IsKeyWritten (given_entries keys)
each_written [] are small bytes = tt
each_written (k ∷ keys) are small bytes = (key_written k are.0 small.0 bytes.0, each_written keys are.1 small.1 bytes.1)

pub keys_written : KeysAreWritten
keys_written mux journal keys sound typed legal stands ordered bytes =
    let past = airings mux journal in
    let entries = given_entries keys in
    let was = recursion_from_All (λ (e : Key × GivenVersion). WasCarried past e.0 e.1.content) entries (kept_was_carried past entries ordered stands) in
    let are = all_map (λ (e : Key × GivenVersion). WasCarried past e.0 e.1.content) (λ (e : Key × GivenVersion). IsCarried e.0 e.1.content)
    (of_carried past (airings_carry mux journal sound typed legal)) entries was in
    record { ordered = ordered; each = each_written keys are (versions_small past entries ordered stands) bytes }
