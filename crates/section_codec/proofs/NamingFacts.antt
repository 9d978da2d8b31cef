-- The tables that are heard, by the table of tables.
use Rattle.std.proofs.Common.{◌≡◌, ℕ, ◌≤◌, ◌<◌, Bool, true, false, ◌||◌, refl, ap, arith}
use Rattle.std.specs.Prelude.{Option, Some, None, is_some, option_map, unwrap_or, if◌then◌else◌}
use Rattle.std.proofs.lemmas.Bool.Decides.{nat_tests}
use Rattle.section_codec.specs.Tables.{is_pat, is_pmt, is_nit, is_sdt, is_events, naming_of, is_counted}
use Rattle.section_codec.specs.Keys.{is_named, is_listed}
use Rattle.section_codec.specs.declared.table.Key.{Key}
use Rattle.section_codec.specs.declared.table.Naming.{Naming}
use Rattle.section_codec.specs.declared.table.Naming.TheVariants.{Extension, Network, Stream}

abbrev has_extension : ℕ → ℕ → Bool
has_extension pid table = is_pat pid table || is_pmt pid table || is_nit pid table

abbrev named : Bool → Bool → Bool → Option Naming
named extension network stream = if extension then Some Extension else if network then Some Network else if stream then Some Stream else None

pub schedules_named : (table : ℕ) → 0x50 ≤ table → table < 0x60 → naming_of 0x0012 table ≡ Some Stream
schedules_named table above below =
    let is : is_events 0x0012 table ≡ true = grind (arith, nat_tests) in
    ap (named false false) is

pub pmts_named : (pid : ℕ) → 32 ≤ pid → pid ≤ 8190 → naming_of pid 0x02 ≡ Some Extension
pmts_named pid above below =
    let is : has_extension pid 0x02 ≡ true = grind (arith, nat_tests) in
    ap (λ (b : Bool). named b (is_sdt pid 0x02) (is_events pid 0x02)) is

pub schedules_counted : (table : ℕ) → 0x50 ≤ table → table < 0x60 → is_counted 0x0012 table ≡ true
schedules_counted table above below = ap is_some (schedules_named table above below)

pub pmts_counted : (pid : ℕ) → 32 ≤ pid → pid ≤ 8190 → is_counted pid 0x02 ≡ true
pmts_counted pid above below = ap is_some (pmts_named pid above below)

extension_range : (pid table : ℕ) → has_extension pid table ≡ true → (pid ≤ 8190) × (table ≤ 255)
extension_range pid table h = (grind (arith, nat_tests), grind (arith, nat_tests))

network_range : (pid table : ℕ) → is_sdt pid table ≡ true → (pid ≤ 8190) × (table ≤ 255)
network_range pid table h = (grind (arith, nat_tests), grind (arith, nat_tests))

stream_range : (pid table : ℕ) → is_events pid table ≡ true → (pid ≤ 8190) × (table ≤ 255)
stream_range pid table h = (grind (arith, nat_tests), grind (arith, nat_tests))

-- a table that counts has 8 bits, and its PID is below that of the null packets
pub counted_range : (pid table : ℕ) → is_counted pid table ≡ true → (pid ≤ 8190) × (table ≤ 255)
counted_range pid table = go (has_extension pid table) (is_sdt pid table) (is_events pid table) refl refl refl
  where
    go : (extension network stream : Bool) → has_extension pid table ≡ extension → is_sdt pid table ≡ network → is_events pid table ≡ stream
        → is_some (named extension network stream) ≡ true → (pid ≤ 8190) × (table ≤ 255)
    go true network stream a b c h = extension_range pid table a
    go false true stream a b c h = network_range pid table b
    go false false true a b c h = stream_range pid table c
    go false false false a b c h = cc

-- ---- keys that sub-tables can have

abbrev named_right : Key → Option Naming → Bool
named_right key naming = unwrap_or (option_map (λ n. is_named n key) naming) false

pub pmt_listed : (pid ext : ℕ) → 32 ≤ pid → pid ≤ 8190 → is_listed (record { pid = pid; table = 0x02; ext = ext; stream = 0; network = 0 }) ≡ true
pmt_listed pid ext above below =
    ap (named_right (record { pid = pid; table = 0x02; ext = ext; stream = 0; network = 0 })) (pmts_named pid above below)

pub events_listed : (table ext stream network : ℕ) → 0x50 ≤ table → table < 0x60
    → is_listed (record { pid = 0x0012; table = table; ext = ext; stream = stream; network = network }) ≡ true
events_listed table ext stream network above below =
    ap (named_right (record { pid = 0x0012; table = table; ext = ext; stream = stream; network = network })) (schedules_named table above below)

pub listed_range : (key : Key) → is_listed key ≡ true → (key.pid ≤ 8190) × (key.table ≤ 255)
listed_range key h = go (naming_of key.pid key.table) refl h
  where
    go : (naming : Option Naming) → naming_of key.pid key.table ≡ naming → named_right key naming ≡ true → (key.pid ≤ 8190) × (key.table ≤ 255)
    go None e h = cc
    go (Some naming) e h = counted_range key.pid key.table (ap is_some e)
