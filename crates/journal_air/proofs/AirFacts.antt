-- What a publication builds can be sent, and what sending a cycle leaves.
use Rattle.std.proofs.Common.{◌≡◌, ℕ, ◌<◌, List, [], ◌∷◌, ◌++◌, length, map, take, refl, sym, ap, ◌∙◌, subst, arith, length-append, append_assoc}
use Rattle.std.specs.Prelude.{flat_map, Option}
use Rattle.std.specs.Io.KnownBytes.{Appends}
use Rattle.std.proofs.lemmas.List.{take-append-le}
use Rattle.guide_model.specs.declared.guide.ServiceGuide.{ServiceGuide}
use Rattle.mux_model.specs.Fed.{fed_ids}
use Rattle.mux_model.specs.declared.mux.Mux.{Mux}
use Rattle.section_codec.specs.declared.table.SubTable.{SubTable}
use Rattle.version_book.specs.Airings.{CycleForm, AiredTables}
use Rattle.version_book.specs.Book.{aired}
use Rattle.ts_packets.specs.Bytes.{Packet, bytes_of_packet}
use Rattle.air_model.specs.Air.{Aired, airings_of}
use Rattle.cycle_player.specs.Airs.{cycle_at, IsAirAt}
use Rattle.cycle_player.specs.Sending.{Sending, AtEnd, GaveUp}
use Rattle.cycle_player.proofs.Ends.{within_air}
use Rattle.publication.specs.Tables.{HasServicesOf, tables_of}
use Rattle.journal_air.proofs.Published.{published_services}
use Rattle.desk_core.specs.declared.airing.Airing.{Airing}
use Rattle.desk_core.specs.Publications.{last_aired}
use Rattle.desk_core.specs.Desks.{DeskState, on_air_of}
use Rattle.journal_air.specs.OnAir.{airing_by, airing_on, cycle_bytes}

-- ---- the sub-tables of a publication

-- what is on air at a desk has the services of its multiplex
pub on_air_services : (desk : DeskState) (mux : Mux) (on : Airing) → mux ≡ desk.mux → on ≡ on_air_of desk → HasServicesOf mux on.guide
on_air_services desk mux on m e =
    ap (λ (o : Airing). map (λ (s : ServiceGuide). s.service) o.guide.services) e
    ∙ published_services desk.mux desk.entries (last_aired desk.mux desk.entries).0
    ∙ ap fed_ids (sym m)

-- ---- a cycle

-- the airing of sub-tables that were built
pub airing_sent : (mux : Mux) (form : CycleForm) (inside on : Airing) (tables : List SubTable) → inside ≡ on → tables ≡ tables_of mux inside.guide → aired tables inside.moment.0 form ≡ airing_by mux form on
airing_sent mux form inside on tables e t = ap (λ (ts : List SubTable). aired ts inside.moment.0 form) t ∙ ap (airing_by mux form) e

-- the airing of a desk by what its calls gave
pub airing_is : (desk : DeskState) (on : Airing) (mux : Mux) (form : CycleForm) → on ≡ on_air_of desk → mux ≡ desk.mux → airing_by mux form on ≡ airing_on desk form
airing_is desk on mux form e m = ap (λ (m : Mux). airing_by m form on) m ∙ ap (airing_by desk.mux form) e

joined_bytes : (xs ys : List Packet) → flat_map bytes_of_packet (xs ++ ys) ≡ flat_map bytes_of_packet xs ++ flat_map bytes_of_packet ys
joined_bytes [] ys = refl
joined_bytes (x ∷ xs) ys = ap (λ l. bytes_of_packet x ++ l) (joined_bytes xs ys) ∙ sym (append_assoc (bytes_of_packet x) (flat_map bytes_of_packet xs) (flat_map bytes_of_packet ys))

-- a cycle was sent whole
pub cycle_sent : (rate : Option ℕ) (xs : List Aired) (x : Aired) (a b : AiredTables) (player : Sending) (old new : Option (List ℕ)) → player.rate ≡ rate
    → x.airing ≡ b → x.packets ≡ cycle_at rate xs b → b ≡ a
    → AtEnd (xs ++ x ∷ []) player → Appends old new (flat_map bytes_of_packet x.packets)
    → (x' : Aired) × (x'.airing ≡ a) × (x'.packets ≡ cycle_at player.rate xs a) × AtEnd (xs ++ x' ∷ []) player × Appends old new (cycle_bytes x')
cycle_sent rate xs x a b player old new same e made f end bytes =
    (x, e ∙ f, made ∙ ap (cycle_at rate xs) f ∙ ap (λ (r : Option ℕ). cycle_at r xs a) (sym same), end, bytes)

-- a cycle was sent in part
pub cycle_cut : (rate : Option ℕ) (xs : List Aired) (x : Aired) (a b : AiredTables) (player : Sending) (old new : Option (List ℕ)) → player.rate ≡ rate
    → x.airing ≡ b → x.packets ≡ cycle_at rate xs b → b ≡ a → GaveUp xs x x.packets old new player
    → (x' : Aired) × (x'.airing ≡ a) × (x'.packets ≡ cycle_at player.rate xs a) × IsAirAt player.rate (airings_of (xs ++ x' ∷ [])) (xs ++ x' ∷ [])
    × ((n : ℕ) × (n < length (cycle_bytes x')) × Appends old new (take n (cycle_bytes x')))
cycle_cut rate xs x a b player old new same e made f (handed, left, parts, within, front) =
    let all : cycle_bytes x ≡ flat_map bytes_of_packet handed ++ flat_map bytes_of_packet left = ap (flat_map bytes_of_packet) parts ∙ joined_bytes handed left in (
      x,
      e ∙ f,
      made ∙ ap (cycle_at rate xs) f ∙ ap (λ (r : Option ℕ). cycle_at r xs a) (sym same),
      within_air xs x left player within,
      (
        front.0,
        omega (arith, front.1, ap length all, length-append (flat_map bytes_of_packet handed) (flat_map bytes_of_packet left)),
        subst (Appends old new) (sym (ap (take front.0) all ∙ take-append-le front.0 (flat_map bytes_of_packet handed) (flat_map bytes_of_packet left) (omega (arith, front.1)))) front.2,
      ),
    )
