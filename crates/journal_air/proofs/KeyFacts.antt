-- The keys of all airings of a journal.
use Rattle.std.proofs.Common.{◌≡◌, ℕ, zero, suc, ◌+◌, ◌*◌, ◌<◌, ◌≤◌, ◌==◌, ⊎_elim, List, [], ◌∷◌, ◌++◌, Bool, true, false, ◌||◌, length, map, refl, sym, ap, ◌∙◌, arith, length-append, eq-eqb, eqb-true}
use Rattle.std.specs.Prelude.{flat_map}
use Rattle.std.specs.List.{AllByRecursion, list_any, range_with_len}
use Rattle.std.specs.Set.{is_member}
use Rattle.std.proofs.Math.Bool.{or-true}
use Rattle.std.proofs.lemmas.Bool.{cases_eq}
use Rattle.std.proofs.lemmas.List.{length-map}
use Rattle.std.proofs.lemmas.List.Folds.{list_any-append}
use Rattle.std.proofs.lemmas.Map.Made.{distinct_count-le}
use Rattle.si_lists.proofs.Distinct.{distinct_count-within, is_member-within}
use Rattle.si_lists.proofs.Lists.{all_flat, all_map, all_to_map}
use Rattle.guide_model.specs.declared.guide.Guide.{Guide}
use Rattle.guide_model.specs.declared.guide.ServiceGuide.{ServiceGuide}
use Rattle.mux_model.specs.declared.mux.MuxService.{MuxService}
use Rattle.mux_model.specs.declared.mux.RemoteService.{RemoteService}
use Rattle.mux_model.specs.declared.mux.Other.{Other}
use Rattle.mux_model.specs.declared.mux.Mux.{Mux}
use Rattle.mux_model.specs.Sound.{remote_services}
use Rattle.section_codec.specs.declared.table.Key.{Key}
use Rattle.section_codec.specs.declared.table.SubTable.{SubTable}
use Rattle.section_codec.specs.KeyOrder.{is_key}
use Rattle.section_codec.proofs.KeyOrderFacts.{is_key-itself}
use Rattle.publication.specs.Eit.{bearer_key, eit_key}
use Rattle.sub_collect.proofs.KeyCounts.{key_laws}
use Rattle.version_book.specs.Airings.{AiredTables}
use Rattle.air_laws.specs.Sending.{carried_keys}
use Rattle.publication.specs.Tables.{sdt_key, other_sdt_key, bearer_of, tables_of}
use Rattle.publication.specs.Programs.{pat_key, pmt_key}
use Rattle.publication.specs.Network.{nit_key}
use Rattle.publication.proofs.FitFacts.{each_pmt, each_sub_table}
use Rattle.publication.proofs.PartFacts.{by_ids, by_remote_ids}
use Rattle.desk_core.specs.Publications.{publication, swaps}
use Rattle.journal_air.specs.Air.{airings}
use Rattle.journal_air.specs.Laws.{AiringsHaveFewKeys}
use Rattle.journal_air.proofs.CarryFacts.{each_airing}

-- ---- the keys of a multiplex

abbrev service_ids : Mux → List ℕ
service_ids mux = map (λ (s : MuxService). s.service) mux.services

-- those of the event information of a service
abbrev event_keys : Mux → ℕ → List Key
event_keys mux service = eit_key mux 0x4E service ∷ map (λ table. eit_key mux table service) (range_with_len 0x50 16)

abbrev all_events : Mux → List Key
all_events mux = flat_map (event_keys mux) (service_ids mux)

-- those of a service of another stream, and all of that stream
abbrev remote_keys : Other → ℕ → List Key
remote_keys o service = bearer_key (bearer_of o) 0x4F service ∷ map (λ table. bearer_key (bearer_of o) table service) (range_with_len 0x60 16)

abbrev remote_ids : Other → List ℕ
remote_ids o = map (λ (s : RemoteService). s.service) o.services

abbrev other_keys : Other → List Key
other_keys o = other_sdt_key o ∷ flat_map (remote_keys o) (remote_ids o)

abbrev all_others : Mux → List Key
all_others mux = flat_map other_keys mux.others

abbrev behind_pmts : Mux → List Key
behind_pmts mux = nit_key mux ∷ sdt_key mux ∷ (all_events mux ++ all_others mux)

abbrev behind_pat : Mux → List Key
behind_pat mux = map pmt_key mux.services ++ behind_pmts mux

abbrev mux_keys : Mux → List Key
mux_keys mux = pat_key mux ∷ behind_pat mux

event_size : (mux : Mux) (ns : List ℕ) → length (flat_map (event_keys mux) ns) ≡ 17 * length ns
event_size mux [] = refl
event_size mux (n ∷ ns) =
    let rest = event_size mux ns in
    let parts = length-append (event_keys mux n) (flat_map (event_keys mux) ns) in
    omega (arith, rest, parts)

remote_size : (o : Other) (ns : List ℕ) → length (flat_map (remote_keys o) ns) ≡ 17 * length ns
remote_size o [] = refl
remote_size o (n ∷ ns) =
    let rest = remote_size o ns in
    let parts = length-append (remote_keys o n) (flat_map (remote_keys o) ns) in
    omega (arith, rest, parts)

others_size : (os : List Other) → length (flat_map other_keys os) ≡ length os + 17 * length (remote_services os)
others_size [] = refl
others_size (o ∷ os) =
    let rest = others_size os in
    let here = remote_size o (remote_ids o) in
    let ids = length-map o.services (λ (s : RemoteService). s.service) in
    let keys = length-append (other_keys o) (flat_map other_keys os) in
    let services = length-append o.services (remote_services os) in
    omega (arith, rest, here, ids, keys, services)

mux_size : (mux : Mux) → length mux.services ≤ 64 → length mux.others ≤ 15 → length (remote_services mux.others) ≤ 64 → length (mux_keys mux) ≤ 2258
mux_size mux few few_others few_remotes =
    let events = event_size mux (service_ids mux) in
    let others = others_size mux.others in
    let ids = length-map mux.services (λ (s : MuxService). s.service) in
    let pmts = length-map mux.services pmt_key in
    let parts = length-append (map pmt_key mux.services) (behind_pmts mux) in
    let later = length-append (all_events mux) (all_others mux) in
    omega (arith, few, few_others, few_remotes, events, others, ids, pmts, parts, later)

-- ---- keys among others

at_front : (k : Key) (ks : List Key) → is_member is_key (k ∷ ks) k ≡ true
at_front k ks = ap (λ b. b || is_member is_key ks k) (is_key-itself k)

behind_one : (x : Key) (ks : List Key) (k : Key) → is_member is_key ks k ≡ true → is_member is_key (x ∷ ks) k ≡ true
behind_one x ks k there = ap (λ b. is_key k x || b) there ∙ or-true (is_key k x)

in_first : (xs ys : List Key) (k : Key) → is_member is_key xs k ≡ true → is_member is_key (xs ++ ys) k ≡ true
in_first xs ys k there = list_any-append (is_key k) xs ys ∙ ap (λ b. b || is_member is_key ys k) there

in_second : (xs ys : List Key) (k : Key) → is_member is_key ys k ≡ true → is_member is_key (xs ++ ys) k ≡ true
in_second xs ys k there = list_any-append (is_key k) xs ys ∙ ap (λ b. is_member is_key xs k || b) there ∙ or-true (is_member is_key xs k)

-- a table of a range of them
in_range : (f : ℕ → Key) (from count n : ℕ) → from ≤ n → n < from + count → is_member is_key (map f (range_with_len from count)) (f n) ≡ true
in_range f from zero n above below = absurd (omega (arith, above, below))
in_range f from (suc count) n above below = ⊎_elim
    (λ (e : n ≡ from). ap (λ m. is_member is_key (map f (range_with_len from (suc count))) (f m)) e ∙ at_front (f from) (map f (range_with_len (from + 1) count)))
    (λ other. behind_one (f from) (map f (range_with_len (from + 1) count)) (f n) (in_range f (from + 1) count n (omega (arith, above, other)) (omega (arith, below))))
    (cases_eq n from)

-- those of one service among those of all
in_flat : (f : ℕ → List Key) (k : Key) (n : ℕ) (ns : List ℕ) → list_any (λ m. n == m) ns ≡ true → is_member is_key (f n) k ≡ true → is_member is_key (flat_map f ns) k ≡ true
in_flat f k n [] is there = cc
in_flat f k n (m ∷ ns) is there = go (n == m) refl is (λ e. in_flat f k n ns e there)
  where
    go : (b : Bool) → (n == m) ≡ b → (b || list_any (λ o. n == o) ns) ≡ true → (list_any (λ o. n == o) ns ≡ true → is_member is_key (flat_map f ns) k ≡ true)
        → is_member is_key (f m ++ flat_map f ns) k ≡ true
    go true e h rest = in_first (f m) (flat_map f ns) k (ap (λ o. is_member is_key (f o) k) (sym (eqb-true n m e)) ∙ there)
    go false e h rest = in_second (f m) (flat_map f ns) k (rest h)

-- each of some services has one of their ids
own_ids : (ss : List MuxService) → AllByRecursion (λ (s : MuxService). list_any (λ m. s.service == m) (map (λ (t : MuxService). t.service) ss) ≡ true) ss
own_ids [] = tt
own_ids (s ∷ ss) = (
  ap (λ b. b || list_any (λ m. s.service == m) (map (λ (t : MuxService). t.service) ss)) (eq-eqb s.service s.service refl),
  all_map (λ (t : MuxService). list_any (λ m. t.service == m) (map (λ (u : MuxService). u.service) ss) ≡ true)
      (λ (t : MuxService). list_any (λ m. t.service == m) (map (λ (u : MuxService). u.service) (s ∷ ss)) ≡ true)
      (λ t e. ap (λ b. (t.service == s.service) || b) e ∙ or-true (t.service == s.service)) ss (own_ids ss),
)

own_keys : (ss : List MuxService) → AllByRecursion (λ (s : MuxService). is_member is_key (map pmt_key ss) (pmt_key s) ≡ true) ss
own_keys [] = tt
own_keys (s ∷ ss) = (
  at_front (pmt_key s) (map pmt_key ss),
  all_map (λ (t : MuxService). is_member is_key (map pmt_key ss) (pmt_key t) ≡ true) (λ (t : MuxService). is_member is_key (map pmt_key (s ∷ ss)) (pmt_key t) ≡ true)
      (λ t e. behind_one (pmt_key s) (map pmt_key ss) (pmt_key t) e) ss (own_keys ss),
)

-- ---- a publication

abbrev IsOfMux : Mux → SubTable → Type 0
IsOfMux mux t = is_member is_key (mux_keys mux) t.key ≡ true

of_others : (mux : Mux) (k : Key) → is_member is_key (behind_pmts mux) k ≡ true → is_member is_key (mux_keys mux) k ≡ true
of_others mux k e = behind_one (pat_key mux) (behind_pat mux) k (in_second (map pmt_key mux.services) (behind_pmts mux) k e)

of_stream : (mux : Mux) (k : Key) → is_member is_key (all_others mux) k ≡ true → is_member is_key (mux_keys mux) k ≡ true
of_stream mux k e =
    of_others mux k
    (behind_one (nit_key mux) (sdt_key mux ∷ (all_events mux ++ all_others mux)) k
    (behind_one (sdt_key mux) (all_events mux ++ all_others mux) k (in_second (all_events mux) (all_others mux) k e)))

of_events : (mux : Mux) (k : Key) (n : ℕ) → list_any (λ m. n == m) (service_ids mux) ≡ true → is_member is_key (event_keys mux n) k ≡ true → is_member is_key (mux_keys mux) k ≡ true
of_events mux k n is e =
    of_others mux k
    (behind_one (nit_key mux) (sdt_key mux ∷ (all_events mux ++ all_others mux)) k
    (behind_one (sdt_key mux) (all_events mux ++ all_others mux) k (in_first (all_events mux) (all_others mux) k (in_flat (event_keys mux) k n (service_ids mux) is e))))

-- ---- other streams

-- the keys of this stream are among these
abbrev AreAmong : List Key → Other → Type 0
AreAmong ks o = (k : Key) → is_member is_key (other_keys o) k ≡ true → is_member is_key ks k ≡ true

others_among : (os : List Other) → AllByRecursion (AreAmong (flat_map other_keys os)) os
others_among [] = tt
others_among (o ∷ os) = (
  (λ k e. in_first (other_keys o) (flat_map other_keys os) k e),
  all_map (AreAmong (flat_map other_keys os)) (AreAmong (flat_map other_keys (o ∷ os))) (λ p among k e. in_second (other_keys o) (flat_map other_keys os) k (among k e)) os (others_among os),
)

-- each of their services has one of their ids
remotes_own : (ss : List RemoteService) → AllByRecursion (λ (s : RemoteService). list_any (λ m. s.service == m) (map (λ (t : RemoteService). t.service) ss) ≡ true) ss
remotes_own [] = tt
remotes_own (s ∷ ss) = (
  ap (λ b. b || list_any (λ m. s.service == m) (map (λ (t : RemoteService). t.service) ss)) (eq-eqb s.service s.service refl),
  all_map (λ (t : RemoteService). list_any (λ m. t.service == m) (map (λ (u : RemoteService). u.service) ss) ≡ true)
      (λ (t : RemoteService). list_any (λ m. t.service == m) (map (λ (u : RemoteService). u.service) (s ∷ ss)) ≡ true)
      (λ t e. ap (λ b. (t.service == s.service) || b) e ∙ or-true (t.service == s.service)) ss (remotes_own ss),
)

of_remotes : (mux : Mux) (o : Other) (k : Key) (n : ℕ) → AreAmong (all_others mux) o → list_any (λ m. n == m) (remote_ids o) ≡ true → is_member is_key (remote_keys o n) k ≡ true → is_member is_key (mux_keys mux) k ≡ true
of_remotes mux o k n among is e = of_stream mux k (among k (behind_one (other_sdt_key o) (flat_map (remote_keys o) (remote_ids o)) k (in_flat (remote_keys o) k n (remote_ids o) is e)))

pub published_keys : (mux : Mux) (guide : Guide) → AllByRecursion (IsOfMux mux) (tables_of mux guide)
published_keys mux guide =
    let pmts = map pmt_key mux.services in
    each_sub_table (IsOfMux mux) (λ (g : ServiceGuide). list_any (λ m. g.service == m) (service_ids mux) ≡ true)
    (λ (o : Other) (g : ServiceGuide). list_any (λ m. g.service == m) (remote_ids o) ≡ true) (AreAmong (all_others mux)) mux guide
    (by_ids (λ (n : ℕ). list_any (λ m. n == m) (service_ids mux) ≡ true) (λ (s : MuxService). list_any (λ m. s.service == m) (service_ids mux) ≡ true) (λ s e. e) mux guide (own_ids mux.services))
    (others_among mux.others)
    (at_front (pat_key mux) (behind_pat mux))
    (each_pmt (IsOfMux mux) (λ (s : MuxService). is_member is_key pmts (pmt_key s) ≡ true)
    (λ s e. behind_one (pat_key mux) (behind_pat mux) (pmt_key s) (in_first pmts (behind_pmts mux) (pmt_key s) e)) mux.services (own_keys mux.services))
    (of_others mux (nit_key mux) (at_front (nit_key mux) (sdt_key mux ∷ (all_events mux ++ all_others mux))))
    (of_others mux (sdt_key mux) (behind_one (nit_key mux) (sdt_key mux ∷ (all_events mux ++ all_others mux)) (sdt_key mux) (at_front (sdt_key mux) (all_events mux ++ all_others mux))))
    (λ g e. of_events mux (eit_key mux 0x4E g.service) g.service e (at_front (eit_key mux 0x4E g.service) (map (λ table. eit_key mux table g.service) (range_with_len 0x50 16))))
    (λ g table e above below. of_events mux (eit_key mux table g.service) g.service e
    (behind_one (eit_key mux 0x4E g.service) (map (λ t. eit_key mux t g.service) (range_with_len 0x50 16)) (eit_key mux table g.service)
    (in_range (λ t. eit_key mux t g.service) 0x50 16 table above (omega (arith, below)))))
    (record {
      sdt = λ o among. of_stream mux (other_sdt_key o) (among (other_sdt_key o) (at_front (other_sdt_key o) (flat_map (remote_keys o) (remote_ids o))));
      parts = λ o among.
          by_remote_ids (λ (n : ℕ). list_any (λ m. n == m) (remote_ids o) ≡ true) (λ (s : RemoteService). list_any (λ m. s.service == m) (remote_ids o) ≡ true) (λ s e. e) guide o (remotes_own o.services);
      present = λ o g among e.
          of_remotes mux o (bearer_key (bearer_of o) 0x4F g.service) g.service among e
          (at_front (bearer_key (bearer_of o) 0x4F g.service) (map (λ table. bearer_key (bearer_of o) table g.service) (range_with_len 0x60 16)));
      schedule = λ o g table among e above below.
          of_remotes mux o (bearer_key (bearer_of o) (table + 0x10) g.service) g.service among e
          (behind_one (bearer_key (bearer_of o) 0x4F g.service) (map (λ t. bearer_key (bearer_of o) t g.service) (range_with_len 0x60 16)) (bearer_key (bearer_of o) (table + 0x10) g.service)
          (in_range (λ t. bearer_key (bearer_of o) t g.service) 0x60 16 (table + 0x10) (omega (arith, above)) (omega (arith, below))));
    })

-- ---- all airings

abbrev CarriesOfMux : Mux → AiredTables → Type 0
CarriesOfMux mux a = AllByRecursion (IsOfMux mux) a.tables

pub airings_few : AiringsHaveFewKeys
airings_few mux journal sound =
    let each : AllByRecursion (CarriesOfMux mux) (airings mux journal) =
    each_airing (CarriesOfMux mux) mux journal (λ swap. published_keys mux (publication mux journal swap.0)) (swaps journal) in
    let among : AllByRecursion (λ (k : Key). is_member is_key (mux_keys mux) k ≡ true) (carried_keys (airings mux journal)) =
    all_flat (CarriesOfMux mux) (λ (k : Key). is_member is_key (mux_keys mux) k ≡ true) (λ (a : AiredTables). map (λ (t : SubTable). t.key) a.tables)
    (λ a e. all_to_map (λ (k : Key). is_member is_key (mux_keys mux) k ≡ true) (λ (t : SubTable). t.key) a.tables e) (airings mux journal) each in
    let within = distinct_count-within key_laws (carried_keys (airings mux journal)) (mux_keys mux) (is_member-within key_laws (mux_keys mux) (carried_keys (airings mux journal)) among) in
    let most = distinct_count-le is_key (mux_keys mux) in
    let size = mux_size mux sound.count.1 sound.others.few sound.others.few_services in
    omega (arith, within, most, size)
