-- Airs are coherent.
use Rattle.std.proofs.Common.{◌≡◌, ℕ, ◌+◌, ◌-◌, ◌/◌, ◌≤◌, ◌⊎◌, inl, inr, List, [], ◌∷◌, ◌++◌, Bool, true, false, Option, Some, None, length, take, drop, map, refl, sym, ap, ◌∙◌, subst, arith, append_assoc, length-take}
use Rattle.std.specs.Prelude.{flat_map, slice_range}
use Rattle.std.specs.List.{AllByRecursion, cons_option}
use Rattle.std.proofs.lemmas.List.{map-append, take-map, drop-map, take-take, drop-take}
use Rattle.si_lists.proofs.Lists.{all_front}
use Rattle.si_lists.proofs.Parts.{le_either}
use Rattle.section_codec.specs.declared.table.Key.{Key}
use Rattle.section_codec.specs.Contents.{Content}
use Rattle.version_book.specs.Airings.{AiredTables, content_at, version_at}
use Rattle.ts_packets.specs.Bytes.{Packet, bytes_of_packet}
use Rattle.ts_demux.specs.Sections.{heard_all}
use Rattle.sub_collect.specs.Runs.{Counted, completed}
use Rattle.sub_collect.specs.Completions.{of_key, done_at, completion_at, completion, completions}
use Rattle.sub_collect.specs.declared.completed.Completed.{Completed}
use Rattle.sub_collect.proofs.OneContent.{completes-no-other}
use Rattle.section_codec.specs.Tables.{is_counted}
use Rattle.guide_receiver.specs.Dones.{counted_heard}
use Rattle.air_model.specs.Air.{Aired, air, airings_of, air_bytes}
use Rattle.air_model.specs.Repeating.{IsRepeatingAirOf}
use Rattle.air_model.proofs.Airs.{repeating-whole}
use Rattle.air_laws.specs.Counting.{CanBeHeard}
use Rattle.air_laws.proofs.HearingTold.{sent_of}
use Rattle.air_laws.specs.Joining.{count_before}
use Rattle.air_laws.proofs.Joined.{joined_by}
use Rattle.air_laws.proofs.Places.{has_packet}
use Rattle.ts_packets.specs.WholePackets.{AreWhole, whole_packets}
use Rattle.ts_packets.specs.Packets.{joined}
use Rattle.ts_packets.proofs.WholePackets.{whole_packets-front}
use Rattle.air_laws.specs.Coherence.{completed_of, IsAiredIn, IsCoherent}
use Rattle.air_laws.specs.CoherenceLaws.{AirIsCoherent, FrontIsCoherent}
use Rattle.air_laws.proofs.Counts.{key_heard, heard_of_key, counted_below, none_counts}
use Rattle.air_laws.proofs.CoherenceTold.{Told, section_of, told_by, sections_told, IsToldOf, each_told}
use Rattle.air_laws.proofs.Steady.{IsSteady, steady_told, steady_front, latest_of_told, IsRun, run_of_steady}

-- ---- the completions of steady sections

module _ (k : Key) (low high : ℕ) (all : List Aired) where
  -- a completion is of the airing of its last section
  pub record IsOfLast (d : Completed) : Type 0 where
    pub last : Told
    pub is : IsToldOf k low high all last
    pub key : d.key ≡ k
    pub sections : d.sections ≡ is.content
    pub version : d.version ≡ last.section.version

  of_run : (ts : List Told) (r : IsRun k low high all ts) (d : Completed) (o : Option Content) → completed (map section_of ts) ≡ o
      → completion_at (Some r.last.section) o ≡ Some d → IsOfLast d
  of_run ts r d None f e = cc
  of_run ts r d (Some c) f e =
      let same : done_at r.last.section c ≡ d = cc in
      record {
        last = r.last;
        is = r.is;
        key = ap (λ (x : Completed). x.key) (sym same) ∙ r.is.is.0.key;
        sections = ap (λ (x : Completed). x.sections) (sym same) ∙ completes-no-other k r.is.content r.is.numbered (map section_of ts) r.run c f;
        version = ap (λ (x : Completed). x.version) (sym same);
      }

  of_last : (ts : List Told) → AllByRecursion (IsToldOf k low high all) ts → IsSteady k ts → (d : Completed) → completion (map section_of ts) ≡ Some d → IsOfLast d
  of_last [] each steady d e = cc
  of_last (t ∷ ts) each steady d e =
      let r = run_of_steady k low high all t ts each steady in
      of_run (t ∷ ts) r d (completed (map section_of (t ∷ ts))) refl
      (ap (λ (o : Option Counted). completion_at o (completed (map section_of (t ∷ ts)))) (sym (latest_of_told (t ∷ ts) r.last r.latest)) ∙ e)

  pub each_completion : (P : Completed → Type 0) → ((d : Completed) → IsOfLast d → P d) → (done ts : List Told) → AllByRecursion (IsToldOf k low high all) (done ++ ts)
      → IsSteady k (done ++ ts) → AllByRecursion P (completions (map section_of done) (map section_of ts))
  each_completion P holds done [] each steady = tt
  each_completion P holds done (t ∷ ts) each steady =
      let next = done ++ t ∷ [] in
      let apart : done ++ t ∷ ts ≡ next ++ ts = sym (append_assoc done (t ∷ []) ts) in
      let each_next = subst (AllByRecursion (IsToldOf k low high all)) apart each in
      let steady_next = subst (IsSteady k) apart steady in
      let push : map section_of next ≡ map section_of done ++ t.section ∷ [] = map-append section_of done (t ∷ []) in
      let rest : AllByRecursion P (completions (map section_of done ++ t.section ∷ []) (map section_of ts)) =
      subst (λ (l : List Counted). AllByRecursion P (completions l (map section_of ts))) push (each_completion P holds next ts each_next steady_next) in
      here P holds next (all_front (IsToldOf k low high all) next ts each_next) (steady_front k next ts steady_next)
      (map section_of done ++ t.section ∷ []) push (completions (map section_of done ++ t.section ∷ []) (map section_of ts)) rest
      (completion (map section_of done ++ t.section ∷ [])) refl
    where
      here : (P : Completed → Type 0) → ((d : Completed) → IsOfLast d → P d) → (ts : List Told) → AllByRecursion (IsToldOf k low high all) ts → IsSteady k ts
          → (heard : List Counted) → map section_of ts ≡ heard → (others : List Completed) → AllByRecursion P others
          → (o : Option Completed) → completion heard ≡ o → AllByRecursion P (cons_option o others)
      here P holds ts each steady heard e others rest None f = rest
      here P holds ts each steady heard e others rest (Some d) f = (holds d (of_last ts each steady d (ap completion e ∙ f)), rest)

-- ---- an air

module _ (airings : List AiredTables) (xs : List Aired) (is : IsRepeatingAirOf airings xs) (can : AllByRecursion CanBeHeard airings) where
  pub cans : AllByRecursion CanBeHeard (airings_of xs)
  cans = subst (AllByRecursion CanBeHeard) (sym is.airings_are) can

  aired_in : (k : Key) (join end : ℕ) (d : Completed) → IsOfLast k (count_before k.pid (air xs) join) (count_before k.pid (air xs) end) xs d → IsAiredIn join end xs d
  aired_in k join end d l =
      let b : List Aired = l.last.before in
      let x : Aired = l.last.cycle in
      let joins : count_before k.pid (air xs) join ≡ count_before k.pid (air (b ++ x ∷ l.is.after)) join =
      ap (λ (ys : List Aired). count_before k.pid (air ys) join) l.is.cut in
      let ends : count_before k.pid (air xs) end ≡ count_before k.pid (air (b ++ x ∷ l.is.after)) end =
      ap (λ (ys : List Aired). count_before k.pid (air ys) end) l.is.cut in
      record {
        before = b;
        cycle = x;
        after = l.is.after;
        cut = l.is.cut;
        there =
            has_packet k.pid b l.is.after x join end (omega (arith, joins, l.is.reaches)) (omega (arith, ends, l.is.begins)) l.is.some
            (omega (arith, joins, ends, l.is.order));
        content = ap (λ (q : Key). content_at q x.airing) l.key ∙ l.is.carries ∙ ap (λ (c : Content). Some c) (sym l.sections);
        version = ap (λ (q : Key). version_at q (airings_of b ++ x.airing ∷ [])) l.key ∙ sym l.is.is.1 ∙ sym l.version;
      }

  none_completed : (k : Key) (packets : List (List ℕ)) (P : Completed → Type 0) → is_counted k.pid k.table ≡ false → AllByRecursion P (completed_of k packets)
  none_completed k packets P other =
      subst (λ (ss : List Counted). AllByRecursion P (completions [] ss)) (sym (none_counts k other (heard_all [] packets))) tt

  -- what is heard of a part, each section with its cycle
  abbrev pub part_heard : (k : Key) → is_counted k.pid k.table ≡ true → ℕ → ℕ → List Told
  part_heard k counted join end = told_by k (counted_below k.pid k.table counted) [] [] xs is.cycles (count_before k.pid (air xs) join) (count_before k.pid (air xs) end)

  pub part_sections : (k : Key) (counted : is_counted k.pid k.table ≡ true) (join end : ℕ)
      → of_key k (counted_heard (map bytes_of_packet (slice_range (air xs) join end))) ≡ map section_of (part_heard k counted join end)
  part_sections k counted join end =
      heard_of_key k (map bytes_of_packet (slice_range (air xs) join end))
      ∙ ap (key_heard k) (joined_by airings xs is (sent_of airings can) k.pid (counted_below k.pid k.table counted) join end)
      ∙ sym (sections_told k (counted_below k.pid k.table counted) [] [] xs is.cycles (count_before k.pid (air xs) join) (count_before k.pid (air xs) end))

  pub part_each : (k : Key) (counted : is_counted k.pid k.table ≡ true) (join end : ℕ) → AllByRecursion (IsToldOf k (count_before k.pid (air xs) join) (count_before k.pid (air xs) end) xs) (part_heard k counted join end)
  part_each k counted join end =
      let low : ℕ = count_before k.pid (air xs) join in
      let high : ℕ = count_before k.pid (air xs) end in
      each_told k (counted_below k.pid k.table counted) low high xs [] [] xs is.cycles cans refl refl low high (whole low) (whole high)
    where
      whole : (n : ℕ) → n ≡ n - 0
      whole n = omega arith

  pub coherent_in : (join end : ℕ) (k : Key) (b : Bool) → is_counted k.pid k.table ≡ b
      → AllByRecursion (IsAiredIn join end xs) (completed_of k (map bytes_of_packet (slice_range (air xs) join end)))
  coherent_in join end k false e = none_completed k (map bytes_of_packet (slice_range (air xs) join end)) (IsAiredIn join end xs) e
  coherent_in join end k true e =
      let low : ℕ = count_before k.pid (air xs) join in
      let high : ℕ = count_before k.pid (air xs) end in
      subst (λ (ss : List Counted). AllByRecursion (IsAiredIn join end xs) (completions [] ss)) (sym (part_sections k e join end))
      (each_completion k low high xs (IsAiredIn join end xs) (aired_in k join end) [] (part_heard k e join end)
      (part_each k e join end) (steady_told k (counted_below k.pid k.table e) e [] [] xs is.cycles cans low high))

-- ---- a front of an air

pub front_part : {X : Type 0} (n join end : ℕ) (l : List X) → end ≤ n → slice_range (take n l) join end ≡ slice_range l join end
front_part n join end l le = go (le_either join n)
  where
    go : (join ≤ n) ⊎ (n ≤ join) → slice_range (take n l) join end ≡ slice_range l join end
    go (inl few) =
        let sum : n ≡ join + (n - join) = omega (arith, few) in
        let fewer : end - join ≤ n - join = omega (arith, le) in
        ap (λ m. take (end - join) (drop join (take m l))) sum ∙ ap (take (end - join)) (drop-take join (n - join) l)
        ∙ take-take (end - join) (n - join) (drop join l) fewer
    go (inr more) =
        let none : end - join ≡ 0 = omega (arith, le, more) in
        ap (λ m. take m (drop join (take n l))) none ∙ sym (ap (λ m. take m (drop join l)) none)

pub part-map : {X Y : Type 0} (f : X → Y) (join end : ℕ) (l : List X) → slice_range (map f l) join end ≡ map f (slice_range l join end)
part-map f join end l = ap (take (end - join)) (drop-map f join l) ∙ take-map f (end - join) (drop join l)

pub air_is_coherent : AirIsCoherent
air_is_coherent airings xs is can n join end le k =
    let l : List (List ℕ) = map bytes_of_packet (air xs) in
    let few : end ≤ n = omega (arith, le, length-take n l) in
    subst (λ (ps : List (List ℕ)). AllByRecursion (IsAiredIn join end xs) (completed_of k ps))
    (sym (front_part n join end l few ∙ part-map bytes_of_packet join end (air xs)))
    (coherent_in airings xs is can join end k (is_counted k.pid k.table) refl)

pub packets_whole : (ps : List Packet) → AllByRecursion (λ (p : Packet). length (bytes_of_packet p) ≡ 188) ps → AreWhole (map bytes_of_packet ps)
packets_whole [] all = tt
packets_whole (p ∷ ps) all = (all.0, packets_whole ps all.1)

pub packets_joined : (ps : List Packet) → flat_map bytes_of_packet ps ≡ joined (map bytes_of_packet ps)
packets_joined [] = refl
packets_joined (p ∷ ps) = ap (λ (t : List ℕ). bytes_of_packet p ++ t) (packets_joined ps)

pub front_packets : (airings : List AiredTables) (xs : List Aired) → IsRepeatingAirOf airings xs → (n : ℕ) → whole_packets (take n (air_bytes xs)) ≡ take (n / 188) (map bytes_of_packet (air xs))
front_packets airings xs is n =
    ap (λ (bytes : List ℕ). whole_packets (take n bytes)) (packets_joined (air xs))
    ∙ whole_packets-front (map bytes_of_packet (air xs)) n (packets_whole (air xs) (repeating-whole airings xs is))

pub front_is_coherent : FrontIsCoherent
front_is_coherent airings xs is can n = subst (IsCoherent xs) (sym (front_packets airings xs is n)) (air_is_coherent airings xs is can (n / 188))
