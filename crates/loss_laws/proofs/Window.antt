-- What is held of a part of an air is of one airing.
use Rattle.std.proofs.Common.{◌≡◌, ◌≢◌, ℕ, ◌/◌, ◌≤◌, List, [], ◌∷◌, ◌++◌, Bool, true, false, Some, map, refl, sym, ap, ◌∙◌, subst, arith, length-take}
use Rattle.std.specs.Prelude.{slice_range}
use Rattle.std.specs.List.{AllByRecursion}
use Rattle.section_codec.specs.declared.table.Key.{Key}
use Rattle.section_codec.specs.Contents.{Content}
use Rattle.section_codec.specs.Tables.{is_counted}
use Rattle.version_book.specs.Airings.{AiredTables}
use Rattle.ts_packets.specs.Bytes.{bytes_of_packet}
use Rattle.ts_demux.specs.Sections.{heard_all}
use Rattle.sub_collect.specs.Runs.{Counted, run_of}
use Rattle.sub_collect.specs.Completions.{of_key, completions, latest_done}
use Rattle.sub_collect.specs.Marks.{Taken, since_mark, latest_over, all_took}
use Rattle.sub_collect.specs.Parts.{held, part_of}
use Rattle.sub_collect.specs.declared.completed.Completed.{Completed}
use Rattle.sub_collect.proofs.Marking.{mark_free}
use Rattle.sub_collect.proofs.MarksShown.{sections-free}
use Rattle.guide_receiver.specs.Dones.{counted_heard}
use Rattle.air_model.specs.Air.{Aired, air}
use Rattle.air_model.specs.Repeating.{IsRepeatingAirOf}
use Rattle.air_laws.specs.Counting.{CanBeHeard}
use Rattle.air_laws.specs.Joining.{count_before}
use Rattle.air_laws.proofs.Places.{has_packet}
use Rattle.air_laws.proofs.Counts.{counted_below, none_counts}
use Rattle.air_laws.proofs.CoherenceTold.{Told, section_of, IsToldOf}
use Rattle.air_laws.proofs.Steady.{IsSteady, steady_told}
use Rattle.air_laws.proofs.Coherent.{IsOfLast, each_completion, cans, part_sections, part_each, front_part, part-map, front_packets}
use Rattle.air_laws.proofs.Coherent.{part_heard as told_heard}
use Rattle.loss_laws.specs.Aired.{IsPartAiredIn, part_heard, HasCoherentParts}
use Rattle.loss_laws.specs.PartLaws.{PartIsOfOneAiring, FrontPartIsOfOneAiring}
use Rattle.loss_laws.proofs.Held.{IsHeldOf, held_of_run, held_of_done, part_either, none_held_of, latest_is}

module _ (airings : List AiredTables) (xs : List Aired) (is : IsRepeatingAirOf airings xs) (can : AllByRecursion CanBeHeard airings) (join end : ℕ) (k : Key) where
  abbrev low : ℕ
  low = count_before k.pid (air xs) join

  abbrev high : ℕ
  high = count_before k.pid (air xs) end

  abbrev packets : List (List ℕ)
  packets = map bytes_of_packet (slice_range (air xs) join end)

  abbrev past : List Taken
  past = all_took (counted_heard packets)

  -- an airing of which the places of the PID have a section has a packet there
  aired_in : (part : Content) → IsHeldOf k low high xs part → IsPartAiredIn join end xs k part
  aired_in part h =
      let b : List Aired = h.last.before in
      let x : Aired = h.last.cycle in
      let joins : low ≡ count_before k.pid (air (b ++ x ∷ h.is.after)) join =
      ap (λ (ys : List Aired). count_before k.pid (air ys) join) h.is.cut in
      let ends : high ≡ count_before k.pid (air (b ++ x ∷ h.is.after)) end =
      ap (λ (ys : List Aired). count_before k.pid (air ys) end) h.is.cut in
      record {
        before = b;
        cycle = x;
        after = h.is.after;
        content = h.is.content;
        cut = h.is.cut;
        there =
            has_packet k.pid b h.is.after x join end (omega (arith, joins, h.is.reaches)) (omega (arith, ends, h.is.begins)) h.is.some
            (omega (arith, joins, ends, h.is.order));
        carries = h.is.carries;
        some = h.some;
      }

  module _ (counted : is_counted k.pid k.table ≡ true) where
    abbrev told : List Told
    told = told_heard airings xs is can k counted join end

    sections_are : of_key k (counted_heard packets) ≡ map section_of told
    sections_are = part_sections airings xs is can k counted join end

    each : AllByRecursion (IsToldOf k low high xs) told
    each = part_each airings xs is can k counted join end

    steady : IsSteady k told
    steady = steady_told k (counted_below k.pid k.table counted) counted [] [] xs is.cycles (cans airings xs is can) low high

    of_done : (d : Completed) → latest_over k past ≡ Some d → IsHeldOf k low high xs d.sections
    of_done d e =
        let dones : List Completed = completions [] (map section_of told) in
        let latest : latest_done dones ≡ Some d =
        ap (λ (ss : List Counted). latest_done (completions [] ss)) (sym sections_are) ∙ sym (mark_free k (counted_heard packets)).1 ∙ e in
        held_of_done k low high xs d
        (latest_is (IsOfLast k low high xs) dones d (each_completion k low high xs (IsOfLast k low high xs) (λ c l. l) [] told each steady) latest)

    of_run : held (run_of (since_mark k past)) ≢ [] → IsHeldOf k low high xs (held (run_of (since_mark k past)))
    of_run =
        subst (λ (ss : List Counted). held (run_of ss) ≢ [] → IsHeldOf k low high xs (held (run_of ss)))
        (sym ((mark_free k (counted_heard packets)).0 ∙ sections_are)) (held_of_run k low high xs told each steady)

    counted_part : part_of k past ≢ [] → IsPartAiredIn join end xs k (part_of k past)
    counted_part present = aired_in (part_of k past) (part_either (IsHeldOf k low high xs) k past of_done of_run present)

  part_in_window : part_of k past ≢ [] → IsPartAiredIn join end xs k (part_of k past)
  part_in_window present = go (is_counted k.pid k.table) refl
    where
      go : (b : Bool) → is_counted k.pid k.table ≡ b → IsPartAiredIn join end xs k (part_of k past)
      go true e = counted_part e present
      go false e =
          absurd (present (none_held_of k past (ap (of_key k) (sections-free (counted_heard packets)) ∙ none_counts k e (heard_all [] packets))))

pub part_is_of_one : PartIsOfOneAiring
part_is_of_one airings xs is can n join end le k =
    let l : List (List ℕ) = map bytes_of_packet (air xs) in
    let few : end ≤ n = omega (arith, le, length-take n l) in
    subst (λ (ps : List (List ℕ)). part_heard k ps ≢ [] → IsPartAiredIn join end xs k (part_heard k ps))
    (sym (front_part n join end l few ∙ part-map bytes_of_packet join end (air xs)))
    (part_in_window airings xs is can join end k)

pub front_part_is_of_one : FrontPartIsOfOneAiring
front_part_is_of_one airings xs is can n = subst (HasCoherentParts xs) (sym (front_packets airings xs is n)) (part_is_of_one airings xs is can (n / 188))
