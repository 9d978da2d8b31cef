-- The contents of what stays on air are heard, whatever was lost before.
use Rattle.std.proofs.Common.{◌≡◌, ℕ, ◌+◌, ◌-◌, ◌<◌, ◌≤◌, ◌⊎◌, inl, inr, List, [], ◌∷◌, ◌++◌, true, Option, Some, None, length, map, refl, sym, ap, ap₂, ◌∙◌, subst, arith, append_assoc, append-nil, length-append}
use Rattle.std.specs.Prelude.{flat_map, filter_map, option_map}
use Rattle.std.specs.Option.{option_or}
use Rattle.std.specs.List.{AllByRecursion}
use Rattle.std.proofs.lemmas.List.Concat.{flat_map-append}
use Rattle.si_lists.proofs.Lists.{all_map, two_fronts}
use Rattle.si_lists.proofs.Parts.{lt_or}
use Rattle.section_codec.specs.declared.table.Key.{Key}
use Rattle.section_codec.specs.declared.table.SubTable.{SubTable}
use Rattle.section_codec.specs.Contents.{Content}
use Rattle.version_book.specs.Airings.{AiredTables, content_at, content_in as content_among, version_at}
use Rattle.ts_packets.specs.Packets.{Carries}
use Rattle.ts_packets.specs.Bytes.{Packet, bytes_of_packet}
use Rattle.ts_packets.specs.Counting.{of_pid}
use Rattle.ts_demux.proofs.Parts.{within-none}
use Rattle.sub_collect.specs.Runs.{Counted}
use Rattle.sub_collect.specs.Completions.{completions, latest_done}
use Rattle.sub_collect.specs.declared.completed.Completed.{Completed}
use Rattle.section_codec.specs.Tables.{is_counted}
use Rattle.air_model.specs.Air.{Aired, sent_on, air, airings_of}
use Rattle.air_model.specs.Repeating.{IsRepeatingAirOf}
use Rattle.air_laws.specs.Counting.{CanBeHeard}
use Rattle.air_laws.proofs.Blocks.{numbered_of}
use Rattle.air_laws.proofs.Cycles.{length_groups, count_both}
use Rattle.air_laws.proofs.Counts.{key_heard, counted_below}
use Rattle.air_laws.proofs.CoherenceTold.{section_of}
use Rattle.air_laws.proofs.Steady.{some_heard}
use Rattle.air_laws.proofs.Coherent.{cans}
use Rattle.air_laws.proofs.Ends.{CarryWhileHeard, ends_whole, ends_completed}
use Rattle.air_laws.proofs.Contents.{cycle_at, can_at, last_content}
use Rattle.sub_collect.specs.Marks.{content_over}
use Rattle.strict_receiver.specs.Strict.{taken_of}
use Rattle.sub_collect.proofs.MarksShown.{latest-append}
use Rattle.loss_laws.specs.Thinned.{Fate, came_of, SomeCame, IsThinnedAir, CameWhole}
use Rattle.loss_laws.specs.ThinnedAirLaws.{ThinnedContentsAreHeard}
use Rattle.loss_laws.proofs.Lanes.{some_came, all_came}
use Rattle.loss_laws.proofs.Covers.{Found, find, cover_runs}
use Rattle.loss_laws.proofs.ByParts.{done_in}
use Rattle.loss_laws.proofs.Coherent.{came_in_run, own_lane, own_parts, own_covers, completions_are, told_in, told_each_in, steady_in, run_told, IsFromRun, each_from}

-- how many packets of a PID these cycles have, with this one behind them
abbrev pub start_on : ℕ → List Aired → ℕ
start_on pid before = length (of_pid pid (air before))

abbrev pub end_on : ℕ → List Aired → Aired → ℕ
end_on pid before x = length (of_pid pid (air before)) + length (of_pid pid x.packets)

start-behind : (pid : ℕ) (before : List Aired) (x : Aired) (one : List Aired) → start_on pid (before ++ x ∷ one) ≡ end_on pid before x + start_on pid one
start-behind pid before x one =
    let parts : air (before ++ x ∷ one) ≡ air before ++ (x.packets ++ air one) = flat_map-append (λ (z : Aired). z.packets) before (x ∷ one) in
    let counts = count_both pid (air before) (x.packets ++ air one) in
    let rest = count_both pid x.packets (air one) in
    ap (λ (l : List Packet). length (of_pid pid l)) parts ∙ (let e : length (of_pid pid (air before ++ (x.packets ++ air one))) ≡ end_on pid before x + start_on pid one = omega (arith, counts, rest) in e)

-- a cycle that reaches behind another stands behind it
behind_it : (pid : ℕ) (before : List Aired) (x : Aired) (after b : List Aired) (y : Aired) (a : List Aired) → before ++ x ∷ after ≡ b ++ y ∷ a → end_on pid before x < end_on pid b y
    → (one : List Aired) × (after ≡ one ++ y ∷ a) × (b ≡ before ++ x ∷ one)
behind_it pid before x after b y a e lt = go (two_fronts before (x ∷ after) b (y ∷ a) e)
  where
    Behind : Type 0
    Behind = (one : List Aired) × (after ≡ one ++ y ∷ a) × (b ≡ before ++ x ∷ one)

    -- it stands before the other, or is it
    earlier : (f : List Aired) → before ≡ b ++ f → y ∷ a ≡ f ++ x ∷ after → (one : List Aired) × (after ≡ one ++ y ∷ a) × (b ≡ before ++ x ∷ one)
    earlier [] p q =
        let same : y ≡ x = cc in
        let ends : end_on pid before x ≡ end_on pid b y = ap₂ (end_on pid) (p ∙ (let n : b ++ [] ≡ b = append-nil b in n)) (sym same) in
        absurd (let z : Prim.⊥ = omega (arith, ends, lt) in z)
    earlier (z ∷ f) p q =
        let same : y ≡ z = cc in
        let more : start_on pid before ≡ end_on pid b z + start_on pid f = ap (start_on pid) p ∙ start-behind pid b z f in
        let ends : end_on pid b y ≡ end_on pid b z = ap (end_on pid b) same in
        absurd (let bad : Prim.⊥ = omega (arith, more, ends, lt) in bad)

    later : (f : List Aired) → b ≡ before ++ f → x ∷ after ≡ f ++ y ∷ a → (one : List Aired) × (after ≡ one ++ y ∷ a) × (b ≡ before ++ x ∷ one)
    later [] p q =
        let same : x ≡ y = cc in
        let ends : end_on pid b y ≡ end_on pid before x = ap₂ (end_on pid) (p ∙ append-nil before) (sym same) in
        absurd (let z : Prim.⊥ = omega (arith, ends, lt) in z)
    later (z ∷ f) p q =
        let same : z ≡ x = cc in
        let rest : after ≡ f ++ y ∷ a = cc in
        (f, rest, p ∙ ap (λ (w : Aired). before ++ w ∷ f) same)

    go : ((f : List Aired) × (before ≡ b ++ f) × (y ∷ a ≡ f ++ x ∷ after)) ⊎ ((f : List Aired) × (b ≡ before ++ f) × (x ∷ after ≡ f ++ y ∷ a))
        → (one : List Aired) × (after ≡ one ++ y ∷ a) × (b ≡ before ++ x ∷ one)
    go (inl (f, p, q)) = earlier f p q
    go (inr (f, p, q)) = later f p q

-- the last of completions, where those behind some of a content are of it
abbrev sections_of : Option Completed → Option Content
sections_of o = option_map (λ (d : Completed). d.sections) o

last_is : (c : Content) (early here late : List Completed) → sections_of (latest_done here) ≡ Some c → AllByRecursion (λ (d : Completed). d.sections ≡ c) late
    → sections_of (latest_done (early ++ (here ++ late))) ≡ Some c
last_is c early here late e all =
    ap sections_of (latest-append early (here ++ late) ∙ ap (λ (o : Option Completed). option_or o (latest_done early)) (latest-append here late))
    ∙ go (latest_done late) refl (latest_done here) e
  where
    of_all : (ds : List Completed) (d : Completed) → AllByRecursion (λ (x : Completed). x.sections ≡ c) ds → latest_done ds ≡ Some d → d.sections ≡ c
    of_all [] d h f = cc
    of_all (x ∷ []) d h f = (let same : x ≡ d = cc in ap (λ (y : Completed). y.sections) (sym same) ∙ h.0)
    of_all (x ∷ y ∷ ds) d h f = of_all (y ∷ ds) d h.1 f

    go : (o : Option Completed) → latest_done late ≡ o → (p : Option Completed) → sections_of p ≡ Some c → sections_of (option_or (option_or o p) (latest_done early)) ≡ Some c
    go (Some d) f p g = ap (λ (s : Content). Some s) (of_all late d all f)
    go None f (Some d) g = g
    go None f None g = cc

module _ (airings : List AiredTables) (before : List Aired) (x : Aired) (after : List Aired) (is : IsRepeatingAirOf airings (before ++ x ∷ after)) (can : AllByRecursion CanBeHeard airings)
    (fates : List Fate) (thin : IsThinnedAir (before ++ x ∷ after) fates) (whole : CameWhole fates before x after)
    (k : Key) (counted : is_counted k.pid k.table ≡ true) (c : Content) (content : content_at k x.airing ≡ Some c) where
  abbrev xs : List Aired
  xs = before ++ x ∷ after

  abbrev low : ℕ
  low = start_on k.pid before

  abbrev high : ℕ
  high = end_on k.pid before x

  abbrev small : k.pid < 8191
  small = counted_below k.pid k.table counted

  all : AllByRecursion CanBeHeard (airings_of xs)
  all = cans airings xs is can

  -- the cycle has packets on the key's PID
  has_packets : low < high
  has_packets = go (lt_or 0 (length (of_pid k.pid x.packets)))
    where
      none : length (of_pid k.pid x.packets) ≤ 0 → Prim.⊥
      none le =
          let at = cycle_at [] before x after is.cycles in
          let own : Carries (of_pid k.pid x.packets) (filter_map (sent_on k.pid) at.1.sections) = at.1.carried k.pid small in
          let size : length own.groups ≡ length (of_pid k.pid x.packets) = length_groups (of_pid k.pid x.packets) (filter_map (sent_on k.pid) at.1.sections) own in
          some_heard k small counted at.0 x [] (at.1, tt) (can_at before x after all) c content 0 0 refl (let z : length own.groups ≤ 0 = omega (arith, size, le) in z)
          (ap (key_heard k) (within-none 0 0 own.groups (inl (let z : 0 ≤ 0 = omega arith in z))))

      go : (0 < length (of_pid k.pid x.packets)) ⊎ (length (of_pid k.pid x.packets) ≤ 0) → low < high
      go (inl some) = omega (arith, some)
      go (inr le) = absurd (none le)

  found : Found (own_lane airings xs is can fates thin k counted) (own_parts airings xs is can fates thin k counted) low high
  found =
      find (own_lane airings xs is can fates thin k counted) [] (own_lane airings xs is can fates thin k counted) (own_parts airings xs is can fates thin k counted) low high refl
      (own_covers airings xs is can fates thin k counted) (let z : 0 ≤ low = omega arith in z) has_packets
      (all_came k.pid fates before x after thin.all whole.whole)

  abbrev from : ℕ
  from = length found.before

  abbrev to : ℕ
  to = from + length found.here

  -- the cycles that the part reaches, behind this one, carry the content
  carry : CarryWhileHeard k small counted c (to - high) after
  carry one two y e some lt =
      let front : List Aired = before ++ x ∷ one in
      let cut : xs ≡ front ++ y ∷ two = ap (λ (l : List Aired). before ++ x ∷ l) e ∙ sym (append_assoc before (x ∷ one) (y ∷ two)) in
      let place = start-behind k.pid before x one in
      let came = came_in_run (own_lane airings xs is can fates thin k counted) found.before found.here found.after found.cut found.came (start_on k.pid front)
      (let z : from ≤ start_on k.pid front = omega (arith, place, found.from) in z) (let z : start_on k.pid front < to = omega (arith, place, lt) in z) in
      let there : SomeCame fates front y =
      some_came k.pid fates front y two (thin.all ∙ ap air cut) (start_on k.pid front) (let z : start_on k.pid front ≤ start_on k.pid front = omega arith in z)
      (let z : start_on k.pid front < end_on k.pid front y = omega (arith, some) in z) came in
      ap (λ (ts : List SubTable). content_among k ts) (whole.same one two y e there) ∙ content

  here : sections_of (latest_done (done_in k found.part)) ≡ Some c
  here =
      let ends = ends_whole k small counted c [] [] before x after is.cycles all content from to found.from found.up_to carry in
      let done = ends_completed k from to xs c (version_at k (airings_of before ++ x.airing ∷ [])) (told_in airings xs is can fates thin k counted from to)
      (numbered_of [] x.airing (can_at before x after all) k c content) (told_each_in airings xs is can fates thin k counted from to)
      (steady_in airings xs is can fates thin k counted from to) ends in
      ap (λ (ss : List Counted). sections_of (latest_done (completions [] ss)))
      (run_told airings xs is can fates thin k counted found.before found.here found.after found.part found.cut found.is)
      ∙ last_content (map section_of (told_in airings xs is can fates thin k counted from to)) c done

  -- a completion behind this part is of a cycle behind this one
  behind : (d : Completed) → IsFromRun airings xs is can fates thin k counted high d → d.sections ≡ c
  behind d r =
      let at = behind_it k.pid before x after r.before r.cycle r.after r.cut r.reaches in
      let same : r.cycle.airing.tables ≡ x.airing.tables = whole.same at.0 r.after r.cycle at.1 (subst (λ (l : List Aired). SomeCame fates l r.cycle) at.2 r.there) in
      let both : Some d.sections ≡ Some c = sym r.content ∙ ap (λ (ts : List SubTable). content_among k ts) same ∙ content in
      cc

  late : AllByRecursion (λ (d : Completed). d.sections ≡ c) (flat_map (done_in k) found.later)
  late =
      all_map (IsFromRun airings xs is can fates thin k counted high) (λ (d : Completed). d.sections ≡ c) behind (flat_map (done_in k) found.later)
      (each_from airings xs is can fates thin k counted high found.later
      (cover_runs (own_lane airings xs is can fates thin k counted) high (found.before ++ found.here) found.after found.later
      (found.cut ∙ sym (append_assoc found.before found.here found.after)) (let z : high ≤ length (found.before ++ found.here) = omega (arith, found.up_to, length-append found.before found.here) in z) found.more))

  pub content_heard : content_over (taken_of (map bytes_of_packet (came_of fates))) k ≡ Some c
  content_heard =
      ap (λ (ds : List Completed). sections_of (latest_done ds))
      (completions_are airings xs is can fates thin k counted
      ∙ ap (flat_map (done_in k)) found.parts_are
      ∙ flat_map-append (done_in k) found.earlier (found.part ∷ found.later))
      ∙ last_is c (flat_map (done_in k) found.earlier) (done_in k found.part) (flat_map (done_in k) found.later) here late

pub thinned_contents : ThinnedContentsAreHeard
thinned_contents airings before x after is can fates thin whole k counted c content = content_heard airings before x after is can fates thin whole k counted c content
