-- What is held of a key, by what is kept of it.
use Rattle.std.proofs.Common.{◌≡◌, ℕ, zero, suc, ◌+◌, ◌-◌, ◌<◌, ◌≤◌, List, [], ◌∷◌, ◌++◌, Bool, true, false, length, drop, get_or, refl, sym, ap, ap₂, ◌∙◌, arith, append_assoc, append-nil}
use Rattle.std.specs.Prelude.{if◌then◌else◌, Option, Some, None, option_map, unwrap_or, filter_map}
use Rattle.std.specs.List.{flat_map, cons_option}
use Rattle.std.specs.List.{list_any}
use Rattle.std.specs.List.Sorted.{IsStrictlySortedBy}
use Rattle.std.specs.BTreeMap.{is_at}
use Rattle.std.specs.Map.{keys_of}
use Rattle.std.proofs.lemmas.Map.Made.{is_some-lookup}
use Rattle.section_codec.specs.declared.table.Key.{Key}
use Rattle.section_codec.specs.declared.table.NumberedBody.{NumberedBody}
use Rattle.section_codec.specs.Tables.{is_eit}
use Rattle.section_codec.specs.Contents.{numbers_from, Content}
use Rattle.section_codec.specs.Segments.{segment_of, numbers_in_segment, and_numbers, segments_need}
use Rattle.section_codec.specs.KeyOrder.{key_cmp}
use Rattle.section_codec.proofs.KeyOrderFacts.{key_ties}
use Rattle.sub_collect.specs.Runs.{Counted, latest_section, latest_with, last_told, needed_at, with_part, gathered, gathered_at}
use Rattle.sub_collect.specs.Marks.{Taken}
use Rattle.sub_collect.specs.Collectors.{KeptRun, body_in, body_of, last_in, StandsForRun, EachStandsFor}
use Rattle.sub_collect.specs.Slots.{shown}
use Rattle.sub_collect.specs.Parts.{known_in, known_at, numbered, part_with, held, AreKeysOver, WholeIsHeld}
use Rattle.sub_collect.specs.PartSlots.{known_by, held_by}
use Rattle.sub_collect.specs.declared.collector.KeySlot.{KeySlot}
use Rattle.sub_collect.proofs.Runs.{no-latest}
use Rattle.sub_collect.proofs.Gathering.{from_place}
use Rattle.sub_collect.proofs.KeyCounts.{member-kept}
use Rattle.sub_collect.proofs.KeyWalk.{keys_of-shown}

-- ---- the keys

pub keys-over : (past : List Taken) (es : List (Key × KeySlot)) → IsStrictlySortedBy key_cmp (keys_of es) → EachStandsFor past (shown es) → (keys : List Key) → keys ≡ keys_of (shown es) → AreKeysOver past keys
keys-over past es sorted stands keys same = rw (same, keys_of-shown es) (record {
  ascend = sorted;
  each = λ q. ap (λ (test : Key → Bool). list_any test (keys_of es)) (λ i k. key_ties q k i)
      ∙ sym (is_some-lookup (is_at (key_cmp q)) es) ∙ sym (member-kept past es stands q);
})

-- ---- numbers that are known, segment by segment

-- those before a segment and those from it on
pub known-next : (lasts : ℕ → Option ℕ) (many n m : ℕ) (so_far more all : List ℕ) → so_far ++ flat_map (known_in lasts) (numbers_from n (many - n)) ≡ all → n < many → m ≡ n + 1
    → more ≡ so_far ++ known_in lasts n → more ++ flat_map (known_in lasts) (numbers_from m (many - m)) ≡ all
known-next lasts many n m so_far more all now lt next is =
    ap (λ (l : List ℕ). l ++ flat_map (known_in lasts) (numbers_from m (many - m))) is
    ∙ append_assoc so_far (known_in lasts n) (flat_map (known_in lasts) (numbers_from m (many - m)))
    ∙ ap (λ (k : ℕ). so_far ++ (known_in lasts n ++ flat_map (known_in lasts) (numbers_from k (many - m)))) (let e : m ≡ 1 + n = omega arith in e)
    ∙ ap (λ (k : ℕ). so_far ++ flat_map (known_in lasts) (numbers_from n k)) (let e : suc (many - m) ≡ many - n = omega arith in e)
    ∙ now

pub known-end : (lasts : ℕ → Option ℕ) (many n : ℕ) (so_far all : List ℕ) → so_far ++ flat_map (known_in lasts) (numbers_from n (many - n)) ≡ all → many ≤ n → so_far ≡ all
known-end lasts many n so_far all now le =
    sym (append-nil so_far)
    ∙ ap (λ (k : ℕ). so_far ++ flat_map (known_in lasts) (numbers_from n k)) (let e : 0 ≡ many - n = omega arith in e)
    ∙ now

-- ---- bodies that are held, number by number

module _ (bodies : ℕ → Option (List ℕ)) (ns : List ℕ) (i d : ℕ) (so_far : Content) (now : so_far ++ held_by bodies (drop i ns) ≡ held_by bodies ns) (lt : i < length ns) where
  one : (o : Option (List ℕ)) → bodies (get_or ns i d) ≡ o
      → so_far ++ cons_option (option_map (numbered (get_or ns i d)) o) (held_by bodies (drop (i + 1) ns)) ≡ held_by bodies ns
  one o e =
      ap (λ (p : Option (List ℕ)). so_far ++ cons_option (option_map (numbered (get_or ns i d)) p) (held_by bodies (drop (i + 1) ns))) (sym e)
      ∙ ap (λ (l : List ℕ). so_far ++ held_by bodies l) (sym (from_place ns i d lt))
      ∙ now

  pub held-none : bodies (get_or ns i d) ≡ None → so_far ++ held_by bodies (drop (i + 1) ns) ≡ held_by bodies ns
  held-none none = one None none

  pub held-some : (body : List ℕ) → bodies (get_or ns i d) ≡ Some body
      → (so_far ++ numbered (get_or ns i d) body ∷ []) ++ held_by bodies (drop (i + 1) ns) ≡ held_by bodies ns
  held-some body some =
      append_assoc so_far (numbered (get_or ns i d) body ∷ []) (held_by bodies (drop (i + 1) ns)) ∙ one (Some body) some

-- ---- what a run holds, by what is kept of it

known_in-same : (f g : ℕ → Option ℕ) → ((n : ℕ) → f n ≡ g n) → (ns : List ℕ) → flat_map (known_in f) ns ≡ flat_map (known_in g) ns
known_in-same f g same [] = refl
known_in-same f g same (n ∷ ns) = ap₂ (λ (a b : List ℕ). a ++ b) (ap (λ (o : Option ℕ). unwrap_or (option_map (numbers_in_segment n) o) []) (same n)) (known_in-same f g same ns)

known-same : (segmented : Bool) (f g : ℕ → Option ℕ) → ((n : ℕ) → f n ≡ g n) → (last : ℕ) → known_by segmented f last ≡ known_by segmented g last
known-same true f g same last = known_in-same f g same (numbers_from 0 (1 + segment_of last))
known-same false f g same last = refl

held-same : (run : List Counted) (bodies : ℕ → Option (List ℕ)) → ((n : ℕ) → bodies n ≡ body_of (latest_with n run)) → (ns : List ℕ) → filter_map (part_with run) ns ≡ held_by bodies ns
held-same run bodies is [] = refl
held-same run bodies is (n ∷ ns) = ap₂ (λ (o : Option NumberedBody) (l : Content). cons_option o l) (go (latest_with n run) ∙ ap (option_map (numbered n)) (sym (is n))) (held-same run bodies is ns)
  where
    go : (o : Option Counted) → option_map (λ (s : Counted). numbered n s.body) o ≡ option_map (numbered n) (body_of o)
    go None = refl
    go (Some s) = refl

nothing-held : (bodies : ℕ → Option (List ℕ)) → ((n : ℕ) → bodies n ≡ None) → (ns : List ℕ) → held_by bodies ns ≡ []
nothing-held bodies none [] = refl
nothing-held bodies none (n ∷ ns) =
    ap (λ (o : Option (List ℕ)). cons_option (option_map (numbered n) o) (held_by bodies ns)) (none n)
    ∙ nothing-held bodies none ns

-- a kept run of a key holds what the run holds that it stands for
pub held-kept : (k : Key) (run : List Counted) (kept : KeptRun) → StandsForRun run kept → ((s : Counted) → latest_section run ≡ Some s → s.key ≡ k)
    → held_by (λ n. body_in n kept.held) (known_by (is_eit k.table) (last_in kept.lasts) kept.last) ≡ held run
held-kept k run kept stands keys = go (latest_section run) refl
  where
    bodies : ℕ → Option (List ℕ)
    bodies n = body_in n kept.held

    go : (o : Option Counted) → latest_section run ≡ o → held_by bodies (known_by (is_eit k.table) (last_in kept.lasts) kept.last) ≡ held run
    go None e =
        nothing-held bodies (λ n. stands.held n ∙ ap (λ (l : List Counted). body_of (latest_with n l)) (no-latest run e)) (known_by (is_eit k.table) (last_in kept.lasts) kept.last)
        ∙ ap (λ (p : Option Counted). filter_map (part_with run) (known_at run p)) (sym e)
    go (Some s) e =
        ap (held_by bodies)
        (known-same (is_eit k.table) (last_in kept.lasts) (last_told run) stands.lasts kept.last
        ∙ ap₂ (λ (q : Key) (last : ℕ). known_by (is_eit q.table) (last_told run) last) (sym (keys s e)) (stands.last s e))
        ∙ sym (held-same run bodies stands.held (known_by (is_eit s.key.table) (last_told run) s.last))
        ∙ ap (λ (p : Option Counted). filter_map (part_with run) (known_at run p)) (sym e)

-- ---- a run that has all

-- the numbers that a run has to hold are those that are known
known-needed : (lasts : ℕ → Option ℕ) (n many : ℕ) (ns : List ℕ) → segments_need lasts n many ≡ Some ns → flat_map (known_in lasts) (numbers_from n many) ≡ ns
known-needed lasts n zero ns e = cc
known-needed lasts n (suc many) ns e = go (option_map (numbers_in_segment n) (lasts n)) (segments_need lasts (1 + n) many) refl refl e (known-needed lasts (1 + n) many)
  where
    go : (a b : Option (List ℕ)) → option_map (numbers_in_segment n) (lasts n) ≡ a → segments_need lasts (1 + n) many ≡ b → and_numbers a b ≡ Some ns
        → ((ms : List ℕ) → segments_need lasts (1 + n) many ≡ Some ms → flat_map (known_in lasts) (numbers_from (1 + n) many) ≡ ms)
        → flat_map (known_in lasts) (numbers_from n (suc many)) ≡ ns
    go None b p q f rest = cc
    go (Some xs) None p q f rest = cc
    go (Some xs) (Some ys) p q f rest =
        let whole : xs ++ ys ≡ ns = cc in
        ap₂ (λ (a b : List ℕ). a ++ b) (ap (λ (o : Option (List ℕ)). unwrap_or o []) p) (rest ys q) ∙ whole

known-is : (run : List Counted) (o : Option Counted) (ns : List ℕ) → needed_at run o ≡ Some ns → known_at run o ≡ ns
known-is run None ns e = cc
known-is run (Some s) ns e = go (is_eit s.key.table) e
  where
    go : (b : Bool) → (if b then segments_need (last_told run) 0 (1 + segment_of s.last) else Some (numbers_from 0 (1 + s.last))) ≡ Some ns
        → (if b then flat_map (known_in (last_told run)) (numbers_from 0 (1 + segment_of s.last)) else numbers_from 0 (1 + s.last)) ≡ ns
    go true f = known-needed (last_told run) 0 (1 + segment_of s.last) ns f
    go false f = cc

held-gathered : (run : List Counted) (ns : List ℕ) (content : Content) → gathered run ns ≡ Some content → filter_map (part_with run) ns ≡ content
held-gathered run [] content e = cc
held-gathered run (n ∷ ns) content e = go (latest_with n run) (gathered run ns) refl refl e (held-gathered run ns)
  where
    go : (o : Option Counted) (rest : Option Content) → latest_with n run ≡ o → gathered run ns ≡ rest → with_part n o rest ≡ Some content
        → ((parts : Content) → gathered run ns ≡ Some parts → filter_map (part_with run) ns ≡ parts) → filter_map (part_with run) (n ∷ ns) ≡ content
    go None rest p q f more = cc
    go (Some s) None p q f more = cc
    go (Some s) (Some parts) p q f more =
        let all : numbered n s.body ∷ parts ≡ content = cc in
        ap₂ (λ (o : Option Counted) (l : Content). cons_option (option_map (λ (t : Counted). numbered n t.body) o) l) p (more parts q) ∙ all

pub whole_is_held : WholeIsHeld
whole_is_held run content e = go (needed_at run (latest_section run)) refl e
  where
    go : (o : Option (List ℕ)) → needed_at run (latest_section run) ≡ o → gathered_at run o ≡ Some content → held run ≡ content
    go None p f = cc
    go (Some ns) p f = ap (filter_map (part_with run)) (known-is run (latest_section run) ns p) ∙ held-gathered run ns content f
