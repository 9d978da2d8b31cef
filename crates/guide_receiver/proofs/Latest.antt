-- What was heard last, with one more.
use Rattle.std.proofs.Common.{◌≡◌, ℕ, ◌+◌, ◌<◌, Bool, true, false, List, [], ◌∷◌, ◌++◌, refl, sym, ap, ◌∙◌, subst, map, take, length, get_or, append-nil, append_assoc, Option, Some, None, option_map, if◌then◌else◌}
use Rattle.std.specs.Prelude.{◌==◌, cond, filter, filter_map, unwrap_or, option_and_then, Result, Ok, Err, IsOk}
use Rattle.section_codec.specs.declared.section.Section.{Section}
use Rattle.section_codec.specs.declared.section.Section.TheVariants.{Long, Short}
use Rattle.section_codec.specs.declared.section.BadSection.{BadSection}
use Rattle.section_codec.specs.declared.section.BadSection.TheVariants.{Memory}
use Rattle.section_codec.specs.Section.{section_in}
use Rattle.time_tables.specs.declared.tot.Tot.{Tot}
use Rattle.time_tables.specs.Tdt.{tdt_in}
use Rattle.time_tables.specs.Tot.{tot_in}
use Rattle.guide_model.specs.declared.offset.Offset.{Offset}
use Rattle.std.specs.Ordering.{nat_cmp}
use Rattle.std.specs.BTreeMap.{get, is_at}
use Rattle.std.specs.BTreeSet.{insert_key}
use Rattle.std.proofs.lemmas.Grind.{fold-append}
use Rattle.std.specs.Cmp.{unsigned_ties}
use Rattle.std.specs.Map.{lookup}
use Rattle.std.specs.Option.{option_or}
use Rattle.std.specs.List.{cons_option}
use Rattle.std.proofs.lemmas.List.{map-append, take_more}
use Rattle.std.proofs.lemmas.List.Elements.{filter-append, filter_map-append}
use Rattle.si_time.specs.declared.moment.Moment.{Moment}
use Rattle.section_codec.specs.declared.table.Key.{Key}
use Rattle.section_codec.specs.KeyOrder.{key_cmp, in_order}
use Rattle.ts_demux.specs.declared.section.RawSection.{RawSection}
use Rattle.sub_collect.specs.Runs.{Counted}
use Rattle.sub_collect.specs.Completions.{dones}
use Rattle.sub_collect.specs.declared.completed.Completed.{Completed}
use Rattle.sub_collect.proofs.Done.{dones-go_on}
use Rattle.guide_screen.specs.View.{View, sdt_of, sdt_behind}
use Rattle.guide_receiver.specs.declared.done.DoneKey.{DoneKey}
use Rattle.guide_receiver.specs.declared.latest_keys.LatestKeys.{LatestKeys}
use Rattle.guide_receiver.specs.Dones.{done_key}
use Rattle.guide_receiver.specs.Latest.{LatestKept, sdt_in, last_of, keys_shown, is_pat_key, is_nit_key, is_sdt_key, is_other_sdt_key, other_sdts, short_by, moment_by, moment_in, clock_of, offsets_by, offsets_in, offsets_heard, AreLatest, IsClock}

last-push : {X : Type 0} (xs : List X) (x : X) → last_of (xs ++ x ∷ []) ≡ Some x
last-push [] x = refl
last-push (y ∷ ys) x = ap (λ o. option_or o (Some y)) (last-push ys x)

last_that-push : {X : Type 0} (test : X → Bool) (xs : List X) (x : X) → last_of (filter test (xs ++ x ∷ [])) ≡ (if test x then Some x else last_of (filter test xs))
last_that-push test xs x = ap last_of (filter-append test xs (x ∷ [])) ∙ go (test x)
  where
    go : (b : Bool) → last_of (filter test xs ++ cond b (x ∷ []) []) ≡ (if b then Some x else last_of (filter test xs))
    go true = last-push (filter test xs) x
    go false = ap last_of (append-nil (filter test xs))

-- ---- keys

-- in order, with one more
pub ordered-push : (keys : List Key) (k : Key) → other_sdts (keys ++ k ∷ []) ≡ (if is_other_sdt_key k then insert_key key_cmp (other_sdts keys) k else other_sdts keys)
ordered-push keys k = ap in_order (filter-append is_other_sdt_key keys (k ∷ [])) ∙ go (is_other_sdt_key k)
  where
    go : (b : Bool) → in_order (filter is_other_sdt_key keys ++ cond b (k ∷ []) []) ≡ (if b then insert_key key_cmp (other_sdts keys) k else other_sdts keys)
    go true = fold-append (insert_key key_cmp) [] (filter is_other_sdt_key keys) (k ∷ [])
    go false = ap in_order (append-nil (filter is_other_sdt_key keys))

-- one more key was completed
pub key-put : (keys : List Key) (k : Key) (old new : LatestKept) → AreLatest keys old
    → new.pat ≡ (if is_pat_key k then Some k else old.pat)
    → new.nit ≡ (if is_nit_key k then Some k else old.nit)
    → ((ext : ℕ) → sdt_in ext new.sdts ≡ (if is_sdt_key ext k then Some k else sdt_in ext old.sdts))
    → new.others ≡ (if is_other_sdt_key k then insert_key key_cmp old.others k else old.others)
    → AreLatest (keys ++ k ∷ []) new
key-put keys k old new are pat nit sdts others = record {
  pat = pat ∙ ap (λ o. if is_pat_key k then Some k else o) are.pat ∙ sym (last_that-push is_pat_key keys k);
  nit = nit ∙ ap (λ o. if is_nit_key k then Some k else o) are.nit ∙ sym (last_that-push is_nit_key keys k);
  sdts = λ ext. sdts ext ∙ ap (λ o. if is_sdt_key ext k then Some k else o) (are.sdts ext) ∙ sym (last_that-push (is_sdt_key ext) keys k);
  others = others ∙ ap (λ (l : List Key). if is_other_sdt_key k then insert_key key_cmp l k else l) are.others ∙ sym (ordered-push keys k);
}

-- the SDT of a transport_stream_id, as the map has it
pub sdt_in-get : (ext : ℕ) (es : List (ℕ × Key)) → lookup (is_at (nat_cmp ext)) es ≡ sdt_in ext es
sdt_in-get ext [] = refl
sdt_in-get ext (e ∷ es) =
    ap (λ (b : Bool). cond b (Some e.1) (lookup (is_at (nat_cmp ext)) es)) (sym (unsigned_ties ext e.0))
    ∙ ap (λ (o : Option Key). if ext == e.0 then Some e.1 else o) (sdt_in-get ext es)

-- the SDT of a view, as it is kept
pub sdt-kept : (V : View) (keys : LatestKeys) (sdt : Option Key) → V.pat ≡ keys.pat → ((ext : ℕ) → V.sdt ext ≡ sdt_in ext keys.sdts.entries)
    → ((pat : Key) → keys.pat ≡ Some pat → sdt ≡ get nat_cmp keys.sdts pat.ext) → (keys.pat ≡ None → sdt ≡ None) → sdt_of V ≡ sdt
sdt-kept V keys sdt pat is some none = ap (sdt_behind V) pat ∙ go keys.pat refl
  where
    go : (o : Option Key) → keys.pat ≡ o → sdt_behind V o ≡ sdt
    go None e = sym (none e)
    go (Some p) e = is p.ext ∙ sym (sdt_in-get p.ext keys.sdts.entries) ∙ sym (some p e)

keys_of_dones : (ds : List Completed) → map (λ (d : DoneKey). d.key) (map done_key ds) ≡ map (λ (d : Completed). d.key) ds
keys_of_dones [] = refl
keys_of_dones (d ∷ ds) = ap (λ t. d.key ∷ t) (keys_of_dones ds)

-- the keys that more sections complete
pub keys-more : (past more : List Counted) → keys_shown (past ++ more) ≡ keys_shown past ++ map (λ (d : DoneKey). d.key) (map done_key (dones past more))
keys-more past more =
    ap (map (λ (d : Completed). d.key)) (dones-go_on [] past more)
    ∙ map-append (λ (d : Completed). d.key) (dones [] past) (dones past more)
    ∙ ap (λ t. keys_shown past ++ t) (sym (keys_of_dones (dones past more)))

-- ---- the clock

-- one section more
pub clock-push : (sections : List RawSection) (s : RawSection) → clock_of (sections ++ s ∷ []) ≡ option_or (moment_in s) (clock_of sections)
clock-push sections s = ap last_of (filter_map-append moment_in sections (s ∷ [])) ∙ go (moment_in s)
  where
    go : (o : Option ℕ) → last_of (filter_map moment_in sections ++ cons_option o []) ≡ option_or o (clock_of sections)
    go None = ap last_of (append-nil (filter_map moment_in sections))
    go (Some at) = last-push (filter_map moment_in sections) at

-- one section more, and its moment, where it tells one
pub clock-next : (sections : List RawSection) (s : RawSection) (before at : Option Moment) → IsClock sections before → option_map (λ (t : Moment). t.0) at ≡ moment_in s
    → IsClock (sections ++ s ∷ []) (option_or at before)
clock-next sections s before None is told =
    is ∙ ap (λ o. option_or o (clock_of sections)) told ∙ sym (clock-push sections s)
clock-next sections s before (Some at) is told =
    ap (λ o. option_or o (clock_of sections)) told ∙ sym (clock-push sections s)

pub clock-step : (past sections : List RawSection) (i : ℕ) (item : RawSection) (before at now : Option Moment) → i < length sections → item ≡ get_or sections i item
    → IsClock (past ++ take i sections) before → option_map (λ (t : Moment). t.0) at ≡ moment_in item → now ≡ option_or at before → IsClock (past ++ take (i + 1) sections) now
clock-step past sections i item before at now lt is clock told kept =
    subst (λ (t : List RawSection). IsClock t now)
    (append_assoc past (take i sections) (item ∷ []) ∙ ap (λ t. past ++ t) (sym (take_more sections i item lt ∙ ap (λ x. take i sections ++ x ∷ []) (sym is))))
    (subst (λ (o : Option Moment). IsClock ((past ++ take i sections) ++ item ∷ []) o) (sym kept) (clock-next (past ++ take i sections) item before at clock told))

-- ---- the offsets

or_none : {X : Type 0} (o : Option X) → o ≡ option_or o None
or_none None = refl
or_none (Some x) = refl

or_three : {X : Type 0} (o p q : Option X) → option_or (option_or o p) q ≡ option_or o (option_or p q)
or_three None p q = refl
or_three (Some y) p q = refl

last_of-append : {X : Type 0} (xs ys : List X) → last_of (xs ++ ys) ≡ option_or (last_of ys) (last_of xs)
last_of-append [] ys = or_none (last_of ys)
last_of-append {X = X} (x ∷ xs) ys =
    ap (λ (o : Option X). option_or o (Some x)) (last_of-append xs ys) ∙ or_three (last_of ys) (last_of xs) (Some x)

-- a section that is none tells nothing
pub no_short : (table : ℕ) (r : Result Section BadSection) (bad : BadSection) → (IsOk r → bad ≡ Memory) → (bad ≡ Memory → Prim.⊥) → None ≡ short_by table r
no_short table (Ok section) bad only other = absurd (other (only refl))
no_short table (Err b) bad only other = refl

-- what a section tells by its body in the short form
pub moment_is : (r : Result Section BadSection) → moment_by r ≡ option_and_then tdt_in (short_by 0x70 r)
moment_is (Err b) = refl
moment_is (Ok (Long h body)) = refl
moment_is (Ok (Short told body)) = go (told == 0x70)
  where
    go : (b : Bool) → (if b then tdt_in body else None) ≡ option_and_then tdt_in (if b then Some body else None)
    go true = refl
    go false = refl

pub offsets_are : (r : Result Section BadSection) → offsets_by r ≡ option_and_then (λ body. option_map (λ (tot : Tot). tot.offsets) (tot_in body)) (short_by 0x73 r)
offsets_are (Err b) = refl
offsets_are (Ok (Long h body)) = refl
offsets_are (Ok (Short told body)) = go (told == 0x73)
  where
    go : (b : Bool) → (if b then option_map (λ (tot : Tot). tot.offsets) (tot_in body) else None) ≡ option_and_then (λ body. option_map (λ (tot : Tot). tot.offsets) (tot_in body)) (if b then Some body else None)
    go true = refl
    go false = refl

-- those of later sections go before those of earlier ones
pub offsets_more : (past more : List RawSection) → offsets_heard (past ++ more) ≡ unwrap_or (last_of (filter_map offsets_in more)) (offsets_heard past)
offsets_more past more =
    ap (λ (l : List (List Offset)). unwrap_or (last_of l) []) (filter_map-append offsets_in past more)
    ∙ ap (λ (o : Option (List Offset)). unwrap_or o []) (last_of-append (filter_map offsets_in past) (filter_map offsets_in more))
    ∙ go (last_of (filter_map offsets_in more))
  where
    go : (o : Option (List Offset)) → unwrap_or (option_or o (last_of (filter_map offsets_in past))) [] ≡ unwrap_or o (offsets_heard past)
    go None = refl
    go (Some x) = refl

-- a section of the time PID, by its body in the short form
pub moment_told : (raw : RawSection) (body : Option (List ℕ)) → (raw.pid == 0x0014) ≡ true → body ≡ short_by 0x70 (section_in raw.bytes) → option_and_then tdt_in body ≡ moment_in raw
moment_told raw body pid is =
    ap (option_and_then tdt_in) is ∙ sym (moment_is (section_in raw.bytes)) ∙ sym (ap (λ (b : Bool). if b then moment_by (section_in raw.bytes) else None) pid)

pub offsets_told : (raw : RawSection) (body : Option (List ℕ)) → (raw.pid == 0x0014) ≡ true → body ≡ short_by 0x73 (section_in raw.bytes)
    → option_and_then (λ body. option_map (λ (tot : Tot). tot.offsets) (tot_in body)) body ≡ offsets_in raw
offsets_told raw body pid is =
    ap (option_and_then (λ body. option_map (λ (tot : Tot). tot.offsets) (tot_in body))) is ∙ sym (offsets_are (section_in raw.bytes))
    ∙ sym (ap (λ (b : Bool). if b then offsets_by (section_in raw.bytes) else None) pid)

-- one section more, and its offsets, where it tells some
pub told-step : (sections : List RawSection) (i : ℕ) (item : RawSection) (before told now : Option (List Offset)) → i < length sections → item ≡ get_or sections i item
    → before ≡ last_of (filter_map offsets_in (take i sections)) → told ≡ offsets_in item → now ≡ option_or told before
    → now ≡ last_of (filter_map offsets_in (take (i + 1) sections))
told-step sections i item before told now lt is kept tells step =
    step ∙ ap (λ (o : Option (List Offset)). option_or o before) tells ∙ ap (λ (o : Option (List Offset)). option_or (offsets_in item) o) kept
    ∙ sym (ap last_of (filter_map-append offsets_in (take i sections) (item ∷ [])) ∙ go (offsets_in item))
    ∙ ap (λ (t : List RawSection). last_of (filter_map offsets_in t)) (sym (take_more sections i item lt ∙ ap (λ x. take i sections ++ x ∷ []) (sym is)))
  where
    go : (o : Option (List Offset)) → last_of (filter_map offsets_in (take i sections) ++ cons_option o []) ≡ option_or o (last_of (filter_map offsets_in (take i sections)))
    go None = ap last_of (append-nil (filter_map offsets_in (take i sections)))
    go (Some x) = last-push (filter_map offsets_in (take i sections)) x

pub offsets_none : (raw : RawSection) (body : Option (List ℕ)) → (raw.pid == 0x0014) ≡ true → body ≡ short_by 0x73 (section_in raw.bytes) → body ≡ None → None ≡ offsets_in raw
offsets_none raw body pid is none =
    sym (ap (option_and_then (λ body. option_map (λ (tot : Tot). tot.offsets) (tot_in body))) none) ∙ offsets_told raw body pid is

pub offsets_some : (raw : RawSection) (body : Option (List ℕ)) (bytes : List ℕ) (read : Option Tot) → (raw.pid == 0x0014) ≡ true → body ≡ short_by 0x73 (section_in raw.bytes) → body ≡ Some bytes
    → read ≡ tot_in bytes → option_map (λ (tot : Tot). tot.offsets) read ≡ offsets_in raw
offsets_some raw body bytes read pid is some tot =
    ap (option_map (λ (tot : Tot). tot.offsets)) tot ∙ sym (ap (option_and_then (λ body. option_map (λ (tot : Tot). tot.offsets) (tot_in body))) some) ∙ offsets_told raw body pid is

pub moment_none : (raw : RawSection) (body : Option (List ℕ)) → (raw.pid == 0x0014) ≡ true → body ≡ short_by 0x70 (section_in raw.bytes) → body ≡ None → None ≡ moment_in raw
moment_none raw body pid is none = sym (ap (option_and_then tdt_in) none) ∙ moment_told raw body pid is

pub moment_some : (raw : RawSection) (body : Option (List ℕ)) (bytes : List ℕ) → (raw.pid == 0x0014) ≡ true → body ≡ short_by 0x70 (section_in raw.bytes) → body ≡ Some bytes → tdt_in bytes ≡ moment_in raw
moment_some raw body bytes pid is some = sym (ap (option_and_then tdt_in) some) ∙ moment_told raw body pid is
