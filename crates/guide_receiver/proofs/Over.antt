-- Completions that sections show over marks, and what a receiver stands for without any.
use Rattle.std.proofs.Common.{◌≡◌, ℕ, List, [], ◌∷◌, ◌++◌, Option, Some, None, refl, sym, ap, ◌∙◌, subst, map, option_map, append-nil}
use Rattle.std.specs.Prelude.{filter, option_to_list}
use Rattle.std.proofs.lemmas.List.{map-append}
use Rattle.section_codec.specs.declared.table.Key.{Key}
use Rattle.ts_demux.specs.Sections.{ended_by, heard_all}
use Rattle.sub_collect.specs.Runs.{Counted}
use Rattle.sub_collect.specs.Marks.{Taken, Taken.Took, Taken.Forgot, Taken.ForgotAll, all_took, dones_over, shown_over, sections_taken}
use Rattle.sub_collect.specs.declared.completed.Completed.{Completed}
use Rattle.sub_collect.proofs.Marking.{mark_free}
use Rattle.sub_collect.proofs.MarksShown.{shown_over-key, dones_over-append, dones-free, sections-free}
use Rattle.guide_receiver.specs.declared.done.DoneKey.{DoneKey}
use Rattle.guide_receiver.specs.Counting.{counted_among}
use Rattle.guide_receiver.specs.Dones.{counted_heard, done_key, dones_by}
use Rattle.guide_receiver.proofs.Shown.{keyed, by_version, listed, counted-push}
use Rattle.guide_receiver.specs.Latest.{keys_shown, keys_shown_over, last_of, is_pat_key, is_nit_key, is_sdt_key, other_sdts, clock_of, offsets_heard}
use Rattle.guide_receiver.specs.Guides.{view_of, view_over}
use Rattle.guide_receiver.specs.Heard.{Hearing, took_by, ReceiverStandsFor, ReceiverStandsOver}

-- what one section shows, by the version that its key is done with
pub one_shown_over : (past : List Taken) (o : Option Counted) (s : Counted) (shown : Option ℕ) → Some s ≡ o → shown ≡ option_map (λ (d : Completed). d.version) (shown_over past s)
    → option_to_list (option_map (keyed s) shown) ≡ map done_key (dones_over past (all_took (option_to_list o)))
one_shown_over past None s shown of is = cc
one_shown_over past (Some t) s shown of is =
    let same : t ≡ s = cc in
    ap (λ o. option_to_list (option_map (keyed s) o)) is ∙ by_version s (shown_over past s) (shown_over-key past s) ∙ listed (shown_over past s)
    ∙ ap (λ x. map done_key (dones_over past (Took x ∷ []))) (sym same)

-- the completions of some sections, and then of others behind them
pub more_shown_over : (past xs ys : List Taken) → map done_key (dones_over past (xs ++ ys)) ≡ map done_key (dones_over past xs) ++ map done_key (dones_over (past ++ xs) ys)
more_shown_over past xs ys = ap (map done_key) (dones_over-append past xs ys) ∙ map-append done_key (dones_over past xs) (dones_over (past ++ xs) ys)

keys_of_dones : (ds : List Completed) → map (λ (d : DoneKey). d.key) (map done_key ds) ≡ map (λ (d : Completed). d.key) ds
keys_of_dones [] = refl
keys_of_dones (d ∷ ds) = ap (λ t. d.key ∷ t) (keys_of_dones ds)

-- the keys that more sections and marks complete
pub keys-more_over : (past more : List Taken) → keys_shown_over (past ++ more) ≡ keys_shown_over past ++ map (λ (d : DoneKey). d.key) (map done_key (dones_over past more))
keys-more_over past more =
    ap (map (λ (d : Completed). d.key)) (dones_over-append [] past more)
    ∙ map-append (λ (d : Completed). d.key) (dones_over [] past) (dones_over past more)
    ∙ ap (λ t. keys_shown_over past ++ t) (sym (keys_of_dones (dones_over past more)))

-- a mark shows none
pub keys-forgot : (past : List Taken) (pid : ℕ) → keys_shown_over (past ++ Forgot pid ∷ []) ≡ keys_shown_over past
keys-forgot past pid = keys-more_over past (Forgot pid ∷ []) ∙ (let e : keys_shown_over past ++ [] ≡ keys_shown_over past = append-nil (keys_shown_over past) in e)

pub keys-all_forgot : (past : List Taken) → keys_shown_over (past ++ ForgotAll ∷ []) ≡ keys_shown_over past
keys-all_forgot past = keys-more_over past (ForgotAll ∷ []) ∙ (let e : keys_shown_over past ++ [] ≡ keys_shown_over past = append-nil (keys_shown_over past) in e)

-- ---- without marks

pub keys-free : (ss : List Counted) → keys_shown_over (all_took ss) ≡ keys_shown ss
keys-free ss = ap (map (λ (d : Completed). d.key)) (dones-free [] ss)

pub took-push : (past : List (List ℕ)) (packet : List ℕ) → all_took (counted_heard past) ++ took_by past packet ≡ all_took (counted_heard (past ++ packet ∷ []))
took-push past packet = sym (map-append Took (counted_heard past) (counted_among (ended_by past packet))) ∙ ap all_took (sym (counted-push past packet))

pub dones-by : (past : List (List ℕ)) (packet : List ℕ) → map done_key (dones_over (all_took (counted_heard past)) (took_by past packet)) ≡ dones_by past packet
dones-by past packet = ap (map done_key) (dones-free (counted_heard past) (counted_among (ended_by past packet)))

pub counted-free : (past : List (List ℕ)) (packet : List ℕ) → sections_taken (all_took (counted_heard past)) ++ counted_among (ended_by past packet) ≡ counted_heard (past ++ packet ∷ [])
counted-free past packet = ap (λ (l : List Counted). l ++ counted_among (ended_by past packet)) (sections-free (counted_heard past)) ∙ sym (counted-push past packet)

pub stands-free : (past : List (List ℕ)) (packet : List ℕ) (receiver : Hearing) → ReceiverStandsOver (past ++ packet ∷ []) (all_took (counted_heard past) ++ took_by past packet) receiver
    → ReceiverStandsFor (past ++ packet ∷ []) receiver
stands-free past packet receiver h = subst (λ (l : List Taken). ReceiverStandsOver (past ++ packet ∷ []) l receiver) (took-push past packet) h

pub view-free : (past : List (List ℕ)) → view_over past (all_took (counted_heard past)) ≡ view_of past
view-free past =
    let content = λ (k : Key). ap (option_map (λ (d : Completed). d.sections)) (mark_free k (counted_heard past)).1 in
    let keys = keys-free (counted_heard past) in
    λ i. record {
      content = λ k. content k i;
      pat = last_of (filter is_pat_key (keys i));
      nit = last_of (filter is_nit_key (keys i));
      sdt = λ ext. last_of (filter (is_sdt_key ext) (keys i));
      others = other_sdts (keys i);
      clock = clock_of (heard_all [] past);
      offsets = offsets_heard (heard_all [] past);
    }
