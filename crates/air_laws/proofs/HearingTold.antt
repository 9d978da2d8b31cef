-- The version changes of an air are heard.
use Rattle.std.proofs.Common.{◌≡◌, ◌≢◌, ℕ, ◌+◌, ◌%◌, List, [], ◌∷◌, ◌++◌, Bool, true, false, Option, Some, None, length, refl, sym, ap, ap₂, ◌∙◌, subst, arith, map, append-nil}
use Rattle.std.specs.Prelude.{if◌then◌else◌, cond, not, filter, option_to_list}
use Rattle.std.specs.List.{All, AllByRecursion}
use Rattle.std.proofs.lemmas.List.{map-append}
use Rattle.si_lists.proofs.Lists.{all_map}
use Rattle.section_codec.specs.declared.table.Key.{Key}
use Rattle.section_codec.specs.KeyOrder.{is_key}
use Rattle.section_codec.specs.Contents.{Content, is_content}
use Rattle.version_book.specs.Airings.{AiredTables, content_at, carried, changes_after, changes, version_at}
use Rattle.section_codec.proofs.SameContent.{is_content-same}
use Rattle.version_book.specs.Book.{GivenVersion, last_of, kept_after}
use Rattle.version_book.specs.Slots.{next_version}
use Rattle.version_book.proofs.Versions.{carried-push}
use Rattle.version_book.proofs.Airs.{next_version-is, kept_after-push}
use Rattle.ts_packets.specs.Bytes.{bytes_of_packet}
use Rattle.ts_demux.specs.Sections.{ended_by, heard_all}
use Rattle.sub_collect.specs.Runs.{Counted, latest_section}
use Rattle.sub_collect.specs.Completions.{of_key, completions, latest_done, dones}
use Rattle.sub_collect.specs.Laws.{is_done_of, IsNumbered, HoldAll, IsWith, IsFresh, IsHeld, done_with}
use Rattle.sub_collect.specs.declared.completed.Completed.{Completed}
use Rattle.sub_collect.proofs.Done.{dones-go_on, keys-apart}
use Rattle.sub_collect.proofs.Shown.{quiet, shown-once}
use Rattle.guide_receiver.specs.declared.done.DoneKey.{DoneKey}
use Rattle.section_codec.specs.Tables.{is_counted}
use Rattle.guide_receiver.specs.Counting.{counted_among}
use Rattle.section_codec.specs.SubTables.{IsFit}
use Rattle.guide_receiver.specs.Dones.{DoneAt, at_packet, counted_heard, done_key, dones_by, dones_of, dones_behind}
use Rattle.guide_receiver.proofs.Shown.{more_shown, among-append, counted-push}
use Rattle.air_model.specs.Air.{Aired, air, airings_of, IsSendable, CanBeSent}
use Rattle.air_model.specs.Repeating.{RepeatingCycles}
use Rattle.air_laws.specs.Sending.{sections_sent}
use Rattle.air_laws.specs.Counting.{CanBeHeard}
use Rattle.air_laws.specs.Changes.{is_new_at, is_change, version_with, changes_of, is_done_key}
use Rattle.air_laws.specs.HearingLaws.{ChangesAreHeard, KeyIsHeard}
use Rattle.air_laws.proofs.Sections.{all_sent, all_heard, air-heard}
use Rattle.air_laws.proofs.Keys.{key_counted}
use Rattle.air_laws.proofs.Blocks.{block, block-append, block-none, block-uncounted, block-sound, block-complete, numbered_of}

-- ---- what packets show, without their numbers

abbrev done_of : DoneAt → DoneKey
done_of d = d.done

undone : (n : ℕ) (ds : List DoneKey) → map done_of (map (at_packet n) ds) ≡ ds
undone n [] = refl
undone n (d ∷ ds) = ap (λ (l : List DoneKey). d ∷ l) (undone n ds)

told : (past ps : List (List ℕ)) → map done_of (dones_behind past ps) ≡ map done_key (dones (counted_heard past) (counted_among (heard_all past ps)))
told past [] = refl
told past (p ∷ ps) =
    let here = counted_among (ended_by past p) in
    let later = counted_among (heard_all (past ++ p ∷ []) ps) in
    map-append done_of (map (at_packet (length past)) (dones_by past p)) (dones_behind (past ++ p ∷ []) ps)
    ∙ ap₂ (λ (x y : List DoneKey). x ++ y) (undone (length past) (dones_by past p)) (told (past ++ p ∷ []) ps)
    ∙ ap (λ (l : List Counted). dones_by past p ++ map done_key (dones l later)) (counted-push past p)
    ∙ sym (more_shown (counted_heard past) here later)
    ∙ ap (λ (l : List Counted). map done_key (dones (counted_heard past) l)) (sym (among-append (ended_by past p) (heard_all (past ++ p ∷ []) ps)))

of_done : (k : Key) (ds : List Completed) → filter (is_done_key k) (map done_key ds) ≡ map done_key (filter (is_done_of k) ds)
of_done k [] = refl
of_done k (d ∷ ds) = go (is_key d.key k) (of_done k ds)
  where
    go : (b : Bool) → filter (is_done_key k) (map done_key ds) ≡ map done_key (filter (is_done_of k) ds)
        → cond b (done_key d ∷ filter (is_done_key k) (map done_key ds)) (filter (is_done_key k) (map done_key ds)) ≡ map done_key (cond b (d ∷ filter (is_done_of k) ds) (filter (is_done_of k) ds))
    go true e = ap (λ (l : List DoneKey). done_key d ∷ l) e
    go false e = e

-- of a key, by its sections alone
key_told : (k : Key) (ps : List (List ℕ)) → filter (is_done_key k) (map done_of (dones_of ps)) ≡ map done_key (dones [] (of_key k (counted_heard ps)))
key_told k ps = ap (filter (is_done_key k)) (told [] ps) ∙ of_done k (dones [] (counted_heard ps)) ∙ ap (map done_key) (keys-apart k [] (counted_heard ps))

-- ---- one content after the other

-- what was heard of a key that last carried this
abbrev Heard : Key → Option GivenVersion → List Counted → Type 0
Heard k None heard = of_key k heard ≡ []
Heard k (Some kept) heard = IsHeld k kept.version kept.content heard

-- what one content more shows: it, where it is new
abbrev shows : Key → Option GivenVersion → Content → List Completed
shows k None c = done_with k 0 c ∷ []
shows k (Some kept) c = if is_content kept.content c then [] else done_with k ((kept.version + 1) % 32) c ∷ []

apart : (v : ℕ) → v ≢ (v + 1) % 32
apart v e = grind arith

one_more : (k : Key) (o : Option GivenVersion) (c : Content) → IsNumbered k c → (heard ss : List Counted) → Heard k o heard → AllByRecursion (IsWith k (next_version o c) c) ss → HoldAll c ss
    → (dones heard ss ≡ shows k o c) × IsHeld k (next_version o c) c (heard ++ ss)
one_more k None c numbered heard ss none all holds = shown-once k 0 c numbered heard fresh ss all holds
  where
    fresh : IsFresh k 0 heard
    fresh = record {
      latest = λ d e. (let f : None ≡ Some d = sym (ap (λ (l : List Counted). latest_done (completions [] l)) none) ∙ e in absurd (let z : Prim.⊥ = cc in z));
      section = λ s e. (let f : None ≡ Some s = sym (ap latest_section none) ∙ e in absurd (let z : Prim.⊥ = cc in z));
    }
one_more k (Some kept) c numbered heard ss held all holds = go (is_content kept.content c) refl all
  where
    go : (b : Bool) → is_content kept.content c ≡ b → AllByRecursion (IsWith k (if b then kept.version else (kept.version + 1) % 32) c) ss
        → (dones heard ss ≡ (if b then [] else done_with k ((kept.version + 1) % 32) c ∷ [])) × IsHeld k (if b then kept.version else (kept.version + 1) % 32) c (heard ++ ss)
    go true e all = quiet k kept.version c numbered heard (subst (λ (d : Content). IsHeld k kept.version d heard) (is_content-same kept.content c e) held) ss all
    go false e all = shown-once k ((kept.version + 1) % 32) c numbered heard fresh ss all holds
      where
        fresh : IsFresh k ((kept.version + 1) % 32) heard
        fresh = record {
          latest = λ d f same. (let g : Some (done_with k kept.version kept.content) ≡ Some d = sym held.latest ∙ f in let h : done_with k kept.version kept.content ≡ d = cc in apart kept.version (ap (λ (x : Completed). x.version) h ∙ same));
          section = λ s f same. (let g : Some held.section.0 ≡ Some s = sym held.section.1 ∙ f in let h : held.section.0 ≡ s = cc in apart kept.version (sym held.section.2 ∙ ap (λ (x : Counted). x.version) h ∙ same));
        }

-- ---- one airing after the other

told-new : (k : Key) (cs : List Content) (c : Content) → map done_key (shows k (kept_after cs) c) ≡ (if is_new_at cs (Some c) then record { key = k; version = next_version (kept_after cs) c } ∷ [] else [])
told-new k [] c = refl
told-new k (d ∷ cs) c = go (changes_after d cs % 32) (is_content (last_of d cs) c)
  where
    go : (v : ℕ) (b : Bool) → map done_key (if b then [] else done_with k ((v + 1) % 32) c ∷ []) ≡ (if not b then record { key = k; version = if b then v else (v + 1) % 32 } ∷ [] else [])
    go v true = refl
    go v false = refl

module _ (k : Key) (counted : is_counted k.pid k.table ≡ true) where
  changes_told : (past : List AiredTables) (xs : List Aired) (h : RepeatingCycles past xs) → AllByRecursion CanBeHeard (airings_of xs) → (heard : List Counted) → Heard k (kept_after (carried k past)) heard
      → map done_key (dones heard (block k (all_sent past xs h))) ≡ changes_of k past (airings_of xs)
  changes_told past [] h can heard is = refl
  changes_told past (x ∷ xs) h can heard is =
      go (content_at k x.airing) refl (λ now is. changes_told (past ++ x.airing ∷ []) xs h.1 can.1 now is)
    where
      a : AiredTables
      a = x.airing

      ss : List Counted
      ss = block k h.0.sections

      rest : List Counted
      rest = block k (all_sent (past ++ x.airing ∷ []) xs h.1)

      cut : dones heard (block k (h.0.sections ++ all_sent (past ++ x.airing ∷ []) xs h.1)) ≡ dones heard ss ++ dones (heard ++ ss) rest
      cut = ap (dones heard) (block-append k h.0.sections (all_sent (past ++ x.airing ∷ []) xs h.1)) ∙ dones-go_on heard ss rest

      both : map done_key (dones heard (block k (h.0.sections ++ all_sent (past ++ x.airing ∷ []) xs h.1))) ≡ map done_key (dones heard ss) ++ map done_key (dones (heard ++ ss) rest)
      both = ap (map done_key) cut ∙ map-append done_key (dones heard ss) (dones (heard ++ ss) rest)

      go : (o : Option Content) → content_at k a ≡ o
          → ((now : List Counted) → Heard k (kept_after (carried k (past ++ a ∷ []))) now → map done_key (dones now rest) ≡ changes_of k (past ++ a ∷ []) (airings_of xs))
          → map done_key (dones heard (block k (h.0.sections ++ all_sent (past ++ a ∷ []) xs h.1))) ≡ (if is_change k past a then version_with k past a ∷ [] else []) ++ changes_of k (past ++ a ∷ []) (airings_of xs)
      go None e next =
          let none : ss ≡ [] = block-none past a can.0 k e h.0.sections h.0.are.each in
          let same : carried k (past ++ a ∷ []) ≡ carried k past = carried-push k past a ∙ ap (λ (o : Option Content). carried k past ++ option_to_list o) e ∙ append-nil (carried k past) in
          let still : heard ++ ss ≡ heard = ap (λ (l : List Counted). heard ++ l) none ∙ append-nil heard in
          both
          ∙ ap₂ (λ (l m : List Counted). map done_key (dones heard l) ++ map done_key (dones m rest)) none still
          ∙ next heard (subst (λ (cs : List Content). Heard k (kept_after cs) heard) (sym same) is)
          ∙ ap (λ (o : Option Content). (if is_new_at (carried k past) o then version_with k past a ∷ [] else []) ++ changes_of k (past ++ a ∷ []) (airings_of xs)) (sym e)
      go (Some c) e next =
          let more : carried k (past ++ a ∷ []) ≡ carried k past ++ c ∷ [] = carried-push k past a ∙ ap (λ (o : Option Content). carried k past ++ option_to_list o) e in
          let version : version_at k (past ++ a ∷ []) ≡ next_version (kept_after (carried k past)) c = ap (λ (cs : List Content). changes cs % 32) more ∙ next_version-is (carried k past) c in
          let all = subst (λ (v : ℕ). AllByRecursion (IsWith k v c) ss) version (block-sound past a can.0 k c e h.0.sections h.0.are.each) in
          let one = one_more k (kept_after (carried k past)) c (numbered_of past a can.0 k c e) heard ss is all (block-complete past a can.0 k c e counted h.0.sections h.0.are) in
          let kept : kept_after (carried k (past ++ a ∷ [])) ≡ Some (record { version = next_version (kept_after (carried k past)) c; content = c }) = ap kept_after more ∙ kept_after-push (carried k past) c in
          let here : map done_key (dones heard ss) ≡ (if is_new_at (carried k past) (Some c) then version_with k past a ∷ [] else []) =
          ap (map done_key) one.0 ∙ told-new k (carried k past) c ∙ ap (λ (v : ℕ). if is_new_at (carried k past) (Some c) then (let d : DoneKey = record { key = k; version = v } in d) ∷ [] else []) (sym version) in
          both
          ∙ ap₂ (λ (l m : List DoneKey). l ++ m) here (next (heard ++ ss) (subst (λ (o : Option GivenVersion). Heard k o (heard ++ ss)) (sym kept) one.1))
          ∙ ap (λ (o : Option Content). (if is_new_at (carried k past) o then version_with k past a ∷ [] else []) ++ changes_of k (past ++ a ∷ []) (airings_of xs)) (sym e)

-- a key that does not count
uncounted : (k : Key) → is_counted k.pid k.table ≡ false → (past : List AiredTables) (xs : List Aired) (h : RepeatingCycles past xs) → AllByRecursion CanBeHeard (airings_of xs) → block k (all_sent past xs h) ≡ []
uncounted k other past [] h can = refl
uncounted k other past (x ∷ xs) h can =
    block-append k h.0.sections (all_sent (past ++ x.airing ∷ []) xs h.1)
    ∙ ap₂ (λ (l m : List Counted). l ++ m) (block-uncounted past x.airing can.0 k other h.0.sections h.0.are.each) (uncounted k other (past ++ x.airing ∷ []) xs h.1 can.1)

-- what can be heard can be sent
pub sent_of : (airings : List AiredTables) → AllByRecursion CanBeHeard airings → CanBeSent airings
sent_of airings can = all_map CanBeHeard IsSendable (λ a h. record { tables = h.fit; offsets = h.offsets }) airings can

pub changes_heard : ChangesAreHeard
changes_heard airings xs is can k lt = key_told k ps ∙ ap (λ (l : List Counted). map done_key (dones [] l)) heard ∙ go (is_counted k.pid k.table) refl
  where
    ps : List (List ℕ)
    ps = map bytes_of_packet (air xs)

    cans : AllByRecursion CanBeHeard (airings_of xs)
    cans = subst (AllByRecursion CanBeHeard) (sym is.airings_are) can

    heard : of_key k (counted_heard ps) ≡ block k (all_sent [] xs is.cycles)
    heard = key_counted ps (all_sent [] xs is.cycles) k (all_heard airings xs is (sent_of airings can) k.pid lt)

    go : (b : Bool) → is_counted k.pid k.table ≡ b → map done_key (dones [] (block k (all_sent [] xs is.cycles))) ≡ (if is_counted k.pid k.table then changes_of k [] airings else [])
    go true e = changes_told k e [] xs is.cycles cans [] refl ∙ ap (changes_of k []) is.airings_are ∙ ap (λ (b : Bool). if b then changes_of k [] airings else []) (sym e)
    go false e = ap (λ (l : List Counted). map done_key (dones [] l)) (uncounted k e [] xs is.cycles cans) ∙ ap (λ (b : Bool). if b then changes_of k [] airings else []) (sym e)

pub key_heard : KeyIsHeard
key_heard airings xs is fit k lt = key_counted (map bytes_of_packet (air xs)) (sections_sent [] airings) k (air-heard airings xs is fit k.pid lt)
