-- A completed content begins with number 0.
use Rattle.std.proofs.Common.{◌≡◌, ℕ, suc, ◌+◌, ◌-◌, ◌*◌, List, [], ◌∷◌, ◌++◌, Bool, true, false, refl, sym, ap, ◌∙◌, subst, arith}
use Rattle.std.specs.Prelude.{if◌then◌else◌, Option, Some, None, option_map}
use Rattle.std.specs.List.{AllByRecursion}
use Rattle.section_codec.specs.declared.table.Key.{Key}
use Rattle.section_codec.specs.declared.table.NumberedBody.{NumberedBody}
use Rattle.section_codec.specs.Tables.{is_eit}
use Rattle.section_codec.specs.Contents.{Content, numbers_from}
use Rattle.section_codec.specs.Segments.{segment_of, numbers_in_segment, and_numbers, segments_need}
use Rattle.sub_collect.specs.Runs.{Counted, latest_section, latest_with, last_told, needed_at, with_part, gathered, gathered_at, whole, run_of, completed}
use Rattle.sub_collect.specs.Completions.{done_at, completion_at, completion, latest_done}
use Rattle.sub_collect.specs.Marks.{Taken, since_mark, completions_over, latest_over, content_over}
use Rattle.sub_collect.specs.MarkLaws.{IsSinceMark}
use Rattle.sub_collect.specs.declared.completed.Completed.{Completed}
use Rattle.sub_collect.proofs.Marking.{completed_since_mark}

-- a content whose first section has number 0
pub record BeginsAtZero (c : Content) : Type 0 where
  pub first : NumberedBody
  pub rest : Content
  pub cut : c ≡ first ∷ rest
  pub zero_is : first.number ≡ 0

-- numbers that begin with 0
abbrev AreFromZero : List ℕ → Type 0
AreFromZero ns = (rest : List ℕ) × (ns ≡ 0 ∷ rest)

segments_begin : (last_of : ℕ → Option ℕ) (n many : ℕ) (ns : List ℕ) → n ≡ suc many → segments_need last_of 0 n ≡ Some ns → AreFromZero ns
segments_begin last_of n many ns more e = go (last_of 0) (segments_need last_of 1 many) (ap (segments_need last_of 0) (sym more) ∙ e)
  where
    go : (o : Option ℕ) (more : Option (List ℕ)) → and_numbers (option_map (numbers_in_segment 0) o) more ≡ Some ns → AreFromZero ns
    go None more f = cc
    go (Some last) None f = cc
    go (Some last) (Some ms) f =
        let g : numbers_in_segment 0 last ++ ms ≡ ns = cc in
        (numbers_from 1 last ++ ms, sym g ∙ ap (λ (k : ℕ). numbers_from 0 k ++ ms) (let h : suc last ≡ 1 + last - 8 * 0 = omega arith in sym h))

needed_begin : (run : List Counted) (o : Option Counted) (ns : List ℕ) → needed_at run o ≡ Some ns → AreFromZero ns
needed_begin run None ns e = cc
needed_begin run (Some s) ns e = go (is_eit s.key.table) e
  where
    go : (b : Bool) → (if b then segments_need (last_told run) 0 (1 + segment_of s.last) else Some (numbers_from 0 (1 + s.last))) ≡ Some ns → AreFromZero ns
    go true f = segments_begin (last_told run) (1 + segment_of s.last) (segment_of s.last) ns (let h : 1 + segment_of s.last ≡ suc (segment_of s.last) = omega arith in h) f
    go false f =
        let g : numbers_from 0 (1 + s.last) ≡ ns = cc in
        (numbers_from 1 s.last, sym g ∙ ap (numbers_from 0) (let h : 1 + s.last ≡ suc s.last = omega arith in h))

gathered_begin : (run : List Counted) (rest : List ℕ) (c : Content) → gathered run (0 ∷ rest) ≡ Some c → BeginsAtZero c
gathered_begin run rest c e = go (latest_with 0 run) (gathered run rest) e
  where
    go : (o : Option Counted) (more : Option Content) → with_part 0 o more ≡ Some c → BeginsAtZero c
    go None more f = cc
    go (Some s) None f = cc
    go (Some s) (Some parts) f =
        let part : NumberedBody = record { number = 0; body = s.body } in
        let g : part ∷ parts ≡ c = cc in
        record { first = part; rest = parts; cut = sym g; zero_is = refl }

whole_begins : (run : List Counted) (c : Content) → whole run ≡ Some c → BeginsAtZero c
whole_begins run c e = go (needed_at run (latest_section run)) refl e
  where
    go : (o : Option (List ℕ)) → needed_at run (latest_section run) ≡ o → gathered_at run o ≡ Some c → BeginsAtZero c
    go None p f = cc
    go (Some ns) p f =
        let from = needed_begin run (latest_section run) ns p in
        gathered_begin run from.0 c (ap (gathered run) (sym from.1) ∙ f)

completion_begins : (heard : List Counted) (d : Completed) → completion heard ≡ Some d → BeginsAtZero d.sections
completion_begins heard d e = go (latest_section heard) (completed heard) refl e
  where
    go : (o : Option Counted) (content : Option Content) → completed heard ≡ content → completion_at o content ≡ Some d → BeginsAtZero d.sections
    go None content p f = cc
    go (Some s) None p f = cc
    go (Some s) (Some c) p f =
        let g : done_at s c ≡ d = cc in
        subst BeginsAtZero (ap (λ (x : Completed). x.sections) g) (whole_begins (run_of heard) c p)

-- what holds of all of them holds of the last
last_of_all : (P : Completed → Type 0) (ds : List Completed) (d : Completed) → AllByRecursion P ds → latest_done ds ≡ Some d → P d
last_of_all P [] d all e = cc
last_of_all P (x ∷ []) d all e = subst P (let f : x ≡ d = cc in f) all.0
last_of_all P (x ∷ y ∷ ds) d all e = last_of_all P (y ∷ ds) d all.1 e

pub content_begins : (past : List Taken) (k : Key) (c : Content) → content_over past k ≡ Some c → BeginsAtZero c
content_begins past k c e = go (latest_over k past) refl e
  where
    go : (o : Option Completed) → latest_over k past ≡ o → option_map (λ (d : Completed). d.sections) o ≡ Some c → BeginsAtZero c
    go None p f = cc
    go (Some d) p f =
        let made : IsSinceMark k past d = last_of_all (IsSinceMark k past) (completions_over k past) d (completed_since_mark k past) p in
        let g : d.sections ≡ c = cc in
        subst BeginsAtZero g (completion_begins (since_mark k made.front) d made.made)
