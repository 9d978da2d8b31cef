-- Clap takes the words of the grammar, and finds in them what they say.
use Rattle.std.proofs.Common.{◌≡◌, ◌∙◌, refl, ap, sym, subst, true, false, ℕ, List, [], ◌∷◌, ◌++◌, map, Some, None, Option, codes}
use Rattle.std.specs.Prelude.{Bool, ◌&&◌, filter_map, IsSome, is_some, option_and_then, option_map, slice_get}
use Rattle.std.specs.List.{list_all}
use Rattle.si_lists.proofs.Truths.{and_true}
use Rattle.clap.proofs.WalkLemmas.{first_value-rows, raw_values-rows}
use Rattle.clap.specs.Matches.{matched_of, raw_values}
use Rattle.clap.specs.Simple.{built, entered, is_simple, matches_of}
use Rattle.clap.specs.Takes.{default_passes, entered_passes, is_given, is_valid, settle_passes, takes, use_passes, walk_passes}
use Rattle.clap.specs.Walk.{Row, Text, Walk, finished, nothing_held, rows_of, used, walk_from}
use Rattle.clap.specs.declared.parser.matches.Found.{Found}
use Rattle.input_lines.specs.Numbers.{number_in}
use Rattle.command_words.specs.declared.setting.LiveOption.{LiveOption}
use Rattle.command_words.specs.declared.setting.LiveOption.TheVariants as option
use Rattle.command_words.specs.Grammar.{CommandLine, Live, Setting, live_of, settings_of, view_of}
use Rattle.command_words.specs.Matches.{Say, live, values_or_none}
use Rattle.command_words.proofs.Spelled.{Given, Gives, Parts, Values, id_of, parts_of, spelled, values, values_said}
use Rattle.command_words.proofs.Found.{Holds, MayCome, MayHave, come_on, holds_all, holds_more, none_there, row_at, row_for, rows_with, rule, rules, values_on}
use Rattle.command_words.proofs.Walking.{Walks, finish, top, uses_pass, walks}

-- ---- each use passes

use_passes_now : (o : LiveOption) (v : Text) (vs more : List Text) (rows : List Row) → row_at (id_of o) rows ≡ row_for o vs → MayHave o (vs ++ v ∷ more) → use_passes false (rule o) (v ∷ []) rows ≡ true
use_passes_now option.Feed v vs more rows is may = refl
use_passes_now option.Cycles v [] more rows is may = rw (none_there (codes "cycles") rows is) refl
use_passes_now option.Cycles v (w ∷ []) more rows is may = absurd may
use_passes_now option.Cycles v (w ∷ x ∷ vs) more rows is may = absurd may
use_passes_now option.Join v [] more rows is may = rw (none_there (codes "join") rows is) refl
use_passes_now option.Join v (w ∷ []) more rows is may = absurd may
use_passes_now option.Join v (w ∷ x ∷ vs) more rows is may = absurd may
use_passes_now option.View v vs more rows is may = refl

-- the option that comes next among these
next_may : (o : LiveOption) (v : Text) (before gs : List Given) → MayCome (before ++ (o, v) ∷ gs) → MayHave o (values o before ++ v ∷ values o gs)
next_may option.Feed v before gs may = tt
next_may option.Cycles v before gs may = subst (MayHave option.Cycles) (values_on option.Cycles before ((option.Cycles, v) ∷ gs)) (may option.Cycles)
next_may option.Join v before gs may = subst (MayHave option.Join) (values_on option.Join before ((option.Join, v) ∷ gs)) (may option.Join)
next_may option.View v before gs may = tt

all_pass : (gs before : List Given) (rows : List Row) → Holds rows before → MayCome (before ++ gs) → uses_pass rows gs ≡ true
all_pass [] before rows is may = refl
all_pass (g ∷ gs) before rows is may =
    let now = use_passes_now g.0 g.1 (values g.0 before) (values g.0 gs) rows (is g.0) (next_may g.0 g.1 before gs may) in
    and_true (use_passes false (rule g.0) (g.1 ∷ []) rows) (uses_pass (used (rule g.0) (g.1 ∷ []) rows) gs) now ∙ all_pass gs (before ++ g ∷ []) (used (rule g.0) (g.1 ∷ []) rows) (holds_more before g gs rows is may) (come_on before g gs may)

-- ---- the words of a `live`

-- each option but `--view` has a value, `--cycles` and `--join` one
pub record Whole (words : List Text) (line : CommandLine) : Type 0 where
  pub gs : List Given
  pub gives : Gives words gs
  pub feed : Text
  pub feeds : List Text
  pub cycles_text : Text
  pub join_text : Text
  pub cycles : ℕ
  pub join : ℕ
  pub views : List ℕ
  pub feeds_are : values option.Feed gs ≡ feed ∷ feeds
  pub cycles_are : values option.Cycles gs ≡ cycles_text ∷ []
  pub join_is : values option.Join gs ≡ join_text ∷ []
  pub cycles_read : number_in 1 1000 cycles_text ≡ Some cycles
  pub join_read : number_in 0 999999999 join_text ≡ Some join
  pub views_read : map (number_in 0 65535) (values option.View gs) ≡ map (λ (n : ℕ). Some n) views
  pub line_is : line ≡ Live (feed ∷ feeds) cycles join views

one_value : (read : Text → Option ℕ) (vs : List Text) (n : ℕ) → map read vs ≡ Some n ∷ [] → (v : Text) × (vs ≡ v ∷ []) × (read v ≡ Some n)
one_value read [] n e = cc e
one_value read (v ∷ []) n e = (v, refl, (let is : read v ≡ Some n = cc e in is))
one_value read (v ∷ w ∷ vs) n e = cc e

some_settings : (o : Option (List Setting)) (line : CommandLine) → option_and_then live_of o ≡ Some line → (settings : List Setting) × (o ≡ Some settings) × (live_of settings ≡ Some line)
some_settings None line e = cc e
some_settings (Some settings) line e = (settings, refl, e)

whole : (words : List Text) (line : CommandLine) → option_and_then live_of (settings_of words) ≡ Some line → Whole words line
whole words line e =
    let (settings, some, is) = some_settings (settings_of words) line e in
    let (gs, gives, said) = spelled words settings some in
    let vs : Values gs settings = values_said gs settings said in
    let p : Parts settings line = parts_of settings line is in
    let (c, c_is, c_reads) = one_value (number_in 1 1000) (values option.Cycles gs) p.cycles (vs.cycles ∙ ap (map (λ (n : ℕ). Some n)) p.cycles_are) in
    let (j, j_is, j_reads) = one_value (number_in 0 999999999) (values option.Join gs) p.join (vs.join ∙ ap (map (λ (n : ℕ). Some n)) p.join_is) in
    record {
      gs = gs;
      gives = gives;
      feed = p.feed;
      feeds = p.feeds;
      cycles_text = c;
      join_text = j;
      cycles = p.cycles;
      join = p.join;
      views = filter_map view_of settings;
      feeds_are = vs.feeds ∙ p.feeds_are;
      cycles_are = c_is;
      join_is = j_is;
      cycles_read = c_reads;
      join_read = j_reads;
      views_read = vs.views;
      line_is = p.line_is;
    }

may_come : (words : List Text) (line : CommandLine) (w : Whole words line) → MayCome w.gs
may_come words line w = by
  where
    by : (o : LiveOption) → MayHave o (values o w.gs)
    by option.Feed = tt
    by option.Cycles = subst (MayHave option.Cycles) (sym w.cycles_are) tt
    by option.Join = subst (MayHave option.Join) (sym w.join_is) tt
    by option.View = tt

holds_none : Holds [] []
holds_none option.Feed = refl
holds_none option.Cycles = refl
holds_none option.Join = refl
holds_none option.View = refl

holds_end : (words : List Text) (line : CommandLine) (w : Whole words line) → Holds (rows_with [] w.gs) w.gs
holds_end words line w = holds_all w.gs [] [] holds_none (may_come words line w)

walks_all : (words : List Text) (line : CommandLine) (w : Whole words line) → Walks nothing_held words w.gs
walks_all words line w = walks w.gs words nothing_held w.gives refl (all_pass w.gs [] [] holds_none (may_come words line w))

-- ---- clap takes them

has_value : (o : LiveOption) (v : Text) (vs : List Text) (rows : List Row) → row_at (id_of o) rows ≡ row_for o (v ∷ vs) → is_given (id_of o) rows ≡ true
has_value o v vs rows e = rw e refl

abbrev level_ok : Walk → List Text → Bool
level_ok w words = walk_passes top [] (walk_from nothing_held) words && (settle_passes rules false w.held
    && (list_all default_passes rules && is_valid top (finished rules w.held) (is_some (entered (built live) w.stopped))))

taken_whole : (words : List Text) (line : CommandLine) (w : Whole words line) → takes live words ≡ true
taken_whole words line w =
    let walk : Walks nothing_held words w.gs = walks_all words line w in
    let holds = holds_end words line w in
    let rows_are : finished rules walk.end ≡ rows_with [] w.gs = finish walk.end ∙ walk.rows in
    let given : (o : LiveOption) (v : Text) (vs : List Text) → values o w.gs ≡ v ∷ vs → is_given (id_of o) (finished rules walk.end) ≡ true =
    λ o v vs e. subst (λ (l : List Row). is_given (id_of o) l ≡ true) (sym rows_are) (has_value o v vs (rows_with [] w.gs) (holds o ∙ ap (row_for o) e)) in
    let Q : Walk → Type 0 = λ z. (entered_passes (built live) z.stopped && level_ok z words) ≡ true in
    subst Q (sym walk.there)
    (rw (walk.passes, walk.settles_end, given option.Feed w.feed w.feeds w.feeds_are, given option.Cycles w.cycles_text [] w.cycles_are, given option.Join w.join_text [] w.join_is) refl)

pub taken : (words : List Text) → IsSome (option_and_then live_of (settings_of words)) → takes live words ≡ true
taken words some = by (option_and_then live_of (settings_of words)) refl some
  where
    by : (o : Option CommandLine) → option_and_then live_of (settings_of words) ≡ o → IsSome o → takes live words ≡ true
    by None e is = cc is
    by (Some line) e is = taken_whole words line (whole words line e)

-- ---- and finds what they say

found_rows : (words : List Text) (line : CommandLine) (w : Whole words line) → matches_of live words ≡ rows_with [] w.gs
found_rows words line w =
    let walk : Walks nothing_held words w.gs = walks_all words line w in
    ap (λ (z : Walk). finished rules z.held) walk.there ∙ finish walk.end ∙ walk.rows

-- the values of the row of views
row_values : (vs : List Text) → values_or_none (option_map (λ (r : Row). r.values) (row_for option.View vs)) ≡ vs
row_values [] = refl
row_values (v ∷ vs) = refl

pub says : (words : List Text) (line : CommandLine) (found : Found) → option_and_then live_of (settings_of words) ≡ Some line → rows_of found ≡ matches_of live words → Say found line
says words line found e rows =
    let w : Whole words line = whole words line e in
    let holds = holds_end words line w in
    let all : rows_of found ≡ rows_with [] w.gs = rows ∙ found_rows words line w in
    let row : (o : LiveOption) (v : Text) (vs : List Text) → values o w.gs ≡ v ∷ vs → row_at (id_of o) (rows_of found) ≡ row_for o (v ∷ vs) =
    λ o v vs is. ap (row_at (id_of o)) all ∙ holds o ∙ ap (row_for o) is in
    let first = λ (r : Option Row). option_and_then (λ (x : Row). slice_get x.values 0) r in
    let feeds = raw_values-rows found (codes "feed") ∙ ap (option_map (λ (r : Row). r.values)) (row option.Feed w.feed w.feeds w.feeds_are) in
    let cycles = ap (option_and_then (number_in 1 1000)) (first_value-rows found (codes "cycles") ∙ ap first (row option.Cycles w.cycles_text [] w.cycles_are)) ∙ w.cycles_read in
    let join = ap (option_and_then (number_in 0 999999999)) (first_value-rows found (codes "join") ∙ ap first (row option.Join w.join_text [] w.join_is)) ∙ w.join_read in
    let views : map (number_in 0 65535) (values_or_none (option_map raw_values (matched_of found (codes "view")))) ≡ map (λ (n : ℕ). Some n) w.views =
    ap (λ (o : Option (List Text)). map (number_in 0 65535) (values_or_none o)) (raw_values-rows found (codes "view") ∙ ap (option_map (λ (r : Row). r.values)) (ap (row_at (id_of option.View)) all ∙ holds option.View))
    ∙ ap (map (number_in 0 65535)) (row_values (values option.View w.gs)) ∙ w.views_read in
    subst (Say found) (sym w.line_is) (feeds, cycles, join, views)

pub simple : is_simple live ≡ true
simple = refl
