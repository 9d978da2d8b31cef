-- What clap has found of one option, as options are used one after another.
use Rattle.std.proofs.Common.{◌≡◌, ◌∙◌, refl, ap, sym, subst, true, false, List, [], ◌∷◌, ◌++◌, Some, None, Option, codes, append-nil, append_assoc, inl, inr}
use Rattle.std.specs.Prelude.{find, ⊤}
use Rattle.std.specs.Str.{bytes_eq}
use Rattle.std.proofs.lemmas.Bool.{cases_Bool}
use Rattle.std.proofs.lemmas.List.Elements.{filter_map-append}
use Rattle.std.proofs.lemmas.Slice.Eq.{bytes_eq-Decides}
use Rattle.clap.specs.Simple.{built, filled}
use Rattle.clap.specs.Walk.{Row, Rule, Text, at_row, has_row, more_values, reading_by, stronger, used, with_values, without}
use Rattle.clap.specs.declared.builder.action.ArgAction.TheVariants.{Append, Set}
use Rattle.clap.specs.declared.builder.value_parser.Reading.{Reading}
use Rattle.clap.specs.declared.parser.matches.ValueSource.{ValueSource}
use Rattle.clap.specs.declared.parser.matches.ValueSource.TheVariants.{CommandLine}
use Rattle.command_words.specs.declared.setting.LiveOption.{LiveOption}
use Rattle.command_words.specs.declared.setting.LiveOption.TheVariants as option
use Rattle.command_words.specs.Matches.{live, optional, required}
use Rattle.command_words.proofs.Spelled.{Given, id_of, values}

abbrev pub rules : List Rule
rules = (built live).top.rules

abbrev pub rule : LiveOption → Rule
rule option.Feed = filled (required (codes "feed") Append)
rule option.Cycles = filled (required (codes "cycles") Set)
rule option.Join = filled (required (codes "join") Set)
rule option.View = filled (optional (codes "view") Append)

-- the row of this id
abbrev pub row_at : Text → List Row → Option Row
row_at id rows = find (λ (r : Row). bytes_eq r.id id) rows

pub none_there : (id : Text) (rows : List Row) → row_at id rows ≡ None → has_row id rows ≡ false
none_there id [] e = refl
none_there id (r ∷ rs) e = elim (cases_Bool (bytes_eq r.id id)) [
  | inl hit ↦ (let bad : Some r ≡ None = rw hit at e in cc bad)
  | inr miss ↦ rw miss (none_there id rs (rw miss at e))
]

-- ---- one use

-- what another id has stays
stays : (id other : Text) (change : Row → List Row) (missing : List Row) (rows : List Row) → bytes_eq id other ≡ false → row_at other missing ≡ None
    → ((r : Row) (rest : List Row) → bytes_eq r.id other ≡ false → row_at other (change r ++ rest) ≡ row_at other rest)
    → row_at other (at_row id change missing rows) ≡ row_at other rows
stays id other change missing [] apart none same = none
stays id other change missing (r ∷ rs) apart none same = elim (cases_Bool (bytes_eq r.id id)) [
  | inl hit ↦
      let gone : bytes_eq r.id other ≡ false = subst (λ (t : Text). bytes_eq t other ≡ false) (sym ((bytes_eq-Decides r.id id).0 hit)) apart in
      rw (hit, gone) (same r rs gone)
  | inr miss ↦ elim (cases_Bool (bytes_eq r.id other)) [
    | inl there ↦ rw (miss, there) refl
    | inr gone ↦ rw (miss, gone) (stays id other change missing rs apart none same)
  ]
]

-- the row of an id after one more use
abbrev one_row : Text → Reading → ValueSource → List Text → Option Row → Row
one_row id how s vs None = record { id = id; values = vs; count = None; source = Some s; reading = how }
one_row id how s vs (Some r) = record r { values = r.values ++ vs; source = Some (stronger r.source s) }

with_stays : (id other : Text) (how : Reading) (s : ValueSource) (vs : List Text) (rows : List Row) → bytes_eq id other ≡ false → row_at other (with_values id how s vs rows) ≡ row_at other rows
with_stays id other how s vs rows apart = stays id other (more_values s vs) (one_row id how s vs None ∷ []) rows apart (rw apart refl) (λ r rest gone. rw gone refl)

without_stays : (id other : Text) (rows : List Row) → bytes_eq id other ≡ false → row_at other (without id rows) ≡ row_at other rows
without_stays id other rows apart = stays id other (λ _. []) [] rows apart refl (λ r rest gone. refl)

pub use_stays : (o : LiveOption) (other v : Text) (rows : List Row) → bytes_eq (id_of o) other ≡ false → row_at other (used (rule o) (v ∷ []) rows) ≡ row_at other rows
use_stays option.Feed other v rows apart = with_stays (codes "feed") other _ _ (v ∷ []) rows apart
use_stays option.Cycles other v rows apart = with_stays (codes "cycles") other _ _ (v ∷ []) (without (codes "cycles") rows) apart ∙ without_stays (codes "cycles") other rows apart
use_stays option.Join other v rows apart = with_stays (codes "join") other _ _ (v ∷ []) (without (codes "join") rows) apart ∙ without_stays (codes "join") other rows apart
use_stays option.View other v rows apart = with_stays (codes "view") other _ _ (v ∷ []) rows apart

with_here : (id : Text) (how : Reading) (s : ValueSource) (vs : List Text) (rows : List Row) → bytes_eq id id ≡ true → row_at id (with_values id how s vs rows) ≡ Some (one_row id how s vs (row_at id rows))
with_here id how s vs [] e = rw e refl
with_here id how s vs (r ∷ rs) e = elim (cases_Bool (bytes_eq r.id id)) [
  | inl hit ↦ rw (hit, hit) refl
  | inr miss ↦ rw (miss, miss) (with_here id how s vs rs e)
]

without_here : (id : Text) (rows : List Row) → row_at id rows ≡ None → row_at id (without id rows) ≡ None
without_here id [] e = refl
without_here id (r ∷ rs) e = elim (cases_Bool (bytes_eq r.id id)) [
  | inl hit ↦ (let bad : Some r ≡ None = rw hit at e in cc bad)
  | inr miss ↦ rw (miss, miss) (without_here id rs (rw miss at e))
]

-- ---- many

-- the row of an option that has these values
abbrev pub row_for : LiveOption → List Text → Option Row
row_for o [] = None
row_for o (v ∷ vs) = Some (record { id = id_of o; values = v ∷ vs; count = None; source = Some CommandLine; reading = reading_by (rule o) })

abbrev pub AtMostOne : List Text → Type 0
AtMostOne [] = ⊤
AtMostOne (v ∷ []) = ⊤
AtMostOne (v ∷ w ∷ vs) = ⊥

-- only `--feed` and `--view` may have several values
abbrev pub MayHave : LiveOption → List Text → Type 0
MayHave option.Feed vs = ⊤
MayHave option.Cycles vs = AtMostOne vs
MayHave option.Join vs = AtMostOne vs
MayHave option.View vs = ⊤

-- a use of `--cycles` or of `--join` where it has no row
first_use : (id : Text) (how : Reading) (v : Text) (rows : List Row) → bytes_eq id id ≡ true → row_at id rows ≡ None → row_at id (with_values id how CommandLine (v ∷ []) (without id rows)) ≡ Some (one_row id how CommandLine (v ∷ []) None)
first_use id how v rows e none = with_here id how CommandLine (v ∷ []) (without id rows) e ∙ ap (λ (o : Option Row). Some (one_row id how CommandLine (v ∷ []) o)) (without_here id rows none)

pub use_here : (o : LiveOption) (v : Text) (vs more : List Text) (rows : List Row) → row_at (id_of o) rows ≡ row_for o vs → MayHave o (vs ++ v ∷ more) → row_at (id_of o) (used (rule o) (v ∷ []) rows) ≡ row_for o (vs ++ v ∷ [])
use_here option.Feed v [] more rows is may = with_here (codes "feed") (reading_by (rule option.Feed)) CommandLine (v ∷ []) rows refl ∙ ap (λ (o : Option Row). Some (one_row (codes "feed") (reading_by (rule option.Feed)) CommandLine (v ∷ []) o)) is
use_here option.Feed v (w ∷ vs) more rows is may = with_here (codes "feed") (reading_by (rule option.Feed)) CommandLine (v ∷ []) rows refl ∙ ap (λ (o : Option Row). Some (one_row (codes "feed") (reading_by (rule option.Feed)) CommandLine (v ∷ []) o)) is
use_here option.Cycles v [] more rows is may = first_use (codes "cycles") (reading_by (rule option.Cycles)) v rows refl is
use_here option.Cycles v (w ∷ []) more rows is may = absurd may
use_here option.Cycles v (w ∷ x ∷ vs) more rows is may = absurd may
use_here option.Join v [] more rows is may = first_use (codes "join") (reading_by (rule option.Join)) v rows refl is
use_here option.Join v (w ∷ []) more rows is may = absurd may
use_here option.Join v (w ∷ x ∷ vs) more rows is may = absurd may
use_here option.View v [] more rows is may = with_here (codes "view") (reading_by (rule option.View)) CommandLine (v ∷ []) rows refl ∙ ap (λ (o : Option Row). Some (one_row (codes "view") (reading_by (rule option.View)) CommandLine (v ∷ []) o)) is
use_here option.View v (w ∷ vs) more rows is may = with_here (codes "view") (reading_by (rule option.View)) CommandLine (v ∷ []) rows refl ∙ ap (λ (o : Option Row). Some (one_row (codes "view") (reading_by (rule option.View)) CommandLine (v ∷ []) o)) is

-- the rows are those of these options
abbrev pub Holds : List Row → List Given → Type 0
Holds rows gs = (o : LiveOption) → row_at (id_of o) rows ≡ row_for o (values o gs)

abbrev pub MayCome : List Given → Type 0
MayCome gs = (o : LiveOption) → MayHave o (values o gs)

-- the rows after these options
abbrev pub rows_with : List Row → List Given → List Row
rows_with rows [] = rows
rows_with rows (g ∷ gs) = rows_with (used (rule g.0) (g.1 ∷ []) rows) gs

after_other : (o by : LiveOption) (v : Text) (vs : List Text) (rows : List Row) → bytes_eq (id_of by) (id_of o) ≡ false → row_at (id_of o) rows ≡ row_for o vs → row_at (id_of o) (used (rule by) (v ∷ []) rows) ≡ row_for o (vs ++ [])
after_other o by v vs rows apart is = use_stays by (id_of o) v rows apart ∙ is ∙ ap (row_for o) (sym (append-nil vs))

after_one : (o by : LiveOption) (v : Text) (vs : List Text) (gs : List Given) (rows : List Row) → row_at (id_of o) rows ≡ row_for o vs → MayHave o (vs ++ values o ((by, v) ∷ gs))
    → row_at (id_of o) (used (rule by) (v ∷ []) rows) ≡ row_for o (vs ++ values o ((by, v) ∷ []))
after_one option.Feed option.Feed v vs gs rows is may = use_here option.Feed v vs (values option.Feed gs) rows is may
after_one option.Feed option.Cycles v vs gs rows is may = after_other option.Feed option.Cycles v vs rows refl is
after_one option.Feed option.Join v vs gs rows is may = after_other option.Feed option.Join v vs rows refl is
after_one option.Cycles option.Feed v vs gs rows is may = after_other option.Cycles option.Feed v vs rows refl is
after_one option.Cycles option.Cycles v vs gs rows is may = use_here option.Cycles v vs (values option.Cycles gs) rows is may
after_one option.Cycles option.Join v vs gs rows is may = after_other option.Cycles option.Join v vs rows refl is
after_one option.Join option.Feed v vs gs rows is may = after_other option.Join option.Feed v vs rows refl is
after_one option.Join option.Cycles v vs gs rows is may = after_other option.Join option.Cycles v vs rows refl is
after_one option.Join option.Join v vs gs rows is may = use_here option.Join v vs (values option.Join gs) rows is may
after_one option.Feed option.View v vs gs rows is may = after_other option.Feed option.View v vs rows refl is
after_one option.Cycles option.View v vs gs rows is may = after_other option.Cycles option.View v vs rows refl is
after_one option.Join option.View v vs gs rows is may = after_other option.Join option.View v vs rows refl is
after_one option.View option.Feed v vs gs rows is may = after_other option.View option.Feed v vs rows refl is
after_one option.View option.Cycles v vs gs rows is may = after_other option.View option.Cycles v vs rows refl is
after_one option.View option.Join v vs gs rows is may = after_other option.View option.Join v vs rows refl is
after_one option.View option.View v vs gs rows is may = use_here option.View v vs (values option.View gs) rows is may

pub values_on : (o : LiveOption) (before gs : List Given) → values o (before ++ gs) ≡ values o before ++ values o gs
values_on o before gs = filter_map-append _ before gs

pub holds_more : (before : List Given) (g : Given) (gs : List Given) (rows : List Row) → Holds rows before → MayCome (before ++ g ∷ gs) → Holds (used (rule g.0) (g.1 ∷ []) rows) (before ++ g ∷ [])
holds_more before g gs rows is may = λ o.
    after_one o g.0 g.1 (values o before) gs rows (is o) (subst (MayHave o) (values_on o before (g ∷ gs)) (may o)) ∙ ap (row_for o) (sym (values_on o before (g ∷ [])))

pub come_on : (before : List Given) (g : Given) (gs : List Given) → MayCome (before ++ g ∷ gs) → MayCome ((before ++ g ∷ []) ++ gs)
come_on before g gs may = subst MayCome (sym (append_assoc before (g ∷ []) gs)) may

pub holds_all : (gs before : List Given) (rows : List Row) → Holds rows before → MayCome (before ++ gs) → Holds (rows_with rows gs) (before ++ gs)
holds_all [] before rows is may = subst (Holds rows) (sym (append-nil before)) is
holds_all (g ∷ gs) before rows is may =
    subst (Holds (rows_with (used (rule g.0) (g.1 ∷ []) rows) gs)) (append_assoc before (g ∷ []) gs) (holds_all gs (before ++ g ∷ []) (used (rule g.0) (g.1 ∷ []) rows) (holds_more before g gs rows is may) (come_on before g gs may))
