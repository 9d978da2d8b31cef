-- Words of the grammar as options, each with a value that is text.
use Rattle.std.proofs.Common.{◌≡◌, ◌≢◌, ◌⊎◌, inl, inr, ◌∙◌, refl, ap, ap₂, sym, true, false, ℕ, List, [], ◌∷◌, ◌++◌, length, map, Some, None, Option, codes, arith, ◌<◌}
use Rattle.std.specs.Prelude.{Bool, bytes_eq, filter_map, get_or, option_map, if◌then◌else◌, ◌||◌, ◌&&◌, nat_le}
use Rattle.std.specs.List.{list_any, position_or_len, before_first, after_first}
use Rattle.std.proofs.lemmas.Bool.{cases_Bool, eqb-true}
use Rattle.std.proofs.lemmas.List.Sums.{passes_at_first, split_at_first}
use Rattle.std.proofs.lemmas.Slice.Eq.{bytes_eq-Decides}
use Rattle.input_lines.specs.Numbers.{in_range, number_in}
use Rattle.command_words.specs.declared.setting.LiveOption.{LiveOption}
use Rattle.command_words.specs.declared.setting.LiveOption.TheVariants as option
use Rattle.command_words.specs.Grammar.{CommandLine, Live, Setting, Feed, Cycles, Join, View, and_setting, cycles_of, feed_of, is_dashed, is_empty, is_equals, join_of, view_of, live_of, live_with, setting_in, setting_of, settings_of}

-- its name behind `--`
abbrev pub id_of : LiveOption → List ℕ
id_of option.Feed = codes "feed"
id_of option.Cycles = codes "cycles"
id_of option.Join = codes "join"
id_of option.View = codes "view"

abbrev pub dashed : LiveOption → List ℕ
dashed o = 45 ∷ 45 ∷ id_of o

-- an option and its value
abbrev pub Given : Type 0
Given = LiveOption × List ℕ

-- a word that does not begin with `-` (45)
abbrev pub IsBare : List ℕ → Type 0
IsBare v = get_or v 0 0 ≢ 45

-- the words give these options, each in one word with `=` (61), or in two
abbrev pub Gives : List (List ℕ) → List Given → Type 0
Gives words [] = words ≡ []
Gives words (g ∷ gs) = (rest : List (List ℕ))
    × ((words ≡ (dashed g.0 ++ 61 ∷ g.1) ∷ rest) ⊎ ((words ≡ dashed g.0 ∷ g.1 ∷ rest) × IsBare g.1))
    × Gives rest gs

-- they say these settings
abbrev pub AreSaid : List Given → List Setting → Type 0
AreSaid [] settings = settings ≡ []
AreSaid (g ∷ gs) settings = (setting : Setting) × (rest : List Setting)
    × (settings ≡ setting ∷ rest) × (setting_of (dashed g.0) g.1 ≡ Some setting) × AreSaid gs rest

-- ---- the option at the front of words

-- a name that has settings is one of the four
named : (name value : List ℕ) (setting : Setting) → setting_of name value ≡ Some setting → (o : LiveOption) × (name ≡ dashed o)
named name value setting e = elim (cases_Bool (bytes_eq name (codes "--feed"))) [
  | inl is ↦ (option.Feed, (bytes_eq-Decides name (codes "--feed")).0 is)
  | inr not ↦ elim (cases_Bool (bytes_eq name (codes "--cycles"))) [
    | inl is ↦ (option.Cycles, (bytes_eq-Decides name (codes "--cycles")).0 is)
    | inr nor ↦ elim (cases_Bool (bytes_eq name (codes "--join"))) [
      | inl is ↦ (option.Join, (bytes_eq-Decides name (codes "--join")).0 is)
      | inr none ↦ elim (cases_Bool (bytes_eq name (codes "--view"))) [
        | inl is ↦ (option.View, (bytes_eq-Decides name (codes "--view")).0 is)
        | inr one ↦ (let bad : None ≡ Some setting = rw (not, nor, none, one) at e in cc bad)
      ]
    ]
  ]
]

inside : (word : List ℕ) → list_any is_equals word ≡ true → position_or_len is_equals word < length word
inside [] e = cc e
inside (b ∷ bs) e = elim (cases_Bool (is_equals b)) [
  | inl here ↦ rw here (omega arith)
  | inr not ↦ (let rest : position_or_len is_equals bs < length bs = inside bs (rw not at e) in rw not (omega (arith, rest)))
]

-- a word with `=` is what stands before the first, `=`, and what stands behind it
parted : (word : List ℕ) → list_any is_equals word ≡ true → word ≡ before_first is_equals word ++ 61 ∷ after_first is_equals word
parted word e =
    let at = inside word e in
    split_at_first is_equals word 61 at ∙ ap (λ b. before_first is_equals word ++ b ∷ after_first is_equals word) (eqb-true _ 61 (passes_at_first is_equals word 61 at))

bare : (value : List ℕ) → is_dashed value ≡ false → IsBare value
bare [] e = λ is. cc is
bare (b ∷ bs) e = λ is. (let yes : is_dashed (b ∷ bs) ≡ true = rw is refl in cc (yes, e))

both : (found : Option Setting) (others : Option (List Setting)) (settings : List Setting) → and_setting found others ≡ Some settings
    → (setting : Setting) × (rest : List Setting) × (settings ≡ setting ∷ rest) × (found ≡ Some setting) × (others ≡ Some rest)
both None others settings e = cc e
both (Some setting) None settings e = cc e
both (Some setting) (Some rest) settings e = (setting, rest, (let is : settings ≡ setting ∷ rest = cc e in is), refl, refl)

-- ---- all of them

abbrev Spells : List (List ℕ) → List Setting → Type 0
Spells words settings = (gs : List Given) × Gives words gs × AreSaid gs settings

in_one : (word : List ℕ) (words : List (List ℕ)) (settings : List Setting) → list_any is_equals word ≡ true → and_setting (setting_in word) (settings_of words) ≡ Some settings
    → ((rest : List Setting) → settings_of words ≡ Some rest → Spells words rest) → Spells (word ∷ words) settings
in_one word words settings has e others =
    let (setting, rest, is, here, more) = both (setting_in word) (settings_of words) settings e in
    let (gs, gives, said) = others rest more in
    let value = after_first is_equals word in
    let (o, name) = named (before_first is_equals word) value setting here in
    let whole : word ≡ dashed o ++ 61 ∷ value = parted word has ∙ ap (λ n. n ++ 61 ∷ value) name in
    ((o, value) ∷ gs, (words, inl (ap (λ w. w ∷ words) whole), gives), (setting, rest, is, ap (λ n. setting_of n value) (sym name) ∙ here, said))

in_two : (word value : List ℕ) (words : List (List ℕ)) (settings : List Setting) → is_dashed value ≡ false → and_setting (setting_of word value) (settings_of words) ≡ Some settings
    → ((rest : List Setting) → settings_of words ≡ Some rest → Spells words rest) → Spells (word ∷ value ∷ words) settings
in_two word value words settings free e others =
    let (setting, rest, is, here, more) = both (setting_of word value) (settings_of words) settings e in
    let (gs, gives, said) = others rest more in
    let (o, name) = named word value setting here in
    ((o, value) ∷ gs, (words, inr (ap (λ w. w ∷ value ∷ words) name, bare value free), gives), (setting, rest, is, ap (λ n. setting_of n value) (sym name) ∙ here, said))

pub spelled : (words : List (List ℕ)) (settings : List Setting) → settings_of words ≡ Some settings → Spells words settings
spelled [] settings e = ([], refl, (let is : settings ≡ [] = cc e in is))
spelled (word ∷ []) settings e = elim (cases_Bool (list_any is_equals word)) [
  | inl has ↦ in_one word [] settings has (rw has at e) (spelled [])
  | inr not ↦ (let bad : None ≡ Some settings = rw not at e in cc bad)
]
spelled (word ∷ next ∷ words) settings e = elim (cases_Bool (list_any is_equals word)) [
  | inl has ↦ in_one word (next ∷ words) settings has (rw has at e) (spelled (next ∷ words))
  | inr not ↦ elim (cases_Bool (is_dashed next)) [
    | inl bad ↦ (let none : None ≡ Some settings = rw (not, bad) at e in cc none)
    | inr free ↦ in_two word next words settings free (rw (not, free) at e) (spelled words)
  ]
]

-- ---- what they say

if_some : {X : Type 0} (is : Bool) (x y : X) → (if is then Some x else None) ≡ Some y → y ≡ x
if_some true x y e = let is : y ≡ x = cc e in is
if_some false x y e = cc e

else_some : {X : Type 0} (is : Bool) (x y : X) → (if is then None else Some x) ≡ Some y → y ≡ x
else_some true x y e = cc e
else_some false x y e = let is : y ≡ x = cc e in is

map_some : {X Y : Type 0} (f : X → Y) (o : Option X) (y : Y) → option_map f o ≡ Some y → (x : X) × (o ≡ Some x) × (y ≡ f x)
map_some f None y e = cc e
map_some f (Some x) y e = (x, refl, (let is : y ≡ f x = cc e in is))

-- the values of an option, in order
abbrev pub value_of : LiveOption → Given → Option (List ℕ)
value_of o g = if bytes_eq (id_of g.0) (id_of o) then Some g.1 else None

abbrev pub values : LiveOption → List Given → List (List ℕ)
values o gs = filter_map (value_of o) gs

pub record Values (gs : List Given) (settings : List Setting) : Type 0 where
  pub feeds : values option.Feed gs ≡ filter_map feed_of settings
  pub cycles : map (number_in 1 1000) (values option.Cycles gs) ≡ map (λ n. Some n) (filter_map cycles_of settings)
  pub join : map (number_in 0 999999999) (values option.Join gs) ≡ map (λ n. Some n) (filter_map join_of settings)
  pub views : map (number_in 0 65535) (values option.View gs) ≡ map (λ n. Some n) (filter_map view_of settings)

one_more : (o : LiveOption) (v : List ℕ) (gs : List Given) (setting : Setting) (rest : List Setting) → setting_of (dashed o) v ≡ Some setting → Values gs rest → Values ((o, v) ∷ gs) (setting ∷ rest)
one_more option.Feed v gs setting rest e vs =
    let is : setting ≡ Feed v = else_some (is_empty v || bytes_eq v (codes "-")) (Feed v) setting e in
    rw is (record { feeds = ap (λ l. v ∷ l) vs.feeds; cycles = vs.cycles; join = vs.join; views = vs.views })
one_more option.Cycles v gs setting rest e vs =
    let (n, number, is) = map_some Cycles (number_in 1 1000 v) setting e in
    rw is (record { feeds = vs.feeds; cycles = ap₂ (λ a l. a ∷ l) number vs.cycles; join = vs.join; views = vs.views })
one_more option.Join v gs setting rest e vs =
    let (n, number, is) = map_some Join (number_in 0 999999999 v) setting e in
    rw is (record { feeds = vs.feeds; cycles = vs.cycles; join = ap₂ (λ a l. a ∷ l) number vs.join; views = vs.views })
one_more option.View v gs setting rest e vs =
    let (n, number, is) = map_some View (number_in 0 65535 v) setting e in
    rw is (record { feeds = vs.feeds; cycles = vs.cycles; join = vs.join; views = ap₂ (λ a l. a ∷ l) number vs.views })

pub values_said : (gs : List Given) (settings : List Setting) → AreSaid gs settings → Values gs settings
values_said [] settings e = rw e (record { feeds = refl; cycles = refl; join = refl; views = refl })
values_said (g ∷ gs) settings (setting, rest, is, here, more) = rw is (one_more g.0 g.1 gs setting rest here (values_said gs rest more))

-- a `live`: its feeds, and one number each
pub record Parts (settings : List Setting) (line : CommandLine) : Type 0 where
  pub feed : List ℕ
  pub feeds : List (List ℕ)
  pub cycles : ℕ
  pub join : ℕ
  pub feeds_are : filter_map feed_of settings ≡ feed ∷ feeds
  pub cycles_are : filter_map cycles_of settings ≡ cycles ∷ []
  pub join_is : filter_map join_of settings ≡ join ∷ []
  pub line_is : line ≡ Live (feed ∷ feeds) cycles join (filter_map view_of settings)

pub parts_of : (settings : List Setting) (line : CommandLine) → live_of settings ≡ Some line → Parts settings line
parts_of settings line e = by (filter_map feed_of settings) (filter_map cycles_of settings) (filter_map join_of settings) (filter_map view_of settings) refl refl refl refl e
  where
    by : (feeds : List (List ℕ)) (ns js vs : List ℕ) → filter_map feed_of settings ≡ feeds → filter_map cycles_of settings ≡ ns → filter_map join_of settings ≡ js → filter_map view_of settings ≡ vs → live_with feeds ns js vs ≡ Some line
        → Parts settings line
    by feeds [] js vs f n j v is = cc is
    by feeds (n ∷ []) [] vs f c j v is = cc is
    by [] (n ∷ []) (i ∷ []) vs f c j v is = cc is
    by (p ∷ ps) (n ∷ []) (i ∷ []) vs f c j v is = record {
      feed = p;
      feeds = ps;
      cycles = n;
      join = i;
      feeds_are = f;
      cycles_are = c;
      join_is = j;
      line_is = if_some (in_range 1 16 (length (p ∷ ps)) && nat_le (length vs) 8) (Live (p ∷ ps) n i vs) line is ∙ ap (Live (p ∷ ps) n i) (sym v);
    }
    by feeds (n ∷ []) (i ∷ k ∷ js) vs f c j v is = cc is
    by feeds (m ∷ n ∷ ns) js vs f c j v is = cc is
