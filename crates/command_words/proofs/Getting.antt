-- What the getters of clap's matches give, where the values are those of a `live`.
use Rattle.std.proofs.Common.{◌≡◌, ◌∙◌, refl, ap, sym, ℕ, List, [], ◌∷◌, map, Some, None, Option, codes}
use Rattle.std.specs.List.{cons_option}
use Rattle.std.proofs.lemmas.List.{map-append, take_more}
use Rattle.std.proofs.lemmas.List.Elements.{filter_map-append}
use Rattle.std.specs.Prelude.{IfNone, IfSome, ◌+◌, ◌<◌, ◌++◌, length, take, get_or, IsSome, filter_map, option_and_then, option_map}
use Rattle.clap.specs.Matches.{first_value, matched_of, raw_values}
use Rattle.clap.specs.declared.parser.matches.Found.{Found}
use Rattle.input_lines.specs.Numbers.{number_in}
use Rattle.command_words.specs.Grammar.{CommandLine, Play, Listen, Live, Soak, Audit, live_of, settings_of}
use Rattle.command_words.specs.Matches.{Say, values_or_none}

pub record Said (found : Found) (words : List (List ℕ)) : Type 0 where
  pub feeds : List (List ℕ)
  pub cycles_text : List ℕ
  pub join_text : List ℕ
  pub cycles : ℕ
  pub join : ℕ
  pub views : List ℕ
  pub feeds_are : option_map raw_values (matched_of found (codes "feed")) ≡ Some feeds
  pub cycles_are : first_value found (codes "cycles") ≡ Some cycles_text
  pub join_is : first_value found (codes "join") ≡ Some join_text
  pub cycles_read : number_in 1 1000 cycles_text ≡ Some cycles
  pub join_read : number_in 0 999999999 join_text ≡ Some join
  pub views_read : map (number_in 0 65535) (values_or_none (option_map raw_values (matched_of found (codes "view")))) ≡ map (λ (n : ℕ). Some n) views
  pub line_is : option_and_then live_of (settings_of words) ≡ Some (Live feeds cycles join views)

then_some : {X Y : Type 0} (f : X → Option Y) (o : Option X) (y : Y) → option_and_then f o ≡ Some y → (x : X) × (o ≡ Some x) × (f x ≡ Some y)
then_some f None y e = cc e
then_some f (Some x) y e = (x, refl, e)

pub said : (found : Found) (words : List (List ℕ)) → IsSome (option_and_then live_of (settings_of words)) → ((line : CommandLine) → option_and_then live_of (settings_of words) ≡ Some line → Say found line) → Said found words
said found words some say = by (option_and_then live_of (settings_of words)) refl some
  where
    by : (o : Option CommandLine) → option_and_then live_of (settings_of words) ≡ o → IsSome o → Said found words
    by None e is = cc is
    by (Some (Play options resume)) e is = absurd (say (Play options resume) e)
    by (Some (Listen options)) e is = absurd (say (Listen options) e)
    by (Some (Soak number)) e is = absurd (say (Soak number) e)
    by (Some (Audit path nulls)) e is = absurd (say (Audit path nulls) e)
    by (Some (Live feeds cycles join views)) e is =
        let (f, c, j, v) = say (Live feeds cycles join views) e in
        let (cycles_text, cycles_are, cycles_read) = then_some (number_in 1 1000) (first_value found (codes "cycles")) cycles c in
        let (join_text, join_is, join_read) = then_some (number_in 0 999999999) (first_value found (codes "join")) join j in
        record {
          feeds = feeds;
          cycles_text = cycles_text;
          join_text = join_text;
          cycles = cycles;
          join = join;
          views = views;
          feeds_are = f;
          cycles_are = cycles_are;
          join_is = join_is;
          cycles_read = cycles_read;
          join_read = join_read;
          views_read = v;
          line_is = e;
        }

pub mapped : {X Y : Type 0} (f : X → Y) (o : Option X) (y : Y) → option_map f o ≡ Some y → IsSome o
mapped f None y e = cc e
mapped f (Some x) y e = refl

pub got : {X Y : Type 0} (f : X → Y) (o : Option X) (x : X) (y : Y) → option_map f o ≡ Some y → o ≡ Some x → y ≡ f x
got f o x y e is =
    let same : Some y ≡ Some (f x) = sym e ∙ ap (option_map f) is in
    let at : y ≡ f x = cc same in
    at

-- where all are read, those that are read are all
pub all_read : {X Y : Type 0} (f : X → Option Y) (xs : List X) (ys : List Y) → map f xs ≡ map (λ (y : Y). Some y) ys → filter_map f xs ≡ ys
all_read {Y = Y} f [] [] e = refl
all_read {Y = Y} f [] (y ∷ ys) e = cc e
all_read {Y = Y} f (x ∷ xs) [] e = cc e
all_read {Y = Y} f (x ∷ xs) (y ∷ ys) e =
    let here : f x ≡ Some y = cc e in
    let rest : map f xs ≡ map (λ (z : Y). Some z) ys = cc e in
    rw here (ap (λ (l : List Y). y ∷ l) (all_read f xs ys rest))

-- one more text
pub read_next : {X Z Y : Type 0} (f : X → Option Y) (now : Z → X) (xs : List Z) (i : ℕ) (d : Z) (old new : List Y) → i < length xs → old ≡ filter_map f (map now (take i xs)) → new ≡ old ++ cons_option (f (now (get_or xs i d))) []
    → new ≡ filter_map f (map now (take (i + 1) xs))
read_next f now xs i d old new less is more =
    more ∙ ap (λ l. l ++ cons_option (f (now (get_or xs i d))) []) is
    ∙ sym (ap (λ l. filter_map f (map now l)) (take_more xs i d less) ∙ ap (filter_map f) (map-append now (take i xs) (get_or xs i d ∷ []))
    ∙ filter_map-append f (map now (take i xs)) (now (get_or xs i d) ∷ []))

-- the numbers of an option that need not stand
pub views_got : {Z Y : Type 0} (f : List ℕ → Option Y) (texts : Z → List (List ℕ)) (given : Option Z) (found : Option (List (List ℕ))) (read : List Y) → option_map texts given ≡ found → IfSome given (λ (z : Z). read ≡ filter_map f (texts z)) → IfNone given (read ≡ [])
    → read ≡ filter_map f (values_or_none found)
views_got f texts None found read is some none = none ∙ ap (λ o. filter_map f (values_or_none o)) is
views_got f texts (Some z) found read is some none = some ∙ ap (λ o. filter_map f (values_or_none o)) is
