-- What is written of an edit reads back as the edit.
use Rattle.std.proofs.Common.{◌≡◌, ◌≢◌, ◌≤◌, ◌<◌, ℕ, true, false, not, List, [], ◌∷◌, ◌++◌, length, refl, ap, ◌∙◌, arith, lit<}
use Rattle.std.specs.Prelude.{Option, Some, None, IfSome, codes, decimal, map, option_map, ◌==◌}
use Rattle.std.specs.List.{list_all, slice_split, AllByRecursion}
use Rattle.std.proofs.lemmas.Bool.Decides.{nat_tests}
use Rattle.std.proofs.lemmas.List.Folds.{list_all-append}
use Rattle.std.proofs.lemmas.List.Elements.{recursion_from_All}
use Rattle.si_lists.proofs.Filters.{list_all-more, split_front, split_last}
use Rattle.guide_model.specs.declared.event.Genre.{Genre}
use Rattle.guide_model.specs.declared.descriptor.RawDesc.{RawDesc}
use Rattle.guide_model.specs.Descriptors.{descriptors_text, FitsDescriptor, IsOfBytes}
use Rattle.guide_model.proofs.HexTexts.{texts_some}
use Rattle.si_lists.proofs.Lists.{all_two}
use Rattle.input_lines.proofs.GroupFacts.{IsRead, texts_in}
use Rattle.input_lines.specs.Numbers.{is_digit}
use Rattle.journal_model.specs.declared.edit.RawRating.{RawRating}
use Rattle.journal_model.specs.declared.edit.Item.{Item}
use Rattle.script_lines.specs.Items.{genre_of, genre_from, genres_of, all_some, rating_of, further_of, item_of, item_line}
use Rattle.journal_model.specs.Edits.{IsShapedItem, IsShaped, HasGenreNumbers, HasItemNumbers, HasNumbers}
use Rattle.journal_model.specs.declared.edit.Edit.{Edit}
use Rattle.journal_model.specs.declared.edit.Edit.TheVariants.{Put, Withdraw, Clear, Name, Day}
use Rattle.script_lines.specs.declared.heads.Head.{Head}
use Rattle.script_lines.specs.declared.heads.Head.TheVariants.{Whole, OfDay}
use Rattle.input_lines.specs.Fields.{record_of}
use Rattle.input_lines.specs.Ahead.{Ahead, Row, Tail, Found, Came, and_then}
use Rattle.script_lines.specs.Heads.{edit_head}
use Rattle.script_lines.specs.Edits.{items_of, with_items, edit_from}
use Rattle.guide_model.specs.Genres.{genre_text, genres_text}
use Rattle.script_lines.specs.EditFields.{country_field, rating_field, further_fields, item_fields, edit_fields, item_rows, HaveFields, EditsReadBack}
use Rattle.script_lines.proofs.Genres.{genres_of_some}
use Rattle.script_lines.proofs.EventFields.{further_of_one}
use Rattle.script_lines.proofs.NumberBack.{small, digits_of, number_back}

byte_digits : (n : ℕ) → n ≤ 255 → list_all is_digit (decimal n) ≡ true
byte_digits n le = digits_of n (small n (omega arith))

digit_lacks : (c x : ℕ) → c < 48 → is_digit x ≡ true → not (x == c) ≡ true
digit_lacks c x lt h = let other : (x == c) ≡ false = grind (arith, nat_tests) in rw other refl

digits_lack : (c : ℕ) (xs : List ℕ) → c < 48 → list_all is_digit xs ≡ true → list_all (λ b. not (b == c)) xs ≡ true
digits_lack c xs lt h = list_all-more is_digit (λ b. not (b == c)) (λ b. digit_lacks c b lt) xs h

-- ---- genres

abbrev middle : Genre → List ℕ
middle g = decimal g.level2 ++ 46 ∷ decimal g.user

genre_parts : (g : Genre) → HasGenreNumbers g → slice_split (λ b. b == 46) (genre_text g) ≡ decimal g.level1 ∷ decimal g.level2 ∷ decimal g.user ∷ []
genre_parts g h =
    split_front 46 (decimal g.level1) (middle g) (digits_lack 46 (decimal g.level1) (lit< tt) (byte_digits g.level1 h.level1))
    ∙ ap (λ (l : List (List ℕ)). decimal g.level1 ∷ l)
    (split_front 46 (decimal g.level2) (decimal g.user) (digits_lack 46 (decimal g.level2) (lit< tt) (byte_digits g.level2 h.level2))
    ∙ ap (λ (l : List (List ℕ)). decimal g.level2 ∷ l) (split_last 46 (decimal g.user) (digits_lack 46 (decimal g.user) (lit< tt) (byte_digits g.user h.user))))

pub genre_back : (g : Genre) → HasGenreNumbers g → genre_of (genre_text g) ≡ Some g
genre_back g h =
    ap genre_from (genre_parts g h)
    ∙ rw (number_back g.level1 255 h.level1 (omega arith), number_back g.level2 255 h.level2 (omega arith), number_back g.user 255 h.user (omega arith)) refl

-- a genre has no space
genre_lacks : (g : Genre) → HasGenreNumbers g → list_all (λ b. not (b == 32)) (genre_text g) ≡ true
genre_lacks g h =
    let a = digits_lack 32 (decimal g.level1) (lit< tt) (byte_digits g.level1 h.level1) in
    let b = digits_lack 32 (decimal g.level2) (lit< tt) (byte_digits g.level2 h.level2) in
    let u = digits_lack 32 (decimal g.user) (lit< tt) (byte_digits g.user h.user) in
    list_all-append (λ b. not (b == 32)) (decimal g.level1) (46 ∷ middle g)
    ∙ rw (a, list_all-append (λ b. not (b == 32)) (decimal g.level2) (46 ∷ decimal g.user), b, u) refl

genres_parts : (g : Genre) (gs : List Genre) → AllByRecursion HasGenreNumbers (g ∷ gs) → slice_split (λ b. b == 32) (genres_text (g ∷ gs)) ≡ map genre_text (g ∷ gs)
genres_parts g [] h = split_last 32 (genre_text g) (genre_lacks g h.0)
genres_parts g (k ∷ gs) h =
    split_front 32 (genre_text g) (genres_text (k ∷ gs)) (genre_lacks g h.0)
    ∙ ap (λ (l : List (List ℕ)). genre_text g ∷ l) (genres_parts k gs h.1)

each_back : (gs : List Genre) → AllByRecursion HasGenreNumbers gs → all_some (map genre_of (map genre_text gs)) ≡ Some gs
each_back [] h = refl
each_back (g ∷ gs) h = rw (genre_back g h.0, each_back gs h.1) refl

some_bytes : (xs ys : List ℕ) (b : ℕ) → xs ++ b ∷ ys ≢ []
some_bytes [] ys b e = cc
some_bytes (x ∷ xs) ys b e = cc

field_some : (g : Genre) (gs : List Genre) → genres_text (g ∷ gs) ≢ []
field_some g [] e = some_bytes (decimal g.level1) (middle g) 46 e
field_some g (k ∷ gs) e = some_bytes (genre_text g) (genres_text (k ∷ gs)) 32 e

pub genres_back : (gs : List Genre) → AllByRecursion HasGenreNumbers gs → genres_of (genres_text gs) ≡ Some gs
genres_back [] h = refl
genres_back (g ∷ gs) h =
    genres_of_some (genres_text (g ∷ gs)) (field_some g gs)
    ∙ ap (λ (l : List (List ℕ)). all_some (map genre_of l)) (genres_parts g gs h)
    ∙ each_back (g ∷ gs) h

-- ---- the other fields

rating_some : (country : List ℕ) (value : ℕ) → country ≢ [] → value ≤ 255 → rating_of country (decimal value) ≡ Some (Some (record { country = country; value = value }))
rating_some [] value some le = absurd (some refl)
rating_some (c ∷ cs) value some le = rw (number_back value 255 le (omega arith)) refl

rating_back : (r : Option RawRating) → IfSome r (λ x. x.country ≢ []) → IfSome r (λ x. x.value ≤ 255) → rating_of (country_field r) (rating_field r) ≡ Some r
rating_back None h k = refl
rating_back (Some r) h k = rating_some r.country r.value h k

further_back : (ds : List RawDesc) → AllByRecursion FitsDescriptor ds → AllByRecursion IsOfBytes ds → further_of (further_fields ds) ≡ Some ds
further_back [] fits bytes = refl
further_back (d ∷ ds) fits bytes =
    further_of_one (descriptors_text (d ∷ ds)) (texts_some d ds)
    ∙ texts_in d ds (all_two FitsDescriptor IsOfBytes IsRead (λ d one two. (one, two)) (d ∷ ds) fits bytes)

pub item_back : (item : Item) → IsShapedItem item → HasItemNumbers item → item_of (item_fields item) ≡ Some item
unfolding item_of
item_back item h k =
    rw (number_back item.id 65535 k.id (omega arith), h.start, h.length, rating_back item.rating h.country k.rating, genres_back item.genres k.genres, further_back item.descriptors h.descriptors k.descriptors) refl

pub item_line_back : (item : Item) → IsShapedItem item → HasItemNumbers item → item_line (codes "item" ∷ item_fields item) ≡ Some item
unfolding item_line
item_line_back item h k = item_back item h k

-- ---- edits

-- the head of an edit
abbrev pub head_from : Edit → Head
head_from (Put service item) = Whole (Put service item)
head_from (Withdraw service event) = Whole (Withdraw service event)
head_from (Clear service) = Whole (Clear service)
head_from (Name service provider name) = Whole (Name service provider name)
head_from (Day service date items) = OfDay service date (length items)

pub head_back : (edit : Edit) → IsShaped edit → HasNumbers edit → edit_head (edit_fields edit) ≡ Some (head_from edit)
unfolding edit_head
head_back (Put service item) h k = rw (number_back service 65535 k.0 (omega arith), item_back item h k.1) refl
head_back (Withdraw service event) h k = rw (number_back service 65535 k.0 (omega arith), number_back event 65535 k.1 (omega arith)) refl
head_back (Clear service) h k = rw (number_back service 65535 k (omega arith)) refl
head_back (Name service provider name) h k = rw (number_back service 65535 k (omega arith)) refl
head_back (Day service date items) h k = rw (number_back service 65535 k.0 (omega arith), h.day, number_back (length items) 2000 h.count (omega arith)) refl

-- the edit of the head of its line, and of its item rows
abbrev pub with_rows : Option Head → List (List (List ℕ)) → Option Edit
with_rows None rows = None
with_rows (Some (Whole e)) rows = Some e
with_rows (Some (OfDay service day count)) rows = option_map (Day service day) (all_some (map item_line rows))

-- how many item rows stand behind a head
abbrev pub rows_behind : Option Head → ℕ
rows_behind (Some (OfDay service day count)) = count
rows_behind other = 0

no_rows : (rows more : List Row) (tail : Tail) → HaveFields rows [] → (let a : Ahead = record { rows = rows ++ more; tail = tail } in a) ≡ record { rows = more; tail = tail }
no_rows [] more tail e = refl
no_rows (row ∷ rows) more tail e = absurd cc

items_back : (items : List Item) (rows more : List Row) (tail : Tail) → AllByRecursion IsShapedItem items → AllByRecursion HasItemNumbers items → HaveFields rows (map (λ item. codes "item" ∷ item_fields item) items)
    → items_of (length items) (record { rows = rows ++ more; tail = tail }) ≡ Came items (record { rows = more; tail = tail })
unfolding items_of
items_back [] rows more tail h k e = ap (λ (a : Ahead). let r : Found (List Item) = Came [] a in r) (no_rows rows more tail e)
items_back (item ∷ items) [] more tail h k e = absurd cc
items_back (item ∷ items) (row ∷ rows) more tail h k e =
    let first : record_of row.1 ≡ Some (codes "item" ∷ item_fields item) = cc in
    let others : HaveFields rows (map (λ item. codes "item" ∷ item_fields item) items) = cc in
    rw (first, item_line_back item h.0 k.0, items_back items rows more tail h.1 k.1 others) refl

back_from : (edit : Edit) (rows more : List Row) (tail : Tail) → IsShaped edit → HasNumbers edit → HaveFields rows (item_rows edit) → with_items (head_from edit) (record { rows = rows ++ more; tail = tail }) ≡ Came edit (record { rows = more; tail = tail })
back_from (Put service item) rows more tail h k e = ap (λ (a : Ahead). let r : Found Edit = Came (Put service item) a in r) (no_rows rows more tail e)
back_from (Withdraw service event) rows more tail h k e = ap (λ (a : Ahead). let r : Found Edit = Came (Withdraw service event) a in r) (no_rows rows more tail e)
back_from (Clear service) rows more tail h k e = ap (λ (a : Ahead). let r : Found Edit = Came (Clear service) a in r) (no_rows rows more tail e)
back_from (Name service provider name) rows more tail h k e = ap (λ (a : Ahead). let r : Found Edit = Came (Name service provider name) a in r) (no_rows rows more tail e)
back_from (Day service date items) rows more tail h k e =
    ap (λ (r : Found (List Item)). and_then r (λ l rest. Came (Day service date l) rest)) (items_back items rows more tail (recursion_from_All IsShapedItem items h.items) k.1 e)

pub edits_read_back : EditsReadBack
edits_read_back edit h k at rows more tail e =
    ap (λ o. edit_from at o (record { rows = rows ++ more; tail = tail })) (head_back edit h k) ∙ back_from edit rows more tail h k e
