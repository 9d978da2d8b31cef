-- The fields of a command are texts, of which the first may begin a line.
use Rattle.std.proofs.Common.{◌≡◌, ◌==◌, ◌∙◌, ◌<◌, ◌≤◌, ◌^◌, ◌++◌, ◌∷◌, [], ℕ, List, Option, Some, None, refl, true, false, arith, length}
use Rattle.std.specs.Prelude.{codes, decimal, IfSome}
use Rattle.std.specs.List.{list_all, AllByRecursion}
use Rattle.std.proofs.lemmas.Bool.Decides.{nat_tests}
use Rattle.std.proofs.lemmas.List.Folds.{list_all-append}
use Rattle.std.proofs.lemmas.Bool.{and_parts}
use Rattle.guide_model.specs.Decoding.{IsKept}
use Rattle.input_lines.specs.Numbers.{is_digit}
use Rattle.guide_model.specs.declared.event.Genre.{Genre}
use Rattle.guide_model.specs.declared.descriptor.RawDesc.{RawDesc}
use Rattle.guide_model.specs.Descriptors.{IsOfBytes, descriptors_text}
use Rattle.guide_model.proofs.HexTexts.{texts_all}
use Rattle.journal_model.specs.declared.edit.RawRating.{RawRating}
use Rattle.journal_model.specs.declared.edit.Item.{Item}
use Rattle.journal_model.specs.declared.edit.Edit.{Edit}
use Rattle.journal_model.specs.declared.edit.Edit.TheVariants.{Put, Withdraw, Clear, Name, Day}
use Rattle.journal_model.specs.Edits.{IsShapedItem, IsShaped, HasGenreNumbers, IsTypedItem, IsTypedEdit}
use Rattle.guide_model.specs.Genres.{genre_text, genres_text}
use Rattle.script_lines.specs.EditFields.{rating_field, further_fields, item_fields, edit_fields, country_field}
use Rattle.journal_model.specs.declared.step.Step.{Step}
use Rattle.journal_model.specs.declared.step.Step.TheVariants.{Edit as edit, Tick, Publish, Swap}
use Rattle.journal_model.specs.Steps.{IsStepWithin, IsTypedStep}
use Rattle.journal_text.specs.Lines.{item_row}
use Rattle.journal_text.specs.Commands.{step_fields}
use Rattle.script_lines.specs.Script.{IsShapedStep}
use Rattle.journal_text.specs.CommandBack.{IsFront, IsFronted, command_row}
use Rattle.script_lines.proofs.NumberBack.{digits_of, decimal_some, small}
use Rattle.guide_model.specs.Control.{is_printing}
use Rattle.journal_text.proofs.PlainFields.{is_written, printing_kept, digits_printing, shape_written, written_kept, moment_written, number_kept}

-- ---- the fields of an edit are texts

genre_printing : (g : Genre) → HasGenreNumbers g → list_all is_printing (genre_text g) ≡ true
genre_printing g h =
    let a = digits_printing (decimal g.level1) (digits_of g.level1 (let k = h.level1 in omega arith)) in
    let b = digits_printing (decimal g.level2) (digits_of g.level2 (let k = h.level2 in omega arith)) in
    let u = digits_printing (decimal g.user) (digits_of g.user (let k = h.user in omega arith)) in
    list_all-append is_printing (decimal g.level1) (46 ∷ (decimal g.level2 ++ 46 ∷ decimal g.user))
    ∙ rw (a, list_all-append is_printing (decimal g.level2) (46 ∷ decimal g.user), b, u) refl

genres_printing : (gs : List Genre) → AllByRecursion HasGenreNumbers gs → list_all is_printing (genres_text gs) ≡ true
genres_printing [] h = refl
genres_printing (g ∷ []) h = genre_printing g h.0
genres_printing (g ∷ k ∷ gs) h =
    list_all-append is_printing (genre_text g) (32 ∷ genres_text (k ∷ gs)) ∙ rw (genre_printing g h.0, genres_printing (k ∷ gs) h.1) refl

genres_kept : (gs : List Genre) → AllByRecursion HasGenreNumbers gs → IsKept (genres_text gs)
genres_kept gs h = printing_kept (genres_text gs) (genres_printing gs h)

pub small_kept : (n high : ℕ) → n ≤ high → high ≤ 65535 → IsKept (decimal n)
small_kept n high le most = number_kept n (small n (omega arith))

value_kept : (r : Option RawRating) → IfSome r (λ x. x.value ≤ 255) → IsKept (rating_field r)
value_kept None h = written_kept [] refl
value_kept (Some r) h = small_kept r.value 255 h (omega arith)

country_kept : (r : Option RawRating) → IfSome r (λ x. IsKept x.country) → IsKept (country_field r)
country_kept None h = written_kept [] refl
country_kept (Some r) h = h

further_kept : (ds : List RawDesc) → AllByRecursion IsOfBytes ds → AllByRecursion IsKept (further_fields ds)
further_kept [] h = tt
further_kept (d ∷ ds) h = (printing_kept (descriptors_text (d ∷ ds)) (texts_all is_printing (d ∷ ds) refl refl h), tt)

pub item_kept : (item : Item) → IsShapedItem item → IsTypedItem item → AllByRecursion IsKept (item_fields item)
item_kept item h t =
    let k = t.numbers in
    (small_kept item.id 65535 k.id (omega arith), (written_kept item.start.0 (shape_written (codes "dddd-dd-ddTdd:dd:ddZ") item.start.0 refl h.start), (written_kept item.length.0 (shape_written (codes "dd:dd:dd") item.length.0 refl h.length), (t.language, (t.name, (t.short, (t.extended, (country_kept item.rating t.country, (value_kept item.rating k.rating, (genres_kept item.genres k.genres, further_kept item.descriptors k.descriptors))))))))))

word_kept : (word : List ℕ) → list_all is_written word ≡ true → IsKept word
word_kept = written_kept

pub item_row_kept : (item : Item) → IsShapedItem item → IsTypedItem item → AllByRecursion IsKept (item_row item)
item_row_kept item h t = (word_kept (codes "item") refl, item_kept item h t)

edit_kept : (e : Edit) → IsShaped e → IsTypedEdit e → AllByRecursion IsKept (edit_fields e)
edit_kept (Put service item) h k = (word_kept (codes "put") refl, (small_kept service 65535 k.0 (omega arith), item_kept item h k.1))
edit_kept (Withdraw service event) h k = (word_kept (codes "withdraw") refl, (small_kept service 65535 k.0 (omega arith), (small_kept event 65535 k.1 (omega arith), tt)))
edit_kept (Clear service) h k = (word_kept (codes "clear") refl, (small_kept service 65535 k (omega arith), tt))
edit_kept (Name service provider name) h k = (word_kept (codes "name") refl, (small_kept service 65535 k.0 (omega arith), (k.1, (k.2, tt))))
edit_kept (Day service day items) h k =
    (word_kept (codes "day") refl, (small_kept service 65535 k.0 (omega arith), (written_kept day.0 (shape_written (codes "dddd-dd-dd") day.0 refl h.day), (small_kept (length items) 2000 h.count (omega arith), tt))))

step_kept : (s : Step) → IsShapedStep s → IsStepWithin s → IsTypedStep s → AllByRecursion IsKept (step_fields s)
step_kept (edit feed e) h w k = (word_kept (codes "feed") refl, (small_kept feed 255 k.0 (omega arith), edit_kept e h k.1))
step_kept (Tick at) h w k = (word_kept (codes "tick") refl, (written_kept _ (moment_written at.0 w), tt))
step_kept Publish h w k = (word_kept (codes "publish") refl, tt)
step_kept Swap h w k = (word_kept (codes "swap") refl, tt)

pub command_kept : (who : ℕ) (s : Step) → who < 2 ^ 64 → IsShapedStep s → IsStepWithin s → IsTypedStep s → AllByRecursion IsKept (command_row who s)
command_kept who s n h w k = (number_kept who n, step_kept s h w k)

-- ---- a number may begin a line

digit_front : (b : ℕ) → is_digit b ≡ true → ((b == 35) ≡ false) × ((b == 0xEF) ≡ false)
digit_front b h = (grind (arith, nat_tests), grind (arith, nat_tests))

digits_front : (xs : List ℕ) → 0 < length xs → list_all is_digit xs ≡ true → IsFront xs
digits_front [] some h = absurd (omega arith)
digits_front (x ∷ xs) some h = digit_front x (and_parts (is_digit x) (list_all is_digit xs) h).0

number_front : (n : ℕ) → n < 2 ^ 64 → IsFront (decimal n)
number_front n h = digits_front (decimal n) (decimal_some n h) (digits_of n h)

pub command_front : (who : ℕ) (s : Step) → who < 2 ^ 64 → IsFronted (command_row who s)
command_front who (edit feed e) h = number_front who h
command_front who (Tick at) h = number_front who h
command_front who Publish h = number_front who h
command_front who Swap h = number_front who h
