-- The line of an edit: a whole edit, or the head of a day, whose items follow on lines of their own.
use Rattle.std.specs.Prelude.{◌≡◌, ◌≤◌, ℕ, true, List, [], ◌∷◌, Option, None, option_map, option_and_then, if◌then◌else◌, codes}
use Rattle.si_time.specs.Readings.{has_shape}
use Rattle.input_lines.specs.Numbers.{is_word, number_in}
use Rattle.journal_model.specs.declared.edit.Edit.TheVariants.{Put, Withdraw, Clear, Name}
use Rattle.script_lines.specs.declared.heads.Head.{Head}
use Rattle.script_lines.specs.declared.heads.Head.TheVariants.{Whole, OfDay}
use Rattle.script_lines.specs.Items.{item_of, day_of}
use Rattle.journal_model.specs.Edits.{IsShaped}

-- SERVICE, and the fields of an event
abbrev pub put_of : List (List ℕ) → Option Head
put_of [] = None
put_of (service ∷ item) = option_and_then (λ s. option_map (λ i. Whole (Put s i)) (item_of item)) (number_in 0 65535 service)

-- SERVICE,EVENT
abbrev pub withdraw_of : List (List ℕ) → Option Head
withdraw_of (service ∷ event ∷ []) = option_and_then (λ s. option_map (λ e. Whole (Withdraw s e)) (number_in 0 65535 event)) (number_in 0 65535 service)
withdraw_of fields = None

-- SERVICE
abbrev pub clear_of : List (List ℕ) → Option Head
clear_of (service ∷ []) = option_map (λ s. Whole (Clear s)) (number_in 0 65535 service)
clear_of fields = None

-- SERVICE,PROVIDER,NAME
abbrev pub name_of : List (List ℕ) → Option Head
name_of (service ∷ provider ∷ name ∷ []) = option_map (λ s. Whole (Name s provider name)) (number_in 0 65535 service)
name_of fields = None

-- SERVICE,DATE,COUNT
abbrev pub day_head_of : List (List ℕ) → Option Head
day_head_of (service ∷ date ∷ count ∷ []) =
    option_and_then (λ s. option_and_then (λ d. option_map (λ n. OfDay s d n) (number_in 0 2000 count)) (day_of date)) (number_in 0 65535 service)
day_head_of fields = None

-- the edit that the fields of a line are, by the word that stands first
unfoldable pub edit_head : List (List ℕ) → Option Head
edit_head [] = None
edit_head (word ∷ fields) =
    if is_word (codes "put") word then put_of fields
    else (if is_word (codes "withdraw") word then withdraw_of fields
    else (if is_word (codes "clear") word then clear_of fields
    else (if is_word (codes "name") word then name_of fields
    else (if is_word (codes "day") word then day_head_of fields
    else None))))

-- the head of such an edit
abbrev pub IsShapedHead : Head → Type 0
IsShapedHead (Whole edit) = IsShaped edit
IsShapedHead (OfDay service day count) = (has_shape (codes "dddd-dd-dd") day.0 ≡ true) × (count ≤ 2000)
