-- What is read line by line is what is noted, where the lines have their numbers.
use Rattle.std.proofs.Common.{◌≡◌, ◌<◌, ◌≤◌, ◌+◌, ℕ, zero, suc, Bool, true, false, List, [], ◌∷◌, ◌++◌, length, refl, sym, ap, ◌∙◌, ◌⊎◌, inl, inr, arith, append-nil, append_assoc}
use Rattle.std.specs.Prelude.{Option, Some, None, ◌==◌, nat_le}
use Rattle.std.proofs.lemmas.Bool.{cases_Bool}
use Rattle.std.proofs.lemmas.Bool.Decides.{nat_tests}
use Rattle.input_lines.specs.Lines.{is_passed, record_lines}
use Rattle.input_lines.specs.Ahead.{Ahead, Row, Tail, Ends, Exceeds, Breaks, Found, Came, Stopped, End, NoCommand, TooLong, Unread, and_then, on_line}
use Rattle.journal_model.specs.declared.edit.Item.{Item as AnItem}
use Rattle.script_lines.specs.declared.script.ScriptItem.{ScriptItem}
use Rattle.script_lines.specs.Edits.{items_of}
use Rattle.script_notes.specs.declared.head.DayHead.{DayHead}
use Rattle.script_notes.specs.declared.head.LineHead.{LineHead}
use Rattle.script_notes.specs.declared.head.LineHead.TheVariants as head
use Rattle.script_notes.specs.declared.noting.Noting.{Noting}
use Rattle.script_notes.specs.declared.noting.Noting.TheVariants.{Item, Bad}
use Rattle.script_notes.specs.Faults.{why_line}
use Rattle.script_notes.specs.Heads.{day_command, line_head, with_items}
use Rattle.script_notes.specs.Notings.{first_noting, from_number, is_attached, noted, past_attached, told, unattached, why_item_at}
use Rattle.script_notes.specs.Walks.{day_walk, head_walk, item_in, walk}
use Rattle.script_notes.proofs.HeadFacts.{line_is}

-- ---- rows in the order of their numbers

-- the numbers of these rows, and that of the line that is missing behind them, go on behind m
abbrev pub AreAfter : ℕ → List Row → Tail → Type 0
AreAfter m (row ∷ rows) tail = (m < row.0) × AreAfter row.0 rows tail
AreAfter m [] (Ends n) = m < n
AreAfter m [] tail = Unit {0}

abbrev pub AreOrdered : List Row → Tail → Type 0
AreOrdered (row ∷ rows) tail = AreAfter row.0 rows tail
AreOrdered [] tail = Unit {0}

sooner : (m k : ℕ) (rows : List Row) (tail : Tail) → m ≤ k → AreAfter k rows tail → AreAfter m rows tail
sooner m k (row ∷ rows) tail le h = (let lt = h.0 in omega arith, h.1)
sooner m k [] (Ends n) le h = omega arith
sooner m k [] Exceeds le h = tt
sooner m k [] Breaks le h = tt

pub ordered : (m : ℕ) (rows : List Row) (tail : Tail) → AreAfter m rows tail → AreOrdered rows tail
ordered m [] tail h = tt
ordered m (row ∷ rows) tail h = h.1

pub attached_after : (m : ℕ) (rows : List Row) (tail : Tail) → AreAfter m rows tail → AreAfter m (past_attached rows) tail
attached_after m [] tail h = h
attached_after m (row ∷ rows) tail h = elim (cases_Bool (is_attached row.1)) [
  | inl e ↦ rw e (attached_after m rows tail (sooner m row.0 rows tail (let lt = h.0 in omega arith) h.1))
  | inr e ↦ rw e h
]

-- the lines of a reader have their numbers
pub records_after : (m n : ℕ) (lines : List (List ℕ)) (tail : Tail) → m < n → ((e : ℕ) → tail ≡ Ends e → e ≡ n + length lines) → AreAfter m (record_lines n lines) tail
records_after m n [] (Ends e) lt last = let is = last e refl in omega arith
records_after m n [] Exceeds lt last = tt
records_after m n [] Breaks lt last = tt
records_after m n (line ∷ lines) tail lt last =
    let more : (e : ℕ) → tail ≡ Ends e → e ≡ n + 1 + length lines = λ e is. let k = last e is in omega arith in
    elim (cases_Bool (is_passed line)) [
      | inl p ↦ rw p (records_after m (n + 1) lines tail (omega arith) more)
      | inr p ↦ rw p (lt, records_after n (n + 1) lines tail (omega arith) more)
    ]

same_number : (n : ℕ) → (n == n) ≡ true
same_number n = grind (arith, nat_tests)

own_number : (n : ℕ) → nat_le n n ≡ true
own_number n = grind (arith, nat_tests)

other_number : (m n : ℕ) → m < n → (m == n) ≡ false
other_number m n lt = grind (arith, nat_tests)

later_number : (m n : ℕ) → m < n → nat_le n m ≡ false
later_number m n lt = grind (arith, nat_tests)

reached : (m n : ℕ) → m < n → nat_le m n ≡ true
reached m n lt = grind (arith, nat_tests)

all_from : (m : ℕ) (rows : List Row) (tail : Tail) → AreAfter m rows tail → from_number m rows ≡ rows
all_from m [] tail h = refl
all_from m (row ∷ rows) tail h = rw (reached m row.0 h.0) refl

-- ---- a day

-- the line that is refused is behind m
abbrev IsBehind : {T : Type 0} → ℕ → Found T → Type 0
IsBehind m (Stopped (NoCommand n)) = m < n
IsBehind m other = Unit {0}

then_behind : {T U : Type 0} (m : ℕ) (found : Found T) (f : T → Ahead → Found U) → IsBehind m found → ((value : T) (rest : Ahead) → found ≡ Came value rest → IsBehind m (f value rest)) → IsBehind m (and_then found f)
then_behind m (Came value rest) f h g = g value rest refl
then_behind m (Stopped End) f h g = tt
then_behind m (Stopped (NoCommand n)) f h g = h
then_behind m (Stopped TooLong) f h g = tt
then_behind m (Stopped Unread) f h g = tt

map_behind : {T U : Type 0} (m : ℕ) (found : Found T) (f : T → U) → IsBehind m found → IsBehind m (and_then found (λ t rest. let r : Found U = Came (f t) rest in r))
map_behind m found f h = then_behind m found (λ t rest. Came (f t) rest) h (λ t rest e. tt)

farther : {T : Type 0} (m k : ℕ) (found : Found T) → m ≤ k → IsBehind k found → IsBehind m found
farther m k (Came value rest) le h = tt
farther m k (Stopped End) le h = tt
farther m k (Stopped (NoCommand n)) le h = omega arith
farther m k (Stopped TooLong) le h = tt
farther m k (Stopped Unread) le h = tt

item_behind : (m n : ℕ) (o : Option AnItem) (rest : Ahead) (more : Ahead → Found (List AnItem)) → m < n → IsBehind m (more rest)
    → IsBehind m (and_then (on_line n o rest) (λ item behind. and_then (more behind) (λ items left. let r : Found (List AnItem) = Came (item ∷ items) left in r)))
item_behind m n None rest more lt h = lt
item_behind m n (Some item) rest more lt h = map_behind m (more rest) (λ items. item ∷ items) h

items_behind : (k m : ℕ) (rows : List Row) (tail : Tail) → AreAfter m rows tail → IsBehind m (items_of k (record { rows = rows; tail = tail }))
unfolding items_of
items_behind zero m rows tail h = tt
items_behind (suc k) m [] (Ends n) h = h
items_behind (suc k) m [] Exceeds h = tt
items_behind (suc k) m [] Breaks h = tt
items_behind (suc k) m (row ∷ rows) tail h =
    let rest : Ahead = record { rows = rows; tail = tail } in
    let lt = h.0 in
    item_behind m row.0 (item_in row.1) rest (λ behind. items_of k behind) lt (farther m row.0 (items_of k rest) (omega arith) (items_behind k row.0 rows tail h.1))

some_item : (o : Option AnItem) → (o ≡ None) ⊎ ((item : AnItem) × (o ≡ Some item))
some_item None = inl refl
some_item (Some item) = inr (item, refl)

-- the same of the rows behind a day's head
abbrev day_noted : List Row → Tail → Found ScriptItem → Found Noting
day_noted rows tail (Came item behind) = Came (Item item) behind
day_noted rows tail (Stopped (NoCommand n)) = Came (Bad n (why_item_at n rows)) (unattached (record { rows = from_number n rows; tail = tail }))
day_noted rows tail (Stopped stop) = Stopped stop

abbrev day_found : DayHead → List AnItem → Found (List AnItem) → Found ScriptItem
day_found day items found = and_then found (λ more rest. Came (day_command day (items ++ more)) rest)

-- one item more
past_item : (day : DayHead) (items : List AnItem) (item : AnItem) (row : Row) (rows : List Row) (tail : Tail) (found : Found (List AnItem)) → IsBehind row.0 found
    → day_noted rows tail (day_found day (items ++ item ∷ []) found)
    ≡ day_noted (row ∷ rows) tail (day_found day items (and_then found (λ more rest. let r : Found (List AnItem) = Came (item ∷ more) rest in r)))
past_item day items item row rows tail (Came more rest) h = ap (λ (l : List AnItem). let r : Found Noting = Came (Item (day_command day l)) rest in r) (append_assoc items (item ∷ []) more)
past_item day items item row rows tail (Stopped End) h = refl
past_item day items item row rows tail (Stopped (NoCommand n)) h = rw (other_number row.0 n h, later_number row.0 n h) refl
past_item day items item row rows tail (Stopped TooLong) h = refl
past_item day items item row rows tail (Stopped Unread) h = refl

day_is : (day : DayHead) (k m : ℕ) (items : List AnItem) (rows : List Row) (tail : Tail) → AreAfter m rows tail
    → day_walk day k items (record { rows = rows; tail = tail }) ≡ day_noted rows tail (day_found day items (items_of k (record { rows = rows; tail = tail })))
unfolding day_walk items_of
day_is day zero m items rows tail h = ap (λ (l : List AnItem). let r : Found Noting = Came (Item (day_command day l)) (record { rows = rows; tail = tail }) in r) (sym (append-nil items))
day_is day (suc k) m items [] (Ends n) h = refl
day_is day (suc k) m items [] Exceeds h = refl
day_is day (suc k) m items [] Breaks h = refl
day_is day (suc k) m items (row ∷ rows) tail h = elim (some_item (item_in row.1)) [
  | inl none ↦ rw (none, same_number row.0, own_number row.0) refl
  | inr (item, some) ↦
      rw some
      (day_is day k row.0 (items ++ item ∷ []) rows tail h.1
      ∙ past_item day items item row rows tail (items_of k (record { rows = rows; tail = tail })) (items_behind k row.0 rows tail h.1))
]

-- ---- a line

in_day : (after : Bool) (row : Row) (rows : List Row) (tail : Tail) (found : Found ScriptItem) → IsBehind row.0 found → day_noted rows tail found ≡ noted after (record { rows = row ∷ rows; tail = tail }) found
in_day after row rows tail (Came item behind) h = refl
in_day after row rows tail (Stopped End) h = refl
in_day after row rows tail (Stopped (NoCommand n)) h = rw (other_number row.0 n h) refl
in_day after row rows tail (Stopped TooLong) h = refl
in_day after row rows tail (Stopped Unread) h = refl

head_is : (after : Bool) (row : Row) (rows : List Row) (tail : Tail) (h : Option LineHead) → AreAfter row.0 rows tail
    → head_walk (told (why_line after row.1)) row.0 h (record { rows = rows; tail = tail })
    ≡ noted after (record { rows = row ∷ rows; tail = tail }) (and_then (on_line row.0 h (record { rows = rows; tail = tail })) with_items)
head_is after row rows tail None h = rw (same_number row.0, all_from row.0 rows tail h) refl
head_is after row rows tail (Some (head.Whole item)) h = refl
head_is after row rows tail (Some (head.OfDay day)) h =
    let found = items_of day.count (record { rows = rows; tail = tail }) in
    day_is day day.count row.0 [] rows tail h
    ∙ in_day after row rows tail (day_found day [] found) (map_behind row.0 found (λ more. day_command day more) (items_behind day.count row.0 rows tail h))

pub walk_is : (after : Bool) (rows : List Row) (tail : Tail) → AreOrdered rows tail → walk after (record { rows = rows; tail = tail }) ≡ first_noting after (record { rows = rows; tail = tail })
walk_is after [] (Ends n) h = refl
walk_is after [] Exceeds h = refl
walk_is after [] Breaks h = refl
walk_is after (row ∷ rows) tail h =
    head_is after row rows tail (line_head after row.0 row.1) h
    ∙ ap (noted after (record { rows = row ∷ rows; tail = tail })) (sym (line_is after row.0 row.1 (record { rows = rows; tail = tail })))
