-- Items and edits, by the lines that they begin with.
use Rattle.std.proofs.Common.{◌≡◌, ℕ, ◌+◌, ◌-◌, ◌<◌, ◌≤◌, suc, arith, List, [], ◌∷◌, ◌++◌, length, drop, refl, sym, ap, ◌∙◌, append-nil, append_assoc, subst}
use Rattle.std.specs.Prelude.{Option, None, Ok, Err, option_and_then}
use Rattle.std.proofs.lemmas.List.{drop_all}
use Rattle.si_causes.specs.Reading.{Reading}
use Rattle.input_lines.specs.Fields.{record_of}
use Rattle.input_lines.specs.declared.stop.EditStop.{EditStop}
use Rattle.input_lines.specs.declared.stop.EditStop.TheVariants.{Memory}
use Rattle.input_lines.specs.Ahead.{Ahead, Found, Came, Stopped, Stop, NoCommand, and_then}
use Rattle.input_lines.specs.Reads.{ReadOf}
use Rattle.input_lines.proofs.LineReads.{Known, ReadsOn, on_none, on_join, on_value, read_on, read_not, read_value, read_memory}
use Rattle.journal_model.specs.declared.edit.Item.{Item}
use Rattle.script_lines.specs.declared.heads.Head.{Head}
use Rattle.script_lines.specs.Items.{item_line}
use Rattle.script_lines.specs.Heads.{edit_head}
use Rattle.script_lines.specs.Edits.{first_item, items_of, edit_from, read_edit}

abbrev pub item_in : List ℕ → Option Item
item_in line = option_and_then item_line (record_of line)

abbrev pub head_in : List ℕ → Option Head
head_in line = option_and_then edit_head (record_of line)

-- ---- so many items

-- items in front of those that are still read
abbrev pub onto : List Item → Found (List Item) → Found (List Item)
onto front rest = and_then rest (λ items behind. Came (front ++ items) behind)

onto_nil : (rest : Found (List Item)) → rest ≡ onto [] rest
onto_nil (Came items behind) = refl
onto_nil (Stopped stop) = refl

onto_more : (front : List Item) (item : Item) (rest : Found (List Item)) → onto front (and_then rest (λ items behind. Came (item ∷ items) behind)) ≡ onto (front ++ item ∷ []) rest
onto_more front item (Came items behind) = ap (λ (l : List Item). let r : Found (List Item) = Came l behind in r) (sym (append_assoc front (item ∷ []) items))
onto_more front item (Stopped stop) = refl

more_items : (n m : ℕ) (front : List Item) (item : Item) → n ≡ suc m → (a b : Ahead) → first_item a ≡ Came item b → onto front (items_of n a) ≡ onto (front ++ item ∷ []) (items_of m b)
unfolding items_of
more_items n m front item e a b f =
    ap (λ k. onto front (items_of k a)) e
    ∙ ap (λ (r : Found Item). onto front (and_then r (λ x behind. and_then (items_of m behind) (λ items rest. Came (x ∷ items) rest)))) f
    ∙ onto_more front item (items_of m b)

stop_items : (n m : ℕ) (front : List Item) → n ≡ suc m → (a : Ahead) (s : Stop) → first_item a ≡ Stopped s → onto front (items_of n a) ≡ Stopped s
unfolding items_of
stop_items n m front e a s f =
    ap (λ k. onto front (items_of k a)) e
    ∙ ap (λ (r : Found Item). onto front (and_then r (λ x behind. and_then (items_of m behind) (λ items rest. Came (x ∷ items) rest)))) f

no_items : (n : ℕ) (front : List Item) → n ≡ 0 → (a : Ahead) → onto front (items_of n a) ≡ Came front a
unfolding items_of
no_items n front e a = ap (λ k. onto front (items_of k a)) e ∙ ap (λ (l : List Item). let r : Found (List Item) = Came l a in r) (append-nil front)

-- the items that are left, behind those that were read
abbrev pub rest_of : ℕ → ℕ → List Item → Ahead → Found (List Item)
rest_of count counter items lines = onto items (items_of (count - counter) lines)

module _ {S : Type 0} (left : S → Known) (faults : S → ℕ) (alike : S → S → Type 0) (once : (a : S) → alike a a) (onward : (a b c : S) → alike a b → alike b c → alike a c) where
  pub items_none : (count : ℕ) (items : List Item) (reader : Reading S) → items ≡ [] → ReadsOn left faults alike (items_of count) (rest_of count 0 items) reader reader
  items_none count items reader e =
      let all : count ≡ count - 0 = omega arith in
      on_none left faults alike once onward (items_of count) (rest_of count 0 items) reader
      (λ a. onto_nil (items_of count a) ∙ ap (λ (l : List Item). onto l (items_of count a)) (sym e) ∙ ap (λ k. onto items (items_of k a)) all)

  stops_at : (count counter : ℕ) (items : List Item) → counter < count → (a : Ahead) (s : Stop) → first_item a ≡ Stopped s → rest_of count counter items a ≡ Stopped s
  stops_at count counter items lt = stop_items (count - counter) (count - (counter + 1)) items (omega (arith, lt))

  pub items_more : (count counter : ℕ) (items longer : List Item) (item : Item) (old now new : Reading S) → counter < count → longer ≡ items ++ item ∷ []
      → ReadsOn left faults alike (items_of count) (rest_of count counter items) old now → ReadOf left faults alike first_item now new (Ok item) → ReadsOn left faults alike (items_of count) (rest_of count (counter + 1) longer) old new
  items_more count counter items longer item old now new lt e on next =
      let fewer : count - counter ≡ suc (count - (counter + 1)) = omega (arith, lt) in
      on_join left faults alike once onward (items_of count) (rest_of count counter items) (rest_of count (counter + 1) longer) old now new on
      (on_value left faults alike once onward first_item item (rest_of count counter items) (rest_of count (counter + 1) longer) now new
      (λ a b h. more_items (count - counter) (count - (counter + 1)) items item fewer a b h ∙ ap (λ (l : List Item). onto l (items_of (count - (counter + 1)) b)) (sym e))
      (stops_at count counter items lt) next)

  pub items_all : (count counter : ℕ) (items : List Item) (old now : Reading S) → count - counter ≡ 0 → ReadsOn left faults alike (items_of count) (rest_of count counter items) old now → ReadOf left faults alike (items_of count) old now (Ok items)
  items_all count counter items old now e on =
      read_on left faults alike once onward (items_of count) (rest_of count counter items) old now now (Ok items) on
      (read_value left faults alike once onward (rest_of count counter items) items now (no_items (count - counter) items e))

  pub items_not : (count counter : ℕ) (items : List Item) (stop : EditStop) (old now new : Reading S) → counter < count → ReadsOn left faults alike (items_of count) (rest_of count counter items) old now
      → ReadOf {T = Item} left faults alike first_item now new (Err stop) → ReadOf {T = List Item} left faults alike (items_of count) old new (Err stop)
  items_not count counter items stop old now new lt on next =
      read_on left faults alike once onward (items_of count) (rest_of count counter items) old now new (Err stop) on
      (read_not left faults alike once onward first_item (rest_of count counter items) now new stop (stops_at count counter items lt) next)

  -- there was no memory to keep an item that was read
  pub items_kept : (count counter : ℕ) (items : List Item) (item : Item) (stop : EditStop) (old now new : Reading S) → counter < count → stop ≡ Memory → ReadsOn left faults alike (items_of count) (rest_of count counter items) old now
      → ReadOf left faults alike first_item now new (Ok item) → ReadOf {T = List Item} left faults alike (items_of count) old new (Err stop)
  items_kept count counter items item stop old now new lt memory on next =
      let longer = items ++ item ∷ [] in
      subst (λ (s : EditStop). ReadOf {T = List Item} left faults alike (items_of count) old new (Err s)) (sym memory)
      (read_on left faults alike once onward (items_of count) (rest_of count (counter + 1) longer) old new new (Err Memory) (items_more count counter items longer item old now new lt refl on next)
      (read_memory left faults alike once onward (rest_of count (counter + 1) longer) new))

-- ---- an edit by its fields

pub no_fields : edit_head [] ≡ None
unfolding edit_head
no_fields = refl

-- behind the last field there is no edit
pub past_fields : (from : ℕ) (fields : List (List ℕ)) (n : ℕ) (lines : Ahead) → length fields ≤ from → read_edit n (drop from fields) lines ≡ Stopped (NoCommand n)
past_fields from fields n lines le = ap (λ l. read_edit n l lines) (drop_all from fields le) ∙ ap (λ o. edit_from n o lines) no_fields
