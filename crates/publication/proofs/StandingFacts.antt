-- What holds of the event of each item of the edits holds of each standing event.
use Rattle.std.proofs.Common.{ℕ, Bool, true, false, List, [], ◌∷◌, sym, subst}
use Rattle.std.specs.Prelude.{Option, Some, None, IfSome, if◌then◌else◌, ◌==◌, ◌&&◌, nat_le, reverse, filter_map}
use Rattle.std.specs.List.{AllByRecursion, cons_option, flat_map}
use Rattle.std.proofs.lemmas.List.{reverse-append}
use Rattle.si_lists.proofs.Lists.{all_push}
use Rattle.guide_model.specs.declared.event.Event.{Event}
use Rattle.journal_model.specs.declared.edit.Item.{Item}
use Rattle.journal_model.specs.declared.edit.Edit.{Edit}
use Rattle.journal_model.specs.declared.edit.Edit.TheVariants.{Put, Withdraw, Clear, Name, Day}
use Rattle.journal_model.specs.declared.edit.DayText.{DayText}
use Rattle.guide_limits.specs.Events.{start_of}
use Rattle.guide_limits.specs.Readings.{event_of}
use Rattle.guide_limits.specs.Standing.{or_else, is_on, unless_on, last_item, word_of, sought, ids_in, once, placed, by_start, standing}

reverse_all : {X : Type 0} (Q : X → Type 0) (xs : List X) → AllByRecursion Q xs → AllByRecursion Q (reverse xs)
reverse_all Q [] all = tt
reverse_all Q (x ∷ xs) all = subst (AllByRecursion Q) (sym (reverse-append (x ∷ []) xs)) (all_push Q (reverse xs) x (reverse_all Q xs all.1) all.0)

module _ (P : Event → Type 0) where
  -- it holds of the event of each item of an edit
  abbrev pub OfEachItem : Edit → Type 0
  OfEachItem (Put service item) = P (event_of item)
  OfEachItem (Withdraw service event) = Unit {0}
  OfEachItem (Clear service) = Unit {0}
  OfEachItem (Name service provider name) = Unit {0}
  OfEachItem (Day service day items) = AllByRecursion (λ (item : Item). P (event_of item)) items

  or_all : (a b : Option Event) → IfSome a P → IfSome b P → IfSome (or_else a b) P
  or_all (Some a) b p q = p
  or_all None b p q = q

  if_all : (test : Bool) (a b : Option Event) → IfSome a P → IfSome b P → IfSome (if test then a else b) P
  if_all true a b p q = p
  if_all false a b p q = q

  unless_all : (day : DayText) (o : Option Event) → IfSome o P → IfSome (unless_on day o) P
  unless_all day None p = tt
  unless_all day (Some event) p = if_all (is_on day event) None (Some event) tt p

  last_all : (id : ℕ) (items : List Item) → AllByRecursion (λ (item : Item). P (event_of item)) items → IfSome (last_item id items) P
  last_all id [] all = tt
  last_all id (item ∷ items) all =
      or_all (last_item id items) (if item.id == id then Some (event_of item) else None) (last_all id items all.1) (if_all (item.id == id) (Some (event_of item)) None all.0 tt)

  word_all : (service id : ℕ) (edit : Edit) (back : Option Event) → OfEachItem edit → IfSome back P → IfSome (word_of service id edit back) P
  word_all service id (Put at item) back p q = if_all (at == service && item.id == id) (Some (event_of item)) back p q
  word_all service id (Withdraw at gone) back p q = if_all (at == service && gone == id) None back tt q
  word_all service id (Clear at) back p q = if_all (at == service) None back tt q
  word_all service id (Name at provider name) back p q = q
  word_all service id (Day at day items) back p q =
      if_all (at == service) (or_else (last_item id items) (unless_on day back)) back
      (or_all (last_item id items) (unless_on day back) (last_all id items p) (unless_all day back q)) q

  sought_all : (service id : ℕ) (edits : List Edit) → AllByRecursion OfEachItem edits → IfSome (sought service id edits) P
  sought_all service id [] all = tt
  sought_all service id (edit ∷ edits) all = word_all service id edit (sought service id edits) all.0 (sought_all service id edits all.1)

  found_all : (f : ℕ → Option Event) → ((id : ℕ) → IfSome (f id) P) → (ids : List ℕ) → AllByRecursion P (filter_map f ids)
  found_all f each [] = tt
  found_all f each (id ∷ ids) = go (f id) (each id) (found_all f each ids)
    where
      go : (o : Option Event) → IfSome o P → AllByRecursion P (filter_map f ids) → AllByRecursion P (cons_option o (filter_map f ids))
      go None p rest = rest
      go (Some event) p rest = (p, rest)

  placed_all : (event : Event) (events : List Event) → P event → AllByRecursion P events → AllByRecursion P (placed event events)
  placed_all event [] p all = (p, tt)
  placed_all event (first ∷ events) p all = go (nat_le (start_of event) (start_of first)) (placed_all event events p all.1)
    where
      go : (b : Bool) → AllByRecursion P (placed event events) → AllByRecursion P (if b then event ∷ first ∷ events else first ∷ placed event events)
      go true rest = (p, all)
      go false rest = (all.0, rest)

  by_start_all : (events : List Event) → AllByRecursion P events → AllByRecursion P (by_start events)
  by_start_all [] all = tt
  by_start_all (event ∷ events) all = placed_all event (by_start events) all.0 (by_start_all events all.1)

  pub standing_all : (service : ℕ) (past : List Edit) → AllByRecursion OfEachItem past → AllByRecursion P (standing service past)
  standing_all service past all =
      let edits = reverse past in
      let ids = once (flat_map (ids_in service) edits) in
      by_start_all (filter_map (λ id. sought service id edits) ids)
      (found_all (λ id. sought service id edits) (λ id. sought_all service id edits (reverse_all OfEachItem past all)) ids)
