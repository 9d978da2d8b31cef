-- Files opened one after the other, and closed.
use Rattle.std.proofs.Common.{◌≡◌, ℕ, ◌+◌, ◌≤◌, ◌<◌, arith, List, [], ◌∷◌, ◌++◌, length, take, refl, sym, ap, ◌∙◌, append_assoc, append-nil, subst}
use Rattle.std.specs.Prelude.{Option, Some, None, String, string_bytes, get_or}
use Rattle.std.proofs.lemmas.List.{get_or-map, length-map, take_all, take_more}
use Rattle.command_words.specs.Commands.{texts}
use Rattle.si_causes.specs.Causes.{Rose}
use Rattle.si_causes.specs.Opening.{Files, TakesBack, Tries}
use Rattle.si_causes.specs.Reading.{Reading}
use Rattle.si_causes.proofs.CauseFacts.{Rose-from, Rose-to}
use Rattle.epg_live.specs.Opened.{Adds, AreOpened, Closes, HasTried, IfFailed, IsOpened, NoneFailed}

-- ---- what was asked for

pub tried_none : (old : Option (List (List ℕ))) → HasTried old old []
tried_none None = refl
tried_none (Some before) = sym (append-nil before)

pub tried_more : (old mid new : Option (List (List ℕ))) (paths : List (List ℕ)) (path : List ℕ) → HasTried old mid paths → Tries mid new path → HasTried old new (paths ++ path ∷ [])
tried_more None mid new paths path was now = subst (λ (o : Option (List (List ℕ))). Tries o new path) was now
tried_more (Some before) None None paths path was now = tt
tried_more (Some before) None (Some more) paths path was now = cc
tried_more (Some before) (Some mid) None paths path was now = tt
tried_more (Some before) (Some mid) (Some new) paths path was now = now ∙ ap (λ l. l ++ path ∷ []) was ∙ append_assoc before paths (path ∷ [])

-- ---- readers

module _ {S : Type 0} (left : S → Option (List ℕ)) (faults : S → ℕ) (files : Option Files) where
  pub opened_more : (paths : List (List ℕ)) (readers : List (Reading S)) (path : List ℕ) (reader : Reading S) → AreOpened left faults files paths readers → IsOpened left faults files path reader
      → AreOpened left faults files (paths ++ path ∷ []) (readers ++ reader ∷ [])
  opened_more [] [] path reader opened one = (one, tt)
  opened_more [] (r ∷ rs) path reader opened one = absurd opened
  opened_more (p ∷ ps) [] path reader opened one = absurd opened
  opened_more (p ∷ ps) (r ∷ rs) path reader (here, opened) one = (here, opened_more ps rs path reader opened one)

  pub opened_length : (paths : List (List ℕ)) (readers : List (Reading S)) → AreOpened left faults files paths readers → length readers ≡ length paths
  opened_length [] [] opened = refl
  opened_length [] (r ∷ rs) opened = absurd opened
  opened_length (p ∷ ps) [] opened = absurd opened
  opened_length (p ∷ ps) (r ∷ rs) (here, opened) = let more : length rs ≡ length ps = opened_length ps rs opened in omega (arith, more)

  pub opened_sound : (paths : List (List ℕ)) (readers : List (Reading S)) → AreOpened left faults files paths readers → NoneFailed faults readers
  opened_sound [] [] opened = tt
  opened_sound [] (r ∷ rs) opened = absurd opened
  opened_sound (p ∷ ps) [] opened = absurd opened
  opened_sound (p ∷ ps) (r ∷ rs) (here, opened) = (ap (λ (o : Reading S). faults o.source) here.unread ∙ here.sound, opened_sound ps rs opened)

-- ---- closing

module _ {S : Type 0} (faults : S → ℕ) where
  failed_later : (before mid now : ℕ) (readers : List (Reading S)) → before ≤ mid → mid ≤ now → IfFailed faults (Rose before mid) readers → IfFailed faults (Rose before now) readers
  failed_later before mid now [] le later rose = tt
  failed_later before mid now (r ∷ rs) le later (here, rose) = (λ failed. Rose-to before mid now le (here failed) later, failed_later before mid now rs le later rose)

  failed_more : (P : Type 0) (readers : List (Reading S)) (reader : Reading S) → IfFailed faults P readers → (0 < faults reader.source → P) → IfFailed faults P (readers ++ reader ∷ [])
  failed_more P [] reader rose one = (one, tt)
  failed_more P (r ∷ rs) reader (here, rose) one = (here, failed_more P rs reader rose one)

  none_front : (readers : List (Reading S)) (reader : Reading S) → NoneFailed faults (readers ++ reader ∷ []) → NoneFailed faults readers × (faults reader.source ≡ 0)
  none_front [] reader none = (tt, none.0)
  none_front (r ∷ rs) reader (here, none) = ((here, (none_front rs reader none).0), (none_front rs reader none).1)

  pub closes_none : (now : ℕ) → Closes faults [] now now
  closes_none now = record { later = omega arith; rose = tt; kept = λ none. refl }

  pub closes_more : (before mid now : ℕ) (readers : List (Reading S)) (reader : Reading S) → Closes faults readers before mid → TakesBack (faults reader.source) mid now → Closes faults (readers ++ reader ∷ []) before now
  closes_more before mid now readers reader closes takes = record {
    later = omega (arith, closes.later, takes.later);
    rose = failed_more (Rose before now) readers reader (failed_later before mid now readers closes.later takes.later closes.rose) (λ failed. Rose-from before mid now closes.later (takes.rose failed));
    kept = λ none. takes.kept (none_front readers reader none).1 ∙ closes.kept (none_front readers reader none).0;
  }

-- ---- the paths

pub texts_more : {Y : Type 0} (paths : List (String Y)) (i : ℕ) (path : String Y) → i < length paths → path ≡ get_or paths i path → take (i + 1) (texts paths) ≡ take i (texts paths) ++ string_bytes path ∷ []
texts_more {Y = Y} paths i path lt is =
    take_more (texts paths) i (string_bytes path) (omega (arith, lt, length-map paths string_bytes))
    ∙ ap (λ (b : List ℕ). take i (texts paths) ++ b ∷ []) (get_or-map (λ (p : String Y). string_bytes p) paths i path (string_bytes path) lt ∙ ap (λ (p : String Y). string_bytes p) (sym is))

-- all are opened, where none is left
pub all_opened : {Y S : Type 0} (paths : List (String Y)) (i : ℕ) (left : S → Option (List ℕ)) (faults : S → ℕ) (files : Option Files) (old new : Option (List (List ℕ))) (readers : List (Reading S)) → length paths ≤ i
    → AreOpened left faults files (take i (texts paths)) readers → HasTried old new (take i (texts paths)) → AreOpened left faults files (texts paths) readers × HasTried old new (texts paths)
all_opened paths i left faults files old new readers all opened tried =
    let is : take i (texts paths) ≡ texts paths = take_all i (texts paths) (omega (arith, all, length-map paths string_bytes)) in
    (subst (λ (l : List (List ℕ)). AreOpened left faults files l readers) is opened, subst (λ (l : List (List ℕ)). HasTried old new l) is tried)

-- ---- one path more

module _ {Y : Type 0} (paths : List (String Y)) (i : ℕ) (path : String Y) (asked : List ℕ) (below : i < length paths) (is : path ≡ get_or paths i path) (bytes : asked ≡ string_bytes path) where
  next_path : take (i + 1) (texts paths) ≡ take i (texts paths) ++ asked ∷ []
  next_path = texts_more paths i path below is ∙ ap (λ (b : List ℕ). take i (texts paths) ++ b ∷ []) (sym bytes)

  pub next_tried : (old mid new : Option (List (List ℕ))) → HasTried old mid (take i (texts paths)) → Tries mid new asked → HasTried old new (take (i + 1) (texts paths))
  next_tried old mid new was now = subst (λ (l : List (List ℕ)). HasTried old new l) (sym next_path) (tried_more old mid new (take i (texts paths)) asked was now)

  pub next_opened : {S : Type 0} (left : S → Option (List ℕ)) (faults : S → ℕ) (files known : Option Files) (readers more : List (Reading S)) → known ≡ files → AreOpened left faults files (take i (texts paths)) readers
      → Adds left faults known asked readers more → AreOpened left faults files (take (i + 1) (texts paths)) more
  next_opened {S = S} left faults files known readers more same opened (reader, one, added) =
      subst (λ (l : List (List ℕ)). AreOpened left faults files l more) (sym next_path)
      (subst (λ (rs : List (Reading S)). AreOpened left faults files (take i (texts paths) ++ asked ∷ []) rs) (sym added)
      (opened_more left faults files (take i (texts paths)) readers asked reader opened (subst (λ (f : Option Files). IsOpened left faults f asked reader) same one)))
