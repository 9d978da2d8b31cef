-- What clap's walk makes of the options of `live`, whatever their values.
use Rattle.std.proofs.Common.{◌≡◌, ⊎_elim, ◌∙◌, refl, ap, sym, subst, true, false, List, [], ◌∷◌, ◌++◌, Some, None, Bool, fold, ◌==◌, inl, inr}
use Rattle.std.specs.Prelude.{◌&&◌}
use Rattle.std.specs.Str.{bytes_eq}
use Rattle.std.proofs.lemmas.Bool.{and_parts, cases_Bool, ne_eqb}
use Rattle.clap.specs.Lexer.{long_of, short_of}
use Rattle.clap.specs.Simple.{Shape, built}
use Rattle.clap.specs.Takes.{settle_passes, turn_passes, use_passes, walk_passes}
use Rattle.clap.specs.Walk.{Held, Row, Rule, Text, Walk, finished, has_row, idle, reacted, settled, used, walked, with_default}
use Rattle.command_words.specs.declared.setting.LiveOption.{LiveOption}
use Rattle.command_words.specs.declared.setting.LiveOption.TheVariants as option
use Rattle.command_words.specs.Matches.{live}
use Rattle.command_words.proofs.Spelled.{Given, Gives, IsBare, dashed, id_of}
use Rattle.command_words.proofs.Found.{rows_with, rule, rules}

abbrev pub top : Shape
top = (built live).top

-- between two options
abbrev pub between : Held → Walk
between h = record { held = h; waiting = idle; position = 1; is_trailing = false; stopped = None }

-- an option has come in a word of its own, with this value in the next
abbrev pub waiting : LiveOption → Held → Text → Held
waiting o h v = record (settled rules h) { pending = Some (id_of o, v ∷ []) }

-- ---- the walk

attached : (o : LiveOption) (h : Held) (v : Text) → walked rules [] (between h) (dashed o ++ 61 ∷ v) ≡ between (reacted rules (rule o) (v ∷ []) h)
unfolding walked
attached option.Feed h v = refl
attached option.Cycles h v = refl
attached option.Join h v = refl
attached option.View h v = refl

bare_plain : (v : Text) → IsBare v → (bytes_eq v (45 ∷ 45 ∷ []) ≡ false) × (long_of v ≡ None) × (short_of v ≡ None)
bare_plain [] b = (refl, refl, refl)
bare_plain (c ∷ cs) b = let n : (c == 45) ≡ false = ne_eqb c 45 b in (rw n refl, rw n refl, rw n refl)

apart : (o : LiveOption) (h : Held) (v : Text) → IsBare v → walked rules [] (walked rules [] (between h) (dashed o)) v ≡ between (waiting o h v)
unfolding walked
apart option.Feed h v b = let (p, l, s) = bare_plain v b in rw (p, l, s) refl
apart option.Cycles h v b = let (p, l, s) = bare_plain v b in rw (p, l, s) refl
apart option.Join h v b = let (p, l, s) = bare_plain v b in rw (p, l, s) refl
apart option.View h v b = let (p, l, s) = bare_plain v b in rw (p, l, s) refl

waiting_rows : (o : LiveOption) (h : Held) (v : Text) → (settled rules (waiting o h v)).rows ≡ used (rule o) (v ∷ []) (settled rules h).rows
waiting_rows option.Feed h v = refl
waiting_rows option.Cycles h v = refl
waiting_rows option.Join h v = refl
waiting_rows option.View h v = refl

-- ---- it passes

abbrev settles : Held → Bool
settles h = settle_passes rules false h

-- each option in turn may be used
abbrev pub uses_pass : List Row → List Given → Bool
uses_pass rows [] = true
uses_pass rows (g ∷ gs) = use_passes false (rule g.0) (g.1 ∷ []) rows && uses_pass (used (rule g.0) (g.1 ∷ []) rows) gs

turn_attached : (o : LiveOption) (h : Held) (v : Text) → settles h ≡ true → use_passes false (rule o) (v ∷ []) (settled rules h).rows ≡ true → turn_passes top [] (between h) (dashed o ++ 61 ∷ v) ≡ true
turn_attached option.Feed h v s u = rw (s, u) refl
turn_attached option.Cycles h v s u = rw (s, u) refl
turn_attached option.Join h v s u = rw (s, u) refl
turn_attached option.View h v s u = rw (s, u) refl

turn_name : (o : LiveOption) (h : Held) → settles h ≡ true → turn_passes top [] (between h) (dashed o) ≡ true
turn_name option.Feed h s = rw s refl
turn_name option.Cycles h s = rw s refl
turn_name option.Join h s = rw s refl
turn_name option.View h s = rw s refl

turn_value : (o : LiveOption) (h : Held) (v : Text) → IsBare v → turn_passes top [] (walked rules [] (between h) (dashed o)) v ≡ true
unfolding walked
turn_value option.Feed h v b = let (p, l, s) = bare_plain v b in rw (p, l, s) refl
turn_value option.Cycles h v b = let (p, l, s) = bare_plain v b in rw (p, l, s) refl
turn_value option.Join h v b = let (p, l, s) = bare_plain v b in rw (p, l, s) refl
turn_value option.View h v b = let (p, l, s) = bare_plain v b in rw (p, l, s) refl

settles_waiting : (o : LiveOption) (h : Held) (v : Text) → use_passes false (rule o) (v ∷ []) (settled rules h).rows ≡ true → settles (waiting o h v) ≡ true
settles_waiting option.Feed h v u = u
settles_waiting option.Cycles h v u = u
settles_waiting option.Join h v u = u
settles_waiting option.View h v u = u

abbrev pub Passes : Walk → List Text → Type 0
Passes w words = walk_passes top [] w words ≡ true

one_more : (w after : Walk) (word : Text) (rest : List Text) → walked rules [] w word ≡ after → turn_passes top [] w word ≡ true → Passes after rest → Passes w (word ∷ rest)
unfolding walk_passes
one_more w after word rest e t p = rw t (subst (λ (z : Walk). Passes z rest) (sym e) p)

no_more : (h : Held) → Passes (between h) []
unfolding walk_passes
no_more h = refl

-- ---- all the words

-- where the walk from here over words that give these options ends
pub record Walks (h : Held) (words : List Text) (gs : List Given) : Type 0 where
  pub end : Held
  pub there : fold (walked rules []) (between h) words ≡ between end
  pub rows : (settled rules end).rows ≡ rows_with (settled rules h).rows gs
  pub passes : Passes (between h) words
  pub settles_end : settles end ≡ true

walks_attached : (g : Given) (gs : List Given) (rest : List Text) (h : Held) → settles h ≡ true → use_passes false (rule g.0) (g.1 ∷ []) (settled rules h).rows ≡ true
    → Walks (reacted rules (rule g.0) (g.1 ∷ []) h) rest gs → Walks h ((dashed g.0 ++ 61 ∷ g.1) ∷ rest) (g ∷ gs)
walks_attached g gs rest h s now w = record {
  end = w.end;
  there = ap (λ (z : Walk). fold (walked rules []) z rest) (attached g.0 h g.1) ∙ w.there;
  rows = w.rows;
  passes = one_more (between h) (between (reacted rules (rule g.0) (g.1 ∷ []) h)) (dashed g.0 ++ 61 ∷ g.1) rest (attached g.0 h g.1) (turn_attached g.0 h g.1 s now) w.passes;
  settles_end = w.settles_end;
}

walks_apart : (g : Given) (gs : List Given) (rest : List Text) (h : Held) → IsBare g.1 → settles h ≡ true
    → Walks (waiting g.0 h g.1) rest gs → Walks h (dashed g.0 ∷ g.1 ∷ rest) (g ∷ gs)
walks_apart g gs rest h bare s w =
    let mid = walked rules [] (between h) (dashed g.0) in
    record {
      end = w.end;
      there = ap (λ (z : Walk). fold (walked rules []) z rest) (apart g.0 h g.1 bare) ∙ w.there;
      rows = w.rows ∙ ap (λ (l : List Row). rows_with l gs) (waiting_rows g.0 h g.1);
      passes = one_more (between h) mid (dashed g.0) (g.1 ∷ rest) refl (turn_name g.0 h s)
          (one_more mid (between (waiting g.0 h g.1)) g.1 rest (apart g.0 h g.1 bare) (turn_value g.0 h g.1 bare) w.passes);
      settles_end = w.settles_end;
    }

pub walks : (gs : List Given) (words : List Text) (h : Held) → Gives words gs → settles h ≡ true → uses_pass (settled rules h).rows gs ≡ true → Walks h words gs
walks [] words h e s u = subst (λ (l : List Text). Walks h l []) (sym e) (record { end = h; there = refl; rows = refl; passes = no_more h; settles_end = s })
walks (g ∷ gs) words h (rest, first, more) s u =
    let (now, later) = and_parts (use_passes false (rule g.0) (g.1 ∷ []) (settled rules h).rows) (uses_pass (used (rule g.0) (g.1 ∷ []) (settled rules h).rows) gs) u in
    ⊎_elim
    (λ (one : words ≡ (dashed g.0 ++ 61 ∷ g.1) ∷ rest).
    subst (λ (l : List Text). Walks h l (g ∷ gs)) (sym one) (walks_attached g gs rest h s now (walks gs rest (reacted rules (rule g.0) (g.1 ∷ []) h) more refl later)))
    (λ (two : (words ≡ dashed g.0 ∷ g.1 ∷ rest) × IsBare g.1).
    let later' = subst (λ (l : List Row). uses_pass l gs ≡ true) (sym (waiting_rows g.0 h g.1)) later in
    subst (λ (l : List Text). Walks h l (g ∷ gs)) (sym two.0) (walks_apart g gs rest h two.1 s (walks gs rest (waiting g.0 h g.1) more (settles_waiting g.0 h g.1 now) later')))
    first

-- ---- behind the words

no_default : (rows : List Row) (a : Rule) → a.defaults ≡ [] → with_default rows a ≡ rows
no_default rows a e = elim (cases_Bool (has_row a.id rows)) [
  | inl has ↦ rw has refl
  | inr not ↦ rw (not, e) refl
]

pub finish : (h : Held) → finished rules h ≡ (settled rules h).rows
finish h =
    let r = (settled rules h).rows in
    ap (λ (z : List Row). with_default (with_default (with_default z (rule option.Cycles)) (rule option.Join)) (rule option.View)) (no_default r (rule option.Feed) refl)
    ∙ ap (λ (z : List Row). with_default (with_default z (rule option.Join)) (rule option.View)) (no_default r (rule option.Cycles) refl)
    ∙ ap (λ (z : List Row). with_default z (rule option.View)) (no_default r (rule option.Join) refl)
    ∙ no_default r (rule option.View) refl
