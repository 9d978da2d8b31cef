-- Pieces of an extended text, one after the other.
use Rattle.std.proofs.Common.{◌≡◌, ℕ, suc, ◌+◌, ◌<◌, length, get_or, drop, drop-cons, add-one, List, ◌∷◌, ◌++◌, Option, Some, None, refl, sym, ap, ◌∙◌, append_assoc}
use Rattle.std.specs.Option.{option_map}
use Rattle.std.specs.List.{concat}
use Rattle.guide_model.specs.Decoding.{decoded}
use Rattle.guide_model.specs.declared.shown.Shown.{Shown}
use Rattle.guide_model.specs.declared.shown.Shown.TheVariants.{Text}
use Rattle.table_bodies.specs.ShownEvent.{with_text, texts_of}

-- the texts that are left, behind the text so far
abbrev pub text_behind : List ℕ → Option (List (List ℕ)) → Option (List ℕ)
text_behind front texts = option_map (λ ts. front ++ concat ts) texts

text_step : (front text : List ℕ) (shown : Shown) (texts : Option (List (List ℕ))) → shown ≡ Text text → text_behind front (with_text shown texts) ≡ text_behind (front ++ text) texts
text_step front text shown texts e = ap (λ s. text_behind front (with_text s texts)) e ∙ go texts
  where
    go : (texts : Option (List (List ℕ))) → text_behind front (with_text (Text text) texts) ≡ text_behind (front ++ text) texts
    go None = refl
    go (Some ts) = ap (λ xs. Some xs) (sym (append_assoc front text (concat ts)))

-- a piece that is shown as text joins the text so far
pub text_next : (pieces : List (List ℕ)) (i : ℕ) (front more piece text : List ℕ) → i < length pieces → get_or pieces i piece ≡ piece → decoded piece ≡ Text text → more ≡ front ++ text
    → text_behind front (texts_of (drop i pieces)) ≡ text_behind more (texts_of (drop (i + 1) pieces))
text_next pieces i front more piece text lt at e m =
    let rest : drop i pieces ≡ piece ∷ drop (i + 1) pieces = rw (add-one, drop-cons pieces i piece) (ap (λ (p : List ℕ). p ∷ drop (suc i) pieces) at) in
    ap (λ ps. text_behind front (texts_of ps)) rest
    ∙ text_step front text (decoded piece) (texts_of (drop (i + 1) pieces)) e
    ∙ ap (λ f. text_behind f (texts_of (drop (i + 1) pieces))) (sym m)
