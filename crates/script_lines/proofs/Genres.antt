-- Lists of genres.
use Rattle.std.proofs.Common.{◌≡◌, ◌≢◌, ℕ, List, [], ◌∷◌, ◌++◌, refl, sym, ap, append_assoc}
use Rattle.std.specs.Prelude.{Option, Some, None, ◌==◌, option_map, map}
use Rattle.std.specs.List.{slice_split}
use Rattle.guide_model.specs.declared.event.Genre.{Genre}
use Rattle.script_lines.specs.Items.{all_some, genre_of, genres_of}

-- genres in front of those of the groups that are left
abbrev pub onto : List Genre → Option (List Genre) → Option (List Genre)
onto front rest = option_map (λ xs. front ++ xs) rest

onto_more : (front : List Genre) (g : Genre) (rest : Option (List Genre)) → onto front (option_map (λ xs. g ∷ xs) rest) ≡ onto (front ++ g ∷ []) rest
onto_more front g None = refl
onto_more front g (Some xs) = ap Some (sym (append_assoc front (g ∷ []) xs))

pub onto_next : (front : List Genre) (x : Option Genre) (g : Genre) (rest : List (Option Genre)) → x ≡ Some g → onto front (all_some (x ∷ rest)) ≡ onto (front ++ g ∷ []) (all_some rest)
onto_next front x g rest e = rw e (onto_more front g (all_some rest))

pub onto_none : (front : List Genre) (x : Option Genre) (rest : List (Option Genre)) → x ≡ None → onto front (all_some (x ∷ rest)) ≡ None
onto_none front x rest e = rw e refl

pub onto_nil : (rest : Option (List Genre)) → onto [] rest ≡ rest
onto_nil None = refl
onto_nil (Some xs) = refl

-- the genres of a field that is not empty
pub genres_of_some : (field : List ℕ) → field ≢ [] → genres_of field ≡ all_some (map genre_of (slice_split (λ c. c == 32) field))
genres_of_some [] h = absurd (h refl)
genres_of_some (b ∷ bs) h = refl
