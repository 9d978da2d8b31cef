-- The number of a sub-table is the place of its first section.
use Rattle.std.proofs.Common.{◌≡◌, ℕ, ◌+◌, ◌<◌, List, [], ◌∷◌, ◌++◌, Bool, Option, Some, None, length, take, drop, get_or, map, sym, ap, ap₂, ◌∙◌, arith}
use Rattle.std.specs.Prelude.{if◌then◌else◌, not}
use Rattle.std.specs.Option.{option_or, unwrap_or}
use Rattle.std.specs.List.{prefix_len}
use Rattle.std.proofs.lemmas.List.{take_more, take-append-drop, drop_more, length-take-le, map_more}
use Rattle.section_codec.specs.KeyOrder.{is_key}
use Rattle.section_codec.specs.Tables.{tier_of}
use Rattle.section_codec.specs.declared.table.Tier3.{Tier3}
use Rattle.section_codec.specs.declared.table.Key.{Key}
use Rattle.section_codec.proofs.KeyOrderFacts.{is_key-itself}
use Rattle.air_timing.specs.declared.pace.Paced.{Paced}
use Rattle.cycle_timing.specs.declared.listed.Listed.{Listed}
use Rattle.cycle_timing.specs.Listing.{number_among, paced_as}
use Rattle.cycle_timing.proofs.Found.{found, found_push, place_is}

abbrev pub is_named : Key → Listed → Bool
is_named k l = is_key k l.name

pub cut_at : (ls : List Listed) (i : ℕ) (d : Listed) → i < length ls → ls ≡ take i ls ++ get_or ls i d ∷ drop (i + 1) ls
cut_at ls i d less = sym (take-append-drop i ls) ∙ ap (λ (l : List Listed). take i ls ++ l) (drop_more ls i d less)

-- the number of the next section
pub number_is : (ls : List Listed) (i place : ℕ) (d : Listed) (o : Option ℕ) → i < length ls → place ≡ i → o ≡ found is_named (take i ls) (get_or ls i d).name
    → unwrap_or o place ≡ number_among ls (get_or ls i d)
number_is ls i place d o less place_at o_is =
    let l = get_or ls i d in
    let same : place ≡ length (take i ls) = place_at ∙ sym (length-take-le i ls (omega arith)) in
    ap₂ unwrap_or o_is same
    ∙ place_is is_named (take i ls) l (drop (i + 1) ls) l.name (is_key-itself l.name)
    ∙ ap (λ (all : List Listed). prefix_len (λ (other : Listed). not (is_key l.name other.name)) all) (sym (cut_at ls i d less))

-- what is known of the names after it
pub firsts_more : (ls : List Listed) (i place : ℕ) (d : Listed) (q : Key) (old new : Option ℕ) → i < length ls → place ≡ i → old ≡ found is_named (take i ls) q
    → new ≡ option_or old (if is_key q (get_or ls i d).name then Some place else None) → new ≡ found is_named (take (i + 1) ls) q
firsts_more ls i place d q old new less place_at old_is new_is =
    let l = get_or ls i d in
    let same : place ≡ length (take i ls) = place_at ∙ sym (length-take-le i ls (omega arith)) in
    new_is ∙ ap₂ (λ (o : Option ℕ) (n : ℕ). option_or o (if is_key q l.name then Some n else None)) old_is same
    ∙ sym (found_push is_named (take i ls) l q) ∙ ap (λ (all : List Listed). found is_named all q) (sym (take_more ls i d less))

-- a section more that is paced
pub paced_more : (ls : List Listed) (i : ℕ) (d : Listed) (tier : Tier3) (table : ℕ) (old new : List Paced) → i < length ls → old ≡ map (paced_as ls) (take i ls) → tier ≡ tier_of (get_or ls i d).name.table → table ≡ number_among ls (get_or ls i d)
    → new ≡ old ++ record { pid = (get_or ls i d).name.pid; tier = tier; len = (get_or ls i d).len; table = table } ∷ [] → new ≡ map (paced_as ls) (take (i + 1) ls)
paced_more ls i d tier table old new less old_is tier_is table_is new_is =
    let l = get_or ls i d in
    new_is ∙ ap (λ (r : Tier3). old ++ record { pid = l.name.pid; tier = r; len = l.len; table = table } ∷ []) tier_is
    ∙ ap₂ (λ (ps : List Paced) (n : ℕ). ps ++ record { pid = l.name.pid; tier = tier_of l.name.table; len = l.len; table = n } ∷ []) old_is table_is
    ∙ sym (map_more (paced_as ls) ls i d less)
