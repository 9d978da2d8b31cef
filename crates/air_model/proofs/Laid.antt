-- Sections laid end to end are found where they stand.
use Rattle.std.proofs.Common.{◌≡◌, ℕ, zero, suc, ◌+◌, ◌-◌, ◌<◌, min, inl, inr, List, [], ◌∷◌, ◌++◌, Some, length, get_or, refl, sym, ap, ap₂, ◌∙◌, arith, take, drop, map, append_assoc, append-nil, length-append}
use Rattle.std.specs.Prelude.{slice_get, flat_map}
use Rattle.std.proofs.lemmas.Bool.{cases_lt}
use Rattle.std.proofs.lemmas.List.{map-append, take_more, take_all, drop_all}
use Rattle.std.proofs.lemmas.List.Concat.{flat_map-append}
use Rattle.std.proofs.Math.Seq.{drop-append_seam, take-append_seam, drop-cons}
use Rattle.section_codec.specs.declared.table.NumberedBody.{NumberedBody}
use Rattle.section_codec.specs.declared.table.SubTable.{SubTable}
use Rattle.section_codec.specs.Contents.{last_number, Content}
use Rattle.air_model.specs.Air.{Sent, sent_section, sections_of}
use Rattle.air_model.specs.declared.placed.Placed.{Placed}
use Rattle.air_model.specs.Laying.{sent_at, places_from, AreLaid, sections_under, room_of, room_for, places_for}

-- what stands at a place, and the others
pub from_place : {X : Type 0} (xs : List X) (at : ℕ) (x : X) → at < length xs → x ≡ get_or xs at x → drop at xs ≡ x ∷ drop (at + 1) xs
from_place xs at x lt is =
    drop-cons xs at x lt ∙ ap₂ (λ (y : _) (k : ℕ). y ∷ drop k xs) (sym is) (let e : suc at ≡ at + 1 = omega arith in e)

pub last_at : (ss : Content) (s : NumberedBody) → slice_get ss (length ss - 1) ≡ Some s → s.number ≡ last_number ss
last_at [] s e = cc
last_at (x ∷ []) s e = let f : x ≡ s = cc in ap (λ (y : NumberedBody). y.number) (sym f)
last_at (x ∷ y ∷ ss) s e = last_at (y ∷ ss) s (ap (slice_get (x ∷ y ∷ ss)) (let f : suc (length (y ∷ ss) - 1) ≡ length (x ∷ y ∷ ss) - 1 = omega arith in f) ∙ e)

-- the room for the sections from a place on
pub room_at : (ss : Content) (i : ℕ) (s : NumberedBody) → i < length ss → s ≡ get_or ss i s → room_of (drop i ss) ≡ 12 + length s.body + room_of (drop (i + 1) ss)
room_at ss i s lt is = ap room_of (from_place ss i s lt is)

pub tables_at : (ts : List SubTable) (i : ℕ) (t : SubTable) → i < length ts → t ≡ get_or ts i t →
    (room_for (drop i ts) ≡ room_of t.sections + room_for (drop (i + 1) ts)) × (places_for (drop i ts) ≡ length t.sections + places_for (drop (i + 1) ts))
tables_at ts i t lt is = (ap room_for (from_place ts i t lt is), ap places_for (from_place ts i t lt is))

-- one section more
places-push : (start : ℕ) (ss : List Sent) (s : Sent) →
    places_from start (ss ++ s ∷ []) ≡ places_from start ss ++ record { pid = s.pid; start = start + length (flat_map (λ (x : Sent). x.bytes) ss); len = length s.bytes } ∷ []
places-push start [] s = ap (λ (n : ℕ). record { pid = s.pid; start = n; len = length s.bytes } ∷ []) (let e : start ≡ start + 0 = omega arith in e)
places-push start (x ∷ ss) s =
    let first : Placed = record { pid = x.pid; start = start; len = length x.bytes } in
    let all = flat_map (λ (y : Sent). y.bytes) ss in
    ap (λ (l : List Placed). first ∷ l) (places-push (start + length x.bytes) ss s)
    ∙ ap (λ (n : ℕ). first ∷ places_from (start + length x.bytes) ss ++ record { pid = s.pid; start = n; len = length s.bytes } ∷ [])
    (let e : start + length x.bytes + length all ≡ start + length (x.bytes ++ all) = omega (arith, length-append x.bytes all) in e)

pub AreLaid-push : (ss : List Sent) (s : Sent) (bytes : List ℕ) (placed : List Placed) (start len : ℕ) → AreLaid ss bytes placed → start ≡ length bytes → len ≡ length s.bytes
    → AreLaid (ss ++ s ∷ []) (bytes ++ s.bytes) (placed ++ record { pid = s.pid; start = start; len = len } ∷ [])
AreLaid-push ss s bytes placed start len h at size = record {
  bytes_are = ap (λ (b : List ℕ). b ++ s.bytes) h.bytes_are ∙ ap (λ (b : List ℕ). flat_map (λ (x : Sent). x.bytes) ss ++ b) (sym (append-nil s.bytes)) ∙ sym (flat_map-append (λ (x : Sent). x.bytes) ss (s ∷ []));
  placed_are =
      ap₂ (λ (l : List Placed) (n : ℕ). l ++ record { pid = s.pid; start = n; len = len } ∷ []) h.placed_are (at ∙ ap length h.bytes_are)
      ∙ ap (λ (n : ℕ). places_from 0 ss ++ record { pid = s.pid; start = length (flat_map (λ (x : Sent). x.bytes) ss); len = n } ∷ []) size
      ∙ sym (places-push 0 ss s ∙ ap (λ (n : ℕ). places_from 0 ss ++ record { pid = s.pid; start = n; len = length s.bytes } ∷ []) (let e : 0 + length (flat_map (λ (x : Sent). x.bytes) ss) ≡ length (flat_map (λ (x : Sent). x.bytes) ss) = omega arith in e));
}

-- the sections up to and with one more
pub sections_more : (version : ℕ) (t : SubTable) (i : ℕ) (s : NumberedBody) → i < length t.sections → s ≡ get_or t.sections i s →
    map (sent_section version t) (take (i + 1) t.sections) ≡ map (sent_section version t) (take i t.sections) ++ sent_section version t s ∷ []
sections_more version t i s lt is =
    ap (map (sent_section version t)) (take_more t.sections i s lt ∙ ap (λ (x : NumberedBody). take i t.sections ++ x ∷ []) (sym is))
    ∙ map-append (sent_section version t) (take i t.sections) (s ∷ [])

pub tables_more : (vs : List ℕ) (ts : List SubTable) (n v : ℕ) (t : SubTable) → n < length vs → n < length ts → v ≡ get_or vs n v → t ≡ get_or ts n t →
    sections_under (take (n + 1) vs) (take (n + 1) ts) ≡ sections_under (take n vs) (take n ts) ++ sections_of v t
tables_more [] ts n v t lt_v lt_t is_v is_t = absurd (omega arith)
tables_more (w ∷ vs) [] n v t lt_v lt_t is_v is_t = absurd (omega arith)
tables_more (w ∷ vs) (u ∷ ts) zero v t lt_v lt_t is_v is_t = append-nil (sections_of w u) ∙ ap₂ sections_of (sym is_v) (sym is_t)
tables_more (w ∷ vs) (u ∷ ts) (suc n) v t lt_v lt_t is_v is_t =
    ap (λ (k : ℕ). sections_under (take k (w ∷ vs)) (take k (u ∷ ts))) (let e : suc n + 1 ≡ suc (n + 1) = omega arith in e)
    ∙ ap (λ (l : List Sent). sections_of w u ++ l) (tables_more vs ts n v t (omega arith) (omega arith) is_v is_t)
    ∙ sym (append_assoc (sections_of w u) (sections_under (take n vs) (take n ts)) (sections_of v t))

-- what is laid stands at its places
placed_behind : (front : List ℕ) (start : ℕ) (ss : List Sent) (bytes : List ℕ) → start ≡ length front → bytes ≡ front ++ flat_map (λ (x : Sent). x.bytes) ss → map (sent_at bytes) (places_from start ss) ≡ ss
placed_behind front start [] bytes at is = refl
placed_behind front start (s ∷ ss) bytes at is =
    let rest = flat_map (λ (x : Sent). x.bytes) ss in
    let here : take (length s.bytes) (drop start bytes) ≡ s.bytes =
    ap₂ (λ (n : ℕ) (b : List ℕ). take (length s.bytes) (drop n b)) at is ∙ ap (take (length s.bytes)) (drop-append_seam front (s.bytes ++ rest)) ∙ take-append_seam s.bytes rest in
    let behind = placed_behind (front ++ s.bytes) (start + length s.bytes) ss bytes (omega (arith, length-append front s.bytes)) (is ∙ sym (append_assoc front s.bytes rest)) in
    ap₂ (λ (b : List ℕ) (l : List Sent). record { pid = s.pid; bytes = b } ∷ l) here behind

pub laid_sent : (ss : List Sent) (bytes : List ℕ) (placed : List Placed) → AreLaid ss bytes placed → map (sent_at bytes) placed ≡ ss
laid_sent ss bytes placed h = ap (map (sent_at bytes)) h.placed_are ∙ placed_behind [] 0 ss bytes refl h.bytes_are

-- where one list is used up, all sections are there
pub sections_all : (vs : List ℕ) (ts : List SubTable) (n : ℕ) → n ≡ min (length ts) (length vs) → sections_under (take n vs) (take n ts) ≡ sections_under vs ts
sections_all [] ts zero e = refl
sections_all [] ts (suc n) e = refl
sections_all (v ∷ vs) [] zero e = refl
sections_all (v ∷ vs) [] (suc n) e = refl
sections_all (v ∷ vs) (t ∷ ts) zero e = absurd (omega arith)
sections_all (v ∷ vs) (t ∷ ts) (suc n) e = ap (λ (l : List Sent). sections_of v t ++ l) (sections_all vs ts n (omega arith))

-- ---- a list cut at a place

-- a place behind the end is the end
pub take_within : {X : Type 0} (n : ℕ) (xs : List X) → take (min n (length xs)) xs ≡ take n xs
take_within n xs = elim (cases_lt n (length xs)) [
  | inl lt ↦ ap (λ (k : ℕ). take k xs) (let e : min n (length xs) ≡ n = omega arith in e)
  | inr le ↦ ap (λ (k : ℕ). take k xs) (let e : min n (length xs) ≡ length xs = omega arith in e) ∙ take_all (length xs) xs (omega arith) ∙ sym (take_all n xs le)
]

pub drop_within : {X : Type 0} (n : ℕ) (xs : List X) → drop (min n (length xs)) xs ≡ drop n xs
drop_within n xs = elim (cases_lt n (length xs)) [
  | inl lt ↦ ap (λ (k : ℕ). drop k xs) (let e : min n (length xs) ≡ n = omega arith in e)
  | inr le ↦ ap (λ (k : ℕ). drop k xs) (let e : min n (length xs) ≡ length xs = omega arith in e) ∙ drop_all (length xs) xs (omega arith) ∙ sym (drop_all n xs le)
]

room-cut : (n : ℕ) (ts : List SubTable) → (room_for (take n ts) + room_for (drop n ts) ≡ room_for ts) × (places_for (take n ts) + places_for (drop n ts) ≡ places_for ts)
room-cut zero ts = (omega arith, omega arith)
room-cut (suc n) [] = (omega arith, omega arith)
room-cut (suc n) (t ∷ ts) = let rest = room-cut n ts in (omega (arith, rest.0), omega (arith, rest.1))

-- the room for both parts is the room for all
pub room-parts : (n : ℕ) (ts front behind : List SubTable) → front ≡ take n ts → behind ≡ drop n ts → (room_for front + room_for behind ≡ room_for ts) × (places_for front + places_for behind ≡ places_for ts)
room-parts n ts front behind f b =
    (ap₂ (λ (x y : List SubTable). room_for x + room_for y) f b ∙ (room-cut n ts).0, ap₂ (λ (x y : List SubTable). places_for x + places_for y) f b ∙ (room-cut n ts).1)
