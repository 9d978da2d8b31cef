-- A demultiplexer that open_behind one open buffer hears what the definition says.
use Rattle.std.proofs.Common.{◌≡◌, ℕ, zero, suc, ◌<◌, ◌≤◌, List, [], ◌∷◌, ◌++◌, Bool, true, false, not, ◌&&◌, ◌==◌, Option, Some, None, length, refl, sym, ap, ◌∙◌, arith, take, drop, append_assoc, append-nil}
use Rattle.std.specs.Prelude.{if◌then◌else◌, nat_le}
use Rattle.std.proofs.lemmas.Bool.{and_parts, and_from}
use Rattle.ts_packets.specs.Packets.{Piece}
use Rattle.si_lists.proofs.Truths.{not_both}
use Rattle.ts_demux.specs.Hearing.{size_in, is_whole, begun, passed_over, goes_on, behind_pointer, heard}
use Rattle.ts_demux.proofs.Deciding.{le_told, le_false, le_yes}
use Rattle.ts_demux.proofs.Heard.{size_in-append}
use Rattle.ts_demux.specs.Keeping.{is_long}
use Rattle.ts_demux.specs.Steps.{kept_open, left_open, open_from_start, open_further, open_behind, finished, finished_with, given_from_start, given_by, IsOpen}
use Rattle.ts_demux.proofs.Lists.{drop-past}
use Rattle.ts_demux.proofs.Hear.{whole_more, pick_no, pick_none, pick_yes, found}

abbrev pub machine : Option (List ℕ) → List Piece → List (List ℕ)
machine o [] = []
machine o (p ∷ ps) = given_by o p ++ machine (open_behind o p) ps

-- its header stays too long where more follows
pub long_more : (x y : List ℕ) → is_long x ≡ true → is_whole (x ++ y) ≡ false
long_more x y h = go (is_whole (x ++ y)) refl
  where
    no : (b : Bool) → not b ≡ true → b ≡ true → Prim.⊥
    no true e f = cc
    no false e f = cc

    go : (w : Bool) → is_whole (x ++ y) ≡ w → is_whole (x ++ y) ≡ false
    go false e = e
    go true e =
        let p = and_parts (nat_le 3 (length x)) (not (nat_le (size_in x) 4096)) h in
        let q = and_parts (nat_le 3 (length (x ++ y))) (nat_le (size_in (x ++ y)) 4096 && nat_le (size_in (x ++ y)) (length (x ++ y))) e in
        let r = and_parts (nat_le (size_in (x ++ y)) 4096) (nat_le (size_in (x ++ y)) (length (x ++ y))) q.1 in
        absurd (no (nat_le (size_in x) 4096) p.1 (ap (λ (n : ℕ). nat_le n 4096) (sym (size_in-append x y (le_told 3 (length x) p.0))) ∙ r.0))

pub size_in-three : (x : List ℕ) → 3 ≤ length x → 3 ≤ size_in x
size_in-three [] h = absurd (omega arith)
size_in-three (a ∷ []) h = absurd (omega arith)
size_in-three (a ∷ b ∷ []) h = absurd (omega arith)
size_in-three (a ∷ b ∷ c ∷ x) h = omega arith

-- where a section is whole only with what follows, it ends there
pub ends_later : (x y : List ℕ) → is_whole x ≡ false → is_whole (x ++ y) ≡ true → length x ≤ size_in (x ++ y)
ends_later x y part all =
    let q = and_parts (nat_le 3 (length (x ++ y))) (nat_le (size_in (x ++ y)) 4096 && nat_le (size_in (x ++ y)) (length (x ++ y))) all in
    let r = and_parts (nat_le (size_in (x ++ y)) 4096) (nat_le (size_in (x ++ y)) (length (x ++ y))) q.1 in
    go (le_told 3 (length (x ++ y)) q.0) (le_told (size_in (x ++ y)) 4096 r.0) (nat_le 3 (length x)) refl (nat_le (size_in x) (length x)) refl
  where
    go : 3 ≤ length (x ++ y) → size_in (x ++ y) ≤ 4096 → (a : Bool) → nat_le 3 (length x) ≡ a → (b : Bool) → nat_le (size_in x) (length x) ≡ b → length x ≤ size_in (x ++ y)
    go three most false e b f =
        let small : length x < 3 = le_false 3 (length x) e in
        omega (arith, size_in-three (x ++ y) three)
    go three most true e true f =
        let n : size_in (x ++ y) ≡ size_in x = size_in-append x y (le_told 3 (length x) e) in
        absurd (not_both (is_whole x) (and_from (nat_le 3 (length x)) (nat_le (size_in x) 4096 && nat_le (size_in x) (length x)) e (and_from (nat_le (size_in x) 4096) (nat_le (size_in x) (length x)) (le_yes (size_in x) 4096 (omega arith)) f)) part)
    go three most true e false f =
        let n : size_in (x ++ y) ≡ size_in x = size_in-append x y (le_told 3 (length x) e) in
        let l : length x < size_in x = le_false (size_in x) (length x) f in
        omega arith

pub begun-nothing : (n : ℕ) (later : List ℕ) → begun n [] later ≡ []
begun-nothing zero later = refl
begun-nothing (suc n) later = refl

pub not_whole-finished : (x : List ℕ) → is_whole x ≡ false → finished x ≡ []
not_whole-finished x e = ap (λ (b : Bool). if b then take (size_in x) x ∷ [] else []) e

whole-finished : (x y : List ℕ) → is_whole x ≡ true → finished (x ++ y) ≡ take (size_in x) x ∷ []
whole-finished x y e =
    let w = whole_more x y e in
    ap (λ (b : Bool). if b then take (size_in (x ++ y)) (x ++ y) ∷ [] else []) w.0 ∙ ap (λ (n : ℕ). take n (x ++ y) ∷ []) w.1 ∙ ap (λ (t : List ℕ). t ∷ []) w.2

-- what is kept_open given_by what it would have given
kept_open-later : (x later : List ℕ) → finished_with (kept_open x) later ≡ finished (x ++ later)
kept_open-later x later = go (is_long x) refl
  where
    go : (b : Bool) → is_long x ≡ b → finished_with (if b then None else Some x) later ≡ finished (x ++ later)
    go true e = sym (not_whole-finished (x ++ later) (long_more x later e))
    go false e = refl

-- the three cases of a beginning
pub begun-fill : (n b : ℕ) (here later : List ℕ) → (b == 255) ≡ true → begun (suc n) (b ∷ here) later ≡ []
begun-fill n b here later f = pick_no (b == 255) (is_whole (b ∷ here ++ later)) (found n b here later) f

pub begun-whole : (n b : ℕ) (here later : List ℕ) → (b == 255) ≡ false → is_whole (b ∷ here) ≡ true →
    begun (suc n) (b ∷ here) later ≡ take (size_in (b ∷ here)) (b ∷ here) ∷ begun n (drop (size_in (b ∷ here)) (b ∷ here)) later
begun-whole n b here later f e =
    let w = whole_more (b ∷ here) later e in
    pick_yes (b == 255) (is_whole (b ∷ here ++ later)) (found n b here later) f w.0
    ∙ ap (λ (k : ℕ). take k (b ∷ here ++ later) ∷ begun n (drop k (b ∷ here)) later) w.1
    ∙ ap (λ (t : List ℕ). t ∷ begun n (drop (size_in (b ∷ here)) (b ∷ here)) later) w.2

pub begun-part : (n b : ℕ) (here later : List ℕ) → (b == 255) ≡ false → is_whole (b ∷ here) ≡ false → begun (suc n) (b ∷ here) later ≡ finished (b ∷ here ++ later)
begun-part n b here later f e = go (is_whole (b ∷ here ++ later)) refl
  where
    go : (w : Bool) → is_whole (b ∷ here ++ later) ≡ w → begun (suc n) (b ∷ here) later ≡ finished (b ∷ here ++ later)
    go false g = pick_none (b == 255) (is_whole (b ∷ here ++ later)) (found n b here later) f g ∙ sym (not_whole-finished (b ∷ here ++ later) g)
    go true g =
        let size = size_in (b ∷ here ++ later) in
        pick_yes (b == 255) (is_whole (b ∷ here ++ later)) (found n b here later) f g
        ∙ ap (λ (x : List ℕ). take size (b ∷ here ++ later) ∷ begun n x later) (drop-past size (b ∷ here) (ends_later (b ∷ here) later e g))
        ∙ ap (λ (x : List (List ℕ)). take size (b ∷ here ++ later) ∷ x) (begun-nothing n later)
        ∙ sym (ap (λ (x : Bool). if x then take size (b ∷ here ++ later) ∷ [] else []) g)

-- what begins in a packet: that which is whole there, and that which is open behind it
begun-open : (n : ℕ) (here later : List ℕ) → begun n here later ≡ begun n here [] ++ finished_with (left_open n here) later
begun-open zero here later = refl
begun-open (suc n) [] later = refl
begun-open (suc n) (b ∷ here) later = go (b == 255) refl (is_whole (b ∷ here)) refl (λ k. begun-open n (drop k (b ∷ here)) later)
  where
    opened : Bool → Bool → Option (List ℕ)
    opened x y = if x then None else if y then left_open n (drop (size_in (b ∷ here)) (b ∷ here)) else kept_open (b ∷ here)

    go : (fill : Bool) → (b == 255) ≡ fill → (w : Bool) → is_whole (b ∷ here) ≡ w → ((k : ℕ) → begun n (drop k (b ∷ here)) later ≡ begun n (drop k (b ∷ here)) [] ++ finished_with (left_open n (drop k (b ∷ here))) later)
        → begun (suc n) (b ∷ here) later ≡ begun (suc n) (b ∷ here) [] ++ finished_with (left_open (suc n) (b ∷ here)) later
    go true f w e rec =
        begun-fill n b here later f ∙ sym (ap (λ (x : List (List ℕ)). x ++ finished_with (left_open (suc n) (b ∷ here)) later) (begun-fill n b here [] f)
        ∙ ap (λ (x : Bool). finished_with (if x then None else if is_whole (b ∷ here) then left_open n (drop (size_in (b ∷ here)) (b ∷ here)) else kept_open (b ∷ here)) later) f)
    go false f true e rec =
        let s = size_in (b ∷ here) in
        begun-whole n b here later f e ∙ ap (λ (x : List (List ℕ)). take s (b ∷ here) ∷ x) (rec s)
        ∙ sym (ap (λ (x : List (List ℕ)). x ++ finished_with (left_open (suc n) (b ∷ here)) later) (begun-whole n b here [] f e)
        ∙ ap (λ (x : Bool). (take s (b ∷ here) ∷ begun n (drop s (b ∷ here)) []) ++ finished_with (if x then None else if is_whole (b ∷ here) then left_open n (drop s (b ∷ here)) else kept_open (b ∷ here)) later) f
        ∙ ap (λ (x : Bool). (take s (b ∷ here) ∷ begun n (drop s (b ∷ here)) []) ++ finished_with (if x then left_open n (drop s (b ∷ here)) else kept_open (b ∷ here)) later) e)
    go false f false e rec =
        let s = size_in (b ∷ here) in
        begun-part n b here later f e
        ∙ sym (ap (λ (x : List (List ℕ)). x ++ finished_with (left_open (suc n) (b ∷ here)) later) (begun-part n b here [] f e ∙ ap finished (append-nil (b ∷ here)) ∙ not_whole-finished (b ∷ here) e)
        ∙ ap (λ (x : Bool). finished_with (if x then None else if is_whole (b ∷ here) then left_open n (drop s (b ∷ here)) else kept_open (b ∷ here)) later) f
        ∙ ap (λ (x : Bool). finished_with (if x then left_open n (drop s (b ∷ here)) else kept_open (b ∷ here)) later) e
        ∙ kept_open-later (b ∷ here) later)

kept_open-open : (x : List ℕ) → is_whole x ≡ false → IsOpen (kept_open x)
kept_open-open x e = go (is_long x) refl
  where
    go : (b : Bool) → is_long x ≡ b → IsOpen (if b then None else Some x)
    go true f = tt
    go false f = (e, f)

pub left_open-open : (n : ℕ) (here : List ℕ) → IsOpen (left_open n here)
left_open-open zero here = tt
left_open-open (suc n) [] = tt
left_open-open (suc n) (b ∷ here) = go (b == 255) (is_whole (b ∷ here)) refl (left_open-open n (drop (size_in (b ∷ here)) (b ∷ here)))
  where
    go : (fill w : Bool) → is_whole (b ∷ here) ≡ w → IsOpen (left_open n (drop (size_in (b ∷ here)) (b ∷ here))) → IsOpen (if fill then None else if w then left_open n (drop (size_in (b ∷ here)) (b ∷ here)) else kept_open (b ∷ here))
    go true w e rec = tt
    go false true e rec = rec
    go false false e rec = kept_open-open (b ∷ here) e

pub open_behind-open : (o : Option (List ℕ)) (p : Piece) → IsOpen (open_behind o p)
open_behind-open o p = go o p.start p.payload
  where
    more : (bytes payload : List ℕ) (w : Bool) → is_whole (bytes ++ payload) ≡ w → IsOpen (if w then None else kept_open (bytes ++ payload))
    more bytes payload true e = tt
    more bytes payload false e = kept_open-open (bytes ++ payload) e

    first : (n : ℕ) (bytes : List ℕ) (b : Bool) → IsOpen (if b then left_open (length bytes) (drop n bytes) else None)
    first n bytes true = left_open-open (length bytes) (drop n bytes)
    first n bytes false = tt

    go : (o : Option (List ℕ)) (s : Bool) (payload : List ℕ) → IsOpen (if s then open_from_start payload else open_further o payload)
    go o true [] = tt
    go o true (n ∷ bytes) = first n bytes (nat_le n (length bytes))
    go None false payload = tt
    go (Some bytes) false payload = more bytes payload (is_whole (bytes ++ payload)) refl

nothing_open : (o : Option (List ℕ)) → IsOpen o → finished_with o [] ≡ []
nothing_open None h = refl
nothing_open (Some bytes) h = ap finished (append-nil bytes) ∙ not_whole-finished bytes h.0

-- a buffer and a payload, and what follows
goes-on : (bytes payload later : List ℕ) → finished (bytes ++ payload) ++ finished_with (open_further (Some bytes) payload) later ≡ finished (bytes ++ (payload ++ later))
goes-on bytes payload later = go (is_whole (bytes ++ payload)) refl
  where
    go : (w : Bool) → is_whole (bytes ++ payload) ≡ w → finished (bytes ++ payload) ++ finished_with (if w then None else kept_open (bytes ++ payload)) later ≡ finished (bytes ++ (payload ++ later))
    go true e = append-nil (finished (bytes ++ payload)) ∙ ap (λ (b : Bool). if b then take (size_in (bytes ++ payload)) (bytes ++ payload) ∷ [] else []) e
        ∙ sym (ap finished (sym (append_assoc bytes payload later)) ∙ whole-finished (bytes ++ payload) later e)
    go false e = ap (λ (x : List (List ℕ)). x ++ finished_with (kept_open (bytes ++ payload)) later) (not_whole-finished (bytes ++ payload) e) ∙ kept_open-later (bytes ++ payload) later ∙ ap finished (append_assoc bytes payload later)

pub machine-hears : (o : Option (List ℕ)) (ps : List Piece) → IsOpen o → machine o ps ≡ finished_with o (goes_on ps) ++ heard ps
machine-hears o [] h = sym (append-nil (finished_with o []) ∙ nothing_open o h)
machine-hears o (p ∷ ps) h =
    ap (λ (x : List (List ℕ)). given_by o p ++ x) (machine-hears (open_behind o p) ps (open_behind-open o p)) ∙ go p.start p.payload o h
  where
    at : (n : ℕ) (bytes : List ℕ) (o : Option (List ℕ)) → IsOpen o → (b : Bool) →
        (if b then finished_with o (take n bytes) ++ begun (length bytes) (drop n bytes) [] else []) ++ (finished_with (if b then left_open (length bytes) (drop n bytes) else None) (goes_on ps) ++ heard ps)
        ≡ finished_with o (if b then take n bytes else []) ++ ((if b then begun (length bytes) (drop n bytes) (goes_on ps) else []) ++ heard ps)
    at n bytes o h false = ap (λ (x : List (List ℕ)). x ++ heard ps) (sym (nothing_open o h))
    at n bytes o h true =
        let B = begun (length bytes) (drop n bytes) [] in
        let L = finished_with (left_open (length bytes) (drop n bytes)) (goes_on ps) in
        append_assoc (finished_with o (take n bytes)) B (L ++ heard ps)
        ∙ ap (λ (x : List (List ℕ)). finished_with o (take n bytes) ++ x) (sym (append_assoc B L (heard ps)) ∙ ap (λ (x : List (List ℕ)). x ++ heard ps) (sym (begun-open (length bytes) (drop n bytes) (goes_on ps))))

    go : (s : Bool) (payload : List ℕ) (o : Option (List ℕ)) → IsOpen o →
        (if s then given_from_start o payload else finished_with o payload) ++ (finished_with (if s then open_from_start payload else open_further o payload) (goes_on ps) ++ heard ps)
        ≡ finished_with o (if s then passed_over payload else payload ++ goes_on ps) ++ ((if s then behind_pointer payload (goes_on ps) else []) ++ heard ps)
    go true [] o h = ap (λ (x : List (List ℕ)). x ++ heard ps) (sym (nothing_open o h))
    go true (n ∷ bytes) o h = at n bytes o h (nat_le n (length bytes))
    go false payload None h = refl
    go false payload (Some bytes) h = sym (append_assoc (finished (bytes ++ payload)) (finished_with (open_further (Some bytes) payload) (goes_on ps)) (heard ps)) ∙ ap (λ (x : List (List ℕ)). x ++ heard ps) (goes-on bytes payload (goes_on ps))

-- From nothing open, the machine hears the sections of the definition.
pub machine-is : (ps : List Piece) → machine None ps ≡ heard ps
machine-is ps = machine-hears None ps tt
