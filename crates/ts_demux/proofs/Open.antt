-- What is kept behind a packet is what the definition says of all packets.
use Rattle.std.proofs.Common.{◌≡◌, ℕ, zero, suc, List, [], ◌∷◌, ◌++◌, Bool, true, false, not, ◌==◌, Option, Some, None, length, refl, sym, ap, ap₂, ◌∙◌, arith, drop, append_assoc, append-nil, length-append}
use Rattle.std.specs.Prelude.{if◌then◌else◌, nat_le, ◌||◌}
use Rattle.std.proofs.lemmas.Bool.{and_parts, and_from, or_parts}
use Rattle.ts_packets.specs.Packets.{Piece}
use Rattle.ts_demux.specs.Hearing.{size_in, is_whole, passed_over, goes_on}
use Rattle.ts_demux.specs.Keeping.{is_long, unended, unended_behind, unended_in, has_start, open_section}
use Rattle.ts_demux.specs.Steps.{kept_open, left_open, open_from_start, open_further, open_behind, IsOpen}
use Rattle.ts_demux.proofs.Deciding.{le_told, le_yes}
use Rattle.ts_demux.proofs.Lists.{drop-past}
use Rattle.ts_demux.proofs.Heard.{size_in-append}
use Rattle.ts_demux.proofs.Hear.{whole_more}
use Rattle.ts_demux.proofs.Machine.{long_more, ends_later, left_open-open}

-- a section_length that is too long stays so where more follows
long_stays : (x y : List ℕ) → is_long x ≡ true → is_long (x ++ y) ≡ true
long_stays x y e =
    let p = and_parts (nat_le 3 (length x)) (not (nat_le (size_in x) 4096)) e in
    let three = le_told 3 (length x) p.0 in
    and_from (nat_le 3 (length (x ++ y))) (not (nat_le (size_in (x ++ y)) 4096))
    (le_yes 3 (length (x ++ y)) (omega (arith, length-append x y)))
    (ap (λ (n : ℕ). not (nat_le n 4096)) (size_in-append x y three) ∙ p.1)

abbrev three : Bool → Bool → Option (List ℕ) → Option (List ℕ) → Option (List ℕ)
three w l x y = if w then x else if l then None else y

unended_nothing : (n : ℕ) (later : List ℕ) → unended n [] later ≡ None
unended_nothing zero later = refl
unended_nothing (suc n) later = refl

-- what a packet leaves open, and what goes on with it
further-long : (x y : List ℕ) → is_long x ≡ true → (if is_whole (x ++ y) then None else kept_open (x ++ y)) ≡ None
further-long x y e =
    ap (λ (w : Bool). if w then None else kept_open (x ++ y)) (long_more x y e) ∙ ap (λ (l : Bool). if l then None else Some (x ++ y)) (long_stays x y e)

pub unended-left : (n : ℕ) (here later : List ℕ) → unended n here later ≡ open_further (left_open n here) later
unended-left zero here later = refl
unended-left (suc n) [] later = refl
unended-left (suc n) (b ∷ here) later = go (b == 255) (is_whole (b ∷ here)) refl (is_long (b ∷ here)) refl (λ k. unended-left n (drop k (b ∷ here)) later)
  where
    X : List ℕ
    X = b ∷ here

    all : List ℕ
    all = X ++ later

    go : (fill : Bool) (w : Bool) → is_whole X ≡ w → (l : Bool) → is_long X ≡ l → ((k : ℕ) → unended n (drop k X) later ≡ open_further (left_open n (drop k X)) later)
        → (if fill then None else three (is_whole all) (is_long all) (unended n (drop (size_in all) X) later) (Some all))
        ≡ open_further (if fill then None else if is_whole X then left_open n (drop (size_in X) X) else kept_open X) later
    go true w e l f rec = refl
    go false true e l f rec =
        let m = whole_more X later e in
        ap (λ (w : Bool). three w (is_long all) (unended n (drop (size_in all) X) later) (Some all)) m.0
        ∙ ap (λ (k : ℕ). unended n (drop k X) later) m.1 ∙ rec (size_in X)
        ∙ sym (ap (λ (w : Bool). open_further (if w then left_open n (drop (size_in X) X) else kept_open X) later) e)
    go false false e true f rec =
        ap (λ (w : Bool). three w (is_long all) (unended n (drop (size_in all) X) later) (Some all)) (long_more X later f)
        ∙ ap (λ (l : Bool). if l then None else Some all) (long_stays X later f)
        ∙ sym (ap (λ (w : Bool). open_further (if w then left_open n (drop (size_in X) X) else kept_open X) later) e
        ∙ ap (λ (l : Bool). open_further (if l then None else Some X) later) f)
    go false false e false f rec =
        part (is_whole all) refl
        ∙ sym (ap (λ (w : Bool). open_further (if w then left_open n (drop (size_in X) X) else kept_open X) later) e
        ∙ ap (λ (l : Bool). open_further (if l then None else Some X) later) f)
      where
        part : (w : Bool) → is_whole all ≡ w → three (is_whole all) (is_long all) (unended n (drop (size_in all) X) later) (Some all) ≡ (if is_whole all then None else kept_open all)
        part true g =
            ap (λ (w : Bool). three w (is_long all) (unended n (drop (size_in all) X) later) (Some all)) g
            ∙ ap (λ (x : List ℕ). unended n x later) (drop-past (size_in all) X (ends_later X later e g)) ∙ unended_nothing n later
            ∙ sym (ap (λ (w : Bool). if w then None else kept_open all) g)
        part false g =
            ap (λ (w : Bool). three w (is_long all) (unended n (drop (size_in all) X) later) (Some all)) g
            ∙ sym (ap (λ (w : Bool). if w then None else kept_open all) g)

unended_in-left : (p : Piece) (later : List ℕ) → unended_in p later ≡ open_further (if p.start then open_from_start p.payload else None) later
unended_in-left p later = go p.start p.payload
  where
    go : (s : Bool) (payload : List ℕ) → (if s then unended_behind payload later else None) ≡ open_further (if s then open_from_start payload else None) later
    go false payload = refl
    go true [] = refl
    go true (n ∷ bytes) = at (nat_le n (length bytes))
      where
        at : (b : Bool) → (if b then unended (length bytes) (drop n bytes) later else None) ≡ open_further (if b then left_open (length bytes) (drop n bytes) else None) later
        at true = unended-left (length bytes) (drop n bytes) later
        at false = refl

from_start-open : (s : Bool) (payload : List ℕ) → IsOpen (if s then open_from_start payload else None)
from_start-open false payload = tt
from_start-open true [] = tt
from_start-open true (n ∷ bytes) = at (nat_le n (length bytes))
  where
    at : (b : Bool) → IsOpen (if b then left_open (length bytes) (drop n bytes) else None)
    at true = left_open-open (length bytes) (drop n bytes)
    at false = tt

-- two payloads that go on
further_twice : (o : Option (List ℕ)) (x y : List ℕ) → open_further (open_further o x) y ≡ open_further o (x ++ y)
further_twice None x y = refl
further_twice (Some bytes) x y = go (is_whole (bytes ++ x)) refl (is_long (bytes ++ x)) refl
  where
    X : List ℕ
    X = bytes ++ x

    whole : List ℕ
    whole = bytes ++ (x ++ y)

    same : X ++ y ≡ whole
    same = append_assoc bytes x y

    go : (w : Bool) → is_whole X ≡ w → (l : Bool) → is_long X ≡ l → open_further (if is_whole X then None else kept_open X) y ≡ (if is_whole whole then None else kept_open whole)
    go true e l f =
        ap (λ (w : Bool). open_further (if w then None else kept_open X) y) e
        ∙ sym (ap (λ (z : List ℕ). if is_whole z then None else kept_open z) (sym same) ∙ ap (λ (w : Bool). if w then None else kept_open (X ++ y)) (whole_more X y e).0)
    go false e true f =
        ap (λ (w : Bool). open_further (if w then None else kept_open X) y) e ∙ ap (λ (l : Bool). open_further (if l then None else Some X) y) f
        ∙ sym (ap (λ (z : List ℕ). if is_whole z then None else kept_open z) (sym same) ∙ further-long X y f)
    go false e false f =
        ap (λ (w : Bool). open_further (if w then None else kept_open X) y) e ∙ ap (λ (l : Bool). open_further (if l then None else Some X) y) f
        ∙ ap (λ (z : List ℕ). if is_whole z then None else kept_open z) same

nothing_more : (o : Option (List ℕ)) → IsOpen o → open_further o [] ≡ o
nothing_more None h = refl
nothing_more (Some bytes) h =
    ap (λ (z : List ℕ). if is_whole z then None else kept_open z) (append-nil bytes)
    ∙ ap (λ (w : Bool). if w then None else kept_open bytes) h.0 ∙ ap (λ (l : Bool). if l then None else Some bytes) h.1

has_start-push : (ps : List Piece) (q : Piece) → has_start (ps ++ q ∷ []) ≡ (has_start ps || q.start)
has_start-push [] q = or_false q.start
  where
    or_false : (b : Bool) → (b || false) ≡ b
    or_false true = refl
    or_false false = refl
has_start-push (p ∷ ps) q = ap (λ (b : Bool). p.start || b) (has_start-push ps q) ∙ or_assoc p.start (has_start ps) q.start
  where
    or_assoc : (a b c : Bool) → (a || (b || c)) ≡ ((a || b) || c)
    or_assoc true b c = refl
    or_assoc false b c = refl

-- where no packet starts, all go on
goes_on-more : (ps : List Piece) (q : Piece) → has_start ps ≡ false → q.start ≡ false → goes_on (ps ++ q ∷ []) ≡ goes_on ps ++ q.payload
goes_on-more [] q e f = ap (λ (s : Bool). if s then passed_over q.payload else q.payload ++ []) f ∙ append-nil q.payload
goes_on-more (p ∷ ps) q e f =
    let no = or_parts p.start (has_start ps) e in
    ap (λ (s : Bool). if s then passed_over p.payload else p.payload ++ goes_on (ps ++ q ∷ [])) no.0
    ∙ ap (λ (x : List ℕ). p.payload ++ x) (goes_on-more ps q no.1 f) ∙ sym (append_assoc p.payload (goes_on ps) q.payload)
    ∙ sym (ap (λ (s : Bool). (if s then passed_over p.payload else p.payload ++ goes_on ps) ++ q.payload) no.0)

start_anyway : (o r : Option (List ℕ)) (q : Piece) → q.start ≡ true → open_behind o q ≡ open_behind r q
start_anyway o r q e =
    ap (λ (s : Bool). if s then open_from_start q.payload else open_further o q.payload) e
    ∙ sym (ap (λ (s : Bool). if s then open_from_start q.payload else open_further r q.payload) e)

-- One packet more of a stretch.
pub open_section-push : (ps : List Piece) (q : Piece) → open_section (ps ++ q ∷ []) ≡ open_behind (open_section ps) q
open_section-push [] q = unended_in-left q [] ∙ nothing_more (if q.start then open_from_start q.payload else None) (from_start-open q.start q.payload) ∙ go q.start
  where
    go : (s : Bool) → (if s then open_from_start q.payload else None) ≡ (if s then open_from_start q.payload else open_further None q.payload)
    go true = refl
    go false = refl
open_section-push (p ∷ ps) q = go (has_start ps) refl q.start refl (open_section-push ps q)
  where
    starts : (b : Bool) → has_start (ps ++ q ∷ []) ≡ b → open_section (p ∷ (ps ++ q ∷ [])) ≡ (if b then open_section (ps ++ q ∷ []) else unended_in p (goes_on (ps ++ q ∷ [])))
    starts b e = ap (λ (x : Bool). if x then open_section (ps ++ q ∷ []) else unended_in p (goes_on (ps ++ q ∷ []))) e

    before : (b : Bool) → has_start ps ≡ b → open_section (p ∷ ps) ≡ (if b then open_section ps else unended_in p (goes_on ps))
    before b e = ap (λ (x : Bool). if x then open_section ps else unended_in p (goes_on ps)) e

    either : (a b : Bool) → has_start ps ≡ a → q.start ≡ b → has_start (ps ++ q ∷ []) ≡ (a || b)
    either a b e f = has_start-push ps q ∙ ap₂ (λ (x y : Bool). x || y) e f

    go : (a : Bool) → has_start ps ≡ a → (b : Bool) → q.start ≡ b → open_section (ps ++ q ∷ []) ≡ open_behind (open_section ps) q → open_section (p ∷ (ps ++ q ∷ [])) ≡ open_behind (open_section (p ∷ ps)) q
    go true e b f rec = starts true (either true b e f) ∙ rec ∙ ap (λ (o : Option (List ℕ)). open_behind o q) (sym (before true e))
    go false e true f rec = starts true (either false true e f) ∙ rec ∙ start_anyway (open_section ps) (open_section (p ∷ ps)) q f
    go false e false f rec =
        let o = if p.start then open_from_start p.payload else None in
        starts false (either false false e f)
        ∙ ap (unended_in p) (goes_on-more ps q e f) ∙ unended_in-left p (goes_on ps ++ q.payload)
        ∙ sym (further_twice o (goes_on ps) q.payload)
        ∙ ap (λ (x : Option (List ℕ)). open_further x q.payload) (sym (unended_in-left p (goes_on ps)) ∙ sym (before false e))
        ∙ sym (ap (λ (s : Bool). if s then open_from_start q.payload else open_further (open_section (p ∷ ps)) q.payload) f)
