-- What is heard of packets that carry sections.
use Rattle.std.proofs.Common.{◌≡◌, ℕ, zero, suc, ◌+◌, ◌-◌, ◌<◌, ◌≤◌, ◌≢◌, ◌⊎◌, inl, inr, List, [], ◌∷◌, ◌++◌, Bool, true, false, ◌&&◌, ◌==◌, length, refl, sym, ap, ◌∙◌, subst, subst₂, arith, take, drop, append_assoc, append-nil, length-append, length-drop}
use Rattle.std.specs.Prelude.{if◌then◌else◌, nat_le}
use Rattle.std.specs.List.{AllByRecursion}
use Rattle.std.proofs.lemmas.List.{take_at, drop_at}
use Rattle.std.proofs.lemmas.Bool.{and_from, ne_eqb}
use Rattle.ts_packets.specs.Packets.{joined, filled, piece_of, left_by, Begin, pieces, left, HaveSectionBytes, all_of}
use Rattle.ts_demux.specs.Hearing.{size_in, is_whole, begun, passed_over, goes_on, begun_in, heard, IsSection}
use Rattle.ts_demux.proofs.Deciding.{le_yes, le_no}
use Rattle.ts_demux.specs.Laws.{but_last, ended}
use Rattle.ts_demux.proofs.Lists.{length-filled, drop-filled, filled-append, drop-append_past, take-filled_front, filled-rest, filled-cut, drop-past}

pub size_in-append : (s more : List ℕ) → 3 ≤ length s → size_in (s ++ more) ≡ size_in s
size_in-append [] more h = absurd (omega arith)
size_in-append (a ∷ []) more h = absurd (omega arith)
size_in-append (a ∷ b ∷ []) more h = absurd (omega arith)
size_in-append (a ∷ b ∷ c ∷ s) more h = refl

whole : (s w : List ℕ) → IsSection s → is_whole (s ++ w) ≡ true
whole s w is =
    let n : size_in (s ++ w) ≡ length s = size_in-append s w is.header ∙ is.size in
    let l : length s ≤ length (s ++ w) = omega (arith, length-append s w) in
    and_from (nat_le 3 (length (s ++ w))) (nat_le (size_in (s ++ w)) 4096 && nat_le (size_in (s ++ w)) (length (s ++ w)))
    (le_yes 3 (length (s ++ w)) (omega (arith, is.header)))
    (and_from (nat_le (size_in (s ++ w)) 4096) (nat_le (size_in (s ++ w)) (length (s ++ w)))
    (le_yes (size_in (s ++ w)) 4096 (omega (arith, is.most)))
    (le_yes (size_in (s ++ w)) (length (s ++ w)) (omega arith)))

choose_then : (p q : Bool) (x y z : List (List ℕ)) → p ≡ false → q ≡ true → (if p then x else if q then y else z) ≡ y
choose_then p q x y z e f = ap (λ (b : Bool). if b then x else if q then y else z) e ∙ ap (λ (b : Bool). if b then y else z) f

choose_else : (p q : Bool) (x y z : List (List ℕ)) → p ≡ false → q ≡ false → (if p then x else if q then y else z) ≡ z
choose_else p q x y z e f = ap (λ (b : Bool). if b then x else if q then y else z) e ∙ ap (λ (b : Bool). if b then y else z) f

-- a section at the front is heard, and the next begins behind it
begun-section : (f b : ℕ) (here later s w : List ℕ) → IsSection s → b ≢ 255 → b ∷ here ++ later ≡ s ++ w →
    begun (suc f) (b ∷ here) later ≡ s ∷ begun f (drop (length s) (b ∷ here)) later
begun-section f b here later s w is ne e =
    let bytes = b ∷ here ++ later in
    let n : size_in bytes ≡ length s = ap size_in e ∙ size_in-append s w is.header ∙ is.size in
    let wh : is_whole bytes ≡ true = ap is_whole e ∙ whole s w is in
    let t : take (size_in bytes) bytes ≡ s = ap (λ (k : ℕ). take k bytes) n ∙ ap (take (length s)) e ∙ take_at s w (length s) refl in
    choose_then (b == 255) (is_whole bytes) [] (take (size_in bytes) bytes ∷ begun f (drop (size_in bytes) (b ∷ here)) later) [] (ne_eqb b 255 ne) wh
    ∙ ap (λ (x : List ℕ). x ∷ begun f (drop (size_in bytes) (b ∷ here)) later) t
    ∙ ap (λ (k : ℕ). s ∷ begun f (drop k (b ∷ here)) later) n

-- the front of a section is no whole one
not_whole : (x : List ℕ) (c : ℕ) (missing : List ℕ) → IsSection (x ++ c ∷ missing) → is_whole x ≡ false
not_whole [] c missing is = refl
not_whole (a ∷ []) c missing is = refl
not_whole (a ∷ b ∷ []) c missing is = refl
not_whole (a ∷ b ∷ d ∷ x) c missing is =
    let bytes = a ∷ b ∷ d ∷ x in
    let n : size_in bytes ≡ length (bytes ++ c ∷ missing) = is.size in
    let l : length bytes < size_in bytes = omega (arith, n, length-append x (c ∷ missing)) in
    go (nat_le 3 (length bytes)) (nat_le (size_in bytes) 4096) (nat_le (size_in bytes) (length bytes)) (le_no (size_in bytes) (length bytes) l)
  where
    go : (p q r : Bool) → r ≡ false → (p && (q && r)) ≡ false
    go true true r e = e
    go true false r e = refl
    go false q r e = refl

-- each of these sections has its first byte in the next m bytes
abbrev pub Within : ℕ → List (List ℕ) → Type 0
Within m [] = Unit {0}
Within m (s ∷ ss) = (0 < m) × Within (m - length s) ss

Within-from_begin : (n : ℕ) (ss : List (List ℕ)) → Begin n ss → Within (183 - n) ss
Within-from_begin n [] h = tt
Within-from_begin n (s ∷ ss) h = (
  let l : n < 183 = h.0 in let g : 0 < 183 - n = omega arith in g,
  subst (λ (k : ℕ). Within k ss) (let e : 183 - (n + length s) ≡ (183 - n) - length s = omega arith in e) (Within-from_begin (n + length s) ss h.1),
)

begun-none : (f m : ℕ) (later : List ℕ) → m ≤ f → begun f (filled m []) later ≡ []
begun-none zero zero later h = refl
begun-none (suc f) zero later h = refl
begun-none zero (suc m) later h = absurd (omega arith)
begun-none (suc f) (suc m) later h = refl

begun-nothing : (f : ℕ) (later : List ℕ) → begun f [] later ≡ []
begun-nothing zero later = refl
begun-nothing (suc f) later = refl

-- a section that ends in the packet, and what begins behind it
begun-step : (s J later : List ℕ) (f m : ℕ) → IsSection s → length s ≤ m → m ≤ f →
    (f' : ℕ) × (m - length s ≤ f') × (begun f (filled m (s ++ J)) later ≡ s ∷ begun f' (filled (m - length s) J) later)
begun-step [] J later f m is h k = absurd (omega (arith, is.header))
begun-step (b ∷ s) J later zero m is h k = absurd (omega arith)
begun-step (b ∷ s) J later (suc f) m is h k =
    let F = filled (m - length (b ∷ s)) J in
    let fits : m - length (b ∷ s) ≤ f = omega arith in (
      f,
      fits,
      ap (λ (x : List ℕ). begun (suc f) x later) (filled-append (b ∷ s) J m h)
          ∙ begun-section f b (s ++ F) later (b ∷ s) (F ++ later) is (is.no_fill b s refl) (append_assoc (b ∷ s) F later)
          ∙ ap (λ (x : List ℕ). (b ∷ s) ∷ begun f x later) (drop_at (b ∷ s) F (length (b ∷ s)) refl),
    )

-- a section that goes on behind the packet, and ends there
begun-over : (s later more : List ℕ) (f m : ℕ) → IsSection s → 0 < m → m < length s → m ≤ f → later ≡ drop m s ++ more → begun f (filled m s) later ≡ s ∷ []
begun-over [] later more f m is p h k e = absurd (omega (arith, is.header))
begun-over (b ∷ s) later more zero m is p h k e = absurd (omega arith)
begun-over (b ∷ s) later more (suc f) zero is p h k e = absurd (omega arith)
begun-over (b ∷ s) later more (suc f) (suc m) is p h k e =
    let H = filled (suc m) (b ∷ s) in
    let all : H ++ later ≡ (b ∷ s) ++ more =
    ap (λ (x : List ℕ). H ++ x) e ∙ sym (append_assoc H (drop (suc m) (b ∷ s)) more) ∙ ap (λ (x : List ℕ). x ++ more) (filled-cut (suc m) (b ∷ s) (omega arith)) in
    begun-section f b (filled m s) later (b ∷ s) more is (is.no_fill b s refl) all
    ∙ ap (λ (x : List ℕ). (b ∷ s) ∷ begun f x later) (drop-past (length (b ∷ s)) H (omega (arith, length-filled (suc m) (b ∷ s))))
    ∙ ap (λ (x : List (List ℕ)). (b ∷ s) ∷ x) (begun-nothing f later)

-- a section that goes on behind the packet, and does not end there
begun-short : (s later missing : List ℕ) (c f m : ℕ) → IsSection s → m < length s → drop m s ≡ later ++ c ∷ missing → begun f (filled m s) later ≡ []
begun-short [] later missing c f m is h e = absurd (omega (arith, is.header))
begun-short (b ∷ s) later missing c zero m is h e = refl
begun-short (b ∷ s) later missing c (suc f) zero is h e = refl
begun-short (b ∷ s) later missing c (suc f) (suc m) is h e =
    let H = filled (suc m) (b ∷ s) in
    let all : b ∷ s ≡ (H ++ later) ++ c ∷ missing =
    sym (filled-cut (suc m) (b ∷ s) (omega arith)) ∙ ap (λ (x : List ℕ). H ++ x) e ∙ sym (append_assoc H later (c ∷ missing)) in
    choose_else (b == 255) (is_whole (H ++ later)) [] _ [] (ne_eqb b 255 (is.no_fill b s refl)) (not_whole (H ++ later) c missing (subst IsSection all is))

-- the sections that begin in a packet are heard where the bytes left of the last follow
begun-group : (g : List (List ℕ)) (later more : List ℕ) (f m : ℕ) → AllByRecursion IsSection g → Within m g → m ≤ f → later ≡ drop m (joined g) ++ more → begun f (filled m (joined g)) later ≡ g
begun-group [] later more f m all w k e = begun-none f m later k
begun-group (s ∷ ss) later more f m all w k e = go (cut (length s) m) ss all w e (λ f' j e'. begun-group ss later more f' (m - length s) all.1 w.1 j e')
  where
    cut : (a b : ℕ) → (a ≤ b) ⊎ (b < a)
    cut a b = grind arith

    go : (length s ≤ m) ⊎ (m < length s) → (ss : List (List ℕ)) → AllByRecursion IsSection (s ∷ ss) → Within m (s ∷ ss) → later ≡ drop m (s ++ joined ss) ++ more →
        ((f' : ℕ) → m - length s ≤ f' → later ≡ drop (m - length s) (joined ss) ++ more → begun f' (filled (m - length s) (joined ss)) later ≡ ss) →
        begun f (filled m (s ++ joined ss)) later ≡ s ∷ ss
    go (inl h) ss all w e rec =
        let st = begun-step s (joined ss) later f m all.0 h k in
        st.2 ∙ ap (λ (x : List (List ℕ)). s ∷ x) (rec st.0 st.1 (e ∙ ap (λ (x : List ℕ). x ++ more) (drop-append_past s (joined ss) m h)))
    go (inr h) [] all w e rec =
        ap (λ (x : List ℕ). begun f (filled m x) later) (append-nil s)
        ∙ begun-over s later more f m all.0 w.0 h k (e ∙ ap (λ (x : List ℕ). drop m x ++ more) (append-nil s))
    go (inr h) (t ∷ ss) all w e rec = absurd (let p : 0 < m - length s = w.1.0 in omega arith)

begun-but_last : (g : List (List ℕ)) (later missing : List ℕ) (c f m : ℕ) → AllByRecursion IsSection g → Within m g → m ≤ f → drop m (joined g) ≡ later ++ c ∷ missing → begun f (filled m (joined g)) later ≡ but_last g
begun-but_last [] later missing c f m all w k e = begun-none f m later k
begun-but_last (s ∷ []) later missing c f m all w k e = go (cut (length s) m)
  where
    cut : (a b : ℕ) → (a ≤ b) ⊎ (b < a)
    cut a b = grind arith

    nothing : (x : List ℕ) → [] ≡ x ++ c ∷ missing → Prim.⊥
    nothing [] q = cc
    nothing (y ∷ x) q = cc

    go : (length s ≤ m) ⊎ (m < length s) → begun f (filled m (s ++ [])) later ≡ []
    go (inl h) = absurd (nothing later (sym (drop-past m (s ++ []) (subst (λ (x : List ℕ). length x ≤ m) (sym (append-nil s)) h)) ∙ e))
    go (inr h) = ap (λ (x : List ℕ). begun f (filled m x) later) (append-nil s)
        ∙ begun-short s later missing c f m all.0 h (ap (drop m) (sym (append-nil s)) ∙ e)
begun-but_last (s ∷ t ∷ ss) later missing c f m all w k e =
    let p : 0 < m - length s = w.1.0 in
    let h : length s ≤ m = omega arith in
    let st = begun-step s (joined (t ∷ ss)) later f m all.0 h k in
    st.2 ∙ ap (λ (x : List (List ℕ)). s ∷ x) (begun-but_last (t ∷ ss) later missing c st.0 (m - length s) all.1 w.1 st.1 (sym (drop-append_past s (joined (t ∷ ss)) m h) ∙ e))

-- what packets go on with: all that is left and maybe more, or a front of it
pub record GoesAll (rest : List ℕ) (groups : List (List (List ℕ))) : Type 0 where
  pub more : List ℕ
  pub is : goes_on (pieces rest groups) ≡ rest ++ more
  pub ended : all_of groups ≡ [] → left rest groups ≡ []

pub record GoesFront (rest : List ℕ) (groups : List (List (List ℕ))) : Type 0 where
  pub next : ℕ
  pub missing : List ℕ
  pub is : rest ≡ goes_on (pieces rest groups) ++ next ∷ missing
  pub none : all_of groups ≡ []
  pub byte : ℕ
  pub bytes : List ℕ
  pub open_left : left rest groups ≡ byte ∷ bytes

passed-rest : (rest bytes : List ℕ) → length rest < 183 → passed_over (length rest ∷ filled 183 (rest ++ bytes)) ≡ rest
passed-rest rest bytes h =
    ap (λ (b : Bool). if b then take (length rest) (filled 183 (rest ++ bytes)) else []) (le_yes (length rest) (length (filled 183 (rest ++ bytes))) (omega (arith, length-filled 183 (rest ++ bytes))))
    ∙ take-filled_front rest bytes 183 (omega arith)

reaches : (n : ℕ) (rest x : List ℕ) (c : ℕ) (missing : List ℕ) → drop n rest ≡ x ++ c ∷ missing → n ≤ length rest
reaches n rest x c missing e = omega (arith, length-drop n rest, ap length e, length-append x (c ∷ missing))

pub goes : (rest : List ℕ) (groups : List (List (List ℕ))) → HaveSectionBytes rest groups → GoesAll rest groups ⊎ GoesFront rest groups
goes [] [] h = inl (record { more = []; is = refl; ended = λ e. refl })
goes (b ∷ rest) [] h = inr (record { next = b; missing = rest; is = refl; none = refl; byte = b; bytes = rest; open_left = refl })
goes rest ([] ∷ groups) h = go (goes (drop 184 rest) groups h.1)
  where
    go : GoesAll (drop 184 rest) groups ⊎ GoesFront (drop 184 rest) groups → GoesAll rest ([] ∷ groups) ⊎ GoesFront rest ([] ∷ groups)
    go (inl a) =
        let f = filled-rest 184 rest a.more in
        inl (record { more = f.0; is = ap (λ (x : List ℕ). filled 184 rest ++ x) a.is ∙ f.1; ended = a.ended })
    go (inr a) = inr (record {
      next = a.next;
      missing = a.missing;
      is = sym (filled-cut 184 rest (reaches 184 rest (goes_on (pieces (drop 184 rest) groups)) a.next a.missing a.is))
          ∙ ap (λ (x : List ℕ). filled 184 rest ++ x) a.is ∙ sym (append_assoc (filled 184 rest) (goes_on (pieces (drop 184 rest) groups)) (a.next ∷ a.missing));
      none = a.none;
      byte = a.byte;
      bytes = a.bytes;
      open_left = a.open_left;
    })
goes rest ((s ∷ ss) ∷ groups) h =
    inl (record { more = []; is = passed-rest rest (joined (s ∷ ss)) h.0.0 ∙ sym (append-nil rest); ended = λ e. cc })

-- `ended` over what begins in one packet and in later ones
ended-append : (rest : List ℕ) (g : List (List ℕ)) (t : List ℕ) (ts : List (List ℕ)) → ended rest (g ++ t ∷ ts) ≡ g ++ ended rest (t ∷ ts)
ended-append [] g t ts = refl
ended-append (b ∷ rest) [] t ts = refl
ended-append (b ∷ rest) (x ∷ []) t ts = refl
ended-append (b ∷ rest) (x ∷ y ∷ g) t ts = ap (λ (z : List (List ℕ)). x ∷ z) (ended-append (b ∷ rest) (y ∷ g) t ts)

abbrev pub AllSections : List (List (List ℕ)) → Type 0
AllSections groups = AllByRecursion (λ (g : List (List ℕ)). AllByRecursion IsSection g) groups

-- what is heard of one start packet
heard-start : (rest s : List ℕ) (ss : List (List ℕ)) (later : List ℕ) → length rest < 183 →
    begun_in (piece_of rest (s ∷ ss)) later ≡ begun 183 (filled (183 - length rest) (joined (s ∷ ss))) later
heard-start rest s ss later h =
    let F = filled 183 (rest ++ joined (s ∷ ss)) in
    let n : length F ≡ 183 = length-filled 183 (rest ++ joined (s ∷ ss)) in
    ap (λ (b : Bool). if b then begun (length F) (drop (length rest) F) later else []) (le_yes (length rest) (length F) (omega (arith, n)))
    ∙ ap (λ (k : ℕ). begun k (drop (length rest) F) later) n
    ∙ ap (λ (x : List ℕ). begun 183 x later) (drop-filled rest (joined (s ∷ ss)) 183 (omega arith))

-- a start packet and what follows it
start : (rest s : List ℕ) (ss : List (List ℕ)) (groups : List (List (List ℕ))) → length rest < 183 → AllByRecursion IsSection (s ∷ ss) → Within (183 - length rest) (s ∷ ss) → 183 - length rest ≤ 183
    → GoesAll (left_by rest (s ∷ ss)) groups ⊎ GoesFront (left_by rest (s ∷ ss)) groups
    → (behind : List (List ℕ)) → all_of groups ≡ behind
    → heard (pieces (left_by rest (s ∷ ss)) groups) ≡ ended (left (left_by rest (s ∷ ss)) groups) (all_of groups)
    → heard (pieces rest ((s ∷ ss) ∷ groups)) ≡ ended (left (left_by rest (s ∷ ss)) groups) ((s ∷ ss) ++ all_of groups)
start rest s ss groups small all w fits (inl a) behind b ih =
    let m = 183 - length rest in
    let later = goes_on (pieces (left_by rest (s ∷ ss)) groups) in
    let first : begun_in (piece_of rest (s ∷ ss)) later ≡ s ∷ ss =
    heard-start rest s ss later small
    ∙ begun-group (s ∷ ss) later a.more 183 m all w fits (a.is ∙ ap (λ (x : List ℕ). x ++ a.more) (drop-append_past rest (joined (s ∷ ss)) 183 (omega arith))) in
    ap (λ (x : List (List ℕ)). x ++ heard (pieces (left_by rest (s ∷ ss)) groups)) first
    ∙ ap (λ (x : List (List ℕ)). (s ∷ ss) ++ x) ih ∙ join behind b
  where
    join : (behind : List (List ℕ)) → all_of groups ≡ behind →
        (s ∷ ss) ++ ended (left (left_by rest (s ∷ ss)) groups) (all_of groups) ≡ ended (left (left_by rest (s ∷ ss)) groups) ((s ∷ ss) ++ all_of groups)
    join [] e =
        let l = a.ended e in
        subst₂ (λ (x : List ℕ) (y : List (List ℕ)). (s ∷ ss) ++ ended x y ≡ ended x ((s ∷ ss) ++ y)) (sym l) (sym e) refl
    join (t ∷ ts) e = subst (λ (y : List (List ℕ)). (s ∷ ss) ++ ended (left (left_by rest (s ∷ ss)) groups) y ≡ ended (left (left_by rest (s ∷ ss)) groups) ((s ∷ ss) ++ y)) (sym e)
        (sym (ended-append (left (left_by rest (s ∷ ss)) groups) (s ∷ ss) t ts))
start rest s ss groups small all w fits (inr a) behind b ih =
    let m = 183 - length rest in
    let later = goes_on (pieces (left_by rest (s ∷ ss)) groups) in
    let first : begun_in (piece_of rest (s ∷ ss)) later ≡ but_last (s ∷ ss) =
    heard-start rest s ss later small
    ∙ begun-but_last (s ∷ ss) later a.missing a.next 183 m all w fits (sym (drop-append_past rest (joined (s ∷ ss)) 183 (omega arith)) ∙ a.is) in
    let none : heard (pieces (left_by rest (s ∷ ss)) groups) ≡ [] = ih ∙ subst₂ (λ (x : List ℕ) (y : List (List ℕ)). ended x y ≡ []) (sym a.open_left) (sym a.none) refl in
    ap (λ (x : List (List ℕ)). x ++ heard (pieces (left_by rest (s ∷ ss)) groups)) first
    ∙ ap (λ (x : List (List ℕ)). but_last (s ∷ ss) ++ x) none
    ∙ append-nil (but_last (s ∷ ss))
    ∙ subst₂ (λ (x : List ℕ) (y : List (List ℕ)). but_last (s ∷ ss) ≡ ended x ((s ∷ ss) ++ y)) (sym a.open_left) (sym a.none) (ap but_last (sym (append-nil (s ∷ ss))))

-- Of packets that carry sections, from any packet to any packet, those sections are heard that begin and end there.
pub heard-pieces : (rest : List ℕ) (groups : List (List (List ℕ))) → HaveSectionBytes rest groups → AllSections groups → heard (pieces rest groups) ≡ ended (left rest groups) (all_of groups)
heard-pieces [] [] h all = refl
heard-pieces (b ∷ rest) [] h all = refl
heard-pieces rest ([] ∷ groups) h all = heard-pieces (drop 184 rest) groups h.1 all.1
heard-pieces rest ((s ∷ ss) ∷ groups) h all =
    let small : length rest < 183 = h.0.0 in
    let fits : 183 - length rest ≤ 183 = omega arith in
    start rest s ss groups small all.0 (Within-from_begin (length rest) (s ∷ ss) h.0) fits (goes (left_by rest (s ∷ ss)) groups h.1) (all_of groups) refl
    (heard-pieces (left_by rest (s ∷ ss)) groups h.1 all.1)
