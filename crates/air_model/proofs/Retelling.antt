-- Sections that tell the time, at another moment.
use Rattle.std.proofs.Common.{◌≡◌, ℕ, ◌+◌, ◌-◌, ◌<◌, ◌≤◌, Bool, true, false, Some, List, [], ◌∷◌, ◌++◌, length, get_or, refl, sym, ap, ap₂, ◌∙◌, subst, arith, take, drop, map, append_assoc, length-append, length-drop, le-leb}
use Rattle.std.specs.Prelude.{slice_get, slice_index, flat_map, option_map, nat_le, ◌==◌, ◌&&◌, ◌||◌, if◌then◌else◌}
use Rattle.std.specs.List.{AllByRecursion, prefix_len, All}
use Rattle.std.proofs.lemmas.Bool.{eqb-true, leb-true, and_parts}
use Rattle.std.proofs.lemmas.List.{map-append, take_at, drop_at, drop-drop, length-map, length-take-le, take-append-drop, drop_more}
use Rattle.std.proofs.lemmas.List.Concat.{flat_map-append}
use Rattle.std.proofs.lemmas.List.Elements.{recursion_from_All, All-take, All-drop}
use Rattle.si_base.specs.Fields.{two, four}
use Rattle.si_base.specs.Crc.{crc_of}
use Rattle.si_time.specs.Moments.{moment_bcd}
use Rattle.si_time.proofs.RoundTrips.{length-moment_bcd}
use Rattle.guide_model.specs.declared.offset.Offset.{Offset}
use Rattle.section_codec.specs.Contents.{Content}
use Rattle.section_codec.specs.SubTables.{IsFit, header_of}
use Rattle.section_codec.specs.Tables.{has_short_form}
use Rattle.section_codec.specs.Section.{section_bytes, before_short_crc}
use Rattle.section_codec.specs.declared.table.SubTable.{SubTable}
use Rattle.time_tables.specs.Tdt.{tdt_section}
use Rattle.time_tables.specs.Tot.{tot_section}
use Rattle.time_tables.specs.LocalOffsets.{local_offsets}
use Rattle.time_tables.proofs.Loops.{length-tot_section}
use Rattle.version_book.specs.Airings.{CycleForm, AiredTables}
use Rattle.version_book.specs.Book.{aired, versions_of}
use Rattle.air_model.specs.Air.{Sent, sent_section, sections_of, tot, times, leads, before_tdt, behind_tdt, sections_once}
use Rattle.air_model.proofs.Dense.{eight}
use Rattle.air_model.specs.declared.placed.Placed.{Placed}
use Rattle.air_model.specs.Laying.{IsPlaced, sent_at, places_from, AreLaid, sections_under, cycle_under}
use Rattle.air_model.specs.Telling.{is_tdt, is_tot, with_crc, tot_retold, retold, sent_retold, laid_in, AreInLine, Retells}
use Rattle.air_model.proofs.Laid.{laid_sent}
use Rattle.air_model.proofs.Begun.{sections_given}

-- ---- a section at a moment

-- by its kind
of_tdt : (m : ℕ) (s : List ℕ) → is_tdt s ≡ true → retold m s ≡ tdt_section m
of_tdt m s e = ap (λ (b : Bool). if b then tdt_section m else if is_tot s then tot_retold m s else s) e

of_tot : (m : ℕ) (s : List ℕ) → is_tdt s ≡ false → is_tot s ≡ true → retold m s ≡ tot_retold m s
of_tot m s e f = ap₂ (λ (b c : Bool). if b then tdt_section m else if c then tot_retold m s else s) e f

of_other : (m : ℕ) (s : List ℕ) → is_tdt s ≡ false → is_tot s ≡ false → retold m s ≡ s
of_other m s e f = ap₂ (λ (b c : Bool). if b then tdt_section m else if c then tot_retold m s else s) e f

-- a TDT
is_a_tdt : (m : ℕ) → is_tdt (tdt_section m) ≡ true
is_a_tdt m = ap (λ (n : ℕ). n == 8 && slice_index (tdt_section m) 0 == 0x70) (eight m)

retold-tdt : (m n : ℕ) → retold m (tdt_section n) ≡ tdt_section m
retold-tdt m n = of_tdt m (tdt_section n) (is_a_tdt n)

-- a TOT, by its parts: its header, UTC_time, what follows it, and the CRC
module _ (h t r c : List ℕ) (three : length h ≡ 3) (five : length t ≡ 5) (last : length c ≡ 4) where
  abbrev whole : List ℕ
  whole = (h ++ (t ++ r)) ++ c

  cut : whole ≡ h ++ (t ++ (r ++ c))
  cut = append_assoc h (t ++ r) c ∙ ap (λ (l : List ℕ). h ++ l) (append_assoc t r c)

  size : length whole ≡ 12 + length r
  size = omega (arith, length-append (h ++ (t ++ r)) c, length-append h (t ++ r), length-append t r)

  header : take 3 whole ≡ h
  header = ap (take 3) cut ∙ take_at h (t ++ (r ++ c)) 3 three

  behind : drop 8 whole ≡ r ++ c
  behind = sym (drop-drop 5 3 whole) ∙ ap (λ (l : List ℕ). drop 5 (drop 3 l)) cut ∙ ap (drop 5) (drop_at h (t ++ (r ++ c)) 3 three) ∙ drop_at t (r ++ c) 5 five

  retold-parts : (m : ℕ) → tot_retold m whole ≡ with_crc (h ++ (moment_bcd m ++ r))
  retold-parts m =
      let n : length whole - 12 ≡ length r = omega (arith, size) in
      ap₂ (λ (x y : List ℕ). with_crc (x ++ (moment_bcd m ++ y))) header (ap₂ (λ (k : ℕ) (l : List ℕ). take k l) n behind ∙ take_at r c (length r) refl)

four_bytes : (n : ℕ) → length (four n) ≡ 4
four_bytes n = refl

retold-tot : (m n : ℕ) (offsets : List Offset) → retold m (tot_section n offsets) ≡ tot_section m offsets
retold-tot m n offsets =
    of_tot m (tot_section n offsets) (ap (λ (k : ℕ). k == 8 && false) refl ∙ none (length (tot_section n offsets) == 8)) (ap (λ (b : Bool). b && true) (le-leb 14 (length (tot_section n offsets)) (omega (arith, length-tot_section n offsets))))
    ∙ retold-parts (head n) (moment_bcd n) rest (four (crc_of (before n))) refl (length-moment_bcd n) (four_bytes (crc_of (before n))) m
    ∙ ap (λ (l : List ℕ). with_crc (l ++ (moment_bcd m ++ rest))) heads
  where
    none : (b : Bool) → (b && false) ≡ false
    none true = refl
    none false = refl

    rest : List ℕ
    rest = two (0xF000 + length (local_offsets offsets)) ++ local_offsets offsets

    body : ℕ → List ℕ
    body k = moment_bcd k ++ rest

    before : ℕ → List ℕ
    before k = before_short_crc 0x73 (body k)

    head : ℕ → List ℕ
    head k = 0x73 ∷ two (0x7000 + (4 + length (body k)))

    heads : head n ≡ head m
    heads = ap (λ (k : ℕ). 0x73 ∷ two (0x7000 + (4 + k))) (let e : length (body n) ≡ length (body m) = omega (arith, length-append (moment_bcd n) rest, length-append (moment_bcd m) rest, length-moment_bcd n, length-moment_bcd m) in e)

-- what was told before makes no difference
-- its first byte
no_tdt : (a : ℕ) (b : Bool) → (a == 0x73) ≡ true → (b && (a == 0x70)) ≡ false
no_tdt a true e = ap (λ (n : ℕ). n == 0x70) (eqb-true a 0x73 e)
no_tdt a false e = refl

tot-again : (m n : ℕ) (s : List ℕ) → is_tot s ≡ true → retold m (tot_retold n s) ≡ tot_retold m s
tot-again m n [] e = absurd (let no : false ≡ true → ⊥ = λ f. cc in no e)
tot-again m n (a ∷ []) e = absurd (let no : false ≡ true → ⊥ = λ f. cc in no e)
tot-again m n (a ∷ b ∷ []) e = absurd (let no : false ≡ true → ⊥ = λ f. cc in no e)
tot-again m n (a ∷ b ∷ c ∷ s) e =
    let old : List ℕ = a ∷ b ∷ c ∷ s in
    let parts = and_parts (nat_le 14 (length old)) (a == 0x73) e in
    let long : 14 ≤ length old = leb-true 14 (length old) parts.0 in
    let h : List ℕ = a ∷ b ∷ c ∷ [] in
    let t = moment_bcd n in
    let r = take (length old - 12) (drop 8 old) in
    let crc = four (crc_of (h ++ (t ++ r))) in
    let new = (h ++ (t ++ r)) ++ crc in
    let some : length r ≡ length old - 12 = length-take-le (length old - 12) (drop 8 old) (omega (arith, length-drop 8 old)) in
    let all : length new ≡ 12 + length r = size h t r crc refl (length-moment_bcd n) refl in
    of_tot m new (no_tdt a (length new == 8) parts.1)
    (ap₂ (λ (x y : Bool). x && y) (le-leb 14 (length new) (omega arith)) parts.1)
    ∙ retold-parts h t r crc refl (length-moment_bcd n) refl m

pub retold-again : (m n : ℕ) (s : List ℕ) → retold m (retold n s) ≡ retold m s
retold-again m n s = go (is_tdt s) refl (is_tot s) refl
  where
    go : (b : Bool) → is_tdt s ≡ b → (c : Bool) → is_tot s ≡ c
        → retold m (if b then tdt_section n else if c then tot_retold n s else s) ≡ (if b then tdt_section m else if c then tot_retold m s else s)
    go true e c f = retold-tdt m n
    go false e true f = tot-again m n s f
    go false e false f = of_other m s e f

-- its bytes stay as many
pub length-retold : (m : ℕ) (s : List ℕ) → length (retold m s) ≡ length s
length-retold m s = go (is_tdt s) refl (is_tot s) refl
  where
    go : (b : Bool) → is_tdt s ≡ b → (c : Bool) → is_tot s ≡ c → length (if b then tdt_section m else if c then tot_retold m s else s) ≡ length s
    go true e c f = eight m ∙ sym (eqb-true (length s) 8 (and_parts (length s == 8) (slice_index s 0 == 0x70) e).0)
    go false e true f =
        let long : 14 ≤ length s = leb-true 14 (length s) (and_parts (nat_le 14 (length s)) (slice_index s 0 == 0x73) f).0 in
        let h = take 3 s in
        let r = take (length s - 12) (drop 8 s) in
        let three : length h ≡ 3 = length-take-le 3 s (omega arith) in
        let some : length r ≡ length s - 12 = length-take-le (length s - 12) (drop 8 s) (omega (arith, length-drop 8 s)) in
        size h (moment_bcd m) r (four (crc_of (h ++ (moment_bcd m ++ r)))) three (length-moment_bcd m) refl ∙ omega arith
    go false e false f = refl

-- ---- the sections of a cycle

-- those of sub-tables stay
other : (l k b c : Bool) (x y z : List ℕ) → (b || c) ≡ false → (if l && b then x else if k && c then y else z) ≡ z
other l k true c x y z e = absurd (let no : true ≡ false → ⊥ = λ f. cc in no e)
other l k false true x y z e = absurd (let no : true ≡ false → ⊥ = λ f. cc in no e)
other true true false false x y z e = refl
other true false false false x y z e = refl
other false true false false x y z e = refl
other false false false false x y z e = refl

retold-sections : (m v : ℕ) (t : SubTable) (ss : Content) → has_short_form t.key.table ≡ false → map (sent_retold m) (map (sent_section v t) ss) ≡ map (sent_section v t) ss
retold-sections m v t [] long = refl
retold-sections m v t (s ∷ ss) long =
    let bytes = section_bytes (header_of v t s) s.body in
    ap₂ (λ (b : List ℕ) (l : List Sent). record { pid = t.key.pid; bytes = b } ∷ l)
    (other (length bytes == 8) (nat_le 14 (length bytes)) (t.key.table == 0x70) (t.key.table == 0x73) (tdt_section m) (tot_retold m bytes) bytes long)
    (retold-sections m v t ss long)

retold-under : (m : ℕ) (vs : List ℕ) (ts : List SubTable) → AllByRecursion IsFit ts → map (sent_retold m) (sections_under vs ts) ≡ sections_under vs ts
retold-under m [] ts fit = refl
retold-under m (v ∷ vs) [] fit = refl
retold-under m (v ∷ vs) (t ∷ ts) fit =
    map-append (sent_retold m) (sections_of v t) (sections_under vs ts) ∙ ap₂ (λ (x y : List Sent). x ++ y) (retold-sections m v t t.sections fit.0.long) (retold-under m vs ts fit.1)

retold-times : (m n : ℕ) (form : CycleForm) → map (sent_retold m) (times form n) ≡ times form m
retold-times m n form = ap₂ (λ (b : List ℕ) (l : List Sent). record { pid = 0x0014; bytes = b } ∷ l) (retold-tdt m n) (go form.offsets)
  where
    go : (offsets : List Offset) → map (sent_retold m) (tot n offsets) ≡ tot m offsets
    go [] = refl
    go (o ∷ offsets) = ap (λ (b : List ℕ). record { pid = 0x0014; bytes = b } ∷ []) (retold-tot m n (o ∷ offsets))

retold-cycle : (m n : ℕ) (vs : List ℕ) (ts : List SubTable) (form : CycleForm) → All IsFit ts → map (sent_retold m) (cycle_under vs ts (times form n)) ≡ cycle_under vs ts (times form m)
retold-cycle m n vs ts form fit =
    let k = prefix_len leads ts in
    let front = sections_under (take k vs) (before_tdt ts) in
    let back = sections_under (drop k vs) (behind_tdt ts) in
    map-append (sent_retold m) front (times form n ++ back)
    ∙ ap₂ (λ (x y : List Sent). x ++ y) (retold-under m (take k vs) (before_tdt ts) (recursion_from_All IsFit (before_tdt ts) (All-take IsFit k ts fit)))
    (map-append (sent_retold m) (times form n) back ∙ ap₂ (λ (x y : List Sent). x ++ y) (retold-times m n form) (retold-under m (drop k vs) (behind_tdt ts) (recursion_from_All IsFit (behind_tdt ts) (All-drop IsFit k ts fit))))

-- so laid ones, at each moment
pub laid_told : (past : List AiredTables) (m n : ℕ) (form : CycleForm) (vs : List ℕ) (ts : List SubTable) (bytes : List ℕ) (placed : List Placed) → AreLaid (cycle_under vs ts (times form n)) bytes placed
    → All IsFit ts → vs ≡ versions_of past ts m form → map (sent_retold m) (laid_in bytes placed) ≡ sections_once past (aired ts m form)
laid_told past m n form vs ts bytes placed h fit is =
    ap (map (sent_retold m)) (laid_sent (cycle_under vs ts (times form n)) bytes placed h) ∙ retold-cycle m n vs ts form fit
    ∙ ap (λ (l : List ℕ). cycle_under l ts (times form m)) is ∙ sections_given past m form ts

-- ---- one of them, written over

abbrev sum_of : List Sent → List ℕ
sum_of ss = flat_map (λ (s : Sent). s.bytes) ss

sum-split : (front back : List Sent) (s : Sent) → sum_of (front ++ s ∷ back) ≡ sum_of front ++ (s.bytes ++ sum_of back)
sum-split front back s = flat_map-append (λ (x : Sent). x.bytes) front (s ∷ back)

-- its place, among others
place_there : (n : ℕ) (front back : List Sent) (s : Sent) (d : Placed)
    → get_or (places_from n (front ++ s ∷ back)) (length front) d ≡ record { pid = s.pid; start = n + length (sum_of front); len = length s.bytes }
place_there n [] back s d = ap (λ (k : ℕ). let p : Placed = record { pid = s.pid; start = k; len = length s.bytes } in p) (let e : n ≡ n + 0 = omega arith in e)
place_there n (x ∷ front) back s d =
    place_there (n + length x.bytes) front back s d
    ∙ ap (λ (k : ℕ). let p : Placed = record { pid = s.pid; start = k; len = length s.bytes } in p)
    (let e : n + length x.bytes + length (sum_of front) ≡ n + length (x.bytes ++ sum_of front) = omega (arith, length-append x.bytes (sum_of front)) in e)

-- places depend on PIDs and lengths
places_same : (n : ℕ) (front back : List Sent) (s : Sent) (bytes : List ℕ) → length bytes ≡ length s.bytes
    → places_from n (front ++ s ∷ back) ≡ places_from n (front ++ record { pid = s.pid; bytes = bytes } ∷ back)
places_same n [] back s bytes e = ap (λ (k : ℕ). record { pid = s.pid; start = n; len = k } ∷ places_from (n + k) back) (sym e)
places_same n (x ∷ front) back s bytes e = ap (λ (l : List Placed). record { pid = x.pid; start = n; len = length x.bytes } ∷ l) (places_same (n + length x.bytes) front back s bytes e)

got_there : (front back : List Sent) (s : Sent) → slice_get (front ++ s ∷ back) (length front) ≡ Some s
got_there [] back s = refl
got_there (x ∷ front) back s = got_there front back s

-- what is known after it
pub record Told (moment at : ℕ) (bytes after : List ℕ) (placed : List Placed) : Type 0 where
  pub told : Retells moment at (laid_in bytes placed) (laid_in after placed)
  pub line : AreInLine after placed

module _ (m : ℕ) (front back : List Sent) (s : Sent) (bytes after : List ℕ) (placed : List Placed) (line : AreInLine bytes placed) (are : laid_in bytes placed ≡ front ++ s ∷ back) where
  abbrev new : Sent
  new = sent_retold m s

  bytes_are : bytes ≡ sum_of front ++ (s.bytes ++ sum_of back)
  bytes_are = line.laid.bytes_are ∙ ap sum_of are ∙ sum-split front back s

  parted : (start len : ℕ) → start ≡ length (sum_of front) → len ≡ length s.bytes
      → take start bytes ++ (retold m (take len (drop start bytes)) ++ drop len (drop start bytes)) ≡ sum_of front ++ (retold m s.bytes ++ sum_of back)
  parted start len at size =
      let first : take start bytes ≡ sum_of front = ap (take start) bytes_are ∙ take_at (sum_of front) (s.bytes ++ sum_of back) start (sym at) in
      let rest : drop start bytes ≡ s.bytes ++ sum_of back = ap (drop start) bytes_are ∙ drop_at (sum_of front) (s.bytes ++ sum_of back) start (sym at) in
      ap₂ (λ (x y : List ℕ). x ++ (retold m (take len y) ++ drop len y)) first rest
      ∙ ap₂ (λ (x y : List ℕ). sum_of front ++ (retold m x ++ y)) (take_at s.bytes (sum_of back) len (sym size)) (drop_at s.bytes (sum_of back) len (sym size))

  tells_one : after ≡ sum_of front ++ (retold m s.bytes ++ sum_of back) → Told m (length front) bytes after placed
  tells_one after_is =
      let ss = front ++ new ∷ back in
      let laid : AreLaid ss after placed = record {
        bytes_are = after_is ∙ sym (sum-split front back new);
        placed_are = line.laid.placed_are ∙ ap (places_from 0) are ∙ places_same 0 front back s (retold m s.bytes) (length-retold m s.bytes);
      } in
      let all : laid_in after placed ≡ ss = laid_sent ss after placed laid in
      let long : length bytes ≡ length after =
      ap length bytes_are
      ∙ omega (
        arith,
        length-append (sum_of front) (s.bytes ++ sum_of back),
        length-append s.bytes (sum_of back),
        length-append (sum_of front) (retold m s.bytes ++ sum_of back),
        length-append (retold m s.bytes) (sum_of back),
        length-retold m s.bytes,
        ap length after_is,
      ) in
      record {
        told = record {
          here = ap (λ (l : List Sent). slice_get l (length front)) all ∙ got_there front back new
              ∙ sym (ap (λ (l : List Sent). option_map (sent_retold m) (slice_get l (length front))) are ∙ ap (option_map (sent_retold m)) (got_there front back s));
          others = λ k. ap (map (sent_retold k)) all ∙ map-append (sent_retold k) front (new ∷ back)
              ∙ ap (λ (b : List ℕ). map (sent_retold k) front ++ record { pid = s.pid; bytes = b } ∷ map (sent_retold k) back) (retold-again k m s.bytes)
              ∙ sym (ap (map (sent_retold k)) are ∙ map-append (sent_retold k) front (s ∷ back));
        };
        line = record {
          laid = subst (λ (l : List Sent). AreLaid l after placed) (sym all) laid;
          each = subst (λ (n : ℕ). AllByRecursion (IsPlaced n) placed) long line.each;
        };
      }

pub tells : (m at : ℕ) (bytes after : List ℕ) (placed : List Placed) (p : Placed) → AreInLine bytes placed → at < length placed → p ≡ get_or placed at p
    → after ≡ take p.start bytes ++ (retold m (take p.len (drop p.start bytes)) ++ drop p.len (drop p.start bytes)) → Told m at bytes after placed
tells m at bytes after placed p line lt is after_is =
    let ss = laid_in bytes placed in
    let many : length ss ≡ length placed = length-map placed (sent_at bytes) in
    let none : Sent = record { pid = 0; bytes = [] } in
    let front = take at ss in
    let s = get_or ss at none in
    let back = drop (at + 1) ss in
    let are : ss ≡ front ++ s ∷ back = sym (take-append-drop at ss) ∙ ap (λ (l : List Sent). front ++ l) (drop_more ss at none (omega arith)) in
    let place : length front ≡ at = length-take-le at ss (omega arith) in
    let there : p ≡ record { pid = s.pid; start = 0 + length (sum_of front); len = length s.bytes } =
    is ∙ ap₂ (λ (l : List Placed) (n : ℕ). get_or l n p) (line.laid.placed_are ∙ ap (places_from 0) are) (sym place) ∙ place_there 0 front back s p in
    subst (λ (n : ℕ). Told m n bytes after placed) place
    (tells_one m front back s bytes after placed line are (after_is ∙ parted m front back s bytes after placed line are p.start p.len (ap (λ (q : Placed). q.start) there ∙ (let e : 0 + length (sum_of front) ≡ length (sum_of front) = omega arith in e)) (ap (λ (q : Placed). q.len) there)))
